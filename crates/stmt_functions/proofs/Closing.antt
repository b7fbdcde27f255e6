-- A function is finished: what it returns at its end, its record, its level is left, and the closure of it.
use Rattle.steps.specs.Why.{Step}
use Rattle.std.specs.Prelude.{Ok, Err}
use mathlib.Core.Path.{◌≡◌, refl, sym, ap, ap₂, subst, ◌∙◌}
use mathlib.Core.List.{List, ◌∷◌, ◌++◌, []}
use mathlib.Core.Logic.{⊎_elim}
use Prim.Native.Nat.{ℕ, suc, ◌+◌, ◌*◌, ◌-◌, ◌≤◌, ◌<◌}
use native.Mathlib.Omega.{arith}
use native.Mathlib.Nat.{eq-or-lt_of_le}
use native.Mathlib.Numerals.{add-one}
use lib.ListN.{length, get_or, length-append}
use Rattle.rules.specs.declared.Span.{Span}
use Rattle.rules.specs.Chunk.{ObjectFunction}
use Rattle.rules.specs.Compiler.{Upvalue, Compiler, ok, err, finish, emit_closure, implicit_return, end_ctx, end_function}
use Rattle.state.specs.Layout.{levels, image_at, start_of_code, end_of_code, upvalues_of, depth_place, code_from_place, type_place, level_words}
use Rattle.state.specs.Meaning.{Closed as LevelLeft}
use Rattle.state.proofs.Laws.{upvalues_same}
use Rattle.steps.specs.View.{Mem, mem, t_of, Rest, view, Agrees, Fit, code_len, depth_at, steady, Gave, DidAs, Did, Left, finished}
use Rattle.steps.proofs.Steps.{stuck, seq_ok, seq_err, bind_ok}
use Rattle.step_scopes.proofs.Scopes.{left}
use Rattle.stmt_output_laws.specs.Parts.{close_function}
use Rattle.stmt_output_laws.specs.Output.{more}
use Rattle.stmt_functions.specs.Functions.{function_at, Filed, Finished, FunctionClosedAs, FunctionClosed}
use Rattle.stmt_functions.proofs.Records.{fit_same, view_same}
use Rattle.rules.specs.declared.Stopped.{Stopped}
use Rattle.steps.specs.declared.Why.{Why}

-- ## The end of a function

module _ (limit : ℕ) (span : Span) (x : Compiler) where
  close_first : {r : Stopped} → implicit_return limit x ≡ err r → close_function limit span x ≡ err r
  unfolding close_function
  close_first e = seq_err (implicit_return limit) x _ e

  close_then : {y z : Compiler} {number : ℕ} {us : List Upvalue} → implicit_return limit x ≡ ok tt y → end_ctx y ≡ ok (number, us) z → close_function limit span x
      ≡ emit_closure limit number us span z
  unfolding close_function end_function
  close_then {y} e f = seq_ok (implicit_return limit) x _ e ∙ bind_ok end_ctx y _ f

-- where a level's code is no shorter than it was
no_shorter : (a b f g : ℕ) → f ≤ a → g ≤ b → g ≡ f → a - f ≤ b - g → a ≤ b
no_shorter a b f g h i e k = omega arith

module _ (class limit l : ℕ) (span : Span) (before : Mem) where
  pub closed_first : {n k : ℕ} {now : Mem} {out out' : List ℕ} {a : Step} {x : Why} → Did class limit (suc l) k steady (implicit_return limit) before now a → a ≡ Err x
      → FunctionClosed class limit l n span before out now out' a
  closed_first {n} {now = now} {out} {out'} d q = record {
    does = subst (λ (s : Step). FunctionClosedAs class limit l n span before out now out' s) (sym q) (λ rest h. close_first limit span (view before (suc l) rest) ((stuck d q).refuses rest h));
  }

  module _ (t₁ code₁ spans₁ out t₂ out' t₃ : List ℕ) (low : suc l < levels) (g : Gave class limit (suc l) steady (implicit_return limit) tt before (mem t₁ code₁ spans₁))
      (f : Filed (suc l) t₁ code₁ spans₁ out t₂ out') (c : LevelLeft t₂ t₃ (suc l)) where
    abbrev done : ObjectFunction
    done = function_at t₁ code₁ spans₁ (suc l)

    fit₁ : Fit (mem t₁ code₁ spans₁) (suc l) limit
    fit₁ = g.ahead.fit

    outside : Left (suc l) t₂ t₃
    outside = left (suc l) t₂ t₃ (omega arith) low f.wf c

    one_less : suc l - 1 ≡ l
    one_less = omega arith

    pub fit_after : Fit (mem t₃ code₁ spans₁) l limit
    fit_after = subst (λ (k : ℕ). Fit (mem t₃ code₁ spans₁) k limit) one_less (outside.fit code₁ spans₁ (fit_same t₁ t₂ f.kept f.wf fit₁))

    -- the words of the levels, from where the function was finished to where its level is left
    word_after : (k o : ℕ) → k < levels → o < level_words → get_or t₃ (k * level_words + o) 0 ≡ get_or t₁ (k * level_words + o) 0
    word_after k o a b = c.kept.below _ (omega arith) ∙ f.kept _ (omega arith)

    image_after : (i : ℕ) → image_at ≤ i → get_or t₃ i 0 ≡ get_or t₂ i 0
    image_after i h = c.kept.above i h

    rest_after : (rest : Rest) → finished (mem t₂ code₁ spans₁) (suc l) rest ≡ more (done ∷ []) rest
    unfolding function_at view
    rest_after rest =
        let e = view_same t₁ t₂ f.kept code₁ spans₁ (suc l) rest fit₁.wf low in
        ap (λ (x : Compiler). record { classes = rest.classes; functions = rest.functions ++ (finish x.ctx ∷ []) }) e

    upvalues_after : upvalues_of t₂ (suc l) ≡ upvalues_of t₃ (suc l)
    upvalues_after = sym (upvalues_same t₂ t₃ (suc l) (f.wf.few_upvalues (suc l) low) (λ o a b. c.kept.below _ (omega arith)))

    leaves : (rest : Rest) → end_ctx (view (mem t₁ code₁ spans₁) (suc l) rest) ≡ ok (length rest.functions, upvalues_of t₃ (suc l)) (view (mem t₃ code₁ spans₁) l (more (done ∷ []) rest))
    leaves rest =
        ap end_ctx (sym (view_same t₁ t₂ f.kept code₁ spans₁ (suc l) rest fit₁.wf low)) ∙ outside.comes code₁ spans₁ rest
        ∙ ap₂ (λ (us : List Upvalue) (k : ℕ). ok (length rest.functions, us) (view (mem t₃ code₁ spans₁) k (finished (mem t₂ code₁ spans₁) (suc l) rest))) upvalues_after one_less
        ∙ ap (λ (z : Rest). ok (length rest.functions, upvalues_of t₃ (suc l)) (view (mem t₃ code₁ spans₁) l z)) (rest_after rest)

    agrees_after : (rest : Rest) → Agrees class before rest → Agrees class (mem t₃ code₁ spans₁) (more (done ∷ []) rest)
    agrees_after rest h =
        let a = g.agrees rest h in
        record {
          innermost = a.innermost;
          made = length-append rest.functions (done ∷ []) ∙ ap (λ (k : ℕ). k + 1) a.made ∙ sym (image_after image_at (omega arith) ∙ f.count);
        }

    module _ (number : ℕ) (is : number ≡ get_or t₁ image_at 0) where
      comes_to : (rest : Rest) → Agrees class before rest
          → close_function limit span (view before (suc l) rest) ≡ emit_closure limit number (upvalues_of t₃ (suc l)) span (view (mem t₃ code₁ spans₁) l (more (done ∷ []) rest))
      comes_to rest h =
          close_then limit span (view before (suc l) rest) (g.comes rest h) (leaves rest)
          ∙ ap (λ (k : ℕ). emit_closure limit k (upvalues_of t₃ (suc l)) span (view (mem t₃ code₁ spans₁) l (more (done ∷ []) rest))) ((g.agrees rest h).made ∙ sym is)

      module _ {t₄ code₄ spans₄ : List ℕ} (e : Gave class limit l steady (emit_closure limit number (upvalues_of t₃ (suc l)) span) tt (mem t₃ code₁ spans₁) (mem t₄ code₄ spans₄)) where
        up_to : start_of_code (t_of before) (suc l) ≤ end_of_code t₄
        unfolding code_len
        up_to =
            let h = no_shorter (end_of_code t₃) (end_of_code t₄) (start_of_code t₃ l) (start_of_code t₄ l) fit_after.coded.top e.ahead.fit.coded.top
            (e.ahead.head code_from_place (omega arith) (omega arith)) e.ahead.up in
            omega (arith, c.code, f.kept (suc l * level_words + code_from_place) (omega arith), g.ahead.head code_from_place (omega arith) (omega arith))

        -- of the level itself
        under_own : (o : ℕ) → depth_place ≤ o → o ≤ type_place → get_or t₄ (l * level_words + o) 0 ≡ get_or t₃ (l * level_words + o) 0
        unfolding depth_at
        under_own o a b =
            ⊎_elim (λ (q : depth_place ≡ o). subst (λ (j : ℕ). get_or t₄ (l * level_words + j) 0 ≡ get_or t₃ (l * level_words + j) 0) q e.ahead.deep)
            (λ (q : depth_place < o). e.ahead.head o (omega arith) b) (eq-or-lt_of_le a)

        under_last : (k o : ℕ) → k ≤ l → depth_place ≤ o → o ≤ type_place → get_or t₄ (k * level_words + o) 0 ≡ get_or t₃ (k * level_words + o) 0
        under_last k o h a b =
            ⊎_elim (λ (q : k ≡ l). subst (λ (j : ℕ). get_or t₄ (j * level_words + o) 0 ≡ get_or t₃ (j * level_words + o) 0) (sym q) (under_own o a b))
            (λ (q : k < l). e.ahead.under k o q a b) (eq-or-lt_of_le h)

        under_all : (k o : ℕ) → k ≤ l → depth_place ≤ o → o ≤ type_place → get_or t₄ (k * level_words + o) 0 ≡ get_or (t_of before) (k * level_words + o) 0
        under_all k o h a b = under_last k o h a b ∙ word_after k o (omega arith) (omega arith) ∙ g.ahead.under k o (omega arith) a b

        beyond_all : (i : ℕ) → image_at ≤ i → get_or t₄ i 0 ≡ get_or t₂ i 0
        beyond_all i h = e.ahead.beyond refl i h ∙ image_after i h

        first_words : (i : ℕ) → image_at ≤ i → get_or t₁ i 0 ≡ get_or (t_of before) i 0
        first_words i h = g.ahead.beyond refl i h

        complete : Finished class limit l span before out (mem t₄ code₄ spans₄) out'
        complete = record {
          function = done;
          comes = λ rest h. comes_to rest h ∙ e.comes (more (done ∷ []) rest) (agrees_after rest h);
          agrees = λ rest h. e.agrees (more (done ∷ []) rest) (agrees_after rest h);
          fit = e.ahead.fit;
          up = up_to;
          under = under_all;
          put = λ functions h.
              let k = f.put functions (record { bytes = h.bytes; long = first_words (image_at + 1) (omega arith) ∙ h.long; counted = h.counted }) in
              record { bytes = k.bytes; long = beyond_all (image_at + 1) (omega arith) ∙ k.long; counted = k.counted };
          count = beyond_all image_at (omega arith) ∙ f.count ∙ ap (λ (k : ℕ). k + 1) (first_words image_at (omega arith));
          bytes = omega (arith, beyond_all (image_at + 1) (omega arith), f.bytes, first_words (image_at + 1) (omega arith));
        }

      last_as : (n : ℕ) (t₄ code₄ spans₄ : List ℕ) (r : Step) → DidAs class limit l n steady (emit_closure limit number (upvalues_of t₃ (suc l)) span) (mem t₃ code₁ spans₁) (mem t₄ code₄ spans₄) r
          → FunctionClosedAs class limit l n span before out (mem t₄ code₄ spans₄) out' r
      last_as n t₄ code₄ spans₄ (Ok v) d = (complete d.0, d.1)
      last_as n t₄ code₄ spans₄ (Err x) d = λ rest h. comes_to rest h ∙ d.refuses (more (done ∷ []) rest) (agrees_after rest h)

      pub closed_last : {n : ℕ} {t₄ code₄ spans₄ : List ℕ} {r : Step} → Did class limit l n steady (emit_closure limit number (upvalues_of t₃ (suc l)) span)
          (mem t₃ code₁ spans₁) (mem t₄ code₄ spans₄) r
          → FunctionClosed class limit l n span before out (mem t₄ code₄ spans₄) out' r
      closed_last {n} {t₄} {code₄} {spans₄} {r} d = record { does = last_as n t₄ code₄ spans₄ r d.does }

-- ## The same where the level above is called l + 1, as the code does

module _ (limit l : ℕ) (span : Span) (before : Mem) where
  pub closed_first_at : {class n k : ℕ} {now : Mem} {out out' : List ℕ} {a : Step} {x : Why} → Did class limit (l + 1) k steady (implicit_return limit) before now a → a ≡ Err x
      → FunctionClosed class limit l n span before out now out' a
  closed_first_at {class} {n} {k} {now} {a = a} d q = closed_first class limit l span before (subst (λ (j : ℕ). Did class limit j k steady (implicit_return limit) before now a) (add-one l) d) q

  module _ (t₁ code₁ spans₁ out t₂ out' t₃ : List ℕ) where
    pub fit_after_at : {class : ℕ} → l + 1 < levels → Gave class limit (l + 1) steady (implicit_return limit) tt before (mem t₁ code₁ spans₁) → Filed (l + 1) t₁ code₁ spans₁ out t₂ out'
        → LevelLeft t₂ t₃ (l + 1) → Fit (mem t₃ code₁ spans₁) l limit
    fit_after_at {class} =
        subst (λ (j : ℕ). j < levels → Gave class limit j steady (implicit_return limit) tt before (mem t₁ code₁ spans₁) → Filed j t₁ code₁ spans₁ out t₂ out' →
        LevelLeft t₂ t₃ j → Fit (mem t₃ code₁ spans₁) l limit)
        (sym (add-one l)) (λ low g f c. fit_after class limit l span before t₁ code₁ spans₁ out t₂ out' t₃ low g f c)

    pub closed_last_at : {class n : ℕ} {t₄ code₄ spans₄ : List ℕ} {r : Step} (number : ℕ) → number ≡ get_or t₁ image_at 0 → l + 1 < levels
        → Gave class limit (l + 1) steady (implicit_return limit) tt before (mem t₁ code₁ spans₁) → Filed (l + 1) t₁ code₁ spans₁ out t₂ out' → LevelLeft t₂ t₃ (l + 1)
        → Did class limit l n steady (emit_closure limit number (upvalues_of t₃ (l + 1)) span) (mem t₃ code₁ spans₁) (mem t₄ code₄ spans₄) r
        → FunctionClosed class limit l n span before out (mem t₄ code₄ spans₄) out' r
    closed_last_at {class} {n} {t₄} {code₄} {spans₄} {r} number is =
        subst (λ (j : ℕ). j < levels → Gave class limit j steady (implicit_return limit) tt before (mem t₁ code₁ spans₁) → Filed j t₁ code₁ spans₁ out t₂ out' → LevelLeft t₂ t₃ j
        → Did class limit l n steady (emit_closure limit number (upvalues_of t₃ j) span) (mem t₃ code₁ spans₁) (mem t₄ code₄ spans₄) r → FunctionClosed class
        limit l n span before out (mem t₄ code₄ spans₄) out' r)
        (sym (add-one l)) (λ low g f c d. closed_last class limit l span before t₁ code₁ spans₁ out t₂ out' t₃ low g f c number is d)
