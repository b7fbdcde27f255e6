-- Classes that must be around, and returns with no value.
use Prim.Native.Nat.{ℕ, zero, suc, ◌+◌, ◌*◌, ◌-◌, ◌≤◌, ◌<◌}
use native.Mathlib.Omega.{arith}
use mathlib.Core.Path.{◌≡◌, refl, sym, ap, ◌∙◌}
use mathlib.Core.Bool.{Bool, true, false}
use mathlib.Core.List.{List, ◌∷◌, ◌++◌, []}
use mathlib.Core.Option.{none}
use lib.ListN.{get_or}
use lib.Dec.{eqb}
use Rattle.std.specs.Prelude.{if◌then◌else◌}
use Rattle.rules.specs.Answer.{NO_SPAN}
use Rattle.rules.specs.Op as op
use Rattle.rules.specs.declared.Span.{Span}
use Rattle.rules.specs.declared.Refusal.TheVariants.{SuperOutsideClass, SuperWithoutSuperclass}
use Rattle.rules.specs.Compiler.{Compiler, ok, err, go_on, ◌>>=◌, done, return, refuse, need, the, stopped, innermost_has_super, need_super, ends_in_return, emit_op, emit_op_u8, compile_value, return_value, compile_return, implicit_return}
use Rattle.state.specs.Layout.{row, type_of, start_of_code, end_of_code, chunk_at, ctx_at, type_place, level_words}
use Rattle.state.proofs.Laws.{row_snoc}
use Rattle.steps.specs.View.{Mem, mem, t_of, Rest, view, top_class, Fit, steady, Refused, DidAs, Did, Told, Judged, Ending}
use Rattle.steps.specs.Why.{Step}
use Rattle.std.specs.Prelude.{Ok, Err}
use Rattle.steps.proofs.Steps.{next, stop, refuses_in}
use Rattle.steps.proofs.Jumps.{ahead_none}
use Rattle.steps.specs.Why.{return_outside_function, super_outside_class, super_without_superclass, refusal_of, told}

-- ## `super`

needs_is : (span : Span) (m : Mem) (l : ℕ) (rest : Rest) → need_super span (view m l rest) ≡ innermost_has_super rest.classes span (view m l rest)
unfolding need_super ◌>>=◌ the go_on view
needs_is span (mem t code spans) l rest = refl

has_none : (cs : List Bool) (span : Span) (x : Compiler) → top_class cs ≡ 0 → innermost_has_super cs span x ≡ err (stopped (SuperOutsideClass span) x)
unfolding innermost_has_super refuse
has_none [] span x e = refl
has_none (true ∷ cs) span x e = absurd (omega arith)
has_none (false ∷ cs) span x e = absurd (omega arith)

has_plain : (cs : List Bool) (span : Span) (x : Compiler) → top_class cs ≡ 1 → innermost_has_super cs span x ≡ err (stopped (SuperWithoutSuperclass span) x)
unfolding innermost_has_super need
has_plain [] span x e = absurd (omega arith)
has_plain (true ∷ cs) span x e = absurd (omega arith)
has_plain (false ∷ cs) span x e = refl

has_super : (cs : List Bool) (span : Span) (x : Compiler) → (top_class cs ≡ 0 → ⊥) → (top_class cs ≡ 1 → ⊥) → innermost_has_super cs span x ≡ ok tt x
unfolding innermost_has_super need
has_super [] span x e f = absurd (e refl)
has_super (true ∷ cs) span x e f = refl
has_super (false ∷ cs) span x e f = absurd (f refl)

module _ (class l n : ℕ) (span : Span) where
  pub super_outside : class ≡ 0 → Judged class l n (need_super span) (Err (super_outside_class l span))
  unfolding refusal_of
  super_outside e = record {
    gives = λ m fit. stop _ (refuses_in (super_outside_class l span) refl (t_of m) refl (λ rest h. needs_is span m l rest ∙ has_none rest.classes span (view m l rest) (h.innermost ∙ e)));
  }

  pub super_without : class ≡ 1 → Judged class l n (need_super span) (Err (super_without_superclass l span))
  unfolding refusal_of
  super_without e = record {
    gives = λ m fit. stop _ (refuses_in (super_without_superclass l span) refl (t_of m) refl (λ rest h. needs_is span m l rest ∙ has_plain rest.classes span (view m l rest) (h.innermost ∙ e)));
  }

  pub super_there : (class ≡ 0 → ⊥) → (class ≡ 1 → ⊥) → Judged class l n (need_super span) (Ok n)
  super_there e f = record {
    gives = λ m fit. next (record {
      comes = λ rest h. needs_is span m l rest ∙ has_super rest.classes span (view m l rest) (λ z. e (sym h.innermost ∙ z)) (λ z. f (sym h.innermost ∙ z));
      agrees = λ rest h. h;
      ahead = ahead_none fit;
    });
  }

-- ## The last byte

last_byte : (xs : List ℕ) (b : ℕ) → ends_in_return (xs ++ (b ∷ [])) ≡ eqb b op.RETURN
unfolding ends_in_return
last_byte [] b = refl
last_byte (x ∷ []) b = refl
last_byte (x ∷ y ∷ xs) b = last_byte (y ∷ xs) b

row_ends : (f : ℕ → ℕ) (n k : ℕ) → n ≡ suc k → ends_in_return (row f n) ≡ eqb (f k) op.RETURN
row_ends f n k e = ap (λ (n : ℕ). ends_in_return (row f n)) e ∙ ap ends_in_return (row_snoc f k) ∙ last_byte (row f k) (f k)

row_empty : (f : ℕ → ℕ) (n : ℕ) → n ≡ 0 → ends_in_return (row f n) ≡ false
unfolding row ends_in_return
row_empty f n e = ap (λ (n : ℕ). ends_in_return (row f n)) e

pub ends_not : (t code : List ℕ) (l : ℕ) → end_of_code t ≤ start_of_code t l → Ending t code l false
unfolding view ctx_at chunk_at
ends_not t code l h = record { is = λ spans rest. row_empty (λ i. get_or code (start_of_code t l + i) 0) (end_of_code t - start_of_code t l) (omega arith) }

pub ends_by : (t code : List ℕ) (l : ℕ) (r : Bool) → start_of_code t l < end_of_code t → r ≡ eqb (get_or code (end_of_code t - 1) 0) 36 → Ending t code l r
unfolding view ctx_at chunk_at
ends_by t code l r h e =
    let q : start_of_code t l + (end_of_code t - 1 - start_of_code t l) ≡ end_of_code t - 1 = omega arith in
    record {
      is = λ spans rest. row_ends (λ i. get_or code (start_of_code t l + i) 0) (end_of_code t - start_of_code t l) (end_of_code t - 1 - start_of_code t l) (omega arith) ∙ ap
          (λ (k : ℕ). eqb (get_or code k 0) 36) q ∙ sym e;
    }

-- ## A return with no value

pub no_value_plain : (kind : ℕ) (limit : ℕ) (span : Span) → 0 < kind → kind < 3 → emit_op limit op.NIL span ≡ return_value limit (type_of kind) none span
unfolding type_of return_value compile_value
no_value_plain zero limit span h g = absurd (omega arith)
no_value_plain (suc zero) limit span h g = refl
no_value_plain (suc (suc zero)) limit span h g = refl
no_value_plain (suc (suc (suc k))) limit span h g = absurd (omega arith)

pub no_value_init : (kind : ℕ) (limit : ℕ) (span : Span) → 3 ≤ kind → emit_op_u8 limit op.GET_LOCAL 0 span ≡ return_value limit (type_of kind) none span
unfolding type_of return_value
no_value_init zero limit span h = absurd (omega arith)
no_value_init (suc zero) limit span h = absurd (omega arith)
no_value_init (suc (suc zero)) limit span h = absurd (omega arith)
no_value_init (suc (suc (suc k))) limit span h = refl

pub told_type : {class : ℕ} (t code spans : List ℕ) (l : ℕ) → Told class l (the λ s. s.ctx.type) (type_of (get_or t (l * level_words + type_place) 0)) (mem t code spans)
unfolding the view ctx_at
told_type t code spans l = record { says = λ rest h. refl }

pub no_return : {class l : ℕ} (kind limit : ℕ) (span : Span) {m : Mem} → kind ≡ 0 → Refused class l (return_value limit (type_of kind) none span) m
    (told (t_of m) (return_outside_function l span))
unfolding type_of return_value refuse refusal_of
no_return {l = l} kind limit span {m} e = refuses_in (return_outside_function l span) refl (t_of m) refl (λ rest h. ap (λ (k : ℕ). return_value limit (type_of k) none span (view m l rest)) e)

-- the implicit one, by the last byte
implicit_is : (limit : ℕ) (x : Compiler) (b : Bool) → ends_in_return x.ctx.chunk.ops ≡ b → implicit_return limit x ≡ (if b then done else compile_return limit none NO_SPAN) x
unfolding implicit_return ◌>>=◌ the go_on
implicit_is limit x b e = ap (λ (b : Bool). (if b then done else compile_return limit none NO_SPAN) x) e

module _ (limit l n : ℕ) (t code spans : List ℕ) (b : Bool) (w : Ending t code l b) where
  pub returned : {class : ℕ} → b ≡ true → Fit (mem t code spans) l limit → Did class limit l n steady (implicit_return limit) (mem t code spans) (mem t code spans) (Ok n)
  unfolding done return
  returned e fit = next (record {
    comes = λ rest h. implicit_is limit (view (mem t code spans) l rest) true (w.is spans rest ∙ e);
    agrees = λ rest h. h;
    ahead = ahead_none fit;
  })

  returns_as : {class : ℕ} {now : Mem} (r : Step) → b ≡ false → Did class limit l n steady (compile_return limit none NO_SPAN) (mem t code spans) now r → DidAs
      class limit l n steady (implicit_return limit) (mem t code spans) now r
  returns_as (Ok v) e d = (
    record {
      comes = λ rest h. implicit_is limit (view (mem t code spans) l rest) false (w.is spans rest ∙ e) ∙ d.does.0.comes rest
          h;
      agrees = d.does.0.agrees;
      ahead = d.does.0.ahead;
    },
    d.does.1,
  )
  returns_as (Err x) e d = record { refuses = λ rest h. implicit_is limit (view (mem t code spans) l rest) false (w.is spans rest ∙ e) ∙ d.does.refuses rest h }

  pub returns_now : {class : ℕ} {now : Mem} {r : Step} → b ≡ false → Did class limit l n steady (compile_return limit none NO_SPAN) (mem t code spans) now r →
      Did class limit l n steady (implicit_return limit) (mem t code spans) now r
  returns_now {r = r} e d = record { does = returns_as r e d }
