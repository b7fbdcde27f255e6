-- The script: what the areas are before it, and what the rules' `compile_functions` comes to by what its parts come to.
use Rattle.std.specs.Prelude.{Ok, Err}
use mathlib.Core.Path.{◌≡◌, refl, sym, ap, subst, ◌∙◌}
use mathlib.Core.List.{List, ◌∷◌, ◌++◌, []}
use Prim.Native.Nat.{ℕ, ◌+◌, ◌*◌, ◌/◌, ◌≤◌, min}
use native.Mathlib.Omega.{arith}
use native.Mathlib.Nat.{le_refl, min-le_left, min-le_right}
use lib.ListN.{length, get_or, replicate, length-append}
use Rattle.rules.specs.Limits.{max_tree, max_code}
use Rattle.rules.specs.Tree.{Stmts}
use Rattle.rules.specs.Reader.{got}
use Rattle.rules.specs.Chunk.{ObjectFunction}
use Rattle.rules.specs.Image.{join}
use Rattle.rules.specs.Compiler.{Compiler, new, Outcome, ok, Compile, the, compile_stmts, compile_script, compile_functions}
use Rattle.rules.specs.Entry.{functions_are, refused, from_outcome}
use Rattle.state.specs.Layout.{image_at, ctx_at}
use Rattle.steps.specs.View.{mem, Rest, view, Agrees, Fit, depth_at, Turn, steady, ◌⨾◌, Gave, Refused, Did, Started}
use Rattle.rules.specs.declared.Stopped.{Stopped}
use Rattle.steps.specs.Why.{told, Step}
use Rattle.steps.specs.declared.Why.{Why}
use Rattle.steps.proofs.Steps.{went, stuck, refused_seq, gave_seq, gave_refused_seq, seq_ok, seq_err}
use Rattle.writer.specs.Put.{Closed}
use Rattle.stmt_output_laws.specs.Output.{largest, Holds, more, grow, Grew, Worked, Walked, Ready}
use Rattle.stmt_output_laws.proofs.Growing as growing
use Rattle.stmt_functions.specs.Functions.{function_at, Filed}
use Rattle.stmt_functions.proofs.Records.{can_put}
use Rattle.entry.specs.Whole.{limit_of, rows_at, Rows, Clean, script_end, Recorded, ScriptedAs, Scripted}
use Rattle.entry.proofs.Zeros.{zeros_padded, cleared_own}

-- ## Before it

least_of : (a b limit : ℕ) → limit ≡ min (min a (b / 3)) max_code → (limit ≤ a) × (limit * 3 ≤ b) × (limit ≤ max_code)
least_of a b limit e =
    let x = min-le_left (min a (b / 3)) max_code in
    let y = min-le_right (min a (b / 3)) max_code in
    let z = min-le_left a (b / 3) in
    let w = min-le_right a (b / 3) in
    (omega arith, omega arith, omega arith)

pub clean : {t code spans out : List ℕ} (limit n : ℕ) → Started t → limit ≡ limit_of code spans → out ≡ replicate n 0 → Clean t code spans out limit
clean {code = code} {spans = spans} limit n s e c =
    let h = least_of (length code) (length spans) limit e in
    record { started = s; code_room = h.0; runs_room = h.1; small = h.2; clear = cleared_own n c }

-- no class around it, and no function finished
abbrev none_yet : Rest
none_yet = record { classes = []; functions = [] }

module _ {t code spans out : List ℕ} {limit : ℕ} (clean : Clean t code spans out limit) where
  first_agrees : Agrees 0 (mem t code spans) none_yet
  first_agrees = record { innermost = refl; made = sym (clean.started.image image_at (le_refl image_at)) }

  first_holds : Holds t out []
  unfolding join
  first_holds = record { bytes = clean.clear ∙ zeros_padded (length out) 6; long = clean.started.image (image_at + 1) (omega arith); counted = tt }

  no_depth : depth_at (mem t code spans) 0 ≡ 0
  unfolding depth_at view ctx_at
  no_depth = ap (λ (s : Compiler). s.ctx.scope_depth) (clean.started.is code spans)

  pub ready : (tree : List ℕ) (at : ℕ) → length tree ≤ max_tree → Ready tree (mem t code spans) at 128 0 limit
  ready tree at h = record {
    fit = clean.started.fit code spans limit clean.code_room clean.runs_room;
    small = clean.small;
    short = h;
    shallow = omega (arith, no_depth);
    few = omega (arith, clean.started.image image_at (le_refl image_at));
    little = omega (arith, clean.started.image (image_at + 1) (omega arith));
  }

  -- ## What the rules come to

  from_new : {A : Type 0} (m : Compile A) {o : Outcome A} → m (view (mem t code spans) 0 none_yet) ≡ o → m new ≡ o
  from_new m {o} e = subst (λ (s : Compiler). m s ≡ o) (clean.started.is code spans) e

  module _ (stmts : Stmts) where
    refused_script : {x : Stopped} → Refused 0 0 (compile_script limit stmts) (mem t code spans) x → from_outcome (compile_functions limit stmts) ≡ refused x
    unfolding compile_functions from_outcome
    refused_script h = ap from_outcome (seq_err (compile_script limit stmts) new _ (from_new (compile_script limit stmts) (h.refuses none_yet first_agrees)))

    gave_script : {e : Turn} (made : List ObjectFunction) {t₁ code₁ spans₁ : List ℕ} → e.rest none_yet ≡ more made none_yet → Gave 0 limit 0 e
        (compile_script limit stmts) tt (mem t code spans) (mem t₁ code₁ spans₁)
        → from_outcome (compile_functions limit stmts) ≡ functions_are (made ++ (function_at t₁ code₁ spans₁ 0 ∷ []))
    unfolding compile_functions from_outcome the function_at view
    gave_script {e} made {t₁} {code₁} {spans₁} q g =
        let s : compile_script limit stmts new ≡ ok tt (view (mem t₁ code₁ spans₁) 0 (more made none_yet)) =
        from_new (compile_script limit stmts) (g.comes none_yet first_agrees) ∙ ap (λ (x : Rest). ok tt (view (mem t₁ code₁ spans₁) 0 x)) q in
        ap from_outcome (seq_ok (compile_script limit stmts) new _ s)

    -- ## By its parts

    module _ {at n : ℕ} {t₁ code₁ spans₁ out₁ : List ℕ} {a : Step} (w : Worked 0 limit 0 at n (compile_stmts limit stmts) (mem t code spans) out (mem t₁ code₁ spans₁) out₁ a) where
      script_first : {x : Why} → a ≡ Err x → from_outcome (compile_functions limit stmts) ≡ refused (told t₁ x)
      unfolding compile_script
      script_first q = refused_script (refused_seq (growing.refused w q) _)

      module _ {v : ℕ} (q : a ≡ Ok v) where
        grew : Grew 0 limit 0 at n (compile_stmts limit stmts) (mem t code spans) out (mem t₁ code₁ spans₁) out₁
        grew = growing.grown w q

        fit_then : Fit (mem t₁ code₁ spans₁) 0 limit
        fit_then = grew.gave.ahead.fit

        module _ {k : ℕ} {t₂ code₂ spans₂ : List ℕ} {b : Step} (d : Did 0 limit 0 k steady (script_end limit) (mem t₁ code₁ spans₁) (mem t₂ code₂ spans₂) b) where
          script_second : {x : Why} → b ≡ Err x → from_outcome (compile_functions limit stmts) ≡ refused (told t₂ x)
          unfolding compile_script
          script_second p = refused_script (gave_refused_seq grew.gave _ (stuck d p))

          module _ {u : ℕ} (p : b ≡ Ok u) where
            ended : Gave 0 limit 0 steady (script_end limit) tt (mem t₁ code₁ spans₁) (mem t₂ code₂ spans₂)
            ended = went d p

            whole : Gave 0 limit 0 (grow grew.made ⨾ steady) (compile_script limit stmts) tt (mem t code spans) (mem t₂ code₂ spans₂)
            unfolding compile_script
            whole = gave_seq grew.gave _ ended

            -- the writer's words are as the statements left them
            word : (i : ℕ) → image_at ≤ i → get_or t₂ i 0 ≡ get_or t₁ i 0
            word i h = ended.ahead.beyond refl i h

            few_then : n ≤ max_tree → get_or t₂ image_at 0 ≤ max_tree
            few_then h = omega (arith, grew.added.few, clean.started.image image_at (le_refl image_at), word image_at (le_refl image_at))

            little_then : n ≤ max_tree → get_or t₂ (image_at + 1) 0 ≤ max_tree * largest
            little_then h = omega (arith, grew.added.little, clean.started.image (image_at + 1) (omega arith), word (image_at + 1) (omega arith))

            can_finish : Closed t₂ code₂ spans₂ 0
            can_finish = can_put ended.ahead.fit clean.small

            holds_then : Holds t₂ out₁ grew.made
            holds_then = let h = grew.added.put [] first_holds in record { bytes = h.bytes; long = word (image_at + 1) (omega arith) ∙ h.long; counted = h.counted }

            count_then : get_or t₂ image_at 0 ≡ length grew.made
            count_then = sym (whole.agrees none_yet first_agrees).made

            recorded : {t₃ out₃ : List ℕ} {m : ℕ} → n ≤ max_tree → Filed 0 t₂ code₂ spans₂ out₁ t₃ out₃ → m ≡ 6 + get_or t₃ (image_at + 1) 0
                → Recorded (from_outcome (compile_functions limit stmts)) t₃ out₃ m
            recorded short f h = record {
              functions = grew.made ++ (function_at t₂ code₂ spans₂ 0 ∷ []);
              is = gave_script grew.made refl whole;
              holds = f.put grew.made holds_then;
              count = f.count ∙ ap (λ (c : ℕ). c + 1) count_then ∙ sym (length-append grew.made (function_at t₂ code₂ spans₂ 0 ∷ []));
              long = h;
              small = omega (arith, f.count, f.bytes, few_then short, little_then short);
            }

-- ## The answers

module _ {tree t code spans out : List ℕ} {count at limit : ℕ} (rows : Rows tree count at) (clean : Clean t code spans out limit) {t₁ code₁ spans₁ out₁ : List ℕ} {a : Step}
    (w : Walked 0 limit 0 at (rows_at tree count at) (compile_stmts limit) (mem t code spans) out (mem t₁ code₁ spans₁) out₁ a) where
  by_rows : (stmts : Stmts) → rows_at tree count at ≡ got stmts (length tree) → Worked 0 limit 0 at (length tree) (compile_stmts limit stmts) (mem t code spans) out (mem t₁ code₁ spans₁) out₁ a
  by_rows stmts e = w.did stmts (length tree) e

  pub stopped_first : {x : Why} → a ≡ Err x → Scripted limit (rows_at tree count at) (length tree) t₁ out₁ a
  stopped_first q = record { did = λ stmts e. subst (ScriptedAs (from_outcome (compile_functions limit stmts)) t₁ out₁) (sym q) (script_first clean stmts (by_rows stmts e) q) }

  module _ {v : ℕ} (q : a ≡ Ok v) where
    pub fit_between : Fit (mem t₁ code₁ spans₁) 0 limit
    fit_between = fit_then clean rows.stmts (by_rows rows.stmts rows.is) q

    module _ {k : ℕ} {t₂ code₂ spans₂ : List ℕ} {b : Step} (d : Did 0 limit 0 k steady (script_end limit) (mem t₁ code₁ spans₁) (mem t₂ code₂ spans₂) b) where
      pub stopped_second : {x : Why} → b ≡ Err x → Scripted limit (rows_at tree count at) (length tree) t₂ out₁ b
      stopped_second p = record { did = λ stmts e. subst (ScriptedAs (from_outcome (compile_functions limit stmts)) t₂ out₁) (sym p) (script_second clean stmts (by_rows stmts e) q d p) }

      module _ {u : ℕ} (p : b ≡ Ok u) where
        -- what `finish` asks for
        pub to_finish : (Closed t₂ code₂ spans₂ 0) × (get_or t₂ image_at 0 ≤ max_tree) × (get_or t₂ (image_at + 1) 0 ≤ max_tree * largest)
        to_finish =
            let g = by_rows rows.stmts rows.is in
            (can_finish clean rows.stmts g q d p, few_then clean rows.stmts g q d p rows.short, little_then clean rows.stmts g q d p rows.short)

        pub scripted : {t₃ out₃ : List ℕ} → Filed 0 t₂ code₂ spans₂ out₁ t₃ out₃ → Scripted limit (rows_at tree count at) (length tree) t₃ out₃ (Ok (6 + get_or t₃ (image_at + 1) 0))
        scripted f = record { did = λ stmts e. recorded clean stmts (by_rows stmts e) q d p rows.short f refl }
