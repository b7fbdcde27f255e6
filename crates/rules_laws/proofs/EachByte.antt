-- What the peak counts is all code: where the compiler comes to functions, it looks at as many moments as there are bytes in their code.
use mathlib.Core.Path.{◌≡◌, subst, ◌∙◌}
use mathlib.Core.List.{List, ◌∷◌, ◌++◌, []}
use Prim.Native.Nat.{ℕ, ◌+◌}
use native.Mathlib.Omega.{arith}
use lib.ListN.{length}
use Rattle.rules.specs.Tree.{Stmts}
use Rattle.rules.specs.Chunk.{ObjectFunction}
use Rattle.rules.specs.Compiler as c
use Rattle.rules.specs.Compiler.{Compiler, CompilerCtx, Outcome, ok, err, go_on}
use Rattle.rules_laws.proofs.Keeps.{After}
use Rattle.rules_laws.proofs.Peak.{sum, sum_both, lengths, of_open, of_finished, finished_both, all_of, AddsUp, adds_up, peak, moments_of, free_run, run_path, peak_fits}
use Rattle.rules_laws.proofs.Impossible.{script_alone}

-- the functions' code is that of the finished functions and of the script
abbrev ItsCode : Outcome (List ObjectFunction) → Type 0
ItsCode (ok fs t) = sum (of_finished fs) ≡ all_of (lengths t)
ItsCode (err x) = Unit {0}

its_code : (limit : ℕ) (stmts : Stmts) → ItsCode (c.compile_functions limit stmts)
unfolding c.compile_functions c.◌>>◌ go_on c.the c.finish
its_code limit stmts = by_outcome (c.compile_script limit stmts c.new) (script_alone limit stmts)
  where
    by_parents : (t : Compiler) (ps : List CompilerCtx) → length ps ≡ 0 →
        sum (of_finished (t.functions ++ (c.finish t.ctx ∷ []))) ≡ sum (of_open (t.ctx ∷ ps)) + sum (of_finished t.functions)
    by_parents t [] e =
        rw (finished_both t.functions (c.finish t.ctx ∷ [])) (omega (arith, sum_both (of_finished t.functions) (length t.ctx.chunk.ops ∷ [])))
    by_parents t (p ∷ ps) e = absurd (omega (arith, e))

    by_outcome : (o : Outcome (Unit {0})) → After (λ _ t. length t.parents ≡ 0) o →
        ItsCode (go_on o (λ _. c.the (λ (s : Compiler). s.functions ++ (c.finish s.ctx ∷ []))))
    by_outcome (ok a t) e = by_parents t t.parents e
    by_outcome (err x) e = tt

-- no byte is left out and none is there twice
pub each_byte_once : (stmts : Stmts) (fs : List ObjectFunction) (t : Compiler) → free_run stmts ≡ ok fs t →
    length (moments_of stmts) ≡ sum (of_finished fs)
each_byte_once stmts fs t e = omega (arith, counted, code)
  where
    counted : AddsUp (0 ∷ [], []) (moments_of stmts) (ok fs t)
    counted = subst (λ (o : Outcome (List ObjectFunction)). AddsUp (0 ∷ [], []) (moments_of stmts) o) e (adds_up (run_path stmts))

    code : ItsCode (ok fs t)
    code = subst ItsCode (peak_fits stmts (peak (moments_of stmts)) (omega arith) ∙ e) (its_code (peak (moments_of stmts)) stmts)
