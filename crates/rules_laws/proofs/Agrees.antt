-- More code room changes no answer but 30: under a larger code limit the compiler comes to the same, unless it met the smaller one.
use mathlib.Core.Path.{◌≡◌, refl, sym, ◌∙◌}
use mathlib.Core.Bool.{Bool, true, false}
use Prim.Native.Nat.{ℕ, ◌≤◌}
use native.Mathlib.Omega.{arith}
use lib.Dec.{leb, leb→le, nleb→lt}
use Rattle.rules.specs.declared.Refusal.TheVariants.{CodeFull}
use Rattle.rules.specs.Tree.{Stmts}
use Rattle.rules.specs.Compiler as c
use Rattle.rules.specs.Compiler.{Outcome}
use Rattle.rules_laws.proofs.Refusals.{RefusedBy}
use Rattle.rules_laws.proofs.Peak.{peak, moments_of, peak_fits, peak_full, full_by_30}

-- under the smaller limit 30, or the same under both
pub data Under {A : Type 0} (o o' : Outcome A) : Type 0 where
  full : RefusedBy CodeFull o → Under o o'
  same : o ≡ o' → Under o o'

-- for all statements and two limits
pub agrees : (limit limit' : ℕ) → limit ≤ limit' → (stmts : Stmts) → Under (c.compile_functions limit stmts) (c.compile_functions limit' stmts)
agrees limit limit' l stmts = by_peak (leb (peak (moments_of stmts)) limit) refl
  where
    by_peak : (b : Bool) → leb (peak (moments_of stmts)) limit ≡ b → Under (c.compile_functions limit stmts) (c.compile_functions limit' stmts)
    by_peak true e =
        let p : peak (moments_of stmts) ≤ limit = leb→le (peak (moments_of stmts)) limit (rw e tt) in
        same (peak_fits stmts limit p ∙ sym (peak_fits stmts limit' (omega arith)))
    by_peak false e = full (full_by_30 (peak_full stmts limit (nleb→lt (peak (moments_of stmts)) limit (rw e tt))))
