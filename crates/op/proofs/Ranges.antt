-- What every number below a bound has: one test over all of them, computed, and the rule at each.
use mathlib.Core.Path.{◌≡◌}
use mathlib.Core.Bool.{Bool, true, false}
use mathlib.Core.Logic.{⊎_elim}
use Prim.Native.Nat.{ℕ, zero, suc, ◌<◌}
use native.Mathlib.Omega.{arith}
use native.Mathlib.Nat.{eq-or-lt_of_le}
use lib.Dec.{T}
use Rattle.rules.specs.Base.{all_below}
use Rattle.std.specs.Prelude.{if◌then◌else◌}

-- what is true of every number below a bound is true of each
pub below : (count : ℕ) (p : ℕ → Bool) → T (all_below count p) → (i : ℕ) → i < count → T (p i)
unfolding all_below
below zero p t i l = absurd (omega arith)
below (suc n) p t i l =
    ⊎_elim (λ (q : i ≡ n). rw q (split (p n) t).0) (λ (q : i < n). below n p (split (p n) t).1 i q) (eq-or-lt_of_le (omega arith))
  where
    split : (b : Bool) → T (if b then all_below n p else false) → T b × T (all_below n p)
    split true t = (tt, t)
    split false t = absurd t
