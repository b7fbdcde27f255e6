-- Of n turns of a loop k are done, and the rest are left.
use mathlib.Core.Path.{◌≡◌}
use Prim.Native.Nat.{ℕ, ◌+◌, ◌-◌, ◌≤◌, ◌<◌}
use native.Mathlib.Omega.{arith}

pub all_left : {n : ℕ} → n - 0 ≡ n
all_left = omega arith

module _ {n k : ℕ} where
  pub more_left : k < n → 0 < n - k
  more_left h = omega arith

  pub none_left : n ≤ k → n - k ≤ 0
  none_left h = omega arith

  pub one_less : k < n → n - (k + 1) + 1 ≡ n - k
  one_less h = omega arith
