-- How long a number is in bytes: laws of `le` that other crates use.
use mathlib.Core.Path.{◌≡◌, refl, ap}
use Prim.Native.Nat.{ℕ, zero, suc, ◌/◌}
use lib.ListN.{length}
use Rattle.rules.specs.Base.{le}

pub le_length : (count n : ℕ) → length (le count n) ≡ count
unfolding le
le_length zero n = refl
le_length (suc count) n = ap suc (le_length count (n / 256))
