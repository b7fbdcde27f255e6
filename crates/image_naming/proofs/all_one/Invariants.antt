-- `all_one` meets its contract: the counts that are passed are 1.
use Prim.Native.Nat.{ℕ}
use mathlib.Core.Path.{◌≡◌}
use mathlib.Core.Bool.{true}
use lib.ListN.{get_or}
use lib.Dec.{eqb}
use Rattle.rules.specs.Base.{all_below}
use Rattle.image_naming.proofs.all_one.Given as goal

abbrev pub invariant-loop-times : goal.invariant-loop-times
invariant-loop-times l = all_below l.times-index (λ (j : ℕ). eqb (get_or l.seen j 0) 1) ≡ true
