-- `all_named_once` meets its contract: each function before the block is named once.
use Prim.Native.Nat.{ℕ, ◌-◌}
use Rattle.std.specs.Prelude.{min}
use mathlib.Core.Path.{◌≡◌}
use mathlib.Core.Bool.{true}
use lib.Dec.{eqb}
use Rattle.rules.specs.Base.{all_below}
use Rattle.rules.specs.Checker.{names_in_all}
use Rattle.image_constants.specs.Earlier.{earlier}
use Rattle.image_naming.proofs.all_named_once.Given as goal

abbrev pub invariant-loop-base : goal.invariant-loop-base
invariant-loop-base l = (l.last ≡ l.count - 1) × (all_below (min l.base l.last) (λ (number : ℕ). eqb (names_in_all number (earlier l.s l.count)) 1) ≡ true)

abbrev pub decreases-loop-base : goal.decreases-loop-base
decreases-loop-base l = l.last - l.base
