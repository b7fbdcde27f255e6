-- `all_once` meets its contract.
use mathlib.Core.Path.{◌≡◌}
use mathlib.Core.Bool.{true}
use Rattle.rules.specs.Base.{all_below}
use Rattle.image_closures.proofs.Named.{once_in}
use Rattle.image_closures.proofs.all_once.Given as goal

abbrev pub invariant-loop-i : goal.invariant-loop-i
invariant-loop-i l = all_below l.i (once_in l.kinds l.named) ≡ true
