-- `walk` meets its contract.
use Prim.Native.Nat.{◌-◌}
use lib.ListN.{length}
use Rattle.image_code.specs.Table.{kinds_in}
use Rattle.image_constants.specs.Words.{constants_of}
use Rattle.image_touch.proofs.Walking.{Walking}
use Rattle.image_touch.proofs.walk.Given as goal

abbrev pub invariant-loop-at : goal.invariant-loop-at
invariant-loop-at l = Walking l.name l.before (constants_of (length l.words) l.words) (kinds_in l.kinds) l.code l.at l.read

abbrev pub decreases-loop-at : goal.decreases-loop-at
decreases-loop-at l = length l.code - l.at
