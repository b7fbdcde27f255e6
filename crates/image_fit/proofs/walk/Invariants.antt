-- `walk` meets its contract.
use Prim.Native.Nat.{◌+◌, ◌≤◌}
use mathlib.Core.Path.{◌≡◌}
use lib.ListN.{length}
use Rattle.image_code.specs.Table.{division}
use Rattle.rules.specs.Division.{operands_fit}
use Rattle.image_code.specs.Table.{kinds_in, judged, from}
use Rattle.image_fit.proofs.walk.Given as goal

abbrev pub invariant-loop-at : goal.invariant-loop-at
invariant-loop-at l =
    (l.at + l.skip ≤ length l.code) × (l.n ≤ l.at) × (judged (operands_fit (kinds_in l.kinds) l.upvalues) 0 (division (kinds_in l.kinds) l.code) ≡ judged
    (operands_fit (kinds_in l.kinds) l.upvalues) l.n (from (kinds_in l.kinds) l.code l.at l.skip))
