-- `fill` meets its contract.
use Prim.Native.Nat.{◌≤◌}
use mathlib.Core.Path.{◌≡◌}
use lib.ListN.{length}
use Rattle.image_code.specs.Table.{kinds_in}
use Rattle.image_jumps.specs.Ring.{Filled}
use Rattle.image_jumps.proofs.fill.Given as goal

abbrev pub invariant-loop-at : goal.invariant-loop-at
invariant-loop-at l = (l.want ≤ length l.code) × Filled (kinds_in l.kinds) l.code l.ring l.at l.skip × (length l.ring ≡ length l.initial.ring)
