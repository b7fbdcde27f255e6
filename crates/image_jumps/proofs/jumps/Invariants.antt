-- `jumps` meets its contract.
use mathlib.Core.Path.{◌≡◌}
use lib.ListN.{length}
use Rattle.image_code.specs.Table.{kinds_in}
use Rattle.image_jumps.proofs.Jumping.{Jumping}
use Rattle.image_jumps.proofs.jumps.Given as goal

abbrev pub invariant-loop-at : goal.invariant-loop-at
invariant-loop-at l = Jumping (kinds_in l.kinds) l.code l.ring l.at l.skip l.lead.at l.lead.skip × (length l.ring ≡ length l.initial.ring)
