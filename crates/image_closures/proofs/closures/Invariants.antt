-- `closures` meets its contract.
use Rattle.image_code.specs.Table.{kinds_in}
use Rattle.image_closures.specs.Counts.{Closing}
use Rattle.image_closures.proofs.closures.Given as goal

abbrev pub invariant-loop-at : goal.invariant-loop-at
invariant-loop-at l = Closing (kinds_in l.kinds) l.code l.named l.at l.skip
