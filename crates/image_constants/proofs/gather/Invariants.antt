-- `gather` meets its contract: the words so far are the constants read so far, and where the ones that are left end is where all end.
use lib.ListN.{length}
use Rattle.image_constants.proofs.Words.{Gathering}
use Rattle.image_constants.proofs.gather.Given as goal

abbrev pub invariant-loop-word : goal.invariant-loop-word
invariant-loop-word l = Gathering l.s l.begin (length l.initial.words) (length l.initial.words) l.words l.at l.word-index
