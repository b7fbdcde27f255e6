-- `all_new` meets its contract: the words that are passed are different, and their slots have the mark.
use lib.ListN.{length}
use Rattle.image_constants.specs.Words.{slot_in}
use Rattle.image_constants.proofs.New.{News}
use Rattle.image_constants.proofs.all_new.Given as goal

abbrev pub invariant-loop-i : goal.invariant-loop-i
invariant-loop-i l = News (slot_in (length l.initial.stamps)) (length l.initial.stamps) l.words l.stamps l.mark l.i
