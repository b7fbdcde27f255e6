-- `judge_all` meets its contract: the functions that are passed were judged, and what is left comes to what there was.
use lib.ListN.{length}
use Rattle.image_functions.proofs.All.{Going}
use Rattle.image_functions.proofs.judge_all.Given as goal

abbrev pub invariant-loop-k : goal.invariant-loop-k
invariant-loop-k l = Going l.s l.count (length l.initial.counts) (length l.initial.stamps) (length l.initial.ring) l.counts l.stamps l.ring l.at l.k l.total
