-- `note_all` meets its contract: what was noted is the functions that are passed.
use Rattle.image_naming.proofs.Walking.{NotingAll}
use Rattle.image_naming.proofs.note_all.Given as goal

abbrev pub invariant-loop : goal.invariant-loop
invariant-loop l = NotingAll l.s l.count l.base l.initial.seen l.seen l.at l.counter
