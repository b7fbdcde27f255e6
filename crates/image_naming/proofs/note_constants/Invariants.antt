-- `note_constants` meets its contract: what was noted is the constants that are passed.
use Rattle.image_naming.proofs.Walking.{Noting}
use Rattle.image_naming.proofs.note_constants.Given as goal

abbrev pub invariant-loop : goal.invariant-loop
invariant-loop l = Noting l.s l.begin l.n l.base l.initial.seen l.seen l.at l.counter
