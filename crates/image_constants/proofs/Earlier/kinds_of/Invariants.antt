-- `kinds_of` meets its contract: the words that are passed are right, and so is the table up to there.
use Rattle.image_constants.specs.Earlier.{earlier}
use Rattle.image_constants.proofs.Kinding.{Passing}
use Rattle.image_constants.proofs.Earlier.kinds_of.Given as goal

abbrev pub invariant-loop-i : goal.invariant-loop-i
invariant-loop-i l = Passing (earlier l.self.s.now l.self.k) l.self.k l.words l.kinds l.i
