-- `span_of` meets its contract: what the runs that are left give, at what is left of the offset, is what all of them give.
use Rattle.std.proofs.Common.{◌≡◌, drop}
use Rattle.spans.proofs.Lent.{span_at}
use Rattle.spans.proofs.span_of.Given as goal

abbrev pub invariant-loop-run : goal.invariant-loop-run
invariant-loop-run l = span_at (drop l.run-index l.runs) l.left ≡ span_at l.runs l.offset
