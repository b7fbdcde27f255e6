-- `span_of` meets its contract: the runs that are left are seen at their end, at a run that holds the byte, and past a run that does not.
use Rattle.std.proofs.Common.{sym, ◌∙◌}
use Rattle.spans.proofs.Lent.{ends, holds, passes}
use Rattle.spans.proofs.span_of.Goals as goal

pub returns-then-left-count : goal.returns-then-left-count
returns-then-left-count c =
    sym (holds c.args.runs.now c.loop-run.run-index c.loop-run.left c.loop-run-test.true c.if-left-count.true) ∙ c.loop-run.invariant

pub loop-run-preserved : goal.loop-run-preserved
loop-run-preserved c =
    sym (passes c.args.runs.now c.loop-run.run-index c.loop-run.left c.loop-run-test.true c.if-left-count.false) ∙ c.loop-run.invariant

pub returns : goal.returns
returns c = c.refused.ensures ∙ (sym (ends c.args.runs.now c.loop-run.run-index c.loop-run.left c.loop-run-test.false) ∙ c.loop-run.invariant)
