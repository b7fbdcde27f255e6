-- `span_of_words` meets its contract: what the words that are left give, at what is left of the offset, is what all of them give.
use native.Mathlib.Omega.{arith}
use mathlib.Core.Path.{sym, ◌∙◌}
use Rattle.spans.proofs.Steps.{over, holds, passes}
use Rattle.spans.proofs.span_of_words.Goals as goal

pub returns-then-left-count : goal.returns-then-left-count
returns-then-left-count c =
    holds c.loop-runs.runs.now c.loop-runs.left (omega arith) (omega arith) ∙ sym c.loop-runs.invariant

pub loop-runs-preserved : goal.loop-runs-preserved
loop-runs-preserved c = c.loop-runs.invariant ∙ passes c.loop-runs.runs.now c.loop-runs.left (omega arith) (omega arith)

pub returns : goal.returns
returns c = c.refused.ensures ∙ over c.loop-runs.runs.now c.loop-runs.left (omega arith) ∙ sym c.loop-runs.invariant
