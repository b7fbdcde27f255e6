-- `span_of_words` meets its contract: what the words that are left give, at what is left of the offset, is what all of them give.
use mathlib.Core.Path.{◌≡◌}
use lib.ListN.{length}
use Rattle.rules.specs.Checker.{span_of}
use Rattle.spans.specs.Words.{runs_of}
use Rattle.spans.proofs.span_of_words.Given as goal

abbrev pub invariant-loop-runs : goal.invariant-loop-runs
invariant-loop-runs l = span_of (runs_of l.words) l.offset ≡ span_of (runs_of l.runs) l.left

abbrev pub decreases-loop-runs : goal.decreases-loop-runs
decreases-loop-runs l = length l.runs
