-- `skip_run` meets its contract.
use Rattle.std.proofs.Common.{rules}
use mathlib.Core.Path.{◌∙◌}
use Rattle.image_records.proofs.Many.{fails_bad, gives_at}
use Rattle.image_records.proofs.Running.{run_short, run_unmarked, run_there}
use Rattle.image_records.proofs.skip_run.Goals as goal

pub returns-then-not-has : goal.returns-then-not-has
returns-then-not-has c = fails_bad (run_short c.args.s.now c.args.at (search rules))

pub returns-then-mark_at-ne-RUN : goal.returns-then-mark_at-ne-RUN
returns-then-mark_at-ne-RUN c =
    fails_bad (run_unmarked c.args.s.now c.args.at (search rules) (λ q. c.if-mark_at-ne-RUN.true (c.mark_at.ensures ∙ q)))

pub returns : goal.returns
returns c = gives_at (run_there c.args.s.now c.args.at (search rules) (search rules))
