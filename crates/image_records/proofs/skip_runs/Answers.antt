-- `skip_runs` meets its contract: where the runs that are left end is where all of them end.
use mathlib.Core.Path.{sym, ◌∙◌}
use Rattle.rules.specs.ImageFile.{read_run}
use Rattle.image_records.proofs.Many.{skip_over, skip_ends, skip_none}
use Rattle.image_records.proofs.skip_runs.Goals as goal

pub returns-in_err-at : goal.returns-in_err-at
returns-in_err-at c =
    c.from_residual.ensures ∙ skip_ends (read_run c.args.s.now) c.args.n c.loop.counter c.loop.at c.loop-test.true
    (sym c.in_err-at.was ∙ c.skip_run.ensures) ∙ sym c.loop.invariant

pub loop-preserved : goal.loop-preserved
loop-preserved c =
    c.loop.invariant ∙
    skip_over (read_run c.args.s.now) c.args.n c.loop.counter c.loop.at c.in_ok-at.at c.loop-test.true (sym c.in_ok-at.was ∙ c.skip_run.ensures)

pub returns : goal.returns
returns c = skip_none (read_run c.args.s.now) c.args.n c.loop.counter c.loop.at c.loop-test.false ∙ sym c.loop.invariant
