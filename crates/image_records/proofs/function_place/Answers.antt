-- `function_place` meets its contract: where the functions that are left end is where all of them end.
use mathlib.Core.Path.{sym, ◌∙◌}
use Rattle.rules.specs.ImageFile.{read_function}
use Rattle.image_records.proofs.Many.{skip_over, skip_ends, skip_none}
use Rattle.image_records.proofs.function_place.Goals as goal

pub returns-in_err-at : goal.returns-in_err-at
returns-in_err-at c =
    c.from_residual.ensures ∙ skip_ends (read_function c.args.s.now) c.args.k c.loop.counter c.loop.at c.loop-test.true
    (sym c.in_err-at.was ∙ c.skip_function.ensures) ∙ sym c.loop.invariant

pub loop-preserved : goal.loop-preserved
loop-preserved c =
    c.loop.invariant ∙
    skip_over (read_function c.args.s.now) c.args.k c.loop.counter c.loop.at c.in_ok-at.at c.loop-test.true (sym c.in_ok-at.was ∙ c.skip_function.ensures)

pub returns : goal.returns
returns c = skip_none (read_function c.args.s.now) c.args.k c.loop.counter c.loop.at c.loop-test.false ∙ sym c.loop.invariant
