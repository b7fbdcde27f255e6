-- `skip_constants` meets its contract: where the constants that are left end is where all of them end.
use mathlib.Core.Path.{sym, ◌∙◌}
use Rattle.rules.specs.ImageFile.{read_constant}
use Rattle.image_records.proofs.Many.{skip_stops, skip_goes, skip_none}
use Rattle.image_records.proofs.Records.{constant_is, constant_fails}
use Rattle.image_records.proofs.skip_constants.Goals as goal

pub returns-in_err-next : goal.returns-in_err-next
returns-in_err-next c =
    c.from_residual.ensures ∙ skip_stops (read_constant c.args.s.now) c.args.n c.loop.counter c.loop.at c.loop-test.true
    (constant_fails (read_constant c.args.s.now c.loop.at) (sym c.in_err-next.was ∙ c.constant.ensures)) ∙ sym c.loop.invariant

pub loop-preserved : goal.loop-preserved
loop-preserved c =
    let t = constant_is (read_constant c.args.s.now c.loop.at) c.in_ok-next.field-0-0 c.in_ok-next.next (sym c.in_ok-next.was ∙ c.constant.ensures) in
    c.loop.invariant ∙
    skip_goes (read_constant c.args.s.now) c.args.n c.loop.counter c.loop.at c.in_ok-next.next t.value c.loop-test.true t.is

pub returns : goal.returns
returns c = skip_none (read_constant c.args.s.now) c.args.n c.loop.counter c.loop.at c.loop-test.false ∙ sym c.loop.invariant
