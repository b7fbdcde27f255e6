-- `walk` meets its contract.
use Prim.Native.Nat.{◌-◌}
use native.Mathlib.Omega.{arith}
use mathlib.Core.Path.{sym, ◌∙◌}
use Rattle.rules.specs.Division.{operands_fit}
use Rattle.image_code.specs.Table.{kinds_in}
use Rattle.image_fit.proofs.Judging.{judge_begin, judge_skip, judge_none, judge_cut, judge_refuse, judge_more, judge_done}
use Rattle.image_fit.proofs.walk.Goals.{then-w-eq0-via-then-w-eq0, then-w-eq0-via-else-w-eq0+then-code-at}
use Rattle.image_fit.proofs.walk.Goals as goal

pub loop-at-init : goal.loop-at-init
loop-at-init c = (omega arith, omega arith, judge_begin (kinds_in c.args.kinds.now) c.args.code.now (operands_fit (kinds_in c.args.kinds.now) c.args.upvalues))

pub loop-at-preserved-then-skip-gt0 : goal.loop-at-preserved-then-skip-gt0
loop-at-preserved-then-skip-gt0 c = (
  omega arith,
  omega arith,
  c.loop-at.invariant.2 ∙ judge_skip (kinds_in c.args.kinds.now) c.args.code.now (operands_fit (kinds_in c.args.kinds.now) c.args.upvalues) c.loop-at.n
      c.loop-at.at c.loop-at.skip (c.loop-at.skip - 1) c.loop-at-test.true (omega arith),
)

pub returns-then-w-eq0 : goal.returns-then-w-eq0
returns-then-w-eq0 c =
    sym (c.loop-at.invariant.2 ∙ (elim c.then-w-eq0.branch [
      | then-w-eq0-via-then-w-eq0 w ↦ judge_none (kinds_in c.args.kinds.now) c.args.code.now (operands_fit (kinds_in c.args.kinds.now) c.args.upvalues) c.loop-at.n
          c.loop-at.at c.loop-at.skip c.width_at-w.result (omega (arith, c.if-skip-gt0.false))
          c.loop-at-test.true c.width_at-w.ensures w.if-w-eq0.true
      | then-w-eq0-via-else-w-eq0+then-code-at w ↦ judge_cut (kinds_in c.args.kinds.now) c.args.code.now (operands_fit (kinds_in c.args.kinds.now) c.args.upvalues) c.loop-at.n
          c.loop-at.at c.loop-at.skip c.width_at-w.result (omega (arith, c.if-skip-gt0.false))
          c.loop-at-test.true c.width_at-w.ensures (omega (arith, w.if-w-eq0.false)) (omega (arith, w.if-code-at.true))
    ]))

pub returns-then-not-fits : goal.returns-then-not-fits
returns-then-not-fits c =
    sym (c.loop-at.invariant.2 ∙ judge_refuse (kinds_in c.args.kinds.now) c.args.code.now (operands_fit (kinds_in c.args.kinds.now) c.args.upvalues) c.loop-at.n
    c.loop-at.at c.loop-at.skip c.width_at-w.result (omega (arith, c.if-skip-gt0.false))
    c.loop-at-test.true c.width_at-w.ensures (omega (arith, c.if-w-eq0.false))
    (sym c.fits.ensures ∙ c.if-not-fits.true))

pub loop-at-preserved : goal.loop-at-preserved
loop-at-preserved c = (
  omega (arith, c.if-w-eq0.false, c.if-code-at.false, c.loop-at-test.true),
  omega (arith, c.loop-at.invariant.1),
  c.loop-at.invariant.2 ∙ judge_more (kinds_in c.args.kinds.now) c.args.code.now (operands_fit (kinds_in c.args.kinds.now) c.args.upvalues)
      c.loop-at.n c.loop-at.at c.loop-at.skip c.width_at-w.result
      (omega (arith, c.if-skip-gt0.false)) c.loop-at-test.true c.width_at-w.ensures
      (omega (arith, c.if-w-eq0.false)) (sym c.fits.ensures ∙ c.if-not-fits.false),
)

pub returns : goal.returns
returns c =
    sym (c.loop-at.invariant.2 ∙ judge_done (kinds_in c.args.kinds.now) c.args.code.now (operands_fit (kinds_in c.args.kinds.now) c.args.upvalues)
    c.loop-at.n c.loop-at.at c.loop-at.skip (omega arith) (omega arith))
