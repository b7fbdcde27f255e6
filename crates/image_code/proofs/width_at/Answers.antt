-- `width_at` meets its contract: `Op::width` is the rules' width, and the form's too.
use mathlib.Core.Path.{refl}
use Rattle.image_code.proofs.Forms.{width_fixed, width_missed, width_found}
use Rattle.image_code.proofs.width_at.Goals as goal

pub returns-then-op-ne-CLOSURE : goal.returns-then-op-ne-CLOSURE
returns-then-op-ne-CLOSURE c =
    width_fixed c.args.code.now c.args.kinds.now c.args.at _ refl c.if-op-ne-CLOSURE.true c.width.result c.width.ensures

pub returns-in_default : goal.returns-in_default
returns-in_default c =
    width_missed c.args.code.now c.args.kinds.now c.args.at _ refl c.kind_at.result c.kind_at.ensures c.if-op-ne-CLOSURE.false c.in_default.not-Function

pub returns : goal.returns
returns c =
    width_found c.args.code.now c.args.kinds.now c.args.at _ refl c.kind_at.result c.kind_at.ensures
    c.if-op-ne-CLOSURE.false c.in-Function.captured c.width-2.result c.in-Function.is c.width-2.ensures
