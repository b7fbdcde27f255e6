-- `all_once` meets its contract.
use native.Mathlib.Omega.{arith}
use mathlib.Core.Path.{sym}
use Rattle.image_code.proofs.Once.{below_more_true, below_false, all_begin, all_end}
use Rattle.image_closures.proofs.Named.{once_in, once_none, once_yes, once_no}
use Rattle.image_closures.proofs.all_once.Goals as goal

pub loop-i-init : goal.loop-i-init
loop-i-init c = all_begin _

pub loop-i-preserved-in_default : goal.loop-i-preserved-in_default
loop-i-preserved-in_default c =
    below_more_true c.loop-i.i (once_in c.args.kinds.now c.args.named.now)
    c.loop-i.invariant (once_none c.args.kinds.now c.args.named.now c.loop-i.i c.in_default.not-Function)

pub returns-then-named-i-ne1 : goal.returns-then-named-i-ne1
returns-then-named-i-ne1 c =
    sym (below_false 256 c.loop-i.i (once_in c.args.kinds.now c.args.named.now)
    c.loop-i-test.true (once_no c.args.kinds.now c.args.named.now c.loop-i.i c.in-Function.field-0 c.in-Function.is c.if-named-i-ne1.true))

pub loop-i-preserved : goal.loop-i-preserved
loop-i-preserved c =
    below_more_true c.loop-i.i (once_in c.args.kinds.now c.args.named.now)
    c.loop-i.invariant (once_yes c.args.kinds.now c.args.named.now c.loop-i.i c.in-Function.field-0 c.in-Function.is c.if-named-i-ne1.false)

pub returns : goal.returns
returns c = all_end (once_in c.args.kinds.now c.args.named.now) c.loop-i.i (omega arith) c.loop-i.invariant
