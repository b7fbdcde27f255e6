-- `closures` meets its contract.
use Prim.Native.Nat.{◌+◌, ◌-◌}
use native.Mathlib.Omega.{arith}
use mathlib.Core.Path.{refl}
use lib.ListN.{get_or}
use Rattle.image_closures.proofs.Counting.{closing_skip, closing_width, closing_fits, closing_two, closing_other, closing_here, closing_done}
use Rattle.image_closures.proofs.closures.Goals.{then-code-at-eq-CLOSURE, else-code-at-eq-CLOSURE}
use Rattle.image_closures.proofs.closures.Goals as goal

pub loop-at-preserved-then-skip-gt0 : goal.loop-at-preserved-then-skip-gt0
loop-at-preserved-then-skip-gt0 c =
    closing_skip c.args.kinds.now c.args.code.now c.loop-at.named c.loop-at.at
    c.loop-at.skip (c.loop-at.skip - 1) c.loop-at.invariant c.loop-at-test.true (omega arith)

pub overflow_sub-skip-in-loop-at : goal.overflow_sub-skip-in-loop-at
overflow_sub-skip-in-loop-at c =
    closing_width c.args.kinds.now c.args.code.now c.loop-at.named c.loop-at.at c.loop-at.skip c.width_at-skip.result c.loop-at.invariant (omega (arith, c.if-skip-gt0.false)) c.loop-at-test.true c.width_at-skip.ensures

pub bounds-code-at-then-code-at-eq-CLOSURE : goal.bounds-code-at-then-code-at-eq-CLOSURE
bounds-code-at-then-code-at-eq-CLOSURE c =
    let t = closing_two c.args.kinds.now c.args.code.now c.loop-at.named c.loop-at.at c.loop-at.skip c.width_at-skip.result c.loop-at.invariant (omega (arith, c.if-skip-gt0.false)) c.loop-at-test.true c.width_at-skip.ensures c.if-code-at-eq-CLOSURE.true in
    let r = closing_fits c.args.kinds.now c.args.code.now c.loop-at.named c.loop-at.at c.loop-at.skip c.width_at-skip.result c.loop-at.invariant (omega (arith, c.if-skip-gt0.false)) c.loop-at-test.true c.width_at-skip.ensures in
    omega (arith, t, r)

pub overflow_add-named : goal.overflow_add-named
overflow_add-named c =
    let b = c.loop-at.invariant.below (get_or c.args.code.now (c.loop-at.at + 1) 0) (omega (arith, c.type_inv.code (c.loop-at.at + 1))) in
    omega (arith, b, c.loop-at-test.true)

pub loop-at-preserved : goal.loop-at-preserved
loop-at-preserved c = elim c.if-code-at-eq-CLOSURE.branch [
  | then-code-at-eq-CLOSURE w ↦ rw w.named-is (closing_here c.args.kinds.now c.args.code.now c.loop-at.named c.loop-at.at c.loop-at.skip c.width_at-skip.result c.loop-at.invariant (omega (arith, c.if-skip-gt0.false)) c.loop-at-test.true c.width_at-skip.ensures
      (get_or c.args.code.now (c.loop-at.at + 1) 0) w.if-code-at-eq-CLOSURE.true refl (omega (arith, c.type_inv.code (c.loop-at.at + 1))))
  | else-code-at-eq-CLOSURE w ↦ rw w.named-is (closing_other c.args.kinds.now c.args.code.now c.loop-at.named c.loop-at.at c.loop-at.skip c.width_at-skip.result c.loop-at.invariant (omega (arith, c.if-skip-gt0.false)) c.loop-at-test.true c.width_at-skip.ensures w.if-code-at-eq-CLOSURE.false)
]

pub returns : goal.returns
returns c =
    closing_done c.args.kinds.now c.args.code.now c.loop-at.named c.loop-at.at
    c.loop-at.skip c.loop-at.invariant c.loop-at-test.false
