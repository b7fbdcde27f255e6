-- `set_le`: of the bytes of the number, those of what is left of it are still to be put, and there is room for them.
use Prim.Native.Nat.{◌-◌}
use native.Mathlib.Omega.{arith}
use Rattle.writer_bytes.proofs.Padding.{putting_step, putting_end, le_more, le_none}
use Rattle.writer_bytes.proofs.set_le.Goals as goal

pub loop-preserved : goal.loop-preserved
loop-preserved c = (
  putting_step c.loop.invariant.0 (le_more (c.args.count - c.loop.counter) _ c.loop.m (omega (arith, c.loop-test.true)) (omega arith)) c.set_u8-next.ensures,
  omega (arith, c.set_u8-next.ensures.next, c.set_u8-next.ensures.size, c.loop.invariant.1, c.loop-test.true),
)

pub returns : goal.returns
returns c = putting_end c.loop.invariant.0 (le_none (c.args.count - c.loop.counter) c.loop.m (omega (arith, c.loop-test.false)))
