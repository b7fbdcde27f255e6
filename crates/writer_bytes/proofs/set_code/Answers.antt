-- `set_code`: of the bytes, what is left is still to be put, and there is room for it.
use native.Mathlib.Omega.{arith}
use Rattle.writer_bytes.proofs.Padding.{putting_step, bytes_more}
use Rattle.writer_bytes.proofs.set_code.Goals as goal

pub loop-b-preserved : goal.loop-b-preserved
loop-b-preserved c = (
  putting_step c.loop-b.invariant.0 (bytes_more c.args.code.now c.loop-b.b-index c.loop-b-test.true) c.set_u8-next.ensures,
  omega (arith, c.set_u8-next.ensures.next, c.set_u8-next.ensures.size, c.loop-b.invariant.1, c.loop-b-test.true),
)
