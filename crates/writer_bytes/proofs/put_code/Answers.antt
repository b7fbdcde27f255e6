-- `put_code`: set where there is room for all. Else, of the bytes, what is left is still to be put.
use native.Mathlib.Omega.{arith}
use Rattle.std.specs.Prelude.{length}
use Rattle.writer_bytes.proofs.Padding.{putting_step, has_room, bytes_more}
use Rattle.writer_bytes.proofs.put_code.Goals as goal

pub set_code-requires : goal.set_code-requires
set_code-requires c = has_room c.args.at (length c.args.code.now) c.args.out.now c.has.ensures c.if-has.true

pub loop-b-preserved : goal.loop-b-preserved
loop-b-preserved c = (
  putting_step c.loop-b.invariant.0 (bytes_more c.args.code.now c.loop-b.b-index c.loop-b-test.true) c.put_u8-next.ensures,
  omega (arith, c.put_u8-next.ensures.next, c.loop-b.invariant.1, c.loop-b-test.true),
)
