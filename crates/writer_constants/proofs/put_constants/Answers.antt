-- `put_constants`: of the constants, what is left is still to be put.
use native.Mathlib.Omega.{arith}
use Rattle.std.specs.Prelude.{get_or}
use Rattle.rules.specs.Image.{constant_bytes}
use Rattle.state.specs.Layout.{constant_of}
use Rattle.writer_bytes.proofs.Padding.{putting_step, putting_end, join_more, join_none}
use Rattle.writer_constants.proofs.Rows.{constant_short}
use Rattle.writer_constants.proofs.put_constants.Goals as goal

pub loop-w-preserved : goal.loop-w-preserved
loop-w-preserved c =
    let words = c.args.words.now in
    let i = c.loop-w.w-index in (
      putting_step c.loop-w.invariant.0 (join_more constant_bytes constant_of words i c.loop-w-test.true) c.put_constant-next.ensures,
      omega (
        arith,
        c.put_constant-next.ensures.next,
        constant_short (constant_of (get_or words i 0)),
        c.loop-w.invariant.1,
        c.loop-w-test.true,
      ),
    )

pub returns : goal.returns
returns c = putting_end c.loop-w.invariant.0 (join_none constant_bytes constant_of c.args.words.now c.loop-w.w-index c.loop-w-test.false)
