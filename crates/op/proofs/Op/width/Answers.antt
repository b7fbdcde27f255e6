-- `Op::width` is the rules' width of every byte: what the table has, and of the mark the width of a CLOSURE.
use native.Mathlib.Omega.{arith}
use Rattle.op.proofs.Widths.{fixed, marked}
use Rattle.op.proofs.Op.width.Goals as goal

-- CLOSURE
pub returns-then-bytes-eq-NEEDS_FUNCTION : goal.returns-then-bytes-eq-NEEDS_FUNCTION
returns-then-bytes-eq-NEEDS_FUNCTION c = marked 255 c.args.op c.args.upvalues c.entry-bytes.ensures (omega arith) c.if-bytes-eq-NEEDS_FUNCTION.true

-- the others
pub returns : goal.returns
returns c = fixed 255 c.args.op c.args.upvalues c.entry-bytes.ensures c.if-bytes-eq-NEEDS_FUNCTION.false
