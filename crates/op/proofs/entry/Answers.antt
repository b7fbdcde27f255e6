-- `entry` goes through all rows and holds the bytes of the opcode's.
use Rattle.rules.proofs.Computes as computes
use Rattle.op.proofs.Widths.{beside, taken, passed, found}
use Rattle.op.proofs.entry.Goals as goal
use Rattle.op.proofs.entry.Goals.{then-row-op, else-row-op}

pub loop-row-preserved : goal.loop-row-preserved
loop-row-preserved c =
    let held = c.loop-row.invariant in
    elim c.if-row-op.branch [
      | then-row-op w ↦ taken held _ c.loop-row-test.true w.if-row-op.true w.bytes-is
      | else-row-op w ↦ passed held _ c.loop-row-test.true w.if-row-op.false w.bytes-is
    ]

pub returns : goal.returns
unfolding computes.op beside
returns c = found 255 c.loop-row.invariant c.loop-row-test.false tt
