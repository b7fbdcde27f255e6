-- `entry` goes through all rows and holds the bytes of the opcode's.
use Rattle.op.proofs.Widths.{Held}
use Rattle.op.proofs.entry.Given as goal

abbrev pub invariant-loop-row : goal.invariant-loop-row
invariant-loop-row l = Held l.op l.row-items l.bytes l.row-index
