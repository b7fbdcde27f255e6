-- The ten infix operators that leave nothing open.
use mathlib.Core.Path.{refl}
use Rattle.expr_laws.proofs.Operators.{codes, infix_opcode}
use Rattle.expr_operators.proofs.infix_op.Goals as goal

pub returns : goal.returns
unfolding codes
returns c = infix_opcode _ _ c.requires refl
