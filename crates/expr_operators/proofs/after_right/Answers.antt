-- After the right side: an opcode, or the operand of a jump.
use Rattle.expr_laws.proofs.Operators.{closed_plain, closed_jump}
use Rattle.expr_operators.proofs.after_right.Goals as goal

pub returns-then-operator-lt10-clause-does : goal.returns-then-operator-lt10-clause-does
returns-then-operator-lt10-clause-does c =
    λ class. closed_plain _ _ _ _ c.infix_op.ensures (c.emit_op.ensures.does class)

pub patch_jump-requires : goal.patch_jump-requires
patch_jump-requires c =
    (c.requires.0, c.requires.1 c.if-operator-lt10.false)

pub returns-clause-does : goal.returns-clause-does
returns-clause-does c =
    λ class. closed_jump _ _ _ c.if-operator-lt10.false (c.patch_jump.ensures.does class)
