-- A jump, and the value that it tests is dropped.
use Rattle.steps.proofs.Steps.{went_to}
use Rattle.stmt_jumps.proofs.Jumps.{open_stop, open_done}
use Rattle.stmt_jumps.proofs.open_jump.Goals as goal

pub returns-in_default-clause-does : goal.returns-in_default-clause-does
returns-in_default-clause-does c = λ class. open_stop _ (c.emit_jump-a.ensures.does class) c.in_default.is

pub emit_op-requires : goal.emit_op-requires
emit_op-requires c =
    (went_to (c.emit_jump-a.ensures.does 0) c.in-Ok.is).ahead.fit

pub returns-clause-does : goal.returns-clause-does
returns-clause-does c =
    λ class. open_done _ (c.emit_jump-a.ensures.does class) c.in-Ok.is (c.emit_op.ensures.does class)
