-- `emit_op_u8` meets its contract.
use Rattle.rules.specs.Compiler.{emit_op, emit_op_u8}
use Rattle.steps.proofs.Steps.{went, halt, then_on}
use Rattle.step_bytes.proofs.emit_op_u8.Goals as goal

pub returns-in_default-clause-does : goal.returns-in_default-clause-does
unfolding emit_op emit_op_u8
returns-in_default-clause-does c = λ class. halt _ (c.emit_op-a.ensures.does class) c.in_default.is

pub emit_op-requires : goal.emit_op-requires
emit_op-requires c = (went (c.emit_op-a.ensures.does 0) c.in-Ok.is).ahead.fit

pub returns-clause-does : goal.returns-clause-does
unfolding emit_op emit_op_u8
returns-clause-does c = λ class. then_on _ (c.emit_op-a.ensures.does class) c.in-Ok.is (c.emit_op.ensures.does class)
