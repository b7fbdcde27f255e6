-- `emit_op_constant` meets its contract.
use Rattle.rules.specs.Compiler.{emit_op, emit_op_constant}
use Rattle.steps.proofs.Steps.{went, anew, halt, then_on}
use Rattle.step_bytes.proofs.emit_op_constant.Goals as goal

pub returns-in_default-clause-does : goal.returns-in_default-clause-does
unfolding emit_op emit_op_constant
returns-in_default-clause-does c = λ class. halt _ (c.emit_op-a.ensures.does class) c.in_default.is

pub emit_constant-b-requires : goal.emit_constant-b-requires
emit_constant-b-requires c = (went (c.emit_op-a.ensures.does 0) c.in-Ok.is).ahead.fit

pub returns-in_default-b-clause-does : goal.returns-in_default-b-clause-does
unfolding emit_op emit_op_constant
returns-in_default-b-clause-does c = λ class. then_on _ (c.emit_op-a.ensures.does class) c.in-Ok.is (c.emit_constant-b.ensures.does class)

pub returns-clause-does : goal.returns-clause-does
unfolding emit_op emit_op_constant
returns-clause-does c =
    λ class. then_on _ (c.emit_op-a.ensures.does class) c.in-Ok.is
    (anew (c.emit_constant-b.ensures.does class) c.in-Ok-b.is)
