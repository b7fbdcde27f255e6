-- `emit_invoke` meets its contract.
use Rattle.rules.specs.Compiler.{emit_op, emit_invoke}
use Rattle.steps.proofs.Steps.{went, halt, then_on}
use Rattle.step_bytes.proofs.Bytes as ways
use Rattle.step_bytes.proofs.emit_invoke.Goals as goal

pub returns-in_default-clause-does : goal.returns-in_default-clause-does
unfolding emit_op emit_invoke
returns-in_default-clause-does c = λ class. halt _ (c.emit_op-a.ensures.does class) c.in_default.is

pub emit_constant-b-requires : goal.emit_constant-b-requires
emit_constant-b-requires c = (went (c.emit_op-a.ensures.does 0) c.in-Ok.is).ahead.fit

pub returns-in_default-b-clause-does : goal.returns-in_default-b-clause-does
unfolding emit_op emit_invoke
returns-in_default-b-clause-does c =
    λ class. then_on _ (c.emit_op-a.ensures.does class) c.in-Ok.is
    (halt _ (ways.constant_is c.args.span c.name_word.ensures
    (c.emit_constant-b.ensures.does class)) c.in_default-b.is)

pub emit_op-requires : goal.emit_op-requires
emit_op-requires c = (went (c.emit_constant-b.ensures.does 0) c.in-Ok-b.is).ahead.fit

pub returns-clause-does : goal.returns-clause-does
unfolding emit_op emit_invoke
returns-clause-does c =
    λ class. then_on _ (c.emit_op-a.ensures.does class) c.in-Ok.is
    (then_on _ (ways.constant_is c.args.span c.name_word.ensures
    (c.emit_constant-b.ensures.does class)) c.in-Ok-b.is (c.emit_op.ensures.does class))
