-- `end_script` meets its contract.
use Rattle.steps.proofs.Steps.{went, halt, then_on}
use Rattle.entry.proofs.end_script.Goals as goal

pub returns-in_default-clause-does : goal.returns-in_default-clause-does
returns-in_default-clause-does c = halt _ (c.emit_op-a.ensures.does 0) c.in_default.is

pub emit_op-requires : goal.emit_op-requires
emit_op-requires c = (went (c.emit_op-a.ensures.does 0) c.in-Ok.is).ahead.fit

pub returns-clause-does : goal.returns-clause-does
returns-clause-does c = then_on _ (c.emit_op-a.ensures.does 0) c.in-Ok.is (c.emit_op.ensures.does 0)
