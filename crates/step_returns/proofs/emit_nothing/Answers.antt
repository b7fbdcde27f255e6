-- `emit_nothing` meets its contract.
use Rattle.steps.proofs.Steps.{by_name}
use Rattle.step_returns.proofs.Returns as ways
use Rattle.step_returns.proofs.emit_nothing.Goals as goal

pub returns-then-kind-clause-does : goal.returns-then-kind-clause-does
returns-then-kind-clause-does c =
    λ class. let a = c.args in by_name (ways.no_value_init a.kind a.limit a.span c.if-kind.true)
    (c.emit_op_u8.ensures.does class)

pub returns-clause-does : goal.returns-clause-does
returns-clause-does c =
    λ class. let a = c.args in by_name
    (ways.no_value_plain a.kind a.limit a.span c.requires.1 c.if-kind.false) (c.emit_op.ensures.does class)
