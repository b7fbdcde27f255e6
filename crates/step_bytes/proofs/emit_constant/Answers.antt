-- `emit_constant` meets its contract.
use Rattle.rules.specs.Compiler.{emit_op}
use Rattle.steps.proofs.Steps.{stop}
use Rattle.step_bytes.proofs.Bytes as ways
use Rattle.step_bytes.proofs.emit_constant.Goals as goal

pub returns-in_default-clause-does : goal.returns-in_default-clause-does
unfolding emit_op
returns-in_default-clause-does c =
    λ class. let a = c.args in stop _ (ways.constant_full a.level a.limit a.w a.span _ _ _ _ _ c.requires
    c.write_constant-r.ensures c.in_default.is)

pub returns-clause-does : goal.returns-clause-does
unfolding emit_op
returns-clause-does c =
    λ class. let a = c.args in ways.constant_then a.level a.limit a.w a.span _ _ _ _ _ c.requires
    c.write_constant-r.ensures _ c.in-Ok.is (c.emit_op.ensures.does class)
