-- `emit_op` meets its contract.
use Rattle.rules.specs.Compiler.{emit_op}
use Rattle.steps.proofs.Steps.{next, stop}
use Rattle.step_bytes.proofs.Bytes as ways
use Rattle.step_bytes.proofs.emit_op.Goals as goal

pub returns-in_default-clause-does : goal.returns-in_default-clause-does
unfolding emit_op
returns-in_default-clause-does c =
    λ class. let a = c.args in stop _ (ways.byte_full a.level a.limit a.byte a.span _ _ _ _ _ _ _ c.requires
    c.emit_u8-r.ensures c.in_default.is)

pub returns-clause-does : goal.returns-clause-does
unfolding emit_op
returns-clause-does c =
    λ class. let a = c.args in next (ways.byte_gave a.level a.limit a.byte a.span _ _ _ _ _ _ _ c.requires
    c.emit_u8-r.ensures c.in-Ok.is)
