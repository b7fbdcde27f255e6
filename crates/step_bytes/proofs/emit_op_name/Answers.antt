-- `emit_op_name` meets its contract.
use Rattle.step_bytes.proofs.Bytes as ways
use Rattle.step_bytes.proofs.emit_op_name.Goals as goal

pub returns-clause-does : goal.returns-clause-does
returns-clause-does c =
    λ class. let a = c.args in ways.op_constant_is a.op a.span c.name_word.ensures
    (c.emit_op_constant.ensures.does class)
