-- `access_variable` meets its contract.
use mathlib.Core.Path.{ap, ◌∙◌}
use Rattle.std.specs.Prelude.{Ok}
use Rattle.steps.proofs.Steps.{stop, did_bind, refused_bind, by_name}
use Rattle.step_names.proofs.Names as ways
use Rattle.step_names.proofs.access_variable.Goals as goal

pub returns-in-Err-clause-does : goal.returns-in-Err-clause-does
returns-in-Err-clause-does c = λ class. stop _ (refused_bind (ways.is_nowhere c.requires c.resolve-found.ensures class _ c.in-Err.is) _)

pub emit_op_u8-requires : goal.emit_op_u8-requires
emit_op_u8-requires c = (ways.is_at c.requires c.resolve-found.ensures 0 _ c.in-Ok.is).ahead.fit

pub emit_op_u8-requires-in-Upvalue : goal.emit_op_u8-requires-in-Upvalue
emit_op_u8-requires-in-Upvalue c = (ways.is_at c.requires c.resolve-found.ensures 0 _ c.in-Ok.is).ahead.fit

pub emit_op_name-requires : goal.emit_op_name-requires
emit_op_name-requires c = (ways.is_at c.requires c.resolve-found.ensures 0 _ c.in-Ok.is).ahead.fit

pub returns-in-Local-clause-does : goal.returns-in-Local-clause-does
returns-in-Local-clause-does c =
    λ class. let a = c.args in did_bind (ways.is_at c.requires c.resolve-found.ensures class _ (c.in-Ok.is ∙ ap Ok c.in-Local.is)) _
    (by_name (ways.emits_local a.access a.limit a.name a.span c.op-op.ensures c.in-Local.is) (c.emit_op_u8.ensures.does class))

pub returns-in-Upvalue-clause-does : goal.returns-in-Upvalue-clause-does
returns-in-Upvalue-clause-does c =
    λ class. let a = c.args in did_bind (ways.is_at c.requires c.resolve-found.ensures class _ (c.in-Ok.is ∙ ap Ok c.in-Upvalue.is)) _
    (by_name (ways.emits_upvalue a.access a.limit a.name a.span c.op-op.ensures c.in-Upvalue.is) (c.emit_op_u8-in-Upvalue.ensures.does class))

pub returns-in-Global-clause-does : goal.returns-in-Global-clause-does
returns-in-Global-clause-does c =
    λ class. let a = c.args in did_bind (ways.is_at c.requires c.resolve-found.ensures class _ (c.in-Ok.is ∙ ap Ok c.in-Global.is)) _
    (by_name (ways.emits_global a.access a.limit a.name a.span c.op-op.ensures c.in-Global.is) (c.emit_op_name.ensures.does class))
