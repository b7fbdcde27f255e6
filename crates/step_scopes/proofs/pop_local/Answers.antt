-- `pop_local` meets its contract.
use Rattle.step_scopes.proofs.Scopes as ways
use Rattle.step_scopes.proofs.pop_local.Goals as goal

pub returns-then-n-eq0-clause-does : goal.returns-then-n-eq0-clause-does
returns-then-n-eq0-clause-does c = let a = c.args in ways.popped_none a.level a.limit a.span a.work.now.table.now a.work.now.code.now a.work.now.spans.now c.requires c.if-n-eq0.true

pub returns-then-w-depth-clause-does : goal.returns-then-w-depth-clause-does
returns-then-w-depth-clause-does c =
    let a = c.args in ways.popped_stop a.level a.limit a.span a.work.now.table.now a.work.now.code.now a.work.now.spans.now c.requires
    c.if-n-eq0.false c.if-w-depth.true

pub returns-in_default-clause-does : goal.returns-in_default-clause-does
returns-in_default-clause-does c =
    let a = c.args in ways.popped_full a.level a.limit a.span a.work.now.table.now a.work.now.code.now a.work.now.spans.now
    c.requires c.if-n-eq0.false c.if-w-depth.false _ c.drop_op.ensures _ _ _ _
    c.emit_u8-done.ensures c.in_default.is

pub returns-clause-does : goal.returns-clause-does
returns-clause-does c =
    let a = c.args in ways.popped_more a.level a.limit a.span a.work.now.table.now a.work.now.code.now a.work.now.spans.now
    c.requires c.if-n-eq0.false c.if-w-depth.false _
    c.drop_op.ensures _ _ _ _ c.emit_u8-done.ensures _ c.drop_local.ensures
    c.in-Ok.is
