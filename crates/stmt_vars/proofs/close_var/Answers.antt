-- A global is defined by an instruction, a local by its mark.
use Rattle.stmt_vars.proofs.Vars as ways
use Rattle.stmt_vars.proofs.close_var.Goals as goal

pub returns-then-global-clause-does : goal.returns-then-global-clause-does
returns-then-global-clause-does c =
    λ class. ways.closed_global _ _ _ _ _ c.if-global.true (c.emit_op_name.ensures.does class)

pub returns-clause-does : goal.returns-clause-does
returns-clause-does c =
    let a = c.args in
    λ class. ways.closed_local a.level a.next _ a.name a.span a.work.now.code.now a.work.now.spans.now c.if-global.false c.requires c.define_local.ensures
