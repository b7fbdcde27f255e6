-- A global is not declared.
use Rattle.stmt_vars.proofs.Vars as ways
use Rattle.stmt_vars.proofs.open_var.Goals as goal

pub returns-then-global : goal.returns-then-global
returns-then-global c =
    let a = c.args in
    ways.opened_global a.level a.next _ a.name a.span a.t.now c.if-global.true

pub returns : goal.returns
returns c =
    ways.opened_local _ _ _ _ _ c.if-global.false c.declare_local.ensures
