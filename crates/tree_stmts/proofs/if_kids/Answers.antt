-- `if_kids` meets its contract.
use mathlib.Core.Path.{ap}
use native.Mathlib.Omega.{arith}
use Rattle.std.specs.Prelude.{Ok}
use Rattle.rules.specs.declared.Refusal.TheVariants.{TreeForm}
use Rattle.tree_stmts.proofs.Statements.{moved, if_no, if_is}
use Rattle.tree_stmts.proofs.if_kids.Goals as goal

pub returns-in_default : goal.returns-in_default
returns-in_default c =
    if_no c.args.opened.now.tree.now c.args.opened.now.start c.args.funs
    (c.byte_at.ensures.no c.in_default.is (TreeForm c.args.opened.now.start))

pub returns : goal.returns
returns c =
    if_is c.args.opened.now.tree.now c.args.opened.now.start c.args.funs
    (c.byte_at.ensures.small _ c.in-Some.is)
    (moved (c.byte_at.ensures.is _ c.in-Some.is (TreeForm c.args.opened.now.start)) (omega arith)) (ap Ok c.planned.ensures)
