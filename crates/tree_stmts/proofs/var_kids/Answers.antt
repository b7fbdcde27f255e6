-- `var_kids` meets its contract.
use native.Mathlib.Omega.{arith}
use Rattle.rules.specs.declared.Refusal.TheVariants.{TreeForm}
use Rattle.tree_stmts.proofs.Statements.{moved, var_unnamed, var_from}
use Rattle.tree_stmts.proofs.var_kids.Goals as goal

pub returns-in_default : goal.returns-in_default
returns-in_default c =
    var_unnamed c.args.opened.now.tree.now c.args.opened.now.start
    c.args.names (c.name_at.ensures.no c.in_default.is (TreeForm c.args.opened.now.start))

pub returns : goal.returns
returns c =
    var_from c.args.opened.now.tree.now c.args.opened.now.start c.args.names
    (moved (c.name_at.ensures.is _ c.in-Some.is (TreeForm c.args.opened.now.start)) (omega arith)) c.value_kids.ensures
