-- `value_kids` meets its contract.
use Rattle.rules.specs.declared.Refusal.TheVariants.{TreeForm}
use Rattle.tree_stmts.proofs.Statements.{value_no, value_is}
use Rattle.tree_stmts.proofs.value_kids.Goals as goal

pub returns-in_default : goal.returns-in_default
returns-in_default c = value_no c.args.opened.now.tree.now c.args.opened.now.start (c.byte_at.ensures.no c.in_default.is (TreeForm c.args.opened.now.start))

pub returns : goal.returns
returns c =
    value_is c.args.opened.now.tree.now c.args.opened.now.start
    (c.byte_at.ensures.small _ c.in-Some.is) (c.byte_at.ensures.is _ c.in-Some.is (TreeForm c.args.opened.now.start))
