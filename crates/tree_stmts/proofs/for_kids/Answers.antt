-- `for_kids` meets its contract.
use native.Mathlib.Omega.{arith}
use Rattle.rules.specs.declared.Refusal.TheVariants.{TreeForm}
use Rattle.tree_stmts.proofs.Statements.{moved, for_no, for_is}
use Rattle.tree_stmts.proofs.for_kids.Goals as goal

pub returns-in_default : goal.returns-in_default
returns-in_default c =
    for_no c.args.opened.now.tree.now c.args.opened.now.start c.args.funs
    (c.byte_at.ensures.no c.in_default.is (TreeForm c.args.opened.now.start))

pub returns : goal.returns
returns c =
    for_is c.args.opened.now.tree.now c.args.opened.now.start c.args.funs
    (c.byte_at.ensures.small _ c.in-Some.is)
    (moved (c.byte_at.ensures.is _ c.in-Some.is (TreeForm c.args.opened.now.start)) (omega arith))
