-- `body_kids` meets its contract.
use Rattle.rules.specs.declared.Refusal.TheVariants.{TreeForm}
use Rattle.tree_stmts.proofs.Statements.{body_bad, body_is}
use Rattle.tree_stmts.proofs.body_kids.Goals as goal

pub returns-in_default : goal.returns-in_default
returns-in_default c = body_bad c.args.funs (c.count_at.ensures.no c.in_default.is (TreeForm c.args.opened.now.start))

pub returns : goal.returns
returns c =
    body_is c.args.funs c.planned.ensures (c.count_at.ensures.is _ c.in-Some.is (TreeForm c.args.opened.now.start))
