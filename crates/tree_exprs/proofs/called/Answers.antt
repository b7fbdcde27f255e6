-- `called` meets its contract.
use native.Mathlib.Omega.{arith}
use Rattle.rules.specs.declared.Refusal.TheVariants.{TreeForm}
use Rattle.tree_exprs.proofs.Expressions.{callee_bad, callee_at}
use Rattle.tree_exprs.proofs.called.Goals as goal

pub returns-in_default : goal.returns-in_default
returns-in_default c = callee_bad (c.count_at.ensures.no c.in_default.is (TreeForm c.args.opened.now.start))

pub returns : goal.returns
returns c = callee_at (c.count_at.ensures.is _ c.in-Some.is (TreeForm c.args.opened.now.start)) (omega arith)
