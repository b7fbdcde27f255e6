-- `drop_op` meets its contract.
use mathlib.Core.Path.{sym}
use borrow.Author.Tests.{eq-eqb, ne_eqb}
use Rattle.state.proofs.Laws.{if_true, if_false}
use Rattle.step_scopes.proofs.drop_op.Goals as goal

pub returns-then-w-eq1 : goal.returns-then-w-eq1
returns-then-w-eq1 c = sym (if_true _ _ _ (eq-eqb _ _ c.if-w-eq1.true))

pub returns : goal.returns
returns c = sym (if_false _ _ _ (ne_eqb _ _ c.if-w-eq1.false))
