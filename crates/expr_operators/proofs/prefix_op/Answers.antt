-- The two prefix operators.
use Rattle.expr_laws.proofs.Operators.{prefix_zero, prefix_one}
use Rattle.expr_operators.proofs.prefix_op.Goals as goal

pub returns-then-operator-eq0 : goal.returns-then-operator-eq0
returns-then-operator-eq0 c = prefix_zero _ c.if-operator-eq0.true

pub returns : goal.returns
returns c = prefix_one _ c.if-operator-eq0.false
