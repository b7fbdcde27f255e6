-- `open_expr` meets its contract: one law for each way out.
use mathlib.Core.Path.{sym, ap, ◌∙◌}
use mathlib.Core.Bool.{not}
use Rattle.rules.specs.TreeFile.{expr_marks}
use Rattle.tree_small.proofs.Places.{cut, there}
use Rattle.tree_small.proofs.Tables.{known_some}
use Rattle.tree_exprs.proofs.Expressions.{no_expr, deep_expr, cut_expr, opens_bad, opens_kids}
use Rattle.tree_exprs.proofs.open_expr.Goals as goal

pub returns-in_default : goal.returns-in_default
returns-in_default c =
    opens_bad c.args.tree.now c.args.names c.args.depth
    c.args.start (no_expr c.args.tree.now c.args.names
    c.args.depth c.args.start (sym c.expr_mark.ensures ∙ c.in_default.is))

pub returns-then-depth-eq0 : goal.returns-then-depth-eq0
returns-then-depth-eq0 c =
    opens_bad c.args.tree.now c.args.names c.args.depth c.args.start
    (deep_expr c.args.tree.now c.args.names c.args.depth c.args.start
    (known_some expr_marks c.args.tree.now c.args.start (sym c.expr_mark.ensures ∙ c.in-Some.is)) c.if-depth-eq0.true)

pub returns-then-not-has : goal.returns-then-not-has
returns-then-not-has c =
    opens_bad c.args.tree.now c.args.names c.args.depth c.args.start
    (cut_expr c.args.tree.now c.args.names c.args.depth c.args.start
    (known_some expr_marks c.args.tree.now c.args.start (sym c.expr_mark.ensures ∙ c.in-Some.is)) c.if-depth-eq0.false (cut c.has.ensures (ap not c.if-not-has.true)))

pub returns : goal.returns
returns c =
    opens_kids c.args.tree.now c.args.names c.args.depth
    c.args.start (known_some expr_marks c.args.tree.now c.args.start
    (sym c.expr_mark.ensures ∙ c.in-Some.is)) c.if-depth-eq0.false
    (there c.has.ensures (ap not c.if-not-has.false)) c.expr_kids.ensures
