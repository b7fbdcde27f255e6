-- `superclass` meets its contract: one law for each way out.
use mathlib.Core.Bool.{not}
use mathlib.Core.Path.{sym, ap, ◌∙◌}
use Rattle.tree_small.specs.Places.{place}
use Rattle.tree_small.proofs.Places.{cut, there}
use Rattle.tree_stmts.proofs.Statements.{super_cut, super_not, super_is}
use Rattle.tree_stmts.proofs.superclass.Goals as goal

pub returns-then-not-has : goal.returns-then-not-has
unfolding place
returns-then-not-has c =
    sym (ap place (super_cut c.args.tree.now c.args.names c.args.depth
    c.args.at (cut c.has.ensures (ap not c.if-not-has.true))))

pub returns-then-mark_at-ne-VARIABLE : goal.returns-then-mark_at-ne-VARIABLE
unfolding place
returns-then-mark_at-ne-VARIABLE c =
    sym (ap place (super_not c.args.tree.now c.args.names c.args.depth c.args.at
    (there c.has.ensures (ap not c.if-not-has.false)) (λ e. c.if-mark_at-ne-VARIABLE.true (c.mark_at.ensures ∙ e))))

pub returns : goal.returns
returns c =
    c.check_expr.ensures ∙ super_is c.args.tree.now c.args.names c.args.depth c.args.at
    (there c.has.ensures (ap not c.if-not-has.false)) (sym c.mark_at.ensures ∙ c.if-mark_at-ne-VARIABLE.false)
