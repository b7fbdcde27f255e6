-- The cycle of calls {check_expr, check_exprs} meets its contracts.
use Rattle.std.proofs.Common.{rules, ◌≡◌, ◌-◌, sym, ◌∙◌, arith, Err}
use Rattle.rules.specs.TreeFile.{read_expr}
use Rattle.tree_small.specs.Places.{place}
use Rattle.tree_exprs.specs.Exprs.{follow}
use Rattle.tree_small.proofs.Places.{row_none, row_stops, row_goes, row_ends}
use Rattle.tree_exprs.proofs.+check_expr_check_exprs.Goals as goal

pub check_expr-returns-in_err-from : goal.check_expr-returns-in_err-from
unfolding follow
check_expr-returns-in_err-from t c =
    let q : c.from_residual.result ≡ Err c.in_err-from.field-0.0 = search rules in
    q ∙ sym c.in_err-from.ensures.whole

pub check_expr-returns-then-count-eq0 : goal.check_expr-returns-then-count-eq0
unfolding follow
check_expr-returns-then-count-eq0 t c =
    sym (c.in_ok-from.ensures.whole ∙ row_none (λ n. place (read_expr c.args.tree.now c.args.names (c.args.depth - 1) n))
    _ _ (omega (arith, c.if-count-eq0.true)))

pub check_expr-returns : goal.check_expr-returns
unfolding follow
check_expr-returns t c = c.check_exprs.ensures ∙ sym c.in_ok-from.ensures.whole

pub check_exprs-returns-in_err-next : goal.check_exprs-returns-in_err-next
check_exprs-returns-in_err-next t c =
    let q : c.from_residual.result ≡ Err c.in_err-next.field-0.0 = search rules in
    q ∙ row_stops c.loop.invariant c.loop-test.true (sym c.check_expr.ensures ∙ c.in_err-next.was)

pub check_exprs-loop-preserved : goal.check_exprs-loop-preserved
check_exprs-loop-preserved t c = row_goes c.loop.invariant c.loop-test.true (sym c.check_expr.ensures ∙ c.in_ok-next.was)

pub check_exprs-returns : goal.check_exprs-returns
check_exprs-returns t c = row_ends c.loop.invariant c.loop-test.false
