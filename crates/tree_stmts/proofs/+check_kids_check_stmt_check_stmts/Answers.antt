-- The cycle of calls {check_kids, check_stmt, check_stmts} meets its contracts.
use Rattle.std.proofs.Common.{rules, ◌≡◌, refl, sym, ap, ◌∙◌, arith, Ok, Err}
use Rattle.tree_stmts.specs.Stmts.{kids_place, follow_head}
use Rattle.tree_stmts.proofs.Statements.{follows}
use Rattle.tree_small.proofs.Places.{goes, stops, row_none, row_stops, row_goes, row_ends}
use Rattle.tree_stmts.proofs.+check_kids_check_stmt_check_stmts.Goals as goal

-- ## What the records of a statement announce

pub check_kids-returns-in_err-at : goal.check_kids-returns-in_err-at
unfolding kids_place
check_kids-returns-in_err-at t c =
    let q : c.from_residual.result ≡ Err c.in_err-at.field-0.0 = search rules in
    q ∙ sym (stops _ (sym c.in_err-at.ensures))

pub check_kids-returns-in_err-at-2 : goal.check_kids-returns-in_err-at-2
unfolding kids_place
check_kids-returns-in_err-at-2 t c =
    let q : c.from_residual-in_err-at-2.result ≡ Err c.in_err-at-2.field-0.0 = search rules in
    q ∙ sym (goes _ (sym c.in_ok-at.ensures) ∙
    stops _ (sym c.in_err-at-2.ensures))

pub check_kids-returns-in_err-at-3 : goal.check_kids-returns-in_err-at-3
unfolding kids_place
check_kids-returns-in_err-at-3 t c =
    let q : c.from_residual-in_err-at-3.result ≡ Err c.in_err-at-3.field-0.0 = search rules in
    q ∙ sym (goes _ (sym c.in_ok-at.ensures) ∙
    goes _ (sym c.in_ok-at-2.ensures) ∙
    stops _ (sym c.in_err-at-3.ensures))

pub check_kids-returns-then-plan-eq0 : goal.check_kids-returns-then-plan-eq0
unfolding kids_place
check_kids-returns-then-plan-eq0 t c =
    sym (goes _ (sym c.in_ok-at.ensures) ∙
    goes _ (sym c.in_ok-at-2.ensures) ∙
    goes _ (sym c.in_ok-at-3.ensures) ∙ row_none _ _ _ (omega (arith, c.if-plan-eq0.true)))

pub check_kids-returns-in_err-check_exprs : goal.check_kids-returns-in_err-check_exprs
unfolding kids_place
check_kids-returns-in_err-check_exprs t c =
    let q : c.from_residual-in_err-check_exprs.result ≡ Err c.in_err-check_exprs.field-0.0 = search rules in
    q ∙ c.in_err-check_exprs.ensures ∙ sym (goes _ (sym c.in_ok-at.ensures) ∙
    goes _ (sym c.in_ok-at-2.ensures) ∙
    goes _ (sym c.in_ok-at-3.ensures))

pub check_kids-returns : goal.check_kids-returns
unfolding kids_place
check_kids-returns t c =
    c.in_ok-check_exprs.ensures ∙ sym (goes _ (sym c.in_ok-at.ensures) ∙
    goes _ (sym c.in_ok-at-2.ensures) ∙
    goes _ (sym c.in_ok-at-3.ensures))

-- ## A statement

pub check_stmt-returns-in-Err : goal.check_stmt-returns-in-Err
unfolding follow_head
check_stmt-returns-in-Err t c = follows c.open_stmt.ensures c.in-Err.is refl

pub check_stmt-returns-in-Ok-Kids : goal.check_stmt-returns-in-Ok-Kids
unfolding follow_head
check_stmt-returns-in-Ok-Kids t c = follows c.open_stmt.ensures (c.in-Ok-Kids.is ∙ ap Ok c.in-Ok-Kids.field-0-is) c.check_kids.ensures

pub check_stmt-returns-in_err-check_exprs-in-Ok-Exprs : goal.check_stmt-returns-in_err-check_exprs-in-Ok-Exprs
unfolding follow_head
check_stmt-returns-in_err-check_exprs-in-Ok-Exprs t c =
    let q : c.from_residual.result ≡ Err c.in_err-check_exprs-in-Ok-Exprs.field-0.0 = search rules in
    q ∙ follows c.open_stmt.ensures (c.in-Ok-Exprs.is ∙ ap Ok c.in-Ok-Exprs.field-0-is) c.in_err-check_exprs-in-Ok-Exprs.ensures

pub check_stmt-returns-in_ok-check_exprs-in-Ok-Exprs : goal.check_stmt-returns-in_ok-check_exprs-in-Ok-Exprs
unfolding follow_head
check_stmt-returns-in_ok-check_exprs-in-Ok-Exprs t c = follows c.open_stmt.ensures (c.in-Ok-Exprs.is ∙ ap Ok c.in-Ok-Exprs.field-0-is) c.in_ok-check_exprs-in-Ok-Exprs.ensures

-- ## Statements in a row

pub check_stmts-returns-in_err-next : goal.check_stmts-returns-in_err-next
check_stmts-returns-in_err-next t c =
    let q : c.from_residual.result ≡ Err c.in_err-next.field-0.0 = search rules in
    q ∙ row_stops c.loop.invariant c.loop-test.true (sym c.in_err-next.ensures)

pub check_stmts-loop-preserved : goal.check_stmts-loop-preserved
check_stmts-loop-preserved t c = row_goes c.loop.invariant c.loop-test.true (sym c.in_ok-next.ensures)

pub check_stmts-returns : goal.check_stmts-returns
check_stmts-returns t c = row_ends c.loop.invariant c.loop-test.false
