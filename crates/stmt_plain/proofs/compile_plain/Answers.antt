-- By the mark.
use mathlib.Core.Path.{sym, ◌∙◌}
use native.Mathlib.Omega.{arith}
use Rattle.stmt_plain_laws.proofs.Values.{bound, last_return}
use Rattle.stmt_plain.proofs.compile_plain.Goals as goal

pub mark_at-mark-requires : goal.mark_at-mark-requires
mark_at-mark-requires c = let b = bound c.requires.0 in omega (arith, b)

pub stmt_expr-requires : goal.stmt_expr-requires
stmt_expr-requires c =
    (c.requires.0, sym c.mark_at-mark.ensures ∙ c.if-mark-eq-EXPRESSION.true, c.requires.2)

pub returns-then-mark-eq-EXPRESSION-clause-does : goal.returns-then-mark-eq-EXPRESSION-clause-does
returns-then-mark-eq-EXPRESSION-clause-does c = c.stmt_expr.ensures.does

pub stmt_print-requires : goal.stmt_print-requires
stmt_print-requires c =
    (c.requires.0, sym c.mark_at-mark.ensures ∙ c.if-mark-eq-PRINT.true, c.requires.2)

pub returns-then-mark-eq-PRINT-clause-does : goal.returns-then-mark-eq-PRINT-clause-does
returns-then-mark-eq-PRINT-clause-does c = c.stmt_print.ensures.does

pub compile_var-requires : goal.compile_var-requires
compile_var-requires c =
    (c.requires.0, sym c.mark_at-mark.ensures ∙ c.if-mark-eq-VAR.true, c.requires.2)

pub returns-then-mark-eq-VAR-clause-does : goal.returns-then-mark-eq-VAR-clause-does
returns-then-mark-eq-VAR-clause-does c = c.compile_var.ensures.does

pub compile_return-requires : goal.compile_return-requires
compile_return-requires c =
    (c.requires.0, last_return c.requires.0 c.requires.1 c.mark_at-mark.ensures c.if-mark-eq-EXPRESSION.false c.if-mark-eq-PRINT.false c.if-mark-eq-VAR.false, c.requires.2)

pub returns-clause-does : goal.returns-clause-does
returns-clause-does c = c.compile_return.ensures.does
