-- The value, or NIL.
use Rattle.stmt_plain_laws.proofs.Values as ways
use Rattle.stmt_vars.proofs.compile_value.Goals as goal

pub returns-then-flag-eq0-clause-does : goal.returns-then-flag-eq0-clause-does
returns-then-flag-eq0-clause-does c =
    λ d. ways.value_none _ d _ _ _ c.if-flag-eq0.true (c.emit_op.ensures.does _)

pub compile_expr-requires : goal.compile_expr-requires
compile_expr-requires c =
    (ways.value_there c.if-flag-eq0.false c.requires.0, c.requires.1)

pub returns-clause-does : goal.returns-clause-does
returns-clause-does c =
    λ d. ways.value_some _ d _ _ _ c.if-flag-eq0.false (c.compile_expr.ensures.does d)
