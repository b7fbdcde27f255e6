-- An expression, and what is done with its value.
use native.Mathlib.Omega.{arith}
use Rattle.expressions.proofs.Arms.{ran_fit}
use Rattle.stmt_plain_laws.proofs.Values as ways
use Rattle.stmt_values.proofs.value_then.Goals as goal

pub overflow_add-at : goal.overflow_add-at
overflow_add-at c = let b = ways.bound c.requires.0 in omega (arith, b)

pub span_at-span-requires : goal.span_at-span-requires
span_at-span-requires c = let b = ways.bound c.requires.0 in omega (arith, b)

pub overflow_add-at-2 : goal.overflow_add-at-2
overflow_add-at-2 c = let b = ways.bound c.requires.0 in omega (arith, b)

pub compile_expr-a-requires : goal.compile_expr-a-requires
compile_expr-a-requires c =
    let value_there = ways.one_there {limit = 0} (ways.one_of _ _ _ c.requires.1) c.requires.0.there in
    (value_there, c.requires.2)

pub returns-in_default-clause-does : goal.returns-in_default-clause-does
returns-in_default-clause-does c =
    λ d. ways.one_stop (ways.one_of _ d _ c.requires.1) (c.compile_expr-a.ensures.does _) c.in_default.is

pub emit_op-requires : goal.emit_op-requires
emit_op-requires c =
    let value_there = ways.one_there {limit = 0} (ways.one_of _ _ _ c.requires.1) c.requires.0.there in
    ran_fit value_there c.compile_expr-a.ensures.does c.in-Ok.is

pub returns-clause-does : goal.returns-clause-does
returns-clause-does c =
    λ d. ways.one_done (ways.one_of _ d _ c.requires.1) _ c.span_at-span.ensures (c.compile_expr-a.ensures.does _) c.in-Ok.is (c.emit_op.ensures.does _)
