-- A `return` with no value, or the kind of function and then the value.
use native.Mathlib.Omega.{arith}
use Rattle.expressions.proofs.Arms.{ran_fit}
use Rattle.stmt_returns.proofs.Returns as ways
use Rattle.stmt_returns.proofs.compile_return.Goals as goal

pub overflow_add-at : goal.overflow_add-at
overflow_add-at c =
    let bound = ways.return_bound c.requires.1 c.requires.0 in
    let b = bound in omega (arith, b)

pub span_at-span-requires : goal.span_at-span-requires
span_at-span-requires c =
    let bound = ways.return_bound c.requires.1 c.requires.0 in
    let b = bound in omega (arith, b)

pub overflow_add-at-2 : goal.overflow_add-at-2
overflow_add-at-2 c =
    let bound = ways.return_bound c.requires.1 c.requires.0 in
    let b = bound in omega (arith, b)

pub u8_at-requires : goal.u8_at-requires
u8_at-requires c =
    let bound = ways.return_bound c.requires.1 c.requires.0 in
    let b = bound in omega (arith, b)

pub overflow_add-at-then-u8_at-eq0 : goal.overflow_add-at-then-u8_at-eq0
overflow_add-at-then-u8_at-eq0 c =
    let bound = ways.return_bound c.requires.1 c.requires.0 in
    let b = bound in omega (arith, b)

pub returns-then-u8_at-eq0-clause-does : goal.returns-then-u8_at-eq0-clause-does
returns-then-u8_at-eq0-clause-does c =
    λ d. ways.return_none _ d _ _ c.requires.1 _ c.u8_at.ensures _ c.span_at-span.ensures c.if-u8_at-eq0.true (c.return_nothing.ensures.does _)

pub overflow_add-at-3 : goal.overflow_add-at-3
overflow_add-at-3 c =
    let bound = ways.return_bound c.requires.1 c.requires.0 in
    let b = bound in omega (arith, b)

pub returns-in_default-clause-does : goal.returns-in_default-clause-does
returns-in_default-clause-does c =
    λ d. ways.return_stop _ d _ _ c.requires.1 _ c.u8_at.ensures c.if-u8_at-eq0.false _ c.span_at-span.ensures
    (c.return_kind-a.ensures.gives c.args.work.now.code.now c.args.work.now.spans.now c.requires.2) c.in_default.is

pub overflow_add-at-4 : goal.overflow_add-at-4
overflow_add-at-4 c =
    let bound = ways.return_bound c.requires.1 c.requires.0 in
    let b = bound in omega (arith, b)

pub compile_expr-b-requires : goal.compile_expr-b-requires
compile_expr-b-requires c =
    let value_there = ways.return_there c.requires.1 _ c.u8_at.ensures c.if-u8_at-eq0.false c.requires.0 in
    (value_there, c.requires.2)

pub returns-in_default-b-clause-does : goal.returns-in_default-b-clause-does
returns-in_default-b-clause-does c =
    λ d. ways.return_value_stop _ d _ _ c.requires.1 _ c.u8_at.ensures c.if-u8_at-eq0.false _ c.span_at-span.ensures
    (c.return_kind-a.ensures.gives c.args.work.now.code.now c.args.work.now.spans.now c.requires.2) c.in-Ok.is (c.compile_expr-b.ensures.does _) c.in_default-b.is

pub emit_op-requires : goal.emit_op-requires
emit_op-requires c =
    let value_there = ways.return_there c.requires.1 _ c.u8_at.ensures c.if-u8_at-eq0.false c.requires.0 in
    ran_fit value_there c.compile_expr-b.ensures.does c.in-Ok-b.is

pub returns-clause-does : goal.returns-clause-does
returns-clause-does c =
    λ d. ways.return_done _ d _ _ c.requires.1 _ c.u8_at.ensures c.if-u8_at-eq0.false _ c.span_at-span.ensures
    (c.return_kind-a.ensures.gives c.args.work.now.code.now c.args.work.now.spans.now c.requires.2) c.in-Ok.is (c.compile_expr-b.ensures.does _) c.in-Ok-b.is (c.emit_op.ensures.does _)
