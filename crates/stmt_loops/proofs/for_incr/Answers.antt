-- The increment, and its value is dropped.
use Rattle.expressions.proofs.Arms.{ran_fit}
use Rattle.stmt_loops.proofs.Loops.{incr_expr, incr_none, incr_stop, incr_done}
use Rattle.stmt_loops.proofs.for_incr.Goals as goal

pub returns-then-parts-ne1-clause-does : goal.returns-then-parts-ne1-clause-does
returns-then-parts-ne1-clause-does c = λ d. incr_none _ c.args.parts d _ c.if-parts-ne1.true c.requires.1

pub compile_expr-a-requires : goal.compile_expr-a-requires
compile_expr-a-requires c =
    let value_there = incr_expr c.requires.0 c.if-parts-ne1.false in
    (value_there, c.requires.1)

pub returns-in_default-clause-does : goal.returns-in_default-clause-does
returns-in_default-clause-does c =
    λ d. incr_stop _ c.args.parts d _ c.if-parts-ne1.false (c.compile_expr-a.ensures.does d) c.in_default.is

pub emit_op-requires : goal.emit_op-requires
emit_op-requires c =
    let value_there = incr_expr c.requires.0 c.if-parts-ne1.false in
    ran_fit value_there c.compile_expr-a.ensures.does c.in-Ok.is

pub returns-clause-does : goal.returns-clause-does
returns-clause-does c =
    λ d. incr_done _ c.args.parts d _ c.if-parts-ne1.false (c.compile_expr-a.ensures.does d) c.in-Ok.is (c.emit_op.ensures.does _)
