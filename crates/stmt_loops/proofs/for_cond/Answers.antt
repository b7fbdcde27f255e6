-- The condition, and the jump past the loop.
use Rattle.expressions.proofs.Arms.{ran_fit}
use Rattle.stmt_loops.proofs.Loops.{cond_expr, cond_none, cond_stop, cond_stop_2, cond_done}
use Rattle.stmt_loops.proofs.for_cond.Goals as goal

pub returns-then-parts-ne1-clause-does : goal.returns-then-parts-ne1-clause-does
returns-then-parts-ne1-clause-does c = λ d. cond_none _ c.args.parts d _ c.if-parts-ne1.true c.requires.1

pub compile_expr-a-requires : goal.compile_expr-a-requires
compile_expr-a-requires c =
    let value_there = cond_expr c.requires.0 c.if-parts-ne1.false in
    (value_there, c.requires.1)

pub returns-in-Err-clause-does : goal.returns-in-Err-clause-does
returns-in-Err-clause-does c =
    λ d. cond_stop _ c.args.parts d _ c.if-parts-ne1.false (c.compile_expr-a.ensures.does d) c.in-Err.is

pub open_jump-b-requires : goal.open_jump-b-requires
open_jump-b-requires c =
    let value_there = cond_expr c.requires.0 c.if-parts-ne1.false in
    ran_fit value_there c.compile_expr-a.ensures.does c.in-Ok.is

pub returns-in-Err-b-clause-does : goal.returns-in-Err-b-clause-does
returns-in-Err-b-clause-does c =
    λ d. cond_stop_2 _ c.args.parts d _ c.if-parts-ne1.false (c.compile_expr-a.ensures.does d) c.in-Ok.is (c.open_jump-b.ensures.does _) c.in-Err-b.is

pub returns-clause-does : goal.returns-clause-does
returns-clause-does c =
    λ d. cond_done _ c.args.parts d _ c.if-parts-ne1.false (c.compile_expr-a.ensures.does d) c.in-Ok.is (c.open_jump-b.ensures.does _) c.in-Ok-b.is
