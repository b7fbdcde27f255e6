-- The jump back, and where there is a condition the end that its jump lands on.
use Rattle.std.proofs.lemmas.Option.{MatchOption-at_some}
use Rattle.steps.proofs.Steps.{went, still}
use Rattle.stmt_jumps.proofs.Loops as ways
use Rattle.stmt_jumps.proofs.close_loop.Goals as goal

pub returns-in_default-clause-does : goal.returns-in_default-clause-does
returns-in_default-clause-does c =
    λ class. ways.loop_stop _ c.args.exit _ (c.emit_loop-a.ensures.does class) c.in_default.is

pub returns-in_default-exit-clause-does : goal.returns-in_default-exit-clause-does
returns-in_default-exit-clause-does c =
    λ class. ways.loop_plain _ c.args.exit _ c.in_default-exit.is (c.emit_loop-a.ensures.does class) c.in-Ok.is

pub patch_jump-b-requires : goal.patch_jump-b-requires
patch_jump-b-requires c =
    let g = went (c.emit_loop-a.ensures.does 0) c.in-Ok.is in
    (g.ahead.fit, still _ (MatchOption-at_some _ _ _ c.in-Some.is c.requires.2) g)

pub returns-in_default-b-clause-does : goal.returns-in_default-b-clause-does
returns-in_default-b-clause-does c =
    λ class. ways.loop_patch_stop _ c.args.exit _ c.in-Some.is (c.emit_loop-a.ensures.does class) c.in-Ok.is (c.patch_jump-b.ensures.does class)
    c.in_default-b.is

pub emit_op-requires : goal.emit_op-requires
emit_op-requires c =
    (went (c.patch_jump-b.ensures.does 0) c.in-Ok-b.is).ahead.fit

pub returns-clause-does : goal.returns-clause-does
returns-clause-does c =
    λ class. ways.loop_done _ c.args.exit _ c.in-Some.is (c.emit_loop-a.ensures.does class) c.in-Ok.is (c.patch_jump-b.ensures.does class)
    c.in-Ok-b.is (c.emit_op.ensures.does class)
