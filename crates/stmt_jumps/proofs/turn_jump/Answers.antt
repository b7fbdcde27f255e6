-- From an `if`'s first part to its second.
use Rattle.steps.proofs.Steps.{went, went_to, still}
use Rattle.stmt_jumps.proofs.Jumps.{turn_stop, turn_stop_2, turn_done}
use Rattle.stmt_jumps.proofs.turn_jump.Goals as goal

pub returns-in_default-clause-does : goal.returns-in_default-clause-does
returns-in_default-clause-does c = λ class. turn_stop _ _ (c.emit_jump-a.ensures.does class) c.in_default.is

pub patch_jump-b-requires : goal.patch_jump-b-requires
patch_jump-b-requires c =
    let g = went_to (c.emit_jump-a.ensures.does 0) c.in-Ok.is in (g.ahead.fit, still _ c.requires.1 g)

pub returns-in_default-b-clause-does : goal.returns-in_default-b-clause-does
returns-in_default-b-clause-does c =
    λ class. turn_stop_2 _ _ (c.emit_jump-a.ensures.does class) c.in-Ok.is (c.patch_jump-b.ensures.does class) c.in_default-b.is

pub emit_op-requires : goal.emit_op-requires
emit_op-requires c =
    (went (c.patch_jump-b.ensures.does 0) c.in-Ok-b.is).ahead.fit

pub returns-clause-does : goal.returns-clause-does
returns-clause-does c =
    λ class. turn_done _ _ (c.emit_jump-a.ensures.does class) c.in-Ok.is (c.patch_jump-b.ensures.does class) c.in-Ok-b.is (c.emit_op.ensures.does class)
