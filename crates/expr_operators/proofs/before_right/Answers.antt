-- Before the right side.
use borrow.Author.Rules.{rules}
use Rattle.steps.proofs.Steps.{went, went_to, placed, still}
use Rattle.expr_laws.proofs.Operators.{begun_plain, begun_stop, begun_and, begun_or_stop, begun_or_stop_2, begun_or}
use Rattle.expr_operators.proofs.before_right.Goals as goal

pub returns-then-operator-lt10-clause-does : goal.returns-then-operator-lt10-clause-does
returns-then-operator-lt10-clause-does c = λ class. begun_plain _ c.if-operator-lt10.true c.requires

pub returns-in_default-clause-does : goal.returns-in_default-clause-does
returns-in_default-clause-does c =
    λ class. begun_stop _ c.if-operator-lt10.false (c.emit_jump-a.ensures.does class) c.in_default.is

pub emit_op-requires : goal.emit_op-requires
emit_op-requires c =
    (went_to (c.emit_jump-a.ensures.does 0) c.in-Ok.is).ahead.fit

pub returns-then-operator-eq10-clause-does : goal.returns-then-operator-eq10-clause-does
returns-then-operator-eq10-clause-does c =
    λ class. begun_and _ c.if-operator-eq10.true (c.emit_jump-a.ensures.does class) c.in-Ok.is (c.emit_op.ensures.does class)

pub emit_jump-b-requires : goal.emit_jump-b-requires
emit_jump-b-requires c =
    (went_to (c.emit_jump-a.ensures.does 0) c.in-Ok.is).ahead.fit

pub returns-in_default-b-clause-does : goal.returns-in_default-b-clause-does
returns-in_default-b-clause-does c =
    λ class. begun_or_stop _ c.if-operator-lt10.false (search rules) (c.emit_jump-a.ensures.does class) c.in-Ok.is (c.emit_jump-b.ensures.does class) c.in_default-b.is

pub patch_jump-d-requires : goal.patch_jump-d-requires
patch_jump-d-requires c =
    let g = went_to (c.emit_jump-b.ensures.does 0) c.in-Ok-b.is in (g.ahead.fit, still _ (placed (c.emit_jump-a.ensures.does 0) c.in-Ok.is) g)

pub returns-in_default-d-clause-does : goal.returns-in_default-d-clause-does
returns-in_default-d-clause-does c =
    λ class. begun_or_stop_2 _ c.if-operator-lt10.false c.if-operator-eq10.false (c.emit_jump-a.ensures.does class) c.in-Ok.is (c.emit_jump-b.ensures.does class) c.in-Ok-b.is
    (c.patch_jump-d.ensures.does class) c.in_default-d.is

pub emit_op-requires-2 : goal.emit_op-requires-2
emit_op-requires-2 c =
    (went (c.patch_jump-d.ensures.does 0) c.in-Ok-d.is).ahead.fit

pub returns-clause-does : goal.returns-clause-does
returns-clause-does c =
    λ class. begun_or _ c.if-operator-lt10.false c.if-operator-eq10.false (c.emit_jump-a.ensures.does class) c.in-Ok.is (c.emit_jump-b.ensures.does class) c.in-Ok-b.is
    (c.patch_jump-d.ensures.does class) c.in-Ok-d.is (c.emit_op-2.ensures.does class)
