-- `compile_superclass` of a superclass, line by line.
use native.Mathlib.Omega.{arith}
use Rattle.steps.proofs.Steps.{went, halt, then_on}
use Rattle.stmt_superclass.proofs.Inheriting.{begun_fit, declared_fit, defined_fit, inherit_self, inherit_stop, inherit_done}
use Rattle.stmt_superclass.proofs.inherit.Goals as goal

pub returns-then-parent-name-clause-does : goal.returns-then-parent-name-clause-does
returns-then-parent-name-clause-does c = inherit_self _ _ _ _ c.u16_at-parent.ensures c.if-parent-name.true

pub declare_local-d-requires : goal.declare_local-d-requires
declare_local-d-requires c = let f = begun_fit _ _ c.requires.1 c.begin_scope.ensures in (f.low, f.wf)

pub returns-in_default-clause-does : goal.returns-in_default-clause-does
returns-in_default-clause-does c =
    inherit_stop _ _ _ _ c.u16_at-parent.ensures c.span_at-place.ensures c.if-parent-name.false _ _
    c.requires.1 c.begin_scope.ensures c.declare_local-d.ensures c.in_default.is

pub define_local-requires : goal.define_local-requires
define_local-requires c =
    let f = declared_fit _ _ c.requires.1 c.begin_scope.ensures
    c.declare_local-d.ensures c.in-Ok.is in (f.low, f.wf)

pub get_variable-a-requires : goal.get_variable-a-requires
get_variable-a-requires c =
    defined_fit _ _ c.requires.1 c.begin_scope.ensures
    c.declare_local-d.ensures c.in-Ok.is c.define_local.ensures

pub returns-in_default-a-clause-does : goal.returns-in_default-a-clause-does
returns-in_default-a-clause-does c =
    inherit_done _ _ _ _ c.u16_at-parent.ensures c.span_at-place.ensures c.if-parent-name.false _ _
    c.requires.1 c.begin_scope.ensures c.declare_local-d.ensures
    c.in-Ok.is c.define_local.ensures
    (halt _ c.get_variable-a.ensures.does c.in_default-a.is)

pub get_variable-b-requires : goal.get_variable-b-requires
get_variable-b-requires c = (went c.get_variable-a.ensures.does c.in-Ok-a.is).ahead.fit

pub returns-in_default-b-clause-does : goal.returns-in_default-b-clause-does
returns-in_default-b-clause-does c =
    inherit_done _ _ _ _ c.u16_at-parent.ensures c.span_at-place.ensures c.if-parent-name.false _ _
    c.requires.1 c.begin_scope.ensures c.declare_local-d.ensures
    c.in-Ok.is c.define_local.ensures
    (then_on _ c.get_variable-a.ensures.does c.in-Ok-a.is
    (halt _ c.get_variable-b.ensures.does c.in_default-b.is))

pub overflow_add-at-3 : goal.overflow_add-at-3
overflow_add-at-3 c = omega (arith, c.requires.0, c.well_formed)

pub emit_op-requires : goal.emit_op-requires
emit_op-requires c = (went c.get_variable-b.ensures.does c.in-Ok-b.is).ahead.fit

pub returns-clause-does : goal.returns-clause-does
returns-clause-does c =
    inherit_done _ _ _ _ c.u16_at-parent.ensures c.span_at-place.ensures c.if-parent-name.false _ _
    c.requires.1 c.begin_scope.ensures c.declare_local-d.ensures
    c.in-Ok.is c.define_local.ensures
    (then_on _ c.get_variable-a.ensures.does c.in-Ok-a.is
    (then_on _ c.get_variable-b.ensures.does c.in-Ok-b.is (c.emit_op.ensures.does 2)))
