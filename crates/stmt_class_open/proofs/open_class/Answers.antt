-- `open_class`, line by line.
use mathlib.Core.Path.{sym, ◌∙◌}
use Prim.Native.Nat.{ℕ, ◌<◌}
use native.Mathlib.Omega.{arith}
use Rattle.state.specs.Layout.{deepest}
use Rattle.steps.proofs.Steps.{went}
use Rattle.stmt_heads.proofs.Heads.{depth_on}
use Rattle.stmt_class_open.proofs.Opening.{class_stop, class_stop_2, class_stop_3, class_bare, class_full, opened_fit}
use Rattle.stmt_class_open.proofs.open_class.Goals as goal

pub returns-in_default-clause-does : goal.returns-in_default-clause-does
returns-in_default-clause-does c = λ class. class_stop _ _ _ _ c.u16_at-name.ensures (c.emit_op_name-a.ensures.does class) c.in_default.is

pub define_name-b-requires : goal.define_name-b-requires
define_name-b-requires c = (went (c.emit_op_name-a.ensures.does 0) c.in-Ok.is).ahead.fit

pub returns-in_default-b-clause-does : goal.returns-in_default-b-clause-does
returns-in_default-b-clause-does c =
    λ class. class_stop_2 _ _ _ _ c.u16_at-name.ensures (c.emit_op_name-a.ensures.does class)
    c.in-Ok.is (c.define_name-b.ensures.does class) c.in_default-b.is

pub superclass-d-requires : goal.superclass-d-requires
superclass-d-requires c = (
  c.requires.0,
  (went (c.define_name-b.ensures.does 0)
      c.in-Ok-b.is).ahead.fit,
  depth_on (λ (d : ℕ). d < deepest)
      (c.define_name-b.ensures.does 0) c.in-Ok-b.is
      (depth_on (λ (d : ℕ). d < deepest) (c.emit_op_name-a.ensures.does 0) c.in-Ok.is c.requires.2),
)

pub returns-in_default-d-clause-does : goal.returns-in_default-d-clause-does
returns-in_default-d-clause-does c =
    λ class. class_stop_3 _ _ _ _ c.u16_at-name.ensures (c.emit_op_name-a.ensures.does class)
    c.in-Ok.is (c.define_name-b.ensures.does class)
    c.in-Ok-b.is c.superclass-d.ensures.does c.in_default-d.is

pub overflow_add-at-2 : goal.overflow_add-at-2
overflow_add-at-2 c = omega (arith, c.requires.0.bound, c.well_formed)

pub u16_at-requires : goal.u16_at-requires
u16_at-requires c = omega (arith, c.requires.0.bound)

pub returns-then-u16_at-eq0-clause-does : goal.returns-then-u16_at-eq0-clause-does
returns-then-u16_at-eq0-clause-does c =
    λ class. class_bare _ _ _ _ c.u16_at-name.ensures (c.emit_op_name-a.ensures.does class)
    c.in-Ok.is (c.define_name-b.ensures.does class) c.in-Ok-b.is
    c.superclass-d.ensures.does c.in-Ok-d.is (sym c.u16_at.ensures ∙ c.if-u16_at-eq0.true)

pub inner_class-class-requires : goal.inner_class-class-requires
inner_class-class-requires c = c.requires.0

pub get_variable-requires : goal.get_variable-requires
get_variable-requires c = opened_fit _ _ c.requires.0 c.superclass-d.ensures.does c.in-Ok-d.is

pub returns-clause-does : goal.returns-clause-does
returns-clause-does c =
    λ class. class_full _ _ _ _ c.u16_at-name.ensures (c.emit_op_name-a.ensures.does class)
    c.in-Ok.is (c.define_name-b.ensures.does class)
    c.in-Ok-b.is c.superclass-d.ensures.does c.in-Ok-d.is
    (λ h. c.if-u16_at-eq0.false (c.u16_at.ensures ∙ h)) c.inner_class-class.ensures
    c.get_variable.ensures.does
