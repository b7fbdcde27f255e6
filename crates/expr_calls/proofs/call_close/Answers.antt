-- A call after its last part.
use mathlib.Core.Path.{sym, ◌∙◌}
use Rattle.tree_laws.proofs.Expressions.{any_at, get_at, super_at}
use Rattle.steps.proofs.Steps.{went}
use Rattle.expr_laws.proofs.Calls.{close_super_stop, close_super, close_object, close_value, low_byte}
use native.Mathlib.Omega.{arith}
use Rattle.expr_calls.proofs.call_close.Goals as goal

pub overflow_add-at : goal.overflow_add-at
overflow_add-at c = let b = (any_at _ _ _ _ c.requires.1.there.is).bound in omega (arith, b)

pub u16_at-requires : goal.u16_at-requires
u16_at-requires c = let b = (any_at _ _ _ _ c.requires.1.there.is).bound in omega (arith, b)

pub overflow_add-at-2 : goal.overflow_add-at-2
overflow_add-at-2 c = let b = (any_at _ _ _ _ c.requires.1.there.is).bound in omega (arith, b)

pub mark_at-mark-requires : goal.mark_at-mark-requires
mark_at-mark-requires c = let b = (any_at _ _ _ _ c.requires.1.there.is).bound in omega (arith, b)

pub returns-in_default-clause-does : goal.returns-in_default-clause-does
returns-in_default-clause-does c =
    close_super_stop _ _ _ _ (sym c.mark_at-mark.ensures ∙ c.if-mark-eq-SUPER.true) c.get_variable-a.ensures.does c.in_default.is

pub overflow_add-at-then-mark-eq-SUPER : goal.overflow_add-at-then-mark-eq-SUPER
overflow_add-at-then-mark-eq-SUPER c =
    let b = (super_at _ _ _ _ (sym c.mark_at-mark.ensures ∙ c.if-mark-eq-SUPER.true) c.requires.1.there.is).bound in omega (arith, b)

pub u16_at-name-requires : goal.u16_at-name-requires
u16_at-name-requires c =
    let b = (super_at _ _ _ _ (sym c.mark_at-mark.ensures ∙ c.if-mark-eq-SUPER.true) c.requires.1.there.is).bound in omega (arith, b)

pub emit_invoke-requires : goal.emit_invoke-requires
emit_invoke-requires c =
    (went c.get_variable-a.ensures.does c.in-Ok.is).ahead.fit

pub returns-then-mark-eq-SUPER-clause-does : goal.returns-then-mark-eq-SUPER-clause-does
returns-then-mark-eq-SUPER-clause-does c =
    close_super _ _ _ _ _ _ (low_byte c.u16_at.ensures c.requires.2) (sym c.mark_at-mark.ensures ∙ c.if-mark-eq-SUPER.true) c.u16_at-name.ensures c.get_variable-a.ensures.does
    c.in-Ok.is (c.emit_invoke.ensures.does _)

pub overflow_add-at-then-mark-eq-GET : goal.overflow_add-at-then-mark-eq-GET
overflow_add-at-then-mark-eq-GET c =
    let b = (get_at _ _ _ _ (sym c.mark_at-mark.ensures ∙ c.if-mark-eq-GET.true) c.requires.1.there.is).bound in omega (arith, b)

pub u16_at-name-requires-then-mark-eq-GET : goal.u16_at-name-requires-then-mark-eq-GET
u16_at-name-requires-then-mark-eq-GET c =
    let b = (get_at _ _ _ _ (sym c.mark_at-mark.ensures ∙ c.if-mark-eq-GET.true) c.requires.1.there.is).bound in omega (arith, b)

pub returns-then-mark-eq-GET-clause-does : goal.returns-then-mark-eq-GET-clause-does
returns-then-mark-eq-GET-clause-does c =
    close_object _ _ _ _ _ _ (low_byte c.u16_at.ensures c.requires.2) (sym c.mark_at-mark.ensures ∙ c.if-mark-eq-GET.true) c.u16_at-name-then-mark-eq-GET.ensures
    (c.emit_invoke-then-mark-eq-GET.ensures.does _)

pub returns-clause-does : goal.returns-clause-does
returns-clause-does c =
    close_value _ _ _ _ _ (low_byte c.u16_at.ensures c.requires.2) (λ e. c.if-mark-eq-GET.false (c.mark_at-mark.ensures ∙ e)) (λ e. c.if-mark-eq-SUPER.false (c.mark_at-mark.ensures ∙ e))
    (c.emit_op_u8.ensures.does _)
