-- A call up to its first part.
use mathlib.Core.Path.{sym, ◌∙◌}
use Rattle.tree_laws.proofs.Expressions.{any_at, get_at, super_at}
use Rattle.expr_laws.proofs.Calls.{too_many, super_stop, super_open, object_open, value_open}
use native.Mathlib.Omega.{arith}
use Rattle.expr_calls.proofs.call_open.Goals as goal

pub overflow_add-at : goal.overflow_add-at
overflow_add-at c = let b = (any_at _ _ _ _ c.requires.1.there.is).bound in omega (arith, b)

pub u16_at-requires : goal.u16_at-requires
u16_at-requires c = let b = (any_at _ _ _ _ c.requires.1.there.is).bound in omega (arith, b)

pub returns-then-u16_at-gt-ARGS-clause-does : goal.returns-then-u16_at-gt-ARGS-clause-does
returns-then-u16_at-gt-ARGS-clause-does c = too_many _ _ _ (omega (arith, c.u16_at.ensures, c.if-u16_at-gt-ARGS.true))

pub overflow_add-at-2 : goal.overflow_add-at-2
overflow_add-at-2 c = let b = (any_at _ _ _ _ c.requires.1.there.is).bound in omega (arith, b)

pub mark_at-mark-requires : goal.mark_at-mark-requires
mark_at-mark-requires c = let b = (any_at _ _ _ _ c.requires.1.there.is).bound in omega (arith, b)

pub returns-in_default-clause-does : goal.returns-in_default-clause-does
returns-in_default-clause-does c =
    super_stop _ _ _ (omega (arith, c.u16_at.ensures)) (sym c.mark_at-mark.ensures ∙ c.if-mark-eq-SUPER.true) (c.need_super-n.ensures.gives _ c.requires.0)
    c.in_default.is

pub overflow_add-at-then-mark-eq-SUPER : goal.overflow_add-at-then-mark-eq-SUPER
overflow_add-at-then-mark-eq-SUPER c =
    let b = (super_at _ _ _ _ (sym c.mark_at-mark.ensures ∙ c.if-mark-eq-SUPER.true) c.requires.1.there.is).bound in omega (arith, b)

pub returns-then-mark-eq-SUPER-clause-does : goal.returns-then-mark-eq-SUPER-clause-does
returns-then-mark-eq-SUPER-clause-does c =
    super_open _ _ _ (omega (arith, c.u16_at.ensures, c.if-u16_at-gt-ARGS.false)) (sym c.mark_at-mark.ensures ∙ c.if-mark-eq-SUPER.true) (c.need_super-n.ensures.gives _ c.requires.0)
    c.in-Ok.is c.get_variable.ensures.does

pub overflow_add-result : goal.overflow_add-result
overflow_add-result c =
    let b = (get_at _ _ _ _ (sym c.mark_at-mark.ensures ∙ c.if-mark-eq-GET.true) c.requires.1.there.is).bound in omega (arith, b)

pub returns-then-mark-eq-GET-clause-does : goal.returns-then-mark-eq-GET-clause-does
returns-then-mark-eq-GET-clause-does c =
    object_open _ _ _ c.requires.0 (omega (arith, c.u16_at.ensures, c.if-u16_at-gt-ARGS.false)) (sym c.mark_at-mark.ensures ∙ c.if-mark-eq-GET.true)

pub overflow_add-result-2 : goal.overflow_add-result-2
overflow_add-result-2 c = let b = (any_at _ _ _ _ c.requires.1.there.is).bound in omega (arith, b)

pub returns-clause-does : goal.returns-clause-does
returns-clause-does c =
    value_open _ _ _ c.requires.0 (omega (arith, c.u16_at.ensures, c.if-u16_at-gt-ARGS.false)) (λ e. c.if-mark-eq-GET.false (c.mark_at-mark.ensures ∙ e))
    (λ e. c.if-mark-eq-SUPER.false (c.mark_at-mark.ensures ∙ e))
