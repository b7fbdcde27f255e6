-- How many parts a call has.
use mathlib.Core.Path.{sym, ◌∙◌}
use Rattle.tree_laws.proofs.Expressions.{any_at}
use Rattle.expr_laws.proofs.Calls.{parts_super, parts_other}
use native.Mathlib.Omega.{arith}
use Rattle.expr_calls.proofs.call_parts.Goals as goal

pub overflow_add-at : goal.overflow_add-at
overflow_add-at c = let b = (any_at _ _ _ _ c.requires.there.is).bound in omega (arith, b)

pub u16_at-count-requires : goal.u16_at-count-requires
u16_at-count-requires c = let b = (any_at _ _ _ _ c.requires.there.is).bound in omega (arith, b)

pub overflow_add-at-2 : goal.overflow_add-at-2
overflow_add-at-2 c = let b = (any_at _ _ _ _ c.requires.there.is).bound in omega (arith, b)

pub mark_at-requires : goal.mark_at-requires
mark_at-requires c = let b = (any_at _ _ _ _ c.requires.there.is).bound in omega (arith, b)

pub returns-then-mark_at-eq-SUPER : goal.returns-then-mark_at-eq-SUPER
returns-then-mark_at-eq-SUPER c = parts_super _ _ (sym c.mark_at.ensures ∙ c.if-mark_at-eq-SUPER.true) c.u16_at-count.ensures

pub returns : goal.returns
returns c = parts_other _ _ (λ e. c.if-mark_at-eq-SUPER.false (c.mark_at.ensures ∙ e)) (omega (arith, c.u16_at-count.ensures))
