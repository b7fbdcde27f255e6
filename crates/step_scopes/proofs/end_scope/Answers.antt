-- `end_scope` meets its contract. The loop's invariant: what is left to pop comes to the same from where the loop began and from where it stands. The measure is the number of locals.
use borrow.Author.Rules.{rules}
use mathlib.Core.Path.{refl, ap, ◌∙◌}
use Rattle.step_scopes.proofs.Scopes as ways
use Rattle.steps.proofs.Steps.{next, stop}
use mathlib.Core.Bool.{true, false}
use Rattle.std.specs.Prelude.{Ok, Err}
use Rattle.step_scopes.proofs.end_scope.Goals as goal

pub loop-why-init : goal.loop-why-init
loop-why-init c =
    let a = c.args in (
      ways.passing_none _
          (ways.lowered a.level _ _ _ c.move_scope.ensures refl {class = 0} a.work.now.code.now a.work.now.spans.now c.requires.0).ahead.fit,
      (refl, refl, refl, refl, refl, refl),
    )

pub returns-in-Ok-false-clause-does : goal.returns-in-Ok-false-clause-does
returns-in-Ok-false-clause-does c =
    λ class. let a = c.args in next (ways.ended a.level a.limit _ a.span a.work.now.table.now a.work.now.code.now a.work.now.spans.now _
    c.requires.0 c.move_scope.ensures refl _ c.loop-why.invariant.0 _
    (ways.popped_as (Ok false) c.pop_local-popped.ensures.does (c.in-Ok-false.is ∙ ap Ok c.in-Ok-false.field-0-test)))

pub returns-in-Err-clause-does : goal.returns-in-Err-clause-does
returns-in-Err-clause-does c =
    λ class. let a = c.args in stop _ (ways.ended_full a.level a.limit _ a.span a.work.now.table.now a.work.now.code.now a.work.now.spans.now _
    c.requires.0 c.move_scope.ensures refl _ c.loop-why.invariant.0 _ _
    (ways.popped_as (Err _) c.pop_local-popped.ensures.does c.in-Err.is))

pub loop-why-smaller : goal.loop-why-smaller
loop-why-smaller c = (ways.popped_as (Ok true) c.pop_local-popped.ensures.does (c.in-Ok-true.is ∙ ap Ok c.in-Ok-true.field-0-test)).does.1

pub loop-why-preserved : goal.loop-why-preserved
loop-why-preserved c = (
  ways.passing_then c.loop-why.invariant.0
      (ways.popped_as (Ok true) c.pop_local-popped.ensures.does (c.in-Ok-true.is ∙ ap Ok c.in-Ok-true.field-0-test)).does.0,
  search rules,
)
