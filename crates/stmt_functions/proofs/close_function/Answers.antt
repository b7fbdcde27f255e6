-- `close_function` meets its contract.
use mathlib.Core.Path.{refl}
use native.Mathlib.Omega.{arith}
use Prim.Native.Nat.{◌+◌}
use Rattle.state.specs.Layout.{image_at}
use Rattle.steps.specs.View.{areas}
use Rattle.steps.proofs.Steps.{went}
use Rattle.stmt_functions.proofs.Records.{can_put}
use Rattle.stmt_functions.proofs.Closing.{closed_first_at, fit_after_at, closed_last_at}
use Rattle.stmt_functions.proofs.close_function.Goals as goal

pub returns-in_default-clause-does : goal.returns-in_default-clause-does
returns-in_default-clause-does c =
    λ class. let a = c.args in closed_first_at a.limit a.level a.span (areas a.work.now)
    (c.implicit_return-a.ensures.does class) c.in_default.is

pub overflow_cast-number : goal.overflow_cast-number
overflow_cast-number c =
    omega (arith, (went (c.implicit_return-a.ensures.does 0) c.in-Ok.is).ahead.beyond refl image_at (omega arith), c.requires.3)

pub finish_in-requires : goal.finish_in-requires
finish_in-requires c =
    let g = (went (c.implicit_return-a.ensures.does 0) c.in-Ok.is).ahead in (
      can_put g.fit c.requires.2,
      omega (arith, g.beyond refl image_at (omega arith), c.requires.3),
      omega
          (arith, g.beyond refl (image_at + 1) (omega arith), c.requires.4),
    )

pub emit_closure-requires : goal.emit_closure-requires
emit_closure-requires c =
    let a = c.args in (
      rw c.finish_in.ensures.code (rw c.finish_in.ensures.spans (fit_after_at a.limit a.level a.span (areas a.work.now) _ _ _ _ _ _ _
          c.requires.0 (went (c.implicit_return-a.ensures.does 0)
          c.in-Ok.is) c.finish_in.ensures.does
          c.end_ctx.ensures)),
      c.requires.0,
    )

pub returns-clause-does : goal.returns-clause-does
returns-clause-does c =
    λ class. let a = c.args in closed_last_at a.limit a.level a.span (areas a.work.now) _ _ _ _ _
    _ _ _ refl c.requires.0 (went (c.implicit_return-a.ensures.does class)
    c.in-Ok.is) c.finish_in.ensures.does c.end_ctx.ensures
    (rw c.finish_in.ensures.code at (rw c.finish_in.ensures.spans at (c.emit_closure.ensures.does class)))

pub bounds-work-17410 : goal.bounds-work-17410
bounds-work-17410 c = omega (arith, (went (c.implicit_return-a.ensures.does 0) c.in-Ok.is).ahead.fit.wf.size)
