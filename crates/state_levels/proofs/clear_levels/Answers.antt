-- `clear_levels` meets its contract. The loop's invariant: the levels that it has passed are empty.
use native.Mathlib.Omega.{arith}
use mathlib.Core.Path.{refl, ◌∙◌}
use Rattle.state_levels.proofs.Clearing.{empty_more, blank}
use Rattle.state_levels.proofs.clear_levels.Goals as goal

pub loop-level-init : goal.loop-level-init
loop-level-init c = (refl, λ k h. absurd (omega arith))

pub loop-level-preserved : goal.loop-level-preserved
loop-level-preserved c = (
  omega (arith, c.clear_level.auto.t, c.loop-level.invariant.0),
  empty_more _ _ _
      c.loop-level.invariant.1 c.clear_level.ensures,
)

pub returns : goal.returns
returns c = blank _ (c.loop-level.invariant.0 ∙ c.requires) (λ k h. c.loop-level.invariant.1 k (omega arith))
