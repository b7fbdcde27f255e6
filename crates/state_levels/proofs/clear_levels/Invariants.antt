-- `clear_levels` meets its contract. The loop's invariant: the levels that it has passed are empty.
use Prim.Native.Nat.{ℕ, ◌<◌}
use mathlib.Core.Path.{◌≡◌}
use lib.ListN.{length}
use Rattle.state.specs.Meaning.{Empty}
use Rattle.state_levels.proofs.clear_levels.Given as goal

abbrev pub invariant-loop-level : goal.invariant-loop-level
invariant-loop-level l = (length l.t ≡ length l.initial.t) × ((k : ℕ) → k < l.level → Empty l.t k)
