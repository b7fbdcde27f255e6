-- `clashing` meets its contract. A scan from the top down: what it has passed decides nothing.
use Prim.Native.Nat.{◌≤◌}
use mathlib.Core.Path.{◌≡◌}
use lib.ListN.{get_or, length}
use Rattle.rules.specs.Compiler.{declared_here}
use Rattle.state.specs.Layout.{stack, local_of}
use Rattle.state_names.proofs.clashing.Given as goal

abbrev pub invariant-loop-i : goal.invariant-loop-i
invariant-loop-i l = (l.i ≤ length l.locals) × (declared_here l.depth l.name (stack (λ j. local_of (get_or l.locals j 0)) l.i)
    ≡ declared_here l.depth l.name (stack (λ j. local_of (get_or l.locals j 0)) (length l.locals)))

abbrev pub decreases-loop-i : goal.decreases-loop-i
decreases-loop-i l = l.i
