-- `topmost` meets its contract. A scan from the top down: what it has passed has other names.
use Prim.Native.Nat.{ℕ, ◌%◌, ◌≤◌, ◌<◌}
use mathlib.Core.Path.{◌≡◌}
use lib.ListN.{get_or, length}
use Rattle.state_scan.proofs.topmost.Given as goal

abbrev pub invariant-loop-i : goal.invariant-loop-i
invariant-loop-i l = (l.i ≤ length l.locals) × ((j : ℕ) → l.i ≤ j → j < length l.locals → get_or l.locals j 0 % 65536 ≡ l.name → ⊥)

abbrev pub decreases-loop-i : goal.decreases-loop-i
decreases-loop-i l = l.i
