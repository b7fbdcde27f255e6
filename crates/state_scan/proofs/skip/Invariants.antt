-- `skip` meets its contract. The loop's invariant: what it has passed are other words. The measure is how many are left.
use Prim.Native.Nat.{◌-◌, ◌≤◌}
use lib.ListN.{length}
use Rattle.state.specs.Meaning.{Without}
use Rattle.state_scan.proofs.skip.Given as goal

abbrev pub invariant-loop-i : goal.invariant-loop-i
invariant-loop-i l = (l.i ≤ length l.words) × (Without l.words 0 l.i l.w)

abbrev pub decreases-loop-i : goal.decreases-loop-i
decreases-loop-i l = length l.words - l.i
