-- `first` meets its contract. A scan upwards from where `skip` leaves off: what it has passed are other words.
use Prim.Native.Nat.{◌-◌, ◌≤◌}
use lib.ListN.{length}
use Rattle.state.specs.Meaning.{Without}
use Rattle.state_scan.proofs.first.Given as goal

abbrev pub invariant-loop-i : goal.invariant-loop-i
invariant-loop-i l = (l.i ≤ length l.words) × (Without l.words 0 l.i l.w)

abbrev pub decreases-loop-i : goal.decreases-loop-i
decreases-loop-i l = length l.words - l.i
