-- `put_runs`: of the runs, what is left is still to be put.
use Prim.Native.Nat.{◌+◌, ◌-◌, ◌*◌, ◌/◌, ◌≤◌}
use Rattle.rules.specs.Image.{join, run_bytes}
use Rattle.state.specs.Layout.{row, run_at}
use lib.ListN.{length}
use Rattle.writer_bytes.proofs.Padding.{Putting}
use Rattle.writer_runs.proofs.put_runs.Given as goal

abbrev pub invariant-loop-i : goal.invariant-loop-i
invariant-loop-i l =
    Putting l.initial.out l.out l.at l.next (join run_bytes (row (run_at l.spans) (length l.spans / 3))) (join run_bytes (row (λ k. run_at l.spans (l.i + k)) (length l.spans / 3 - l.i)))
    × (l.next + (length l.spans / 3 - l.i) * 11 ≤ 1152921504606846976)
