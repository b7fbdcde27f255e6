-- `put_code`: of the bytes, what is left is still to be put.
use Prim.Native.Nat.{◌+◌, ◌-◌, ◌≤◌}
use Rattle.std.specs.Prelude.{length, drop}
use Rattle.writer_bytes.proofs.Padding.{Putting}
use Rattle.writer_bytes.proofs.put_code.Given as goal

abbrev pub invariant-loop-b : goal.invariant-loop-b
invariant-loop-b l = Putting l.initial.out l.out l.at l.next l.code (drop l.b-index l.code) × (l.next + (length l.code - l.b-index) ≤ 1152921504606846976)
