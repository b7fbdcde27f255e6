-- `set_code`: of the bytes, what is left is still to be put, and there is room for it.
use Prim.Native.Nat.{◌+◌, ◌-◌, ◌≤◌}
use Rattle.std.specs.Prelude.{length, drop}
use Rattle.writer_bytes.proofs.Padding.{Putting}
use Rattle.writer_bytes.proofs.set_code.Given as goal

abbrev pub invariant-loop-b : goal.invariant-loop-b
invariant-loop-b l = Putting l.initial.out l.out l.at l.next l.code (drop l.b-index l.code) × (l.next + (length l.code - l.b-index) ≤ length l.out)
