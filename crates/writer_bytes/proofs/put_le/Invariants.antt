-- `put_le`: of the bytes of the number, those of what is left of it are still to be put.
use Prim.Native.Nat.{◌+◌, ◌-◌, ◌≤◌}
use Rattle.rules.specs.Base.{le}
use Rattle.writer_bytes.proofs.Padding.{Putting}
use Rattle.writer_bytes.proofs.put_le.Given as goal

abbrev pub invariant-loop : goal.invariant-loop
invariant-loop l = Putting l.initial.out l.out l.at l.next (le l.count l.n) (le (l.count - l.counter) l.m) × (l.next + (l.count - l.counter) ≤ 1152921504606846976)
