-- `set_le`: of the bytes of the number, those of what is left of it are still to be put, and there is room for them.
use Prim.Native.Nat.{◌+◌, ◌-◌, ◌≤◌}
use lib.ListN.{length}
use Rattle.rules.specs.Base.{le}
use Rattle.writer_bytes.proofs.Padding.{Putting}
use Rattle.writer_bytes.proofs.set_le.Given as goal

abbrev pub invariant-loop : goal.invariant-loop
invariant-loop l = Putting l.initial.out l.out l.at l.next (le l.count l.n) (le (l.count - l.counter) l.m) × (l.next + (l.count - l.counter) ≤ length l.out)
