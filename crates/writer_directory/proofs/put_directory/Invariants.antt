-- `put_directory`: the walk over any functions whose records stand there goes on, and there is room for the places that are left.
use mathlib.Core.Path.{◌≡◌}
use mathlib.Core.List.{List}
use Prim.Native.Nat.{◌+◌, ◌-◌, ◌*◌, ◌≤◌}
use lib.ListN.{length}
use Rattle.rules.specs.Chunk.{ObjectFunction}
use Rattle.writer.specs.Put.{AllCounted}
use Rattle.writer_directory.proofs.Walking.{Walking}
use Rattle.writer_directory.proofs.put_directory.Given as goal

abbrev pub invariant-loop : goal.invariant-loop
invariant-loop l =
    (l.next + 4 * (l.functions - l.counter) ≤ length l.out) × (length l.out ≡ length l.initial.out)
    × ((fs : List ObjectFunction) → AllCounted fs → Walking fs l.initial.out l.initial.next l.initial.at l.functions → Walking fs l.out l.next l.at (l.functions - l.counter))
