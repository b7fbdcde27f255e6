-- `constants_end`: where the constants that are left end is where all of them end.
use Prim.Native.Nat.{◌-◌}
use mathlib.Core.Path.{◌≡◌}
use Rattle.writer_directory.specs.Walk.{constants_end}
use Rattle.writer_directory.proofs.constants_end.Given as goal

abbrev pub invariant-loop : goal.invariant-loop
invariant-loop l = constants_end l.s (l.count - l.counter) l.at ≡ constants_end l.s l.count l.begin
