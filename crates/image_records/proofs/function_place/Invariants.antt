-- `function_place` meets its contract: where the functions that are left end is where all of them end.
use Prim.Native.Nat.{◌-◌}
use mathlib.Core.Path.{◌≡◌}
use Rattle.rules.specs.Reader.{many}
use Rattle.rules.specs.ImageFile.{read_function}
use Rattle.image_records.specs.Told.{place_told}
use Rattle.image_records.proofs.function_place.Given as goal

abbrev pub invariant-loop : goal.invariant-loop
invariant-loop l = place_told (many l.k (read_function l.s) 6) ≡ place_told (many (l.k - l.counter) (read_function l.s) l.at)
