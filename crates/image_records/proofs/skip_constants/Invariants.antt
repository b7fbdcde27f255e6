-- `skip_constants` meets its contract: where the constants that are left end is where all of them end.
use Prim.Native.Nat.{◌-◌}
use mathlib.Core.Path.{◌≡◌}
use Rattle.rules.specs.Reader.{many}
use Rattle.rules.specs.ImageFile.{read_constant}
use Rattle.image_records.specs.Told.{place_told}
use Rattle.image_records.proofs.skip_constants.Given as goal

abbrev pub invariant-loop : goal.invariant-loop
invariant-loop l = place_told (many l.n (read_constant l.s) l.begin) ≡ place_told (many (l.n - l.counter) (read_constant l.s) l.at)
