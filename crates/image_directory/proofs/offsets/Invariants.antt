-- `offsets` meets its contract: whether the entries that are left are right is whether all of them are.
use Prim.Native.Nat.{◌+◌, ◌-◌, ◌*◌}
use mathlib.Core.Path.{◌≡◌}
use Rattle.rules.specs.Reader.{many}
use Rattle.rules.specs.ImageFile.{read_function}
use Rattle.image_directory.specs.Behind.{offsets_right}
use Rattle.image_directory.proofs.offsets.Given as goal

abbrev pub invariant-loop-i : goal.invariant-loop-i
invariant-loop-i l =
    offsets_right l.image 6 l.first (many l.count (read_function l.image) 6) ≡ offsets_right l.image l.at (l.first + 4 * l.i) (many (l.count - l.i) (read_function l.image) l.at)
