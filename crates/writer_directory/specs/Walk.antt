-- The walk over the records of an image, by their marks and counts, and what it is to put their directory behind them.
use Rattle.std.specs.Prelude.{◌≡◌, List, ◌++◌, ℕ, zero, suc, ◌+◌, ◌*◌, length, replicate, leb, eqb, if◌then◌else◌}
use Rattle.rules.specs.Chunk.{ObjectFunction}
use Rattle.rules.specs.Image.{join, function_bytes, directory_bytes}
use Rattle.fields.specs.Words.{word16, word32, letters}
use Rattle.writer.specs.Put.{padded, Records}

-- ## Where a record ends: where none can stand, `at` itself

-- by the mark: CN, CS, CF
unfoldable pub constant_size : (mark : ℕ) → ℕ
constant_size mark = if eqb mark 0x434E then 10 else if eqb mark 0x4353 then 4 else 6

module _ (s : List ℕ) where
  unfoldable pub constant_end : (at : ℕ) → ℕ
  constant_end at = if leb (at + 2) (length s) then at + constant_size (letters s at) else at

  unfoldable pub constants_end : (count at : ℕ) → ℕ
  constants_end zero at = at
  constants_end (suc count) at = constants_end count (constant_end at)

  unfoldable pub record_end : (at : ℕ) → ℕ
  record_end at =
      if leb (at + 17) (length s)
      then constants_end (word16 s (at + 7)) (at + 17) + 11 * word32 s (at + 9) + (2 + word32 s (at + 13))
      else at

-- ## The directory

-- behind the records of any functions that end at n, as many as `count`, there is now their directory too
pub record Directed (count n : ℕ) (out out' : List ℕ) : Type 0 where
  pub size : length out' ≡ length out
  pub holds : (functions : List ObjectFunction) → Records out n functions → count ≡ length functions
      → out' ≡ padded (length out) (replicate 6 0 ++ (join function_bytes functions ++ directory_bytes functions))
