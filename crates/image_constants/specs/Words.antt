-- The constants that words stand for.
use Rattle.std.specs.Prelude.{Option, Some, ◌≡◌, List, map, ℕ, ◌/◌, ◌%◌, take, eqb, ltb, if◌then◌else◌}
use Rattle.rules.specs.Reader.{got, many}
use Rattle.rules.specs.Chunk.{Constant, CN, CS, CF}
use Rattle.rules.specs.ImageFile.{read_constant}
use Rattle.image_records.specs.Told.{place_told}

unfoldable pub constant_of : (word : ℕ) → Constant
constant_of word = if eqb (word % 2) 0 then CN (word / 2) else if eqb (word % 4) 1 then CS (word / 4) else CF (word / 4)

-- those of the first `n` words
unfoldable pub constants_of : (n : ℕ) → (words : List ℕ) → List Constant
constants_of n words = map constant_of (take n words)

-- `n` constants were read from `begin` on, and stand in the words
pub record Gathered (image : List ℕ) (begin n : ℕ) (r : Option ℕ) (words : List ℕ) : Type 0 where
  pub told : r ≡ place_told (many n (read_constant image) begin)
  pub are : (next : ℕ) → r ≡ Some next → many n (read_constant image) begin ≡ got (constants_of n words) next

-- how many stamps there are at least: the least of the primes that words are divided by
abbrev pub stamps_least : ℕ
stamps_least = 509

-- where the stamp of a word stands among `size` stamps
unfoldable pub slot_in : (size word : ℕ) → ℕ
slot_in size word = if ltb size 4096 then word % stamps_least else if ltb size 65536 then word % 4093 else word % 65521
