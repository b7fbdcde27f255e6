-- What may stand behind the functions of an image, as the rules' reader goes on from them.
use Rattle.std.specs.Prelude.{◌≡◌, Bool, false, List, ℕ, ◌+◌, ◌*◌, ◌≤◌, length, eqb, Some, None}
use Rattle.std.specs.declared.option.Option as answer
use Rattle.rules.specs.Reader.{Read, got, bad}
use Rattle.rules.specs.Chunk.{ObjectFunction}
use Rattle.rules.specs.Image.{places}
use Rattle.rules.specs.ImageFile.{read_offsets, read_behind}
use Rattle.fields.specs.Words.{word32, letters}

-- what was read ends where the image does
unfoldable pub ends : (size : ℕ) → Read Unit → Bool
ends size (bad _) = false
ends size (got _ end) = eqb end size

module _ (image : List ℕ) where
  -- the entries from `first` on, to the last byte, are where the functions stand that begin at `at`
  unfoldable pub offsets_right : (at first : ℕ) → Read (List ObjectFunction) → Bool
  offsets_right at first (bad _) = false
  offsets_right at first (got functions _) = ends (length image) (read_offsets image (places at functions) first)

  -- behind the functions stands nothing, or their directory, to the last byte
  unfoldable pub behind_right : Read (List ObjectFunction) → Bool
  behind_right (bad _) = false
  behind_right (got functions at) = ends (length image) (read_behind image functions at)

-- a directory's mark and count stand at a place, and behind them that many entries, to the last byte
pub record EntriesTold (image : List ℕ) (place : ℕ) (r : answer.Option ℕ) : Type 0 where
  pub there : (n : ℕ) → r ≡ Some n → (letters image place ≡ 0x4458) × ((n ≡ word32 image (place + 2)) × (place + 6 + 4 * n ≡ length image))
  pub lost : r ≡ None → place + 6 ≤ length image → letters image place ≡ 0x4458 → place + 6 + 4 * word32 image (place + 2) ≡ length image → ⊥
