-- How often functions are named, counted up to two in a table that begins at a number.
use Rattle.std.specs.Prelude.{Option, ◌≡◌, List, ℕ, zero, suc, ◌+◌, ◌<◌, ◌≤◌, length, get_or, if◌then◌else◌}
use Rattle.rules.specs.Reader.{got, many}
use Rattle.rules.specs.Chunk.{Constant, CF, same_constant, ObjectFunction}
use Rattle.rules.specs.ImageFile.{read_constant, read_function}
use Rattle.rules.specs.Checker.{names}
use Rattle.image_records.specs.Told.{place_told}

unfoldable pub cap : ℕ → ℕ
cap zero = 0
cap (suc zero) = 1
cap (suc (suc n)) = 2

pub record Capped (seen : List ℕ) : Type 0 where
  pub low : (i : ℕ) → i < length seen → get_or seen i 0 ≤ 2

-- as often more as `more` says of each number from `base` on
pub record Noted (base : ℕ) (more : (number : ℕ) → ℕ) (seen after : List ℕ) : Type 0 where
  pub size : length after ≡ length seen
  pub counts : (i : ℕ) → i < length seen → get_or after i 0 ≡ cap (get_or seen i 0 + more (base + i))

-- whether a constant names a function
unfoldable pub names_one : Constant → (number : ℕ) → ℕ
names_one c number = if same_constant (CF number) c then 1 else 0

pub record ConstantsNoted (image : List ℕ) (begin n base : ℕ) (r : Option ℕ) (seen after : List ℕ) : Type 0 where
  pub told : r ≡ place_told (many n (read_constant image) begin)
  pub noted : (cs : List Constant) (next : ℕ) → many n (read_constant image) begin ≡ got cs next → Noted base (λ number. names number cs) seen after

pub record FunctionNoted (image : List ℕ) (at base : ℕ) (r : Option ℕ) (seen after : List ℕ) : Type 0 where
  pub told : r ≡ place_told (read_function image at)
  pub noted : (f : ObjectFunction) (next : ℕ) → read_function image at ≡ got f next
      → Noted base (λ number. names number f.chunk.constants) seen after
