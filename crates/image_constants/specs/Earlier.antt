-- The functions before function `k`, and what they say of the constants of function `k`.
use Rattle.std.specs.Prelude.{◌≡◌, Bool, true, false, ◌&&◌, List, ℕ, ◌<◌, length, get_or, drop, ltb, if◌then◌else◌, []}
use Rattle.std.proofs.Math.Option.{Option, none, some}
use Rattle.std.proofs.Math.ListN.{get_elem?}
use Rattle.rules.specs.Base.{all}
use Rattle.rules.specs.Reader.{Read, got, bad, many}
use Rattle.rules.specs.Chunk.{Constant, CN, CS, CF, ObjectFunction}
use Rattle.rules.specs.Division.{kind_at}
use Rattle.rules.specs.ImageFile.{read_function}
use Rattle.rules.specs.Checker.{names_earlier}
use Rattle.image_code.specs.Table.{kinds_in}
use Rattle.image_code.specs.declared.Kind.{Kind}
use Rattle.image_code.specs.declared.Kind.TheVariants.{Missing, Number, Text, Function}

unfoldable pub functions_in : Read (List ObjectFunction) → List ObjectFunction
functions_in (bad _) = []
functions_in (got fs _) = fs

unfoldable pub is_got : {A : Type 0} → Read A → Bool
is_got (bad _) = false
is_got (got _ _) = true

-- behind the image's mark and count
unfoldable pub earlier : (image : List ℕ) → (k : ℕ) → List ObjectFunction
earlier image k = functions_in (many k (read_function image) 6)

unfoldable pub upvalues_in : Option ObjectFunction → ℕ
upvalues_in none = 0
upvalues_in (some f) = f.upvalue_count

unfoldable pub upvalues_at : List ObjectFunction → (number : ℕ) → ℕ
upvalues_at functions number = upvalues_in (get_elem? functions number)

-- `k` functions were read, and the table has how many variables each of them captures, as far as it goes
pub record Counts (image : List ℕ) (k : ℕ) (counts : List ℕ) : Type 0 where
  pub there : is_got (many k (read_function image) 6) ≡ true
  pub known : (j : ℕ) → j < k → j < length counts → get_or counts j 0 ≡ upvalues_at (earlier image k) j

-- a constant of function `k` as an element of the table of constants; missing where it names no earlier function
unfoldable pub kind_word : List ObjectFunction → (k : ℕ) → Constant → Kind
kind_word functions k (CN bits) = Number
kind_word functions k (CS name) = Text
kind_word functions k (CF number) = if ltb number k then Function (upvalues_at functions number) else Missing

unfoldable pub no_function : Constant → Bool
no_function (CN bits) = true
no_function (CS name) = true
no_function (CF number) = false

-- each function among the constants of function `k` is an earlier one, and stands where a CLOSURE can name it
unfoldable pub kinds_right : (k : ℕ) → List Constant → Bool
kinds_right k cs = all (names_earlier k) cs && all no_function (drop 256 cs)

pub record Kinds (functions : List ObjectFunction) (k : ℕ) (cs : List Constant) (r : Bool) (words : List Kind) : Type 0 where
  pub told : r ≡ kinds_right k cs
  pub table : r ≡ true → (place : ℕ) → place < 256 → kinds_in words place ≡ kind_at functions cs place
