-- What a walk over some of an image's instructions finds, and what it is asked of.
use Rattle.std.specs.Prelude.{Option, Some, None, ◌≡◌, Bool, true, false, List, ◌∷◌, ℕ, ◌+◌, ◌<◌, ◌≤◌, length, take, if◌then◌else◌, []}
use Rattle.std.proofs.Math.Option.{some}
use Rattle.rules.specs.Reader.{Read, got, bad, many}
use Rattle.rules.specs.Chunk.{Constant, ObjectFunction}
use Rattle.rules.specs.Division.{Instruction, kind_at, division}
use Rattle.rules.specs.ImageFile.{read_constant, read_function}
use Rattle.rules.specs.Checker.{image_of}
use Rattle.rules.specs.Touch.{Standing, touches}
use Rattle.image_code.specs.Table.{kinds_in, instructions}
use Rattle.image_code.specs.declared.Kind.{Kind}
use Rattle.image_constants.specs.Words.{constants_of}
use Rattle.image_constants.specs.Earlier.{is_got, kinds_right, earlier}
use Rattle.image_functions.specs.Judged.{right, right_all}
use Rattle.image_touch.specs.declared.Found.{Found}

-- ## The code of one function

-- an instruction of a function with these constants, whichever its number
abbrev pub of_function : List Constant → Instruction → Standing
of_function constants i = record { function = 0; constants = constants; instruction = i }

-- where `read` instructions were read before: the first that names the global, or none, and how many were read then
unfoldable pub walked : (name read : ℕ) → List Constant → List Instruction → Found
walked name read constants [] = record { at = None; read = read }
walked name read constants (i ∷ is) =
    if touches name (of_function constants i)
    then record { at = Some i.at; read = read + 1 }
    else walked name (read + 1) constants is

-- ## One function

-- how many of `n` constants an operand can name
pub record First (n first : ℕ) : Type 0 where
  pub within : first ≤ n
  pub small : first ≤ 256
  pub least : (p : ℕ) → p < n → p < 256 → p < first

-- what operands can name of the constants of function `k`: the first as words, and their kinds
pub record Known (image : List ℕ) (k : ℕ) (cs : List Constant) (first : ℕ) (words : List ℕ) (kinds : List Kind) : Type 0 where
  pub are : constants_of first words ≡ take 256 cs
  pub table : (p : ℕ) → p < 256 → kinds_in kinds p ≡ kind_at (earlier image k) cs p

pub record ConstantsKnown (image : List ℕ) (k at n first : ℕ) (r : Option ℕ) (words : List ℕ) (kinds : List Kind) : Type 0 where
  pub told : (cs : List Constant) (next : ℕ) → many n (read_constant image) at ≡ got cs next → kinds_right k cs ≡ true
      → (r ≡ Some next) × Known image k cs first words kinds

unfoldable pub is_right : (earlier : List ObjectFunction) → Read ObjectFunction → Bool
is_right earlier (bad _) = false
is_right earlier (got f _) = right earlier f

-- what the walk over a function finds, and where the function ends
unfoldable pub step_of : (name read : ℕ) → (earlier : List ObjectFunction) → Read ObjectFunction → Option (Found × ℕ)
step_of name read earlier (bad _) = None
step_of name read earlier (got f next) = Some (walked name read f.chunk.constants (instructions (division earlier f)), next)

-- how far it went
pub record Stepped (name read : ℕ) (image : List ℕ) (k at : ℕ) (r : Option (Found × ℕ)) : Type 0 where
  pub told : r ≡ step_of name read (earlier image k) (read_function image at)
  pub grows : (found : Found) (next : ℕ) → r ≡ Some (found, next)
      → (at + found.read ≤ next + read) × (((place : ℕ) → found.at ≡ Some place → place ≤ next) × (next ≤ length image))

-- ## All functions

-- the image is sound, and has this many functions
pub record Sound (image : List ℕ) (count : ℕ) : Type 0 where
  pub small : count < 4294967296
  pub room : 6 ≤ length image
  pub read : is_got (many count (read_function image) 6) ≡ true
  pub fine : right_all [] (earlier image count) ≡ true
  pub is : image_of image ≡ some (earlier image count)
