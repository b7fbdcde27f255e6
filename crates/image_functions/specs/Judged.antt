-- What is asked of one function of an image, given the functions before it, and of all of them one after the other.
use Rattle.std.specs.Prelude.{◌≡◌, Bool, true, false, ◌&&◌, List, ◌∷◌, ◌++◌, ℕ, ◌+◌, ◌<◌, ◌≤◌, length, take, drop, eqb, if◌then◌else◌, [], Some, None}
use Rattle.std.proofs.Math.Option.{Option, none, some}
use Rattle.rules.specs.Base.{all}
use Rattle.rules.specs.Reader.{Read, got, bad, many}
use Rattle.rules.specs.Chunk.{Constant, total, ObjectFunction}
use Rattle.rules.specs.Division.{Kind, Instruction, divide, division, kind_at, run_fits}
use Rattle.rules.specs.ImageFile.{read_constant, read_function}
use Rattle.rules.specs.Checker.{runs_apart, distinct, instructions}
use Rattle.image_code.specs.Table.{code_right, judged_code, kinds_in}
use Rattle.image_code.specs.declared.Kind as element
use Rattle.std.specs.declared.option.Option as answer
use Rattle.image_constants.specs.Earlier.{is_got, kinds_right, earlier}

-- ## The constants

unfoldable pub constants_fine : (k : ℕ) → List Constant → Bool
constants_fine k cs = distinct cs && kinds_right k cs

unfoldable pub constants_told : (k : ℕ) → Read (List Constant) → answer.Option ℕ
constants_told k (bad _) = None
constants_told k (got cs next) = if constants_fine k cs then Some next else None

pub record ConstantsRight (image : List ℕ) (k at n : ℕ) (r : answer.Option ℕ) (kinds : List element.Kind) : Type 0 where
  pub told : r ≡ constants_told k (many n (read_constant image) at)
  pub table : (cs : List Constant) (next : ℕ) → many n (read_constant image) at ≡ got cs next → r ≡ Some next
      → (p : ℕ) → p < 256 → kinds_in kinds p ≡ kind_at (earlier image k) cs p

-- ## The code

-- the number of instructions, and where the code ends
unfoldable pub counted : answer.Option ℕ → (next : ℕ) → answer.Option (ℕ × ℕ)
counted None next = None
counted (Some n) next = Some (n, next)

-- a code of `size` bytes that begins at a place, beside runs that stand for `sum` bytes
unfoldable pub code_done : (kind : (place : ℕ) → Kind) → (upvalues sum size : ℕ) → (image : List ℕ) → answer.Option ℕ → answer.Option (ℕ × ℕ)
code_done kind upvalues sum size image None = None
code_done kind upvalues sum size image (Some start) =
    if eqb sum size
    then counted (judged_code kind upvalues size (divide kind 0 0 (take size (drop start image)))) (start + size)
    else None

-- ## One function

unfoldable pub code_fine : (kind : (place : ℕ) → Kind) → (upvalues size : ℕ) → Option (List Instruction) → Bool
code_fine kind upvalues size none = false
code_fine kind upvalues size (some is) = code_right kind upvalues size is

unfoldable pub right : (earlier : List ObjectFunction) → ObjectFunction → Bool
right earlier f =
    constants_fine (length earlier) f.chunk.constants &&
    ((all run_fits f.chunk.spans && runs_apart f.chunk.spans) &&
    (eqb (total f.chunk.spans) (length f.chunk.ops) &&
    code_fine (kind_at earlier f.chunk.constants) f.upvalue_count (length f.chunk.ops) (division earlier f)))

unfoldable pub function_done : (earlier : List ObjectFunction) → Read ObjectFunction → answer.Option (ℕ × ℕ)
function_done earlier (bad _) = None
function_done earlier (got f next) = if right earlier f then Some (instructions (division earlier f), next) else None

-- how far it went, and what it lent is as long as it was
pub record Judged (image : List ℕ) (k at : ℕ) (r : answer.Option (ℕ × ℕ)) : Type 0 where
  pub told : r ≡ function_done (earlier image k) (read_function image at)
  pub grows : (n next : ℕ) → r ≡ Some (n, next) → (at + n ≤ next) × (next ≤ length image)

-- function `k` begins at a place, and was read from there
pub record NextIs (image : List ℕ) (k at : ℕ) : Type 0 where
  pub place : many k (read_function image) 6 ≡ got (earlier image k) at
  pub there : is_got (read_function image at) ≡ true

-- ## All functions

unfoldable pub right_all : (earlier functions : List ObjectFunction) → Bool
right_all earlier [] = true
right_all earlier (f ∷ fs) = if right earlier f then right_all (earlier ++ (f ∷ [])) fs else false

unfoldable pub count_all : (earlier functions : List ObjectFunction) → ℕ
count_all earlier [] = 0
count_all earlier (f ∷ fs) = instructions (division earlier f) + count_all (earlier ++ (f ∷ [])) fs

-- behind others that have `n` instructions: how many there are then, and where the functions end
unfoldable pub functions_done : (n : ℕ) → (earlier : List ObjectFunction) → Read (List ObjectFunction) → answer.Option (ℕ × ℕ)
functions_done n earlier (bad _) = None
functions_done n earlier (got fs end) = if right_all earlier fs then Some (n + count_all earlier fs, end) else None
