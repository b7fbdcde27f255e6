-- The image checker, as a function of bytes: what it asks beside demand 3, its count of instructions; and the lookups.
use Rattle.std.specs.Prelude.{Bool, true, false, not, ◌&&◌, List, [], ◌∷◌, ℕ, ◌+◌, ◌-◌, ◌*◌, length, get_or, ltb, eqb, if◌then◌else◌}
use Rattle.std.proofs.Math.Option.{Option, none, some}
use Rattle.std.proofs.Math.ListN.{get_elem?}
use Rattle.rules.specs.Base.{all, all_below}
use Rattle.rules.specs.declared.Answer.{Answer}
use Rattle.rules.specs.declared.Refusal.TheVariants.{ImageRefused, NoSuchFunction, NoSuchByte}
use Rattle.rules.specs.Answer.{refusal, accepted, at_span}
use Rattle.rules.specs.Reader.{Read, got, bad, Reader, ◌>>=◌, ◌>>◌, here, need, u32, mark_is, many}
use Rattle.rules.specs.Op.{Operands, Plain, Byte, Captured, Value, Text, Invoke, Ahead, Back, Closure}
use Rattle.rules.specs.Chunk.{Constant, CN, CS, CF, same_constant, Run, same_span, ObjectFunction}
use Rattle.rules.specs.Division.{Instruction, division, kind_at, is_function, fits}
use Rattle.rules.specs.Image.{image_bytes}
use Rattle.rules.specs.ImageFile.{read_function, read_image}

-- ## What is asked beside demand 3

-- neighbouring runs share a span only after a count of 255
unfoldable pub runs_apart : List Run → Bool
runs_apart [] = true
runs_apart (run ∷ []) = true
runs_apart (run ∷ next ∷ runs) = (if same_span run.span next.span then eqb run.count 255 else true) && runs_apart (next ∷ runs)

-- no two constants are equal
unfoldable pub distinct : List Constant → Bool
distinct [] = true
distinct (value ∷ values) = all (λ other. not (same_constant value other)) values && distinct values

-- a constant of the function with this number names none that is not before it
unfoldable pub names_earlier : (number : ℕ) → Constant → Bool
names_earlier number (CN _) = true
names_earlier number (CS _) = true
names_earlier number (CF named) = ltb named number

-- the functions from this number on
unfoldable pub all_earlier : (number : ℕ) → List ObjectFunction → Bool
all_earlier number [] = true
all_earlier number (f ∷ fs) = all (names_earlier number) f.chunk.constants && all_earlier (number + 1) fs

-- how many constants name a function
unfoldable pub names : (number : ℕ) → List Constant → ℕ
names number [] = 0
names number (value ∷ values) = (if same_constant (CF number) value then 1 else 0) + names number values

unfoldable pub names_in_all : (number : ℕ) → List ObjectFunction → ℕ
names_in_all number [] = 0
names_in_all number (f ∷ fs) = names number f.chunk.constants + names_in_all number fs

-- each function but the last is named by one constant
unfoldable pub named_once : List ObjectFunction → Bool
named_once functions = all_below (length functions - 1) (λ number. eqb (names_in_all number functions) 1)

-- how many CLOSUREs name the constant at a place
unfoldable pub closes : (place : ℕ) → Operands → (bytes : List ℕ) → ℕ
closes place Plain bytes = 0
closes place Byte bytes = 0
closes place Captured bytes = 0
closes place Value bytes = 0
closes place Text bytes = 0
closes place Invoke bytes = 0
closes place Ahead bytes = 0
closes place Back bytes = 0
closes place Closure bytes = if eqb (get_or bytes 0 0) place then 1 else 0

unfoldable pub closures : (place : ℕ) → List Instruction → ℕ
closures place [] = 0
closures place (i ∷ is) = closes place i.operands i.bytes + closures place is

-- the constant at a place, if it is a function, is named by one CLOSURE
unfoldable pub closed_at : List ObjectFunction → List Constant → List Instruction → (place : ℕ) → Bool
closed_at functions constants is place =
    if is_function (kind_at functions constants place) then eqb (closures place is) 1 else true

-- each function among a function's constants is named by one CLOSURE of its code. With `named_once` that is: each function but the last is
-- named by one constant and one CLOSURE, both in one function, since a CLOSURE names a constant of its own function
unfoldable pub closed_in : List ObjectFunction → ObjectFunction → Option (List Instruction) → Bool
closed_in functions f none = false
closed_in functions f (some is) = all_below (length f.chunk.constants) (closed_at functions f.chunk.constants is)

unfoldable pub closed_once : List ObjectFunction → ObjectFunction → Bool
closed_once functions f = closed_in functions f (division functions f)

-- all that is asked of the functions of an image
unfoldable pub facts : List ObjectFunction → List Bool
facts functions =
    fits functions ∷
    all (λ (f : ObjectFunction). runs_apart f.chunk.spans) functions ∷
    all (λ (f : ObjectFunction). distinct f.chunk.constants) functions ∷
    all_earlier 0 functions ∷
    named_once functions ∷
    all (closed_once functions) functions ∷ []

unfoldable pub sound : List ObjectFunction → Bool
sound functions = all (λ fact. fact) (facts functions)

-- ## The checker

unfoldable pub instructions : Option (List Instruction) → ℕ
instructions none = 0
instructions (some is) = length is

-- how many instructions there are in the division of all the code
unfoldable pub instruction_count : (all_of functions : List ObjectFunction) → ℕ
instruction_count all_of [] = 0
instruction_count all_of (f ∷ fs) = instructions (division all_of f) + instruction_count all_of fs

unfoldable pub checked : Read (List ObjectFunction) → Option (List ObjectFunction)
checked (bad _) = none
checked (got functions _) = if sound functions then some functions else none

-- the functions of bytes that are an image
unfoldable pub image_of : (image : List ℕ) → Option (List ObjectFunction)
image_of image = checked (read_image image)

unfoldable pub verdict : Option (List ObjectFunction) → Answer
verdict none = refusal ImageRefused
verdict (some functions) = accepted (instruction_count functions functions)

-- 0 with the number of instructions, or 40
unfoldable pub check : (image : List ℕ) → Answer
check image = verdict (image_of image)

-- ## The code of function k, as a stretch of the image

unfoldable pub function_numbered : (k : ℕ) → Option (List ObjectFunction) → Option ObjectFunction
function_numbered k none = none
function_numbered k (some functions) = get_elem? functions k

unfoldable pub code_in : Option ObjectFunction → List ℕ
code_in none = []
code_in (some f) = f.chunk.ops

-- its content: empty for a refused lookup
unfoldable pub code_of : (image : List ℕ) → (k : ℕ) → List ℕ
code_of image k = code_in (function_numbered k (image_of image))

unfoldable pub code_before : Read ObjectFunction → ℕ
code_before (bad _) = 0
code_before (got f next) = next - length f.chunk.ops

unfoldable pub place_in : Option ObjectFunction → (start : ℕ) → ℕ
place_in none start = 0
place_in (some f) start = start

-- its place in the image, of a checked image: a function's code is its record's end, and the functions begin behind the image's mark and count.
-- A refused lookup's empty code stands at the image's begin
unfoldable pub code_place : (image : List ℕ) → (k : ℕ) → ℕ
code_place image k =
    place_in (function_numbered k (image_of image)) (code_before ((many k (read_function image) >> read_function image) 6))

unfoldable pub code_verdict : (k : ℕ) → Option (List ObjectFunction) → Answer
code_verdict k none = refusal ImageRefused
code_verdict k (some functions) = if ltb k (length functions) then accepted 0 else refusal NoSuchFunction

-- the lookup's number: 0, 40 or 41
unfoldable pub code_answer : (image : List ℕ) → (k : ℕ) → Answer
code_answer image k = code_verdict k (image_of image)

-- what is told of the lookup: its number, and the place, the end and the length of the code
unfoldable pub code_part : (image : List ℕ) → (k : ℕ) → Answer
code_part image k =
    record {
      number = (code_answer image k).number;
      at = code_place image k;
      end = code_place image k + length (code_of image k);
      name = 0;
      length = length (code_of image k);
      function = 0;
      around = 0;
    }

-- ## The same through the directory

unfoldable pub directory_verdict : (size : ℕ) → Option (List ObjectFunction) → Answer
directory_verdict size none = refusal ImageRefused
directory_verdict size (some functions) =
    if eqb (length (image_bytes functions)) size
    then accepted 0
    else record { number = 0; at = length (image_bytes functions); end = size; name = 0; length = length functions; function = 0; around = 0 }

-- where the directory of a checked image stands, its end, and of how many functions it tells; 0 and zeros where there is none; 40
unfoldable pub directory_of : (image : List ℕ) → Answer
directory_of image = directory_verdict (length image) (image_of image)

module _ (image : List ℕ) where
  -- what a directory has for function k: 40 where the bytes are no directory that ends where the image does, 41 where it has no such function
  unfoldable pub directory_entry : (k : ℕ) → Reader ℕ
  directory_entry k = do
    mark_is image ImageRefused 0x4458
    count ← u32 image ImageRefused
    first ← here
    need (eqb (first + 4 * count) (length image)) ImageRefused
    need (ltb k count) NoSuchFunction
    λ at. u32 image ImageRefused (at + 4 * k)

  unfoldable pub record_part : Read ObjectFunction → Answer
  record_part (bad r) = refusal r
  record_part (got f next) =
      record { number = 0; at = next - length f.chunk.ops; end = next; name = 0; length = length f.chunk.ops; function = 0; around = 0 }

  unfoldable pub entry_part : Read ℕ → Answer
  entry_part (bad r) = refusal r
  entry_part (got offset _) = record_part (read_function image offset)

  -- from function k's entry and record alone, whatever the bytes and the place: it is for an image that was checked, at the place that
  -- `directory_of` gave
  unfoldable pub code_through : (place k : ℕ) → Answer
  code_through place k = entry_part (directory_entry k place)

-- ## The span of one code byte, from a list of runs

-- chunk.rs, `Index for VecRun`: the run that holds the byte, or 42
unfoldable pub span_of : List Run → (offset : ℕ) → Answer
span_of [] offset = refusal NoSuchByte
span_of (run ∷ runs) offset = if ltb offset run.count then at_span 0 run.span 0 else span_of runs (offset - run.count)
