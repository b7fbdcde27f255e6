-- Which instructions of an image name a global, as a planner asks before the global is renamed: the full list, and a search that stops at its first entry.
use Rattle.std.specs.Prelude.{Bool, false, ◌&&◌, ◌||◌, List, [], ◌∷◌, ◌++◌, ℕ, ◌+◌, get_or, eqb, if◌then◌else◌}
use Rattle.std.proofs.Math.Option.{Option, none, some}
use Rattle.std.proofs.Math.ListN.{get_elem?}
use Rattle.rules.specs.declared.Answer.{Answer}
use Rattle.rules.specs.declared.Refusal.TheVariants.{ImageRefused}
use Rattle.rules.specs.Answer.{refusal, accepted}
use Rattle.rules.specs.Op.{GET_GLOBAL, SET_GLOBAL, DEFINE_GLOBAL}
use Rattle.rules.specs.Chunk.{Constant, CS, same_constant, ObjectFunction}
use Rattle.rules.specs.Division.{Instruction, division}
use Rattle.rules.specs.Checker.{image_of}

-- ## All instructions, in image order

-- an instruction, with the number and the constants of its function
pub record Standing : Type 0 where
  pub function : ℕ
  pub constants : List Constant
  pub instruction : Instruction

unfoldable pub standing : (number : ℕ) → List Constant → List Instruction → List Standing
standing number constants [] = []
standing number constants (i ∷ is) = record { function = number; constants = constants; instruction = i } ∷ standing number constants is

unfoldable pub standing_in : (number : ℕ) → ObjectFunction → Option (List Instruction) → List Standing
standing_in number f none = []
standing_in number f (some is) = standing number f.chunk.constants is

-- the functions from this number on
unfoldable pub all_standing : (all_of : List ObjectFunction) → (number : ℕ) → (functions : List ObjectFunction) → List Standing
all_standing all_of number [] = []
all_standing all_of number (f ∷ fs) = standing_in number f (division all_of f) ++ all_standing all_of (number + 1) fs

-- ## Those that name the global

unfoldable pub names_global : (op : ℕ) → Bool
names_global op = eqb op GET_GLOBAL || (eqb op SET_GLOBAL || eqb op DEFINE_GLOBAL)

unfoldable pub is_string : (name : ℕ) → Option Constant → Bool
is_string name none = false
is_string name (some value) = same_constant (CS name) value

unfoldable pub touches : (name : ℕ) → Standing → Bool
touches name s =
    names_global s.instruction.opcode && is_string name (get_elem? s.constants (get_or s.instruction.bytes 0 0))

-- the full list: function and offset of each
unfoldable pub full_list : (name : ℕ) → List Standing → List (ℕ × ℕ)
full_list name [] = []
full_list name (s ∷ rest) =
    if touches name s
    then (s.function, s.instruction.at) ∷ full_list name rest
    else full_list name rest

-- ## The search

abbrev pub hit : (read : ℕ) → Standing → Answer
hit read s =
    record { number = 0; at = s.instruction.at; end = s.instruction.at + 2; name = s.function; length = read; function = 0; around = 0 }

-- where `read` instructions were read before: the first that names the global, with how many were read up to and including it, or how many there are
unfoldable pub search : (name read : ℕ) → List Standing → Answer
search name read [] = accepted read
search name read (s ∷ rest) = if touches name s then hit (read + 1) s else search name (read + 1) rest

unfoldable pub touch_verdict : (name : ℕ) → Option (List ObjectFunction) → Answer
touch_verdict name none = refusal ImageRefused
touch_verdict name (some functions) = search name 0 (all_standing functions 0 functions)

-- 0 with the first place: its offset, the end of that instruction, its function, and how many instructions were read; or 0 with the number of all
-- instructions alone, where no place names it; or 40
unfoldable pub touch : (image : List ℕ) → (name : ℕ) → Answer
touch image name = touch_verdict name (image_of image)
