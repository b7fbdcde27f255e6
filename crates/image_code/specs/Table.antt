-- What is said of a code whose constants are those of a table: its division, and whether it is right.
use Rattle.std.specs.Prelude.{Bool, true, false, ◌&&◌, List, ℕ, ◌+◌, ◌-◌, ◌%◌, ◌<◌, length, get_or, take, drop, eqb, if◌then◌else◌, [], Some, None}
use Rattle.std.proofs.Math.Option.{Option, none, some}
use Rattle.rules.specs.Base.{all, all_below}
use Rattle.rules.specs.Division.{Kind, missing, number, text, function, Instruction, divide, is_function, operands_fit, lands}
use Rattle.rules.specs.Checker.{closures}
use Rattle.image_code.specs.Forms.{form_of, operands_by, width}
use Rattle.std.specs.declared.option.Option as answer
use Rattle.image_code.specs.declared.Kind as table
use Rattle.image_code.specs.declared.Kind.TheVariants as variant

-- what an element of the table stands for
unfoldable pub kind_of : table.Kind → Kind
kind_of variant.Missing = missing
kind_of variant.Number = number
kind_of variant.Text = text
kind_of (variant.Function n) = function n

unfoldable pub kinds_in : List table.Kind → ℕ → Kind
kinds_in kinds place = kind_of (get_or kinds place variant.Missing)

abbrev pub division : (kind : (place : ℕ) → Kind) → (code : List ℕ) → Option (List Instruction)
division kind code = divide kind 0 0 code

-- the instruction at a place of a code
unfoldable pub instruction_at : (ℕ → Kind) → List ℕ → ℕ → Instruction
instruction_at kind code at =
    record {
      at = at;
      opcode = get_or code at 0;
      operands = operands_by (form_of (get_or code at 0));
      size = width kind (get_or code at 0) (drop (at + 1) code) - 1;
      bytes = take (width kind (get_or code at 0) (drop (at + 1) code) - 1) (drop (at + 1) code);
    }

-- what is left of the division
unfoldable pub from : (ℕ → Kind) → List ℕ → (at skip : ℕ) → Option (List Instruction)
from kind code at skip = divide kind at skip (drop at code)

unfoldable pub instructions : Option (List Instruction) → List Instruction
instructions none = []
instructions (some is) = is

unfoldable pub is_some : Option (List Instruction) → Bool
is_some none = false
is_some (some is) = true

unfoldable pub judged : (Instruction → Bool) → (n : ℕ) → Option (List Instruction) → answer.Option ℕ
judged p n none = None
judged p n (some is) = if all p is then Some (n + length is) else None

-- places that are less than this apart have slots of their own in a ring
abbrev pub window_size : ℕ
window_size = 131072

-- a ring of `room` slots has one for each place of a code of `size` bytes
abbrev pub Wide : (size room : ℕ) → Type 0
Wide size room = (p : ℕ) → p < size → p % window_size < room

-- the constant at a place, if it is a function, is named by one CLOSURE
unfoldable pub closed_by : (kind : (place : ℕ) → Kind) → List Instruction → (place : ℕ) → Bool
closed_by kind is place = if is_function (kind place) then eqb (closures place is) 1 else true

-- all that is asked of a code of `size` bytes whose constants are those of a table
unfoldable pub code_right : (kind : (place : ℕ) → Kind) → (upvalues size : ℕ) → List Instruction → Bool
code_right kind upvalues size is =
    (all (operands_fit kind upvalues) is && all (lands is size) is) && all_below 256 (closed_by kind is)

-- the number of instructions of a code that is right
unfoldable pub judged_code : (kind : (place : ℕ) → Kind) → (upvalues size : ℕ) → Option (List Instruction) → answer.Option ℕ
judged_code kind upvalues size none = None
judged_code kind upvalues size (some is) = if code_right kind upvalues size is then Some (length is) else None
