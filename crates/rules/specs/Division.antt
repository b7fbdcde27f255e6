-- A function's code as instructions, and demand 3: what must hold of an image's functions before it is sent.
use Rattle.std.specs.Prelude.{Bool, true, false, ◌&&◌, ◌||◌, List, [], ◌∷◌, ℕ, zero, suc, ◌+◌, ◌-◌, ◌*◌, length, get_or, take, drop, ltb, leb, eqb}
use Rattle.std.proofs.Math.Option.{Option, none, some}
use Rattle.std.proofs.Math.ListN.{get_elem?}
use Rattle.rules.specs.Base.{all}
use Rattle.rules.specs.Chunk.{Constant, CN, CS, CF, Run, total, ObjectFunction}
use Rattle.rules.specs.Op.{Operands, Plain, Byte, Captured, Value, Text, Invoke, Ahead, Back, Closure, operands_of, size_of}

-- ## What an operand finds among a function's constants

pub data Kind : Type 0 where
  missing number text : Kind
  -- a function, and how many variables it captures
  function : (upvalues : ℕ) → Kind

unfoldable pub function_kind : Option ObjectFunction → Kind
function_kind none = missing
function_kind (some f) = function f.upvalue_count

unfoldable pub kind_of : List ObjectFunction → Option Constant → Kind
kind_of functions none = missing
kind_of functions (some (CN bits)) = number
kind_of functions (some (CS name)) = text
kind_of functions (some (CF n)) = function_kind (get_elem? functions n)

unfoldable pub kind_at : List ObjectFunction → List Constant → (place : ℕ) → Kind
kind_at functions constants place = kind_of functions (get_elem? constants place)

-- ## The division

pub record Instruction : Type 0 where
  pub at : ℕ
  pub opcode : ℕ
  pub operands : Operands
  -- how many bytes follow the opcode, and these bytes
  pub size : ℕ
  pub bytes : List ℕ

-- how many bytes follow the opcode; a CLOSURE has a size only where its operand finds a function
unfoldable pub size_with : Operands → Kind → Option ℕ
size_with Plain k = some (size_of Plain 0)
size_with Byte k = some (size_of Byte 0)
size_with Captured k = some (size_of Captured 0)
size_with Value k = some (size_of Value 0)
size_with Text k = some (size_of Text 0)
size_with Invoke k = some (size_of Invoke 0)
size_with Ahead k = some (size_of Ahead 0)
size_with Back k = some (size_of Back 0)
size_with Closure missing = none
size_with Closure number = none
size_with Closure text = none
size_with Closure (function upvalues) = some (size_of Closure upvalues)

unfoldable pub sized : (at op : ℕ) → Operands → (rest : List ℕ) → Option ℕ → Option Instruction
sized at op operands rest none = none
sized at op operands rest (some size) =
    some (record { at = at; opcode = op; operands = operands; size = size; bytes = take size rest })

unfoldable pub followed_by : Instruction → Option (List Instruction) → Option (List Instruction)
followed_by i none = none
followed_by i (some is) = some (i ∷ is)

-- `kind` says what an operand finds
module _ (kind : (place : ℕ) → Kind) where
  unfoldable pub with_operands : (at op : ℕ) → (rest : List ℕ) → Option Operands → Option Instruction
  with_operands at op rest none = none
  with_operands at op rest (some operands) = sized at op operands rest (size_with operands (kind (get_or rest 0 0)))

  -- of an opcode and what stands behind it
  unfoldable pub instruction : (at op : ℕ) → (rest : List ℕ) → Option Instruction
  instruction at op rest = with_operands at op rest (operands_of op)

  -- from `at` on, where `skip` bytes still belong to the instruction before; none where the code has no such division: an unknown opcode, a
  -- last instruction that is cut, or a CLOSURE whose operand finds no function, so that its length is not known
  unfoldable pub divide : (at skip : ℕ) → List ℕ → Option (List Instruction)
  divide at zero [] = some []
  divide at (suc skip) [] = none
  divide at (suc skip) (_ ∷ rest) = divide (at + 1) skip rest
  divide at zero (op ∷ rest) = elim (instruction at op rest) [ none ↦ none | some i ↦ followed_by i (divide (at + 1) i.size rest) ]

unfoldable pub division : List ObjectFunction → ObjectFunction → Option (List Instruction)
division functions f = divide (kind_at functions f.chunk.constants) 0 0 f.chunk.ops

-- ## What operands must be

unfoldable pub is_value : Kind → Bool
is_value missing = false
is_value number = true
is_value text = true
is_value (function _) = false

unfoldable pub is_text : Kind → Bool
is_text missing = false
is_text number = false
is_text text = true
is_text (function _) = false

unfoldable pub is_function : Kind → Bool
is_function missing = false
is_function number = false
is_function text = false
is_function (function _) = true

-- pairs: 1 and a slot, or 0 and a captured variable of the function that holds the closure
unfoldable pub pairs_fit : (upvalue_count : ℕ) → List ℕ → Bool
pairs_fit n [] = true
pairs_fit n (is_local ∷ []) = false
pairs_fit n (is_local ∷ idx ∷ rest) = (eqb is_local 1 || (eqb is_local 0 && ltb idx n)) && pairs_fit n rest

unfoldable pub fit : (kind : (place : ℕ) → Kind) → (upvalue_count : ℕ) → Operands → (bytes : List ℕ) → Bool
fit kind n Plain bytes = true
fit kind n Byte bytes = true
fit kind n Captured bytes = ltb (get_or bytes 0 0) n
fit kind n Value bytes = is_value (kind (get_or bytes 0 0))
fit kind n Text bytes = is_text (kind (get_or bytes 0 0))
fit kind n Invoke bytes = is_text (kind (get_or bytes 0 0))
fit kind n Ahead bytes = true
fit kind n Back bytes = true
fit kind n Closure bytes = is_function (kind (get_or bytes 0 0)) && pairs_fit n (drop 1 bytes)

unfoldable pub operands_fit : (kind : (place : ℕ) → Kind) → (upvalue_count : ℕ) → Instruction → Bool
operands_fit kind n i = fit kind n i.operands i.bytes

-- ## Where jumps land

abbrev pub word : List ℕ → ℕ
word bytes = get_or bytes 0 0 + 256 * get_or bytes 1 0

-- an instruction starts there
unfoldable pub is_start : List Instruction → (at : ℕ) → Bool
is_start [] at = false
is_start (i ∷ is) at = eqb i.at at || is_start is at

-- ahead on a start or on the end of a code of `size` bytes, back on a start
unfoldable pub lands_by : List Instruction → (size at : ℕ) → Operands → (bytes : List ℕ) → Bool
lands_by is size at Plain bytes = true
lands_by is size at Byte bytes = true
lands_by is size at Captured bytes = true
lands_by is size at Value bytes = true
lands_by is size at Text bytes = true
lands_by is size at Invoke bytes = true
lands_by is size at Ahead bytes = is_start is (at + 3 + word bytes) || eqb (at + 3 + word bytes) size
lands_by is size at Back bytes = leb (word bytes) (at + 3) && is_start is (at + 3 - word bytes)
lands_by is size at Closure bytes = true

unfoldable pub lands : List Instruction → (size : ℕ) → Instruction → Bool
lands is size i = lands_by is size i.at i.operands i.bytes

-- ## Demand 3

-- a run stands for 1 to 255 bytes
unfoldable pub run_fits : Run → Bool
run_fits run = leb 1 run.count && leb run.count 255

unfoldable pub runs_fit : ObjectFunction → Bool
runs_fit f = all run_fits f.chunk.spans && eqb (total f.chunk.spans) (length f.chunk.ops)

unfoldable pub code_fits : List ObjectFunction → ObjectFunction → Option (List Instruction) → Bool
code_fits functions f none = false
code_fits functions f (some is) =
    all (operands_fit (kind_at functions f.chunk.constants) f.upvalue_count) is && all (lands is (length f.chunk.ops)) is

unfoldable pub function_fits : List ObjectFunction → ObjectFunction → Bool
function_fits functions f = runs_fit f && code_fits functions f (division functions f)

-- of all the functions of an image
unfoldable pub fits : List ObjectFunction → Bool
fits functions = all (function_fits functions) functions
