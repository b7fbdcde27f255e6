-- src/vm/op.rs: the forty opcodes, numbered in its order, and what follows each in the code.
use Rattle.std.proofs.Math.Option.{Option, none, some}
use Rattle.std.specs.Prelude.{List, [], ◌∷◌, ℕ, ◌+◌, ◌*◌}
use Rattle.rules.specs.Base.{lookup}

abbrev pub CONSTANT : ℕ
CONSTANT = 0

abbrev pub NIL : ℕ
NIL = 1

abbrev pub TRUE : ℕ
TRUE = 2

abbrev pub FALSE : ℕ
FALSE = 3

abbrev pub POP : ℕ
POP = 4

abbrev pub GET_LOCAL : ℕ
GET_LOCAL = 5

abbrev pub SET_LOCAL : ℕ
SET_LOCAL = 6

abbrev pub GET_GLOBAL : ℕ
GET_GLOBAL = 7

abbrev pub DEFINE_GLOBAL : ℕ
DEFINE_GLOBAL = 8

abbrev pub SET_GLOBAL : ℕ
SET_GLOBAL = 9

abbrev pub GET_UPVALUE : ℕ
GET_UPVALUE = 10

abbrev pub SET_UPVALUE : ℕ
SET_UPVALUE = 11

abbrev pub GET_PROPERTY : ℕ
GET_PROPERTY = 12

abbrev pub SET_PROPERTY : ℕ
SET_PROPERTY = 13

abbrev pub GET_SUPER : ℕ
GET_SUPER = 14

abbrev pub EQUAL : ℕ
EQUAL = 15

abbrev pub NOT_EQUAL : ℕ
NOT_EQUAL = 16

abbrev pub GREATER : ℕ
GREATER = 17

abbrev pub GREATER_EQUAL : ℕ
GREATER_EQUAL = 18

abbrev pub LESS : ℕ
LESS = 19

abbrev pub LESS_EQUAL : ℕ
LESS_EQUAL = 20

abbrev pub ADD : ℕ
ADD = 21

abbrev pub SUBTRACT : ℕ
SUBTRACT = 22

abbrev pub MULTIPLY : ℕ
MULTIPLY = 23

abbrev pub DIVIDE : ℕ
DIVIDE = 24

abbrev pub NOT : ℕ
NOT = 25

abbrev pub NEGATE : ℕ
NEGATE = 26

abbrev pub PRINT : ℕ
PRINT = 27

abbrev pub JUMP : ℕ
JUMP = 28

abbrev pub JUMP_IF_FALSE : ℕ
JUMP_IF_FALSE = 29

abbrev pub LOOP : ℕ
LOOP = 30

abbrev pub CALL : ℕ
CALL = 31

abbrev pub INVOKE : ℕ
INVOKE = 32

abbrev pub SUPER_INVOKE : ℕ
SUPER_INVOKE = 33

abbrev pub CLOSURE : ℕ
CLOSURE = 34

abbrev pub CLOSE_UPVALUE : ℕ
CLOSE_UPVALUE = 35

abbrev pub RETURN : ℕ
RETURN = 36

abbrev pub CLASS : ℕ
CLASS = 37

abbrev pub INHERIT : ℕ
INHERIT = 38

abbrev pub METHOD : ℕ
METHOD = 39

-- what an instruction's operands are
pub data Operands : Type 0 where
  Plain : Operands  -- none
  Byte : Operands  -- a slot or a count
  Captured : Operands  -- a captured variable's place
  Value : Operands  -- the place of a constant, a number or a string
  Text : Operands  -- the place of a constant, a string
  Invoke : Operands  -- the place of a string, and a count
  Ahead : Operands  -- two bytes: how far to go on
  Back : Operands  -- two bytes: how far to go back
  Closure : Operands  -- the place of a function, and a pair for each of its captured variables

unfoldable pub operands : List (ℕ × Operands)
operands =
    (CONSTANT, Value) ∷
    (NIL, Plain) ∷
    (TRUE, Plain) ∷
    (FALSE, Plain) ∷
    (POP, Plain) ∷
    (GET_LOCAL, Byte) ∷
    (SET_LOCAL, Byte) ∷
    (GET_GLOBAL, Text) ∷
    (DEFINE_GLOBAL, Text) ∷
    (SET_GLOBAL, Text) ∷
    (GET_UPVALUE, Captured) ∷
    (SET_UPVALUE, Captured) ∷
    (GET_PROPERTY, Text) ∷
    (SET_PROPERTY, Text) ∷
    (GET_SUPER, Text) ∷
    (EQUAL, Plain) ∷
    (NOT_EQUAL, Plain) ∷
    (GREATER, Plain) ∷
    (GREATER_EQUAL, Plain) ∷
    (LESS, Plain) ∷
    (LESS_EQUAL, Plain) ∷
    (ADD, Plain) ∷
    (SUBTRACT, Plain) ∷
    (MULTIPLY, Plain) ∷
    (DIVIDE, Plain) ∷
    (NOT, Plain) ∷
    (NEGATE, Plain) ∷
    (PRINT, Plain) ∷
    (JUMP, Ahead) ∷
    (JUMP_IF_FALSE, Ahead) ∷
    (LOOP, Back) ∷
    (CALL, Byte) ∷
    (INVOKE, Invoke) ∷
    (SUPER_INVOKE, Invoke) ∷
    (CLOSURE, Closure) ∷
    (CLOSE_UPVALUE, Plain) ∷
    (RETURN, Plain) ∷
    (CLASS, Text) ∷
    (INHERIT, Plain) ∷
    (METHOD, Text) ∷ []

-- none of a byte that is no opcode
unfoldable pub operands_of : (op : ℕ) → Option Operands
operands_of op = lookup op operands

-- how many bytes follow the opcode; `upvalues` is how many variables a CLOSURE's function captures
unfoldable pub size_of : Operands → (upvalues : ℕ) → ℕ
size_of Plain upvalues = 0
size_of Byte upvalues = 1
size_of Captured upvalues = 1
size_of Value upvalues = 1
size_of Text upvalues = 1
size_of Invoke upvalues = 2
size_of Ahead upvalues = 2
size_of Back upvalues = 2
size_of Closure upvalues = 1 + 2 * upvalues

unfoldable pub width_of : Option Operands → (upvalues : ℕ) → ℕ
width_of none upvalues = 0
width_of (some operands) upvalues = 1 + size_of operands upvalues

-- how many bytes an instruction has, its opcode among them; 0 of a byte that is no opcode
unfoldable pub width : (op upvalues : ℕ) → ℕ
width op upvalues = width_of (operands_of op) upvalues
