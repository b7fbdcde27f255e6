-- The image file: from finished functions to bytes, with or without a directory behind them.
use Rattle.std.specs.Prelude.{Bool, List, [], ◌∷◌, ◌++◌, ℕ, ◌+◌, length, if◌then◌else◌}
use Rattle.rules.specs.Base.{le}
use Rattle.rules.specs.Chunk.{Constant, CN, CS, CF, Run, ObjectFunction}

-- ## Records

unfoldable pub join : {A : Type 0} → (A → List ℕ) → List A → List ℕ
join f [] = []
join f (x ∷ xs) = f x ++ join f xs

unfoldable pub constant_bytes : Constant → List ℕ
constant_bytes (CN bits) = 0x43 ∷ 0x4E ∷ le 8 bits
constant_bytes (CS name) = 0x43 ∷ 0x53 ∷ le 2 name
constant_bytes (CF number) = 0x43 ∷ 0x46 ∷ le 4 number

unfoldable pub run_bytes : Run → List ℕ
run_bytes run = 0x52 ∷ 0x55 ∷ le 4 run.span.start ++ le 4 run.span.end ++ le 1 run.count

unfoldable pub function_bytes : ObjectFunction → List ℕ
function_bytes f =
    0x46 ∷ 0x4E ∷ le 2 f.name ++ le 1 f.arity ++ le 2 f.upvalue_count
    ++ le 2 (length f.chunk.constants) ++ le 4 (length f.chunk.spans) ++ le 4 (length f.chunk.ops)
    ++ join constant_bytes f.chunk.constants
    ++ join run_bytes f.chunk.spans
    ++ 0x43 ∷ 0x44 ∷ f.chunk.ops

unfoldable pub image_bytes : List ObjectFunction → List ℕ
image_bytes functions = 0x49 ∷ 0x4D ∷ le 4 (length functions) ++ join function_bytes functions

-- ## The directory

-- where the functions' records stand, the first at `at`
unfoldable pub places : (at : ℕ) → List ObjectFunction → List ℕ
places at [] = []
places at (f ∷ fs) = at ∷ places (at + length (function_bytes f)) fs

-- the first record stands behind the image's mark and count
unfoldable pub directory_bytes : List ObjectFunction → List ℕ
directory_bytes functions = 0x44 ∷ 0x58 ∷ le 4 (length functions) ++ join (le 4) (places 6 functions)

unfoldable pub image_with : (directory : Bool) → List ObjectFunction → List ℕ
image_with directory functions = if directory then image_bytes functions ++ directory_bytes functions else image_bytes functions
