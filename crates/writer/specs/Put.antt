-- What the writer's contracts cite: what the output holds, and a function's record.
unfoldable pub use Rattle.writer_bytes.specs.Put.{padded}
pub use Rattle.writer_bytes.specs.Put.{Put}
pub use Rattle.writer_header.specs.Header.{Headed}
use Rattle.std.specs.Prelude.{◌≡◌, List, ◌∷◌, ◌++◌, ℕ, ◌+◌, ◌*◌, ◌≤◌, ◌<◌, length, replicate, []}
use Rattle.rules.specs.Base.{le}
use Rattle.rules.specs.Chunk.{ObjectFunction}
use Rattle.rules.specs.Image.{join, function_bytes}
use Rattle.rules.specs.Limits.{max_code}
use Rattle.state.specs.Layout.{levels, start_of_code, end_of_code, start_of_runs, end_of_runs, Wf}

-- a function's record up to its constants
unfoldable pub head_bytes : (name arity upvalues constants runs code : ℕ) → List ℕ
head_bytes name arity upvalues constants runs code =
    0x46 ∷ 0x4E ∷ le 2 name ++ le 1 arity ++ le 2 upvalues ++ le 2 constants ++ le 4 runs ++ le 4 code

-- a level whose function can be put: its words, its code and its runs lie within the lent areas
pub record Closed (t code spans : List ℕ) (l : ℕ) : Type 0 where
  pub low : l < levels
  pub wf : Wf t
  pub code_order : start_of_code t l ≤ end_of_code t
  pub code_room : end_of_code t ≤ length code
  pub code_small : end_of_code t ≤ max_code
  pub runs_order : start_of_runs t l ≤ end_of_runs t
  pub runs_room : end_of_runs t * 3 ≤ length spans
  pub runs_few : end_of_runs t ≤ end_of_code t

-- ## The records of an image's functions

-- the counts of a function's record say how many parts there are: none is cut to its field
pub record Counted (f : ObjectFunction) : Type 0 where
  pub constants : length f.chunk.constants < 65_536
  pub runs : length f.chunk.spans < 4_294_967_296
  pub code : length f.chunk.ops < 4_294_967_296

abbrev pub AllCounted : List ObjectFunction → Type 0
AllCounted [] = Unit {0}
AllCounted (f ∷ fs) = Counted f × AllCounted fs

-- they stand behind six bytes for the header, as far as there is room, and n is behind the last
pub record Records (out : List ℕ) (n : ℕ) (functions : List ObjectFunction) : Type 0 where
  pub bytes : out ≡ padded (length out) (replicate 6 0 ++ join function_bytes functions)
  pub long : n ≡ 6 + length (join function_bytes functions)
  pub counted : AllCounted functions
