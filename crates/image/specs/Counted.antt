-- What the code passes on: the number of instructions of an image's functions and where they end, and that the code of one of them is there.
use Rattle.std.specs.Prelude.{◌≡◌, List, ℕ, ◌+◌, ◌≤◌, length, take, drop, Some, None}
use Rattle.std.proofs.Math.Option.{Option, none, some}
use Rattle.rules.specs.Chunk.{ObjectFunction}
use Rattle.rules.specs.Image.{image_bytes}
use Rattle.rules.specs.Checker.{instruction_count, code_of, code_place}
use Rattle.std.specs.declared.option.Option as answer

unfoldable pub counted_in : Option (List ObjectFunction) → answer.Option (ℕ × ℕ)
counted_in none = None
counted_in (some functions) = Some (instruction_count functions functions, length (image_bytes functions))

-- the stretch that is told of the lookup is there, and is the code
pub record Lies (image : List ℕ) (k : ℕ) : Type 0 where
  pub within : code_place image k + length (code_of image k) ≤ length image
  pub content : take (length (code_of image k)) (drop (code_place image k) image) ≡ code_of image k
