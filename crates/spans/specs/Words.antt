-- The runs that words stand for: start, end and count of each in turn. One or two words that are left over are no run.
use Rattle.std.specs.Prelude.{List, ◌∷◌, ℕ, []}
use Rattle.rules.specs.Chunk.{Run}

unfoldable pub runs_of : (words : List ℕ) → List Run
runs_of [] = []
runs_of (start ∷ []) = []
runs_of (start ∷ end ∷ []) = []
runs_of (start ∷ end ∷ count ∷ words) = record { span = record { start = start; end = end }; count = count } ∷ runs_of words
