-- The header is written over the output's first six bytes.
use Rattle.std.specs.Prelude.{◌≡◌, List, ◌∷◌, ◌++◌, ℕ, length, replicate}
use Rattle.rules.specs.Base.{le}
use Rattle.writer_bytes.specs.Put.{padded}

pub record Headed (count : ℕ) (out out' : List ℕ) : Type 0 where
  pub size : length out' ≡ length out
  pub holds : (bs : List ℕ) → out ≡ padded (length out) (replicate 6 0 ++ bs) → out' ≡ padded (length out) (0x49 ∷ 0x4D ∷ le 4 count ++ bs)
