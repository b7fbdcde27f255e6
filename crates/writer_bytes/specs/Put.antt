-- What the output holds while the image is written: its bytes as far as there is room, then zeros.
use Rattle.std.specs.Prelude.{◌≡◌, List, ◌∷◌, ◌++◌, ℕ, zero, suc, ◌+◌, length, []}

unfoldable pub padded : (room : ℕ) → List ℕ → List ℕ
padded zero bs = []
padded (suc room) [] = 0 ∷ padded room []
padded (suc room) (b ∷ bs) = b ∷ padded room bs

-- behind the bytes up to `at` there are now these too, and the next place is behind them
pub record Put (out out' : List ℕ) (at : ℕ) (more : List ℕ) (r : ℕ) : Type 0 where
  pub next : r ≡ at + length more
  pub size : length out' ≡ length out
  pub holds : (bs : List ℕ) → length bs ≡ at → out ≡ padded (length out) bs → out' ≡ padded (length out) (bs ++ more)
