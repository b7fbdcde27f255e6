-- Areas that are all zero.
use mathlib.Core.Path.{◌≡◌, refl, sym, ap, ◌∙◌}
use mathlib.Core.List.{List, ◌∷◌}
use Prim.Native.Nat.{ℕ, zero, suc}
use lib.ListN.{length, replicate, length-replicate}
use Rattle.writer.specs.Put.{padded}

-- however long the area is called
pub cleared_as : {area : List ℕ} {m n : ℕ} → m ≡ n → area ≡ replicate m 0 → area ≡ replicate n 0
cleared_as e c = c ∙ ap (λ (k : ℕ). replicate k 0) e

pub cleared_own : {area : List ℕ} (n : ℕ) → area ≡ replicate n 0 → area ≡ replicate (length area) 0
cleared_own n c = cleared_as (sym (ap length c ∙ length-replicate n 0)) c

-- zeros are no bytes yet
pub zeros_padded : (n k : ℕ) → replicate n 0 ≡ padded n (replicate k 0)
unfolding padded
zeros_padded zero k = refl
zeros_padded (suc n) zero = ap (λ (l : List ℕ). 0 ∷ l) (zeros_padded n zero)
zeros_padded (suc n) (suc k) = ap (λ (l : List ℕ). 0 ∷ l) (zeros_padded n k)
