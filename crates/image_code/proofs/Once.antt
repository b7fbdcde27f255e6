-- Laws of what is so below a bound.
use mathlib.Core.Path.{◌≡◌, refl, sym}
use mathlib.Core.Bool.{Bool, true, false}
use Prim.Native.Nat.{ℕ, zero, suc, ◌+◌, ◌<◌}
use native.Mathlib.Omega.{arith}
use native.Mathlib.Nat.{eq-or-lt_of_le}
use native.Mathlib.Numerals.{add-one}
use mathlib.Core.Logic.{⊎_elim}
use Rattle.rules.specs.Base.{all_below}
use Rattle.std.specs.Prelude.{if◌then◌else◌}

pub either_false : (b : Bool) → (if b then false else false) ≡ false
either_false true = refl
either_false false = refl

pub below_more_true : (i : ℕ) (p : ℕ → Bool) → all_below i p ≡ true → p i ≡ true → all_below (i + 1) p ≡ true
unfolding all_below
below_more_true i p a b = rw (add-one, a, b) refl

pub below_false : (n i : ℕ) (p : ℕ → Bool) → i < n → p i ≡ false → all_below n p ≡ false
unfolding all_below
below_false zero i p h e = absurd (omega arith)
below_false (suc n) i p h e =
    ⊎_elim (λ (q : i ≡ n). rw (← q, e) refl)
    (λ (q : i < n). rw (below_false n i p q e) (either_false (p n)))
    (eq-or-lt_of_le (omega arith))

pub below_same : (n : ℕ) (p q : ℕ → Bool) → ((i : ℕ) → i < n → p i ≡ q i) → all_below n p ≡ all_below n q
unfolding all_below
below_same zero p q h = refl
below_same (suc n) p q h = rw (below_same n p q (λ i l. h i (omega arith)), h n (omega arith)) refl

pub all_begin : (p : ℕ → Bool) → all_below 0 p ≡ true
unfolding all_below
all_begin p = refl

pub all_end : (p : ℕ → Bool) (i : ℕ) → i ≡ 256 → all_below i p ≡ true → true ≡ all_below 256 p
all_end p i e a = sym (rw e at a)
