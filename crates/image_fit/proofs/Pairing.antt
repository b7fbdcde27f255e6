-- Laws of the pairs after a CLOSURE.
use mathlib.Core.Path.{◌≡◌, refl, ap}
use mathlib.Core.Bool.{Bool, true, false, ◌&&◌, ◌||◌}
use mathlib.Core.List.{List, ◌∷◌, []}
use Prim.Native.Nat.{ℕ, suc, ◌-◌, ◌<◌, ◌≤◌}
use native.Mathlib.Omega.{arith}
use lib.ListN.{length, get_or, take, drop}
use lib.Dec.{ltb, eqb}
use borrow.Author.Tests.{ne_eqb}
use Rattle.rules.specs.Division.{pairs_fit}

-- whether the pair that comes first is as it should
unfoldable pub pair_fits : (upvalues : ℕ) → List ℕ → Bool
pair_fits u l = eqb (get_or l 0 0) 1 || (eqb (get_or l 0 0) 0 && ltb (get_or l 1 0) u)

take_all : (l : List ℕ) → take (length l) l ≡ l
take_all [] = refl
take_all (x ∷ l) = ap (λ (r : List ℕ). x ∷ r) (take_all l)

pub pair_first : (u : ℕ) (l : List ℕ) → 2 ≤ length l → pairs_fit u l ≡ (pair_fits u l && pairs_fit u (take (length l - 2) (drop 2 l)))
unfolding pairs_fit pair_fits
pair_first u [] h = absurd (omega arith)
pair_first u (x ∷ []) h = absurd (omega arith)
pair_first u (x ∷ y ∷ l) h =
    let m : suc (suc (length l)) - 2 ≡ length l = omega arith in
    let e : take (suc (suc (length l)) - 2) l ≡ l = rw m (take_all l) in
    rw e refl

pub pairs_end : (u : ℕ) (l : List ℕ) → length l < 2 → (r : Bool) → r ≡ eqb (length l) 0 → r ≡ pairs_fit u l
unfolding pairs_fit
pairs_end u [] h r e = e
pairs_end u (x ∷ []) h r e = e
pairs_end u (x ∷ y ∷ l) h r e = absurd (omega arith)

pub pair_outer : (u : ℕ) (l : List ℕ) → get_or l 0 0 ≡ 0 → ltb (get_or l 1 0) u ≡ pair_fits u l
unfolding pair_fits
pair_outer u l e = rw e refl

pub pair_local : (u : ℕ) (l : List ℕ) → get_or l 0 0 ≡ 1 → true ≡ pair_fits u l
unfolding pair_fits
pair_local u l e = rw e refl

pub pair_bad : (u : ℕ) (l : List ℕ) → (get_or l 0 0 ≡ 0 → ⊥) → (get_or l 0 0 ≡ 1 → ⊥) → false ≡ pair_fits u l
unfolding pair_fits
pair_bad u l n m = rw (ne_eqb _ _ n, ne_eqb _ _ m) refl

pub both_false : (a b : Bool) → a ≡ false → (a && b) ≡ false
both_false a b e = rw e refl

pub both_true : (a b : Bool) → a ≡ true → (a && b) ≡ b
both_true a b e = rw e refl
