-- The order of texts decides whether two are equal: `differs` is "not equal".
use mathlib.Core.Path.{◌≡◌, refl, subst}
use mathlib.Core.Logic.{◌≢◌}
use mathlib.Core.Bool.{Bool, true, false}
use mathlib.Core.Option.{Option, none, some}
use mathlib.Core.List.{List, ◌∷◌, []}
use Prim.Native.Nat.{ℕ}
use native.Mathlib.Omega.{arith}
use lib.Dec.{T, ltb, ltb→lt, nltb→le}
use Rattle.rules.specs.Base.{all, before}
use Rattle.std.specs.Prelude.{if◌then◌else◌}
use Rattle.rules.specs.TreeFile.{rises, differs}
use Rattle.rules_laws.proofs.Facts.{All}
use Rattle.rules_laws.proofs.Tests.{all_and, all_cons}
use Rattle.tree_file_laws.proofs.Fits.{Above}

-- what comes neither before nor after is the same
same_text : (a b : List ℕ) → before a b ≡ false → before b a ≡ false → a ≡ b
unfolding before
same_text [] [] p q = refl
same_text [] (y ∷ ys) p q = let z : ◌≡◌ {A = ℕ} 0 1 = cc in absurd (omega arith)
same_text (x ∷ xs) [] p q = let z : ◌≡◌ {A = ℕ} 0 1 = cc in absurd (omega arith)
same_text (x ∷ xs) (y ∷ ys) p q = by_tests (ltb x y) (ltb y x) refl refl (λ p q. same_text xs ys p q) p q
  where
    by_tests : (t u : Bool) → ltb x y ≡ t → ltb y x ≡ u → (before xs ys ≡ false → before ys xs ≡ false → xs ≡ ys) → (if t then true else if u then false else before xs ys) ≡ false →
        (if u then true else if t then false else before ys xs) ≡ false → x ∷ xs ≡ y ∷ ys
    by_tests true u e f ih p q = let z : ◌≡◌ {A = ℕ} 0 1 = cc in absurd (omega arith)
    by_tests false true e f ih p q = let z : ◌≡◌ {A = ℕ} 0 1 = cc in absurd (omega arith)
    by_tests false false e f ih p q =
        let z : x ≡ y = omega (arith, nltb→le x y (rw e tt), nltb→le y x (rw f tt)) in
        let w : xs ≡ ys = ih p q in
        rw (z, w)

not_before_itself : (a : List ℕ) → before a a ≡ false
unfolding before
not_before_itself [] = refl
not_before_itself (x ∷ xs) = by_test (ltb x x) refl (not_before_itself xs)
  where
    by_test : (t : Bool) → ltb x x ≡ t → before xs xs ≡ false → (if t then true else if t then false else before xs xs) ≡ false
    by_test true e ih = absurd (omega (arith, ltb→lt x x (rw e tt)))
    by_test false e ih = ih

module _ (tree : List ℕ) where
  pub differ : (a b : List ℕ) → a ≢ b → T (differs tree a b)
  unfolding differs
  differ a b n = by_tests (before a b) (before b a) refl refl
    where
      by_tests : (t u : Bool) → before a b ≡ t → before b a ≡ u → T (if t then true else u)
      by_tests true u e f = tt
      by_tests false true e f = tt
      by_tests false false e f = absurd (n (same_text a b e f))

  pub differ_so : (a b : List ℕ) → T (differs tree a b) → a ≢ b
  unfolding differs
  differ_so a b t e = by_test (before b b) (not_before_itself b) (subst (λ (a : List ℕ). T (if before a b then true else before b a)) e t)
    where
      by_test : (u : Bool) → u ≡ false → T (if u then true else u) → ⊥
      by_test true f t = let z : ◌≡◌ {A = ℕ} 0 1 = cc in omega arith
      by_test false f t = t

  pub all_differ : (text : List ℕ) (others : List (List ℕ)) → All (λ (other : List ℕ). text ≢ other) others → T (all (differs tree text) others)
  unfolding all
  all_differ text [] h = tt
  all_differ text (other ∷ others) h =
      all_cons (differs tree text) other others (differ text other h.0) (all_differ text others h.1)

  pub all_differ_so : (text : List ℕ) (others : List (List ℕ)) → T (all (differs tree text) others) → All (λ (other : List ℕ). text ≢ other) others
  all_differ_so text [] t = tt
  all_differ_so text (other ∷ others) t =
      (differ_so text other (all_and (differs tree text) other others t).0, all_differ_so text others (all_and (differs tree text) other others t).1)

  pub above : (last : Option (List ℕ)) (text : List ℕ) → Above last text → T (rises tree last text)
  unfolding rises
  above none text h = tt
  above (some last) text h = h

  pub above_so : (last : Option (List ℕ)) (text : List ℕ) → T (rises tree last text) → Above last text
  unfolding rises
  above_so none text h = tt
  above_so (some last) text h = h
