-- Tests put together: what `&&`, `||`, `all` and `all_below` say of their parts.
use mathlib.Core.Bool.{Bool, true, false, ◌&&◌, ◌||◌}
use mathlib.Core.List.{List, ◌∷◌, ◌++◌, []}
use Prim.Native.Nat.{ℕ, zero, suc, ◌<◌}
use native.Mathlib.Omega.{arith}
use lib.Dec.{T}
use Rattle.rules.specs.Base.{all, all_below}
use Rattle.std.specs.Prelude.{if◌then◌else◌}

pub both : (a b : Bool) → T a → T b → T (a && b)
both true b p q = q
both false b p q = p

pub left : (a b : Bool) → T (a && b) → T a
left true b t = tt
left false b t = t

pub right : (a b : Bool) → T (a && b) → T b
right true b t = t
right false b t = absurd t

pub or_left : (a b : Bool) → T a → T (a || b)
or_left true b t = tt
or_left false b t = absurd t

pub or_right : (a b : Bool) → T b → T (a || b)
or_right true b t = tt
or_right false b t = t

pub all_and : {A : Type 0} (p : A → Bool) (x : A) (xs : List A) → T (all p (x ∷ xs)) → T (p x) × T (all p xs)
unfolding all
all_and p x xs t = by_test (p x) t
  where
    by_test : (b : Bool) → T (if b then all p xs else false) → T b × T (all p xs)
    by_test true t = (tt, t)
    by_test false t = absurd t

pub all_cons : {A : Type 0} (p : A → Bool) (x : A) (xs : List A) → T (p x) → T (all p xs) → T (all p (x ∷ xs))
unfolding all
all_cons p x xs h t = by_test (p x) h
  where
    by_test : (b : Bool) → T b → T (if b then all p xs else false)
    by_test true h = t
    by_test false h = h

pub all_snoc : {A : Type 0} (p : A → Bool) (xs : List A) (x : A) → T (all p xs) → T (p x) → T (all p (xs ++ (x ∷ [])))
unfolding all
all_snoc p [] x t h = all_cons p x [] h tt
all_snoc p (y ∷ ys) x t h = all_cons p y (ys ++ (x ∷ [])) (all_and p y ys t).0 (all_snoc p ys x (all_and p y ys t).1 h)

pub below_all : (bound : ℕ) (p : ℕ → Bool) → ((n : ℕ) → n < bound → T (p n)) → T (all_below bound p)
unfolding all_below
below_all zero p h = tt
below_all (suc n) p h = by_test (p n) (h n (omega arith)) (below_all n p (λ m l. h m (omega arith)))
  where
    by_test : (b : Bool) → T b → T (all_below n p) → T (if b then all_below n p else false)
    by_test true t u = u
    by_test false t u = t
