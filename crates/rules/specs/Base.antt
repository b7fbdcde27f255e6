-- What the other files share: a choice, searches, the order of texts, numbers as little-endian bytes.
use Rattle.std.specs.Prelude.{if◌then◌else◌, Bool, true, false, List, [], ◌∷◌, ℕ, zero, suc, ◌/◌, ◌%◌, ltb, eqb}
use Rattle.std.proofs.Math.Option.{Option, none, some}

-- a place, seen from one place before
unfoldable pub one_on : Option ℕ → Option ℕ
one_on none = none
one_on (some i) = some (suc i)

-- the place of the first element that passes the test
unfoldable pub position : {A : Type 0} → (A → Bool) → List A → Option ℕ
position p [] = none
position p (x ∷ xs) = if p x then some 0 else one_on (position p xs)

-- what the table has under a number
unfoldable pub lookup : {A : Type 0} → ℕ → List (ℕ × A) → Option A
lookup n [] = none
lookup n (row ∷ rows) = if eqb n row.0 then some row.1 else lookup n rows

-- every element passes
unfoldable pub all : {A : Type 0} → (A → Bool) → List A → Bool
all p [] = true
all p (x ∷ xs) = if p x then all p xs else false

-- every number below the bound passes
unfoldable pub all_below : (bound : ℕ) → (ℕ → Bool) → Bool
all_below zero p = true
all_below (suc n) p = if p n then all_below n p else false

-- `count` bytes, the lowest first
unfoldable pub le : ℕ → ℕ → List ℕ
le zero n = []
le (suc count) n = n % 256 ∷ le count (n / 256)

-- strictly rising byte order, in which a prefix comes first
unfoldable pub before : List ℕ → List ℕ → Bool
before [] [] = false
before [] (y ∷ ys) = true
before (x ∷ xs) [] = false
before (x ∷ xs) (y ∷ ys) = if ltb x y then true else if ltb y x then false else before xs ys
