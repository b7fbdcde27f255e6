-- Laws of words that are all different.
use mathlib.Core.Path.{◌≡◌, refl, sym, ap, ◌∙◌}
use mathlib.Core.Bool.{Bool, true, false, not, ◌&&◌}
use mathlib.Core.List.{List, ◌∷◌, map, []}
use mathlib.Core.Logic.{⊎_elim}
use Prim.Native.Nat.{ℕ, zero, suc, ◌+◌, ◌%◌, ◌<◌, ◌≤◌}
use native.Mathlib.Omega.{arith}
use native.Mathlib.Nat.{eq-or-lt_of_le}
use lib.ListN.{length, get_or, take, set, length-set, length-take}
use lib.Seq.{get_or-take, get_or-set_same, get_or-set_other}
use lib.Dec.{eqb}
use borrow.Author.Tests.{eq-eqb, ne_eqb, eqb-true, eqb-false, lt-ltb, le-ltb}
use Rattle.std.proofs.lemmas.List.{get_or_default}
use Rattle.rules.specs.Base.{all}
use Rattle.std.specs.Prelude.{Contains, if◌then◌else◌}
use Rattle.rules.specs.Chunk.{Constant, same_constant}
use Rattle.rules.specs.Checker.{distinct}
use Rattle.image_constants.specs.Words.{constant_of, constants_of, slot_in}
use Rattle.image_constants.proofs.Words.{same_words}

module _ (v : ℕ) where
  abbrev differs : Constant → Bool
  differs other = not (same_constant (constant_of v) other)

  other_yes : (l : List ℕ) → ((j : ℕ) → j < length l → v ≡ get_or l j 0 → ⊥) → all differs (map constant_of l) ≡ true
  unfolding all
  other_yes [] h = refl
  other_yes (x ∷ l) h =
      rw (same_words v x, ne_eqb v x (h 0 (omega arith))) (other_yes l (λ j b. h (suc j) (omega arith)))

  either_false : (b : Bool) → (if b then false else false) ≡ false
  either_false true = refl
  either_false false = refl

  other_no : (l : List ℕ) (j : ℕ) → j < length l → v ≡ get_or l j 0 → all differs (map constant_of l) ≡ false
  unfolding all
  other_no [] j h e = absurd (omega arith)
  other_no (x ∷ l) zero h e = rw (same_words v x, eq-eqb v x e) refl
  other_no (x ∷ l) (suc j) h e = rw (other_no l j (omega arith) e) (either_false (differs (constant_of x)))

distinct_yes : (l : List ℕ) → ((i j : ℕ) → i < j → j < length l → get_or l i 0 ≡ get_or l j 0 → ⊥) → distinct (map constant_of l) ≡ true
unfolding distinct
distinct_yes [] h = refl
distinct_yes (x ∷ l) h =
    rw (other_yes x l (λ j b. h 0 (suc j) (omega arith) (omega arith))) (distinct_yes l (λ i j a b. h (suc i) (suc j) (omega arith) (omega arith)))

and_false : (b : Bool) → (b && false) ≡ false
and_false true = refl
and_false false = refl

distinct_no : (l : List ℕ) (i j : ℕ) → i < j → j < length l → get_or l i 0 ≡ get_or l j 0 → distinct (map constant_of l) ≡ false
unfolding distinct
distinct_no [] i j a b e = absurd (omega arith)
distinct_no (x ∷ l) zero zero a b e = absurd (omega arith)
distinct_no (x ∷ l) zero (suc j) a b e = rw (other_no x l j (omega arith) e) refl
distinct_no (x ∷ l) (suc i) zero a b e = absurd (omega arith)
distinct_no (x ∷ l) (suc i) (suc j) a b e =
    rw (distinct_no l i j (omega arith) (omega arith) e) (and_false (all (λ other. not (same_constant (constant_of x) other)) (map constant_of l)))

-- ## Where a stamp stands

module _ (size word : ℕ) where
  pub slot_least : size < 4096 → word % 509 ≡ slot_in size word
  unfolding slot_in
  slot_least h = rw (lt-ltb size 4096 h) refl

  pub slot_low : 4096 ≤ size → size < 65536 → word % 4093 ≡ slot_in size word
  unfolding slot_in
  slot_low l h = rw (le-ltb size 4096 l, lt-ltb size 65536 h) refl

  pub slot_high : 65536 ≤ size → word % 65521 ≡ slot_in size word
  unfolding slot_in
  slot_high h = rw (le-ltb size 4096 (omega arith), le-ltb size 65536 h) refl

  pub below_least : 509 ≤ size → word % 509 < size
  below_least h = omega arith

  pub below_low : 4096 ≤ size → word % 4093 < size
  below_low h = omega arith

  pub below_high : 65536 ≤ size → word % 65521 < size
  below_high h = omega arith

-- the table is as long as it was
pub same_slot : (now room word slot : ℕ) → now ≡ room → slot ≡ slot_in now word → slot ≡ slot_in room word
same_slot now room word slot e s = s ∙ ap (λ (n : ℕ). slot_in n word) e

-- the first `i` words are different, and their slots have the mark
pub record News (place : ℕ → ℕ) (room : ℕ) (words stamps : List ℕ) (mark i : ℕ) : Type 0 where
  pub size : length stamps ≡ room
  pub new : (a b : ℕ) → a < b → b < i → get_or words a 0 ≡ get_or words b 0 → ⊥
  pub marked : (j : ℕ) → j < i → get_or stamps (place (get_or words j 0)) 0 ≡ mark

module _ (words : List ℕ) (mark : ℕ) where
  pub news_begin : (place : ℕ → ℕ) (stamps : List ℕ) → News place (length stamps) words stamps mark 0
  news_begin place stamps = record { size = refl; new = λ a b p q. absurd (omega arith); marked = λ j h. absurd (omega arith) }

  more_new : (i : ℕ) → ((a b : ℕ) → a < b → b < i → get_or words a 0 ≡ get_or words b 0 → ⊥)
      → ((j : ℕ) → j < i → get_or words j 0 ≡ get_or words i 0 → ⊥)
      → (a b : ℕ) → a < b → b < i + 1 → get_or words a 0 ≡ get_or words b 0 → ⊥
  more_new i new fresh a b p q e =
      ⊎_elim (λ (x : b ≡ i). fresh a (omega arith) (e ∙ ap (λ (n : ℕ). get_or words n 0) x)) (λ (x : b < i). new a b p x e) (eq-or-lt_of_le (omega arith))

  module _ (place : ℕ → ℕ) (room : ℕ) (stamps : List ℕ) (i word slot : ℕ) (n : News place room words stamps mark i)
      (is_IsWord : word ≡ get_or words i 0) (is-slot : slot ≡ place word) where
    -- the slot had the mark already, and no word before is this one
    pub news_looked : get_or stamps slot 0 ≡ mark → ((j : ℕ) → j < i → get_or words j 0 ≡ word → ⊥) → News place room words stamps mark (i + 1)
    news_looked stamped fresh =
        record {
          size = n.size;
          new = more_new i n.new (λ j h e. fresh j h (e ∙ sym is_IsWord));
          marked =
              λ j h. ⊎_elim
              (λ (x : j ≡ i). ap (λ (m : ℕ). get_or stamps (place (get_or words m 0)) 0) x ∙ ap (λ (w : ℕ). get_or stamps (place w) 0) (sym is_IsWord) ∙ ap
              (λ (m : ℕ). get_or stamps m 0) (sym is-slot) ∙ stamped)
              (λ (x : j < i). n.marked j x) (eq-or-lt_of_le (omega arith));
        }

    -- the slot had another mark, so this word is new
    pub news_stamped : (get_or stamps slot 0 ≡ mark → ⊥) → slot < room → News place room words (set stamps slot mark) mark (i + 1)
    news_stamped other small =
        record {
          size = length-set stamps slot mark ∙ n.size;
          new =
              more_new i n.new
              (λ j h e. other (rw (is-slot ∙ ap (λ (w : ℕ). place w) (is_IsWord ∙ sym e)) (n.marked j h)));
          marked = λ j h. stays (place (get_or words j 0)) (λ d. ⊎_elim
              (λ (x : j ≡ i). absurd (d (ap (λ (m : ℕ). place (get_or words m 0)) x ∙ ap (λ (w : ℕ). place w) (sym is_IsWord) ∙ sym is-slot)))
              (λ (x : j < i). n.marked j x) (eq-or-lt_of_le (omega arith))) (eqb (place (get_or words j 0)) slot) refl;
        }
      where
        inside : slot < length stamps
        inside = omega (arith, n.size)

        stays : (q : ℕ) → ((q ≡ slot → ⊥) → get_or stamps q 0 ≡ mark) → (t : Bool) → eqb q slot ≡ t → get_or (set stamps slot mark) q 0 ≡ mark
        stays q old true e = let s : q ≡ slot = eqb-true _ _ e in ap (λ (m : ℕ). get_or (set stamps slot mark) m 0) s ∙ get_or-set_same stamps slot mark 0 inside
        stays q old false e = let d : q ≡ slot → ⊥ = eqb-false _ _ e in get_or-set_other stamps slot q mark 0 d ∙ old d

  module _ (n : ℕ) (small : n ≤ length words) where
    size_take : length (take n words) ≡ n
    size_take = simp length-take (omega arith)

    pub news_done : (place : ℕ → ℕ) (room : ℕ) (stamps : List ℕ) (i : ℕ) → News place room words stamps mark i → n ≤ i → true ≡ distinct (constants_of n words)
    unfolding constants_of
    news_done place room stamps i w h =
        sym
        (distinct_yes (take n words) (λ a b p q e.
        let q' : b < n = omega (arith, size_take) in
        w.new a b p (omega arith) (sym (get_or-take n words a 0 (omega arith)) ∙ e ∙ get_or-take n words b 0 q')))

    pub news_broken : (i j word : ℕ) → i < n → word ≡ get_or words i 0 → j < i → get_or words j 0 ≡ word → false ≡ distinct (constants_of n words)
    unfolding constants_of
    news_broken i j word h e l f =
        sym
        (distinct_no (take n words) j i l (omega (arith, size_take))
        (get_or-take n words j 0 (omega arith) ∙ f ∙ e ∙ sym (get_or-take n words i 0 h)))

    -- the word is among those before
    pub news_found : (i word : ℕ) → i < n → word ≡ get_or words i 0 → Contains (take i words) word → false ≡ distinct (constants_of n words)
    news_found i word h e w =
        let l : length (take i words) ≡ i = simp length-take (omega arith) in
        let x : w.0 < i = omega (arith, w.1) in
        news_broken i w.0 word h e x (sym (get_or-take i words w.0 0 x) ∙ get_or_default (take i words) w.0 0 word w.1 ∙ w.2)

-- the word is not among those before
pub news_other : (words : List ℕ) (i word : ℕ) → i ≤ length words → (Contains (take i words) word → ⊥) → (j : ℕ) → j < i → get_or words j 0 ≡ word → ⊥
news_other words i word h f j l e =
    let m : length (take i words) ≡ i = simp length-take (omega arith) in
    let h : j < length (take i words) = omega (arith, m) in
    f (j, h, get_or_default (take i words) j word 0 h ∙ get_or-take i words j 0 l ∙ e)
