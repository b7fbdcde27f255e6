-- Laws of words and the constants that they stand for.
use mathlib.Core.Path.{◌≡◌, refl, sym, ap, ◌∙◌}
use mathlib.Core.Bool.{Bool, true, false}
use mathlib.Core.List.{List, ◌∷◌, ◌++◌, map, []}
use Prim.Native.Nat.{ℕ, suc, ◌+◌, ◌-◌, ◌*◌, ◌/◌, ◌%◌, ◌<◌, ◌≤◌}
use native.Mathlib.Omega.{arith}
use native.Mathlib.Numerals.{add-one}
use lib.ListN.{length, take, set, length-set}
use lib.Seq.{take-suc-set}
use lib.Dec.{eqb}
use borrow.Author.Tests.{eq-eqb, ne_eqb, eqb-true, eqb-false}
use Rattle.rules.specs.Reader.{got, many}
use Rattle.rules.specs.Chunk.{Constant, CN, CS, CF, same_constant}
use Rattle.rules.specs.ImageFile.{read_constant}
use Rattle.std.proofs.Common.{Some, None}
use Rattle.image_records.specs.Told.{word_of, place_told}
use Rattle.image_records.proofs.Many.{Fails, many_none, many_more, passed_none, skip_stops, skip_goes, skip_none}
use Rattle.image_records.proofs.Records.{same_word, ConstantIs}
use Rattle.image_constants.specs.Words.{constant_of, constants_of, Gathered}

module _ (w : ℕ) where
  pub is_number : w % 2 ≡ 0 → constant_of w ≡ CN (w / 2)
  unfolding constant_of
  is_number e = rw (eq-eqb _ _ e) refl

  pub is_string : (w % 2 ≡ 0 → ⊥) → w % 4 ≡ 1 → constant_of w ≡ CS (w / 4)
  unfolding constant_of
  is_string n e = rw (ne_eqb _ _ n, eq-eqb _ _ e) refl

  pub is_function : (w % 2 ≡ 0 → ⊥) → (w % 4 ≡ 1 → ⊥) → constant_of w ≡ CF (w / 4)
  unfolding constant_of
  is_function n e = rw (ne_eqb _ _ n, ne_eqb _ _ e) refl

  back_by : (t u : Bool) → eqb (w % 2) 0 ≡ t → eqb (w % 4) 1 ≡ u → word_of (constant_of w) ≡ w
  unfolding word_of
  back_by true u e f = let z : w % 2 ≡ 0 = eqb-true _ _ e in rw (is_number z) (omega arith)
  back_by false true e f =
      let z : w % 2 ≡ 0 → ⊥ = eqb-false _ _ e in
      let y : w % 4 ≡ 1 = eqb-true _ _ f in
      rw (is_string z y) (omega arith)
  back_by false false e f =
      let z : w % 2 ≡ 0 → ⊥ = eqb-false _ _ e in
      let y : w % 4 ≡ 1 → ⊥ = eqb-false _ _ f in
      rw (is_function z y) (omega arith)

  pub word_back : word_of (constant_of w) ≡ w
  word_back = back_by _ _ refl refl

pub constant_back : (c : Constant) → constant_of (word_of c) ≡ c
unfolding word_of
constant_back (CN b) =
    let e : (2 * b) % 2 ≡ 0 = omega arith in
    let f : (2 * b) / 2 ≡ b = omega arith in
    is_number (2 * b) e ∙ ap CN f
constant_back (CS b) =
    let e : (4 * b + 1) % 2 ≡ 0 → ⊥ = λ q. omega arith in
    let f : (4 * b + 1) % 4 ≡ 1 = omega arith in
    let g : (4 * b + 1) / 4 ≡ b = omega arith in
    is_string (4 * b + 1) e f ∙ ap CS g
constant_back (CF b) =
    let e : (4 * b + 3) % 2 ≡ 0 → ⊥ = λ q. omega arith in
    let f : (4 * b + 3) % 4 ≡ 1 → ⊥ = λ q. omega arith in
    let g : (4 * b + 3) / 4 ≡ b = omega arith in
    is_function (4 * b + 3) e f ∙ ap CF g

pub same_words : (a b : ℕ) → same_constant (constant_of a) (constant_of b) ≡ eqb a b
same_words a b = sym (same_word (constant_of a) (constant_of b)) ∙ rw (word_back a, word_back b) refl

-- ## One more word

map_more : (l : List ℕ) (w : ℕ) → map constant_of (l ++ (w ∷ [])) ≡ map constant_of l ++ (constant_of w ∷ [])
map_more [] w = refl
map_more (x ∷ l) w = ap (λ (r : List Constant). constant_of x ∷ r) (map_more l w)

pub constants_more : (words : List ℕ) (i w : ℕ) → i < length words → constants_of (suc i) (set words i w) ≡ constants_of i words ++ (constant_of w ∷ [])
unfolding constants_of
constants_more words i w h = ap (map constant_of) (take-suc-set words i w h) ∙ map_more (take i words) w

pub record Gathering (s : List ℕ) (begin n room : ℕ) (words : List ℕ) (at i : ℕ) : Type 0 where
  pub within : i ≤ n
  pub size : length words ≡ room
  pub done : many i (read_constant s) begin ≡ got (constants_of i words) at
  pub left : place_told (many n (read_constant s) begin) ≡ place_told (many (n - i) (read_constant s) at)

module _ (s : List ℕ) (begin n : ℕ) (words : List ℕ) where
  pub gather_begin : Gathering s begin n (length words) words begin 0
  unfolding constants_of
  gather_begin =
      record {
        within = omega arith;
        size = refl;
        done = many_none (read_constant s) 0 begin refl;
        left = ap place_told (passed_none (read_constant s) n begin);
      }

  module _ (room at i : ℕ) (g : Gathering s begin n room words at i) where
    pub gather_stop : i < n → Fails (read_constant s at) → (left_there : List ℕ) → Gathered s begin n None left_there
    gather_stop h f left_there =
        record {
          told = skip_stops (read_constant s) n i at h f ∙ sym g.left;
          are = λ next e. absurd (let z : ◌≡◌ {A = ℕ} 0 1 = cc in omega arith);
        }

    pub gather_on : (w next : ℕ) → n ≤ room → i < n → ConstantIs (read_constant s at) w next → Gathering s begin n room (set words i w) next (i + 1)
    gather_on w next small h c =
        let inside : i < length words = omega (arith, g.size) in
        let e : constant_of w ≡ c.value = ap constant_of c.coded ∙ constant_back c.value in
        record {
          within = omega arith;
          size = length-set words i w ∙ g.size;
          done =
              rw add-one
              (many_more (read_constant s) c.value at next c.is i begin (constants_of i words) g.done ∙
              ap (λ (v : Constant). got (constants_of i words ++ (v ∷ [])) next) (sym e) ∙
              ap (λ (l : List Constant). got l next) (sym (constants_more words i w inside)));
          left = g.left ∙ skip_goes (read_constant s) n i at next c.value h c.is;
        }

    pub gather_done : n ≤ i → Gathered s begin n (Some at) words
    gather_done h =
        let q : i ≡ n = omega (arith, g.within) in
        record {
          told = skip_none (read_constant s) n i at h ∙ sym g.left;
          are =
              λ next e. (let m : at ≡ next = cc in
              ap (λ (j : ℕ). many j (read_constant s) begin) (sym q) ∙ g.done ∙ ap (λ (j : ℕ). got (constants_of j words) at) q ∙
              ap (got (constants_of n words)) m);
        }
