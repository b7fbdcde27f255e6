-- Laws of the kinds of a function's constants.
use mathlib.Core.Path.{◌≡◌, refl, sym, ap, ◌∙◌}
use mathlib.Core.Bool.{Bool, true, false, ◌&&◌}
use mathlib.Core.Option.{Option, none, some}
use mathlib.Core.List.{List, ◌∷◌, map, []}
use mathlib.Core.Logic.{⊎_elim}
use Prim.Native.Nat.{ℕ, zero, suc, ◌+◌, ◌/◌, ◌%◌, ◌<◌, ◌≤◌}
use native.Mathlib.Omega.{arith}
use native.Mathlib.Nat.{eq-or-lt_of_le}
use lib.ListN.{length, get_or, take, drop, set, length-set, length-take, get_elem?}
use lib.Seq.{get_or-take, get_or-set_same, get_or-set_other}
use lib.Dec.{ltb}
use borrow.Author.Tests.{lt-ltb, le-ltb, ltb-true, ltb-false}
use Rattle.rules.specs.Base.{all}
use Rattle.std.specs.Prelude.{if◌then◌else◌}
use Rattle.rules.specs.Reader.{Read, got, bad, many}
use Rattle.rules.specs.Chunk.{Constant, CN, CS, CF, ObjectFunction}
use Rattle.rules.specs.Division.{function_kind, kind_at}
use Rattle.rules.specs.Division as Division
use Rattle.rules.specs.ImageFile.{read_function}
use Rattle.rules.specs.Checker.{names_earlier}
use Rattle.image_code.specs.Table.{kind_of, kinds_in}
use Rattle.image_code.specs.declared.Kind as table
use Rattle.image_code.specs.declared.Kind.TheVariants.{Missing, Number, Text, Function}
use Rattle.image_records.specs.declared.Header.{Header}
use Rattle.std.proofs.Common.{Some, None}
use Rattle.image_records.specs.Told.{place_told, head_at}
use Rattle.image_code.proofs.Once.{either_false}
use Rattle.image_records.proofs.Many.{Nth, nth_of, many_length, place_bad, place_at}
use Rattle.image_records.proofs.Records.{headed, head_fails, upvalues_headed}
use Rattle.image_constants.specs.Words.{constant_of, constants_of}
use Rattle.image_constants.specs.Earlier.{functions_in, is_got, earlier, upvalues_in, upvalues_at, kind_word, no_function, kinds_right, Kinds}
use Rattle.image_constants.proofs.Words.{is_number, is_string, is_function}

no_true : false ≡ true → ⊥
no_true e = let z : ◌≡◌ {A = ℕ} 0 1 = cc in omega arith

-- ## The functions before

pub record EarlierAre (s : List ℕ) (k : ℕ) : Type 0 where
  pub at : ℕ
  pub are : many k (read_function s) 6 ≡ got (earlier s k) at

are_by : (s : List ℕ) (k : ℕ) (r : Read (List ObjectFunction)) → many k (read_function s) 6 ≡ r → is_got r ≡ true → EarlierAre s k
unfolding is_got earlier functions_in
are_by s k (bad fault) e g = absurd (no_true g)
are_by s k (got fs n) e g = record { at = n; are = e ∙ rw e refl }

pub earlier_are : (s : List ℕ) (k : ℕ) → is_got (many k (read_function s) 6) ≡ true → EarlierAre s k
earlier_are s k g = are_by s k (many k (read_function s) 6) refl g

pub earlier_number : (s : List ℕ) (k : ℕ) → is_got (many k (read_function s) 6) ≡ true → length (earlier s k) ≡ k
earlier_number s k g = let e = earlier_are s k g in many_length (read_function s) k 6 e.at (earlier s k) e.are

module _ (s : List ℕ) (j k : ℕ) (g : is_got (many k (read_function s) 6) ≡ true) (h : j < k) where
  abbrev nth : Nth (read_function s) k j 6 (earlier s k)
  nth = nth_of (read_function s) k j 6 (earlier_are s k g).at (earlier s k) (earlier_are s k g).are h

  pub walk_lost : None ≡ place_told (many j (read_function s) 6) → (r : ℕ) → r ≡ upvalues_at (earlier s k) j
  walk_lost b r =
      let f = place_bad _ b in
      absurd (let z : ◌≡◌ {A = Read (List ObjectFunction)} (bad f.fault) (got (take j (earlier s k)) nth.place) = sym f.is ∙ nth.before in let y : ◌≡◌ {A = ℕ} 0 1 = cc in omega arith)

  place_same : (at : ℕ) → Some at ≡ place_told (many j (read_function s) 6) → nth.place ≡ at
  place_same at e =
      let f = place_at _ at e in
      let z : ◌≡◌ {A = Read (List ObjectFunction)} (got f.value at) (got (take j (earlier s k)) nth.place) = sym f.is ∙ nth.before in
      cc

  pub walk_headless : (at : ℕ) → Some at ≡ place_told (many j (read_function s) 6) → None ≡ head_at s at → (r : ℕ) → r ≡ upvalues_at (earlier s k) j
  walk_headless at e b r =
      let f = head_fails s at b in
      let p = place_same at e in
      absurd (let z : ◌≡◌ {A = Read ObjectFunction} (bad f.fault) (got nth.value nth.next) = sym f.is ∙ ap (read_function s) (sym p) ∙ nth.is in
      let y : ◌≡◌ {A = ℕ} 0 1 = cc in omega arith)

  pub walk_there : (at : ℕ) → Some at ≡ place_told (many j (read_function s) 6) → (h : Header) → Some h ≡ head_at s at → h.upvalues ≡ upvalues_at (earlier s k) j
  unfolding upvalues_at upvalues_in
  walk_there at e h b =
      let p = place_same at e in
      sym (upvalues_headed s at h nth.value nth.next (headed s at h b) (ap (read_function s) (sym p) ∙ nth.is)) ∙ ap upvalues_in (sym nth.there)

-- ## A constant's word

module _ (functions : List ObjectFunction) (k w : ℕ) where
  abbrev word : table.Kind
  word = kind_word functions k (constant_of w)

  pub word_number : w % 2 ≡ 0 → Number ≡ word
  unfolding kind_word
  word_number e = rw (is_number w e) refl

  pub word_string : (w % 2 ≡ 0 → ⊥) → w % 4 ≡ 1 → Text ≡ word
  unfolding kind_word
  word_string n e = rw (is_string w n e) refl

  pub word_function : (w % 2 ≡ 0 → ⊥) → (w % 4 ≡ 1 → ⊥) → w / 4 < k → Function (upvalues_at functions (w / 4)) ≡ word
  unfolding kind_word
  word_function n m h = rw (is_function w n m, lt-ltb _ _ h) refl

  pub word_late : (w % 2 ≡ 0 → ⊥) → (w % 4 ≡ 1 → ⊥) → k ≤ w / 4 → Missing ≡ word
  unfolding kind_word
  word_late n m h = rw (is_function w n m, le-ltb _ _ h) refl

element : {A : Type 0} (l : List A) (n : ℕ) → n < length l → (v : A) × (get_elem? l n ≡ some v)
element [] n h = absurd (omega arith)
element (x ∷ l) zero h = (x, refl)
element (x ∷ l) (suc n) h = element l n (omega arith)

module _ (functions : List ObjectFunction) (k : ℕ) (number_of_lem : length functions ≡ k) where
  function_word : (n : ℕ) → n < k → kind_of (Function (upvalues_at functions n)) ≡ function_kind (get_elem? functions n)
  unfolding kind_of upvalues_at upvalues_in function_kind
  function_word n h = let e = element functions n (omega arith) in rw e.1 refl

  kind_by : (c : Constant) (t : Bool) → names_earlier k c ≡ t → (kind_word functions k c ≡ Missing → ⊥) → kind_of (kind_word functions k c) ≡ Division.kind_of functions (some c)
  unfolding kind_word names_earlier kind_of Division.kind_of
  kind_by (CN b) t e h = refl
  kind_by (CS b) t e h = refl
  kind_by (CF n) true e h = rw e (function_word n (ltb-true _ _ e))
  kind_by (CF n) false e h = absurd (h (rw e refl))

  pub kind_right : (c : Constant) → (kind_word functions k c ≡ Missing → ⊥) → kind_of (kind_word functions k c) ≡ Division.kind_of functions (some c)
  kind_right c h = kind_by c (names_earlier k c) refl h

  pub named_not : (c : Constant) → kind_word functions k c ≡ Missing → names_earlier k c ≡ false
  unfolding kind_word names_earlier
  named_not (CN b) e = absurd (let z : ◌≡◌ {A = ℕ} 0 1 = cc in omega arith)
  named_not (CS b) e = absurd (let z : ◌≡◌ {A = ℕ} 0 1 = cc in omega arith)
  named_not (CF n) e = by (ltb n k) refl e
    where
      by : (t : Bool) → ltb n k ≡ t → (if t then Function (upvalues_at functions n) else Missing) ≡ Missing → ltb n k ≡ false
      by true f z = absurd (let y : ◌≡◌ {A = ℕ} 0 1 = cc in omega arith)
      by false f z = f

  pub named : (c : Constant) → (kind_word functions k c ≡ Missing → ⊥) → names_earlier k c ≡ true
  unfolding kind_word names_earlier
  named (CN b) e = refl
  named (CS b) e = refl
  named (CF n) e = by (ltb n k) refl
    where
      by : (t : Bool) → ltb n k ≡ t → ltb n k ≡ true
      by true f = f
      by false f = absurd (e (rw f refl))

  pub plain_word : (c : Constant) → (kind_word functions k c ≡ Missing → ⊥) → ((n : ℕ) → kind_word functions k c ≡ Function n → ⊥) → no_function c ≡ true
  unfolding kind_word no_function
  plain_word (CN b) h l = refl
  plain_word (CS b) h l = refl
  plain_word (CF n) h l = absurd (by (ltb n k) refl)
    where
      by : (t : Bool) → ltb n k ≡ t → ⊥
      by true f = l (upvalues_at functions n) (rw f refl)
      by false f = h (rw f refl)

  pub function_above : (c : Constant) (n : ℕ) → kind_word functions k c ≡ Function n → no_function c ≡ false
  unfolding kind_word no_function
  function_above (CN b) n l = absurd (let z : ◌≡◌ {A = ℕ} 0 1 = cc in omega arith)
  function_above (CS b) n l = absurd (let z : ◌≡◌ {A = ℕ} 0 1 = cc in omega arith)
  function_above (CF m) n l = refl

-- ## All of them

and_false : (b : Bool) → (b && false) ≡ false
and_false true = refl
and_false false = refl

module _ (p : Constant → Bool) where
  all_yes : (l : List ℕ) → ((j : ℕ) → j < length l → p (constant_of (get_or l j 0)) ≡ true) → all p (map constant_of l) ≡ true
  unfolding all
  all_yes [] h = refl
  all_yes (x ∷ l) h = rw (h 0 (omega arith)) (all_yes l (λ j b. h (suc j) (omega arith)))

  all_no : (l : List ℕ) (j : ℕ) → j < length l → p (constant_of (get_or l j 0)) ≡ false → all p (map constant_of l) ≡ false
  unfolding all
  all_no [] j h e = absurd (omega arith)
  all_no (x ∷ l) zero h e = rw e refl
  all_no (x ∷ l) (suc j) h e = rw (all_no l j (omega arith) e) (either_false (p (constant_of x)))

  from_yes : (d : ℕ) (l : List ℕ) → ((j : ℕ) → d ≤ j → j < length l → p (constant_of (get_or l j 0)) ≡ true) → all p (drop d (map constant_of l)) ≡ true
  unfolding all
  from_yes zero l h = all_yes l (λ j b. h j (omega arith) b)
  from_yes (suc d) [] h = refl
  from_yes (suc d) (x ∷ l) h = from_yes d l (λ j a b. h (suc j) (omega arith) (omega arith))

  from_no : (d : ℕ) (l : List ℕ) (j : ℕ) → d ≤ j → j < length l → p (constant_of (get_or l j 0)) ≡ false → all p (drop d (map constant_of l)) ≡ false
  from_no zero l j a h e = all_no l j h e
  from_no (suc d) [] j a h e = absurd (omega arith)
  from_no (suc d) (x ∷ l) zero a h e = absurd (omega arith)
  from_no (suc d) (x ∷ l) (suc j) a h e = from_no d l j (omega arith) (omega arith) e

nth_some : (l : List ℕ) (p : ℕ) → p < length l → get_elem? (map constant_of l) p ≡ some (constant_of (get_or l p 0))
nth_some [] p h = absurd (omega arith)
nth_some (x ∷ l) zero h = refl
nth_some (x ∷ l) (suc p) h = nth_some l p (omega arith)

nth_none : (l : List ℕ) (p : ℕ) → length l ≤ p → get_elem? (map constant_of l) p ≡ none
nth_none [] p h = refl
nth_none (x ∷ l) zero h = absurd (omega arith)
nth_none (x ∷ l) (suc p) h = nth_none l p (omega arith)

-- the first `i` words are right, and so is the table up to there
pub record Passing (functions : List ObjectFunction) (k : ℕ) (words : List ℕ) (kinds : List table.Kind) (i : ℕ) : Type 0 where
  pub size : length kinds ≡ 256
  pub right : (j : ℕ) → j < i → kind_word functions k (constant_of (get_or words j 0)) ≡ Missing → ⊥
  pub plain : (j : ℕ) → j < i → 256 ≤ j → no_function (constant_of (get_or words j 0)) ≡ true
  pub filled : (p : ℕ) → p < 256 → p < i → get_or kinds p Missing ≡ kind_word functions k (constant_of (get_or words p 0))
  pub blank : (p : ℕ) → i ≤ p → get_or kinds p Missing ≡ Missing

module _ (functions : List ObjectFunction) (k : ℕ) (words : List ℕ) where
  abbrev word_at : ℕ → table.Kind
  word_at j = kind_word functions k (constant_of (get_or words j 0))

  pub passing_begin : (kinds : List table.Kind) → length kinds ≡ 256 → ((p : ℕ) → get_or kinds p Missing ≡ Missing) → Passing functions k words kinds 0
  passing_begin kinds l z =
      record {
        size = l;
        right = λ j h. absurd (omega arith);
        plain = λ j h. absurd (omega arith);
        filled = λ p a h. absurd (omega arith);
        blank = λ p h. z p;
      }

  module _ (kinds : List table.Kind) (i : ℕ) (kind : table.Kind) (w : Passing functions k words kinds i) (is : kind ≡ word_at i) (some-kind : kind ≡ Missing → ⊥) where
    right_more : (j : ℕ) → j < i + 1 → word_at j ≡ Missing → ⊥
    right_more j h z =
        ⊎_elim (λ (x : j ≡ i). some-kind (is ∙ ap word_at (sym x) ∙ z)) (λ (x : j < i). w.right j x z) (eq-or-lt_of_le (omega arith))

    pub passing_set : i < 256 → Passing functions k words (set kinds i kind) (i + 1)
    passing_set small =
        record {
          size = length-set kinds i kind ∙ w.size;
          right = right_more;
          plain = λ j h l. absurd (omega arith);
          filled =
              λ p a h. ⊎_elim
              (λ (x : p ≡ i). ap (λ (m : ℕ). get_or (set kinds i kind) m Missing) x ∙ get_or-set_same kinds i kind Missing (omega (arith, w.size)) ∙ is ∙ ap word_at (sym x))
              (λ (x : p < i). get_or-set_other kinds i p kind Missing (λ y. omega arith) ∙ w.filled p a x) (eq-or-lt_of_le (omega arith));
          blank = λ p h. get_or-set_other kinds i p kind Missing (λ y. omega arith) ∙ w.blank p (omega arith);
        }

    pub passing_on : 256 ≤ i → no_function (constant_of (get_or words i 0)) ≡ true → Passing functions k words kinds (i + 1)
    passing_on large low =
        record {
          size = w.size;
          right = right_more;
          plain = λ j h l. ⊎_elim (λ (x : j ≡ i). rw x low) (λ (x : j < i). w.plain j x l) (eq-or-lt_of_le (omega arith));
          filled = λ p a h. w.filled p a (omega arith);
          blank = λ p h. w.blank p (omega arith);
        }

  module _ (n : ℕ) (small : n ≤ length words) (number_of_lem : length functions ≡ k) where
    abbrev cs : List Constant
    cs = constants_of n words

    size_take : length (take n words) ≡ n
    size_take = simp length-take (omega arith)

    at_take : (j : ℕ) → j < n → constant_of (get_or (take n words) j 0) ≡ constant_of (get_or words j 0)
    at_take j h = ap constant_of (get_or-take n words j 0 h)

    -- a constant that is not right
    pub passing_bad : (kinds : List table.Kind) (i : ℕ) → i < n → Missing ≡ word_at i → Kinds functions k cs false kinds
    unfolding constants_of kinds_right
    passing_bad kinds i h z =
        let f : names_earlier k (constant_of (get_or (take n words) i 0)) ≡ false = rw (at_take i h) (named_not functions k number_of_lem (constant_of (get_or words i 0)) (sym z)) in
        record {
          told = rw (all_no (names_earlier k) (take n words) i (omega (arith, size_take)) f) refl;
          table = λ e. absurd (no_true e);
        }

    pub passing_late : (kinds : List table.Kind) (i : ℕ) → i < n → 256 ≤ i → no_function (constant_of (get_or words i 0)) ≡ false → Kinds functions k cs false kinds
    unfolding constants_of kinds_right
    passing_late kinds i h l m =
        let f : no_function (constant_of (get_or (take n words) i 0)) ≡ false = rw (at_take i h) m in
        record {
          told = sym (rw (from_no no_function 256 (take n words) i l (omega (arith, size_take)) f) (and_false (all (names_earlier k) (map constant_of (take n words)))));
          table = λ e. absurd (no_true e);
        }

    module _ (kinds : List table.Kind) (i : ℕ) (w : Passing functions k words kinds i) (e : i ≡ n) where
      all_named : all (names_earlier k) (map constant_of (take n words)) ≡ true
      all_named =
          all_yes (names_earlier k) (take n words) (λ j b.
          let h : j < n = omega (arith, size_take) in
          rw (at_take j h) (named functions k number_of_lem (constant_of (get_or words j 0)) (w.right j (omega arith))))

      all_plain : all no_function (drop 256 (map constant_of (take n words))) ≡ true
      all_plain =
          from_yes no_function 256 (take n words) (λ j a b.
          let h : j < n = omega (arith, size_take) in
          rw (at_take j h) (w.plain j (omega arith) a))

      table_is : (p : ℕ) → p < 256 → (t : Bool) → ltb p n ≡ t → kinds_in kinds p ≡ kind_at functions cs p
      unfolding constants_of kinds_in kind_at kind_of Division.kind_of
      table_is p small true f =
          let h : p < n = ltb-true _ _ f in
          ap kind_of (w.filled p small (omega arith)) ∙ kind_right functions k number_of_lem (constant_of (get_or words p 0)) (w.right p (omega arith)) ∙
          ap (λ (c : Option Constant). Division.kind_of functions c) (sym (nth_some (take n words) p (omega (arith, size_take)) ∙ ap some (at_take p h)))
      table_is p small false f =
          let h : n ≤ p = ltb-false _ _ f in
          ap kind_of (w.blank p (omega arith)) ∙ ap (λ (c : Option Constant). Division.kind_of functions c) (sym (nth_none (take n words) p (omega (arith, size_take))))

      pub passing_done : Kinds functions k cs true kinds
      unfolding constants_of kinds_right
      passing_done =
          record {
            told = sym (rw (all_named, all_plain) refl);
            table = λ r p h. table_is p h (ltb p n) refl;
          }
