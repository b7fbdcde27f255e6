-- Laws of what operands can name of a function's constants.
use mathlib.Core.Path.{◌≡◌, refl, sym, ap, ◌∙◌}
use mathlib.Core.Bool.{Bool, true, false, ◌&&◌}
use mathlib.Core.List.{List, ◌∷◌, []}
use Prim.Native.Nat.{ℕ, zero, suc, ◌+◌, ◌-◌, ◌<◌, ◌≤◌}
use native.Mathlib.Omega.{arith}
use lib.ListN.{length, take, drop, get_elem?}
use lib.Dec.{ltb}
use borrow.Author.Tests.{ltb-true, ltb-false}
use Rattle.rules.specs.Base.{all}
use Rattle.std.specs.Prelude.{if◌then◌else◌}
use Rattle.rules.specs.Reader.{got, Reader, many}
use Rattle.rules.specs.Chunk.{Constant, ObjectFunction}
use Rattle.rules.specs.Division.{kind_of, kind_at}
use Rattle.rules.specs.ImageFile.{read_constant}
use Rattle.rules.specs.Checker.{names_earlier}
use Rattle.image_code.proofs.Steps.{no_true}
use Rattle.std.proofs.Common.{Option, Some, None}
use Rattle.image_code.specs.declared.Kind as table
use Rattle.image_records.specs.Told.{place_told}
use Rattle.image_records.proofs.Many.{onto, many_none, many_goes, many_first, many_length, same_got}
use Rattle.image_constants.specs.Words.{constants_of, Gathered}
use Rattle.image_constants.specs.Earlier.{earlier, no_function, kinds_right, Kinds}
use Rattle.image_touch.specs.Walked.{First, ConstantsKnown}

-- ## Records in a row, the first of them and the others

pub record Split {A : Type 0} (one : Reader A) (a b at next : ℕ) (vs : List A) : Type 0 where
  pub middle : ℕ
  pub front : many a one at ≡ got (take a vs) middle
  pub others : many b one middle ≡ got (drop a vs) next

module _ {A : Type 0} (one : Reader A) where
  pub split_of : (a b at next : ℕ) (vs : List A) → many (a + b) one at ≡ got vs next → Split one a b at next vs
  unfolding onto
  split_of zero b at next vs e =
      let z : 0 + b ≡ b = omega arith in
      record { middle = at; front = many_none one 0 at refl; others = ap (λ (m : ℕ). many m one at) (sym z) ∙ e }
  split_of (suc a) b at next vs e =
      let z : suc a + b ≡ suc (a + b) = omega arith in
      let f = many_first one (a + b) at next vs (ap (λ (m : ℕ). many m one at) (sym z) ∙ e) in
      let s = split_of a b f.next next f.others f.then in
      record {
        middle = s.middle;
        front =
            many_goes one (suc a) a at f.next f.value refl f.is ∙ ap (onto f.value) s.front ∙
            ap (λ (l : List A). got (take (suc a) l) s.middle) (sym f.all);
        others = s.others ∙ ap (λ (l : List A). got (drop (suc a) l) next) (sym f.all);
      }

-- ## The first 256

take_whole : {A : Type 0} (n : ℕ) (l : List A) → length l ≤ n → take n l ≡ l
take_whole zero [] h = refl
take_whole zero (x ∷ l) h = absurd (omega arith)
take_whole (suc n) [] h = refl
take_whole {A} (suc n) (x ∷ l) h = ap (λ (r : List A). x ∷ r) (take_whole n l (omega arith))

drop_taken : {A : Type 0} (n : ℕ) (l : List A) → drop n (take n l) ≡ []
drop_taken zero l = refl
drop_taken (suc n) [] = refl
drop_taken (suc n) (x ∷ l) = drop_taken n l

pub elem_in : {A : Type 0} (n : ℕ) (l : List A) (p : ℕ) → p < n → get_elem? (take n l) p ≡ get_elem? l p
elem_in zero l p h = absurd (omega arith)
elem_in (suc n) [] p h = refl
elem_in (suc n) (x ∷ l) zero h = refl
elem_in (suc n) (x ∷ l) (suc p) h = elem_in n l p (omega arith)

pub both : (a b : Bool) → (if a then b else false) ≡ true → (a ≡ true) × (b ≡ true)
both true b e = (refl, e)
both false b e = absurd (no_true e)

all_taken : {A : Type 0} (p : A → Bool) (n : ℕ) (l : List A) → all p l ≡ true → all p (take n l) ≡ true
unfolding all
all_taken p zero l e = refl
all_taken p (suc n) [] e = refl
all_taken p (suc n) (x ∷ l) e = let b = both (p x) (all p l) e in rw b.0 (all_taken p n l b.1)

right_taken : (k : ℕ) (cs : List Constant) → kinds_right k cs ≡ true → kinds_right k (take 256 cs) ≡ true
unfolding kinds_right all
right_taken k cs e =
    let b = split (all (names_earlier k) cs) (all no_function (drop 256 cs)) e in
    rw (all_taken (names_earlier k) 256 cs b, drop_taken 256 cs) refl
  where
    split : (a b : Bool) → (a && b) ≡ true → a ≡ true
    split true b e = refl
    split false b e = absurd (no_true e)

kind_taken : (fs : List ObjectFunction) (cs : List Constant) (p : ℕ) → p < 256 → kind_at fs (take 256 cs) p ≡ kind_at fs cs p
unfolding kind_at
kind_taken fs cs p h = ap (kind_of fs) (elem_in 256 cs p h)

least_taken : {A : Type 0} (n first : ℕ) (l : List A) → length l ≡ n → First n first → take first l ≡ take 256 l
least_taken {A} n first l e f = by (ltb n 256) refl
  where
    -- what is below both is below the least, so the least is one of them
    at_least : (m : ℕ) → m ≤ n → m ≤ 256 → m ≤ first
    at_least zero h g = omega arith
    at_least (suc m) h g = f.least m h g

    by : (t : Bool) → ltb n 256 ≡ t → take first l ≡ take 256 l
    by true q =
        let s : n < 256 = ltb-true _ _ q in
        let a : n ≤ first = at_least n (omega arith) (omega arith) in
        take_whole first l (omega arith) ∙ sym (take_whole 256 l (omega arith))
    by false q =
        let s : 256 ≤ n = ltb-false _ _ q in
        let a : 256 ≤ first = at_least 256 s (omega arith) in
        let m : first ≡ 256 = omega (arith, f.small) in
        ap (λ (x : ℕ). take x l) m

-- ## What `constants` does

no_place : (next : ℕ) → ◌≡◌ {A = Option ℕ} None (Some next) → ⊥
no_place next e = let z : ◌≡◌ {A = ℕ} 0 1 = cc in omega arith

module _ (s : List ℕ) (k at n first : ℕ) (f : First n first) (words : List ℕ) where
  module _ (cs : List Constant) (next : ℕ) (are : many n (read_constant s) at ≡ got cs next) where
    abbrev parts : Split (read_constant s) first (n - first) at next cs
    parts =
        split_of (read_constant s) first (n - first) at next cs
        (ap (λ (m : ℕ). many m (read_constant s) at) (let w = f.within in omega arith) ∙ are)

    gathered_at : (r : Option ℕ) → Gathered s at first r words → r ≡ Some parts.middle
    unfolding place_told
    gathered_at r g = g.told ∙ ap place_told parts.front

    words_are : (r : Option ℕ) → Gathered s at first r words → constants_of first words ≡ take 256 cs
    words_are r g =
        (same_got (g.are parts.middle (gathered_at r g)) parts.front).0 ∙
        least_taken n first cs (many_length (read_constant s) n at next cs are) f

    found_at : (r q : Option ℕ) (middle : ℕ) → Gathered s at first r words → r ≡ Some middle
        → q ≡ place_told (many (n - first) (read_constant s) middle) → q ≡ Some next
    unfolding place_told
    found_at r q middle g e t =
        let z : ◌≡◌ {A = Option ℕ} (Some middle) (Some parts.middle) = sym e ∙ gathered_at r g in
        let m : middle ≡ parts.middle = cc in
        t ∙ ap (λ (x : ℕ). place_told (many (n - first) (read_constant s) x)) m ∙ ap place_told parts.others

  pub known_stop : (r : Option ℕ) (words' : List ℕ) (kinds : List table.Kind) → r ≡ None → Gathered s at first r words → ConstantsKnown s k at n first None words' kinds
  known_stop r words' kinds e g =
      record { told = λ cs next are fine. absurd (no_place _ (sym e ∙ gathered_at cs next are r g)) }

  pub known_wrong : (r : Option ℕ) (kinds : List table.Kind) → Gathered s at first r words → Kinds (earlier s k) k (constants_of first words) false kinds
      → (words' : List ℕ) → ConstantsKnown s k at n first None words' kinds
  known_wrong r kinds g w words' =
      record {
        told =
            λ cs next are fine. absurd
            (no_true (w.told ∙ ap (kinds_right k) (words_are cs next are r g) ∙ right_taken k cs fine));
      }

  pub known_done : (r q : Option ℕ) (middle : ℕ) (kinds : List table.Kind) → Gathered s at first r words → r ≡ Some middle
      → Kinds (earlier s k) k (constants_of first words) true kinds → q ≡ place_told (many (n - first) (read_constant s) middle)
      → ConstantsKnown s k at n first q words kinds
  known_done r q middle kinds g e w t =
      record {
        told =
            λ cs next are fine. (
              found_at cs next are r q middle g e t,
              record {
                are = words_are cs next are r g;
                table =
                    λ p h. w.table refl p h ∙ ap (λ (l : List Constant). kind_at (earlier s k) l p) (words_are cs next are r g) ∙
                    kind_taken (earlier s k) cs p h;
              },
            );
      }
