-- Laws of counts up to two.
use mathlib.Core.Path.{◌≡◌, refl, sym, ap, ◌∙◌}
use mathlib.Core.Bool.{Bool, true, false}
use mathlib.Core.List.{List, ◌∷◌, ◌++◌, []}
use Prim.Native.Nat.{ℕ, zero, suc, ◌+◌, ◌/◌, ◌%◌, ◌<◌, ◌≤◌}
use native.Mathlib.Omega.{arith}
use lib.ListN.{length, get_or, set, length-set}
use lib.Seq.{get_or-set_same, get_or-set_other}
use lib.Dec.{eqb}
use borrow.Author.Tests.{eq-eqb, ne_eqb, eqb-true, eqb-false}
use Rattle.rules.specs.Chunk.{Constant, same_constant, ObjectFunction}
use Rattle.rules.specs.Checker.{names, names_in_all}
use Rattle.image_constants.specs.Words.{constant_of}
use Rattle.image_constants.proofs.Words.{is_number, is_string, is_function}
use Rattle.image_naming.specs.Noted.{cap, Capped, Noted, names_one}

cap_low : (n : ℕ) → n ≤ 2 → cap n ≡ n
unfolding cap
cap_low zero h = refl
cap_low (suc zero) h = refl
cap_low (suc (suc zero)) h = refl
cap_low (suc (suc (suc n))) h = absurd (omega arith)

cap_high : (n : ℕ) → 2 ≤ n → cap n ≡ 2
unfolding cap
cap_high zero h = absurd (omega arith)
cap_high (suc zero) h = absurd (omega arith)
cap_high (suc (suc n)) h = refl

cap_is : (n : ℕ) → cap n ≤ 2
unfolding cap
cap_is zero = omega arith
cap_is (suc zero) = omega arith
cap_is (suc (suc n)) = omega arith

cap_more : (a b : ℕ) → cap (cap a + b) ≡ cap (a + b)
unfolding cap
cap_more zero b = refl
cap_more (suc zero) b = refl
cap_more (suc (suc a)) b = cap_high (2 + b) (omega arith) ∙ sym (cap_high (suc (suc a) + b) (omega arith))

pub cap_one : (n : ℕ) → eqb (cap n) 1 ≡ eqb n 1
unfolding cap
cap_one zero = refl
cap_one (suc zero) = refl
cap_one (suc (suc n)) = sym (ne_eqb (suc (suc n)) 1 (λ q. omega arith))

-- ## One constant

names_none : (w number : ℕ) → (w % 4 ≡ 3 → ⊥) → names_one (constant_of w) number ≡ 0
unfolding names_one same_constant
names_none w number h = by (eqb (w % 2) 0) (eqb (w % 4) 1) refl refl
  where
    by : (t u : Bool) → eqb (w % 2) 0 ≡ t → eqb (w % 4) 1 ≡ u → names_one (constant_of w) number ≡ 0
    by true u e f = let z : w % 2 ≡ 0 = eqb-true _ _ e in rw (is_number w z) refl
    by false true e f =
        let z : w % 2 ≡ 0 → ⊥ = eqb-false _ _ e in
        let y : w % 4 ≡ 1 = eqb-true _ _ f in
        rw (is_string w z y) refl
    by false false e f =
        let a : w % 2 ≡ 0 → ⊥ = eqb-false _ _ e in
        let b : w % 4 ≡ 1 → ⊥ = eqb-false _ _ f in
        absurd (odd a b)
      where
        odd : (w % 2 ≡ 0 → ⊥) → (w % 4 ≡ 1 → ⊥) → ⊥
        odd a b = h (omega arith)

names_it : (w number : ℕ) → w % 4 ≡ 3 → number ≡ w / 4 → names_one (constant_of w) number ≡ 1
unfolding names_one same_constant
names_it w number e q =
    let a : w % 2 ≡ 0 → ⊥ = λ z. omega arith in
    let b : w % 4 ≡ 1 → ⊥ = λ z. omega arith in
    rw (is_function w a b, eq-eqb _ _ q) refl

names_other : (w number : ℕ) → w % 4 ≡ 3 → (number ≡ w / 4 → ⊥) → names_one (constant_of w) number ≡ 0
unfolding names_one same_constant
names_other w number e q =
    let a : w % 2 ≡ 0 → ⊥ = λ z. omega arith in
    let b : w % 4 ≡ 1 → ⊥ = λ z. omega arith in
    rw (is_function w a b, ne_eqb _ _ q) refl

module _ (w base : ℕ) (seen : List ℕ) (c : Capped seen) where
  abbrev more : ℕ → ℕ
  more = names_one (constant_of w)

  unchanged : ((i : ℕ) → i < length seen → more (base + i) ≡ 0) → Noted base more seen seen
  unchanged z =
      record {
        size = refl;
        counts = λ i h. (let e : get_or seen i 0 + more (base + i) ≡ get_or seen i 0 = (let y = z i h in omega arith) in sym (ap cap e ∙ cap_low (get_or seen i 0) (c.low i h)));
      }

  pub note_none : (w % 4 ≡ 3 → ⊥) → Noted base more seen seen
  note_none h = unchanged (λ i l. names_none w (base + i) h)

  module _ (e : w % 4 ≡ 3) where
    pub note_below : w / 4 < base → Noted base more seen seen
    note_below h = unchanged (λ i l. names_other w (base + i) e (λ q. omega arith))

    pub note_above : (slot : ℕ) → w / 4 ≡ base + slot → length seen ≤ slot → Noted base more seen seen
    note_above slot q h = unchanged (λ i l. names_other w (base + i) e (λ z. omega arith))

    module _ (slot : ℕ) (is-slot : w / 4 ≡ base + slot) (small : slot < length seen) where
      other_slot : (i : ℕ) → (i ≡ slot → ⊥) → more (base + i) ≡ 0
      other_slot i n = names_other w (base + i) e (λ z. n (omega arith))

      this_slot : (i : ℕ) → i ≡ slot → more (base + i) ≡ 1
      this_slot i q = names_it w (base + i) e (omega arith)

      pub note_full : 2 ≤ get_or seen slot 0 → Noted base more seen seen
      note_full h =
          record { size = refl; counts = λ i l. by i l (eqb i slot) refl }
        where
          by : (i : ℕ) → i < length seen → (t : Bool) → eqb i slot ≡ t → get_or seen i 0 ≡ cap (get_or seen i 0 + more (base + i))
          by i l true f =
              let q : i ≡ slot = eqb-true _ _ f in
              let v : get_or seen i 0 ≡ get_or seen slot 0 = ap (λ (m : ℕ). get_or seen m 0) q in
              let u = c.low i l in
              let y : get_or seen i 0 ≡ 2 = omega arith in
              y ∙ sym (cap_high _ (omega arith))
          by i l false f =
              let z = other_slot i (eqb-false _ _ f) in
              let y : get_or seen i 0 + more (base + i) ≡ get_or seen i 0 = omega arith in
              sym (ap cap y ∙ cap_low _ (c.low i l))

      pub note_more : get_or seen slot 0 < 2 → Noted base more seen (set seen slot (get_or seen slot 0 + 1))
      note_more h = record { size = length-set seen slot _; counts = λ i l. by i l (eqb i slot) refl }
        where
          by : (i : ℕ) → i < length seen → (t : Bool) → eqb i slot ≡ t → get_or (set seen slot (get_or seen slot 0 + 1)) i 0 ≡ cap (get_or seen i 0 + more (base + i))
          by i l true f =
              let q : i ≡ slot = eqb-true _ _ f in
              let z = this_slot i q in
              let v : get_or seen i 0 ≡ get_or seen slot 0 = ap (λ (m : ℕ). get_or seen m 0) q in
              let y : get_or seen i 0 + more (base + i) ≡ get_or seen slot 0 + 1 = omega arith in
              ap (λ (m : ℕ). get_or (set seen slot (get_or seen slot 0 + 1)) m 0) q ∙ get_or-set_same seen slot (get_or seen slot 0 + 1) 0 small ∙
              sym (ap cap y ∙ cap_low _ (omega arith))
          by i l false f =
              let n : i ≡ slot → ⊥ = eqb-false _ _ f in
              let z = other_slot i n in
              let y : get_or seen i 0 + more (base + i) ≡ get_or seen i 0 = omega arith in
              get_or-set_other seen slot i (get_or seen slot 0 + 1) 0 n ∙ sym (ap cap y ∙ cap_low _ (c.low i l))

-- ## One after the other

pub noted_capped : {base : ℕ} {more : ℕ → ℕ} (seen after : List ℕ) → Noted base more seen after → Capped after
noted_capped seen after n = record { low = λ i h. (let e = n.counts i (omega (arith, n.size)) in let l = cap_is (get_or seen i 0 + _) in rw e l) }

pub noted_then : (base : ℕ) (a b more : ℕ → ℕ) (seen middle after : List ℕ) → Noted base a seen middle → Noted base b middle after
    → ((x : ℕ) → more x ≡ a x + b x) → Noted base more seen after
noted_then base a b more seen middle after p q e =
    record {
      size = q.size ∙ p.size;
      counts =
          λ i h. (let h' : i < length middle = omega (arith, p.size) in
          let z : get_or seen i 0 + a (base + i) + b (base + i) ≡ get_or seen i 0 + more (base + i) = (let y = e (base + i) in omega arith) in
          q.counts i h' ∙ ap (λ (x : ℕ). cap (x + b (base + i))) (p.counts i h) ∙ cap_more (get_or seen i 0 + a (base + i)) (b (base + i)) ∙ ap cap z);
    }

pub noted_none : (base : ℕ) (more : ℕ → ℕ) (seen : List ℕ) → Capped seen → ((x : ℕ) → more x ≡ 0) → Noted base more seen seen
noted_none base more seen c e =
    record {
      size = refl;
      counts = λ i h. (let z : get_or seen i 0 + more (base + i) ≡ get_or seen i 0 = (let y = e (base + i) in omega arith) in sym (ap cap z ∙ cap_low _ (c.low i h)));
    }

pub names_more : (x : ℕ) (cs : List Constant) (c : Constant) → names x (cs ++ (c ∷ [])) ≡ names x cs + names_one c x
unfolding names names_one
names_more x [] c = omega arith
names_more x (d ∷ cs) c = let h = names_more x cs c in omega arith

pub all_more : (x : ℕ) (fs : List ObjectFunction) (f : ObjectFunction) → names_in_all x (fs ++ (f ∷ [])) ≡ names_in_all x fs + names x f.chunk.constants
unfolding names_in_all
all_more x [] f = omega arith
all_more x (g ∷ fs) f = let h = all_more x fs f in omega arith
