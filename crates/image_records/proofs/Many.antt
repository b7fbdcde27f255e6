-- Laws of a number of records in a row: the first and the rest, all but the last and the last, bytes.
use mathlib.Core.Path.{◌≡◌, refl, sym, ap, ◌∙◌}
use mathlib.Core.List.{List, ◌∷◌, ◌++◌, []}
use Prim.Native.Nat.{ℕ, zero, suc, ◌+◌, ◌-◌, ◌≤◌, ◌<◌}
use native.Mathlib.Numerals.{add-one}
use native.Mathlib.Omega.{arith}
use mathlib.Core.Option.{some}
use lib.ListN.{length, get_or, take, drop, get_elem?}
use lib.Seq.{drop-cons}
use Rattle.rules.specs.declared.Refusal.{Refusal}
use Rattle.rules.specs.Reader.{Read, got, bad, Reader, go_on, ◌>>=◌, return, many, u8}
use Rattle.fields.proofs.Reading.{a_u8}
use Rattle.std.proofs.Common.{Option, Some, None}
use Rattle.image_records.specs.Told.{place_told}

-- a refusal, whichever
pub record Fails {A : Type 0} (r : Read A) : Type 0 where
  pub fault : Refusal
  pub is : r ≡ bad fault

pub record Gives {A : Type 0} (r : Read A) (next : ℕ) : Type 0 where
  pub value : A
  pub is : r ≡ got value next

pub got_bad : {A : Type 0} {r : Read A} {a : A} {n : ℕ} → Fails r → r ≡ got a n → ⊥
got_bad f e = let z = sym f.is ∙ e in let y : ◌≡◌ {A = ℕ} 0 1 = cc in omega arith

-- a reader that gives two things gives one
pub same_got : {A : Type 0} {r : Read A} {a b : A} {m n : ℕ} → r ≡ got a m → r ≡ got b n → (a ≡ b) × (m ≡ n)
same_got e f = let z = sym e ∙ f in (cc, cc)

pub none_some : {A : Type 0} {a : A} → ◌≡◌ {A = Option A} None (Some a) → ⊥
none_some e = let z : ◌≡◌ {A = ℕ} 0 1 = cc in omega arith

pub place_bad : {A : Type 0} (r : Read A) → None ≡ place_told r → Fails r
unfolding place_told
place_bad (bad fault) e = record { fault = fault; is = refl }
place_bad (got a n) e = let z : ◌≡◌ {A = ℕ} 0 1 = cc in absurd (omega arith)

pub fails_bad : {A : Type 0} {r : Read A} → Fails r → None ≡ place_told r
unfolding place_told
fails_bad f = sym (ap place_told f.is)

pub gives_at : {A : Type 0} {r : Read A} {a : A} {next : ℕ} → r ≡ got a next → Some next ≡ place_told r
unfolding place_told
gives_at e = sym (ap place_told e)

pub fails_as : {A : Type 0} {r q : Read A} → r ≡ q → Fails q → Fails r
fails_as e f = record { fault = f.fault; is = e ∙ f.is }

pub place_at : {A : Type 0} (r : Read A) (next : ℕ) → Some next ≡ place_told r → Gives r next
unfolding place_told
place_at (bad fault) next e = let z : ◌≡◌ {A = ℕ} 0 1 = cc in absurd (omega arith)
place_at (got a n) next e = let m : n ≡ next = cc in record { value = a; is = ap (got a) m }

-- one more in front
unfoldable pub onto : {A : Type 0} → A → Read (List A) → Read (List A)
onto a (bad fault) = bad fault
onto a (got vs next) = got (a ∷ vs) next

onto_is : {A : Type 0} (a : A) (r : Read (List A)) → go_on r (λ rest. return (a ∷ rest)) ≡ onto a r
unfolding go_on return onto
onto_is a (bad fault) = refl
onto_is a (got vs next) = refl

pub onto_place : {A : Type 0} (a : A) (r : Read (List A)) → place_told (onto a r) ≡ place_told r
unfolding place_told onto
onto_place a (bad fault) = refl
onto_place a (got vs next) = refl

module _ {A : Type 0} (one : Reader A) where
  pub many_none : (n at : ℕ) → n ≡ 0 → many n one at ≡ got [] at
  unfolding many return
  many_none n at e = rw e refl

  pub many_stops : (n m at : ℕ) → n ≡ suc m → Fails (one at) → Fails (many n one at)
  unfolding many ◌>>=◌ go_on
  many_stops n m at e f = record { fault = f.fault; is = rw (e, f.is) refl }

  pub many_goes : (n m at next : ℕ) (a : A) → n ≡ suc m → one at ≡ got a next → many n one at ≡ onto a (many m one next)
  unfolding many ◌>>=◌ go_on
  many_goes n m at next a e f = rw (e, f) (onto_is a (many m one next))

  first_of : (m at : ℕ) (r : Read A) → one at ≡ r → many (suc m) one at ≡ go_on r (λ a. many m one >>= λ rest. return (a ∷ rest))
  unfolding many ◌>>=◌
  first_of m at r e = rw e refl

  -- one more behind
  module _ (a : A) (m n : ℕ) (f : one m ≡ got a n) where
    more_rest : (k at p : ℕ) (b : A) (vs : List A) (r : Read (List A)) → many k one p ≡ r → one at ≡ got b p → many (suc k) one at ≡ got vs m
        → ((us : List A) → many k one p ≡ got us m → many (suc k) one p ≡ got (us ++ (a ∷ [])) n)
        → many (suc (suc k)) one at ≡ got (vs ++ (a ∷ [])) n
    unfolding onto
    more_rest k at p b vs (bad fault) h g e later =
        absurd
        (let z : ◌≡◌ {A = Read (List A)} (bad fault) (got vs m) = sym (many_goes (suc k) k at p b refl g ∙ ap (onto b) h) ∙ e in
        let y : ◌≡◌ {A = ℕ} 0 1 = cc in
        omega arith)
    more_rest k at p b vs (got us q) h g e later =
        let z : ◌≡◌ {A = Read (List A)} (got (b ∷ us) q) (got vs m) = sym (many_goes (suc k) k at p b refl g ∙ ap (onto b) h) ∙ e in
        let x : q ≡ m = cc in
        let w : (b ∷ us) ≡ vs = cc in
        many_goes (suc (suc k)) (suc k) at p b refl g ∙ ap (onto b) (later us (h ∙ ap (got us) x)) ∙ ap (λ l. got (l ++ (a ∷ [])) n) w

    more_step : (k at : ℕ) (vs : List A) (r : Read A) → one at ≡ r → many (suc k) one at ≡ got vs m
        → ((p : ℕ) (us : List A) → many k one p ≡ got us m → many (suc k) one p ≡ got (us ++ (a ∷ [])) n)
        → many (suc (suc k)) one at ≡ got (vs ++ (a ∷ [])) n
    unfolding go_on
    more_step k at vs (bad fault) g e later =
        absurd
        (let z : ◌≡◌ {A = Read (List A)} (bad fault) (got vs m) = sym (first_of k at (bad fault) g) ∙ e in
        let y : ◌≡◌ {A = ℕ} 0 1 = cc in
        omega arith)
    more_step k at vs (got b p) g e later = more_rest k at p b vs (many k one p) refl g e (later p)

    more_none : (at : ℕ) (vs : List A) → ◌≡◌ {A = Read (List A)} (got [] at) (got vs m) → many 1 one at ≡ got (vs ++ (a ∷ [])) n
    unfolding onto
    more_none at vs e =
        let p : at ≡ m = cc in
        let q : [] ≡ vs = cc in
        many_goes 1 0 at n a refl (ap one p ∙ f) ∙ ap (onto a) (many_none 0 n refl) ∙ ap (λ l. got (l ++ (a ∷ [])) n) q

    pub many_more : (k at : ℕ) (vs : List A) → many k one at ≡ got vs m → many (suc k) one at ≡ got (vs ++ (a ∷ [])) n
    many_more zero at vs e = more_none at vs (sym (many_none 0 at refl) ∙ e)
    many_more (suc k) at vs e = more_step k at vs (one at) refl e (λ p us h. many_more k p us h)

  -- ## A loop over them: `i` are passed, and `n - i` are left from `at` on

  pub passed_none : (n at : ℕ) → many n one at ≡ many (n - 0) one at
  passed_none n at = let e : n - 0 ≡ n = omega arith in rw e refl

  pub left_stops : (n i at : ℕ) → i < n → Fails (one at) → Fails (many (n - i) one at)
  left_stops n i at h f = many_stops (n - i) (n - (i + 1)) at (omega arith) f

  pub left_goes : (n i at next : ℕ) (a : A) → i < n → one at ≡ got a next → many (n - i) one at ≡ onto a (many (n - (i + 1)) one next)
  left_goes n i at next a h f = many_goes (n - i) (n - (i + 1)) at next a (omega arith) f

  pub left_none : (n i at : ℕ) → n ≤ i → many (n - i) one at ≡ got [] at
  left_none n i at h = many_none (n - i) at (omega arith)

  pub skip_stops : (n i at : ℕ) → i < n → Fails (one at) → None ≡ place_told (many (n - i) one at)
  unfolding place_told
  skip_stops n i at h f = sym (ap place_told (left_stops n i at h f).is)

  pub skip_goes : (n i at next : ℕ) (a : A) → i < n → one at ≡ got a next → place_told (many (n - i) one at) ≡ place_told (many (n - (i + 1)) one next)
  skip_goes n i at next a h f = ap place_told (left_goes n i at next a h f) ∙ onto_place a (many (n - (i + 1)) one next)

  pub skip_none : (n i at : ℕ) → n ≤ i → Some at ≡ place_told (many (n - i) one at)
  unfolding place_told
  skip_none n i at h = sym (ap place_told (left_none n i at h))

  -- by the place that was told of one of them
  pub skip_ends : (n i at : ℕ) → i < n → None ≡ place_told (one at) → None ≡ place_told (many (n - i) one at)
  skip_ends n i at h e = skip_stops n i at h (place_bad (one at) e)

  pub skip_over : (n i at next : ℕ) → i < n → Some next ≡ place_told (one at) → place_told (many (n - i) one at) ≡ place_told (many (n - (i + 1)) one next)
  skip_over n i at next h e = let t = place_at (one at) next e in skip_goes n i at next t.value h t.is

-- ## Which they are

pub record First {A : Type 0} (one : Reader A) (k at m : ℕ) (vs : List A) : Type 0 where
  pub value : A
  pub next : ℕ
  pub others : List A
  pub is : one at ≡ got value next
  pub then : many k one next ≡ got others m
  pub all : vs ≡ value ∷ others

module _ {A : Type 0} (one : Reader A) where
  first_then : (k at next m : ℕ) (vs : List A) (b : A) (r : Read (List A)) → many k one next ≡ r → one at ≡ got b next → many (suc k) one at ≡ got vs m → First one k at m vs
  unfolding onto
  first_then k at next m vs b (bad fault) h g e =
      absurd
      (let z : ◌≡◌ {A = Read (List A)} (bad fault) (got vs m) = sym (many_goes one (suc k) k at next b refl g ∙ ap (onto b) h) ∙ e in
      let y : ◌≡◌ {A = ℕ} 0 1 = cc in
      omega arith)
  first_then k at next m vs b (got us q) h g e =
      let z : ◌≡◌ {A = Read (List A)} (got (b ∷ us) q) (got vs m) = sym (many_goes one (suc k) k at next b refl g ∙ ap (onto b) h) ∙ e in
      let x : q ≡ m = cc in
      record { value = b; next = next; others = us; is = g; then = h ∙ ap (got us) x; all = cc }

  first_by : (k at m : ℕ) (vs : List A) (r : Read A) → one at ≡ r → many (suc k) one at ≡ got vs m → First one k at m vs
  first_by k at m vs (bad fault) g e =
      absurd
      (let f = many_stops one (suc k) k at refl (record { fault = fault; is = g }) in
      let z : ◌≡◌ {A = Read (List A)} (bad f.fault) (got vs m) = sym f.is ∙ e in
      let y : ◌≡◌ {A = ℕ} 0 1 = cc in
      omega arith)
  first_by k at m vs (got b next) g e = first_then k at next m vs b (many k one next) refl g e

  pub many_first : (k at m : ℕ) (vs : List A) → many (suc k) one at ≡ got vs m → First one k at m vs
  many_first k at m vs e = first_by k at m vs (one at) refl e

  pub many_length : (k at m : ℕ) (vs : List A) → many k one at ≡ got vs m → length vs ≡ k
  many_length zero at m vs e =
      let z : ◌≡◌ {A = Read (List A)} (got [] at) (got vs m) = sym (many_none one 0 at refl) ∙ e in
      let q : [] ≡ vs = cc in
      ap length (sym q)
  many_length (suc k) at m vs e =
      let f = many_first k at m vs e in
      ap length f.all ∙ ap suc (many_length k f.next m f.others f.then)

  -- the one with a number, and those before it
  pub record Nth (k j at : ℕ) (vs : List A) : Type 0 where
    pub place : ℕ
    pub value : A
    pub next : ℕ
    pub before : many j one at ≡ got (take j vs) place
    pub is : one place ≡ got value next
    pub there : get_elem? vs j ≡ some value

  pub nth_of : (k j at m : ℕ) (vs : List A) → many k one at ≡ got vs m → j < k → Nth k j at vs
  unfolding onto
  nth_of zero j at m vs e h = absurd (omega arith)
  nth_of (suc k) zero at m vs e h =
      let f = many_first k at m vs e in
      record {
        place = at;
        value = f.value;
        next = f.next;
        before = many_none one 0 at refl;
        is = f.is;
        there = ap (λ (l : List A). get_elem? l 0) f.all;
      }
  nth_of (suc k) (suc j) at m vs e h =
      let f = many_first k at m vs e in
      let n = nth_of k j f.next m f.others f.then (omega arith) in
      record {
        place = n.place;
        value = n.value;
        next = n.next;
        before = many_goes one (suc j) j at f.next f.value refl f.is ∙ ap (onto f.value) n.before ∙ ap (λ (l : List A). got (take (suc j) l) n.place) (sym f.all);
        is = n.is;
        there = ap (λ (l : List A). get_elem? l (suc j)) f.all ∙ n.there;
      }

-- ## Bytes in a row

module _ (bytes : List ℕ) (fault : Refusal) where
  pub bytes_whole : (n at : ℕ) → at + n ≤ length bytes → many n (u8 bytes fault) at ≡ got (take n (drop at bytes)) (at + n)
  unfolding onto
  bytes_whole zero at h = let e : at + 0 ≡ at = omega arith in many_none (u8 bytes fault) 0 at refl ∙ rw e refl
  bytes_whole (suc n) at h =
      let e : at + suc n ≡ at + 1 + n = omega arith in
      let c : drop at bytes ≡ get_or bytes at 0 ∷ drop (at + 1) bytes = rw (add-one, drop-cons bytes at 0 (omega arith)) refl in
      many_goes (u8 bytes fault) (suc n) n at (at + 1) (get_or bytes at 0) refl ((a_u8 bytes).whole fault at (omega arith)) ∙
      ap (onto (get_or bytes at 0)) (bytes_whole n (at + 1) (omega arith)) ∙ rw (e, c) refl

  short_step : (n at k : ℕ) → length bytes - at ≡ k → at ≤ length bytes → length bytes < at + suc n
      → (at + 1 ≤ length bytes → Fails (many n (u8 bytes fault) (at + 1))) → Fails (many (suc n) (u8 bytes fault) at)
  unfolding onto
  short_step n at zero e l h later =
      many_stops (u8 bytes fault) (suc n) n at refl (record { fault = fault; is = (a_u8 bytes).short fault at (omega arith) })
  short_step n at (suc k) e l h later =
      let f = later (omega arith) in
      record {
        fault = f.fault;
        is =
            many_goes (u8 bytes fault) (suc n) n at (at + 1) (get_or bytes at 0) refl ((a_u8 bytes).whole fault at (omega arith)) ∙
            ap (onto (get_or bytes at 0)) f.is;
      }

  pub bytes_short : (n at : ℕ) → at ≤ length bytes → length bytes < at + n → Fails (many n (u8 bytes fault) at)
  bytes_short zero at l h = absurd (omega arith)
  bytes_short (suc n) at l h = short_step n at (length bytes - at) refl l h (λ q. bytes_short n (at + 1) q (omega arith))
