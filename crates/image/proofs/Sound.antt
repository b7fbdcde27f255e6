-- The functions judged one after the other, each by those before it, are right exactly where the rules' facts hold of all of them, but for
-- the naming, which is counted apart.
use mathlib.Core.Path.{◌≡◌, refl, sym, ap, ◌∙◌}
use mathlib.Core.Bool.{Bool, true, false, ◌&&◌}
use mathlib.Core.Option.{Option, none, some}
use mathlib.Core.List.{List, ◌∷◌, ◌++◌, append_assoc, []}
use Prim.Native.Nat.{ℕ, zero, suc, ◌+◌, ◌-◌, ◌<◌, ◌≤◌}
use native.Mathlib.Omega.{arith}
use native.Mathlib.Nat.{eq-or-lt_of_le}
use mathlib.Core.Logic.{⊎_elim}
use lib.ListN.{length, get_or, drop, get_elem?, length-append}
use lib.Dec.{eqb, ltb}
use borrow.Author.Tests.{ltb-true, ltb-false, eqb-true}
use Rattle.rules.specs.Base.{all, all_below}
use Rattle.std.specs.Prelude.{if◌then◌else◌}
use Rattle.rules.specs.Chunk.{Constant, CN, CS, CF, total, ObjectFunction}
use Rattle.rules.specs.Division.{function_kind, kind_of, kind_at, Instruction, division, is_function, operands_fit, lands, run_fits, runs_fit, code_fits, function_fits, fits}
use Rattle.rules.specs.Checker.{runs_apart, distinct, names_earlier, all_earlier, named_once, closures, closed_at, closed_in, closed_once, facts, sound, instructions, instruction_count}
use Rattle.image_code.specs.Table.{closed_by, code_right}
use Rattle.image_code.proofs.Below.{low, low_in, same_divide, same_fits, same_closed, high_closures}
use Rattle.image_constants.specs.Earlier.{no_function, kinds_right}
use Rattle.image_functions.specs.Judged.{constants_fine, code_fine, right, right_all, count_all}
use Rattle.image_functions.proofs.All.{elem_before}

-- ## Tests

pub no_true : false ≡ true → ⊥
no_true e = let z : ◌≡◌ {A = ℕ} 0 1 = cc in omega arith

pub and_of : (a b : Bool) → (a && b) ≡ true → (a ≡ true) × (b ≡ true)
and_of true b e = (refl, e)
and_of false b e = absurd (no_true e)

pub and_to : (a b : Bool) → a ≡ true → b ≡ true → (a && b) ≡ true
and_to true b e f = f
and_to false b e f = absurd (no_true e)

if_of : (a b : Bool) → (if a then b else false) ≡ true → (a ≡ true) × (b ≡ true)
if_of true b e = (refl, e)
if_of false b e = absurd (no_true e)

if_to : (a b : Bool) → a ≡ true → b ≡ true → (if a then b else false) ≡ true
if_to true b e f = f
if_to false b e f = absurd (no_true e)

pub same_test : (a b : Bool) → (a ≡ true → b ≡ true) → (b ≡ true → a ≡ true) → a ≡ b
same_test true true f g = refl
same_test true false f g = sym (f refl)
same_test false true f g = g refl
same_test false false f g = refl

below_of : (n : ℕ) (p : ℕ → Bool) → all_below n p ≡ true → (i : ℕ) → i < n → p i ≡ true
unfolding all_below
below_of zero p e i h = absurd (omega arith)
below_of (suc n) p e i h =
    let s = if_of (p n) (all_below n p) e in
    ⊎_elim (λ (q : i ≡ n). ap p q ∙ s.0) (λ (q : i < n). below_of n p s.1 i q) (eq-or-lt_of_le (omega arith))

below_to : (n : ℕ) (p : ℕ → Bool) → ((i : ℕ) → i < n → p i ≡ true) → all_below n p ≡ true
unfolding all_below
below_to zero p h = refl
below_to (suc n) p h = if_to (p n) (all_below n p) (h n (omega arith)) (below_to n p (λ i l. h i (omega arith)))

all_at : {A : Type 0} (p : A → Bool) (l : List A) (i : ℕ) (v : A) → all p l ≡ true → get_elem? l i ≡ some v → p v ≡ true
unfolding all
all_at p [] i v e f = absurd (let z : ◌≡◌ {A = ℕ} 0 1 = cc in omega arith)
all_at p (x ∷ l) zero v e f = let q : x ≡ v = cc in ap p (sym q) ∙ (if_of (p x) (all p l) e).0
all_at p (x ∷ l) (suc i) v e f = all_at p l i v (if_of (p x) (all p l) e).1 f

all_split : {A : Type 0} (p : A → Bool) (x : A) (l : List A) → all p (x ∷ l) ≡ true → (p x ≡ true) × (all p l ≡ true)
unfolding all
all_split p x l e = if_of (p x) (all p l) e

all_made : {A : Type 0} (p : A → Bool) (l : List A) → ((i : ℕ) (v : A) → get_elem? l i ≡ some v → p v ≡ true) → all p l ≡ true
unfolding all
all_made p [] h = refl
all_made p (x ∷ l) h = if_to (p x) (all p l) (h 0 x refl) (all_made p l (λ i v e. h (suc i) v e))

drop_at : {A : Type 0} (d : ℕ) (l : List A) (i : ℕ) → get_elem? (drop d l) i ≡ get_elem? l (d + i)
drop_at zero l i = let e : 0 + i ≡ i = omega arith in rw e refl
drop_at (suc d) [] i = refl
drop_at (suc d) (x ∷ l) i = let e : suc d + i ≡ suc (d + i) = omega arith in rw e (drop_at d l i)

elem_some : {A : Type 0} (l : List A) (i : ℕ) (v : A) → get_elem? l i ≡ some v → i < length l
elem_some [] i v e = absurd (let z : ◌≡◌ {A = ℕ} 0 1 = cc in omega arith)
elem_some (x ∷ l) zero v e = omega arith
elem_some (x ∷ l) (suc i) v e = let h = elem_some l i v e in omega arith

pub elem_none : {A : Type 0} (l : List A) (i : ℕ) → length l ≤ i → get_elem? l i ≡ none
elem_none [] i h = refl
elem_none (x ∷ l) zero h = absurd (omega arith)
elem_none (x ∷ l) (suc i) h = elem_none l i (omega arith)

elem_there : {A : Type 0} (l : List A) (i : ℕ) → i < length l → (v : A) × (get_elem? l i ≡ some v)
elem_there [] i h = absurd (omega arith)
elem_there (x ∷ l) zero h = (x, refl)
elem_there (x ∷ l) (suc i) h = elem_there l i (omega arith)

-- ## Kinds by the functions before and by all functions

module _ (before rest : List ObjectFunction) (cs : List Constant) (named : all (names_earlier (length before)) cs ≡ true) where
  kind_by : (p : ℕ) (o : Option Constant) → get_elem? cs p ≡ o → kind_of before o ≡ kind_of (before ++ rest) o
  unfolding kind_of names_earlier
  kind_by p none e = refl
  kind_by p (some (CN b)) e = refl
  kind_by p (some (CS b)) e = refl
  kind_by p (some (CF n)) e =
      let h : n < length before = ltb-true _ _ (all_at (names_earlier (length before)) cs p (CF n) named e) in
      ap function_kind (sym (elem_before before rest n h))

  kinds_agree : (p : ℕ) → kind_at before cs p ≡ kind_at (before ++ rest) cs p
  unfolding kind_at
  kinds_agree p = kind_by p (get_elem? cs p) refl

missing_at : (functions : List ObjectFunction) (cs : List Constant) (p : ℕ) → length cs ≤ p → is_function (kind_at functions cs p) ≡ false
unfolding kind_at kind_of is_function
missing_at functions cs p h = rw (elem_none cs p h) refl

-- ## One function

pub record OneOf (functions : List ObjectFunction) (k : ℕ) (f : ObjectFunction) : Type 0 where
  pub fits_it : function_fits functions f ≡ true
  pub apart : runs_apart f.chunk.spans ≡ true
  pub different : distinct f.chunk.constants ≡ true
  pub earlier_it : all (names_earlier k) f.chunk.constants ≡ true
  pub closed : closed_once functions f ≡ true

module _ (before rest : List ObjectFunction) (f : ObjectFunction) (bytes : (i : ℕ) → get_or f.chunk.ops i 0 < 256) where
  abbrev cs : List Constant
  cs = f.chunk.constants

  abbrev whole : List ObjectFunction
  whole = before ++ rest

  module _ (named : all (names_earlier (length before)) cs ≡ true) where
    agree : (p : ℕ) → p < 256 → kind_at before cs p ≡ kind_at whole cs p
    agree p h = kinds_agree before rest cs named p

    pub same_division : division before f ≡ division whole f
    unfolding division
    same_division = same_divide (kind_at before cs) (kind_at whole cs) agree 0 0 f.chunk.ops bytes

    module _ (is : List Instruction) (d : division before f ≡ some is) where
      low_is : all low is ≡ true
      unfolding division
      low_is = low_in (kind_at before cs) f.chunk.ops is bytes d

      -- a place from 256 on that has no function
      plain_closed : all no_function (drop 256 cs) ≡ true → (p : ℕ) (o : Option Constant) → get_elem? cs p ≡ o → 256 ≤ p
          → (if is_function (kind_of whole o) then eqb (closures p is) 1 else true) ≡ true
      unfolding kind_of is_function no_function
      plain_closed pl p none e h = refl
      plain_closed pl p (some (CN b)) e h = refl
      plain_closed pl p (some (CS b)) e h = refl
      plain_closed pl p (some (CF n)) e h =
          let q : 256 + (p - 256) ≡ p = omega arith in
          absurd (no_true (all_at no_function (drop 256 cs) (p - 256) (CF n) pl (drop_at 256 cs (p - 256) ∙ ap (get_elem? cs) q ∙ e)))

      closed_from : all_below 256 (closed_by (kind_at before cs) is) ≡ true → all no_function (drop 256 cs) ≡ true
          → all_below (length cs) (closed_at whole cs is) ≡ true
      unfolding closed_at closed_by kind_at
      closed_from c pl =
          below_to (length cs) _ (λ p h. by p (ltb p 256) refl)
        where
          low_closed : all_below 256 (closed_by (kind_at whole cs) is) ≡ true
          low_closed = sym (same_closed (kind_at before cs) (kind_at whole cs) agree is) ∙ c

          by : (p : ℕ) (t : Bool) → ltb p 256 ≡ t → (if is_function (kind_at whole cs p) then eqb (closures p is) 1 else true) ≡ true
          by p true e = below_of 256 (closed_by (kind_at whole cs) is) low_closed p (ltb-true _ _ e)
          by p false e = plain_closed pl p (get_elem? cs p) refl (ltb-false _ _ e)

      closed_to : all_below (length cs) (closed_at whole cs is) ≡ true → all_below 256 (closed_by (kind_at before cs) is) ≡ true
      unfolding closed_at closed_by
      closed_to c =
          same_closed (kind_at before cs) (kind_at whole cs) agree is ∙ below_to 256 (closed_by (kind_at whole cs) is) (λ p h. by p (ltb p (length cs)) refl)
        where
          by : (p : ℕ) (t : Bool) → ltb p (length cs) ≡ t → (if is_function (kind_at whole cs p) then eqb (closures p is) 1 else true) ≡ true
          by p true e = below_of (length cs) (closed_at whole cs is) c p (ltb-true _ _ e)
          by p false e = rw (missing_at whole cs p (ltb-false _ _ e)) refl

      -- a function from 256 on is named by no CLOSURE
      late_by : all_below (length cs) (closed_at whole cs is) ≡ true → (p : ℕ) (c : Constant) → get_elem? cs p ≡ some c → 256 ≤ p → no_function c ≡ true
      unfolding no_function closed_at kind_at kind_of is_function function_kind names_earlier
      late_by c p (CN b) e h = refl
      late_by c p (CS b) e h = refl
      late_by c p (CF n) e h =
          let l : n < length before = ltb-true _ _ (all_at (names_earlier (length before)) cs p (CF n) named e) in
          let w = elem_there before n l in
          let a : get_elem? whole n ≡ some w.0 = elem_before before rest n l ∙ w.1 in
          let b : eqb (closures p is) 1 ≡ true = rw (e, a) at (below_of (length cs) (closed_at whole cs is) c p (elem_some cs p (CF n) e)) in
          let x : closures p is ≡ 1 = eqb-true _ _ b in
          let y = high_closures p is low_is h in
          absurd (omega arith)

      pub late_plain : all_below (length cs) (closed_at whole cs is) ≡ true → all no_function (drop 256 cs) ≡ true
      late_plain c = all_made no_function (drop 256 cs) (λ i v e. late_by c (256 + i) v (sym (drop_at 256 cs i) ∙ e) (omega arith))

  -- the code's part, both ways
  pub record CodeOf (d : Option (List Instruction)) : Type 0 where
    pub is : List Instruction
    pub divides : d ≡ some is
    pub fit : all (operands_fit (kind_at before cs) f.upvalue_count) is ≡ true
    pub land : all (lands is (length f.chunk.ops)) is ≡ true
    pub close : all_below 256 (closed_by (kind_at before cs) is) ≡ true

  code_of : (d : Option (List Instruction)) → code_fine (kind_at before cs) f.upvalue_count (length f.chunk.ops) d ≡ true → CodeOf d
  unfolding code_fine code_right
  code_of none e = absurd (no_true e)
  code_of (some is) e =
      let a = and_of _ _ e in
      let b = and_of _ _ a.0 in
      record { is = is; divides = refl; fit = b.0; land = b.1; close = a.1 }

  code_to : (d : Option (List Instruction)) → CodeOf d → code_fine (kind_at before cs) f.upvalue_count (length f.chunk.ops) d ≡ true
  unfolding code_fine code_right
  code_to d c = rw c.divides (and_to _ _ (and_to _ _ c.fit c.land) c.close)

  pub record FitsOf (d : Option (List Instruction)) : Type 0 where
    pub is : List Instruction
    pub divides : d ≡ some is
    pub fit : all (operands_fit (kind_at whole cs) f.upvalue_count) is ≡ true
    pub land : all (lands is (length f.chunk.ops)) is ≡ true

  fits_of : (d : Option (List Instruction)) → code_fits whole f d ≡ true → FitsOf d
  unfolding code_fits
  fits_of none e = absurd (no_true e)
  fits_of (some is) e = let a = and_of _ _ e in record { is = is; divides = refl; fit = a.0; land = a.1 }

  fits_to : (d : Option (List Instruction)) → FitsOf d → code_fits whole f d ≡ true
  unfolding code_fits
  fits_to d c = rw c.divides (and_to _ _ c.fit c.land)

  runs_to : all run_fits f.chunk.spans ≡ true → eqb (total f.chunk.spans) (length f.chunk.ops) ≡ true → runs_fit f ≡ true
  unfolding runs_fit
  runs_to a b = and_to _ _ a b

  runs_of : runs_fit f ≡ true → (all run_fits f.chunk.spans ≡ true) × (eqb (total f.chunk.spans) (length f.chunk.ops) ≡ true)
  unfolding runs_fit
  runs_of e = and_of (all run_fits f.chunk.spans) (eqb (total f.chunk.spans) (length f.chunk.ops)) e

  function_to : runs_fit f ≡ true → code_fits whole f (division whole f) ≡ true → function_fits whole f ≡ true
  unfolding function_fits
  function_to a b = and_to (runs_fit f) (code_fits whole f (division whole f)) a b

  function_of : function_fits whole f ≡ true → (runs_fit f ≡ true) × (code_fits whole f (division whole f) ≡ true)
  unfolding function_fits
  function_of e = and_of (runs_fit f) (code_fits whole f (division whole f)) e

  closed_is : (is : List Instruction) → division whole f ≡ some is → closed_once whole f ≡ all_below (length cs) (closed_at whole cs is)
  unfolding closed_once closed_in
  closed_is is d = rw d refl

  pub one_from : right before f ≡ true → OneOf whole (length before) f
  unfolding right constants_fine kinds_right
  one_from e =
      let a = and_of _ _ e in
      let b = and_of _ _ a.0 in
      let c = and_of _ _ b.1 in
      let r = and_of _ _ a.1 in
      let s = and_of _ _ r.0 in
      let t = and_of _ _ r.1 in
      let o = code_of (division before f) t.1 in
      let named = c.0 in
      let d : division whole f ≡ some o.is = sym (same_division named) ∙ o.divides in
      record {
        fits_it =
            function_to (runs_to s.0 t.0)
            (fits_to (division whole f)
            (record {
              is = o.is;
              divides = d;
              fit = sym (same_fits (kind_at before cs) (kind_at whole cs) (agree named) f.upvalue_count o.is (low_is named o.is o.divides)) ∙ o.fit;
              land = o.land;
            }));
        apart = s.1;
        different = b.0;
        earlier_it = named;
        closed = closed_is o.is d ∙ closed_from named o.is o.divides o.close c.1;
      }

  pub one_to : OneOf whole (length before) f → right before f ≡ true
  unfolding right constants_fine kinds_right
  one_to o =
      let named = o.earlier_it in
      let a = function_of o.fits_it in
      let b = runs_of a.0 in
      let c = fits_of (division whole f) a.1 in
      let d : division before f ≡ some c.is = same_division named ∙ c.divides in
      let w : all_below (length cs) (closed_at whole cs c.is) ≡ true = sym (closed_is c.is c.divides) ∙ o.closed in
      and_to _ _ (and_to _ _ o.different (and_to _ _ named (late_plain named c.is d w)))
      (and_to _ _ (and_to _ _ b.0 o.apart)
      (and_to _ _ b.1
      (code_to (division before f)
      (record {
        is = c.is;
        divides = d;
        fit = same_fits (kind_at before cs) (kind_at whole cs) (agree named) f.upvalue_count c.is (low_is named c.is d) ∙ c.fit;
        land = c.land;
        close = closed_to named c.is d w;
      }))))

-- ## All functions

pub record FactsOf (functions : List ObjectFunction) (k : ℕ) (fs : List ObjectFunction) : Type 0 where
  pub fit : all (function_fits functions) fs ≡ true
  pub apart : all (λ (f : ObjectFunction). runs_apart f.chunk.spans) fs ≡ true
  pub different : all (λ (f : ObjectFunction). distinct f.chunk.constants) fs ≡ true
  pub names_them : all_earlier k fs ≡ true
  pub closed : all (closed_once functions) fs ≡ true

abbrev pub BytesOf : List ObjectFunction → Type 0
BytesOf fs = (j : ℕ) (f : ObjectFunction) → get_elem? fs j ≡ some f → (i : ℕ) → get_or f.chunk.ops i 0 < 256

joined : (before : List ObjectFunction) (f : ObjectFunction) (fs : List ObjectFunction) → (before ++ (f ∷ [])) ++ fs ≡ before ++ (f ∷ fs)
joined before f fs = append_assoc before (f ∷ []) fs

one_longer : (before : List ObjectFunction) (f : ObjectFunction) → length (before ++ (f ∷ [])) ≡ length before + 1
one_longer before f = simp length-append (omega arith)

module _ (functions : List ObjectFunction) (k : ℕ) (f : ObjectFunction) (fs : List ObjectFunction) where
  first_fact : FactsOf functions k (f ∷ fs) → OneOf functions k f
  unfolding all all_earlier
  first_fact a =
      record {
        fits_it = (if_of _ _ a.fit).0;
        apart = (if_of _ _ a.apart).0;
        different = (if_of _ _ a.different).0;
        earlier_it = (and_of _ _ a.names_them).0;
        closed = (if_of _ _ a.closed).0;
      }

  names_split : all_earlier k (f ∷ fs) ≡ true → (all (names_earlier k) f.chunk.constants ≡ true) × (all_earlier (k + 1) fs ≡ true)
  unfolding all_earlier
  names_split e = and_of (all (names_earlier k) f.chunk.constants) (all_earlier (k + 1) fs) e

  other_facts : FactsOf functions k (f ∷ fs) → FactsOf functions (k + 1) fs
  other_facts a =
      record {
        fit = (all_split _ f fs a.fit).1;
        apart = (all_split _ f fs a.apart).1;
        different = (all_split _ f fs a.different).1;
        names_them = (names_split a.names_them).1;
        closed = (all_split _ f fs a.closed).1;
      }

  both_facts : OneOf functions k f → FactsOf functions (k + 1) fs → FactsOf functions k (f ∷ fs)
  unfolding all all_earlier
  both_facts o a =
      record {
        fit = if_to _ _ o.fits_it a.fit;
        apart = if_to _ _ o.apart a.apart;
        different = if_to _ _ o.different a.different;
        names_them = and_to _ _ o.earlier_it a.names_them;
        closed = if_to _ _ o.closed a.closed;
      }

pub all_from : (before fs : List ObjectFunction) → BytesOf fs → right_all before fs ≡ true → FactsOf (before ++ fs) (length before) fs
unfolding right_all all all_earlier
all_from before [] b e = record { fit = refl; apart = refl; different = refl; names_them = refl; closed = refl }
all_from before (f ∷ fs) b e =
    let s = if_of _ _ e in
    let o = one_from before (f ∷ fs) f (b 0 f refl) s.0 in
    let r = all_from (before ++ (f ∷ [])) fs (λ j g h. b (suc j) g h) s.1 in
    both_facts (before ++ (f ∷ fs)) (length before) f fs o (moved (joined before f fs) (one_longer before f) r)
  where
    moved : {l m : List ObjectFunction} {j n : ℕ} → l ≡ m → j ≡ n → FactsOf l j fs → FactsOf m n fs
    moved p q r = rw (← p, ← q) r

pub all_to : (before fs : List ObjectFunction) → BytesOf fs → FactsOf (before ++ fs) (length before) fs → right_all before fs ≡ true
unfolding right_all
all_to before [] b a = refl
all_to before (f ∷ fs) b a =
    if_to _ _ (one_to before (f ∷ fs) f (b 0 f refl) (first_fact (before ++ (f ∷ fs)) (length before) f fs a))
    (all_to (before ++ (f ∷ [])) fs (λ j g h. b (suc j) g h)
    (moved (sym (joined before f fs)) (sym (one_longer before f)) (other_facts (before ++ (f ∷ fs)) (length before) f fs a)))
  where
    moved : {l m : List ObjectFunction} {j n : ℕ} → l ≡ m → j ≡ n → FactsOf l j fs → FactsOf m n fs
    moved p q r = rw (← p, ← q) r

pub counts_agree : (before fs : List ObjectFunction) → BytesOf fs → right_all before fs ≡ true → count_all before fs ≡ instruction_count (before ++ fs) fs
unfolding right_all count_all instruction_count
counts_agree before [] b e = refl
counts_agree before (f ∷ fs) b e =
    let s = if_of _ _ e in
    let o = one_from before (f ∷ fs) f (b 0 f refl) s.0 in
    let d = same_division before (f ∷ fs) f (b 0 f refl) o.earlier_it in
    let r = counts_agree (before ++ (f ∷ [])) fs (λ j g h. b (suc j) g h) s.1 ∙ ap (λ (l : List ObjectFunction). instruction_count l fs) (joined before f fs) in
    let i : instructions (division before f) ≡ instructions (division (before ++ (f ∷ fs)) f) = ap instructions d in
    omega arith

pub sound_is : (fs : List ObjectFunction) → BytesOf fs → sound fs ≡ (right_all [] fs && named_once fs)
unfolding sound facts fits all
sound_is fs b =
    same_test _ _
    (λ e.
    let a1 = if_of _ _ e in
    let a2 = if_of _ _ a1.1 in
    let a3 = if_of _ _ a2.1 in
    let a4 = if_of _ _ a3.1 in
    let a5 = if_of _ _ a4.1 in
    let a6 = if_of _ _ a5.1 in
    and_to _ _
    (all_to [] fs b (record { fit = a1.0; apart = a2.0; different = a3.0; names_them = a4.0; closed = a6.0 })) a5.0)
    (λ e.
    let s = and_of _ _ e in
    let a = all_from [] fs b s.0 in
    if_to _ _ a.fit (if_to _ _ a.apart (if_to _ _ a.different (if_to _ _ a.names_them (if_to _ _ s.1 (if_to _ _ a.closed refl))))))
