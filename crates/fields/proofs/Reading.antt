-- What the rules' readers of fields give, by the bytes that are there, and what is there where they gave something. One law for every width:
-- a field of two halves is whole where both are.
use mathlib.Core.Path.{◌≡◌, refl, sym, ap, ◌∙◌}
use mathlib.Core.Bool.{Bool, true, false}
use mathlib.Core.List.{List}
use Prim.Native.Nat.{ℕ, ◌+◌, ◌*◌, ◌≤◌, ◌<◌}
use native.Mathlib.Omega.{arith}
use native.Mathlib.Nat.{add_assoc}
use lib.ListN.{length, get_or}
use lib.Dec.{leb, eqb}
use borrow.Author.Tests.{lt-ltb, le-ltb, eq-eqb, ne_eqb, leb-true, leb-false, eqb-true, eqb-false}
use Rattle.std.specs.Prelude.{if◌then◌else◌}
use Rattle.rules.specs.declared.Refusal.{Refusal}
use Rattle.rules.specs.Reader.{Read, got, bad, Reader, go_on, ◌>>=◌, return, need, u8, u16, u32, u64, mark, mark_is, span}
use Rattle.fields.specs.Words.{word8, word16, word32, word64, letters, span_of}

-- a field of `size` bytes, whose value is a function of its place
pub record Field {A : Type 0} (bytes : List ℕ) (field : Refusal → Reader A) (size : ℕ) (value : ℕ → A) : Type 0 where
  pub whole : (fault : Refusal) (at : ℕ) → at + size ≤ length bytes → field fault at ≡ got (value at) (at + size)
  pub short : (fault : Refusal) (at : ℕ) → length bytes < at + size → field fault at ≡ bad fault

-- two fields of one kind, joined
abbrev pub both : {A B : Type 0} → (Refusal → Reader A) → (A → A → B) → Refusal → Reader B
both field join fault = field fault >>= λ a. field fault >>= λ b. return (join a b)

-- a first step that gave something, and one that did not
pub then_on : {A B : Type 0} {r : Read A} (f : A → Reader B) {a : A} {n : ℕ} → r ≡ got a n → go_on r f ≡ f a n
unfolding go_on
then_on f e = ap (λ x. go_on x f) e

pub then_bad : {A B : Type 0} {r : Read A} (f : A → Reader B) {x : Refusal} → r ≡ bad x → go_on r f ≡ bad x
unfolding go_on
then_bad f e = ap (λ y. go_on y f) e

pub moved : {A : Type 0} {a : A} {m n : ℕ} → m ≡ n → got a m ≡ got a n
moved {a = a} e = ap (got a) e

module _ (bytes : List ℕ) where
  both_whole : {A B : Type 0} {field : Refusal → Reader A} {k : ℕ} {value : ℕ → A} (one : Field bytes field k value) (join : A → A → B)
      (fault : Refusal) (at : ℕ) → at + (k + k) ≤ length bytes → both field join fault at ≡ got (join (value at) (value (at + k))) (at + (k + k))
  unfolding ◌>>=◌ return
  both_whole {field = field} {k} {value} one join fault at h =
      then_on (λ a. field fault >>= λ b. return (join a b)) (one.whole fault at (omega arith)) ∙
      then_on (λ b. return (join (value at) b)) (one.whole fault (at + k) (omega arith)) ∙ moved (add_assoc at k k)

  both_short : {A B : Type 0} {field : Refusal → Reader A} {k : ℕ} {value : ℕ → A} (one : Field bytes field k value) (join : A → A → B)
      (fault : Refusal) (at : ℕ) (half : Bool) → leb (at + k) (length bytes) ≡ half → length bytes < at + (k + k) → both field join fault at ≡ bad fault
  unfolding ◌>>=◌ return
  both_short {field = field} {k} {value} one join fault at true e h =
      let w : at + k ≤ length bytes = leb-true _ _ e in
      then_on (λ a. field fault >>= λ b. return (join a b)) (one.whole fault at w) ∙
      then_bad (λ b. return (join (value at) b)) (one.short fault (at + k) (omega arith))
  both_short {field = field} {k} one join fault at false e h =
      let w : length bytes < at + k = leb-false _ _ e in
      then_bad (λ a. field fault >>= λ b. return (join a b)) (one.short fault at w)

  twice : {A B : Type 0} {field : Refusal → Reader A} {k : ℕ} {value : ℕ → A} → Field bytes field k value → (join : A → A → B)
      → Field bytes (both field join) (k + k) (λ at. join (value at) (value (at + k)))
  twice one join = record { whole = both_whole one join; short = λ fault at h. both_short one join fault at _ refl h }

  pub a_u8 : Field bytes (u8 bytes) 1 (word8 bytes)
  unfolding u8
  a_u8 = record {
    whole = λ fault at h. ap (λ (t : Bool). if t then got (get_or bytes at 0) (at + 1) else bad fault) (lt-ltb at (length bytes) (omega arith));
    short = λ fault at h. ap (λ (t : Bool). if t then got (get_or bytes at 0) (at + 1) else bad fault) (le-ltb at (length bytes) (omega arith));
  }

  pub a_u16 : Field bytes (u16 bytes) 2 (word16 bytes)
  unfolding u16 word16
  a_u16 = twice a_u8 (λ a b. a + 256 * b)

  pub a_u32 : Field bytes (u32 bytes) 4 (word32 bytes)
  unfolding u32 word32
  a_u32 = twice a_u16 (λ a b. a + 65_536 * b)

  pub a_u64 : Field bytes (u64 bytes) 8 (word64 bytes)
  unfolding u64 word64
  a_u64 = twice a_u32 (λ a b. a + 4_294_967_296 * b)

  pub a_mark : Field bytes (mark bytes) 2 (letters bytes)
  unfolding mark letters
  a_mark = twice a_u8 (λ a b. 256 * a + b)

  pub a_span : Field bytes (span bytes) 8 (span_of bytes)
  unfolding span span_of
  a_span = twice a_u32 (λ a b. record { start = a; end = b })

-- what stands where a field was read: its value, the place after it, and that it ends within the file
pub record Found {A : Type 0} (len : ℕ) (a value : A) (m next : ℕ) : Type 0 where
  pub is : a ≡ value
  pub on : m ≡ next
  pub bound : next ≤ len

pub same_got : {A : Type 0} {a b : A} {m n len : ℕ} → ◌≡◌ {A = Read A} (got b n) (got a m) → n ≤ len → Found len a b m n
same_got e h = record { is = cc; on = cc; bound = h }

pub bad_got : {A : Type 0} {a : A} {m : ℕ} {x : Refusal} → ◌≡◌ {A = Read A} (bad x) (got a m) → ⊥
bad_got e = let z : ◌≡◌ {A = ℕ} 0 1 = cc in omega arith

module _ (bytes : List ℕ) where
  found_if : {A : Type 0} {field : Refusal → Reader A} {k : ℕ} {value : ℕ → A} → Field bytes field k value
      → (fault : Refusal) (at : ℕ) (t : Bool) → leb (at + k) (length bytes) ≡ t → {a : A} {m : ℕ} → field fault at ≡ got a m
      → Found (length bytes) a (value at) m (at + k)
  found_if one fault at true e r =
      let w = leb-true _ _ e in
      same_got (sym (one.whole fault at w) ∙ r) w
  found_if one fault at false e r = absurd (bad_got (sym (one.short fault at (leb-false _ _ e)) ∙ r))

  pub found : {A : Type 0} {field : Refusal → Reader A} {k : ℕ} {value : ℕ → A} → Field bytes field k value
      → {fault : Refusal} {at : ℕ} {a : A} {m : ℕ} → field fault at ≡ got a m → Found (length bytes) a (value at) m (at + k)
  found one {fault} {at} r = found_if one fault at _ refl r

  -- a mark that must be this one

  pub mark_is_it : (fault : Refusal) (l at : ℕ) → at + 2 ≤ length bytes → letters bytes at ≡ l → mark_is bytes fault l at ≡ got tt (at + 2)
  unfolding mark_is ◌>>=◌ need
  mark_is_it fault l at h e =
      then_on (λ m. need (eqb m l) fault) ((a_mark bytes).whole fault at h) ∙ ap (λ (t : Bool). need t fault (at + 2)) (eq-eqb (letters bytes at) l e)

  pub mark_is_not : (fault : Refusal) (l at : ℕ) → at + 2 ≤ length bytes → (letters bytes at ≡ l → ⊥) → mark_is bytes fault l at ≡ bad fault
  unfolding mark_is ◌>>=◌ need
  mark_is_not fault l at h e =
      then_on (λ m. need (eqb m l) fault) ((a_mark bytes).whole fault at h) ∙ ap (λ (t : Bool). need t fault (at + 2)) (ne_eqb (letters bytes at) l e)

  pub mark_is_cut : (fault : Refusal) (l at : ℕ) → length bytes < at + 2 → mark_is bytes fault l at ≡ bad fault
  unfolding mark_is ◌>>=◌
  mark_is_cut fault l at h = then_bad (λ m. need (eqb m l) fault) ((a_mark bytes).short fault at h)

  pub record Marked (l at m : ℕ) : Type 0 where
    pub is : letters bytes at ≡ l
    pub on : m ≡ at + 2
    pub bound : at + 2 ≤ length bytes

  marked_if : (fault : Refusal) (l at : ℕ) (t same : Bool) → leb (at + 2) (length bytes) ≡ t → eqb (letters bytes at) l ≡ same
      → {x : Unit} {m : ℕ} → mark_is bytes fault l at ≡ got x m → Marked l at m
  marked_if fault l at true true h e {x} {m} r =
      let w = leb-true _ _ h in
      let q = same_got {len = length bytes} (sym (mark_is_it fault l at w (eqb-true _ _ e)) ∙ r) w in
      record { is = eqb-true _ _ e; on = q.on; bound = w }
  marked_if fault l at true false h e r = absurd (bad_got (sym (mark_is_not fault l at (leb-true _ _ h) (eqb-false _ _ e)) ∙ r))
  marked_if fault l at false same h e r = absurd (bad_got (sym (mark_is_cut fault l at (leb-false _ _ h)) ∙ r))

  pub marked : (fault : Refusal) (l at : ℕ) {x : Unit} {m : ℕ} → mark_is bytes fault l at ≡ got x m → Marked l at m
  marked fault l at r = marked_if fault l at _ _ refl refl r
