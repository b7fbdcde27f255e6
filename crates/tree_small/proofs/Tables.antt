-- Marks and kind bytes: what a table has, by the keys of a `match` or by a bound, and the mark that a record opens with.
use mathlib.Core.Path.{◌≡◌, refl, sym, ap, subst, ◌∙◌}
use mathlib.Core.Bool.{Bool, true, false, not}
use mathlib.Core.Option.{Option, none, some}
use mathlib.Core.List.{List, ◌∷◌, []}
use mathlib.Core.Logic.{inl, inr}
use Prim.Native.Nat.{ℕ, zero, suc, ◌+◌, ◌≤◌, ◌<◌}
use native.Mathlib.Omega.{arith}
use lib.ListN.{length}
use lib.Dec.{T, ltb, leb, eqb}
use borrow.Author.Tests.{lt-ltb, le-ltb, lt-leb, le-leb, leb-true, leb-false, ltb-true, ltb-false, eqb-true, eqb-false, ne_eqb}
use types.Run.{OneOf, hit, miss}
use mir.Val.{has_key}
use Rattle.rules.specs.Base.{lookup, all, all_below}
use Rattle.std.specs.Prelude as rust
use Rattle.std.specs.Prelude.{if◌then◌else◌, None, Some}
use Rattle.rules.specs.declared.Refusal.{Refusal}
use Rattle.rules.specs.Reader.{got, bad, go_on, ◌>>=◌, ◌>>◌, return, refuse, need, known, one_of, u8, mark}
use Rattle.rules.specs.TreeFile.{flags, infix_ops, prefix_ops, literal_kinds}
use Rattle.fields.specs.Words.{word8, letters}
use Rattle.fields.proofs.Reading.{a_u8, a_mark, then_on, then_bad, bad_got}
use Rattle.tree_small.specs.Places.{place, below, kept, known_mark}

pub record Row {A : Type 0} (table : List (ℕ × A)) (n : ℕ) : Type 0 where
  pub value : A
  pub is : lookup n table ≡ some value

unfoldable pub is_some : {A : Type 0} → Option A → Bool
is_some none = false
is_some (some a) = true

row_if : {A : Type 0} (table : List (ℕ × A)) (n : ℕ) (o : Option A) → lookup n table ≡ o → is_some o ≡ true → Row table n
unfolding is_some
row_if table n (some a) e h = record { value = a; is = e }
row_if table n none e h = let z : ◌≡◌ {A = ℕ} 0 1 = cc in absurd (omega arith)

pub if_true : (b c : Bool) → (if b then c else false) ≡ true → (b ≡ true) × (c ≡ true)
if_true true c h = (refl, h)
if_true false c h = let z : ◌≡◌ {A = ℕ} 0 1 = cc in absurd (omega arith)

-- ## The keys of a `match`

key_in : {A : Type 0} (table : List (ℕ × A)) (keys : List ℕ) (x : ℕ) → all (λ k. is_some (lookup k table)) keys ≡ true → OneOf keys x → is_some (lookup x table) ≡ true
unfolding all
key_in table [] x h o = absurd o
key_in table (k ∷ []) x h e = ap (λ (j : ℕ). is_some (lookup j table)) e ∙ (if_true _ _ h).0
key_in table (k ∷ (j ∷ keys)) x h (inl e) = ap (λ (j : ℕ). is_some (lookup j table)) e ∙ (if_true _ _ h).0
key_in table (k ∷ (j ∷ keys)) x h (inr o) = key_in table (j ∷ keys) x (if_true (is_some (lookup k table)) (all (λ i. is_some (lookup i table)) (j ∷ keys)) h).1 o

pub inside : {A : Type 0} (table : List (ℕ × A)) (keys : List ℕ) (x : ℕ) → all (λ k. is_some (lookup k table)) keys ≡ true → OneOf keys x → Row table x
inside table keys x h o = row_if table x _ refl (key_in table keys x h o)

yes : {b : Bool} → b ≡ true → T b
yes e = subst T (sym e) tt

pub outside : {A : Type 0} (keys : List ℕ) (table : List (ℕ × A)) (x : ℕ) → all (λ row. has_key keys row.0) table ≡ true → (OneOf keys x → ⊥) → lookup x table ≡ none
unfolding all lookup
outside keys [] x h n = refl
outside keys (r ∷ rows) x h n =
    let w = if_true (has_key keys r.0) _ h in
    let q : eqb x r.0 ≡ false = ne_eqb x r.0 (λ e. n (hit keys x (yes (ap (has_key keys) e ∙ w.0)))) in
    rw q (outside keys rows x w.1 n)

keyed_if : {A : Type 0} (keys : List ℕ) (table : List (ℕ × A)) (x : ℕ) (t : Bool) → has_key keys x ≡ t → all (λ row. has_key keys row.0) table ≡ true
    → {a : A} → lookup x table ≡ some a → OneOf keys x
keyed_if keys table x true e h l = hit keys x (yes e)
keyed_if {A} keys table x false e h {a} l =
    let q : ◌≡◌ {A = Option A} (some a) none = sym l ∙ outside keys table x h (miss keys x (yes (ap not e))) in
    let z : ◌≡◌ {A = ℕ} 0 1 = cc in absurd (omega arith)

-- what a table has is one of its keys
pub keyed : {A : Type 0} (keys : List ℕ) (table : List (ℕ × A)) (x : ℕ) → all (λ row. has_key keys row.0) table ≡ true → {a : A} → lookup x table ≡ some a → OneOf keys x
keyed keys table x h l = keyed_if keys table x _ refl h l

-- ## A table whose keys are the numbers below a bound

pub record Full {A : Type 0} (table : List (ℕ × A)) (most : ℕ) : Type 0 where
  pub is : (n : ℕ) → n < most → Row table n
  pub no : (n : ℕ) → most ≤ n → lookup n table ≡ none

last_or : (t : Bool) (p : ℕ → Bool) {n k : ℕ} → eqb n k ≡ t → p k ≡ true → ((n ≡ k → ⊥) → p n ≡ true) → p n ≡ true
last_or true p e h f = ap p (eqb-true _ _ e) ∙ h
last_or false p e h f = f (eqb-false _ _ e)

in_full_if : {A : Type 0} {table : List (ℕ × A)} {most : ℕ} → Full table most → (n : ℕ) (t : Bool) → ltb n most ≡ t → {a : A} → lookup n table ≡ some a → n < most
in_full_if f n true e l = ltb-true _ _ e
in_full_if {A} f n false e {a} l =
    let q : ◌≡◌ {A = Option A} (some a) none = sym l ∙ f.no n (ltb-false _ _ e) in
    let z : ◌≡◌ {A = ℕ} 0 1 = cc in absurd (omega arith)

pub in_full : {A : Type 0} {table : List (ℕ × A)} {most : ℕ} → Full table most → (n : ℕ) {a : A} → lookup n table ≡ some a → n < most
in_full f n l = in_full_if f n _ refl l

below_all : (k : ℕ) (p : ℕ → Bool) (n : ℕ) → all_below k p ≡ true → n < k → p n ≡ true
unfolding all_below
below_all zero p n h l = absurd (omega arith)
below_all (suc k) p n h l = last_or (eqb n k) p refl (if_true _ _ h).0 (λ q. below_all k p n (if_true (p k) (all_below k p) h).1 (omega arith))

above : {A : Type 0} (most : ℕ) (table : List (ℕ × A)) (n : ℕ) → all (λ row. ltb row.0 most) table ≡ true → most ≤ n → lookup n table ≡ none
unfolding all lookup
above most [] n h l = refl
above most (r ∷ rows) n h l =
    let w = if_true (ltb r.0 most) _ h in
    let b : r.0 < most = ltb-true _ _ w.0 in
    let q : eqb n r.0 ≡ false = ne_eqb n r.0 (λ e. omega arith) in
    rw q (above most rows n w.1 l)

full : {A : Type 0} (table : List (ℕ × A)) (most : ℕ) → all_below most (λ n. is_some (lookup n table)) ≡ true → all (λ row. ltb row.0 most) table ≡ true → Full table most
full table most h g =
    record {
      is = λ n l. row_if table n _ refl (below_all most (λ n. is_some (lookup n table)) n h l);
      no = λ n l. above most table n g l;
    }

pub full_infix : Full infix_ops 12
unfolding all all_below lookup is_some infix_ops
full_infix = full infix_ops 12 refl refl

pub full_prefix : Full prefix_ops 2
unfolding all all_below lookup is_some prefix_ops
full_prefix = full prefix_ops 2 refl refl

pub full_kinds : Full literal_kinds 5
unfolding all all_below lookup is_some literal_kinds
full_kinds = full literal_kinds 5 refl refl

pub full_flags : Full flags 2
unfolding all all_below lookup is_some flags
full_flags = full flags 2 refl refl

-- ## Reading by a table

pub one_of_is : {A : Type 0} (table : List (ℕ × A)) (n : ℕ) (fault : Refusal) (at : ℕ) {a : A} → lookup n table ≡ some a → one_of fault table n at ≡ got a at
unfolding one_of known return
one_of_is table n fault at e = ap (λ o. known fault o at) e

pub one_of_no : {A : Type 0} (table : List (ℕ × A)) (n : ℕ) (fault : Refusal) (at : ℕ) → lookup n table ≡ none → one_of fault table n at ≡ bad fault
unfolding one_of known refuse
one_of_no table n fault at e = ap (λ o. known fault o at) e

module _ (tree : List ℕ) where
  pub byte_of : {A : Type 0} (table : List (ℕ × A)) (fault : Refusal) (at : ℕ) {a : A} → at + 1 ≤ length tree → lookup (word8 tree at) table ≡ some a
      → (u8 tree fault >>= one_of fault table) at ≡ got a (at + 1)
  unfolding ◌>>=◌
  byte_of table fault at h e = then_on (one_of fault table) ((a_u8 tree).whole fault at h) ∙ one_of_is table (word8 tree at) fault (at + 1) e

  pub byte_none : {A : Type 0} (table : List (ℕ × A)) (fault : Refusal) (at : ℕ) → at + 1 ≤ length tree → lookup (word8 tree at) table ≡ none
      → (u8 tree fault >>= one_of fault table) at ≡ bad fault
  unfolding ◌>>=◌
  byte_none table fault at h e = then_on (one_of fault table) ((a_u8 tree).whole fault at h) ∙ one_of_no table (word8 tree at) fault (at + 1) e

  pub byte_short : {A : Type 0} (table : List (ℕ × A)) (fault : Refusal) (at : ℕ) → length tree < at + 1 → (u8 tree fault >>= one_of fault table) at ≡ bad fault
  unfolding ◌>>=◌
  byte_short table fault at h = then_bad (one_of fault table) ((a_u8 tree).short fault at h)

  -- the same, by the bound
  pub below_is : (most : ℕ) (fault : Refusal) (at : ℕ) → at + 1 ≤ length tree → word8 tree at < most → below tree most fault at ≡ got (word8 tree at) (at + 1)
  unfolding below ◌>>=◌ ◌>>◌ go_on need return
  below_is most fault at h l = then_on (λ n. need (ltb n most) fault >> return n) ((a_u8 tree).whole fault at h) ∙ rw (lt-ltb (word8 tree at) most l)

  pub below_big : (most : ℕ) (fault : Refusal) (at : ℕ) → at + 1 ≤ length tree → most ≤ word8 tree at → below tree most fault at ≡ bad fault
  unfolding below ◌>>=◌ ◌>>◌ go_on need return
  below_big most fault at h l = then_on (λ n. need (ltb n most) fault >> return n) ((a_u8 tree).whole fault at h) ∙ rw (le-ltb (word8 tree at) most l)

  pub below_short : (most : ℕ) (fault : Refusal) (at : ℕ) → length tree < at + 1 → below tree most fault at ≡ bad fault
  unfolding below ◌>>=◌
  below_short most fault at h = then_bad (λ n. need (ltb n most) fault >> return n) ((a_u8 tree).short fault at h)

  -- by the table exactly where by the bound
  pub record Alike {A : Type 0} (table : List (ℕ × A)) (most : ℕ) (fault : Refusal) (at : ℕ) : Type 0 where
    pub places : place ((u8 tree fault >>= one_of fault table) at) ≡ place (below tree most fault at)
    pub no : below tree most fault at ≡ bad fault → (u8 tree fault >>= one_of fault table) at ≡ bad fault
    pub is : {n m : ℕ} {a : A} → below tree most fault at ≡ got n m → lookup n table ≡ some a → (u8 tree fault >>= one_of fault table) at ≡ got a m

  alike_if : {A : Type 0} {table : List (ℕ × A)} {most : ℕ} → Full table most → (fault : Refusal) (at : ℕ) (t s : Bool)
      → leb (at + 1) (length tree) ≡ t → ltb (word8 tree at) most ≡ s → Alike table most fault at
  unfolding place
  alike_if {A} {table} {most} all' fault at true true h l =
      let w = leb-true _ _ h in
      let v = ltb-true _ _ l in
      let r = all'.is (word8 tree at) v in
      let p = below_is most fault at w v in
      let q = byte_of table fault at w r.is in
      record {
        places = ap place q ∙ sym (ap place p);
        no = λ e. absurd (bad_got (sym e ∙ p));
        is = λ {n} {m} {a} e f.
            let z : got (word8 tree at) (at + 1) ≡ got n m = sym p ∙ e in
            let y : word8 tree at ≡ n = cc in
            let x : at + 1 ≡ m = cc in
            byte_of table fault at w (ap (λ (k : ℕ). lookup k table) y ∙ f) ∙ ap (got a) x;
      }
  alike_if {A} {table} {most} all' fault at true false h l =
      let w = leb-true _ _ h in
      let v = ltb-false _ _ l in
      let p = below_big most fault at w v in
      let q = byte_none table fault at w (all'.no (word8 tree at) v) in
      record {
        places = ap place q ∙ sym (ap place p);
        no = λ e. q;
        is = λ e f. absurd (bad_got (sym p ∙ e));
      }
  alike_if {A} {table} {most} all' fault at false s h l =
      let w = leb-false _ _ h in
      let p = below_short most fault at w in
      let q = byte_short table fault at w in
      record {
        places = ap place q ∙ sym (ap place p);
        no = λ e. q;
        is = λ e f. absurd (bad_got (sym p ∙ e));
      }

  pub alike : {A : Type 0} {table : List (ℕ × A)} {most : ℕ} → Full table most → (fault : Refusal) (at : ℕ) → Alike table most fault at
  alike all' fault at = alike_if all' fault at _ _ refl refl

-- ## The mark of a record

pub none_some : {m : ℕ} → ◌≡◌ {A = rust.Option ℕ} None (Some m) → ⊥
none_some e = let z : ◌≡◌ {A = ℕ} 0 1 = cc in omega arith

module _ {A : Type 0} (table : List (ℕ × A)) (tree : List ℕ) (at : ℕ) where
  pub known_cut : length tree < at + 2 → known_mark table tree at ≡ None
  unfolding known_mark
  known_cut h = rw (lt-leb (at + 2) (length tree) h)

  pub known_is : {m : ℕ} → at + 2 ≤ length tree → m ≡ letters tree at → Row table m → known_mark table tree at ≡ Some m
  unfolding known_mark kept
  known_is {m} h e r = rw (le-leb (at + 2) (length tree) h, ← e, r.is)

  pub known_not : {m : ℕ} → at + 2 ≤ length tree → m ≡ letters tree at → lookup m table ≡ none → known_mark table tree at ≡ None
  unfolding known_mark kept
  known_not {m} h e r = rw (le-leb (at + 2) (length tree) h, ← e, r)

  pub record Marked (m : ℕ) : Type 0 where
    pub kind : A
    pub look : lookup m table ≡ some kind
    pub is : (fault : Refusal) → (mark tree fault >>= one_of fault table) at ≡ got kind (at + 2)
    pub bound : at + 2 ≤ length tree
    pub letters_are : letters tree at ≡ m

  known_some_if : (t : Bool) (o : Option A) → leb (at + 2) (length tree) ≡ t → lookup (letters tree at) table ≡ o → {m : ℕ} → known_mark table tree at ≡ Some m → Marked m
  unfolding ◌>>=◌
  known_some_if true (some a) h l {m} e =
      let w = leb-true _ _ h in
      let p : Some (letters tree at) ≡ Some m = sym (known_is w refl (record { value = a; is = l })) ∙ e in
      let q : letters tree at ≡ m = cc in
      record {
        kind = a;
        look = ap (λ (k : ℕ). lookup k table) (sym q) ∙ l;
        is = λ fault. then_on (one_of fault table) ((a_mark tree).whole fault at w) ∙ one_of_is table (letters tree at) fault (at + 2) l;
        bound = w;
        letters_are = q;
      }
  known_some_if true none h l e = absurd (none_some (sym (known_not (leb-true _ _ h) refl l) ∙ e))
  known_some_if false o h l e = absurd (none_some (sym (known_cut (leb-false _ _ h)) ∙ e))

  pub known_some : {m : ℕ} → known_mark table tree at ≡ Some m → Marked m
  known_some = known_some_if _ _ refl refl

  known_none_if : (t : Bool) (o : Option A) → leb (at + 2) (length tree) ≡ t → lookup (letters tree at) table ≡ o
      → known_mark table tree at ≡ None → (fault : Refusal) → (mark tree fault >>= one_of fault table) at ≡ bad fault
  unfolding ◌>>=◌
  known_none_if true (some a) h l e fault = absurd (none_some (sym e ∙ known_is (leb-true _ _ h) refl (record { value = a; is = l })))
  known_none_if true none h l e fault =
      then_on (one_of fault table) ((a_mark tree).whole fault at (leb-true _ _ h)) ∙ one_of_no table (letters tree at) fault (at + 2) l
  known_none_if false o h l e fault = then_bad (one_of fault table) ((a_mark tree).short fault at (leb-false _ _ h))

  pub known_none : known_mark table tree at ≡ None → (fault : Refusal) → (mark tree fault >>= one_of fault table) at ≡ bad fault
  known_none = known_none_if _ _ refl refl
