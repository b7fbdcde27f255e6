-- A read that gave something, taken apart: its first step gave something, and so did what follows. Then fields, names, tables and marks.
use mathlib.Core.Path.{◌≡◌, refl, sym, ap, ap₂, ◌∙◌}
use mathlib.Core.Bool.{Bool, true, false}
use mathlib.Core.Option.{Option, none, some}
use mathlib.Core.List.{List, ◌∷◌, []}
use mathlib.Core.Logic.{◌⊎◌, inl, inr}
use Prim.Native.Nat.{ℕ, suc, ◌+◌, ◌-◌, ◌≤◌, ◌<◌}
use native.Mathlib.Omega.{arith}
use lib.ListN.{length}
use lib.Dec.{ltb, eqb}
use borrow.Author.Tests.{ltb-true, eqb-true}
use Rattle.rules.specs.Base.{lookup}
use Rattle.std.specs.Prelude.{if◌then◌else◌}
use Rattle.rules.specs.declared.Refusal.{Refusal}
use Rattle.rules.specs.Reader.{Read, got, bad, Reader, go_on, ◌>>=◌, ◌>>◌, return, refuse, need, known, one_of, u8, u16, mark}
use Rattle.rules.specs.TreeFile.{name}
use Rattle.fields.specs.Words.{word8, word16, letters}
use Rattle.fields.proofs.Reading.{Found, found, bad_got, a_u8, a_u16, a_mark}

-- ## Numbers, with no large term in scope

pub eleven : (at : ℕ) → at + 10 + 1 ≡ at + 11
eleven at = omega arith

pub twelve : (at : ℕ) → at + 10 + 2 ≡ at + 12
twelve at = omega arith

pub ten : (at : ℕ) → at + 2 + 8 ≡ at + 10
ten at = omega arith

pub pred_suc : (d : ℕ) → suc d - 1 ≡ d
pred_suc d = omega arith

pub some_room : (d : ℕ) → 0 < suc d
some_room d = omega arith

-- ## One step and then another

pub moved : {A : Type 0} {x : A} {r : Read A} {n m : ℕ} → r ≡ got x m → m ≡ n → r ≡ got x n
moved {x = x} e q = e ∙ ap (got x) q

pub got_thing : {A : Type 0} {a b : A} {n m : ℕ} → ◌≡◌ {A = Read A} (got a n) (got b m) → a ≡ b
got_thing e = cc

pub got_next : {A : Type 0} {a b : A} {n m : ℕ} → ◌≡◌ {A = Read A} (got a n) (got b m) → n ≡ m
got_next e = cc

pub record First {A B : Type 0} (r : Read A) (f : A → Reader B) (b : B) (n : ℕ) : Type 0 where
  pub thing : A
  pub next : ℕ
  pub is : r ≡ got thing next
  pub rest : f thing next ≡ got b n

pub first : {A B : Type 0} (r : Read A) (f : A → Reader B) {b : B} {n : ℕ} → go_on r f ≡ got b n → First r f b n
unfolding go_on
first (got a m) f e = record { thing = a; next = m; is = refl; rest = e }
first (bad x) f e = absurd (bad_got e)

-- what follows a field that is known
pub on : {A B : Type 0} {r : Read A} (f : A → Reader B) {b : B} {n : ℕ} (x : First r f b n) {a : A} {m len : ℕ} → Found len x.thing a x.next m → f a m ≡ got b n
on f x q = ap₂ f (sym q.is) (sym q.on) ∙ x.rest

pub shift : {A : Type 0} {a b : A} {m n k len : ℕ} → n ≡ k → Found len a b m n → Found len a b m k
shift e f = record { is = f.is; on = f.on ∙ e; bound = omega (arith, f.bound) }

-- a test that a value passed
pub record Passed (b : Bool) {A : Type 0} (v a : A) (at m : ℕ) : Type 0 where
  pub test : b ≡ true
  pub is : a ≡ v
  pub on : m ≡ at

pub passed : {A : Type 0} (b : Bool) (x : Refusal) (v : A) (at : ℕ) {a : A} {m : ℕ} → (need b x >> return v) at ≡ got a m → Passed b v a at m
unfolding need ◌>>◌ go_on return
passed true x v at e = record { test = refl; is = sym (got_thing e); on = sym (got_next e) }
passed false x v at e = absurd (bad_got e)

-- ## Tables

pub record Looked {A : Type 0} (o : Option A) (a : A) (at m : ℕ) : Type 0 where
  pub look : o ≡ some a
  pub on : m ≡ at

known_if : {A : Type 0} (x : Refusal) (o : Option A) (at : ℕ) {a : A} {m : ℕ} → known x o at ≡ got a m → Looked o a at m
unfolding known return refuse
known_if x (some b) at e = record { look = ap some (got_thing e); on = sym (got_next e) }
known_if x none at e = absurd (bad_got e)

pub one_of_at : {A : Type 0} (x : Refusal) (table : List (ℕ × A)) (n at : ℕ) {a : A} {m : ℕ} → one_of x table n at ≡ got a m → Looked (lookup n table) a at m
unfolding one_of
one_of_at x table n at e = known_if x (lookup n table) at e

-- an entry of a table is its first, or one of the others
row_if : {A : Type 0} (n k : ℕ) (v : A) (rows : List (ℕ × A)) (same : Bool) → eqb n k ≡ same → {a : A} → (if same then some v else lookup n rows) ≡ some a → (n ≡ k) ⊎ (lookup n rows ≡ some a)
row_if n k v rows true e h = inl (eqb-true _ _ e)
row_if n k v rows false e h = inr h

pub row : {A : Type 0} (n k : ℕ) (v : A) (rows : List (ℕ × A)) {a : A} → lookup n ((k, v) ∷ rows) ≡ some a → (n ≡ k) ⊎ (lookup n rows ≡ some a)
unfolding lookup
row n k v rows h = row_if n k v rows _ refl h

pub no_row : {A : Type 0} (n : ℕ) {a : A} → ◌≡◌ {A = Option A} (lookup n []) (some a) → ⊥
unfolding lookup
no_row n h = let z : ◌≡◌ {A = ℕ} 0 1 = cc in omega arith

-- ## Fields

module _ (tree : List ℕ) where
  -- a byte that a table has
  pub record Chosen {A : Type 0} (table : List (ℕ × A)) (at : ℕ) (a : A) (n : ℕ) : Type 0 where
    pub look : lookup (word8 tree at) table ≡ some a
    pub on : n ≡ at + 1
    pub bound : at + 1 ≤ length tree

  pub chosen : {A : Type 0} (x : Refusal) (table : List (ℕ × A)) (at : ℕ) {a : A} {n : ℕ} → (u8 tree x >>= one_of x table) at ≡ got a n → Chosen table at a n
  unfolding ◌>>=◌
  chosen x table at r =
      let one = first (u8 tree x at) (one_of x table) r in
      let f = found tree (a_u8 tree) one.is in
      let w = one_of_at x table (word8 tree at) (at + 1) (on (one_of x table) one f) in
      record { look = w.look; on = w.on; bound = f.bound }

  pub chosen_field : {A : Type 0} {table : List (ℕ × A)} {at k : ℕ} {a : A} {n : ℕ} → at + 1 ≡ k → Chosen table at a n → Found (length tree) a a n k
  chosen_field e o = record { is = refl; on = o.on ∙ e; bound = omega (arith, o.bound) }

  -- a mark that a table has
  pub record Kind {A : Type 0} (table : List (ℕ × A)) (at : ℕ) (a : A) (n : ℕ) : Type 0 where
    pub look : lookup (letters tree at) table ≡ some a
    pub on : n ≡ at + 2
    pub bound : at + 2 ≤ length tree

  pub kind_at : {A : Type 0} (x : Refusal) (table : List (ℕ × A)) (at : ℕ) {a : A} {n : ℕ} → (mark tree x >>= one_of x table) at ≡ got a n → Kind table at a n
  unfolding ◌>>=◌
  kind_at x table at r =
      let one = first (mark tree x at) (one_of x table) r in
      let f = found tree (a_mark tree) one.is in
      let w = one_of_at x table (letters tree at) (at + 2) (on (one_of x table) one f) in
      record { look = w.look; on = w.on; bound = f.bound }

  -- which one it is, where its letters are known
  pub kind_field : {A : Type 0} {table : List (ℕ × A)} (m at : ℕ) (k : A) → lookup m table ≡ some k → letters tree at ≡ m → {a : A} {n : ℕ} → Kind table at a n → Found (length tree) a k n (at + 2)
  kind_field {table = table} m at k look e {a} {n} w =
      let z : some a ≡ some k = sym w.look ∙ ap (λ (j : ℕ). lookup j table) e ∙ look in
      record { is = cc; on = w.on; bound = w.bound }

  -- a name's number, below that of the first name that isn't there
  pub record Name (names at : ℕ) (a n : ℕ) : Type 0 where
    pub field : Found (length tree) a (word16 tree at) n (at + 2)
    pub small : word16 tree at < 4 + names

  pub name_at : (names : ℕ) (x : Refusal) (at : ℕ) {a n : ℕ} → name tree names x at ≡ got a n → Name names at a n
  unfolding name ◌>>=◌
  name_at names x at e =
      let one = first (u16 tree x at) (λ n. need (ltb n (4 + names)) x >> return n) e in
      let f = found tree (a_u16 tree) one.is in
      let w = passed (ltb (word16 tree at) (4 + names)) x (word16 tree at) (at + 2) (on (λ n. need (ltb n (4 + names)) x >> return n) one f) in
      record { field = record { is = w.is; on = w.on; bound = f.bound }; small = ltb-true _ _ w.test }
