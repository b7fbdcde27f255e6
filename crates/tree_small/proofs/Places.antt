-- Steps one after the other, a row of them, a field that an answer tells, and a mark of a table.
use mathlib.Core.Path.{◌≡◌, refl, sym, ap, ◌∙◌}
use mathlib.Core.Bool.{Bool, true, false, not}
use mathlib.Core.Option.{some}
use mathlib.Core.List.{List, ◌∷◌}
use Prim.Native.Nat.{ℕ, zero, suc, ◌+◌, ◌-◌, ◌≤◌, ◌<◌}
use native.Mathlib.Omega.{arith}
use lib.ListN.{length}
use lib.Dec.{ltb, leb}
use borrow.Author.Tests.{lt-ltb, le-ltb, leb-true, leb-false, not-true, not-false}
use Rattle.rules.specs.declared.Refusal.{Refusal}
use Rattle.rules.specs.Tree.{Expr, ◌∷ᵉ◌, Stmt, ◌∷ˢ◌, Fun, method}
use Rattle.rules.specs.declared.Span.{Span}
use Rattle.rules.specs.Reader.{Read, got, bad, Reader, go_on, ◌>>=◌, ◌>>◌, return, need, u16, many}
use Rattle.rules.specs.TreeFile.{read_exprs, read_stmts, read_methods, maybe, name}
use Rattle.fields.specs.Words.{word8, word16}
use Rattle.fields.proofs.Reading as Fields
use Rattle.fields.proofs.Reading.{a_u8, a_u16, then_on, then_bad}
use Rattle.tree_small.specs.Places.{place, and_then, row, below, Tells}
use Rattle.std.specs.Prelude.{Option, Some, None, Result, Ok, Err}

-- a test of `has`
pub cut : {t : Bool} {a b : ℕ} → t ≡ leb a b → not t ≡ true → b < a
cut {t} {a} {b} e n = leb-false a b (sym e ∙ not-true t n)

pub there : {t : Bool} {a b : ℕ} → t ≡ leb a b → not t ≡ false → a ≤ b
there {t} {a} {b} e n = leb-true a b (sym e ∙ not-false t n)

-- ## One step and then others

pub goes : {s : Result ℕ Refusal} (f : ℕ → Result ℕ Refusal) {n : ℕ} → s ≡ Ok n → and_then s f ≡ f n
unfolding and_then
goes f e = ap (λ x. and_then x f) e

pub stops : {s : Result ℕ Refusal} (f : ℕ → Result ℕ Refusal) {r : Refusal} → s ≡ Err r → and_then s f ≡ Err r
unfolding and_then
stops f e = ap (λ x. and_then x f) e

-- where a reader that goes on gets to
pub chain : {A B : Type 0} (r : Read A) (f : A → Reader B) (g : ℕ → Result ℕ Refusal) → ((a : A) (n : ℕ) → place (f a n) ≡ g n) → place (go_on r f) ≡ and_then (place r) g
unfolding place and_then go_on
chain (got a n) f g h = h a n
chain (bad x) f g h = refl

-- what is made of a thing ends where it does
pub made : {A B : Type 0} (r : Read A) (f : A → B) → place (go_on r (λ a. return (f a))) ≡ place r
unfolding place go_on return
made (got a n) f = refl
made (bad x) f = refl

pub and_then_same : (s : Result ℕ Refusal) (f g : ℕ → Result ℕ Refusal) → ((n : ℕ) → f n ≡ g n) → and_then s f ≡ and_then s g
unfolding and_then
and_then_same (Ok n) f g h = h n
and_then_same (Err r) f g h = refl

pub and_then_end : (s : Result ℕ Refusal) → and_then s Ok ≡ s
unfolding and_then
and_then_end (Ok n) = refl
and_then_end (Err r) = refl

-- ## A row

pub row_none : (one : ℕ → Result ℕ Refusal) (left at : ℕ) → left ≤ 0 → row one left at ≡ Ok at
unfolding row
row_none one zero at h = refl
row_none one (suc left) at h = absurd (omega arith)

pub row_some : (one : ℕ → Result ℕ Refusal) (left at : ℕ) → 0 < left → row one left at ≡ and_then (one at) (row one (left - 1))
unfolding row
row_some one zero at h = absurd (omega arith)
row_some one (suc left) at h = let e : suc left - 1 ≡ left = omega arith in rw e

-- a loop over a row after `done` of its `count` turns: what is left from `next` on comes to the whole from `at` on
pub record RowLeft (one : ℕ → Result ℕ Refusal) (count done next at : ℕ) : Type 0 where
  pub is : row one (count - done) next ≡ row one count at

module _ {one : ℕ → Result ℕ Refusal} {count done next at : ℕ} (left : RowLeft one count done next at) where
  pub row_stops : {r : Refusal} → done < count → one next ≡ Err r → Err r ≡ row one count at
  row_stops h e = sym (row_some one (count - done) next (omega arith) ∙ stops (row one (count - done - 1)) e) ∙ left.is

  pub row_goes : {n : ℕ} → done < count → one next ≡ Ok n → RowLeft one count (done + 1) n at
  row_goes {n} h e =
      let q : count - done - 1 ≡ count - (done + 1) = omega arith in
      record { is = sym (row_some one (count - done) next (omega arith) ∙ goes (row one (count - done - 1)) e ∙ ap (λ (k : ℕ). row one k n) q) ∙ left.is }

  pub row_ends : count ≤ done → Ok next ≡ row one count at
  row_ends h = sym (row_none one (count - done) next (omega arith)) ∙ left.is

pub row_one : (one : ℕ → Result ℕ Refusal) (at : ℕ) → row one 1 at ≡ one at
unfolding row
row_one one at = and_then_end (one at)

module _ {A B : Type 0} (one : Reader A) (all : ℕ → Reader B) (none' : B) (more : A → B → B)
    (nothing : (at : ℕ) → all 0 at ≡ got none' at)
    (first : (k at : ℕ) → all (suc k) at ≡ go_on (one at) (λ a. all k >>= λ b. return (more a b))) where
  -- whatever is read in a row
  in_a_row : (k at : ℕ) → place (all k at) ≡ row (λ n. place (one n)) k at
  unfolding row place ◌>>=◌
  in_a_row zero at = ap place (nothing at)
  in_a_row (suc k) at =
      ap place (first k at) ∙
      chain (one at) (λ a. all k >>= λ b. return (more a b)) (row (λ n. place (one n)) k)
      (λ a n. made (all k n) (more a) ∙ in_a_row k n)

pub exprs_row : (expr : Reader Expr) (k at : ℕ) → place (read_exprs k expr at) ≡ row (λ n. place (expr n)) k at
unfolding read_exprs ◌>>=◌ return
exprs_row expr k at = in_a_row expr (λ j. read_exprs j expr) _ ◌∷ᵉ◌ (λ n. refl) (λ j n. refl) k at

pub stmts_row : (stmt : Reader Stmt) (k at : ℕ) → place (read_stmts k stmt at) ≡ row (λ n. place (stmt n)) k at
unfolding read_stmts ◌>>=◌ return
stmts_row stmt k at = in_a_row stmt (λ j. read_stmts j stmt) _ ◌∷ˢ◌ (λ n. refl) (λ j n. refl) k at

pub methods_row : (one : Reader (Span × Fun)) (k at : ℕ) → place (read_methods k one at) ≡ row (λ n. place (one n)) k at
unfolding read_methods ◌>>=◌ return
methods_row one k at = in_a_row one (λ j. read_methods j one) _ (λ x ms. method x.0 x.1 ms) (λ n. refl) (λ j n. refl) k at

pub many_row : {A : Type 0} (one : Reader A) (k at : ℕ) → place (many k one at) ≡ row (λ n. place (one n)) k at
unfolding many ◌>>=◌ return
many_row one k at = in_a_row one (λ j. many j one) _ ◌∷◌ (λ n. refl) (λ j n. refl) k at

pub maybe_no : {A : Type 0} (one : Reader A) (at : ℕ) → place (maybe false one at) ≡ Ok at
unfolding maybe return place
maybe_no one at = refl

pub maybe_yes : {A : Type 0} (one : Reader A) (at : ℕ) → place (maybe true one at) ≡ place (one at)
unfolding maybe ◌>>=◌
maybe_yes one at = made (one at) some

-- ## Fields

pub tells_no : {tree : List ℕ} {field : Refusal → Reader ℕ} {size most at : ℕ} → ((fault : Refusal) → field fault at ≡ bad fault) → Tells tree field size most at None
tells_no h =
    record {
      no = λ e. h;
      is = λ n e. let z : ◌≡◌ {A = ℕ} 0 1 = cc in absurd (omega arith);
      bound = λ n e. let z : ◌≡◌ {A = ℕ} 0 1 = cc in absurd (omega arith);
      small = λ n e. let z : ◌≡◌ {A = ℕ} 0 1 = cc in absurd (omega arith);
    }

same_is : {m n : ℕ} → ◌≡◌ {A = Option ℕ} (Some m) (Some n) → m ≡ n
same_is e = cc

pub tells_is : {tree : List ℕ} {field : Refusal → Reader ℕ} {size most at n : ℕ} → ((fault : Refusal) → field fault at ≡ got n (at + size))
    → at + size ≤ length tree → n < most → Tells tree field size most at (Some n)
tells_is {field = field} {size} {most} {at} {n} h b s =
    record {
      no = λ e. let z : ◌≡◌ {A = ℕ} 0 1 = cc in absurd (omega arith);
      is = λ m e fault. h fault ∙ ap (λ (k : ℕ). got k (at + size)) (same_is e);
      bound = λ m e. b;
      small = λ m e. let q : n ≡ m = same_is e in omega arith;
    }

-- a field that must be below a number
abbrev bounded : (Refusal → Reader ℕ) → (most : ℕ) → Refusal → Reader ℕ
bounded field most fault = field fault >>= λ n. need (ltb n most) fault >> return n

module _ (tree : List ℕ) {field : Refusal → Reader ℕ} {size : ℕ} {value : ℕ → ℕ} (one : Fields.Field tree field size value) (most at : ℕ) where
  bounded_cut : length tree < at + size → Tells tree (bounded field most) size most at None
  unfolding ◌>>=◌
  bounded_cut h = tells_no λ fault. then_bad (λ n. need (ltb n most) fault >> return n) (one.short fault at h)

  bounded_big : at + size ≤ length tree → most ≤ value at → Tells tree (bounded field most) size most at None
  unfolding ◌>>=◌ ◌>>◌ need go_on
  bounded_big h b =
      tells_no λ fault.
      then_on (λ n. need (ltb n most) fault >> return n) (one.whole fault at h) ∙ rw (le-ltb (value at) most b)

  bounded_is : at + size ≤ length tree → value at < most → Tells tree (bounded field most) size most at (Some (value at))
  unfolding ◌>>=◌ ◌>>◌ need go_on return
  bounded_is h b =
      tells_is
      (λ fault. then_on (λ n. need (ltb n most) fault >> return n) (one.whole fault at h) ∙ rw (lt-ltb (value at) most b))
      h
      b

module _ (tree : List ℕ) where
  pub byte_cut : (most at : ℕ) → length tree < at + 1 → Tells tree (below tree most) 1 most at None
  unfolding below
  byte_cut = bounded_cut tree (a_u8 tree)

  pub byte_big : (most at : ℕ) → at + 1 ≤ length tree → most ≤ word8 tree at → Tells tree (below tree most) 1 most at None
  unfolding below
  byte_big = bounded_big tree (a_u8 tree)

  pub byte_is : (most at : ℕ) → at + 1 ≤ length tree → word8 tree at < most → Tells tree (below tree most) 1 most at (Some (word8 tree at))
  unfolding below
  byte_is = bounded_is tree (a_u8 tree)

  pub count_cut : (at : ℕ) → length tree < at + 2 → Tells tree (u16 tree) 2 65536 at None
  count_cut at h = tells_no λ fault. (a_u16 tree).short fault at h

  pub count_is : (at : ℕ) → at + 2 ≤ length tree → word16 tree at < 65536 → Tells tree (u16 tree) 2 65536 at (Some (word16 tree at))
  count_is at h b = tells_is (λ fault. (a_u16 tree).whole fault at h) h b

  pub name_cut : (names at : ℕ) → length tree < at + 2 → Tells tree (name tree names) 2 (4 + names) at None
  unfolding name
  name_cut names at h = bounded_cut tree (a_u16 tree) (4 + names) at h

  pub name_big : (names at : ℕ) → at + 2 ≤ length tree → 4 + names ≤ word16 tree at → Tells tree (name tree names) 2 (4 + names) at None
  unfolding name
  name_big names at h b = bounded_big tree (a_u16 tree) (4 + names) at h b

  pub name_is : (names at : ℕ) → at + 2 ≤ length tree → word16 tree at < 4 + names → Tells tree (name tree names) 2 (4 + names) at (Some (word16 tree at))
  unfolding name
  name_is names at h b = bounded_is tree (a_u16 tree) (4 + names) at h b

-- an answer that is known
pub told : {tree : List ℕ} {field : Refusal → Reader ℕ} {size most at : ℕ} {r s : Option ℕ} → r ≡ s → Tells tree field size most at s → Tells tree field size most at r
told {tree} {field} {size} {most} {at} e h = rw e h
