-- Names: the order of two texts as a walk over both, the bytes of a text, and one law for each way out of a name's record.
use mathlib.Core.Path.{◌≡◌, refl, sym, ap, ◌∙◌}
use mathlib.Core.Bool.{Bool, true, false, not}
use mathlib.Core.Option.{Option, none, some}
use mathlib.Core.List.{List, ◌∷◌, []}
use Prim.Native.Nat.{ℕ, zero, suc, ◌+◌, ◌-◌, ◌≤◌, ◌<◌}
use native.Mathlib.Omega.{arith}
use native.Mathlib.Numerals.{add-one}
use lib.ListN.{length, get_or, take, drop}
use lib.Seq.{drop-cons}
use lib.Dec.{leb, eqb}
use borrow.Author.Tests.{leb-true, leb-false, eqb-true, eqb-false}
use Rattle.rules.specs.Base.{before, all}
use Rattle.std.specs.Prelude as rust
use Rattle.std.specs.Prelude.{if◌then◌else◌, None, Some, Result, Ok, Err}
use Rattle.rules.specs.declared.Refusal.{Refusal}
use Rattle.rules.specs.declared.Refusal.TheVariants.{TreeForm}
use Rattle.rules.specs.Reader.{Read, got, bad, Reader, go_on, ◌>>=◌, ◌>>◌, return, here, need, u8, many}
use Rattle.rules.specs.TreeFile.{fixed_names, rises, differs, read_name, read_names}
use Rattle.fields.specs.Words.{word16, letters}
use Rattle.fields.proofs.Reading.{a_u8, a_u16, then_on, then_bad, mark_is_it, mark_is_not, mark_is_cut, moved}
use Rattle.tree_small.specs.Places.{place}
use Rattle.tree_names.specs.Names.{text, last_name, LastFits, NameRead}
use Rattle.std.specs.Cmp.Lexicographic.{pointwise, slice_cmp}
use Rattle.std.specs.Ordering.{is_lt, nat_cmp}
use Rattle.std.specs.declared.cmp.Ordering.{Ordering}
use Rattle.std.specs.Prelude.{nat_eq}
use Rattle.std.proofs.lemmas.Bool.Decides.{nat_tests}
use Rattle.std.proofs.lemmas.Cmp.{same_from_slice_cmp}
use Rattle.fields.specs.Marks as marks

-- ## Two texts

-- the library's order of slices is the rules'
pub before_is : (a b : List ℕ) (r : Ordering) → r ≡ slice_cmp nat_cmp a b → is_lt r ≡ before a b
unfolding before
before_is = same_from_slice_cmp nat_cmp is_lt before refl (λ y ys. refl) (λ x xs. refl) (λ x y xs ys o e. grind (arith, nat_tests))

-- and its equality
pub differs_is : (x a b : List ℕ) → not (pointwise nat_eq a b) ≡ differs x a b
unfolding differs before
differs_is x [] [] = refl
differs_is x [] (c ∷ b) = refl
differs_is x (c ∷ a) [] = refl
differs_is x (c ∷ a) (d ∷ b) = grind (arith, nat_tests, differs_is x a b)

-- ## The bytes of a text

module _ (tree : List ℕ) (fault : Refusal) where
  many_bytes : (k at : ℕ) → at + k ≤ length tree → many k (u8 tree fault) at ≡ got (take k (drop at tree)) (at + k)
  unfolding many ◌>>=◌ go_on return
  many_bytes zero at h = moved (omega arith)
  many_bytes (suc k) at h =
      then_on _ ((a_u8 tree).whole fault at (omega arith)) ∙ then_on _ (many_bytes k (at + 1) (omega arith)) ∙
      ap (λ (l : List ℕ). got (get_or tree at 0 ∷ take k l) (at + 1 + k)) (ap (λ (n : ℕ). drop n tree) (add-one at)) ∙
      ap (λ (l : List ℕ). got (take (suc k) l) (at + 1 + k)) (sym (drop-cons tree at 0 (omega arith))) ∙ moved (omega arith)

  short_if : {B : Type 0} (t : Bool) (at : ℕ) (f : ℕ → Reader B) → leb (at + 1) (length tree) ≡ t → (at + 1 ≤ length tree → f (get_or tree at 0) (at + 1) ≡ bad fault)
      → go_on (u8 tree fault at) f ≡ bad fault
  short_if true at f e h = let w = leb-true _ _ e in then_on f ((a_u8 tree).whole fault at w) ∙ h w
  short_if false at f e h = then_bad f ((a_u8 tree).short fault at (leb-false _ _ e))

  many_short : (k at : ℕ) → at ≤ length tree → length tree < at + k → many k (u8 tree fault) at ≡ bad fault
  unfolding many ◌>>=◌
  many_short zero at g h = absurd (omega arith)
  many_short (suc k) at g h = short_if _ at _ refl (λ w. then_bad _ (many_short k (at + 1) w (omega arith)))

-- ## The fixed names

-- whichever file it is asked in
pub fixed_in : (x y t : List ℕ) → all (differs x t) fixed_names ≡ all (differs y t) fixed_names
unfolding differs
fixed_in x y t = refl

-- ## The name before

module _ (tree : List ℕ) (end : ℕ) (t : List ℕ) {last : rust.Option ℕ} where
  pub above_none : last ≡ None → true ≡ rises tree (last_name tree last end) t
  unfolding rises last_name
  above_none h = rw h

  pub above_some : {start : ℕ} → last ≡ Some start → before (take (end - (start + 4)) (drop (start + 4) tree)) t ≡ rises tree (last_name tree last end) t
  unfolding rises last_name text
  above_some h = rw h

-- ## A name's record

module _ (tree : List ℕ) (last : Option (List ℕ)) (at : ℕ) where
  -- what is asked of its text
  abbrev may_stand : List ℕ → Reader (List ℕ)
  may_stand t = need (rises tree last t) (TreeForm at) >> (need (all (differs tree t) fixed_names) (TreeForm at) >> return t)

  name_mark_not : at + 2 ≤ length tree → (letters tree at ≡ marks.NM → ⊥) → read_name tree last at ≡ bad (TreeForm at)
  unfolding read_name ◌>>=◌ ◌>>◌ here go_on
  name_mark_not h n = then_bad _ (mark_is_not tree (TreeForm at) marks.NM at h n)

  name_mark_cut : length tree < at + 2 → read_name tree last at ≡ bad (TreeForm at)
  unfolding read_name ◌>>=◌ ◌>>◌ here go_on
  name_mark_cut h = then_bad _ (mark_is_cut tree (TreeForm at) marks.NM at h)

  name_size_cut : at + 2 ≤ length tree → letters tree at ≡ marks.NM → length tree < at + 4 → read_name tree last at ≡ bad (TreeForm at)
  unfolding read_name ◌>>=◌ ◌>>◌ here go_on
  name_size_cut h e l = then_on _ (mark_is_it tree (TreeForm at) marks.NM at h e) ∙ then_bad _ ((a_u16 tree).short (TreeForm at) (at + 2) (omega arith))

  name_cut_if : (t s : Bool) → leb (at + 2) (length tree) ≡ t → eqb (letters tree at) marks.NM ≡ s → length tree < at + 4 → read_name tree last at ≡ bad (TreeForm at)
  name_cut_if true true h e l = name_size_cut (leb-true _ _ h) (eqb-true _ _ e) l
  name_cut_if true false h e l = name_mark_not (leb-true _ _ h) (eqb-false _ _ e)
  name_cut_if false s h e l = name_mark_cut (leb-false _ _ h)

  pub name_cut : length tree < at + 4 → read_name tree last at ≡ bad (TreeForm at)
  name_cut l = name_cut_if _ _ refl refl l

  pub name_not : at + 4 ≤ length tree → (letters tree at ≡ marks.NM → ⊥) → read_name tree last at ≡ bad (TreeForm at)
  name_not h n = name_mark_not (omega arith) n

  sized : at + 4 ≤ length tree → letters tree at ≡ marks.NM → read_name tree last at ≡ go_on (many (word16 tree (at + 2)) (u8 tree (TreeForm at)) (at + 4)) may_stand
  unfolding read_name ◌>>=◌ ◌>>◌ here go_on
  sized h e =
      let q : at + 2 + 2 ≡ at + 4 = omega arith in
      then_on _ (mark_is_it tree (TreeForm at) marks.NM at (omega arith) e) ∙ then_on _ ((a_u16 tree).whole (TreeForm at) (at + 2) (omega arith)) ∙
      ap (λ (k : ℕ). go_on (many (word16 tree (at + 2)) (u8 tree (TreeForm at)) k) may_stand) q

  module _ (size : ℕ) (h : at + 4 ≤ length tree) (e : letters tree at ≡ marks.NM) (w : size ≡ word16 tree (at + 2)) where
    pub text_cut : length tree < at + 4 + size → read_name tree last at ≡ bad (TreeForm at)
    text_cut l = sized h e ∙ then_bad may_stand (ap (λ (k : ℕ). many k (u8 tree (TreeForm at)) (at + 4)) (sym w) ∙ many_short tree (TreeForm at) size (at + 4) h l)

    texted : at + 4 + size ≤ length tree → read_name tree last at ≡ may_stand (text tree (at + 4) (at + 4 + size)) (at + 4 + size)
    unfolding text
    texted l =
        let q : size ≡ at + 4 + size - (at + 4) = omega arith in
        sized h e ∙ then_on may_stand (ap (λ (k : ℕ). many k (u8 tree (TreeForm at)) (at + 4)) (sym w) ∙ many_bytes tree (TreeForm at) size (at + 4) l) ∙
        ap (λ (k : ℕ). may_stand (take k (drop (at + 4) tree)) (at + 4 + size)) q

    pub not_above : at + 4 + size ≤ length tree → rises tree last (text tree (at + 4) (at + 4 + size)) ≡ false → read_name tree last at ≡ bad (TreeForm at)
    unfolding need ◌>>◌ go_on
    not_above l r = texted l ∙ rw r

    pub not_written : at + 4 + size ≤ length tree → rises tree last (text tree (at + 4) (at + 4 + size)) ≡ true
        → all (differs tree (text tree (at + 4) (at + 4 + size))) fixed_names ≡ false → read_name tree last at ≡ bad (TreeForm at)
    unfolding need ◌>>◌ go_on
    not_written l r f = texted l ∙ rw (r, f)

    pub name_is : at + 4 + size ≤ length tree → rises tree last (text tree (at + 4) (at + 4 + size)) ≡ true
        → all (differs tree (text tree (at + 4) (at + 4 + size))) fixed_names ≡ true
        → read_name tree last at ≡ got (text tree (at + 4) (at + 4 + size)) (at + 4 + size)
    unfolding need ◌>>◌ go_on return
    name_is l r f = texted l ∙ rw (r, f)

pub bad_at : {x : Refusal} {n : ℕ} → ◌≡◌ {A = Result ℕ Refusal} (Err x) (Ok n) → ⊥
bad_at e = let z : ◌≡◌ {A = ℕ} 0 1 = cc in omega arith

pub read_bad : (tree : List ℕ) (last : rust.Option ℕ) (at : ℕ) {x : Refusal} → read_name tree (last_name tree last at) at ≡ bad x → NameRead tree last at (Err x)
unfolding place
read_bad tree last at e =
    record {
      whole = sym (ap place e);
      is = λ n q. absurd (bad_at q);
      start = λ n q. absurd (bad_at q);
      bound = λ n q. absurd (bad_at q);
    }

pub read_good : (tree : List ℕ) (last : rust.Option ℕ) (at next : ℕ) → read_name tree (last_name tree last at) at ≡ got (text tree (at + 4) next) next → at + 4 ≤ next → next ≤ length tree
    → NameRead tree last at (Ok next)
unfolding place
read_good tree last at next e s b =
    record {
      whole = sym (ap place e);
      is = λ n q. let z : next ≡ n = cc in e ∙ ap (λ (k : ℕ). got (text tree (at + 4) k) k) z;
      start = λ n q. let z : next ≡ n = cc in omega arith;
      bound = λ n q. let z : next ≡ n = cc in omega arith;
    }

-- ## Names in a row

pub was_bad : {A : Type 0} (r : Read A) {s : Result ℕ Refusal} {x : Refusal} → s ≡ place r → s ≡ Err x → r ≡ bad x
unfolding place
was_bad (got a n) p q = absurd (bad_at (sym q ∙ p))
was_bad (bad y) {s} {x} p q = let z : Err y ≡ Err x = sym p ∙ q in cc

-- a loop over names after `done` of its `count` turns: what is left from `next` on comes to the whole from `at` on
pub record NamesLeft (tree : List ℕ) (count done : ℕ) (last : rust.Option ℕ) (next at : ℕ) : Type 0 where
  pub is : place (read_names tree (count - done) (last_name tree last next) next) ≡ place (read_names tree count none at)
  pub fits : LastFits tree last next

names_some : (tree : List ℕ) (left : ℕ) (last : Option (List ℕ)) (at : ℕ) → 0 < left
    → read_names tree left last at ≡ go_on (read_name tree last at) (λ text. read_names tree (left - 1) (some text))
unfolding read_names ◌>>=◌
names_some tree zero last at h = absurd (omega arith)
names_some tree (suc left) last at h = let q : suc left - 1 ≡ left = omega arith in rw q

pub names_none : (tree : List ℕ) (left : ℕ) (last : Option (List ℕ)) (at : ℕ) → left ≤ 0 → place (read_names tree left last at) ≡ Ok at
unfolding read_names return place
names_none tree zero last at h = refl
names_none tree (suc left) last at h = absurd (omega arith)

pub names_begin : {tree : List ℕ} {count at : ℕ} → at ≤ length tree → NamesLeft tree count 0 None at at
unfolding last_name
names_begin {tree} {count} {at} h =
    let q : count - 0 ≡ count = omega arith in
    record {
      is = ap (λ (k : ℕ). place (read_names tree k none at)) q;
      fits = record { start = λ n e. let z : ◌≡◌ {A = ℕ} 0 1 = cc in absurd (omega arith); bound = h };
    }

module _ {tree : List ℕ} {count done : ℕ} {last : rust.Option ℕ} {next at : ℕ} (left : NamesLeft tree count done last next at) where
  pub names_stop : {x : Refusal} → done < count → NameRead tree last next (Err x) → Err x ≡ place (read_names tree count none at)
  unfolding place
  names_stop {x} h r =
      let q : read_name tree (last_name tree last next) next ≡ bad x = was_bad _ r.whole refl in
      sym (ap place (names_some tree (count - done) (last_name tree last next) next (omega arith) ∙ then_bad _ q)) ∙ left.is

  pub names_go : {past : ℕ} → done < count → NameRead tree last next (Ok past) → NamesLeft tree count (done + 1) (Some next) past at
  unfolding last_name
  names_go {past} h r =
      let q : count - done - 1 ≡ count - (done + 1) = omega arith in
      let b : next + 4 ≤ past = r.start past refl in
      record {
        is =
            sym (ap place (names_some tree (count - done) (last_name tree last next) next (omega arith) ∙ then_on _ (r.is past refl)) ∙
            ap (λ (k : ℕ). place (read_names tree k (some (text tree (next + 4) past)) past)) q) ∙ left.is;
        fits = record { start = λ n e. let y : next ≡ n = cc in omega arith; bound = r.bound past refl };
      }

  pub names_end : count ≤ done → Ok next ≡ place (read_names tree count none at)
  names_end h = sym (names_none tree (count - done) (last_name tree last next) next (omega arith)) ∙ left.is
