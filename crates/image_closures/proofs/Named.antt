-- Laws of the functions that are named once.
use mathlib.Core.Path.{◌≡◌, refl}
use mathlib.Core.Bool.{Bool, true, false}
use mathlib.Core.List.{List}
use Prim.Native.Nat.{ℕ}
use lib.ListN.{get_or}
use lib.Dec.{eqb}
use borrow.Author.Tests.{eq-eqb, ne_eqb}
use Rattle.rules.specs.Base.{all_below}
use Rattle.std.specs.Prelude.{if◌then◌else◌}
use Rattle.rules.specs.Division.{Instruction, is_function}
use Rattle.image_code.specs.Table.{kind_of, kinds_in, from, instructions, closed_by}
use Rattle.image_code.proofs.Fitting.{function_no}
use Rattle.image_code.proofs.Once.{below_same}
use Rattle.image_code.specs.declared.Kind as element
use Rattle.image_code.specs.declared.Kind.TheVariants as kind
use Rattle.image_closures.specs.Counts.{Counted}

a_function : (n : ℕ) → is_function (kind_of (kind.Function n)) ≡ true
unfolding kind_of is_function
a_function n = refl

module _ (table : List element.Kind) (named : List ℕ) where
  abbrev pub once_in : ℕ → Bool
  once_in i = if is_function (kinds_in table i) then eqb (get_or named i 0) 1 else true

  pub once_none : (i : ℕ) → ((n : ℕ) → get_or table i kind.Missing ≡ kind.Function n → ⊥) → once_in i ≡ true
  unfolding kinds_in
  once_none i h = rw (function_no (get_or table i kind.Missing) h) refl

  module _ (i n : ℕ) (is : get_or table i kind.Missing ≡ kind.Function n) where
    pub once_yes : get_or named i 0 ≡ 1 → once_in i ≡ true
    unfolding kinds_in
    once_yes e = rw (is, a_function n, eq-eqb _ _ e) refl

    pub once_no : (get_or named i 0 ≡ 1 → ⊥) → once_in i ≡ false
    unfolding kinds_in
    once_no e = rw (is, a_function n, ne_eqb _ _ e) refl

  module _ (code : List ℕ) where
    abbrev is : List Instruction
    is = instructions (from (kinds_in table) code 0 0)

    pub counted_once : Counted (kinds_in table) code named → all_below 256 once_in ≡ all_below 256 (closed_by (kinds_in table) is)
    unfolding closed_by
    counted_once c = below_same 256 _ _ (λ i l. rw (c.counts i l) refl)
