-- Laws of the walk over one function's code.
use mathlib.Core.Path.{◌≡◌, refl, sym, ap, ◌∙◌}
use mathlib.Core.Bool.{Bool, true, false, ◌||◌}
use mathlib.Core.Option.{Option, none, some}
use mathlib.Core.List.{List, ◌∷◌, map, []}
use Prim.Native.Nat.{ℕ, zero, suc, ◌+◌, ◌-◌, ◌*◌, ◌<◌, ◌≤◌}
use native.Mathlib.Omega.{arith}
use lib.ListN.{length, get_or, take, drop, get_elem?}
use lib.Dec.{eqb}
use borrow.Author.Tests.{eq-eqb, ne_eqb, eqb-true, eqb-false}
use Rattle.rules.specs.Op as Op
use Rattle.rules.specs.Chunk.{Constant, CS, same_constant}
use Rattle.rules.specs.Division.{Kind, Instruction, followed_by}
use Rattle.rules.proofs.Computes as rules
use Rattle.rules.specs.Touch.{names_global, is_string, touches}
use Rattle.std.proofs.Common.{Some, None}
use Rattle.std.proofs.Common.{Option as Told}
use Rattle.image_records.proofs.Many.{none_some}
use Rattle.image_code.specs.declared.Form.TheVariants as variant
use Rattle.image_code.specs.declared.Kind as element
use Rattle.image_code.specs.Forms.{form, form_of, width}
use Rattle.image_code.specs.Table.{kinds_in, instruction_at, from, instructions, is_some}
use Rattle.image_code.proofs.Steps.{passed, ended, has_width, no_true}
use Rattle.image_code.proofs.Turns.{begins, goes_on, fits_in}
use Rattle.image_code.proofs.Fitting.{has_operand, two_wide, first_is}
use Rattle.image_records.specs.Told.{word_of}
use Rattle.image_constants.specs.Words.{constant_of, constants_of}
use Rattle.image_constants.proofs.Words.{constant_back, same_words}
use Rattle.image_touch.specs.Walked.{of_function, walked}

-- ## The opcodes

module _ (op : ℕ) where
  -- an operand follows
  by_test : (a b c : Bool) → eqb op Op.GET_GLOBAL ≡ a → eqb op Op.SET_GLOBAL ≡ b → eqb op Op.DEFINE_GLOBAL ≡ c → (a || (b || c)) ≡ true
      → form_of op ≡ Some variant.Text
  unfolding rules.op form form_of
  by_test true b c e f g t = let q : op ≡ Op.GET_GLOBAL = eqb-true _ _ e in rw q refl
  by_test false true c e f g t = let q : op ≡ Op.SET_GLOBAL = eqb-true _ _ f in rw q refl
  by_test false false true e f g t = let q : op ≡ Op.DEFINE_GLOBAL = eqb-true _ _ g in rw q refl
  by_test false false false e f g t = absurd (no_true t)

  pub global_form : names_global op ≡ true → form_of op ≡ Some variant.Text
  unfolding names_global
  global_form t = by_test _ _ _ refl refl refl t

-- ## The constants that words stand for

elem_taken : (n : ℕ) (words : List ℕ) (p : ℕ) → p < n → p < length words → get_elem? (map constant_of (take n words)) p ≡ some (constant_of (get_or words p 0))
elem_taken zero words p h l = absurd (omega arith)
elem_taken (suc n) [] p h l = absurd (omega arith)
elem_taken (suc n) (w ∷ words) zero h l = refl
elem_taken (suc n) (w ∷ words) (suc p) h l = elem_taken n words p (omega arith) (omega arith)

elem_past : (n : ℕ) (words : List ℕ) (p : ℕ) → n ≤ p → get_elem? (map constant_of (take n words)) p ≡ none
elem_past zero words p h = refl
elem_past (suc n) [] p h = refl
elem_past (suc n) (w ∷ words) zero h = absurd (omega arith)
elem_past (suc n) (w ∷ words) (suc p) h = elem_past n words p (omega arith)

same_either : (a b : ℕ) (t : Bool) → eqb a b ≡ t → eqb b a ≡ t
same_either a b true e = eq-eqb b a (sym (eqb-true a b e))
same_either a b false e = ne_eqb b a (λ q. eqb-false a b e (sym q))

module _ (words : List ℕ) (name place : ℕ) where
  abbrev n : ℕ
  n = length words

  string_there : place < n → is_string name (get_elem? (constants_of n words) place) ≡ eqb (get_or words place 0) (4 * name + 1)
  unfolding constants_of is_string word_of
  string_there h =
      ap (is_string name) (elem_taken n words place h h) ∙
      ap (λ (c : Constant). same_constant c (constant_of (get_or words place 0))) (sym (constant_back (CS name))) ∙
      same_words (4 * name + 1) (get_or words place 0) ∙ sym (same_either (4 * name + 1) (get_or words place 0) _ refl)

  string_past : n ≤ place → is_string name (get_elem? (constants_of n words) place) ≡ false
  unfolding constants_of is_string
  string_past h = ap (is_string name) (elem_past n words place h)

-- ## One instruction

module _ (code : List ℕ) (table : List element.Kind) (words : List ℕ) (at name : ℕ) where
  abbrev kind : ℕ → Kind
  kind = kinds_in table

  abbrev op : ℕ
  op = get_or code at 0

  abbrev asked : Bool
  asked = touches name (of_function (constants_of (length words) words) (instruction_at kind code at))

  pub other_op : names_global op ≡ false → false ≡ asked
  unfolding touches instruction_at
  other_op e = rw e refl

  module _ (g : names_global op ≡ true) (has : 0 < width kind op (drop (at + 1) code)) where
    two : 2 ≤ width kind op (drop (at + 1) code)
    unfolding has_operand
    two = two_wide table code at 0 variant.Text (sym (global_form op g)) refl has

    pub operand_within : at + width kind op (drop (at + 1) code) ≤ length code → at + 1 < length code
    operand_within w = let t = two in omega arith

    abbrev place : ℕ
    place = get_or code (at + 1) 0

    asked_is : asked ≡ is_string name (get_elem? (constants_of (length words) words) place)
    unfolding touches instruction_at
    asked_is = rw (g, first_is table code at 0 variant.Text (sym (global_form op g)) two) refl

    pub past_constants : length words ≤ place → false ≡ asked
    past_constants h = sym (asked_is ∙ string_past words name place h)

    pub by_word : place < length words → eqb (get_or words place 0) (4 * name + 1) ≡ asked
    by_word h = sym (asked_is ∙ string_there words name place h)

-- ## The walk

module _ (kind : ℕ → Kind) (code : List ℕ) where
  pub all_passed : (at skip : ℕ) → at + skip ≤ length code → from kind code at skip ≡ from kind code (at + skip) 0
  all_passed at zero h = let e : at + 0 ≡ at = omega arith in rw e refl
  all_passed at (suc skip) h =
      let e : at + 1 + skip ≡ at + suc skip = omega arith in
      passed kind code at (suc skip) skip (omega arith) refl ∙ all_passed (at + 1) skip (omega arith) ∙ ap (λ (p : ℕ). from kind code p 0) e

onto_is : (i : Instruction) (r : Option (List Instruction)) → is_some r ≡ true → instructions (followed_by i r) ≡ i ∷ instructions r
unfolding is_some instructions followed_by
onto_is i none h = absurd (no_true h)
onto_is i (some is) h = refl

module _ (name : ℕ) (constants : List Constant) (i : Instruction) (is : List Instruction) (read : ℕ) where
  walked_hit : touches name (of_function constants i) ≡ true → walked name read constants (i ∷ is) ≡ record { at = Some i.at; read = read + 1 }
  unfolding walked
  walked_hit e = rw e refl

  walked_on : touches name (of_function constants i) ≡ false → walked name read constants (i ∷ is) ≡ walked name (read + 1) constants is
  unfolding walked
  walked_on e = rw e refl

-- `read` instructions were read up to `at`, of those before `before`
pub record Walking (name before : ℕ) (constants : List Constant) (kind : ℕ → Kind) (code : List ℕ) (at read : ℕ) : Type 0 where
  pub within : at ≤ length code
  pub few : read ≤ before + at
  pub divides : is_some (from kind code at 0) ≡ true
  pub left : walked name before constants (instructions (from kind code 0 0)) ≡ walked name read constants (instructions (from kind code at 0))

module _ (name before : ℕ) (constants : List Constant) (kind : ℕ → Kind) (code : List ℕ) where
  pub walk_begin : is_some (from kind code 0 0) ≡ true → Walking name before constants kind code 0 before
  walk_begin d = record { within = omega arith; few = omega arith; divides = d; left = refl }

  module _ (at read : ℕ) (g : Walking name before constants kind code at read) where
    module _ (w : ℕ) (h : at < length code) (e : w ≡ width kind (get_or code at 0) (drop (at + 1) code)) where
      pub walk_width : 0 < w
      walk_width = has_width kind code at w h e g.divides

      pub walk_fits : at + w ≤ length code
      walk_fits = fits_in kind code at 0 w refl h e g.divides

      rest_is : from kind code (at + 1) (w - 1) ≡ from kind code (at + w) 0
      rest_is =
          let p = walk_width in
          let f = walk_fits in
          let m : at + 1 + (w - 1) ≡ at + w = omega arith in
          all_passed kind code (at + 1) (w - 1) (omega arith) ∙ ap (λ (q : ℕ). from kind code q 0) m

      goes : is_some (from kind code (at + w) 0) ≡ true
      goes =
          let p = walk_width in
          ap is_some (sym rest_is) ∙ goes_on kind code at 0 w (w - 1) refl h e (omega arith) g.divides

      these : instructions (from kind code at 0) ≡ instruction_at kind code at ∷ instructions (from kind code (at + w) 0)
      these =
          let p = walk_width in
          ap instructions (begins kind code at 0 w (w - 1) refl h e (omega arith) ∙ ap (followed_by (instruction_at kind code at)) rest_is) ∙
          onto_is (instruction_at kind code at) (from kind code (at + w) 0) goes

      pub walk_hit : true ≡ touches name (of_function constants (instruction_at kind code at))
          → record { at = Some at; read = read + 1 } ≡ walked name before constants (instructions (from kind code 0 0))
      unfolding instruction_at
      walk_hit t = sym (g.left ∙ ap (walked name read constants) these ∙ walked_hit name constants _ _ read (sym t))

      pub walk_on : false ≡ touches name (of_function constants (instruction_at kind code at)) → Walking name before constants kind code (at + w) (read + 1)
      walk_on t =
          let p = walk_width in
          record {
            within = walk_fits;
            few = omega (arith, g.few);
            divides = goes;
            left = g.left ∙ ap (walked name read constants) these ∙ walked_on name constants _ _ read (sym t);
          }

    pub walk_done : length code ≤ at → record { at = None; read = read } ≡ walked name before constants (instructions (from kind code 0 0))
    unfolding walked instructions
    walk_done h =
        sym (g.left ∙ ap (λ (r : Option (List Instruction)). walked name read constants (instructions r)) (ended kind code at (omega (arith, g.within))))

-- ## Where it ended

pub walk_place : (at bound : ℕ) → at ≤ bound → (place : ℕ) → ◌≡◌ {A = Told ℕ} (Some at) (Some place) → place ≤ bound
walk_place at bound h place e = let q : at ≡ place = cc in omega arith

pub walk_nowhere : (bound : ℕ) (place : ℕ) → ◌≡◌ {A = Told ℕ} None (Some place) → place ≤ bound
walk_nowhere bound place e = absurd (none_some e)
