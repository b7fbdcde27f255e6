-- Laws of an instruction's operands.
use mathlib.Core.Path.{◌≡◌, refl, sym, ◌∙◌}
use mathlib.Core.Bool.{Bool, true, false}
use mathlib.Core.List.{List, ◌∷◌, []}
use Prim.Native.Nat.{ℕ, zero, suc, ◌+◌, ◌-◌, ◌*◌, ◌<◌, ◌≤◌}
use native.Mathlib.Omega.{arith}
use lib.ListN.{length, get_or, take, drop}
use lib.Dec.{ltb}
use lib.Seq.{get_or-drop, get_or-take, drop-drop}
use Rattle.rules.specs.Division.{Kind, missing, number, text, function, fit, operands_fit, pairs_fit, is_value, is_text, is_function}
use Rattle.image_code.specs.Forms.{operands_by, form_of, width, width_by}
use Rattle.image_code.proofs.Computes.{computes}
use Rattle.image_code.proofs.Steps.{no_true}
use Rattle.image_code.specs.Table.{kind_of, kinds_in, instruction_at}
use Rattle.image_code.specs.declared.Form.{Form}
use Rattle.image_code.specs.declared.Form.TheVariants as variant
use Rattle.image_code.specs.declared.Kind as element
use Rattle.std.specs.Prelude.{Some, None}
use mathlib.Core.Logic.{◌⊎◌, ⊎_elim}
use Rattle.image_code.specs.declared.Kind.TheVariants as kind

-- the forms whose instructions have an operand: all but one
unfoldable pub has_operand : Form → Bool
has_operand variant.Plain = false
has_operand variant.Byte = true
has_operand variant.Captured = true
has_operand variant.Value = true
has_operand variant.Text = true
has_operand variant.Invoke = true
has_operand variant.Ahead = true
has_operand variant.Back = true
has_operand variant.Closure = true

wide_two : (f : Form) (k : Kind) → has_operand f ≡ true → 0 < width_by (Some f) k → 2 ≤ width_by (Some f) k
unfolding computes has_operand
wide_two variant.Plain k l h = absurd (no_true l)
wide_two variant.Byte k l h = omega arith
wide_two variant.Captured k l h = omega arith
wide_two variant.Value k l h = omega arith
wide_two variant.Text k l h = omega arith
wide_two variant.Invoke k l h = omega arith
wide_two variant.Ahead k l h = omega arith
wide_two variant.Back k l h = omega arith
wide_two variant.Closure missing l h = absurd (omega arith)
wide_two variant.Closure number l h = absurd (omega arith)
wide_two variant.Closure text l h = absurd (omega arith)
wide_two variant.Closure (function n) l h = omega arith

pub value_yes : (k : element.Kind) → (k ≡ kind.Number) ⊎ (k ≡ kind.Text) → true ≡ is_value (kind_of k)
unfolding kind_of is_value
value_yes k h = ⊎_elim (λ (e : k ≡ kind.Number). rw e refl) (λ (e : k ≡ kind.Text). rw e refl) h

pub value_no : (k : element.Kind) → (k ≡ kind.Number → ⊥) → (k ≡ kind.Text → ⊥) → false ≡ is_value (kind_of k)
unfolding kind_of is_value
value_no kind.Missing n t = refl
value_no kind.Number n t = absurd (n refl)
value_no kind.Text n t = absurd (t refl)
value_no (kind.Function m) n t = refl

pub text_yes : (k : element.Kind) → k ≡ kind.Text → true ≡ is_text (kind_of k)
unfolding kind_of is_text
text_yes k e = rw e refl

pub text_no : (k : element.Kind) → (k ≡ kind.Text → ⊥) → false ≡ is_text (kind_of k)
unfolding kind_of is_text
text_no kind.Missing t = refl
text_no kind.Number t = refl
text_no kind.Text t = absurd (t refl)
text_no (kind.Function m) t = refl

pub function_no : (k : element.Kind) → ((n : ℕ) → k ≡ kind.Function n → ⊥) → is_function (kind_of k) ≡ false
unfolding kind_of is_function
function_no kind.Missing h = refl
function_no kind.Number h = refl
function_no kind.Text h = refl
function_no (kind.Function n) h = absurd (h n refl)

drop_one : (m : ℕ) (l : List ℕ) → drop 1 (take (suc m) l) ≡ take m (drop 1 l)
drop_one zero [] = refl
drop_one (suc m) [] = refl
drop_one zero (x ∷ l) = refl
drop_one (suc m) (x ∷ l) = refl

-- no instruction: nothing is asked
pub fits_unknown : (table : List element.Kind) (code : List ℕ) (at u : ℕ) → None ≡ form_of (get_or code at 0)
    → true ≡ operands_fit (kinds_in table) u (instruction_at (kinds_in table) code at)
unfolding instruction_at operands_fit computes fit
fits_unknown table code at u e = rw (← e) refl

module _ (table : List element.Kind) (code : List ℕ) (at u : ℕ) (f : Form) (known : Some f ≡ form_of (get_or code at 0)) where
  abbrev w : ℕ
  w = width (kinds_in table) (get_or code at 0) (drop (at + 1) code)

  abbrev bytes : List ℕ
  bytes = take (w - 1) (drop (at + 1) code)

  abbrev verdict : Bool
  verdict = operands_fit (kinds_in table) u (instruction_at (kinds_in table) code at)

  verdict_is : verdict ≡ fit (kinds_in table) u (operands_by (Some f)) bytes
  unfolding instruction_at operands_fit
  verdict_is = rw known refl

  pub two_wide : has_operand f ≡ true → 0 < w → 2 ≤ w
  unfolding width
  two_wide l h = rw (← known) (wide_two f _ l (rw (← known) at h))

  -- nothing is asked of what follows
  pub fits_any : (f ≡ variant.Plain) ⊎ ((f ≡ variant.Byte) ⊎ ((f ≡ variant.Ahead) ⊎ (f ≡ variant.Back))) → true ≡ verdict
  unfolding computes fit
  fits_any h =
      ⊎_elim (λ (e : f ≡ variant.Plain). sym (verdict_is ∙ rw e refl))
      (λ (r : (f ≡ variant.Byte) ⊎ ((f ≡ variant.Ahead) ⊎ (f ≡ variant.Back))).
      ⊎_elim (λ (e : f ≡ variant.Byte). sym (verdict_is ∙ rw e refl))
      (λ (t : (f ≡ variant.Ahead) ⊎ (f ≡ variant.Back)).
      ⊎_elim (λ (e : f ≡ variant.Ahead). sym (verdict_is ∙ rw e refl)) (λ (e : f ≡ variant.Back). sym (verdict_is ∙ rw e refl)) t) r) h

  module _ (two : 2 ≤ w) where
    pub first_is : get_or bytes 0 0 ≡ get_or code (at + 1) 0
    first_is =
        let e : at + 1 + 0 ≡ at + 1 = omega arith in
        get_or-take (w - 1) (drop (at + 1) code) 0 0 (omega arith) ∙ get_or-drop (at + 1) code 0 0 ∙ rw e refl

    pub fits_captured : f ≡ variant.Captured → ltb (get_or code (at + 1) 0) u ≡ verdict
    unfolding computes fit
    fits_captured e = sym (verdict_is ∙ rw (e, first_is) refl)

    module _ (k : element.Kind) (is-kind : k ≡ get_or table (get_or code (at + 1) 0) kind.Missing) where
      kind_is : kinds_in table (get_or bytes 0 0) ≡ kind_of k
      unfolding kinds_in
      kind_is = rw (first_is, is-kind) refl

      pub fits_value : f ≡ variant.Value → is_value (kind_of k) ≡ verdict
      unfolding computes fit
      fits_value e = sym (verdict_is ∙ rw (e, kind_is) refl)

      pub fits_text : (f ≡ variant.Text) ⊎ (f ≡ variant.Invoke) → is_text (kind_of k) ≡ verdict
      unfolding computes fit
      fits_text h =
          ⊎_elim (λ (e : f ≡ variant.Text). sym (verdict_is ∙ rw (e, kind_is) refl))
          (λ (e : f ≡ variant.Invoke). sym (verdict_is ∙ rw (e, kind_is) refl)) h

      pub fits_none : f ≡ variant.Closure → is_function (kind_of k) ≡ false → false ≡ verdict
      unfolding computes fit
      fits_none e h = sym (verdict_is ∙ rw (e, kind_is, h) refl)

      kind_start : kinds_in table (get_or (drop (at + 1) code) 0 0) ≡ kind_of k
      unfolding kinds_in
      kind_start = let e : at + 1 + 0 ≡ at + 1 = omega arith in rw (get_or-drop (at + 1) code 0 0, e, is-kind) refl

      module _ (n : ℕ) (e : f ≡ variant.Closure) (m : k ≡ kind.Function n) where
        closure_wide : w ≡ 2 + 2 * n
        unfolding computes width kind_of
        closure_wide = rw (← known, e, kind_start, m) (omega arith)

        pub pairs_room : at + w ≤ length code → at + 2 + 2 * n ≤ length code
        pairs_room h = let q = closure_wide in omega arith

        pub fits_pairs : pairs_fit u (take (2 * n) (drop (at + 2) code)) ≡ verdict
        unfolding computes fit kind_of is_function
        fits_pairs =
            let q : w - 1 ≡ suc (2 * n) = (let v = closure_wide in omega arith) in
            let p : at + 1 + 1 ≡ at + 2 = omega arith in
            sym (verdict_is ∙ rw (e, kind_is, m, q, drop_one (2 * n) (drop (at + 1) code), drop-drop 1 (at + 1) code, p) refl)
