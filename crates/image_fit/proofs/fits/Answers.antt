-- `fits` meets its contract.
use mathlib.Core.Path.{◌≡◌, refl, sym, ◌∙◌}
use mathlib.Core.Logic.{◌⊎◌, ⊎_elim}
use mathlib.Core.Bool.{true}
use Prim.Native.Nat.{◌+◌, ◌-◌, ◌*◌}
use native.Mathlib.Omega.{arith}
use Rattle.image_code.proofs.Fitting.{has_operand, value_yes, value_no, text_yes, text_no, function_no, fits_unknown, fits_any, two_wide, fits_captured, fits_value, fits_text, fits_none, pairs_room, fits_pairs}
use Rattle.image_code.specs.declared.Form.{Form}
use Rattle.image_code.specs.declared.Form.TheVariants as variant
use Rattle.image_fit.proofs.fits.Goals as goal

text_operand : (f : Form) → (f ≡ variant.Text) ⊎ (f ≡ variant.Invoke) → has_operand f ≡ true
unfolding has_operand
text_operand f h = ⊎_elim (λ (e : f ≡ variant.Text). rw e refl) (λ (e : f ≡ variant.Invoke). rw e refl) h

pub returns-in_default : goal.returns-in_default
returns-in_default c =
    fits_unknown c.args.kinds.now c.args.code.now c.args.at c.args.upvalues (sym c.in_default.is ∙ c.form_of.ensures)

pub bounds-code-at-in-Captured : goal.bounds-code-at-in-Captured
unfolding has_operand
bounds-code-at-in-Captured c =
    let w = two_wide c.args.kinds.now c.args.code.now c.args.at c.args.upvalues c.in-Some.form (sym c.in-Some.is ∙ c.form_of.ensures) (rw c.in-Captured.is refl) c.requires.at_in_bounds.1 in
    omega (arith, w, c.requires.code_in_bounds)

pub bounds-code-at-in-Value : goal.bounds-code-at-in-Value
unfolding has_operand
bounds-code-at-in-Value c =
    let w = two_wide c.args.kinds.now c.args.code.now c.args.at c.args.upvalues c.in-Some.form (sym c.in-Some.is ∙ c.form_of.ensures) (rw c.in-Value.is refl) c.requires.at_in_bounds.1 in
    omega (arith, w, c.requires.code_in_bounds)

pub bounds-code-at-in-Text : goal.bounds-code-at-in-Text
unfolding has_operand
bounds-code-at-in-Text c =
    let w = two_wide c.args.kinds.now c.args.code.now c.args.at c.args.upvalues c.in-Some.form (sym c.in-Some.is ∙ c.form_of.ensures) (text_operand c.in-Some.form c.in-Text.is) c.requires.at_in_bounds.1 in
    omega (arith, w, c.requires.code_in_bounds)

pub bounds-code-at-in-Closure : goal.bounds-code-at-in-Closure
unfolding has_operand
bounds-code-at-in-Closure c =
    let w = two_wide c.args.kinds.now c.args.code.now c.args.at c.args.upvalues c.in-Some.form (sym c.in-Some.is ∙ c.form_of.ensures) (rw c.in-Closure.is refl) c.requires.at_in_bounds.1 in
    omega (arith, w, c.requires.code_in_bounds)

pub returns-in_default-kinds : goal.returns-in_default-kinds
unfolding has_operand
returns-in_default-kinds c =
    fits_none c.args.kinds.now c.args.code.now c.args.at c.args.upvalues c.in-Some.form (sym c.in-Some.is ∙ c.form_of.ensures) (two_wide c.args.kinds.now c.args.code.now c.args.at c.args.upvalues c.in-Some.form (sym c.in-Some.is ∙ c.form_of.ensures) (rw c.in-Closure.is refl) c.requires.at_in_bounds.1)
    _ refl c.in-Closure.is (function_no _ c.in_default-kinds.not-Function)

pub slice_bounds-pairs-end : goal.slice_bounds-pairs-end
unfolding has_operand
slice_bounds-pairs-end c =
    let r = pairs_room c.args.kinds.now c.args.code.now c.args.at c.args.upvalues c.in-Some.form (sym c.in-Some.is ∙ c.form_of.ensures) (two_wide c.args.kinds.now c.args.code.now c.args.at c.args.upvalues c.in-Some.form (sym c.in-Some.is ∙ c.form_of.ensures) (rw c.in-Closure.is refl) c.requires.at_in_bounds.1)
    _ refl c.in-Function.captured c.in-Closure.is c.in-Function.is c.requires.code_in_bounds in
    omega (arith, r)

pub returns-in-Plain : goal.returns-in-Plain
returns-in-Plain c =
    fits_any c.args.kinds.now c.args.code.now c.args.at c.args.upvalues c.in-Some.form (sym c.in-Some.is ∙ c.form_of.ensures) c.in-Plain.is

pub returns-in-Captured : goal.returns-in-Captured
unfolding has_operand
returns-in-Captured c =
    fits_captured c.args.kinds.now c.args.code.now c.args.at c.args.upvalues c.in-Some.form (sym c.in-Some.is ∙ c.form_of.ensures) (two_wide c.args.kinds.now c.args.code.now c.args.at c.args.upvalues c.in-Some.form (sym c.in-Some.is ∙ c.form_of.ensures) (rw c.in-Captured.is refl) c.requires.at_in_bounds.1) c.in-Captured.is

pub returns-in-Number : goal.returns-in-Number
unfolding has_operand
returns-in-Number c =
    value_yes _ c.in-Number.is ∙ fits_value c.args.kinds.now c.args.code.now c.args.at c.args.upvalues c.in-Some.form (sym c.in-Some.is ∙ c.form_of.ensures) (two_wide c.args.kinds.now c.args.code.now c.args.at c.args.upvalues c.in-Some.form (sym c.in-Some.is ∙ c.form_of.ensures) (rw c.in-Value.is refl) c.requires.at_in_bounds.1) _ refl c.in-Value.is

pub returns-in_default-matches : goal.returns-in_default-matches
unfolding has_operand
returns-in_default-matches c =
    value_no _ c.in_default-matches.not-Number c.in_default-matches.not-Text ∙ fits_value c.args.kinds.now c.args.code.now c.args.at c.args.upvalues c.in-Some.form (sym c.in-Some.is ∙ c.form_of.ensures) (two_wide c.args.kinds.now c.args.code.now c.args.at c.args.upvalues c.in-Some.form (sym c.in-Some.is ∙ c.form_of.ensures) (rw c.in-Value.is refl) c.requires.at_in_bounds.1) _ refl c.in-Value.is

pub returns-in-Text-matches : goal.returns-in-Text-matches
unfolding has_operand
returns-in-Text-matches c =
    text_yes _ c.in-Text-matches.is ∙ fits_text c.args.kinds.now c.args.code.now c.args.at c.args.upvalues c.in-Some.form (sym c.in-Some.is ∙ c.form_of.ensures) (two_wide c.args.kinds.now c.args.code.now c.args.at c.args.upvalues c.in-Some.form (sym c.in-Some.is ∙ c.form_of.ensures) (text_operand c.in-Some.form c.in-Text.is) c.requires.at_in_bounds.1) _ refl c.in-Text.is

pub returns-in_default-matches-2 : goal.returns-in_default-matches-2
unfolding has_operand
returns-in_default-matches-2 c =
    text_no _ c.in_default-matches-2.not-Text ∙ fits_text c.args.kinds.now c.args.code.now c.args.at c.args.upvalues c.in-Some.form (sym c.in-Some.is ∙ c.form_of.ensures) (two_wide c.args.kinds.now c.args.code.now c.args.at c.args.upvalues c.in-Some.form (sym c.in-Some.is ∙ c.form_of.ensures) (text_operand c.in-Some.form c.in-Text.is) c.requires.at_in_bounds.1) _ refl c.in-Text.is

pub returns-in-Function : goal.returns-in-Function
unfolding has_operand
returns-in-Function c =
    let m : c.args.at + 2 + 2 * c.in-Function.captured - (c.args.at + 2) ≡ 2 * c.in-Function.captured = omega arith in
    rw m at c.pairs.ensures ∙ fits_pairs c.args.kinds.now c.args.code.now c.args.at c.args.upvalues c.in-Some.form (sym c.in-Some.is ∙ c.form_of.ensures) (two_wide c.args.kinds.now c.args.code.now c.args.at c.args.upvalues c.in-Some.form (sym c.in-Some.is ∙ c.form_of.ensures) (rw c.in-Closure.is refl) c.requires.at_in_bounds.1)
    _ refl c.in-Function.captured c.in-Closure.is c.in-Function.is
