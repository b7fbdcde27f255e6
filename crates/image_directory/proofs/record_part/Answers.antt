-- `record_part` meets its contract.
use native.Mathlib.Omega.{arith}
use mathlib.Core.Path.{refl, sym, ◌∙◌}
use Rattle.image_directory.proofs.Parts.{headless, endless, code_before_end, part_told}
use Rattle.image_directory.proofs.record_part.Goals as goal

pub returns-in_default : goal.returns-in_default
returns-in_default c = c.refused.ensures ∙ headless c.args.image.now c.args.at (sym c.in_default.is ∙ c.head_of.ensures)

pub returns-in_default-skip_function : goal.returns-in_default-skip_function
returns-in_default-skip_function c =
    c.refused-in_default-skip_function.ensures ∙ endless c.args.image.now c.args.at (sym c.in_default-skip_function.is ∙ c.skip_function.ensures)

pub overflow_sub-result : goal.overflow_sub-result
overflow_sub-result c =
    omega (arith, code_before_end c.args.image.now c.args.at _ (sym c.in-Some.is ∙ c.head_of.ensures) _ (sym c.in-Some-skip_function.is ∙ c.skip_function.ensures))

pub returns : goal.returns
returns c =
    part_told c.args.image.now c.args.at c.in-Some.h (sym c.in-Some.is ∙ c.head_of.ensures) _
    (sym c.in-Some-skip_function.is ∙ c.skip_function.ensures) _ _ refl refl
