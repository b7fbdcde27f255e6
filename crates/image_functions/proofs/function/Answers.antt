-- `function` meets its contract.
use native.Mathlib.Omega.{arith}
use mathlib.Core.Path.{refl, sym, ◌∙◌}
use Rattle.image_constants.proofs.Kinding.{earlier_number}
use Rattle.image_functions.proofs.One.{headless, header_within, constants_bad, constants_are, runs_bad, runs_are, function_judged}
use Rattle.image_code.proofs.Closing.{blank}
use Rattle.image_code.specs.declared.Kind.TheVariants as variant
use Rattle.image_functions.proofs.function.Goals as goal

pub returns-in_err-h : goal.returns-in_err-h
returns-in_err-h c =
    rw c.from_residual.ensures (headless c.args.known.now.s.now c.args.known.now.k c.args.at (sym c.in_err-h.was ∙ c.head_of.ensures))

pub overflow_add-at : goal.overflow_add-at
overflow_add-at c =
    let w = header_within c.args.known.now.s.now c.args.known.now.k c.args.at c.in_ok-h.h (sym c.in_ok-h.was ∙ c.head_of.ensures) in
    omega (arith, w, c.well_formed)

pub constants_right-requires-clause-kinds_len : goal.constants_right-requires-clause-kinds_len
constants_right-requires-clause-kinds_len c = λ p. blank 256 p variant.Missing

pub returns-in_err-runs_at : goal.returns-in_err-runs_at
returns-in_err-runs_at c =
    rw c.from_residual-in_err-runs_at.ensures
    (constants_bad c.args.known.now.s.now c.args.known.now.k c.args.at c.in_ok-h.h (sym c.in_ok-h.was ∙ c.head_of.ensures) (earlier_number c.args.known.now.s.now c.args.known.now.k c.args.known.now.there)
    _ refl (sym c.in_err-runs_at.was ∙ c.constants_right.ensures.told))

pub returns-in_err-sum : goal.returns-in_err-sum
returns-in_err-sum c =
    rw c.from_residual-in_err-sum.ensures
    (runs_bad c.args.known.now.s.now c.args.known.now.k c.args.at c.in_ok-h.h (sym c.in_ok-h.was ∙ c.head_of.ensures) (earlier_number c.args.known.now.s.now c.args.known.now.k c.args.known.now.there)
    c.in_ok-runs_at.runs_at (constants_are c.args.known.now.s.now c.args.known.now.k c.args.at c.in_ok-h.h (sym c.in_ok-h.was ∙ c.head_of.ensures) (earlier_number c.args.known.now.s.now c.args.known.now.k c.args.known.now.there) c.in_ok-runs_at.runs_at _ refl (sym c.in_ok-runs_at.was ∙ c.constants_right.ensures.told)) _ refl (sym c.in_err-sum.was ∙ c.runs.ensures))

pub returns : goal.returns
returns c =
    function_judged c.args.known.now.s.now c.args.known.now.k c.args.at c.in_ok-h.h (sym c.in_ok-h.was ∙ c.head_of.ensures) (earlier_number c.args.known.now.s.now c.args.known.now.k c.args.known.now.there)
    c.in_ok-runs_at.runs_at (constants_are c.args.known.now.s.now c.args.known.now.k c.args.at c.in_ok-h.h (sym c.in_ok-h.was ∙ c.head_of.ensures) (earlier_number c.args.known.now.s.now c.args.known.now.k c.args.known.now.there) c.in_ok-runs_at.runs_at _ refl (sym c.in_ok-runs_at.was ∙ c.constants_right.ensures.told))
    c.in_ok-sum.sum c.in_ok-sum.code_at
    (runs_are c.args.known.now.s.now c.args.known.now.k c.args.at c.in_ok-h.h (sym c.in_ok-h.was ∙ c.head_of.ensures) (earlier_number c.args.known.now.s.now c.args.known.now.k c.args.known.now.there)
    c.in_ok-runs_at.runs_at (constants_are c.args.known.now.s.now c.args.known.now.k c.args.at c.in_ok-h.h (sym c.in_ok-h.was ∙ c.head_of.ensures) (earlier_number c.args.known.now.s.now c.args.known.now.k c.args.known.now.there) c.in_ok-runs_at.runs_at _ refl (sym c.in_ok-runs_at.was ∙ c.constants_right.ensures.told))
    c.in_ok-sum.sum c.in_ok-sum.code_at _ refl (sym c.in_ok-sum.was ∙ c.runs.ensures))
    c.args.known.now.bytes _
    (c.constants_right.ensures.table (constants_are c.args.known.now.s.now c.args.known.now.k c.args.at c.in_ok-h.h (sym c.in_ok-h.was ∙ c.head_of.ensures) (earlier_number c.args.known.now.s.now c.args.known.now.k c.args.known.now.there) c.in_ok-runs_at.runs_at _ refl (sym c.in_ok-runs_at.was ∙ c.constants_right.ensures.told)).cs c.in_ok-runs_at.runs_at (constants_are c.args.known.now.s.now c.args.known.now.k c.args.at c.in_ok-h.h (sym c.in_ok-h.was ∙ c.head_of.ensures) (earlier_number c.args.known.now.s.now c.args.known.now.k c.args.known.now.there) c.in_ok-runs_at.runs_at _ refl (sym c.in_ok-runs_at.was ∙ c.constants_right.ensures.told)).are c.in_ok-runs_at.was)
    c.code_right.result _ _ refl refl c.code_right.ensures.value c.code_right.ensures.by_index
