-- `code_right` meets its contract.
use Prim.Native.Nat.{◌+◌, ◌-◌}
use native.Mathlib.Omega.{arith}
use mathlib.Core.Path.{refl, sym, ◌∙◌}
use Rattle.image_code.specs.Table.{kinds_in}
use Rattle.image_functions.proofs.One.{code_none, code_within, code_other, code_refused, code_counted, code_few, part_wide}
use Rattle.image_functions.proofs.code_right.Goals as goal

pub returns-in_err-first-clause-value : goal.returns-in_err-first-clause-value
returns-in_err-first-clause-value c =
    c.from_residual.ensures ∙ code_none c.args.s.now (kinds_in c.args.kinds.now) c.args.upvalues
    c.args.sum c.args.size c.args.at (sym c.in_err-first.was ∙ c.code_at.ensures)

pub returns-then-sum-size-clause-value : goal.returns-then-sum-size-clause-value
returns-then-sum-size-clause-value c = code_other c.args.s.now (kinds_in c.args.kinds.now) c.args.upvalues
    c.args.sum c.args.size c.args.at c.in_ok-first.first (sym c.in_ok-first.was ∙ c.code_at.ensures) c.if-sum-size.true

pub overflow_add-end : goal.overflow_add-end
overflow_add-end c =
    let w = code_within c.args.s.now (kinds_in c.args.kinds.now) c.args.upvalues
    c.args.sum c.args.size c.args.at c.in_ok-first.first (sym c.in_ok-first.was ∙ c.code_at.ensures) in
    omega (arith, w, c.well_formed)

pub slice_bounds-code_fits-end : goal.slice_bounds-code_fits-end
slice_bounds-code_fits-end c =
    let w = code_within c.args.s.now (kinds_in c.args.kinds.now) c.args.upvalues
    c.args.sum c.args.size c.args.at c.in_ok-first.first (sym c.in_ok-first.was ∙ c.code_at.ensures) in
    omega (arith, w)

pub code_fits-requires : goal.code_fits-requires
code_fits-requires c = part_wide c.args.s.now c.in_ok-first.first (c.in_ok-first.first + c.args.size - c.in_ok-first.first) _ c.requires

pub returns-in_err-n-clause-value : goal.returns-in_err-n-clause-value
returns-in_err-n-clause-value c =
    c.from_residual-in_err-n.ensures ∙ code_refused c.args.s.now (kinds_in c.args.kinds.now) c.args.upvalues
    c.args.sum c.args.size c.args.at c.in_ok-first.first (sym c.in_ok-first.was ∙ c.code_at.ensures) (c.if-sum-size.false)
    (c.in_ok-first.first + c.args.size) refl c.code_fits.result _ refl
    c.code_fits.ensures c.in_err-n.was

pub returns-clause-value : goal.returns-clause-value
returns-clause-value c = code_counted c.args.s.now (kinds_in c.args.kinds.now) c.args.upvalues
    c.args.sum c.args.size c.args.at c.in_ok-first.first (sym c.in_ok-first.was ∙ c.code_at.ensures) (c.if-sum-size.false)
    (c.in_ok-first.first + c.args.size) refl c.code_fits.result _ refl
    c.code_fits.ensures c.in_ok-n.n c.in_ok-n.was

pub returns-clause-by_index : goal.returns-clause-by_index
returns-clause-by_index c = code_few c.args.s.now (kinds_in c.args.kinds.now) c.args.upvalues
    c.args.sum c.args.size c.args.at c.in_ok-first.first (sym c.in_ok-first.was ∙ c.code_at.ensures) (c.if-sum-size.false)
    (c.in_ok-first.first + c.args.size) refl c.code_fits.result _ refl
    c.code_fits.ensures c.in_ok-n.n c.in_ok-n.was
