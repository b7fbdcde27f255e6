-- `note_function` meets its contract.
use native.Mathlib.Omega.{arith}
use mathlib.Core.Path.{sym, ◌∙◌}
use Rattle.image_records.proofs.Records.{headed}
use Rattle.image_naming.proofs.Walking.{function_headless, function_cut, function_done}
use Rattle.image_naming.proofs.note_function.Goals as goal

pub returns-in_err-h : goal.returns-in_err-h
returns-in_err-h c =
    rw c.from_residual.ensures (function_headless c.args.s.now c.args.at c.args.base c.args.seen.now _ (sym c.in_err-h.was ∙ c.head_of.ensures))

pub overflow_add-at : goal.overflow_add-at
overflow_add-at c =
    let b = headed c.args.s.now c.args.at c.in_ok-h.h (sym c.in_ok-h.was ∙ c.head_of.ensures) in omega (arith, b.whole, c.well_formed)

pub returns-in_err-note_constants : goal.returns-in_err-note_constants
returns-in_err-note_constants c =
    rw c.from_residual-in_err-note_constants.ensures
    (function_cut c.args.s.now c.args.at c.args.base c.args.seen.now c.in_ok-h.h (sym c.in_ok-h.was ∙ c.head_of.ensures) _
    c.note_constants.result c.note_constants.ensures c.in_err-note_constants.was)

pub returns : goal.returns
returns c =
    function_done c.args.s.now c.args.at c.args.base c.args.seen.now c.in_ok-h.h (sym c.in_ok-h.was ∙ c.head_of.ensures) _
    c.note_constants.result c.note_constants.ensures c.skip_function.result c.skip_function.ensures
