-- `skip_function` meets its contract.
use Prim.Native.Nat.{◌+◌}
use native.Mathlib.Omega.{arith}
use mathlib.Core.Path.{sym, ◌∙◌}
use Rattle.rules.specs.Reader.{many}
use Rattle.rules.specs.ImageFile.{read_constant, read_run}
use Rattle.image_records.proofs.Many.{Gives, fails_bad, place_bad, place_at, gives_at}
use Rattle.image_records.proofs.Records.{Headed, Coded, head_fails, headed, at_constants, at_runs, at_code, coded, whole_function}
use Rattle.image_records.proofs.skip_function.Goals as goal
use Rattle.image_records.proofs.skip_function.Goals.{In_ok-h, In_ok-runs_at, In_ok-mark_at, In_ok-first}

-- ## What each stage read

head : (c : In_ok-h) → Headed c.args.s.now c.args.at c.in_ok-h.h
head c = headed c.args.s.now c.args.at c.in_ok-h.h (sym c.in_ok-h.was ∙ c.head_of.ensures)

constants : (c : In_ok-runs_at) → Gives (many c.in_ok-h.h.constants (read_constant c.args.s.now) (c.args.at + 17)) c.in_ok-runs_at.runs_at
constants c = place_at _ c.in_ok-runs_at.runs_at (sym c.in_ok-runs_at.was ∙ c.skip_constants.ensures)

runs : (c : In_ok-mark_at) → Gives (many c.in_ok-h.h.runs (read_run c.args.s.now) c.in_ok-runs_at.runs_at) c.in_ok-mark_at.mark_at
runs c = place_at _ c.in_ok-mark_at.mark_at (sym c.in_ok-mark_at.was ∙ c.skip_runs.ensures)

code : (c : In_ok-first) → Coded c.args.s.now c.in_ok-h.h.code c.in_ok-mark_at.mark_at c.in_ok-first.first
code c = coded c.args.s.now c.in_ok-h.h.code c.in_ok-mark_at.mark_at c.in_ok-first.first (sym c.in_ok-first.was ∙ c.code_at.ensures)

-- ## The answers

pub returns-in_err-h : goal.returns-in_err-h
returns-in_err-h c = c.from_residual.ensures ∙ fails_bad (head_fails c.args.s.now c.args.at (sym c.in_err-h.was ∙ c.head_of.ensures))

pub overflow_add-at : goal.overflow_add-at
overflow_add-at c = omega (arith, (head (goal.at.overflow_add-at c).In_ok-h).whole, c.well_formed)

pub returns-in_err-runs_at : goal.returns-in_err-runs_at
returns-in_err-runs_at c =
    c.from_residual-in_err-runs_at.ensures ∙
    fails_bad (at_constants c.args.s.now c.args.at c.in_ok-h.h (head (goal.at.returns-in_err-runs_at c).In_ok-h)
    (place_bad _ (sym c.in_err-runs_at.was ∙ c.skip_constants.ensures)))

pub returns-in_err-mark_at : goal.returns-in_err-mark_at
returns-in_err-mark_at c =
    let b = head (goal.at.returns-in_err-mark_at c).In_ok-h in
    let cs = constants (goal.at.returns-in_err-mark_at c).In_ok-runs_at in
    c.from_residual-in_err-mark_at.ensures ∙
    fails_bad (at_runs c.args.s.now c.args.at c.in_ok-h.h b cs.value c.in_ok-runs_at.runs_at cs.is
    (place_bad _ (sym c.in_err-mark_at.was ∙ c.skip_runs.ensures)))

pub returns-in_err-first : goal.returns-in_err-first
returns-in_err-first c =
    let b = head (goal.at.returns-in_err-first c).In_ok-h in
    let cs = constants (goal.at.returns-in_err-first c).In_ok-runs_at in
    let rs = runs (goal.at.returns-in_err-first c).In_ok-mark_at in
    c.from_residual-in_err-first.ensures ∙
    fails_bad (at_code c.args.s.now c.args.at c.in_ok-h.h b cs.value c.in_ok-runs_at.runs_at cs.is rs.value c.in_ok-mark_at.mark_at rs.is
    (sym c.in_err-first.was ∙ c.code_at.ensures))

pub overflow_add-result : goal.overflow_add-result
overflow_add-result c = omega (arith, (code (goal.at.overflow_add-result c).In_ok-first).within, c.well_formed)

pub returns : goal.returns
returns c =
    let b = head (goal.at.returns c).In_ok-h in
    let cs = constants (goal.at.returns c).In_ok-runs_at in
    let rs = runs (goal.at.returns c).In_ok-mark_at in
    gives_at (whole_function c.args.s.now c.args.at c.in_ok-h.h b cs.value c.in_ok-runs_at.runs_at cs.is rs.value c.in_ok-mark_at.mark_at rs.is
    c.in_ok-first.first (code (goal.at.returns c).In_ok-first))
