-- `function` meets its contract.
use Prim.Native.Nat.{◌+◌}
use native.Mathlib.Omega.{arith}
use mathlib.Core.Path.{refl, sym, ◌∙◌}
use lib.ListN.{length, take}
use Rattle.image_constants.proofs.Kinding.{earlier_number}
use Rattle.image_code.proofs.Closing.{blank}
use Rattle.image_code.specs.declared.Kind.TheVariants.{Missing}
use Rattle.image_touch.proofs.Stepping.{Placed, headless, head_within, constants_lost, runs_lost, code_lost, placed, part_length, divides, stepped}
use Rattle.image_touch.proofs.function.Goals as goal
use Rattle.image_touch.proofs.function.Goals.{In_ok-start}

pub returns-in_err-h : goal.returns-in_err-h
returns-in_err-h c =
    let number = earlier_number c.args.known.now.s.now c.args.known.now.k c.args.known.now.there in
    absurd (headless c.args.known.now.s.now c.args.known.now.k c.args.at number c.requires.0 (sym c.in_err-h.was ∙ c.head_of.ensures))

pub overflow_add-at : goal.overflow_add-at
overflow_add-at c =
    let number = earlier_number c.args.known.now.s.now c.args.known.now.k c.args.known.now.there in
    let is-head = sym c.in_ok-h.was ∙ c.head_of.ensures in
    omega (arith, head_within c.args.known.now.s.now c.args.known.now.k c.args.at number c.requires.0 c.in_ok-h.h is-head, c.well_formed)

pub constants-requires-clause-kinds_len : goal.constants-requires-clause-kinds_len
constants-requires-clause-kinds_len c = (refl, λ p. blank 256 p Missing)

pub returns-in_err-runs_at : goal.returns-in_err-runs_at
returns-in_err-runs_at c =
    let number = earlier_number c.args.known.now.s.now c.args.known.now.k c.args.known.now.there in
    let is-head = sym c.in_ok-h.was ∙ c.head_of.ensures in
    absurd (constants_lost c.args.known.now.s.now c.args.known.now.k c.args.at number c.requires.0 c.in_ok-h.h is-head
    _ c.constants.result c.constants.new.words c.constants.new.kinds c.constants.ensures c.in_err-runs_at.was)

pub returns-in_err-mark_at : goal.returns-in_err-mark_at
returns-in_err-mark_at c =
    let number = earlier_number c.args.known.now.s.now c.args.known.now.k c.args.known.now.there in
    let is-head = sym c.in_ok-h.was ∙ c.head_of.ensures in
    absurd (runs_lost c.args.known.now.s.now c.args.known.now.k c.args.at number c.requires.0 c.in_ok-h.h is-head
    _ c.constants.result c.constants.new.words c.constants.new.kinds c.constants.ensures
    c.in_ok-runs_at.runs_at c.in_ok-runs_at.was c.skip_runs.result c.skip_runs.ensures c.in_err-mark_at.was)

pub returns-in_err-start : goal.returns-in_err-start
returns-in_err-start c =
    let number = earlier_number c.args.known.now.s.now c.args.known.now.k c.args.known.now.there in
    let is-head = sym c.in_ok-h.was ∙ c.head_of.ensures in
    absurd (code_lost c.args.known.now.s.now c.args.known.now.k c.args.at number c.requires.0 c.in_ok-h.h is-head
    _ c.constants.result c.constants.new.words c.constants.new.kinds c.constants.ensures
    c.in_ok-runs_at.runs_at c.in_ok-runs_at.was c.skip_runs.result c.skip_runs.ensures
    c.in_ok-mark_at.mark_at c.in_ok-mark_at.was c.code_at.result c.code_at.ensures c.in_err-start.was)

-- the code, once it is placed
code : (c : In_ok-start)
    → Placed c.args.known.now.s.now c.args.known.now.k c.args.at (length (take c.min.result c.args.words.now)) c.constants.new.words c.constants.new.kinds c.in_ok-start.start c.in_ok-h.h.code
code c =
    let number = earlier_number c.args.known.now.s.now c.args.known.now.k c.args.known.now.there in
    let is-head = sym c.in_ok-h.was ∙ c.head_of.ensures in
    placed c.args.known.now.s.now c.args.known.now.k c.args.at number c.requires.0 c.in_ok-h.h is-head
    _ c.constants.result c.constants.new.words c.constants.new.kinds c.constants.ensures
    c.in_ok-runs_at.runs_at c.in_ok-runs_at.was c.skip_runs.result c.skip_runs.ensures
    c.in_ok-mark_at.mark_at c.in_ok-mark_at.was c.code_at.result c.code_at.ensures
    c.in_ok-start.start c.in_ok-start.was

pub overflow_add-end : goal.overflow_add-end
overflow_add-end c = omega (arith, (code (goal.at.overflow_add-end c).In_ok-start).within, c.well_formed)

pub slice_bounds-walk-end : goal.slice_bounds-walk-end
slice_bounds-walk-end c = (code (goal.at.slice_bounds-walk-end c).In_ok-start).within

pub walk-found-requires : goal.walk-found-requires
walk-found-requires c =
    let there = code (goal.at.walk-found-requires c).In_ok-start in
    let l = part_length c.args.known.now.s.now c.args.known.now.k c.args.at _ c.constants.new.words c.constants.new.kinds c.in_ok-start.start c.in_ok-h.h.code there c.args.known.now.bytes
    (c.in_ok-start.start + c.in_ok-h.h.code) refl _ refl in (
      divides c.args.known.now.s.now c.args.known.now.k c.args.at _ c.constants.new.words c.constants.new.kinds c.in_ok-start.start c.in_ok-h.h.code there c.args.known.now.bytes
          (c.in_ok-start.start + c.in_ok-h.h.code) refl _ refl,
      omega (arith, l, there.within, there.far, c.requires.1, c.well_formed),
    )

pub returns : goal.returns
returns c =
    stepped c.args.known.now.s.now c.args.known.now.k c.args.at _ c.constants.new.words c.constants.new.kinds c.in_ok-start.start c.in_ok-h.h.code (code (goal.at.returns c).In_ok-start) c.args.known.now.bytes
    (c.in_ok-start.start + c.in_ok-h.h.code) refl _ refl
    c.args.name c.args.before c.walk-found.result (rw c.constants.auto.words at c.walk-found.ensures.value) c.walk-found.ensures.read_bound
