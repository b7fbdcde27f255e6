-- `runs` meets its contract: after the runs that are passed, what is left comes to what there was.
use mathlib.Core.Bool.{not}
use native.Mathlib.Omega.{arith}
use mathlib.Core.Path.{sym, ◌∙◌, ap}
use borrow.Author.Tests.{not-true, not-false}
use Rattle.rules.specs.ImageFile.{read_run}
use Rattle.image_records.proofs.Many.{place_bad}
use Rattle.image_records.proofs.Running.{run_of, Marked, run_marked, runs_begin, runs_stop, runs_done, run_zero, run_near, run_on}
use Rattle.image_records.proofs.runs.Goals as goal
use Rattle.image_records.proofs.runs.Goals.{In_ok-next}

pub loop-init : goal.loop-init
loop-init c = (omega arith, runs_begin c.args.s.now c.args.n c.args.begin)

pub returns-in_err-next : goal.returns-in_err-next
returns-in_err-next c =
    c.from_residual.ensures ∙ runs_stop c.args.s.now c.args.n c.loop.counter c.loop.at
    (run_of c.loop.last.start c.loop.last.end c.loop.count) c.loop.sum c.loop-test.true
    (place_bad (read_run c.args.s.now c.loop.at) (sym c.in_err-next.was ∙ c.skip_run.ensures)) ∙ sym c.loop.invariant.1

-- all of the run is there
here : (c : In_ok-next) → Marked c.args.s.now c.loop.at c.in_ok-next.next
here c = run_marked c.args.s.now c.loop.at c.in_ok-next.next (sym c.in_ok-next.was ∙ c.skip_run.ensures)

pub overflow_add-at : goal.overflow_add-at
overflow_add-at c = omega (arith, (here (goal.at.overflow_add-at c).In_ok-next).whole, c.well_formed)

pub span_at-span-requires : goal.span_at-span-requires
span_at-span-requires c = omega (arith, (here (goal.at.span_at-span-requires c).In_ok-next).whole)

pub overflow_add-at-in-loop : goal.overflow_add-at-in-loop
overflow_add-at-in-loop c = omega (arith, (here (goal.at.overflow_add-at-in-loop c).In_ok-next).whole, c.well_formed)

pub u8_at-c-requires : goal.u8_at-c-requires
u8_at-c-requires c = omega (arith, (here (goal.at.u8_at-c-requires c).In_ok-next).whole)

pub returns-then-c-eq0 : goal.returns-then-c-eq0
returns-then-c-eq0 c =
    run_zero c.args.s.now c.args.n c.loop.counter c.loop.at (run_of c.loop.last.start c.loop.last.end c.loop.count) c.loop.sum
    c.span_at-span.result c.u8_at-c.result c.in_ok-next.next c.loop-test.true (sym c.in_ok-next.was ∙ c.skip_run.ensures)
    c.span_at-span.ensures c.u8_at-c.ensures c.if-c-eq0.true ∙ sym c.loop.invariant.1

pub returns-then-not-follows : goal.returns-then-not-follows
returns-then-not-follows c =
    run_near c.args.s.now c.args.n c.loop.counter c.loop.at (run_of c.loop.last.start c.loop.last.end c.loop.count) c.loop.sum
    c.span_at-span.result c.u8_at-c.result c.in_ok-next.next c.loop-test.true (sym c.in_ok-next.was ∙ c.skip_run.ensures)
    c.span_at-span.ensures c.u8_at-c.ensures
    (sym (not-true c.follows.result (ap not c.if-not-follows.true)) ∙ c.follows.ensures) ∙ sym c.loop.invariant.1

pub loop-preserved : goal.loop-preserved
loop-preserved c = (
  omega (arith, c.u8_at-c.type_inv, c.loop.invariant.0),
  c.loop.invariant.1 ∙ run_on c.args.s.now c.args.n c.loop.counter c.loop.at
      (run_of c.loop.last.start c.loop.last.end c.loop.count) c.loop.sum
      c.span_at-span.result c.u8_at-c.result c.in_ok-next.next c.loop-test.true (sym c.in_ok-next.was ∙ c.skip_run.ensures)
      c.span_at-span.ensures c.u8_at-c.ensures (omega arith) c.u8_at-c.type_inv
      (sym (not-false c.follows.result (ap not c.if-not-follows.false)) ∙ c.follows.ensures),
)

pub returns : goal.returns
returns c =
    runs_done c.args.s.now c.args.n c.loop.counter c.loop.at (run_of c.loop.last.start c.loop.last.end c.loop.count) c.loop.sum
    c.loop-test.false ∙ sym c.loop.invariant.1
