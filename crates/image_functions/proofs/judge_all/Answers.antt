-- `judge_all` meets its contract: the functions that are passed were judged, and what is left comes to what there was.
use native.Mathlib.Omega.{arith}
use mathlib.Core.Path.{sym, ◌∙◌}
use lib.ListN.{length}
use Rattle.image_functions.proofs.All.{going_begin, going_stop, next_is, going_on, going_done}
use Rattle.image_functions.proofs.judge_all.Goals as goal

pub loop-k-init : goal.loop-k-init
loop-k-init c =
    going_begin c.args.s.now c.args.count c.args.counts.now c.args.stamps.now c.args.ring.now c.requires.count_bound.1

pub returns-in_err-n : goal.returns-in_err-n
returns-in_err-n c =
    c.from_residual.ensures ∙ going_stop c.args.s.now c.args.count (length c.args.counts.now)
    (length c.args.stamps.now) (length c.args.ring.now)
    c.loop-k.counts c.loop-k.stamps c.loop-k.ring
    c.loop-k.at c.loop-k.k c.loop-k.total c.loop-k.invariant
    c.loop-k-test.true (sym c.in_err-n.was ∙ c.function.ensures.told)

pub note_count-requires-clause-next_is : goal.note_count-requires-clause-next_is
note_count-requires-clause-next_is c =
    next_is c.args.s.now c.args.count (length c.args.counts.now)
    (length c.args.stamps.now) (length c.args.ring.now)
    c.loop-k.counts c.loop-k.stamps c.loop-k.ring
    c.loop-k.at c.loop-k.k c.loop-k.total c.loop-k.invariant
    c.in_ok-n.n c.in_ok-n.next (sym c.in_ok-n.was ∙ c.function.ensures.told)

pub overflow_add-total : goal.overflow_add-total
overflow_add-total c =
    let g = c.function.ensures.grows c.in_ok-n.n c.in_ok-n.next c.in_ok-n.was in
    omega (arith, g.0, g.1, c.loop-k.invariant.low, c.well_formed)

pub loop-k-preserved : goal.loop-k-preserved
loop-k-preserved c =
    going_on c.args.s.now c.args.count (length c.args.counts.now)
    (length c.args.stamps.now) (length c.args.ring.now)
    c.loop-k.counts c.loop-k.stamps c.loop-k.ring
    c.loop-k.at c.loop-k.k c.loop-k.total c.loop-k.invariant
    c.in_ok-n.n c.in_ok-n.next (sym c.in_ok-n.was ∙ c.function.ensures.told)
    c.loop-k-test.true (c.function.ensures.grows c.in_ok-n.n c.in_ok-n.next c.in_ok-n.was) _ _ _ c.note_count.ensures
    (c.note_count.auto.counts ∙ c.loop-k.invariant.counts_size)
    (c.function.auto.stamps ∙ c.loop-k.invariant.stamps_size)
    (c.function.auto.ring ∙ c.loop-k.invariant.ring_size)

pub returns : goal.returns
returns c =
    going_done c.args.s.now c.args.count (length c.args.counts.now)
    (length c.args.stamps.now) (length c.args.ring.now)
    c.loop-k.counts c.loop-k.stamps c.loop-k.ring
    c.loop-k.at c.loop-k.k c.loop-k.total c.loop-k.invariant c.loop-k-test.false
