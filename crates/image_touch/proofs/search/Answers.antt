-- `search` meets its contract.
use native.Mathlib.Omega.{arith}
use mathlib.Core.Path.{sym, ◌∙◌}
use Rattle.image_touch.proofs.Searching.{search_begin, function_right, next_is, not_lost, search_hit, search_on, search_done}
use Rattle.image_touch.proofs.search.Goals as goal

pub loop-k-init : goal.loop-k-init
loop-k-init c = search_begin c.args.s.now c.args.count c.args.name c.requires c.args.counts.now

pub function-requires : goal.function-requires
function-requires c =
    let g = c.loop-k.invariant in
    (function_right c.args.s.now c.args.count c.args.name c.requires _ c.loop-k.at c.loop-k.k c.loop-k.read g c.loop-k-test.true, g.low)

pub returns-in_default : goal.returns-in_default
returns-in_default c =
    absurd
    (not_lost c.args.s.now c.args.count c.args.name c.requires _ c.loop-k.at c.loop-k.k c.loop-k.read c.loop-k.invariant c.loop-k-test.true
    (sym c.in_default.is ∙ c.function.ensures.told))

pub hit-requires : goal.hit-requires
hit-requires c =
    let grows = c.function.ensures.grows c.in-Some.found c.in-Some.next c.in-Some.is in
    omega (arith, grows.1.0 c.in-Some-at.place c.in-Some-at.is, grows.1.1, c.well_formed)

pub returns-in-Some-at : goal.returns-in-Some-at
returns-in-Some-at c =
    c.hit.ensures ∙
    search_hit c.args.s.now c.args.count c.args.name c.requires _ c.loop-k.at c.loop-k.k c.loop-k.read c.loop-k.invariant c.loop-k-test.true
    (λ i. (c.type_inv.s i).fits) c.in-Some.found c.in-Some.next (sym c.in-Some.is ∙ c.function.ensures.told) c.in-Some-at.place c.in-Some-at.is

pub note_count-requires : goal.note_count-requires
note_count-requires c =
    let g = c.loop-k.invariant in
    record {
      counts = g.counts_are;
      next_is = next_is c.args.s.now c.args.count c.args.name c.requires _ c.loop-k.at c.loop-k.k c.loop-k.read g c.loop-k-test.true;
    }

pub loop-k-preserved : goal.loop-k-preserved
loop-k-preserved c =
    let g = c.loop-k.invariant in
    search_on c.args.s.now c.args.count c.args.name c.requires _ c.loop-k.at c.loop-k.k c.loop-k.read g c.loop-k-test.true
    (λ i. (c.type_inv.s i).fits) c.in-Some.found c.in-Some.next (sym c.in-Some.is ∙ c.function.ensures.told) c.in_default-at.is
    (c.function.ensures.grows c.in-Some.found c.in-Some.next c.in-Some.is) _ c.note_count.ensures

pub returns : goal.returns
returns c =
    c.accepted.ensures ∙
    search_done c.args.s.now c.args.count c.args.name c.requires _ c.loop-k.at c.loop-k.k c.loop-k.read c.loop-k.invariant c.loop-k-test.false
