-- `walk` meets its contract.
use Prim.Native.Nat.{◌+◌, ◌<◌, ◌≤◌}
use native.Mathlib.Omega.{arith}
use mathlib.Core.Path.{sym, ◌∙◌}
use lib.ListN.{length}
use Rattle.image_code.specs.Table.{kinds_in}
use Rattle.image_constants.specs.Words.{constants_of}
use Rattle.image_touch.proofs.Walking.{walk_begin, walk_width, walk_fits, walk_hit, walk_on, walk_done, walk_place, walk_nowhere}
use Rattle.image_touch.proofs.walk.Goals as goal
use Rattle.image_touch.proofs.walk.Goals.{After-width_at-w}

-- the instruction at `at` has bytes, and all of them are there
wide : (c : After-width_at-w) → 0 < c.width_at-w.result
wide c =
    walk_width c.args.name c.args.before (constants_of (length c.args.words.now) c.args.words.now) (kinds_in c.args.kinds.now)
    c.args.code.now c.loop-at.at c.loop-at.read c.loop-at.invariant c.width_at-w.result c.loop-at-test.true c.width_at-w.ensures

within : (c : After-width_at-w) → c.loop-at.at + c.width_at-w.result ≤ length c.args.code.now
within c =
    walk_fits c.args.name c.args.before (constants_of (length c.args.words.now) c.args.words.now) (kinds_in c.args.kinds.now)
    c.args.code.now c.loop-at.at c.loop-at.read c.loop-at.invariant c.width_at-w.result c.loop-at-test.true c.width_at-w.ensures

pub loop-at-init : goal.loop-at-init
loop-at-init c =
    walk_begin c.args.name c.args.before (constants_of (length c.args.words.now) c.args.words.now)
    (kinds_in c.args.kinds.now) c.args.code.now c.requires.0

pub overflow_add-seen : goal.overflow_add-seen
overflow_add-seen c = omega (arith, c.loop-at.invariant.few, c.loop-at-test.true, c.requires.1)

pub touches-requires : goal.touches-requires
touches-requires c =
    let has = wide (goal.at.touches-requires c).After-width_at-w in
    let fits = within (goal.at.touches-requires c).After-width_at-w in
    record {
      at_in_bounds = c.loop-at-test.true;
      nonzero = omega (arith, has, c.width_at-w.ensures);
      code_in_bounds = omega (arith, fits, c.width_at-w.ensures);
    }

pub returns-then-touches : goal.returns-then-touches
returns-then-touches c = record {
  value = walk_hit c.args.name c.args.before (constants_of (length c.args.words.now) c.args.words.now) (kinds_in c.args.kinds.now)
      c.args.code.now c.loop-at.at c.loop-at.read c.loop-at.invariant c.width_at-w.result c.loop-at-test.true
      c.width_at-w.ensures (sym c.if-touches.true ∙ c.touches.ensures);
  read_bound = (
    omega (arith, c.loop-at.invariant.few, c.loop-at-test.true),
    walk_place c.loop-at.at (length c.args.code.now) (omega (arith, c.loop-at-test.true)),
  );
}

pub overflow_add-at : goal.overflow_add-at
overflow_add-at c =
    let fits = within (goal.at.overflow_add-at c).After-width_at-w in
    omega (arith, fits, c.well_formed)

pub loop-at-smaller : goal.loop-at-smaller
loop-at-smaller c =
    let has = wide (goal.at.loop-at-smaller c).After-width_at-w in
    let fits = within (goal.at.loop-at-smaller c).After-width_at-w in
    omega (arith, has, fits)

pub loop-at-preserved : goal.loop-at-preserved
loop-at-preserved c =
    walk_on c.args.name c.args.before (constants_of (length c.args.words.now) c.args.words.now) (kinds_in c.args.kinds.now)
    c.args.code.now c.loop-at.at c.loop-at.read c.loop-at.invariant c.width_at-w.result c.loop-at-test.true
    c.width_at-w.ensures (sym c.if-touches.false ∙ c.touches.ensures)

pub returns : goal.returns
returns c = record {
  value = walk_done c.args.name c.args.before (constants_of (length c.args.words.now) c.args.words.now) (kinds_in c.args.kinds.now)
      c.args.code.now c.loop-at.at c.loop-at.read c.loop-at.invariant c.loop-at-test.false;
  read_bound = (omega (arith, c.loop-at.invariant.few, c.loop-at.invariant.within), walk_nowhere (length c.args.code.now));
}
