-- `fill` meets its contract.
use Prim.Native.Nat.{◌-◌}
use mathlib.Core.Path.{refl, ◌∙◌}
use native.Mathlib.Omega.{arith}
use lib.ListN.{length-set}
use Rattle.image_code.specs.Table.{kinds_in}
use Rattle.image_jumps.proofs.Ring.{fill_skip, fill_start, fill_width, filled_to}
use Rattle.image_jumps.proofs.fill.Goals as goal

pub loop-at-init : goal.loop-at-init
loop-at-init c = (c.requires.at_le_want.1, c.requires.filled, refl)

pub bounds-ring-slot : goal.bounds-ring-slot
bounds-ring-slot c = c.loop-at.invariant.1.room c.loop-at.at (omega arith)

pub loop-at-preserved-then-skip-gt0 : goal.loop-at-preserved-then-skip-gt0
loop-at-preserved-then-skip-gt0 c = (
  c.loop-at.invariant.0,
  fill_skip (kinds_in c.args.kinds.now) c.args.code.now c.loop-at.ring c.loop-at.at c.loop-at.skip (c.loop-at.skip - 1) c.loop-at.invariant.1 (omega arith) (omega arith),
  length-set c.loop-at.ring _ _ ∙ c.loop-at.invariant.2,
)

pub bounds-ring-slot-in-loop-at : goal.bounds-ring-slot-in-loop-at
bounds-ring-slot-in-loop-at c = c.loop-at.invariant.1.room c.loop-at.at (omega arith)

pub overflow_sub-skip-in-loop-at : goal.overflow_sub-skip-in-loop-at
overflow_sub-skip-in-loop-at c =
    fill_width (kinds_in c.args.kinds.now) c.args.code.now c.loop-at.ring
    c.loop-at.at c.loop-at.skip c.width_at-skip.result (omega arith) c.loop-at.invariant.1 (omega arith) c.width_at-skip.ensures

pub loop-at-preserved : goal.loop-at-preserved
loop-at-preserved c =
    let w = fill_width (kinds_in c.args.kinds.now) c.args.code.now c.loop-at.ring
    c.loop-at.at c.loop-at.skip c.width_at-skip.result (omega arith)
    c.loop-at.invariant.1 (omega arith) c.width_at-skip.ensures in (
      c.loop-at.invariant.0,
      fill_start (kinds_in c.args.kinds.now) c.args.code.now c.loop-at.ring c.loop-at.at
          c.loop-at.skip c.width_at-skip.result (c.width_at-skip.result - 1) (omega arith) c.loop-at.invariant.1
          (omega arith) c.width_at-skip.ensures (omega arith),
      length-set c.loop-at.ring _ _ ∙ c.loop-at.invariant.2,
    )

pub shape_of-ring : goal.shape_of-ring
shape_of-ring c = c.loop-at.invariant.2

pub returns : goal.returns
returns c =
    filled_to (kinds_in c.args.kinds.now) c.args.code.now c.loop-at.ring c.loop-at.at c.loop-at.skip c.args.want (omega arith) c.loop-at.invariant.1
