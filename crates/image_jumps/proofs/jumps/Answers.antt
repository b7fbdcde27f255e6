-- `jumps` meets its contract.
use Prim.Native.Nat.{◌+◌, ◌-◌}
use mathlib.Core.Path.{refl, sym, ◌∙◌}
use native.Mathlib.Omega.{arith}
use lib.ListN.{get_or, drop}
use Rattle.image_code.specs.Forms.{width}
use Rattle.image_code.specs.Table.{kinds_in}
use Rattle.image_jumps.proofs.Jumping.{near_of, jump_begin, jump_skip, jump_width, jump_fits, jump_bad, jump_on, jump_done, lead_least}
use Rattle.image_jumps.proofs.jumps.Goals as goal

pub loop-at-init : goal.loop-at-init
loop-at-init c = (jump_begin (kinds_in c.args.kinds.now) c.args.code.now c.args.ring.now c.requires.1 c.requires.0, refl)

pub loop-at-preserved-then-skip-gt0 : goal.loop-at-preserved-then-skip-gt0
loop-at-preserved-then-skip-gt0 c = (
  jump_skip (kinds_in c.args.kinds.now) c.args.code.now c.loop-at.ring c.loop-at.at c.loop-at.skip (c.loop-at.skip - 1) c.loop-at.lead.at c.loop-at.lead.skip c.loop-at.invariant.0 c.loop-at-test.true (omega arith),
  c.loop-at.invariant.1,
)

pub fill-lead-requires : goal.fill-lead-requires
fill-lead-requires c = record {
  filled = c.loop-at.invariant.0.filled;
  at_le_want = (
    lead_least (kinds_in c.args.kinds.now) c.args.code.now c.loop-at.ring c.loop-at.at c.loop-at.skip c.loop-at.lead.at c.loop-at.lead.skip c.loop-at.invariant.0 c.loop-at-test.true _ (λ p l u. omega arith),
    omega arith,
  );
}

pub lands-requires : goal.lands-requires
lands-requires c = record {
  at_in_bounds = c.loop-at-test.true;
  code_in_bounds = jump_fits (kinds_in c.args.kinds.now) c.args.code.now c.loop-at.ring c.loop-at.at c.loop-at.skip
      (width (kinds_in c.args.kinds.now) (get_or c.args.code.now c.loop-at.at 0) (drop (c.loop-at.at + 1) c.args.code.now))
      c.loop-at.lead.at c.loop-at.lead.skip c.loop-at.invariant.0 (omega (arith, c.if-skip-gt0.false)) c.loop-at-test.true refl;
  near = (
    near_of (kinds_in c.args.kinds.now) c.args.code.now
        c.fill-lead.new.ring c.loop-at.at _ c.fill-lead.result.skip
        c.fill-lead.ensures.1 (omega arith) (λ p l u. omega arith),
    c.fill-lead.ensures.1.room,
  );
}

pub shape_of-ring-then-not-lands : goal.shape_of-ring-then-not-lands
shape_of-ring-then-not-lands c = c.fill-lead.auto.ring ∙ c.loop-at.invariant.1

pub returns-then-not-lands : goal.returns-then-not-lands
returns-then-not-lands c =
    jump_bad (kinds_in c.args.kinds.now) c.args.code.now c.loop-at.ring c.loop-at.at c.loop-at.skip
    (width (kinds_in c.args.kinds.now) (get_or c.args.code.now c.loop-at.at 0) (drop (c.loop-at.at + 1) c.args.code.now))
    c.loop-at.lead.at c.loop-at.lead.skip c.loop-at.invariant.0 (omega (arith, c.if-skip-gt0.false)) c.loop-at-test.true refl (sym c.if-not-lands.true ∙ c.lands.ensures)

pub overflow_sub-skip-in-loop-at : goal.overflow_sub-skip-in-loop-at
overflow_sub-skip-in-loop-at c =
    jump_width (kinds_in c.args.kinds.now) c.args.code.now c.loop-at.ring c.loop-at.at c.loop-at.skip c.width_at-skip.result c.loop-at.lead.at c.loop-at.lead.skip c.loop-at.invariant.0 (omega (arith, c.if-skip-gt0.false))
    c.loop-at-test.true c.width_at-skip.ensures

pub loop-at-preserved : goal.loop-at-preserved
loop-at-preserved c = (
  jump_on (kinds_in c.args.kinds.now) c.args.code.now c.loop-at.ring c.loop-at.at c.loop-at.skip c.width_at-skip.result c.loop-at.lead.at c.loop-at.lead.skip c.loop-at.invariant.0 (omega (arith, c.if-skip-gt0.false))
      c.loop-at-test.true c.width_at-skip.ensures c.fill-lead.new.ring c.fill-lead.result.at
      c.fill-lead.result.skip
      (rw c.fill-lead.ensures.0 c.fill-lead.ensures.1) (omega arith) (omega arith)
      (sym c.if-not-lands.false ∙ c.lands.ensures),
  c.fill-lead.auto.ring ∙ c.loop-at.invariant.1,
)

pub shape_of-ring : goal.shape_of-ring
shape_of-ring c = c.loop-at.invariant.1

pub returns : goal.returns
returns c = jump_done (kinds_in c.args.kinds.now) c.args.code.now c.loop-at.ring c.loop-at.at c.loop-at.skip c.loop-at.lead.at c.loop-at.lead.skip c.loop-at.invariant.0 (omega arith)
