-- `declare_params` meets its contract. The loop's invariant: the names that are left come to the same from where the loop stands as all of them from
-- where it began.
use mathlib.Core.Path.{refl}
use native.Mathlib.Omega.{arith}
use Rattle.stmt_opening.proofs.Names.{walk_start, walk_there, walk_stop, walk_step, walk_done}
use Rattle.stmt_opening.proofs.declare_params.Goals as goal

pub loop-init : goal.loop-init
loop-init c = let a = c.args in (walk_start a.tree.now a.level a.span a.count a.at a.t.now c.requires.2 (omega arith), refl)

pub u16_at-name-requires : goal.u16_at-name-requires
u16_at-name-requires c = let a = c.args in walk_there a.tree.now a.level a.span c.loop.invariant.0 c.requires.0 (omega arith)

pub declare_named-a-requires : goal.declare_named-a-requires
declare_named-a-requires c = (c.requires.1, c.loop.invariant.0.wf)

pub returns-in_default : goal.returns-in_default
returns-in_default c =
    let a = c.args in walk_stop a.tree.now a.level a.span c.loop.invariant.0
    c.u16_at-name.ensures c.declare_named-a.ensures (omega arith) c.in_default.is

pub overflow_add-next : goal.overflow_add-next
overflow_add-next c =
    let a = c.args in omega (
      arith,
      walk_there a.tree.now a.level a.span c.loop.invariant.0
          c.requires.0 (omega arith),
    )

pub loop-preserved : goal.loop-preserved
loop-preserved c =
    let a = c.args in (
      walk_step a.tree.now a.level a.span c.loop.invariant.0
          c.u16_at-name.ensures c.declare_named-a.ensures (omega arith)
          c.in-Ok.is (omega arith),
      omega (arith, c.declare_named-a.auto.t, c.loop.invariant.1),
    )

pub returns : goal.returns
returns c = let a = c.args in walk_done a.tree.now a.level a.span c.loop.invariant.0 (omega arith)
