-- `put_directory`: the walk over any functions whose records stand there goes on, and there is room for the places that are left.
use mathlib.Core.Path.{refl, ◌∙◌}
use native.Mathlib.Omega.{arith}
use Rattle.writer_bytes.proofs.Padding.{le_next}
use Rattle.writer_directory.proofs.Walking.{walk_same, walk_step, directed}
use Rattle.writer_directory.proofs.put_directory.Goals as goal

pub loop-init : goal.loop-init
loop-init c = (
  omega (
    arith,
    c.requires,
    c.set_mark-count_at.ensures.next,
    c.set_mark-count_at.ensures.size,
    le_next 4 c.args.functions c.set_le-next.ensures,
    c.set_le-next.ensures.size,
  ),
  refl,
  λ fs a w. walk_same (omega arith) w,
)

pub loop-preserved : goal.loop-preserved
loop-preserved c =
    let put = c.set_le-next-in-loop.ensures in
    let test = c.loop-test.true in
    let next = le_next 4 c.loop.at put in (
      omega (arith, next, put.size, c.loop.invariant.0, test),
      put.size ∙ c.loop.invariant.1,
      λ fs a w.
          walk_step a (c.loop.invariant.2 fs a w) (omega (arith, test)) put
          (omega (arith, next, put.size, c.loop.invariant.0, test)) c.record_end-at.ensures (omega arith),
    )

pub returns : goal.returns
returns c =
    directed c.set_mark-count_at.ensures c.set_le-next.ensures
    (c.loop.invariant.1 ∙ c.set_le-next.ensures.size ∙ c.set_mark-count_at.ensures.size) (omega (arith, c.loop-test.false)) c.loop.invariant.2 (omega arith)
