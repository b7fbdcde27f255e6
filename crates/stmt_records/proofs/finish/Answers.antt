-- `finish` meets its contract.
use Prim.Native.Nat.{ℕ, ◌-◌, ◌+◌}
use native.Mathlib.Omega.{arith}
use lib.Seq.{get_or-set_other}
use borrow.Author.Rules.{Below-set}
use Rattle.stmt_records.proofs.Records.{filed}
use Rattle.state.specs.Layout.{image_at}
use Rattle.stmt_records.proofs.finish.Goals as goal

pub bounds-t-17410 : goal.bounds-t-17410
bounds-t-17410 c = Below-set ℕ c.args.t.now image_at (image_at + 1) (c.put_function-next.result - 6)
    (omega (arith, c.requires.0.wf.size))

pub overflow_add-t : goal.overflow_add-t
overflow_add-t c = omega (
  arith,
  get_or-set_other c.args.t.now (image_at + 1) image_at (c.put_function-next.result - 6) 0
      (omega arith),
  c.requires.1,
)

pub bounds-t-17410-2 : goal.bounds-t-17410-2
bounds-t-17410-2 c = Below-set ℕ c.args.t.now image_at (image_at + 1) (c.put_function-next.result - 6)
    (omega (arith, c.requires.0.wf.size))

pub returns : goal.returns
returns c =
    let a = c.args in filed a.level a.t.now a.code.now a.spans.now a.out.now _ _ c.requires.0
    c.put_function-next.ensures
