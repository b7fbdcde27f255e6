-- `finish_in` meets its contract.
use Prim.Native.Nat.{ℕ, ◌-◌, ◌+◌}
use native.Mathlib.Omega.{arith}
use lib.Seq.{get_or-set_other}
use borrow.Author.Rules.{Below-set}
use Rattle.stmt_records.proofs.Records.{filed}
use Rattle.state.specs.Layout.{image_at}
use Rattle.stmt_records.proofs.finish_in.Goals as goal

pub bounds-work-17410 : goal.bounds-work-17410
bounds-work-17410 c = Below-set ℕ c.args.work.now.table.now image_at (image_at + 1) (c.put_record-next.result - 6)
    (omega (arith, c.requires.0.wf.size))

pub overflow_add-work : goal.overflow_add-work
overflow_add-work c = omega (
  arith,
  get_or-set_other c.args.work.now.table.now (image_at + 1) image_at (c.put_record-next.result - 6) 0
      (omega arith),
  c.requires.1,
)

pub bounds-work-17410-2 : goal.bounds-work-17410-2
bounds-work-17410-2 c = Below-set ℕ c.args.work.now.table.now image_at (image_at + 1) (c.put_record-next.result - 6)
    (omega (arith, c.requires.0.wf.size))

pub returns-clause-does : goal.returns-clause-does
returns-clause-does c =
    let a = c.args in filed a.level a.work.now.table.now a.work.now.code.now a.work.now.spans.now a.out.now _ _ c.requires.0
    c.put_record-next.ensures
