-- `put_runs`: of the runs, what is left is still to be put.
use native.Mathlib.Omega.{arith}
use Prim.Native.Nat.{◌/◌}
use lib.ListN.{length}
use Rattle.state.specs.Layout.{run_at}
use Rattle.writer_bytes.proofs.Padding.{putting_step, putting_end}
use Rattle.writer_runs.proofs.Rows.{length_run, runs_more, runs_none}
use Rattle.writer_runs.proofs.put_runs.Goals as goal

pub loop-i-preserved : goal.loop-i-preserved
loop-i-preserved c =
    let spans = c.args.spans.now in (
      putting_step c.loop-i.invariant.0 (runs_more (run_at spans) (length spans / 3) c.loop-i.i c.loop-i-test.true) c.put_run-next.ensures,
      omega (arith, c.put_run-next.ensures.next, length_run (run_at spans c.loop-i.i), c.loop-i.invariant.1, c.loop-i-test.true),
    )

pub returns : goal.returns
returns c = let spans = c.args.spans.now in putting_end c.loop-i.invariant.0 (runs_none (run_at spans) (length spans / 3) c.loop-i.i c.loop-i-test.false)
