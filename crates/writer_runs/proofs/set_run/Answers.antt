-- `set_run`: the mark, the two ends of the span and the count.
use Rattle.rules.specs.Image.{run_bytes}
use Rattle.rules.specs.Base.{le}
use Rattle.writer_bytes.proofs.Padding.{put_then}
use Rattle.rules.proofs.Numbers.{le_length}
use native.Mathlib.Omega.{arith}
use Rattle.writer_runs.proofs.set_run.Goals as goal

pub set_le-c-requires : goal.set_le-c-requires
set_le-c-requires c = omega (arith, c.set_mark-a.ensures.next, c.set_le-b.ensures.next, le_length 4 c.args.start)

pub set_le-requires : goal.set_le-requires
set_le-requires c =
    omega (
      arith,
      c.set_mark-a.ensures.next,
      c.set_le-b.ensures.next,
      le_length 4
          c.args.start,
      c.set_le-c.ensures.next,
      le_length 4 c.args.end,
    )

pub returns : goal.returns
unfolding run_bytes le
returns c =
    put_then c.set_mark-a.ensures
    (put_then c.set_le-b.ensures (put_then c.set_le-c.ensures c.set_le.ensures))
