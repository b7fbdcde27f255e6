-- `put_run`: the mark, the two ends of the span and the count, set where there is room for all.
use Rattle.rules.specs.Image.{run_bytes}
use Rattle.rules.specs.Base.{le}
use Rattle.writer_bytes.proofs.Padding.{put_then}
use Rattle.rules.proofs.Numbers.{le_length}
use native.Mathlib.Omega.{arith}
use Rattle.writer_runs.proofs.put_run.Goals as goal

pub returns-then-has : goal.returns-then-has
returns-then-has c = c.set_run.ensures

pub put_le-c-requires : goal.put_le-c-requires
put_le-c-requires c = omega (arith, c.put_mark-a.ensures.next, c.put_le-b.ensures.next, le_length 4 c.args.start)

pub put_le-requires : goal.put_le-requires
put_le-requires c =
    omega (
      arith,
      c.put_mark-a.ensures.next,
      c.put_le-b.ensures.next,
      le_length 4
          c.args.start,
      c.put_le-c.ensures.next,
      le_length 4 c.args.end,
    )

pub returns : goal.returns
unfolding run_bytes le
returns c =
    put_then c.put_mark-a.ensures
    (put_then c.put_le-b.ensures (put_then c.put_le-c.ensures c.put_le.ensures))
