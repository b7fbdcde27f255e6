-- `put_head`: the mark and six numbers.
use Rattle.rules.specs.Base.{le}
use Rattle.writer.specs.Put.{head_bytes}
use Rattle.writer_bytes.proofs.Padding.{put_then, le_next}
use native.Mathlib.Omega.{arith}
use Rattle.writer.proofs.put_head.Goals as goal

pub put_le-b-requires : goal.put_le-b-requires
put_le-b-requires c = omega (arith, c.put_mark-a.ensures.next)

pub put_le-c-requires : goal.put_le-c-requires
put_le-c-requires c = omega (arith, c.put_mark-a.ensures.next, le_next 2 c.args.name c.put_le-b.ensures)

pub put_le-d-requires : goal.put_le-d-requires
put_le-d-requires c =
    omega (
      arith,
      c.put_mark-a.ensures.next,
      le_next 2 c.args.name c.put_le-b.ensures,
      le_next 1 c.args.arity c.put_le-c.ensures,
    )

pub put_le-e-requires : goal.put_le-e-requires
put_le-e-requires c =
    omega (
      arith,
      c.put_mark-a.ensures.next,
      le_next 2 c.args.name c.put_le-b.ensures,
      le_next 1 c.args.arity c.put_le-c.ensures,
      le_next 2 c.args.upvalues c.put_le-d.ensures,
    )

pub put_le-f-requires : goal.put_le-f-requires
put_le-f-requires c =
    omega (
      arith,
      c.put_mark-a.ensures.next,
      le_next 2 c.args.name c.put_le-b.ensures,
      le_next 1 c.args.arity c.put_le-c.ensures,
      le_next 2 c.args.upvalues
          c.put_le-d.ensures,
      le_next 2 c.args.constants c.put_le-e.ensures,
    )

pub put_le-requires : goal.put_le-requires
put_le-requires c =
    omega (
      arith,
      c.put_mark-a.ensures.next,
      le_next 2 c.args.name c.put_le-b.ensures,
      le_next 1 c.args.arity c.put_le-c.ensures,
      le_next 2 c.args.upvalues
          c.put_le-d.ensures,
      le_next 2 c.args.constants c.put_le-e.ensures,
      le_next 4 c.args.runs c.put_le-f.ensures,
    )

pub returns : goal.returns
unfolding head_bytes le
returns c =
    put_then c.put_mark-a.ensures
    (put_then c.put_le-b.ensures
    (put_then c.put_le-c.ensures
    (put_then c.put_le-d.ensures
    (put_then c.put_le-e.ensures (put_then c.put_le-f.ensures c.put_le.ensures)))))
