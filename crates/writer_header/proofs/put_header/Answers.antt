-- `put_header` meets its contract.
use mathlib.Core.Path.{sym}
use lib.Seq.{length-take-le}
use Rattle.writer_header.proofs.Header.{headed}
use borrow.Author.Rules.{rules}
use Rattle.writer_header.proofs.put_header.Goals as goal

pub slice_bounds-head-end-2 : goal.slice_bounds-head-end-2
slice_bounds-head-end-2 c = sym (length-take-le 6 c.args.out.now c.requires)

pub returns : goal.returns
returns c =
    headed c.args.count c.args.out.now c.requires
    c.put_mark-next.ensures c.put_le.ensures (search rules)
