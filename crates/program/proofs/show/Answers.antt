-- What is written of an answer is what `shown` says.
use Rattle.program.proofs.Shown.{shown_number, shown_image}
use Rattle.program.proofs.show.Goals as goal

pub returns-then-a-ne0 : goal.returns-then-a-ne0
returns-then-a-ne0 g c = rw (shown_number c.args.a c.args.out.now c.if-a-ne0.true) c.writeln.ensures.bytes

pub returns : goal.returns
returns g c = rw (shown_image c.args.a c.args.out.now c.if-a-ne0.false) (rw c.min-n.ensures at c.write_all.ensures.bytes)
