-- What is written is what the rules say of what is read: all of it, where it is no longer than the longest tree.
use Rattle.std.proofs.Common.{arith, length-take}
use Rattle.program.proofs.Shown.{wrote, on_ok}
use Rattle.program.proofs.run.Goals as goal

pub returns : goal.returns
returns g c room = on_ok c.show.result _ _
    (wrote _ _ _ _ _ _ _ _ c.in_ok-n.ensures.bytes (λ h. c.in_ok-n.ensures.end (omega (arith, room, h, length-take c.in_ok-n.n c.read_full.new.space))) c.answer-a.ensures)
    c.show.ensures
