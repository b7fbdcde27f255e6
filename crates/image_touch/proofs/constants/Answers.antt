-- `constants` meets its contract.
use Rattle.image_touch.proofs.Knowing.{known_stop, known_wrong, known_done}
use Rattle.image_touch.proofs.constants.Goals as goal

pub returns-in_err-next : goal.returns-in_err-next
returns-in_err-next c =
    rw c.from_residual.ensures
    (known_stop c.args.known.now.s.now c.args.known.now.k c.args.at c.args.n _ c.requires.first _ c.gather.result _ _ c.in_err-next.was c.gather.ensures)

pub returns-then-not-kinds_of : goal.returns-then-not-kinds_of
returns-then-not-kinds_of c =
    known_wrong c.args.known.now.s.now c.args.known.now.k c.args.at c.args.n _ c.requires.first _ c.gather.result _ c.gather.ensures
    (rw (c.if-not-kinds_of.true, c.gather.auto.words) at c.kinds_of.ensures) _

pub returns : goal.returns
returns c =
    known_done c.args.known.now.s.now c.args.known.now.k c.args.at c.args.n _ c.requires.first _ c.gather.result c.skip_constants.result
    c.in_ok-next.next _ c.gather.ensures c.in_ok-next.was
    (rw (c.if-not-kinds_of.false, c.gather.auto.words) at c.kinds_of.ensures) (rw c.gather.auto.words at c.skip_constants.ensures)
