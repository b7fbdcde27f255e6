-- `constants_in` meets its contract.
use mathlib.Core.Path.{sym, ◌∙◌}
use lib.ListN.{length}
use Rattle.image_functions.proofs.One.{constants_stop, constants_old, constants_wrong, constants_done}
use Rattle.image_functions.proofs.constants_in.Goals as goal

pub returns-in_err-next : goal.returns-in_err-next
returns-in_err-next c =
    rw c.from_residual.ensures (constants_stop c.args.known.now.s.now c.args.known.now.k c.args.at (length c.args.words.now) _ _ (rw c.in_err-next.was at c.gather.ensures))

pub returns-then-not-all_new : goal.returns-then-not-all_new
returns-then-not-all_new c =
    constants_old c.args.known.now.s.now c.args.known.now.k c.args.at (length c.args.words.now)
    c.gather.new.words c.in_ok-next.next c.gather.result c.in_ok-next.was
    c.gather.ensures _ (sym c.if-not-all_new.true ∙ rw c.gather.auto.words at c.all_new.ensures)

pub returns-then-not-kinds_of : goal.returns-then-not-kinds_of
returns-then-not-kinds_of c =
    constants_wrong c.args.known.now.s.now c.args.known.now.k c.args.at (length c.args.words.now)
    c.gather.new.words c.in_ok-next.next c.gather.result c.in_ok-next.was
    c.gather.ensures _ (rw (c.gather.auto.words, c.if-not-kinds_of.true) at c.kinds_of.ensures)

pub returns : goal.returns
returns c =
    constants_done c.args.known.now.s.now c.args.known.now.k c.args.at (length c.args.words.now)
    c.gather.new.words c.in_ok-next.next c.gather.result c.in_ok-next.was
    c.gather.ensures _ (sym c.if-not-all_new.false ∙ rw c.gather.auto.words at c.all_new.ensures)
    (rw (c.gather.auto.words, c.if-not-kinds_of.false) at c.kinds_of.ensures)
