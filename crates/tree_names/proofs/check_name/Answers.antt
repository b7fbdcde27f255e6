-- `check_name` meets its contract: one law for each way out.
use mathlib.Core.Path.{ap}
use mathlib.Core.Bool.{not}
use mathlib.Core.Path.{sym, ◌∙◌}
use Prim.Native.Nat.{◌+◌}
use native.Mathlib.Omega.{arith}
use borrow.Author.Tests.{not-true, not-false}
use Rattle.tree_names.specs.Names.{text, last_name}
use Rattle.tree_small.proofs.Places.{cut, there}
use Rattle.tree_names.proofs.Texts.{name_cut, name_not, text_cut, not_above, not_written, name_is, fixed_in, read_bad, read_good}
use Rattle.tree_names.proofs.check_name.Goals as goal

pub returns-then-not-has : goal.returns-then-not-has
returns-then-not-has c =
    read_bad c.args.tree.now c.args.last c.args.at
    (name_cut c.args.tree.now
    (last_name c.args.tree.now c.args.last c.args.at)
    c.args.at (cut c.has.ensures (ap not c.if-not-has.true)))

pub returns-then-mark_at-ne-NAME : goal.returns-then-mark_at-ne-NAME
returns-then-mark_at-ne-NAME c =
    read_bad c.args.tree.now c.args.last c.args.at
    (name_not c.args.tree.now (last_name c.args.tree.now c.args.last
    c.args.at) c.args.at (there c.has.ensures (ap not c.if-not-has.false))
    (λ e. c.if-mark_at-ne-NAME.true (c.mark_at.ensures ∙ e)))

pub returns-then-not-has-2 : goal.returns-then-not-has-2
returns-then-not-has-2 c =
    read_bad c.args.tree.now c.args.last c.args.at
    (text_cut c.args.tree.now (last_name c.args.tree.now c.args.last
    c.args.at) c.args.at c.u16_at-size.result
    (there c.has.ensures (ap not c.if-not-has.false))
    (sym c.mark_at.ensures ∙ c.if-mark_at-ne-NAME.false) c.u16_at-size.ensures (cut c.has-2.ensures (ap not c.if-not-has-2.true)))

pub returns-then-not-is_above : goal.returns-then-not-is_above
unfolding text
returns-then-not-is_above c =
    read_bad c.args.tree.now c.args.last c.args.at
    (not_above c.args.tree.now (last_name c.args.tree.now c.args.last
    c.args.at) c.args.at c.u16_at-size.result
    (there c.has.ensures (ap not c.if-not-has.false)) (sym c.mark_at.ensures ∙ c.if-mark_at-ne-NAME.false)
    c.u16_at-size.ensures (there c.has-2.ensures (ap not c.if-not-has-2.false))
    (sym c.is_above.ensures ∙ not-true c.is_above.result (ap not c.if-not-is_above.true)))

pub returns-then-not-may_be_written : goal.returns-then-not-may_be_written
unfolding text
returns-then-not-may_be_written c =
    read_bad c.args.tree.now c.args.last c.args.at
    (not_written c.args.tree.now (last_name c.args.tree.now c.args.last
    c.args.at) c.args.at c.u16_at-size.result
    (there c.has.ensures (ap not c.if-not-has.false)) (sym c.mark_at.ensures ∙ c.if-mark_at-ne-NAME.false)
    c.u16_at-size.ensures (there c.has-2.ensures (ap not c.if-not-has-2.false))
    (sym c.is_above.ensures ∙ not-false c.is_above.result (ap not c.if-not-is_above.false))
    (fixed_in c.args.tree.now _ _ ∙ sym c.may_be_written.ensures ∙ not-true c.may_be_written.result (ap not c.if-not-may_be_written.true)))

pub returns : goal.returns
unfolding text
returns c =
    read_good c.args.tree.now c.args.last c.args.at
    (c.args.at + 4 + c.u16_at-size.result)
    (name_is c.args.tree.now (last_name c.args.tree.now c.args.last
    c.args.at) c.args.at c.u16_at-size.result
    (there c.has.ensures (ap not c.if-not-has.false)) (sym c.mark_at.ensures ∙ c.if-mark_at-ne-NAME.false)
    c.u16_at-size.ensures (there c.has-2.ensures (ap not c.if-not-has-2.false))
    (sym c.is_above.ensures ∙ not-false c.is_above.result (ap not c.if-not-is_above.false))
    (fixed_in c.args.tree.now _ _ ∙ sym c.may_be_written.ensures ∙ not-false c.may_be_written.result
    (ap not c.if-not-may_be_written.false))) (omega arith) (there c.has-2.ensures (ap not c.if-not-has-2.false))
