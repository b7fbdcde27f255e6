-- `expr_mark` meets its contract: what its `match` names is what the rules' table has.
use Rattle.std.proofs.Common.{rules}
use mathlib.Core.Path.{ap}
use mathlib.Core.Bool.{not}
use mathlib.Core.Path.{refl, sym}
use mathlib.Core.List.{◌∷◌, []}
use Rattle.rules.specs.Base.{lookup, all}
use Rattle.rules.specs.TreeFile.{expr_marks}
use Rattle.tree_small.proofs.Places.{cut, there}
use Rattle.tree_small.proofs.Tables.{is_some, inside, outside, known_cut, known_is, known_not}
use Rattle.fields.specs.Marks as marks
use Rattle.tree_exprs.proofs.expr_mark.Goals as goal

pub returns-then-not-has : goal.returns-then-not-has
returns-then-not-has c = sym (known_cut expr_marks c.args.tree.now c.args.at (cut c.has.ensures (ap not c.if-not-has.true)))

pub returns-in-17729 : goal.returns-in-17729
unfolding all lookup expr_marks is_some
returns-in-17729 c =
    sym (known_is expr_marks c.args.tree.now c.args.at
    (there c.has.ensures (ap not c.if-not-has.false)) c.mark_at-mark.ensures
    (inside expr_marks (marks.EA ∷ marks.EC ∷ marks.EG ∷ marks.EI ∷ marks.EL ∷ marks.EP ∷ marks.ES ∷ marks.EU ∷ []) c.mark_at-mark.result refl c.in-17729.is))

pub returns-in-17750 : goal.returns-in-17750
unfolding all lookup expr_marks is_some
returns-in-17750 c =
    sym (known_is expr_marks c.args.tree.now c.args.at
    (there c.has.ensures (ap not c.if-not-has.false)) c.mark_at-mark.ensures
    (inside expr_marks (marks.EV ∷ []) c.mark_at-mark.result refl c.in-17750.is))

pub returns-in_default : goal.returns-in_default
unfolding all expr_marks
returns-in_default c =
    sym (known_not expr_marks c.args.tree.now c.args.at
    (there c.has.ensures (ap not c.if-not-has.false)) c.mark_at-mark.ensures
    (outside (marks.EV ∷ marks.EA ∷ marks.EC ∷ marks.EG ∷ marks.EI ∷ marks.EL ∷ marks.EP ∷ marks.ES ∷ marks.EU ∷ []) expr_marks c.mark_at-mark.result
    refl (search rules)))
