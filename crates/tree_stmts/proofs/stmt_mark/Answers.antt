-- `stmt_mark` meets its contract: what its tests name is what the rules' tables have.
use mathlib.Core.Path.{ap}
use mathlib.Core.Bool.{not}
use mathlib.Core.Path.{refl, sym, ◌∙◌}
use mathlib.Core.List.{◌∷◌, []}
use mathlib.Core.Logic.{⊎_elim}
use Rattle.rules.specs.Base.{lookup, all}
use Rattle.std.specs.Prelude.{if◌then◌else◌}
use Rattle.rules.specs.TreeFile.{stmt_marks}
use Rattle.tree_stmts.specs.Stmts.{known_stmt, method_marks}
use Rattle.tree_small.proofs.Places.{cut, there}
use Rattle.tree_small.proofs.Tables.{is_some, inside, outside, known_cut, known_is, known_not}
use Rattle.tree_stmts.proofs.Statements.{known_fun, known_for_method, known_for_stmt}
use borrow.Author.Rules.{rules}
use Rattle.fields.specs.Marks as marks
use Rattle.tree_stmts.proofs.stmt_mark.Goals as goal

pub returns-then-not-has : goal.returns-then-not-has
unfolding known_stmt
returns-then-not-has c =
    sym (known_cut (if c.args.method then method_marks else stmt_marks) c.args.tree.now
    c.args.at (cut c.has.ensures (ap not c.if-not-has.true)))

pub returns-then-mark-eq-FUN : goal.returns-then-mark-eq-FUN
returns-then-mark-eq-FUN c =
    sym (known_fun c.args.tree.now c.args.method c.args.at
    (there c.has.ensures (ap not c.if-not-has.false)) c.mark_at-mark.ensures c.if-mark-eq-FUN.true)

pub returns-then-method : goal.returns-then-method
returns-then-method c =
    sym (known_for_method c.args.tree.now c.args.at c.if-method.true
    (there c.has.ensures (ap not c.if-not-has.false)) c.mark_at-mark.ensures c.if-mark-eq-FUN.false)

pub returns-in-21314 : goal.returns-in-21314
unfolding all lookup stmt_marks is_some
returns-in-21314 c =
    sym (known_for_stmt c.args.tree.now c.args.at c.if-method.false ∙ known_is stmt_marks
    c.args.tree.now c.args.at
    (there c.has.ensures (ap not c.if-not-has.false)) c.mark_at-mark.ensures
    (inside stmt_marks (marks.SB ∷ marks.SE ∷ marks.SO ∷ marks.SR ∷ marks.SV ∷ []) c.mark_at-mark.result refl c.in-21314.is))

pub returns-in-21315 : goal.returns-in-21315
unfolding all lookup stmt_marks is_some
returns-in-21315 c =
    sym (known_for_stmt c.args.tree.now c.args.at c.if-method.false ∙ known_is stmt_marks
    c.args.tree.now c.args.at
    (there c.has.ensures (ap not c.if-not-has.false)) c.mark_at-mark.ensures
    (inside stmt_marks (marks.SC ∷ marks.SI ∷ marks.SP ∷ marks.SW ∷ []) c.mark_at-mark.result refl c.in-21315.is))

pub returns-in_default : goal.returns-in_default
unfolding all stmt_marks
returns-in_default c =
    sym (known_for_stmt c.args.tree.now c.args.at c.if-method.false ∙ known_not stmt_marks
    c.args.tree.now c.args.at
    (there c.has.ensures (ap not c.if-not-has.false)) c.mark_at-mark.ensures
    (outside (marks.SF ∷ marks.SC ∷ marks.SI ∷ marks.SP ∷ marks.SW ∷ marks.SB ∷ marks.SE ∷ marks.SO ∷ marks.SR ∷ marks.SV ∷ []) stmt_marks c.mark_at-mark.result refl
    (⊎_elim c.if-mark-eq-FUN.false (search rules))))
