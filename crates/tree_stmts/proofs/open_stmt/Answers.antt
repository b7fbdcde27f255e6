-- `open_stmt` meets its contract: one law for each way out.
use mathlib.Core.Path.{sym, ap, ◌∙◌}
use mathlib.Core.Bool.{not}
use Rattle.tree_small.proofs.Places.{cut, there}
use Rattle.tree_stmts.proofs.Statements.{stmt_known, no_stmt, deep_stmt, full_stmt, cut_stmt, opens_bad, opens_kids, some_left}
use Rattle.tree_stmts.proofs.open_stmt.Goals as goal
use Rattle.tree_stmts.proofs.open_stmt.Goals.{then-mark-eq-FUN+else-funs-eq0, else-mark-eq-FUN}

pub returns-in_default : goal.returns-in_default
returns-in_default c =
    opens_bad c.args.tree.now c.args.names c.args.depth
    c.args.funs c.args.method c.args.start
    (no_stmt c.args.tree.now c.args.names c.args.depth
    c.args.funs c.args.method c.args.start (sym c.stmt_mark.ensures ∙ c.in_default.is))

pub returns-then-depth-eq0 : goal.returns-then-depth-eq0
returns-then-depth-eq0 c =
    opens_bad c.args.tree.now c.args.names c.args.depth c.args.funs
    c.args.method c.args.start
    (deep_stmt c.args.tree.now c.args.names c.args.depth c.args.funs
    c.args.method c.args.start
    (stmt_known c.args.tree.now c.args.start c.args.method
    (sym c.stmt_mark.ensures ∙ c.in-Some.is)) c.if-depth-eq0.true)

pub returns-then-funs-eq0 : goal.returns-then-funs-eq0
returns-then-funs-eq0 c =
    opens_bad c.args.tree.now c.args.names c.args.depth c.args.funs
    c.args.method c.args.start
    (full_stmt c.args.tree.now c.args.names c.args.depth c.args.funs
    c.args.method c.args.start
    (stmt_known c.args.tree.now c.args.start c.args.method
    (sym c.stmt_mark.ensures ∙ c.in-Some.is)) c.if-depth-eq0.false c.if-mark-eq-FUN.true c.if-funs-eq0.true)

pub returns-then-not-has : goal.returns-then-not-has
returns-then-not-has c =
    opens_bad c.args.tree.now c.args.names c.args.depth c.args.funs
    c.args.method c.args.start
    (cut_stmt c.args.tree.now c.args.names c.args.depth c.args.funs
    c.args.method c.args.start
    (stmt_known c.args.tree.now c.args.start c.args.method
    (sym c.stmt_mark.ensures ∙ c.in-Some.is)) c.if-depth-eq0.false
    (λ e. elim c.if-mark-eq-FUN.branch [ then-mark-eq-FUN+else-funs-eq0 w ↦ some_left w.if-funs-eq0.false | else-mark-eq-FUN w ↦ absurd (w.if-mark-eq-FUN.false e) ])
    (cut c.has.ensures (ap not c.if-not-has.true)))

pub returns : goal.returns
returns c =
    opens_kids c.args.tree.now c.args.names c.args.depth
    c.args.funs c.args.method c.args.start
    (stmt_known c.args.tree.now c.args.start c.args.method
    (sym c.stmt_mark.ensures ∙ c.in-Some.is)) c.if-depth-eq0.false
    (λ e. elim c.if-mark-eq-FUN.branch [ then-mark-eq-FUN+else-funs-eq0 w ↦ some_left w.if-funs-eq0.false | else-mark-eq-FUN w ↦ absurd (w.if-mark-eq-FUN.false e) ])
    (there c.has.ensures (ap not c.if-not-has.false)) c.stmt_kids.ensures
