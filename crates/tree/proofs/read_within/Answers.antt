-- `read_within` meets its contract: one law for each way out.
use mathlib.Core.Bool.{not}
use mathlib.Core.Path.{sym, ap, ◌∙◌}
use native.Mathlib.Omega.{arith}
use lib.ListN.{length}
use borrow.Author.Tests.{eq-eqb, ne_eqb}
use Rattle.std.proofs.Common.{rules, ◌≡◌, Err}
use Rattle.tree_small.proofs.Places.{cut, there}
use Rattle.tree.proofs.Whole.{ends, file_cut, mark_not, too_many, names_bad, to_the_end, checked_bad}
use Rattle.tree.proofs.read_within.Goals as goal

pub returns-then-not-has : goal.returns-then-not-has
returns-then-not-has c =
    checked_bad c.args.tree.now
    (file_cut c.args.tree.now c.args.depth c.args.funs (cut c.has.ensures (ap not c.if-not-has.true)))

pub returns-then-mark_at-ne-TREE : goal.returns-then-mark_at-ne-TREE
returns-then-mark_at-ne-TREE c =
    checked_bad c.args.tree.now (mark_not c.args.tree.now c.args.depth c.args.funs
    (omega (arith, there {a = 6} {b = length c.args.tree.now} c.has.ensures (ap not c.if-not-has.false)))
    (λ e. c.if-mark_at-ne-TREE.true (c.mark_at.ensures ∙ e)))

pub returns-then-names-gt-NAMES : goal.returns-then-names-gt-NAMES
returns-then-names-gt-NAMES c =
    checked_bad c.args.tree.now (too_many c.args.tree.now c.args.depth c.args.funs
    (there {a = 6} {b = length c.args.tree.now} c.has.ensures (ap not c.if-not-has.false))
    (sym c.mark_at.ensures ∙ c.if-mark_at-ne-TREE.false) (omega (arith, c.u16_at-names.ensures, c.if-names-gt-NAMES.true)))

pub returns-in_err-at : goal.returns-in_err-at
returns-in_err-at c =
    let q : c.from_residual.result ≡ Err c.in_err-at.field-0.0 = search rules in
    q ∙ checked_bad c.args.tree.now (names_bad c.args.tree.now c.args.depth c.args.funs
    (there {a = 6} {b = length c.args.tree.now} c.has.ensures (ap not c.if-not-has.false))
    (sym c.mark_at.ensures ∙ c.if-mark_at-ne-TREE.false)
    (omega (arith, c.u16_at-names.ensures, c.if-names-gt-NAMES.false))
    c.u16_at-names.ensures c.in_err-at.ensures)

pub returns-in_err-end : goal.returns-in_err-end
unfolding ends
returns-in_err-end c =
    let q : c.from_residual-in_err-end.result ≡ Err c.in_err-end.field-0.0 = search rules in
    q ∙ to_the_end c.args.tree.now c.args.depth c.args.funs
    (there {a = 6} {b = length c.args.tree.now} c.has.ensures (ap not c.if-not-has.false))
    (sym c.mark_at.ensures ∙ c.if-mark_at-ne-TREE.false)
    (omega (arith, c.u16_at-names.ensures, c.if-names-gt-NAMES.false))
    c.u16_at-names.ensures c.u16_at-count.ensures c.in_ok-at.ensures c.in_err-end.ensures

pub returns-then-end-tree : goal.returns-then-end-tree
unfolding ends
returns-then-end-tree c =
    rw (ne_eqb c.in_ok-end.end (length c.args.tree.now) c.if-end-tree.true) at
    (to_the_end c.args.tree.now c.args.depth c.args.funs
    (there {a = 6} {b = length c.args.tree.now} c.has.ensures (ap not c.if-not-has.false))
    (sym c.mark_at.ensures ∙ c.if-mark_at-ne-TREE.false)
    (omega (arith, c.u16_at-names.ensures, c.if-names-gt-NAMES.false))
    c.u16_at-names.ensures c.u16_at-count.ensures c.in_ok-at.ensures c.in_ok-end.ensures)

pub returns : goal.returns
unfolding ends
returns c =
    rw (eq-eqb c.in_ok-end.end (length c.args.tree.now) c.if-end-tree.false) at
    (to_the_end c.args.tree.now c.args.depth c.args.funs
    (there {a = 6} {b = length c.args.tree.now} c.has.ensures (ap not c.if-not-has.false))
    (sym c.mark_at.ensures ∙ c.if-mark_at-ne-TREE.false)
    (omega (arith, c.u16_at-names.ensures, c.if-names-gt-NAMES.false))
    c.u16_at-names.ensures c.u16_at-count.ensures c.in_ok-at.ensures c.in_ok-end.ensures)
