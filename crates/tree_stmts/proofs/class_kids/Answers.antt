-- `class_kids` meets its contract: one law for each way out.
use Rattle.std.proofs.Common.{rules, ◌≡◌, ap, Ok, Err}
use native.Mathlib.Omega.{arith}
use Rattle.rules.specs.declared.Refusal.TheVariants.{TreeForm}
use Rattle.tree_stmts.proofs.Statements.{moved, class_unnamed, class_no, class_cut, class_plain, class_super_bad, class_super}
use Rattle.tree_stmts.proofs.class_kids.Goals as goal

pub returns-in_default : goal.returns-in_default
returns-in_default c =
    class_unnamed c.args.opened.now.tree.now c.args.opened.now.start c.args.funs
    c.args.names c.args.depth (c.name_at.ensures.no c.in_default.is (TreeForm c.args.opened.now.start))

pub returns-in_default-byte_at : goal.returns-in_default-byte_at
returns-in_default-byte_at c =
    class_no c.args.opened.now.tree.now c.args.opened.now.start c.args.funs
    c.args.names c.args.depth
    (moved (c.name_at.ensures.is _ c.in-Some.is
    (TreeForm c.args.opened.now.start)) (omega arith)) (c.byte_at.ensures.no c.in_default-byte_at.is (TreeForm c.args.opened.now.start))

pub returns-in_default-count_at : goal.returns-in_default-count_at
returns-in_default-count_at c =
    class_cut c.args.opened.now.tree.now c.args.opened.now.start c.args.funs
    c.args.names c.args.depth
    (moved (c.name_at.ensures.is _ c.in-Some.is
    (TreeForm c.args.opened.now.start)) (omega arith))
    (c.byte_at.ensures.small _ c.in-Some-byte_at.is)
    (moved (c.byte_at.ensures.is _ c.in-Some-byte_at.is
    (TreeForm c.args.opened.now.start)) (omega arith)) (c.count_at.ensures.no c.in_default-count_at.is (TreeForm c.args.opened.now.start))

pub returns-then-has_super-eq0 : goal.returns-then-has_super-eq0
returns-then-has_super-eq0 c =
    class_plain c.args.opened.now.tree.now c.args.opened.now.start c.args.funs c.args.names
    c.args.depth (moved (c.name_at.ensures.is _ c.in-Some.is
    (TreeForm c.args.opened.now.start)) (omega arith))
    (c.byte_at.ensures.small _ c.in-Some-byte_at.is)
    (moved (c.byte_at.ensures.is _ c.in-Some-byte_at.is (TreeForm c.args.opened.now.start))
    (omega arith)) (moved (c.count_at.ensures.is _ c.in-Some-count_at.is
    (TreeForm c.args.opened.now.start)) (omega arith)) c.if-has_super-eq0.true (ap Ok c.planned.ensures)

pub returns-in_err-next : goal.returns-in_err-next
returns-in_err-next c =
    let q : c.from_residual.result ≡ Err c.in_err-next.field-0.0 = search rules in
    rw q (class_super_bad c.args.opened.now.tree.now c.args.opened.now.start c.args.funs
    c.args.names c.args.depth
    (moved (c.name_at.ensures.is _ c.in-Some.is
    (TreeForm c.args.opened.now.start)) (omega arith))
    (c.byte_at.ensures.small _ c.in-Some-byte_at.is)
    (moved (c.byte_at.ensures.is _ c.in-Some-byte_at.is
    (TreeForm c.args.opened.now.start)) (omega arith))
    (moved (c.count_at.ensures.is _ c.in-Some-count_at.is
    (TreeForm c.args.opened.now.start)) (omega arith)) c.if-has_super-eq0.false c.superclass.ensures c.in_err-next.was)

pub returns : goal.returns
returns c =
    class_super c.args.opened.now.tree.now c.args.opened.now.start c.args.funs c.args.names
    c.args.depth (moved (c.name_at.ensures.is _ c.in-Some.is
    (TreeForm c.args.opened.now.start)) (omega arith))
    (c.byte_at.ensures.small _ c.in-Some-byte_at.is)
    (moved (c.byte_at.ensures.is _ c.in-Some-byte_at.is (TreeForm c.args.opened.now.start))
    (omega arith)) (moved (c.count_at.ensures.is _ c.in-Some-count_at.is
    (TreeForm c.args.opened.now.start)) (omega arith)) c.if-has_super-eq0.false c.superclass.ensures
    c.in_ok-next.was (ap Ok c.planned-2.ensures)
