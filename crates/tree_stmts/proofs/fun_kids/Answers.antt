-- `fun_kids` meets its contract.
use Rattle.std.proofs.Common.{rules, ◌≡◌, Err}
use native.Mathlib.Omega.{arith}
use Rattle.rules.specs.declared.Refusal.TheVariants.{TreeForm}
use Rattle.tree_stmts.proofs.Statements.{moved, fun_unnamed, fun_cut, fun_params_bad, fun_is}
use Rattle.tree_stmts.proofs.fun_kids.Goals as goal

pub returns-in_default : goal.returns-in_default
returns-in_default c =
    fun_unnamed c.args.opened.now.tree.now c.args.opened.now.start c.args.funs
    c.args.names (c.name_at.ensures.no c.in_default.is (TreeForm c.args.opened.now.start))

pub returns-in_default-count_at : goal.returns-in_default-count_at
returns-in_default-count_at c =
    fun_cut c.args.opened.now.tree.now c.args.opened.now.start c.args.funs
    c.args.names (moved (c.name_at.ensures.is _ c.in-Some.is
    (TreeForm c.args.opened.now.start)) (omega arith)) (c.count_at.ensures.no c.in_default-count_at.is (TreeForm c.args.opened.now.start))

pub returns-in_err-next : goal.returns-in_err-next
returns-in_err-next c =
    let q : c.from_residual.result ≡ Err c.in_err-next.field-0.0 = search rules in
    rw q (fun_params_bad c.args.opened.now.tree.now c.args.opened.now.start c.args.funs
    c.args.names (moved (c.name_at.ensures.is _ c.in-Some.is
    (TreeForm c.args.opened.now.start)) (omega arith))
    (moved (c.count_at.ensures.is _ c.in-Some-count_at.is
    (TreeForm c.args.opened.now.start)) (omega arith)) c.names_at.ensures c.in_err-next.was)

pub returns : goal.returns
returns c =
    fun_is c.args.opened.now.tree.now c.args.opened.now.start c.args.funs c.args.names
    (moved (c.name_at.ensures.is _ c.in-Some.is (TreeForm c.args.opened.now.start))
    (omega arith)) (moved (c.count_at.ensures.is _ c.in-Some-count_at.is
    (TreeForm c.args.opened.now.start)) (omega arith)) c.names_at.ensures c.in_ok-next.was c.body_kids.ensures
