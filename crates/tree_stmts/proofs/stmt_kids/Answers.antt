-- `stmt_kids` meets its contract: one law for each arm.
use mathlib.Core.Path.{refl, ap}
use Rattle.std.specs.Prelude.{Ok}
use Rattle.tree_stmts.proofs.Statements.{by_block, by_class, by_expr, by_fun, by_if, by_for, by_return, by_var, while_left}
use borrow.Author.Rules.{rules}
use Rattle.tree_stmts.proofs.stmt_kids.Goals as goal

pub returns-in-21314 : goal.returns-in-21314
returns-in-21314 c =
    by_block c.args.opened.now.tree.now c.args.names c.args.depth
    c.args.funs c.args.opened.now.start c.body_kids.ensures c.in-21314.is

pub returns-in-21315 : goal.returns-in-21315
returns-in-21315 c =
    by_class c.args.opened.now.tree.now c.args.names c.args.depth
    c.args.funs c.args.opened.now.start c.class_kids.ensures c.in-21315.is

pub returns-in-21317 : goal.returns-in-21317
returns-in-21317 c =
    by_expr c.args.opened.now.tree.now c.args.names c.args.depth
    c.args.funs c.args.opened.now.start refl c.in-21317.is

pub returns-in-21318 : goal.returns-in-21318
returns-in-21318 c =
    by_fun c.args.opened.now.tree.now c.args.names c.args.depth
    c.args.funs c.args.opened.now.start c.fun_kids.ensures c.in-21318.is

pub returns-in-21321 : goal.returns-in-21321
returns-in-21321 c =
    by_if c.args.opened.now.tree.now c.args.names c.args.depth
    c.args.funs c.args.opened.now.start c.if_kids.ensures c.in-21321.is

pub returns-in-21327 : goal.returns-in-21327
returns-in-21327 c =
    by_for c.args.opened.now.tree.now c.args.names c.args.depth
    c.args.funs c.args.opened.now.start c.for_kids.ensures c.in-21327.is

pub returns-in-21330 : goal.returns-in-21330
returns-in-21330 c =
    by_return c.args.opened.now.tree.now c.args.names c.args.depth
    c.args.funs c.args.opened.now.start c.value_kids.ensures c.in-21330.is

pub returns-in-21334 : goal.returns-in-21334
returns-in-21334 c =
    by_var c.args.opened.now.tree.now c.args.names c.args.depth
    c.args.funs c.args.opened.now.start c.var_kids.ensures c.in-21334.is

pub returns-in_default : goal.returns-in_default
returns-in_default c =
    while_left c.args.opened.now.tree.now c.args.names c.args.depth c.args.funs c.args.opened.now.start (ap Ok c.planned.ensures)
    (search rules) (search rules) (search rules) (search rules) (search rules) (search rules) (search rules) (search rules)
