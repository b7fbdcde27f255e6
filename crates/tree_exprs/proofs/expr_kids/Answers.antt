-- `expr_kids` meets its contract: one law for each arm.
use Rattle.std.proofs.Common.{rules, ◌≡◌, ◌∙◌, Err, arith}
use Rattle.tree_exprs.proofs.Expressions.{named_one, named_two, named_super, named_var, operated_one, operated_two, calls, literal_left, after, step_bad, step_at}
use Rattle.tree_exprs.proofs.expr_kids.Goals as goal

pub returns-in-17729 : goal.returns-in-17729
returns-in-17729 c =
    named_one c.args.opened.now.tree.now c.args.names c.args.opened.now.start
    (after 1 c.args.opened.now.start c.name_at.ensures c.followed.ensures (omega arith)) c.in-17729.is

pub returns-in-17731 : goal.returns-in-17731
returns-in-17731 c = calls c.args.opened.now.tree.now c.args.names c.args.opened.now.start c.called.ensures c.in-17731.is

pub returns-in-17737 : goal.returns-in-17737
returns-in-17737 c =
    operated_two c.args.opened.now.tree.now c.args.names c.args.opened.now.start
    (after 2 c.args.opened.now.start c.byte_at.ensures c.followed-in-17737.ensures (omega arith)) c.in-17737.is

pub returns-in-17744 : goal.returns-in-17744
returns-in-17744 c =
    operated_one c.args.opened.now.tree.now c.args.names c.args.opened.now.start
    (after 1 c.args.opened.now.start c.byte_at-in-17744.ensures c.followed-in-17744.ensures (omega arith)) c.in-17744.is

pub returns-in-17747 : goal.returns-in-17747
returns-in-17747 c =
    named_two c.args.opened.now.tree.now c.args.names c.args.opened.now.start
    (after 2 c.args.opened.now.start c.name_at-in-17747.ensures c.followed-in-17747.ensures (omega arith)) c.in-17747.is

pub returns-in-17749 : goal.returns-in-17749
returns-in-17749 c =
    named_super c.args.opened.now.tree.now c.args.names c.args.opened.now.start
    (after 0 c.args.opened.now.start c.name_at-in-17749.ensures c.followed-in-17749.ensures (omega arith)) c.in-17749.is

pub returns-in-17750 : goal.returns-in-17750
returns-in-17750 c =
    named_var c.args.opened.now.tree.now c.args.names c.args.opened.now.start
    (after 0 c.args.opened.now.start c.name_at-in-17750.ensures c.followed-in-17750.ensures (omega arith)) c.in-17750.is

pub returns-in_err-literal_at-in_default : goal.returns-in_err-literal_at-in_default
returns-in_err-literal_at-in_default c =
    let q : c.from_residual.result ≡ Err c.in_err-literal_at-in_default.field-0.0 = search rules in
    literal_left c.args.opened.now.tree.now c.args.names c.args.opened.now.start
    (λ s. q ∙ step_bad 0 (c.literal_at.ensures s) c.in_err-literal_at-in_default.was)
    (search rules) (search rules) (search rules) (search rules) (search rules) (search rules) (search rules)

pub returns-in_ok-literal_at-in_default : goal.returns-in_ok-literal_at-in_default
returns-in_ok-literal_at-in_default c =
    literal_left c.args.opened.now.tree.now c.args.names c.args.opened.now.start
    (λ s. step_at 0 (c.literal_at.ensures s) c.in_ok-literal_at-in_default.was)
    (search rules) (search rules) (search rules) (search rules) (search rules) (search rules) (search rules)
