-- `check_names` meets its contract. The loop: what is left comes to what there was, and the last name is where the code has it.
use Rattle.std.proofs.Common.{rules, ◌≡◌, ◌∙◌, Err}
use Rattle.tree_names.proofs.Texts.{names_begin, names_stop, names_go, names_end}
use Rattle.tree_names.proofs.check_names.Goals as goal

pub loop-init : goal.loop-init
loop-init c = names_begin c.requires

pub returns-in_err-past : goal.returns-in_err-past
returns-in_err-past c =
    let q : c.from_residual.result ≡ Err c.in_err-past.field-0.0 = search rules in
    q ∙ names_stop c.loop.invariant c.loop-test.true c.in_err-past.ensures

pub loop-preserved : goal.loop-preserved
loop-preserved c = names_go c.loop.invariant c.loop-test.true c.in_ok-past.ensures

pub returns : goal.returns
returns c = names_end c.loop.invariant c.loop-test.false
