-- `check` meets its contract.
use mathlib.Core.Path.{sym, ◌∙◌}
use Rattle.image.proofs.Whole.{check_no, check_yes}
use Rattle.image.proofs.check.Goals as goal

pub returns-in_default : goal.returns-in_default
returns-in_default c =
    c.refused.ensures ∙ check_no c.args.image.now (sym c.in_default.is ∙ c.count_of.ensures)

pub returns : goal.returns
returns c =
    c.accepted.ensures ∙ check_yes c.args.image.now _ _ (sym c.in-Some.is ∙ c.count_of.ensures)
