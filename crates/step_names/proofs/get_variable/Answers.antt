-- `get_variable` meets its contract.
use mathlib.Core.Path.{sym, ◌∙◌}
use Rattle.steps.proofs.Steps.{stop, anew}
use Rattle.step_names.proofs.Names as ways
use Rattle.step_names.proofs.get_variable.Goals as goal

pub returns-then-lost_this-clause-does : goal.returns-then-lost_this-clause-does
returns-then-lost_this-clause-does c = let a = c.args in stop _ (ways.lost a.limit a.name a.span a.class (sym c.lost_this.ensures ∙ c.if-lost_this.true) _)

pub returns-in_default-clause-does : goal.returns-in_default-clause-does
returns-in_default-clause-does c =
    let a = c.args in ways.kept_on a.limit a.name a.span a.class
    (sym c.lost_this.ensures ∙ c.if-lost_this.false) (c.access_variable-a.ensures.does a.class)

pub returns-clause-does : goal.returns-clause-does
returns-clause-does c =
    let a = c.args in ways.kept_on a.limit a.name a.span a.class
    (sym c.lost_this.ensures ∙ c.if-lost_this.false) (anew (c.access_variable-a.ensures.does a.class) c.in-Ok.is)
