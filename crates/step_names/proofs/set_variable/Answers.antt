-- `set_variable` meets its contract.
use Rattle.rules.specs.Compiler.{set_variable}
use Rattle.steps.proofs.Steps.{anew}
use Rattle.step_names.proofs.set_variable.Goals as goal

pub returns-in_default-clause-does : goal.returns-in_default-clause-does
unfolding set_variable
returns-in_default-clause-does c = c.access_variable-a.ensures.does

pub returns-clause-does : goal.returns-clause-does
unfolding set_variable
returns-clause-does c = λ class. anew (c.access_variable-a.ensures.does class) c.in-Ok.is
