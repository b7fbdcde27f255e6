-- `begin_scope` meets its contract.
use mathlib.Core.Path.{refl}
use Rattle.step_scopes.proofs.Scopes as ways
use Rattle.step_scopes.proofs.begin_scope.Goals as goal

pub returns : goal.returns
returns c = let a = c.args in ways.scope_begun a.level _ _ _ c.move_scope.ensures refl
