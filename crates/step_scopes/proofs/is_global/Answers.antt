-- `is_global` meets its contract.
use mathlib.Core.Path.{refl}
use Rattle.step_scopes.proofs.Scopes as ways
use Rattle.step_scopes.proofs.is_global.Goals as goal

pub returns : goal.returns
returns c = let a = c.args in ways.global_asked a.level a.t.now _ refl
