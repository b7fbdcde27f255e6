-- `define_local` meets its contract.
use Rattle.step_scopes.proofs.Scopes as ways
use Rattle.step_scopes.proofs.define_local.Goals as goal

pub returns : goal.returns
returns c = let a = c.args in ways.defined a.level _ _ c.define_local.ensures
