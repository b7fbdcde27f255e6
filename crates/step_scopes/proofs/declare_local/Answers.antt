-- `declare_local` meets its contract.
use Rattle.std.proofs.Common.{rules}
use Rattle.step_scopes.proofs.Scopes as ways
use Rattle.step_scopes.proofs.declare_local.Goals as goal

pub returns-in-Ok : goal.returns-in-Ok
returns-in-Ok c = let a = c.args in ways.declared_new a.level a.next a.name a.span _ _ _ c.declare_local-r.ensures c.in-Ok.is

pub returns-in-Err-Already : goal.returns-in-Err-Already
returns-in-Err-Already c =
    let a = c.args in ways.declared_again a.level a.next a.name a.span _ _ _ c.declare_local-r.ensures (search rules)

pub returns-in-Err-Full : goal.returns-in-Err-Full
returns-in-Err-Full c = let a = c.args in ways.declared_full a.level a.next a.name a.span _ _ _ c.declare_local-r.ensures (search rules)
