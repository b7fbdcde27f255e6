-- `begin_ctx` meets its contract.
use Rattle.step_scopes.proofs.Scopes as ways
use Rattle.step_scopes.proofs.begin_ctx.Goals as goal

pub returns : goal.returns
returns c =
    let a = c.args in ways.entered_as a.level a.name a.arity _ a.kind _ _ c.from.ensures
    (ways.entered a.level a.name a.arity _ _ _ c.requires.0 c.begin_ctx.ensures)
