-- `end_ctx` meets its contract.
use Rattle.step_scopes.proofs.Scopes as ways
use Rattle.step_scopes.proofs.end_ctx.Goals as goal

pub returns : goal.returns
returns c =
    let a = c.args in ways.left a.level a.t.now _ c.requires.0 c.requires.1
    c.requires.2 c.end_ctx.ensures
