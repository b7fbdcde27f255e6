-- `end_ctx` meets its contract.
use Rattle.state_levels.proofs.Opening as ways
use Rattle.state_levels.proofs.end_ctx.Goals as goal

pub returns : goal.returns
returns c = let a = c.args in ways.closed a.t.now a.level c.requires.0 c.requires.1
