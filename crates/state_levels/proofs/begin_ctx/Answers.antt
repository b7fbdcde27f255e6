-- `begin_ctx` meets its contract.
use Rattle.state_levels.proofs.Opening as ways
use Rattle.state_levels.proofs.begin_ctx.Goals as goal

pub returns : goal.returns
returns c = let a = c.args in let p = c.requires in rw c.number.ensures (ways.began a.t.now a.level a.name a.arity _ p.0 p.1 p.2)
