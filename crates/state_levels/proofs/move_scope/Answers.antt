-- `move_scope` meets its contract.
use Rattle.state_levels.proofs.Opening as ways
use Rattle.state_levels.proofs.move_scope.Goals as goal

pub returns : goal.returns
returns c = let a = c.args in let p = c.requires in ways.moved a.t.now a.level a.depth p.0 p.1 p.2
