-- `drop_local` meets its contract.
use native.Mathlib.Omega.{arith}
use Rattle.state_names.proofs.Declare as ways
use Rattle.state_names.proofs.drop_local.Goals as goal

pub returns : goal.returns
returns c = let a = c.args in let p = c.requires in ways.dropped a.t.now a.level p.0 p.1 _ (omega (arith, p.2))
