-- `planned` meets its contract.
use mathlib.Core.Path.{refl}
use Rattle.tree_stmts.specs.Stmts.{plain}
use Rattle.tree_stmts.proofs.planned.Goals as goal

pub returns : goal.returns
unfolding plain
returns c = refl
