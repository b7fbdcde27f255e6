-- `count_at` meets its contract.
use mathlib.Core.Bool.{not}
use mathlib.Core.Path.{ap}
use native.Mathlib.Omega.{arith}
use Rattle.std.specs.Prelude.{Some}
use Rattle.tree_small.proofs.Places.{cut, there, told, count_cut, count_is}
use Rattle.tree_small.proofs.count_at.Goals as goal

pub returns-then-not-has : goal.returns-then-not-has
returns-then-not-has c = count_cut c.args.tree.now c.args.at (cut c.has.ensures (ap not c.if-not-has.true))

pub returns : goal.returns
returns c =
    told (ap Some c.u16_at.ensures) (count_is c.args.tree.now c.args.at
    (there c.has.ensures (ap not c.if-not-has.false)) (omega (arith, c.u16_at.ensures, c.u16_at.type_inv)))
