-- `name_at` meets its contract.
use mathlib.Core.Bool.{not}
use mathlib.Core.Path.{ap}
use native.Mathlib.Omega.{arith}
use Rattle.std.specs.Prelude.{Some}
use Rattle.tree_small.proofs.Places.{cut, there, told, name_cut, name_big, name_is}
use Rattle.tree_small.proofs.name_at.Goals as goal

pub returns-then-not-has : goal.returns-then-not-has
returns-then-not-has c = name_cut c.args.tree.now c.args.names c.args.at (cut c.has.ensures (ap not c.if-not-has.true))

pub returns-then-names-n : goal.returns-then-names-n
returns-then-names-n c =
    name_big c.args.tree.now c.args.names c.args.at
    (there c.has.ensures (ap not c.if-not-has.false)) (omega (arith, c.u16_at-n.ensures, c.if-names-n.true))

pub returns : goal.returns
returns c =
    told (ap Some c.u16_at-n.ensures) (name_is c.args.tree.now c.args.names c.args.at
    (there c.has.ensures (ap not c.if-not-has.false)) (omega (arith, c.u16_at-n.ensures, c.if-names-n.false)))
