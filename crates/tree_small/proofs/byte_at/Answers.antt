-- `byte_at` meets its contract.
use mathlib.Core.Bool.{not}
use mathlib.Core.Path.{ap}
use native.Mathlib.Omega.{arith}
use Rattle.std.specs.Prelude.{Some}
use Rattle.tree_small.proofs.Places.{cut, there, told, byte_cut, byte_big, byte_is}
use Rattle.tree_small.proofs.byte_at.Goals as goal

pub returns-then-not-has : goal.returns-then-not-has
returns-then-not-has c = byte_cut c.args.tree.now c.args.most c.args.at (cut c.has.ensures (ap not c.if-not-has.true))

pub returns-then-most-byte : goal.returns-then-most-byte
returns-then-most-byte c =
    byte_big c.args.tree.now c.args.most c.args.at
    (there c.has.ensures (ap not c.if-not-has.false)) (omega (arith, c.u8_at-byte.ensures, c.if-most-byte.true))

pub returns : goal.returns
returns c =
    told (ap Some c.u8_at-byte.ensures) (byte_is c.args.tree.now c.args.most c.args.at
    (there c.has.ensures (ap not c.if-not-has.false)) (omega (arith, c.u8_at-byte.ensures, c.if-most-byte.false)))
