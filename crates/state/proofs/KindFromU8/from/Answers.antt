-- `from` of a byte meets its contract.
use Rattle.std.proofs.Common.{rules, ap, sym}
use Rattle.state.specs.Kinds.{number_of}
use Rattle.state.specs.Layout.{type_of}
use Rattle.state.proofs.Numbers.{from_three}
use Rattle.state.proofs.KindFromU8.from.Goals as goal

pub returns-in-0 : goal.returns-in-0
unfolding number_of
returns-in-0 c = ap type_of (sym c.in-0.is)

pub returns-in-1 : goal.returns-in-1
unfolding number_of
returns-in-1 c = ap type_of (sym c.in-1.is)

pub returns-in-2 : goal.returns-in-2
unfolding number_of
returns-in-2 c = ap type_of (sym c.in-2.is)

pub returns-in_default : goal.returns-in_default
returns-in_default c = from_three c.args.byte (search rules) (search rules) (search rules)
