-- `from` of a kind meets its contract.
use Rattle.state.proofs.Numbers.{numbers}
use Rattle.state.proofs.U8FromKind.from.Goals as goal

pub returns : goal.returns
returns c = numbers c.args.kind
