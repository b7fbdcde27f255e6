use Rattle.state.proofs.Numbers.{numbers}
use Rattle.state.proofs.Kind.number.Goals as goal

pub returns : goal.returns
returns c = numbers c.args.self
