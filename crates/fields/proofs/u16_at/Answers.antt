-- `u16_at` meets its contract.
use Rattle.fields.specs.Words.{word16}
use borrow.Author.Rules.{rules}
use Rattle.fields.proofs.u16_at.Goals as goal

pub returns : goal.returns
unfolding word16
returns c = search rules
