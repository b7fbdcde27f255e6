-- `u32_at` meets its contract.
use Rattle.fields.specs.Words.{word32}
use borrow.Author.Rules.{rules}
use Rattle.fields.proofs.u32_at.Goals as goal

pub returns : goal.returns
unfolding word32
returns c = search rules
