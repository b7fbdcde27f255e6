-- `u64_at` meets its contract.
use Rattle.fields.specs.Words.{word64}
use borrow.Author.Rules.{rules}
use Rattle.fields.proofs.u64_at.Goals as goal

pub returns : goal.returns
unfolding word64
returns c = search rules
