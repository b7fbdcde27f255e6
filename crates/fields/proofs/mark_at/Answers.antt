-- `mark_at` meets its contract.
use Rattle.fields.specs.Words.{letters}
use borrow.Author.Rules.{rules}
use Rattle.fields.proofs.mark_at.Goals as goal

pub returns : goal.returns
unfolding letters
returns c = search rules
