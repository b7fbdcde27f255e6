-- `span_at` meets its contract.
use Rattle.fields.specs.Words.{span_of}
use Rattle.fields.proofs.span_at.Goals as goal

pub returns : goal.returns
unfolding span_of
returns c = cc
