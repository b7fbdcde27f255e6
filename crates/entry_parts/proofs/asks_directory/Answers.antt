-- `asks_directory` is the rules' bit.
use Rattle.std.proofs.Common.{refl}
use Rattle.rules.specs.Entry.{asks_directory}
use Rattle.entry_parts.proofs.asks_directory.Goals as goal

pub returns : goal.returns
unfolding asks_directory
returns c = refl
