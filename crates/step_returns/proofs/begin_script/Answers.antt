-- `begin_script` meets its contract.
use Rattle.step_returns.proofs.Start.{started}
use Rattle.step_returns.proofs.begin_script.Goals as goal

pub returns : goal.returns
returns c = started _ c.clear_levels.ensures
