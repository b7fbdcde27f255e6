-- `code_length` meets its contract.
use mathlib.Core.Path.{refl}
use Rattle.steps.proofs.Jumps as ways
use Rattle.step_jumps.proofs.code_length.Goals as goal

pub returns : goal.returns
returns c = ways.measured c.args.t.now c.args.level _ refl
