-- `name_word` meets its contract.
use native.Mathlib.Omega.{arith}
use Rattle.state_code.proofs.Constant as words
use Rattle.step_bytes.proofs.name_word.Goals as goal

pub returns : goal.returns
returns c = words.name_word c.args.name (omega arith)
