-- `function_word` meets its contract.
use Rattle.state_code.proofs.Constant as words
use Rattle.step_bytes.proofs.function_word.Goals as goal

pub returns : goal.returns
returns c = words.function_word c.args.number
