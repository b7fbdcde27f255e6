-- `slot_zero` meets its contract.
use Rattle.std.proofs.Common.{rules}
use Rattle.stmt_opening.proofs.Names.{method_slot, function_slot}
use Rattle.stmt_opening.proofs.slot_zero.Goals as goal

pub returns-in-Initializer : goal.returns-in-Initializer
returns-in-Initializer c = method_slot _ _ (search rules)

pub returns-in-Script : goal.returns-in-Script
returns-in-Script c = function_slot _ _ (search rules)
