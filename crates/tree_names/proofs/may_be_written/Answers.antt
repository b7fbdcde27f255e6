-- `may_be_written` meets its contract.
use Rattle.std.proofs.Common.{arith}
use Rattle.std.proofs.lemmas.Bool.Decides.{nat_tests}
use Rattle.rules.specs.Base.{all}
use Rattle.rules.specs.TreeFile.{fixed_names}
use Rattle.tree_names.proofs.Texts.{differs_is}
use Rattle.tree_names.proofs.may_be_written.Goals as goal

pub returns-then-ne-3 : goal.returns-then-ne-3
unfolding all fixed_names
returns-then-ne-3 c = grind (arith, nat_tests, differs_is c.args.text.now c.args.text.now)

pub returns-else-ne-3 : goal.returns-else-ne-3
unfolding all fixed_names
returns-else-ne-3 c = grind (arith, nat_tests, differs_is c.args.text.now c.args.text.now)
