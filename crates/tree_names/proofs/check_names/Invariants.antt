-- `check_names` meets its contract. The loop: what is left comes to what there was, and the last name is where the code has it.
use Rattle.tree_names.proofs.Texts.{NamesLeft}
use Rattle.tree_names.proofs.check_names.Given as goal

abbrev pub invariant-loop : goal.invariant-loop
invariant-loop l = NamesLeft l.tree l.count l.counter l.last l.next l.at
