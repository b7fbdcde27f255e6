-- `names_at` meets its contract. The loop: what is left comes to what there was.
use Rattle.rules.specs.declared.Refusal.TheVariants.{TreeForm}
use Rattle.rules.specs.TreeFile.{name}
use Rattle.tree_small.specs.Places.{place}
use Rattle.tree_small.proofs.Places.{RowLeft}
use Rattle.tree_small.proofs.names_at.Given as goal

abbrev pub invariant-loop : goal.invariant-loop
invariant-loop l = RowLeft (λ n. place (name l.tree l.names (TreeForm l.start) n)) l.count l.counter l.next l.at
