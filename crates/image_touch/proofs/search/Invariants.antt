-- `search` meets its contract.
use Rattle.image_touch.proofs.Searching.{Searching}
use Rattle.image_touch.proofs.search.Given as goal

abbrev pub invariant-loop-k : goal.invariant-loop-k
invariant-loop-k l = Searching l.s l.count l.name l.counts l.at l.k l.read
