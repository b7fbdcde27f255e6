-- Neither count passes the number of vectors so far.
use Rattle.std.proofs.Common.{◌≤◌}
use Rattle.vectors.proofs.replay.count.Given as goal

abbrev pub invariant-loop-k : goal.invariant-loop-k
invariant-loop-k g l = (l.same ≤ l.k) × (l.other ≤ l.k)
