-- `declare_params` meets its contract. The loop's invariant: the names that are left come to the same from where the loop stands as all of them from
-- where it began.
use mathlib.Core.Path.{◌≡◌}
use Prim.Native.Nat.{◌-◌}
use lib.ListN.{length}
use Rattle.stmt_opening.proofs.Names.{Walk}
use Rattle.stmt_opening.proofs.declare_params.Given as goal

abbrev pub invariant-loop : goal.invariant-loop
invariant-loop l = (Walk l.tree l.level l.span l.count l.at l.initial.t l.t l.next (l.count - l.counter)) × (length l.t ≡ length l.initial.t)
