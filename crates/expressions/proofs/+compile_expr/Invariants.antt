-- The measure of `compile_expr`, how many bytes are left, and its loop: of a call's parts, those that are left come to the same from the areas as they are
-- as all of them from where the loop began, and the next one stands after the call's own start.
use Prim.Native.Nat.{ℕ, ◌-◌, ◌<◌}
use lib.ListN.{length}
use Rattle.steps.specs.View.{areas, SameAreas}
use Rattle.expr_laws.specs.Exprs.{expr_at}
use Rattle.expr_laws.proofs.Calls.{Walk}
use Rattle.expressions.proofs.+compile_expr.Given as goal

-- how many bytes are left
abbrev pub decreases-compile_expr : goal.decreases-compile_expr
decreases-compile_expr l = length l.tree.now - l.at

abbrev pub invariant-loop : goal.invariant-loop
invariant-loop l =
    ((d : ℕ) → Walk l.class l.limit l.level (expr_at l.tree d) l.parts l.initial.next (areas l.initial.work) (areas l.work) l.next (l.parts - l.counter))
    × (l.at < l.next) × SameAreas l.initial.work l.work
