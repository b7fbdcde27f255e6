-- A row of statements. The loop's invariant: those that are left come to the same, from the areas as they are, as all of them from where the loop began.
use Prim.Native.Nat.{◌-◌}
use Rattle.steps.specs.View.{areas, SameAreas}
use Rattle.statements.proofs.Walks.{RowOf}
use Rattle.statements.proofs.compile_stmts.Given as goal

abbrev pub invariant-loop : goal.invariant-loop
invariant-loop l =
    (RowOf l.class l.limit l.level l.tree l.count l.at (areas l.initial.work) l.initial.out (areas l.work) l.out l.next (l.count - l.counter)) × SameAreas l.initial.work l.work
