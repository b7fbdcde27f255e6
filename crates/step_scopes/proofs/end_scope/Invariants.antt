-- `end_scope` meets its contract. The loop's invariant: what is left to pop comes to the same from where the loop began and from where it stands. The measure is the number of locals.
use Prim.Native.Nat.{◌+◌, ◌*◌}
use lib.ListN.{get_or}
use Rattle.steps.specs.View.{areas, SameAreas, pops, Passing}
use Rattle.state.specs.Layout.{level_words, local_count_place}
use Rattle.step_scopes.proofs.end_scope.Given as goal

abbrev pub invariant-loop-why : goal.invariant-loop-why
invariant-loop-why l =
    (Passing l.limit l.level (pops l.limit l.span) (areas l.initial.work) (areas l.work)) × SameAreas l.initial.work l.work

abbrev pub decreases-loop-why : goal.decreases-loop-why
decreases-loop-why l = get_or l.work.table.now (l.level * level_words + local_count_place) 0
