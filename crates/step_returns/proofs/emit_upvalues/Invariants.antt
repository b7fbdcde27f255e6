-- `emit_upvalues` meets its contract. The loop's invariant: the upvalues that are left come to the same from where the loop stands as all of them
-- from where it began.
use Rattle.step_returns.proofs.Closures as ways
use Rattle.steps.specs.View.{areas, SameAreas}
use mathlib.Core.Path.{◌≡◌}
use lib.ListN.{get_or}
use Prim.Native.Nat.{◌+◌, ◌*◌}
use Rattle.state.specs.Layout.{upvalue_count_place, level_words}
use Rattle.step_returns.proofs.emit_upvalues.Given as goal

abbrev pub invariant-loop-i : goal.invariant-loop-i
invariant-loop-i l =
    (ways.Going l.limit l.level l.span l.initial.work.table.now l.initial.work.code.now l.initial.work.spans.now l.i l.n (areas l.work)) × (l.n ≡ get_or l.initial.work.table.now ((l.level + 1) * level_words + upvalue_count_place) 0) × SameAreas l.initial.work l.work
