-- The measures of `compile_stmt` and `compile_function`, by the bytes that are left, and their loops: of a row, the statements that are left come to the same
-- from the areas as they are as all of them from where the loop began, and the next one stands after the own start.
use Prim.Native.Nat.{◌+◌, ◌-◌, ◌*◌}
use lib.ListN.{length}
use Rattle.fields.specs.Words.{word16}
use Rattle.steps.specs.View.{areas, SameAreas}
use Rattle.statements.proofs.Walks as walks
use Rattle.statements.proofs.Methods as methods
use Rattle.statements.proofs.+compile_function_compile_stmt.Given as goal

-- ## The measures

abbrev pub decreases-compile_function : goal.decreases-compile_function
decreases-compile_function l = 2 * (length l.tree.now - l.at)

abbrev pub decreases-compile_stmt : goal.decreases-compile_stmt
decreases-compile_stmt l = 2 * (length l.tree.now - l.at) + 1

-- ## The loops: a function's statements, a block's statements, a class's methods

abbrev pub invariant-compile_function-loop : goal.invariant-compile_function-loop
invariant-compile_function-loop l =
    (walks.RowIn l.class l.limit (l.level + 1) l.tree l.at (word16 l.tree l.first) (l.first + 2) (areas l.initial.work) l.initial.out (areas l.work) l.out
    l.next (l.count - l.counter))
    × SameAreas l.initial.work l.work

abbrev pub invariant-compile_stmt-loop : goal.invariant-compile_stmt-loop
invariant-compile_stmt-loop l =
    (walks.RowIn l.class l.limit l.level l.tree l.at (word16 l.tree (l.at + 10)) (l.at + 12) (areas l.initial.work) l.initial.out (areas l.work) l.out l.next (l.count - l.counter))
    × SameAreas l.initial.work l.work

abbrev pub invariant-compile_stmt-loop-method : goal.invariant-compile_stmt-loop-method
invariant-compile_stmt-loop-method l =
    (methods.Methoding l.inner l.limit l.level l.tree l.at l.first (areas l.initial.work) l.initial.out (areas l.work) l.out l.next (l.count - l._method))
    × SameAreas l.initial.work l.work
