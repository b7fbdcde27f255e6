-- A row of statements. The loop's invariant: those that are left come to the same, from the areas as they are, as all of them from where the loop began.
use mathlib.Core.Path.{refl}
use borrow.Author.Rules.{rules}
use Rattle.expr_laws.proofs.Counts.{all_left, more_left, none_left, one_less}
use Rattle.statements.proofs.Walks.{row_start, row_child, row_stop, row_step, row_done}
use Rattle.statements.proofs.compile_stmts.Goals as goal

pub loop-init : goal.loop-init
loop-init c =
    (row_start c.requires all_left, (refl, refl, refl, refl, refl, refl))

pub compile_stmt-s-requires : goal.compile_stmt-s-requires
compile_stmt-s-requires c =
    row_child c.loop.invariant.0 (more_left c.loop-test.true)

pub returns-in_default-clause-does : goal.returns-in_default-clause-does
returns-in_default-clause-does c =
    row_stop c.loop.invariant.0 (more_left c.loop-test.true) c.compile_stmt-s.ensures.does c.in_default.is

pub loop-preserved : goal.loop-preserved
loop-preserved c =
    (row_step c.loop.invariant.0 (more_left c.loop-test.true) c.compile_stmt-s.ensures.does c.in-Ok.is (one_less c.loop-test.true), search rules)

pub returns-clause-does : goal.returns-clause-does
returns-clause-does c = row_done c.loop.invariant.0 (none_left c.loop-test.false)
