-- The depth left measures the cycle of calls, in three steps a level.
use Rattle.std.proofs.Common.{◌+◌, ◌*◌}
use Rattle.tree_small.proofs.Places.{RowLeft}
use Rattle.tree_stmts.specs.Stmts.{stmt_place}
use Rattle.tree_stmts.proofs.+check_kids_check_stmt_check_stmts.Given as goal

abbrev pub decreases-check_kids : goal.decreases-check_kids
decreases-check_kids l = 3 * l.depth + 2

abbrev pub decreases-check_stmt : goal.decreases-check_stmt
decreases-check_stmt l = 3 * l.depth

abbrev pub decreases-check_stmts : goal.decreases-check_stmts
decreases-check_stmts l = 3 * l.depth + 1

abbrev pub invariant-check_stmts-loop : goal.invariant-check_stmts-loop
invariant-check_stmts-loop l = RowLeft (stmt_place l.tree l.names l.depth l.funs l.methods) l.count l.counter l.next l.at
