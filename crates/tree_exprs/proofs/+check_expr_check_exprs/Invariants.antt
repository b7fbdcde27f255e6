-- The depth left measures the cycle of calls: a row of expressions is one step above each of them.
use Rattle.std.proofs.Common.{◌+◌}
use Rattle.rules.specs.TreeFile.{read_expr}
use Rattle.tree_small.specs.Places.{place}
use Rattle.tree_small.proofs.Places.{RowLeft}
use Rattle.tree_exprs.proofs.+check_expr_check_exprs.Given as goal

abbrev pub decreases-check_expr : goal.decreases-check_expr
decreases-check_expr l = l.depth + l.depth

abbrev pub decreases-check_exprs : goal.decreases-check_exprs
decreases-check_exprs l = l.depth + l.depth + 1

abbrev pub invariant-check_exprs-loop : goal.invariant-check_exprs-loop
invariant-check_exprs-loop l = RowLeft (λ n. place (read_expr l.tree l.names l.depth n)) l.count l.counter l.next l.at
