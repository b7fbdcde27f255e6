-- The reader's part of the answer: what the rules' reader says of a file, whatever the compiler would make of it.
use Rattle.std.specs.Prelude.{List, ℕ, leb, length, if◌then◌else◌}
use Rattle.rules.specs.Limits.{first_limits, max_tree}
use Rattle.rules.specs.declared.Answer.{Answer}
use Rattle.rules.specs.declared.Refusal.TheVariants.{TreeTooLong}
use Rattle.rules.specs.Answer.{refusal, accepted}
use Rattle.rules.specs.Tree.{Stmts}
use Rattle.rules.specs.Reader.{Read, got, bad}
use Rattle.rules.specs.TreeFile.{read_tree}

unfoldable pub told : Read Stmts → Answer
told (got _ _) = accepted 0
told (bad r) = refusal r

-- 2 before all else, then 3, 4 and 5 over the whole file; 0 for a file that is read
unfoldable pub read_answer : (tree : List ℕ) → Answer
read_answer tree =
    if leb (length tree) max_tree
    then told (read_tree tree first_limits.depth first_limits.funs)
    else refusal TreeTooLong
