-- `answer` meets its contract: what the reader found, as an answer, is the rules' answer.
use mathlib.Core.Path.{◌≡◌, refl, sym, ◌∙◌, ap}
use mathlib.Core.Bool.{Bool, true, false}
use mathlib.Core.List.{List}
use Prim.Native.Nat.{ℕ}
use lib.Dec.{leb}
use lib.ListN.{length}
use Rattle.std.specs.Prelude.{if◌then◌else◌, Result, Ok, Err}
use Rattle.rules.specs.Limits.{first_limits, max_tree}
use Rattle.rules.specs.declared.Answer.{Answer}
use Rattle.rules.specs.declared.Refusal.TheVariants.{TreeTooLong}
use Rattle.rules.specs.Answer.{refusal, accepted}
use Rattle.rules.specs.Tree.{Stmts}
use Rattle.rules.specs.Reader.{Read, got, bad}
use Rattle.rules.specs.TreeFile.{read_tree}
use Rattle.tree.specs.Checked.{checked, checked_file}
use Rattle.tree.specs.declared.Script.{Script}
use Rattle.rules.specs.declared.Refusal.{Refusal}
use Rattle.tree.specs.Read.{told, read_answer}
use Rattle.tree.proofs.answer.Goals as goal

-- what the reader found, as an answer
abbrev said : Result Script Refusal → Answer
said (Ok _) = accepted 0
said (Err r) = refusal r

said-if : (b : Bool) (x y : Result Script Refusal) → said (if b then x else y) ≡ (if b then said x else said y)
said-if true x y = refl
said-if false x y = refl

said_read : (tree : List ℕ) (r : Read Stmts) → said (checked tree r) ≡ told r
unfolding checked told
said_read tree (got _ _) = refl
said_read tree (bad r) = refl

said-file : (tree : List ℕ) → said (checked_file tree) ≡ read_answer tree
unfolding checked_file read_answer
said-file tree =
    said-if (leb (length tree) max_tree) (checked tree (read_tree tree first_limits.depth first_limits.funs)) (Err TreeTooLong)
    ∙ ap (λ (a : Answer). if leb (length tree) max_tree then a else refusal TreeTooLong) (said_read tree (read_tree tree first_limits.depth first_limits.funs))

-- src/lib.rt:11:1
pub returns-in-Ok : goal.returns-in-Ok
returns-in-Ok c = c.accepted.ensures ∙ ap said (sym c.in-Ok.is ∙ c.read.ensures) ∙ said-file _

-- src/lib.rt:11:1
pub returns-in-Err : goal.returns-in-Err
returns-in-Err c = c.refused.ensures ∙ ap said (sym c.in-Err.is ∙ c.read.ensures) ∙ said-file _
