-- What the file as a whole comes to.
use Rattle.std.specs.Prelude.{Result, Ok, Err, List, ℕ, leb, length, if◌then◌else◌}
use Rattle.std.proofs.Math.Option.{none}
use Rattle.rules.specs.Limits.{first_limits, max_tree}
use Rattle.rules.specs.declared.Refusal.{Refusal}
use Rattle.rules.specs.declared.Refusal.TheVariants.{TreeTooLong}
use Rattle.rules.specs.Tree.{Stmts}
use Rattle.rules.specs.Reader.{Read, got, bad}
use Rattle.rules.specs.TreeFile.{read_names, read_tree}
use Rattle.fields.specs.Words.{word16}
use Rattle.tree_small.specs.Places.{place}
use Rattle.tree.specs.declared.Script.{Script}

-- the place after the names
unfoldable pub place_or_0 : Result ℕ Refusal → ℕ
place_or_0 (Ok next) = next
place_or_0 (Err r) = 0

-- the header's two counts, and where the names end
unfoldable pub script_of : (tree : List ℕ) → Script
script_of tree =
    record {
      names = word16 tree 2;
      count = word16 tree 4;
      at = place_or_0 (place (read_names tree (word16 tree 2) none 6));
    }

-- a file that the rules read is sound, and any other has the rules' refusal
unfoldable pub checked : (tree : List ℕ) → Read Stmts → Result Script Refusal
checked tree (got _ _) = Ok (script_of tree)
checked tree (bad r) = Err r

-- 2 before all else, and then the file within the rules' own limits
unfoldable pub checked_file : (tree : List ℕ) → Result Script Refusal
checked_file tree =
    if leb (length tree) max_tree
    then checked tree (read_tree tree first_limits.depth first_limits.funs)
    else Err TreeTooLong
