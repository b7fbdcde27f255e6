-- `read` meets its contract: the code's limits are the rules'.
use lib.ListN.{length}
use borrow.Author.Tests.{lt-leb, le-leb}
use Rattle.rules.specs.Limits.{max_tree}
use Rattle.tree.specs.Checked.{checked_file}
use Rattle.tree.proofs.read.Goals as goal

pub returns-then-tree-gt-TREE_BYTES : goal.returns-then-tree-gt-TREE_BYTES
unfolding checked_file
returns-then-tree-gt-TREE_BYTES c = rw (lt-leb (length c.args.tree.now) max_tree c.if-tree-gt-TREE_BYTES.true)

pub returns : goal.returns
unfolding checked_file
returns c = rw (le-leb (length c.args.tree.now) max_tree c.if-tree-gt-TREE_BYTES.false) c.read_within.ensures
