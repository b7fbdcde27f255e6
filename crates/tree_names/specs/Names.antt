-- Names: the one before is known by the place of its record, and ends where the next starts.
use Rattle.std.specs.Prelude as rust
use Rattle.std.specs.Prelude.{Some, None, Result, Ok, List, ◌≡◌, ℕ, ◌+◌, ◌-◌, ◌≤◌, length, take, drop}
use Rattle.std.proofs.Math.Option.{Option, none, some}
use Rattle.rules.specs.declared.Refusal.{Refusal}
use Rattle.rules.specs.Reader.{got}
use Rattle.rules.specs.TreeFile.{read_name}
use Rattle.tree_small.specs.Places.{place}

-- the text from one place to another
unfoldable pub text : (tree : List ℕ) → (from end : ℕ) → List ℕ
text tree from end = take (end - from) (drop from tree)

-- the name whose record starts at `last` and ends at `end`, where there is one
unfoldable pub last_name : (tree : List ℕ) → (last : rust.Option ℕ) → (end : ℕ) → Option (List ℕ)
last_name tree None end = none
last_name tree (Some last) end = some (text tree (last + 4) end)

-- the record before ends within the file
pub record LastFits (tree : List ℕ) (last : rust.Option ℕ) (end : ℕ) : Type 0 where
  pub start : (n : ℕ) → last ≡ Some n → n + 4 ≤ end
  pub bound : end ≤ length tree

pub record NameRead (tree : List ℕ) (last : rust.Option ℕ) (at : ℕ) (answer : Result ℕ Refusal) : Type 0 where
  pub whole : answer ≡ place (read_name tree (last_name tree last at) at)
  pub is : (next : ℕ) → answer ≡ Ok next → read_name tree (last_name tree last at) at ≡ got (text tree (at + 4) next) next
  pub start : (next : ℕ) → answer ≡ Ok next → at + 4 ≤ next
  pub bound : (next : ℕ) → answer ≡ Ok next → next ≤ length tree
