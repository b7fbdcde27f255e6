-- The names that a tree file writes, in order: behind the header, each a mark, a count and so many bytes. Where they do not stand there, none.
use mathlib.Core.List.{List, []}
use Prim.Native.Nat.{ℕ}
use Rattle.rules.specs.declared.Refusal.TheVariants.{TreeForm}
use Rattle.rules.specs.Reader.{Read, Reader, got, bad, u8, u16, mark_is, many, ◌>>=◌, ◌>>◌}

module _ (tree : List ℕ) where
  unfoldable pub read_text : Reader (List ℕ)
  read_text = do
    mark_is tree (TreeForm 0) 0x4E4D
    size ← u16 tree (TreeForm 0)
    many size (u8 tree (TreeForm 0))

  unfoldable pub read_texts : Reader (List (List ℕ))
  read_texts = do
    mark_is tree (TreeForm 0) 0x5452
    names ← u16 tree (TreeForm 0)
    _ ← u16 tree (TreeForm 0)
    many names read_text

  unfoldable pub texts_of : Read (List (List ℕ)) → List (List ℕ)
  texts_of (got texts next) = texts
  texts_of (bad fault) = []

  unfoldable pub names_of : List (List ℕ)
  names_of = texts_of (read_texts 0)
