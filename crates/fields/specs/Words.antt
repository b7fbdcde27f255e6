-- The number, the mark and the span that start at a place. They mean something where the file has that many bytes from there.
use Rattle.std.specs.Prelude.{List, ℕ, ◌+◌, ◌*◌, get_or}
use Rattle.rules.specs.declared.Span.{Span}

module _ (bytes : List ℕ) where
  abbrev pub word8 : (at : ℕ) → ℕ
  word8 at = get_or bytes at 0

  unfoldable pub word16 : (at : ℕ) → ℕ
  word16 at = word8 at + 256 * word8 (at + 1)

  unfoldable pub word32 : (at : ℕ) → ℕ
  word32 at = word16 at + 65_536 * word16 (at + 2)

  unfoldable pub word64 : (at : ℕ) → ℕ
  word64 at = word32 at + 4_294_967_296 * word32 (at + 4)

  -- the first letter times 256 plus the second
  unfoldable pub letters : (at : ℕ) → ℕ
  letters at = 256 * word8 at + word8 (at + 1)

  unfoldable pub span_of : (at : ℕ) → Span
  span_of at = record { start = word32 at; end = word32 (at + 4) }
