-- How long the parts of a function's record are, and what the output holds where all fits.
pub use Rattle.writer_bytes.proofs.Padding.{whole_padded}
pub use Rattle.writer_runs.proofs.Rows.{length_run}
pub use Rattle.writer_constants.proofs.Rows.{constant_short}
use mathlib.Core.Path.{◌≡◌}
use Prim.Native.Nat.{ℕ, ◌+◌}
use mathlib.Core.List.{List}
use Rattle.rules.specs.Base.{le}
use Rattle.writer.specs.Put.{Put, head_bytes}

pub head_next : {out out' : List ℕ} {at r : ℕ} (a b c d e f : ℕ) → Put out out' at (head_bytes a b c d e f) r → r ≡ at + 17
unfolding head_bytes le
head_next a b c d e f p = p.next
