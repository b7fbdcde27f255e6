-- A run by its numbers.
use Rattle.std.specs.Prelude.{ℕ}
use Rattle.rules.specs.Chunk.{Run}

abbrev pub run_of : (start end count : ℕ) → Run
run_of start end count = record { span = record { start = start; end = end }; count = count }
