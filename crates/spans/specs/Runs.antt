-- The rules' runs of a lent slice of runs.
use Rattle.std.specs.Prelude.{List, ◌∷◌, []}
use Rattle.rules.specs.Chunk as Chunk
use Rattle.spans.specs.declared.Run.{Run}

unfoldable pub runs_in : List Run → List Chunk.Run
runs_in [] = []
runs_in (run ∷ runs) = record { span = record { start = run.start; end = run.end }; count = run.count } ∷ runs_in runs
