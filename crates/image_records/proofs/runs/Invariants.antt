-- `runs` meets its contract: after the runs that are passed, what is left comes to what there was.
use Prim.Native.Nat.{◌-◌, ◌*◌, ◌≤◌}
use mathlib.Core.Path.{◌≡◌}
use Rattle.rules.specs.Reader.{many}
use Rattle.rules.specs.ImageFile.{read_run}
use Rattle.image_records.specs.Told.{runs_after, runs_told}
use Rattle.image_records.proofs.Running.{run_of}
use Rattle.image_records.proofs.runs.Given as goal

abbrev pub invariant-loop : goal.invariant-loop
invariant-loop l =
    (l.sum ≤ 255 * l.counter) × (runs_told (many l.n (read_run l.s) l.begin) ≡ runs_after (run_of l.last.start l.last.end l.count) l.sum (many (l.n - l.counter) (read_run l.s) l.at))
