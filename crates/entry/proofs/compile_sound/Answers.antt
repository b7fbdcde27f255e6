-- `compile_sound` meets its contract.
use native.Mathlib.Omega.{arith}
use lib.ListN.{length}
use Rattle.entry.proofs.Rows.{rows_of, sound_refused, sound_recorded}
use Rattle.entry.proofs.Script.{clean}
use Rattle.entry.proofs.Answers.{written_limit, written_finished, refused_as}
use Rattle.entry.proofs.compile_sound.Goals as goal

pub compile_script-r-requires : goal.compile_script-r-requires
compile_script-r-requires c = (
  rows_of _ c.requires.0,
  clean _ (length c.args.out.now) c.begin_script.ensures c.code_limit-limit.ensures
      c.clear8.ensures,
)

pub finish_image-requires : goal.finish_image-requires
finish_image-requires c =
    let w = sound_recorded _ c.requires.0 c.compile_script-r.ensures.does c.in-Ok.is in
    (omega (arith, w.long), w.small)

pub stopped_of-requires : goal.stopped_of-requires
stopped_of-requires c =
    omega (arith, c.compile_script-r.ensures.same.3, c.begin_script.auto.t, c.requires.1)

pub bounds-work-17410 : goal.bounds-work-17410
bounds-work-17410 c =
    omega (arith, c.compile_script-r.ensures.same.3, c.begin_script.auto.t, c.requires.1)

pub returns-in-Ok : goal.returns-in-Ok
returns-in-Ok c =
    written_limit _ c.code_limit-limit.ensures
    (written_finished (sound_recorded _ c.requires.0 c.compile_script-r.ensures.does
    c.in-Ok.is) c.finish_image.ensures)

pub shape_of-out-in-Err : goal.shape_of-out-in-Err
shape_of-out-in-Err c =
    omega (arith, c.compile_script-r.auto.out, c.clear8.auto.area)

pub returns-in-Err : goal.returns-in-Err
returns-in-Err c =
    written_limit _ c.code_limit-limit.ensures
    (refused_as c.stopped_of.ensures (sound_refused _ c.requires.0 c.compile_script-r.ensures.does c.in-Err.is))
