-- `put_function`: head, constants, runs, the mark of the code and the code.
use native.Mathlib.Omega.{arith}
use Rattle.writer_bytes.proofs.Padding.{put_then}
use Rattle.writer_runs.proofs.Rows.{runs_next}
use Rattle.writer_constants.proofs.Rows.{constants_next}
use Rattle.writer.proofs.Padding.{head_next}
use Rattle.writer.proofs.Records as records
use Rattle.writer.proofs.put_function.Goals as goal

pub put_constants-b-requires : goal.put_constants-b-requires
put_constants-b-requires c =
    let a = c.args in
    let ok = c.requires.0 in
    let long = records.words_long a.t.now a.code.now a.spans.now a.level ok in
    omega (arith, c.requires.1, head_next _ _ _ _ _ _ c.put_head-a.ensures, ok.wf.few_constants a.level ok.low, long)

pub put_runs-c-requires : goal.put_runs-c-requires
put_runs-c-requires c =
    let a = c.args in
    let ok = c.requires.0 in
    let long = records.words_long a.t.now a.code.now a.spans.now a.level ok in
    let many = records.runs_many a.t.now a.code.now a.spans.now a.level ok in
    omega (
      arith,
      c.requires.1,
      head_next _ _ _ _ _ _ c.put_head-a.ensures,
      ok.wf.few_constants a.level ok.low,
      constants_next _ c.put_constants-b.ensures,
      long,
      many,
      ok.runs_few,
      ok.code_small,
    )

pub put_mark-d-requires : goal.put_mark-d-requires
put_mark-d-requires c =
    let a = c.args in
    let ok = c.requires.0 in
    let long = records.words_long a.t.now a.code.now a.spans.now a.level ok in
    let many = records.runs_many a.t.now a.code.now a.spans.now a.level ok in
    omega (
      arith,
      c.requires.1,
      head_next _ _ _ _ _ _ c.put_head-a.ensures,
      ok.wf.few_constants a.level ok.low,
      constants_next _ c.put_constants-b.ensures,
      runs_next _ _ c.put_runs-c.ensures,
      long,
      many,
      ok.runs_few,
      ok.code_small,
    )

pub put_code-requires : goal.put_code-requires
put_code-requires c =
    let a = c.args in
    let ok = c.requires.0 in
    let long = records.words_long a.t.now a.code.now a.spans.now a.level ok in
    let many = records.runs_many a.t.now a.code.now a.spans.now a.level ok in
    let coded = records.code_long a.t.now a.code.now a.spans.now a.level ok in
    omega (
      arith,
      c.requires.1,
      head_next _ _ _ _ _ _ c.put_head-a.ensures,
      ok.wf.few_constants a.level ok.low,
      constants_next _ c.put_constants-b.ensures,
      runs_next _ _ c.put_runs-c.ensures,
      c.put_mark-d.ensures.next,
      long,
      many,
      coded,
      ok.runs_few,
      ok.code_small,
    )

pub returns : goal.returns
returns c =
    let a = c.args in
    records.as_function a.t.now a.code.now a.spans.now a.level c.requires.0
    (put_then c.put_head-a.ensures
    (put_then (put_then c.put_constants-b.ensures c.put_runs-c.ensures)
    (put_then c.put_mark-d.ensures c.put_code.ensures)))
