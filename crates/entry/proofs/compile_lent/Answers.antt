-- `compile_lent` meets its contract.
use borrow.Author.Rules.{rules}
use mathlib.Core.Path.{sym, ◌∙◌}
use lib.Seq.{length-take-le}
use Rattle.tree.proofs.SoundFile.{refused_file}
use Rattle.entry.proofs.Answers.{refused_as, written_as, table_short, table_enough}
use Rattle.state.specs.Layout.{table_words}
use Rattle.entry.proofs.compile_lent.Goals as goal

pub returns-then-table-lt-WORDS : goal.returns-then-table-lt-WORDS
returns-then-table-lt-WORDS c =
    let a = c.args in
    refused_as c.outside.ensures (table_short a.tree.now a.options a.table.now a.code.now a.spans.now a.out.now c.if-table-lt-WORDS.true)

pub slice_bounds-compile_sound-end-in-Ok : goal.slice_bounds-compile_sound-end-in-Ok
slice_bounds-compile_sound-end-in-Ok c = sym (length-take-le table_words c.args.table.now (search rules))

pub compile_sound-requires : goal.compile_sound-requires
compile_sound-requires c = (
  sym c.read.ensures ∙ c.in-Ok.is,
  length-take-le table_words
      c.args.table.now c.if-table-lt-WORDS.false,
)

pub returns-in-Err : goal.returns-in-Err
returns-in-Err c =
    let a = c.args in
    written_as (table_enough a.tree.now a.options a.table.now a.code.now a.spans.now a.out.now c.if-table-lt-WORDS.false)
    (refused_as c.outside-in-Err.ensures (refused_file _ _ (sym c.read.ensures ∙ c.in-Err.is)))

pub returns-in-Ok : goal.returns-in-Ok
returns-in-Ok c =
    let a = c.args in written_as (table_enough a.tree.now a.options a.table.now a.code.now a.spans.now a.out.now
    c.if-table-lt-WORDS.false) c.compile_sound.ensures
