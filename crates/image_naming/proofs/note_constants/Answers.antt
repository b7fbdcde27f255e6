-- `note_constants` meets its contract: what was noted is the constants that are passed.
use mathlib.Core.Path.{sym, ◌∙◌}
use Rattle.rules.specs.ImageFile.{read_constant}
use Rattle.image_records.proofs.Records.{constant_is, constant_fails}
use Rattle.image_naming.proofs.Walking.{noting_begin, noting_stop, noting_on, noting_done, noting_capped}
use Rattle.image_naming.proofs.note_constants.Goals as goal

pub loop-init : goal.loop-init
loop-init c = noting_begin c.args.s.now c.args.begin c.args.n c.args.base c.args.seen.now c.requires

pub returns-in_err-word : goal.returns-in_err-word
returns-in_err-word c =
    rw c.from_residual.ensures
    (noting_stop c.args.s.now c.args.begin c.args.n c.args.base c.args.seen.now c.loop.seen c.loop.at c.loop.counter
    c.loop.invariant c.loop-test.true
    (constant_fails (read_constant c.args.s.now c.loop.at) (sym c.in_err-word.was ∙ c.constant.ensures)))

pub note-requires : goal.note-requires
note-requires c =
    noting_capped c.args.s.now c.args.begin c.args.n c.args.base c.args.seen.now c.loop.seen c.loop.at c.loop.counter c.loop.invariant

pub loop-preserved : goal.loop-preserved
loop-preserved c =
    noting_on c.args.s.now c.args.begin c.args.n c.args.base c.args.seen.now c.loop.seen c.loop.at c.loop.counter c.loop.invariant
    c.in_ok-word.word c.in_ok-word.next c.loop-test.true
    (constant_is (read_constant c.args.s.now c.loop.at) c.in_ok-word.word c.in_ok-word.next (sym c.in_ok-word.was ∙ c.constant.ensures)) _ c.note.ensures

pub returns : goal.returns
returns c =
    noting_done c.args.s.now c.args.begin c.args.n c.args.base c.args.seen.now c.loop.seen c.loop.at c.loop.counter c.loop.invariant c.loop-test.false
