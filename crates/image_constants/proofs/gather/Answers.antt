-- `gather` meets its contract: the words so far are the constants read so far, and where the ones that are left end is where all end.
use native.Mathlib.Omega.{arith}
use mathlib.Core.Path.{sym, ◌∙◌}
use lib.ListN.{length}
use Rattle.rules.specs.ImageFile.{read_constant}
use Rattle.image_records.proofs.Records.{constant_is, constant_fails}
use Rattle.image_constants.proofs.Words.{gather_begin, gather_stop, gather_on, gather_done}
use Rattle.image_constants.proofs.gather.Goals as goal

pub loop-word-init : goal.loop-word-init
loop-word-init c = gather_begin c.args.s.now c.args.begin (length c.args.words.now) c.args.words.now

pub returns-in_err-value : goal.returns-in_err-value
returns-in_err-value c =
    rw c.from_residual.ensures
    (gather_stop c.args.s.now c.args.begin (length c.args.words.now) c.loop-word.words (length c.args.words.now)
    c.loop-word.at c.loop-word.word-index c.loop-word.invariant (omega (arith, c.loop-word-test.true, c.loop-word.invariant.size))
    (constant_fails (read_constant c.args.s.now c.loop-word.at) (sym c.in_err-value.was ∙ c.constant.ensures)) _)

pub loop-word-preserved : goal.loop-word-preserved
loop-word-preserved c =
    gather_on c.args.s.now c.args.begin (length c.args.words.now) c.loop-word.words (length c.args.words.now) c.loop-word.at
    c.loop-word.word-index c.loop-word.invariant c.in_ok-value.value c.in_ok-value.next (omega arith)
    (omega (arith, c.loop-word-test.true, c.loop-word.invariant.size))
    (constant_is (read_constant c.args.s.now c.loop-word.at) c.in_ok-value.value c.in_ok-value.next (sym c.in_ok-value.was ∙ c.constant.ensures))

pub returns : goal.returns
returns c =
    gather_done c.args.s.now c.args.begin (length c.args.words.now) c.loop-word.words (length c.args.words.now) c.loop-word.at
    c.loop-word.word-index c.loop-word.invariant (omega (arith, c.loop-word-test.false, c.loop-word.invariant.size))
