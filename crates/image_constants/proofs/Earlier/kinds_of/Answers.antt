-- `kinds_of` meets its contract: the words that are passed are right, and so is the table up to there.
use native.Mathlib.Omega.{arith}
use mathlib.Core.Path.{sym, ◌∙◌}
use lib.ListN.{length, get_or}
use Rattle.image_constants.specs.Words.{constant_of}
use Rattle.image_constants.specs.Earlier.{earlier}
use Rattle.image_constants.proofs.Kinding.{earlier_number, plain_word, function_above, passing_set, passing_on, passing_bad, passing_late, passing_done}
use Rattle.image_constants.proofs.Earlier.kinds_of.Goals as goal
use Rattle.image_constants.proofs.Earlier.kinds_of.Goals.{then-i-lt256, else-i-lt256+in_default-kind}

pub returns-in-Missing : goal.returns-in-Missing
returns-in-Missing c =
    passing_bad (earlier c.args.self.now.s.now c.args.self.now.k) c.args.self.now.k c.args.words.now (length c.args.words.now) (omega arith)
    (earlier_number c.args.self.now.s.now c.args.self.now.k c.args.self.now.there) c.loop-i.kinds c.loop-i.i (omega (arith, c.loop-i-test.true))
    (sym c.in-Missing.is ∙ c.kind_of-kind.ensures)

pub returns-in-Function : goal.returns-in-Function
returns-in-Function c =
    let number = earlier_number c.args.self.now.s.now c.args.self.now.k c.args.self.now.there in
    let word = constant_of (get_or c.args.words.now c.loop-i.i 0) in
    passing_late (earlier c.args.self.now.s.now c.args.self.now.k) c.args.self.now.k c.args.words.now (length c.args.words.now) (omega arith)
    number c.loop-i.kinds c.loop-i.i (omega (arith, c.loop-i-test.true)) (omega (arith, c.if-i-lt256.false))
    (function_above (earlier c.args.self.now.s.now c.args.self.now.k) c.args.self.now.k number word c.in-Function.field-0 (sym c.kind_of-kind.ensures ∙ c.in-Function.is))

pub loop-i-preserved : goal.loop-i-preserved
loop-i-preserved c =
    let number = earlier_number c.args.self.now.s.now c.args.self.now.k c.args.self.now.there in
    let word = constant_of (get_or c.args.words.now c.loop-i.i 0) in
    elim c.if-i-lt256.branch [
      | then-i-lt256 w ↦
          rw w.kinds-is (passing_set (earlier c.args.self.now.s.now c.args.self.now.k) c.args.self.now.k c.args.words.now c.loop-i.kinds c.loop-i.i c.kind_of-kind.result
          c.loop-i.invariant c.kind_of-kind.ensures c.in_default.not-Missing w.if-i-lt256.true)
      | else-i-lt256+in_default-kind w ↦
          rw w.kinds-is (passing_on (earlier c.args.self.now.s.now c.args.self.now.k) c.args.self.now.k c.args.words.now c.loop-i.kinds c.loop-i.i c.kind_of-kind.result
          c.loop-i.invariant c.kind_of-kind.ensures c.in_default.not-Missing (omega (arith, w.if-i-lt256.false))
          (plain_word (earlier c.args.self.now.s.now c.args.self.now.k) c.args.self.now.k number word (λ e. c.in_default.not-Missing (c.kind_of-kind.ensures ∙ e))
          (λ n e. w.in_default-kind.not-Function n (c.kind_of-kind.ensures ∙ e))))
    ]

pub returns : goal.returns
returns c =
    passing_done (earlier c.args.self.now.s.now c.args.self.now.k) c.args.self.now.k c.args.words.now (length c.args.words.now) (omega arith)
    (earlier_number c.args.self.now.s.now c.args.self.now.k c.args.self.now.there) c.loop-i.kinds c.loop-i.i c.loop-i.invariant
    (omega (arith, c.loop-i.auto.i-end, c.loop-i-test.false))
