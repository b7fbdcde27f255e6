-- `kind_of` meets its contract.
use mathlib.Core.Path.{ap, ◌∙◌}
use Rattle.image_code.specs.declared.Kind.TheVariants.{Function}
use Rattle.image_constants.specs.Earlier.{earlier}
use Rattle.image_constants.proofs.Kinding.{word_number, word_string, word_function, word_late}
use Rattle.image_constants.proofs.Earlier.kind_of.Goals as goal

pub returns-then-word-eq0 : goal.returns-then-word-eq0
returns-then-word-eq0 c = word_number (earlier c.args.self.now.s.now c.args.self.now.k) c.args.self.now.k c.args.word c.if-word-eq0.true

pub returns-then-word-eq1 : goal.returns-then-word-eq1
returns-then-word-eq1 c = word_string (earlier c.args.self.now.s.now c.args.self.now.k) c.args.self.now.k c.args.word c.if-word-eq0.false c.if-word-eq1.true

pub returns-then-number-self : goal.returns-then-number-self
returns-then-number-self c =
    ap Function c.upvalues_of.ensures ∙
    word_function (earlier c.args.self.now.s.now c.args.self.now.k) c.args.self.now.k c.args.word c.if-word-eq0.false c.if-word-eq1.false c.if-number-self.true

pub returns : goal.returns
returns c = word_late (earlier c.args.self.now.s.now c.args.self.now.k) c.args.self.now.k c.args.word c.if-word-eq0.false c.if-word-eq1.false c.if-number-self.false
