-- `touches` meets its contract.
use mathlib.Core.Path.{sym, ◌∙◌}
use Rattle.image_touch.proofs.Walking.{other_op, operand_within, past_constants, by_word}
use Rattle.image_touch.proofs.touches.Goals as goal

pub returns-then-not-names_global : goal.returns-then-not-names_global
returns-then-not-names_global c =
    other_op c.args.code.now c.args.kinds.now c.args.words.now c.args.at c.args.name (sym c.names_global.ensures ∙ c.if-not-names_global.true)

pub bounds-code-at-2 : goal.bounds-code-at-2
bounds-code-at-2 c =
    operand_within c.args.code.now c.args.kinds.now c.args.words.now c.args.at c.args.name
    (sym c.names_global.ensures ∙ c.if-not-names_global.false) c.requires.nonzero c.requires.code_in_bounds

pub returns-then-place-words : goal.returns-then-place-words
returns-then-place-words c =
    past_constants c.args.code.now c.args.kinds.now c.args.words.now c.args.at c.args.name
    (sym c.names_global.ensures ∙ c.if-not-names_global.false) c.requires.nonzero c.if-place-words.true

pub returns : goal.returns
returns c =
    by_word c.args.code.now c.args.kinds.now c.args.words.now c.args.at c.args.name
    (sym c.names_global.ensures ∙ c.if-not-names_global.false) c.requires.nonzero c.if-place-words.false
