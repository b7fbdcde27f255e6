-- The class goes from the stack where there are methods.
use mathlib.Core.Path.{sym, ◌∙◌}
use Rattle.stmt_class_close.proofs.Closing.{drop_none, drop_one}
use Rattle.stmt_class_close.proofs.drop_class.Goals as goal

pub returns-then-u16_at-eq0-clause-does : goal.returns-then-u16_at-eq0-clause-does
returns-then-u16_at-eq0-clause-does c = λ class. drop_none _ _ (sym c.u16_at.ensures ∙ c.if-u16_at-eq0.true) c.requires.1

pub returns-clause-does : goal.returns-clause-does
returns-clause-does c = λ class. drop_one _ _ (λ h. c.if-u16_at-eq0.false (c.u16_at.ensures ∙ h)) (c.emit_op.ensures.does class)
