-- The superclass by the flag: there is one, or none.
use mathlib.Core.Path.{sym, ◌∙◌}
use Rattle.stmt_heads.proofs.Heads.{head_room}
use Rattle.stmt_superclass.proofs.Inheriting.{superclass_there, superclass_none}
use Rattle.stmt_superclass.proofs.superclass.Goals as goal

pub inherit-requires : goal.inherit-requires
inherit-requires c = (
  head_room _ _ c.requires.0 (sym c.u8_at.ensures ∙ c.if-u8_at-eq1.true),
  c.requires.1,
  c.requires.2,
)

pub returns-then-u8_at-eq1-clause-does : goal.returns-then-u8_at-eq1-clause-does
returns-then-u8_at-eq1-clause-does c = superclass_there _ _ _ _ (sym c.u8_at.ensures ∙ c.if-u8_at-eq1.true) c.inherit.ensures.does

pub returns-clause-does : goal.returns-clause-does
returns-clause-does c = superclass_none _ _ _ _ (λ h. c.if-u8_at-eq1.false (c.u8_at.ensures ∙ h)) c.requires.1
