-- The class that the methods are in, by the flag.
use mathlib.Core.Path.{sym, ◌∙◌}
use Rattle.stmt_heads.proofs.Heads.{inner_with, inner_without}
use Rattle.stmt_heads.proofs.inner_class.Goals as goal

pub returns-then-u8_at-eq1 : goal.returns-then-u8_at-eq1
returns-then-u8_at-eq1 c = inner_with _ _ (sym c.u8_at.ensures ∙ c.if-u8_at-eq1.true)

pub returns : goal.returns
returns c = inner_without _ _ (λ h. c.if-u8_at-eq1.false (c.u8_at.ensures ∙ h))
