-- `close_class`, line by line.
use mathlib.Core.Path.{sym, ◌∙◌}
use Prim.Native.Nat.{ℕ, ◌<◌}
use Rattle.steps.proofs.Steps.{went}
use Rattle.stmt_heads.proofs.Heads.{depth_on}
use Rattle.stmt_class_close.proofs.Closing.{close_stop, close_with, close_without}
use Rattle.stmt_class_close.proofs.close_class.Goals as goal

pub returns-in_default-clause-does : goal.returns-in_default-clause-does
returns-in_default-clause-does c = λ class. close_stop _ _ _ _ (c.drop_class-a.ensures.does class) c.in_default.is

pub end_scope-requires : goal.end_scope-requires
end_scope-requires c = (
  (went (c.drop_class-a.ensures.does 0) c.in-Ok.is).ahead.fit,
  depth_on (λ (d : ℕ). 0 < d)
      (c.drop_class-a.ensures.does 0) c.in-Ok.is
      (c.requires.2 (sym c.u8_at.ensures ∙ c.if-u8_at-eq1.true)),
)

pub returns-then-u8_at-eq1-clause-does : goal.returns-then-u8_at-eq1-clause-does
returns-then-u8_at-eq1-clause-does c =
    λ class. close_with _ _ _ _ (sym c.u8_at.ensures ∙ c.if-u8_at-eq1.true)
    (c.drop_class-a.ensures.does class) c.in-Ok.is (c.end_scope.ensures.does class)

pub returns-clause-does : goal.returns-clause-does
returns-clause-does c = λ class. close_without _ _ _ _ (λ h. c.if-u8_at-eq1.false (c.u8_at.ensures ∙ h)) (c.drop_class-a.ensures.does class) c.in-Ok.is
