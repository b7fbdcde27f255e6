-- `answer` answers as the program is said to, by the length of the tree.
use Rattle.std.proofs.Common.{◌≡◌, ℕ, ◌<◌, ◌≤◌, List, arith, length, sym, ap, ◌∙◌}
use Rattle.rules.specs.declared.Answer.{Answer}
use Rattle.rules.specs.declared.Refusal.TheVariants.{TreeTooLong}
use Rattle.rules.specs.Answer.{refusal}
use Rattle.rules.specs.Entry.{Lent, Left, compile}
use Rattle.program.specs.Program.{most, Answered}
use Rattle.program.proofs.Shown.{long, short}
use Rattle.program.proofs.answer.Goals as goal

module _ (tree : List ℕ) (lent : Lent) where
  too_long : {a : Answer} {o : List ℕ} → most < length tree → a ≡ refusal TreeTooLong → Answered tree lent a o
  too_long h e = (e ∙ sym (long tree lent h), λ k. absurd (omega (arith, h, k)))

  compiled : {left : Left} → length tree ≤ most → left ≡ compile tree lent → Answered tree lent left.answer left.output
  compiled h e = (ap (λ (l : Left). l.answer) e ∙ sym (short tree lent h), λ k. ap (λ (l : Left). l.output) e)

pub returns-then-tree-gt-MOST : goal.returns-then-tree-gt-MOST
returns-then-tree-gt-MOST c = too_long _ _ c.if-tree-gt-MOST.true c.refused.ensures

pub returns : goal.returns
returns c = compiled _ _ c.if-tree-gt-MOST.false c.compile.ensures
