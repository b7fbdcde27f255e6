-- `need_super` meets its contract.
use Rattle.step_returns.proofs.Returns as ways
use Rattle.step_returns.proofs.need_super.Goals as goal

pub returns-then-class-eq-NONE : goal.returns-then-class-eq-NONE
returns-then-class-eq-NONE c = let a = c.args in ways.super_outside a.class a.level a.next a.span c.if-class-eq-NONE.true

pub returns-then-class-eq-ALONE : goal.returns-then-class-eq-ALONE
returns-then-class-eq-ALONE c = let a = c.args in ways.super_without a.class a.level a.next a.span c.if-class-eq-ALONE.true

pub returns : goal.returns
returns c = let a = c.args in ways.super_there a.class a.level a.next a.span c.if-class-eq-NONE.false c.if-class-eq-ALONE.false
