-- `can_grow` meets its contract.
use Rattle.state_code.proofs.Emit as ways
use Rattle.state_code.proofs.can_grow.Goals as goal

pub returns-then-m-first : goal.returns-then-m-first
returns-then-m-first c = let a = c.args in ways.no_run a.spans.now a.first a.m a.span c.if-m-first.true

pub returns-then-spans-at : goal.returns-then-spans-at
returns-then-spans-at c = let a = c.args in ways.other_start a.spans.now a.first a.m a.span c.if-m-first.false c.if-spans-at.true

pub returns-then-spans-at-2 : goal.returns-then-spans-at-2
returns-then-spans-at-2 c = let a = c.args in ways.other_end a.spans.now a.first a.m a.span c.if-m-first.false c.if-spans-at.false c.if-spans-at-2.true

pub returns : goal.returns
returns c =
    let a = c.args in ways.by_count a.spans.now a.first a.m a.span c.if-m-first.false
    c.if-spans-at.false c.if-spans-at-2.false
