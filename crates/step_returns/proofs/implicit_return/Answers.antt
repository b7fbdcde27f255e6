-- `implicit_return` meets its contract.
use Rattle.step_returns.proofs.Returns as ways
use Rattle.step_returns.proofs.implicit_return.Goals as goal

pub returns-then-ends_in-clause-does : goal.returns-then-ends_in-clause-does
returns-then-ends_in-clause-does c =
    λ class. let a = c.args in ways.returned a.limit a.level a.next a.work.now.table.now a.work.now.code.now a.work.now.spans.now _
    c.ends_in.ensures c.if-ends_in.true c.requires

pub returns-clause-does : goal.returns-clause-does
returns-clause-does c =
    λ class. let a = c.args in ways.returns_now a.limit a.level a.next a.work.now.table.now a.work.now.code.now a.work.now.spans.now _
    c.ends_in.ensures c.if-ends_in.false (c.return_nothing.ensures.does class)
