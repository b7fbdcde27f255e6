-- By the word that holds a function's kind.
use Rattle.stmt_returns.proofs.Returns as ways
use Rattle.stmt_returns.proofs.return_kind.Goals as goal

pub returns-then-kind-eq-SCRIPT : goal.returns-then-kind-eq-SCRIPT
returns-then-kind-eq-SCRIPT c = let a = c.args in ways.kind_outside a.level a.next a.span a.work.now.table.now c.if-kind-eq-SCRIPT.true

pub returns-then-kind-ge-INITIALIZER : goal.returns-then-kind-ge-INITIALIZER
returns-then-kind-ge-INITIALIZER c = let a = c.args in ways.kind_initializer a.level a.next a.span a.work.now.table.now c.if-kind-ge-INITIALIZER.true

pub returns : goal.returns
returns c = let a = c.args in ways.kind_returns a.level a.next a.span a.work.now.table.now c.if-kind-eq-SCRIPT.false c.if-kind-ge-INITIALIZER.false
