-- `ends_in_return` meets its contract.
use mathlib.Core.Path.{refl}
use Rattle.step_returns.proofs.Returns as ways
use Rattle.step_returns.proofs.ends_in_return.Goals as goal

pub returns-then-end-from : goal.returns-then-end-from
returns-then-end-from c = let a = c.args in ways.ends_not a.t.now a.code.now a.level c.if-end-from.true

pub returns : goal.returns
returns c = let a = c.args in ways.ends_by a.t.now a.code.now a.level _ c.if-end-from.false refl
