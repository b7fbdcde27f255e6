-- `emit_pair` meets its contract.
use Rattle.steps.proofs.Steps.{went}
use Rattle.step_returns.proofs.Closures as ways
use Rattle.step_returns.proofs.emit_pair.Goals as goal

pub returns-in_default-clause-does : goal.returns-in_default-clause-does
returns-in_default-clause-does c =
    let a = c.args in ways.pair_first a.limit a.level a.w a.span c.requires.1 c.emit_op-a.ensures.does c.in_default.is

pub emit_op-requires : goal.emit_op-requires
emit_op-requires c = (went (c.emit_op-a.ensures.does 0) c.in-Ok.is).ahead.fit

pub returns-clause-does : goal.returns-clause-does
returns-clause-does c =
    let a = c.args in ways.pair_then a.limit a.level a.w a.span c.requires.1
    c.emit_op-a.ensures.does c.in-Ok.is c.emit_op.ensures.does
