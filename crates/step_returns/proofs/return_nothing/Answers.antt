-- `return_nothing` meets its contract.
use Rattle.rules.specs.Compiler.{compile_return}
use Rattle.steps.proofs.Steps.{went, halt, then_on, stop, ask, ask_refused, refused_seq}
use Rattle.step_returns.proofs.Returns as ways
use Rattle.step_returns.proofs.return_nothing.Goals as goal

pub returns-then-kind-clause-does : goal.returns-then-kind-clause-does
unfolding compile_return
returns-then-kind-clause-does c =
    λ class. let a = c.args in stop _ (ask_refused (ways.told_type a.work.now.table.now a.work.now.code.now a.work.now.spans.now a.level) _
    (refused_seq (ways.no_return _ a.limit a.span c.if-kind.true) _))

pub returns-in_default-clause-does : goal.returns-in_default-clause-does
unfolding compile_return
returns-in_default-clause-does c =
    λ class. let a = c.args in ask (ways.told_type a.work.now.table.now a.work.now.code.now a.work.now.spans.now a.level) _
    (halt _ (c.emit_nothing-a.ensures.does class) c.in_default.is)

pub emit_op-requires : goal.emit_op-requires
emit_op-requires c = (went (c.emit_nothing-a.ensures.does 0) c.in-Ok.is).ahead.fit

pub returns-clause-does : goal.returns-clause-does
unfolding compile_return
returns-clause-does c =
    λ class. let a = c.args in ask (ways.told_type a.work.now.table.now a.work.now.code.now a.work.now.spans.now a.level) _
    (then_on _ (c.emit_nothing-a.ensures.does class) c.in-Ok.is (c.emit_op.ensures.does class))
