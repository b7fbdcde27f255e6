-- `define_name` meets its contract.
use Rattle.rules.specs.Compiler.{define_name, define_global}
use Rattle.steps.proofs.Steps.{went, halt, then_on, next, ask, chosen, otherwise}
use Rattle.step_names.proofs.define_name.Goals as goal

pub returns-then-is_global_in-clause-does : goal.returns-then-is_global_in-clause-does
unfolding define_name define_global
returns-then-is_global_in-clause-does c =
    λ class. let a = c.args in ask (c.is_global_in.ensures.says a.work.now.code.now a.work.now.spans.now) _
    (chosen _ _ _ c.if-is_global_in.true (c.emit_op_name.ensures.does class))

pub returns-in_default-clause-does : goal.returns-in_default-clause-does
unfolding define_name define_global
returns-in_default-clause-does c =
    λ class. let a = c.args in ask (c.is_global_in.ensures.says a.work.now.code.now a.work.now.spans.now) _
    (otherwise _ _ _ c.if-is_global_in.false (halt _
    (c.declare_local-a.ensures.gives a.work.now.code.now a.work.now.spans.now c.requires) c.in_default.is))

pub define_local-requires : goal.define_local-requires
define_local-requires c =
    let a = c.args in let f = (went
    (c.declare_local-a.ensures.gives {class = 0} a.work.now.code.now a.work.now.spans.now c.requires)
    c.in-Ok.is).ahead.fit in (f.low, f.wf)

pub returns-clause-does : goal.returns-clause-does
unfolding define_name define_global
returns-clause-does c = λ class. let a = c.args in
    let d = c.declare_local-a.ensures.gives {class = class} a.work.now.code.now a.work.now.spans.now c.requires in
    ask (c.is_global_in.ensures.says a.work.now.code.now a.work.now.spans.now) _
    (otherwise _ _ _ c.if-is_global_in.false
    (then_on _ d c.in-Ok.is
    (next (c.define_local.ensures.gives a.work.now.code.now a.work.now.spans.now (went d c.in-Ok.is).ahead.fit))))
