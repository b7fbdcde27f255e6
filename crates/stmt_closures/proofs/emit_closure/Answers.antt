-- `emit_closure` meets its contract.
use mathlib.Core.Path.{refl}
use Rattle.steps.proofs.Steps.{went}
use Rattle.stmt_closures.proofs.Closures.{closure_first, closure_second, closure_last}
use Rattle.stmt_closures.proofs.emit_closure.Goals as goal

pub returns-in_default-clause-does : goal.returns-in_default-clause-does
returns-in_default-clause-does c =
    λ class. let a = c.args in closure_first class a.limit a.level a.next a.number a.span _
    (c.emit_op-a.ensures.does class) c.in_default.is

pub emit_constant-b-requires : goal.emit_constant-b-requires
emit_constant-b-requires c = (went (c.emit_op-a.ensures.does 0) c.in-Ok.is).ahead.fit

pub returns-in_default-b-clause-does : goal.returns-in_default-b-clause-does
returns-in_default-b-clause-does c =
    λ class. let a = c.args in closure_second class a.limit a.level a.next a.number a.span _
    (c.emit_op-a.ensures.does class) c.in-Ok.is
    c.function_word.result c.function_word.ensures
    (c.emit_constant-b.ensures.does class) c.in_default-b.is

pub emit_upvalues-requires : goal.emit_upvalues-requires
emit_upvalues-requires c =
    ((went (c.emit_constant-b.ensures.does 0) c.in-Ok-b.is).ahead.fit, c.requires.1)

pub returns-clause-does : goal.returns-clause-does
returns-clause-does c =
    λ class. let a = c.args in closure_last class a.limit a.level a.next a.number a.span _
    (c.emit_op-a.ensures.does class) c.in-Ok.is
    c.function_word.result c.function_word.ensures
    c.requires.1 c.requires.0 refl (c.emit_constant-b.ensures.does class)
    c.in-Ok-b.is (c.emit_upvalues.ensures.does class)
