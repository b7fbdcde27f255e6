-- `emit_loop` meets its contract.
use borrow.Author.Rules.{rules}
use mathlib.Core.List.{[]}
use native.Mathlib.Omega.{arith}
use mathlib.Core.Path.{refl}
use borrow.Author.Tests.{le-leb, lt-leb}
use Rattle.rules.specs.Compiler.{emit_op, emit_loop}
use Rattle.steps.specs.Why.{jump_too_large, refusal_of}
use Rattle.steps.proofs.Steps.{went, halt, then_on, stop, ask, ask_seq, ask_refused, refused_seq, passed, failed}
use Rattle.steps.specs.View.{code_len}
use Rattle.step_jumps.proofs.emit_loop.Goals as goal

pub overflow_add-back : goal.overflow_add-back
unfolding code_len
overflow_add-back c = omega (arith, c.code_length_in.ensures.is [] [], c.requires.0.coded.within, c.requires.0.coded.room_code)

pub returns-then-back-gt-JUMP-clause-does : goal.returns-then-back-gt-JUMP-clause-does
unfolding emit_loop emit_op refusal_of
returns-then-back-gt-JUMP-clause-does c =
    λ class. let a = c.args in stop _ (ask_refused (c.code_length_in.ensures.says class a.work.now.code.now a.work.now.spans.now) _
    (refused_seq (failed _ (jump_too_large a.level a.span) refl (lt-leb _ _ c.if-back-gt-JUMP.true)) _))

pub returns-in_default-clause-does : goal.returns-in_default-clause-does
unfolding emit_loop emit_op
returns-in_default-clause-does c =
    λ class. let a = c.args in ask (c.code_length_in.ensures.says class a.work.now.code.now a.work.now.spans.now) _
    (ask_seq (passed _ _ (le-leb _ _ (search rules))) _ (halt _ (c.emit_op-a.ensures.does class) c.in_default.is))

pub emit_op-b-requires : goal.emit_op-b-requires
emit_op-b-requires c = (went (c.emit_op-a.ensures.does 0) c.in-Ok.is).ahead.fit

pub returns-in_default-b-clause-does : goal.returns-in_default-b-clause-does
unfolding emit_loop emit_op
returns-in_default-b-clause-does c =
    λ class. let a = c.args in ask (c.code_length_in.ensures.says class a.work.now.code.now a.work.now.spans.now) _
    (ask_seq (passed _ _ (le-leb _ _ c.if-back-gt-JUMP.false)) _
    (then_on _ (c.emit_op-a.ensures.does class) c.in-Ok.is
    (halt _ (c.emit_op-b.ensures.does class) c.in_default-b.is)))

pub emit_op-requires : goal.emit_op-requires
emit_op-requires c = (went (c.emit_op-b.ensures.does 0) c.in-Ok-b.is).ahead.fit

pub returns-clause-does : goal.returns-clause-does
unfolding emit_loop emit_op
returns-clause-does c =
    λ class. let a = c.args in ask (c.code_length_in.ensures.says class a.work.now.code.now a.work.now.spans.now) _
    (ask_seq (passed _ _ (le-leb _ _ c.if-back-gt-JUMP.false)) _
    (then_on _ (c.emit_op-a.ensures.does class) c.in-Ok.is
    (then_on _ (c.emit_op-b.ensures.does class) c.in-Ok-b.is (c.emit_op.ensures.does class))))
