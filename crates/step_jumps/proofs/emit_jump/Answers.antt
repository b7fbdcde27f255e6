-- `emit_jump` meets its contract.
use mathlib.Core.List.{[]}
use native.Mathlib.Omega.{arith}
use Rattle.rules.specs.Compiler.{emit_op, emit_jump}
use Rattle.steps.proofs.Steps.{went, halt_to, then_to}
use Rattle.step_bytes.proofs.Bytes.{longer}
use Rattle.steps.proofs.Jumps as ways
use Rattle.steps.specs.View.{code_len}
use Rattle.step_jumps.proofs.emit_jump.Goals as goal

pub returns-in_default-clause-does : goal.returns-in_default-clause-does
unfolding emit_jump emit_op code_len
returns-in_default-clause-does c = λ class. halt_to _ (c.emit_op-a.ensures.does class) c.in_default.is

pub emit_op-b-requires : goal.emit_op-b-requires
emit_op-b-requires c = (went (c.emit_op-a.ensures.does 0) c.in-Ok.is).ahead.fit

pub returns-in_default-b-clause-does : goal.returns-in_default-b-clause-does
unfolding emit_jump emit_op code_len
returns-in_default-b-clause-does c =
    λ class. then_to _ (c.emit_op-a.ensures.does class) c.in-Ok.is
    (halt_to _ (c.emit_op-b.ensures.does class) c.in_default-b.is)

pub emit_op-d-requires : goal.emit_op-d-requires
emit_op-d-requires c = (went (c.emit_op-b.ensures.does 0) c.in-Ok-b.is).ahead.fit

pub returns-in_default-d-clause-does : goal.returns-in_default-d-clause-does
unfolding emit_jump emit_op code_len
returns-in_default-d-clause-does c =
    λ class. then_to _ (c.emit_op-a.ensures.does class) c.in-Ok.is
    (then_to _ (c.emit_op-b.ensures.does class) c.in-Ok-b.is
    (halt_to _ (c.emit_op-d.ensures.does class) c.in_default-d.is))

pub code_length_in-n-requires : goal.code_length_in-n-requires
code_length_in-n-requires c = let f = (went (c.emit_op-d.ensures.does 0) c.in-Ok-d.is).ahead.fit in (f.low, f.wf.size, f.coded.top)

pub overflow_sub-result : goal.overflow_sub-result
unfolding emit_jump emit_op code_len
overflow_sub-result c =
    omega (
      arith,
      c.code_length_in-n.ensures.is [] [],
      longer _ _ (c.emit_op-b.ensures.does 0)
          c.in-Ok-b.is,
      longer _ _ (c.emit_op-d.ensures.does 0) c.in-Ok-d.is,
    )

pub returns-clause-does : goal.returns-clause-does
unfolding emit_jump emit_op code_len
returns-clause-does c = λ class.
    let f = (went (c.emit_op-d.ensures.does 0) c.in-Ok-d.is).ahead.fit in
    then_to _ (c.emit_op-a.ensures.does class) c.in-Ok.is
    (then_to _ (c.emit_op-b.ensures.does class) c.in-Ok-b.is
    (then_to _ (c.emit_op-d.ensures.does class) c.in-Ok-d.is
    (ways.open_place _ f (c.code_length_in-n.ensures.is [] [])
    (omega (
      arith,
      c.code_length_in-n.ensures.is [] [],
      longer _ _ (c.emit_op-b.ensures.does 0)
          c.in-Ok-b.is,
      longer _ _ (c.emit_op-d.ensures.does 0) c.in-Ok-d.is,
    )))))
