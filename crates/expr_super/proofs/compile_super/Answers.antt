-- `compile_super`, line by line.
use Rattle.rules.specs.Compiler.{compile_super}
use Rattle.steps.proofs.Steps.{went, halt, then_on}
use Rattle.expr_super.proofs.compile_super.Goals as goal

pub returns-in_default-clause-does : goal.returns-in_default-clause-does
unfolding compile_super
returns-in_default-clause-does c =
    halt _ (c.need_super-n.ensures.gives _ c.requires) c.in_default.is

pub returns-in_default-a-clause-does : goal.returns-in_default-a-clause-does
unfolding compile_super
returns-in_default-a-clause-does c =
    then_on _ (c.need_super-n.ensures.gives _ c.requires) c.in-Ok.is (halt _ c.get_variable-a.ensures.does c.in_default-a.is)

pub get_variable-b-requires : goal.get_variable-b-requires
get_variable-b-requires c =
    (went c.get_variable-a.ensures.does c.in-Ok-a.is).ahead.fit

pub returns-in_default-b-clause-does : goal.returns-in_default-b-clause-does
unfolding compile_super
returns-in_default-b-clause-does c =
    then_on _ (c.need_super-n.ensures.gives _ c.requires) c.in-Ok.is
    (then_on _ c.get_variable-a.ensures.does c.in-Ok-a.is (halt _ c.get_variable-b.ensures.does c.in_default-b.is))

pub emit_op_name-requires : goal.emit_op_name-requires
emit_op_name-requires c =
    (went c.get_variable-b.ensures.does c.in-Ok-b.is).ahead.fit

pub returns-clause-does : goal.returns-clause-does
unfolding compile_super
returns-clause-does c =
    then_on _ (c.need_super-n.ensures.gives _ c.requires) c.in-Ok.is
    (then_on _ c.get_variable-a.ensures.does c.in-Ok-a.is
    (then_on _ c.get_variable-b.ensures.does c.in-Ok-b.is (c.emit_op_name.ensures.does _)))
