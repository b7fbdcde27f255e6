-- What `compile_expr` asks and answers, arm by arm: the mark that was read says which arm it is, and a law of `Arms` what each way out of it comes to.
use mathlib.Core.Path.{◌∙◌, refl, sym}
use borrow.Author.Rules.{rules}
use native.Mathlib.Omega.{arith}
use Rattle.tree_laws.proofs.Expressions.{assign_at, get_at, infix_at, prefix_at, set_at, any_at, super_at, var_at}
use Rattle.expr_laws.proofs.Counts.{all_left, more_left, none_left, one_less}
use Rattle.expr_laws.proofs.Calls.{walk_start, walk_there, walk_step}
use Rattle.expressions.proofs.Arms as ways
use Rattle.expressions.proofs.+compile_expr.Goals as goal

-- ## Before the arms

pub mark_at-mark-requires : goal.mark_at-mark-requires
mark_at-mark-requires t c = let b = (any_at _ _ _ _ c.requires.0.there.is).bound in omega (arith, b)

pub overflow_add-at : goal.overflow_add-at
overflow_add-at t c = let b = (any_at _ _ _ _ c.requires.0.there.is).bound in omega (arith, b)

pub span_at-span-requires : goal.span_at-span-requires
span_at-span-requires t c = let b = (any_at _ _ _ _ c.requires.0.there.is).bound in omega (arith, b)

-- ## A literal

pub literal-plain-requires : goal.literal-plain-requires
literal-plain-requires t c =
    let mark = sym c.mark_at-mark.ensures ∙ c.if-mark-eq-LITERAL.true in
    (c.requires.1, c.requires.0, mark, c.span_at-span.ensures)

pub returns-in_default-clause-does : goal.returns-in_default-clause-does
returns-in_default-clause-does t c = λ d. c.literal-plain.ensures.does _ d

pub returns-then-mark-eq-LITERAL-clause-does : goal.returns-then-mark-eq-LITERAL-clause-does
returns-then-mark-eq-LITERAL-clause-does t c = λ d. ways.same_answer c.in-Ok.is (c.literal-plain.ensures.does _ d)

-- ## A variable

pub overflow_add-at-then-mark-eq-VARIABLE : goal.overflow_add-at-then-mark-eq-VARIABLE
overflow_add-at-then-mark-eq-VARIABLE t c =
    let mark = sym c.mark_at-mark.ensures ∙ c.if-mark-eq-VARIABLE.true in
    let x = var_at _ _ _ _ mark c.requires.0.there.is in omega (arith, x.bound)

pub u16_at-variable-requires : goal.u16_at-variable-requires
u16_at-variable-requires t c =
    let mark = sym c.mark_at-mark.ensures ∙ c.if-mark-eq-VARIABLE.true in
    let x = var_at _ _ _ _ mark c.requires.0.there.is in omega (arith, x.bound)

pub overflow_add-at-then-mark-eq-VARIABLE-2 : goal.overflow_add-at-then-mark-eq-VARIABLE-2
overflow_add-at-then-mark-eq-VARIABLE-2 t c =
    let mark = sym c.mark_at-mark.ensures ∙ c.if-mark-eq-VARIABLE.true in
    let x = var_at _ _ _ _ mark c.requires.0.there.is in omega (arith, x.bound)

pub get_variable-fetched-requires : goal.get_variable-fetched-requires
get_variable-fetched-requires t c = c.requires.1

pub returns-in_default-fetched-clause-does : goal.returns-in_default-fetched-clause-does
returns-in_default-fetched-clause-does t c =
    let mark = sym c.mark_at-mark.ensures ∙ c.if-mark-eq-VARIABLE.true in
    λ d. ways.var_done _ d _ _ c.span_at-span.ensures _ c.u16_at-variable.ensures mark c.get_variable-fetched.ensures.does

pub returns-then-mark-eq-VARIABLE-clause-does : goal.returns-then-mark-eq-VARIABLE-clause-does
returns-then-mark-eq-VARIABLE-clause-does t c =
    let mark = sym c.mark_at-mark.ensures ∙ c.if-mark-eq-VARIABLE.true in
    λ d. ways.same_answer c.in-Ok-fetched.is (ways.var_done _ d _ _ c.span_at-span.ensures _ c.u16_at-variable.ensures mark c.get_variable-fetched.ensures.does)

-- ## An infix operator

pub overflow_add-at-then-mark-eq-INFIX : goal.overflow_add-at-then-mark-eq-INFIX
overflow_add-at-then-mark-eq-INFIX t c =
    let mark = sym c.mark_at-mark.ensures ∙ c.if-mark-eq-INFIX.true in
    let x = infix_at _ _ _ _ mark c.requires.0.there.is in omega (arith, x.bound)

pub u8_at-operator-requires : goal.u8_at-operator-requires
u8_at-operator-requires t c =
    let mark = sym c.mark_at-mark.ensures ∙ c.if-mark-eq-INFIX.true in
    let x = infix_at _ _ _ _ mark c.requires.0.there.is in omega (arith, x.bound)

pub overflow_add-at-then-mark-eq-INFIX-2 : goal.overflow_add-at-then-mark-eq-INFIX-2
overflow_add-at-then-mark-eq-INFIX-2 t c =
    let mark = sym c.mark_at-mark.ensures ∙ c.if-mark-eq-INFIX.true in
    let x = infix_at _ _ _ _ mark c.requires.0.there.is in omega (arith, x.bound)

pub compile_expr-lhs-requires : goal.compile_expr-lhs-requires
compile_expr-lhs-requires t c =
    let mark = sym c.mark_at-mark.ensures ∙ c.if-mark-eq-INFIX.true in
    let lhs_child = ways.infix_left _ _ _ c.requires.0.there.is c.decreases mark in
    (lhs_child.less, (lhs_child.there, c.requires.1))

pub returns-in_default-lhs-clause-does : goal.returns-in_default-lhs-clause-does
returns-in_default-lhs-clause-does t c =
    let mark = sym c.mark_at-mark.ensures ∙ c.if-mark-eq-INFIX.true in
    λ d. ways.infix_stop _ d _ mark (c.compile_expr-lhs.ensures.does _) c.in_default-lhs.is

pub before_right-begun-requires : goal.before_right-begun-requires
before_right-begun-requires t c =
    let mark = sym c.mark_at-mark.ensures ∙ c.if-mark-eq-INFIX.true in
    let lhs_child = ways.infix_left _ _ _ c.requires.0.there.is c.decreases mark in
    ways.ran_fit lhs_child.there c.compile_expr-lhs.ensures.does c.in-Ok-lhs.is

pub returns-in_default-begun-clause-does : goal.returns-in_default-begun-clause-does
returns-in_default-begun-clause-does t c =
    let mark = sym c.mark_at-mark.ensures ∙ c.if-mark-eq-INFIX.true in
    λ d. ways.infix_stop_2 _ d _ _ _ c.span_at-span.ensures c.u8_at-operator.ensures mark (c.compile_expr-lhs.ensures.does _) c.in-Ok-lhs.is (c.before_right-begun.ensures.does _)
    c.in_default-begun.is

pub compile_expr-rhs-requires : goal.compile_expr-rhs-requires
compile_expr-rhs-requires t c =
    let mark = sym c.mark_at-mark.ensures ∙ c.if-mark-eq-INFIX.true in
    let rhs_child = ways.infix_right _ _ _ c.requires.0.there.is c.decreases mark (c.compile_expr-lhs.ensures.does _) c.in-Ok-lhs.is in (
      rhs_child.less,
      (rhs_child.there, (ways.begun_fit _ _ _ c.u8_at-operator.ensures mark c.requires.0.there.is (c.before_right-begun.ensures.does 0) c.in-Ok-begun.is).0),
    )

pub returns-in_default-rhs-clause-does : goal.returns-in_default-rhs-clause-does
returns-in_default-rhs-clause-does t c =
    let mark = sym c.mark_at-mark.ensures ∙ c.if-mark-eq-INFIX.true in
    λ d. ways.infix_stop_3 _ d _ _ _ c.span_at-span.ensures c.u8_at-operator.ensures mark (c.compile_expr-lhs.ensures.does _) c.in-Ok-lhs.is (c.before_right-begun.ensures.does _)
    c.in-Ok-begun.is (c.compile_expr-rhs.ensures.does _) c.in_default-rhs.is

pub after_right-joined-requires : goal.after_right-joined-requires
after_right-joined-requires t c =
    let mark = sym c.mark_at-mark.ensures ∙ c.if-mark-eq-INFIX.true in
    let rhs_child = ways.infix_right _ _ _ c.requires.0.there.is c.decreases mark (c.compile_expr-lhs.ensures.does _) c.in-Ok-lhs.is in (
      ways.ran_fit rhs_child.there c.compile_expr-rhs.ensures.does c.in-Ok-rhs.is,
      λ h. ways.ran_still rhs_child.there c.compile_expr-rhs.ensures.does c.in-Ok-rhs.is _
          ((ways.begun_fit _ _ _ c.u8_at-operator.ensures mark c.requires.0.there.is (c.before_right-begun.ensures.does 0) c.in-Ok-begun.is).1 h),
    )

pub returns-in_default-joined-clause-does : goal.returns-in_default-joined-clause-does
returns-in_default-joined-clause-does t c =
    let mark = sym c.mark_at-mark.ensures ∙ c.if-mark-eq-INFIX.true in
    λ d. ways.infix_done _ d _ _ _ c.span_at-span.ensures c.u8_at-operator.ensures mark (c.compile_expr-lhs.ensures.does _) c.in-Ok-lhs.is (c.before_right-begun.ensures.does _)
    c.in-Ok-begun.is (c.compile_expr-rhs.ensures.does _) c.in-Ok-rhs.is (c.after_right-joined.ensures.does _)

pub returns-then-mark-eq-INFIX-clause-does : goal.returns-then-mark-eq-INFIX-clause-does
returns-then-mark-eq-INFIX-clause-does t c =
    let mark = sym c.mark_at-mark.ensures ∙ c.if-mark-eq-INFIX.true in
    λ d. ways.same_answer c.in-Ok-joined.is
    (ways.infix_done _ d _ _ _ c.span_at-span.ensures c.u8_at-operator.ensures mark (c.compile_expr-lhs.ensures.does _) c.in-Ok-lhs.is (c.before_right-begun.ensures.does _)
    c.in-Ok-begun.is (c.compile_expr-rhs.ensures.does _) c.in-Ok-rhs.is (c.after_right-joined.ensures.does _))

-- ## A prefix operator

pub overflow_add-at-then-mark-eq-PREFIX : goal.overflow_add-at-then-mark-eq-PREFIX
overflow_add-at-then-mark-eq-PREFIX t c =
    let mark = sym c.mark_at-mark.ensures ∙ c.if-mark-eq-PREFIX.true in
    let x = prefix_at _ _ _ _ mark c.requires.0.there.is in omega (arith, x.bound)

pub u8_at-sign-requires : goal.u8_at-sign-requires
u8_at-sign-requires t c =
    let mark = sym c.mark_at-mark.ensures ∙ c.if-mark-eq-PREFIX.true in
    let x = prefix_at _ _ _ _ mark c.requires.0.there.is in omega (arith, x.bound)

pub overflow_add-at-then-mark-eq-PREFIX-2 : goal.overflow_add-at-then-mark-eq-PREFIX-2
overflow_add-at-then-mark-eq-PREFIX-2 t c =
    let mark = sym c.mark_at-mark.ensures ∙ c.if-mark-eq-PREFIX.true in
    let x = prefix_at _ _ _ _ mark c.requires.0.there.is in omega (arith, x.bound)

pub compile_expr-operand-requires : goal.compile_expr-operand-requires
compile_expr-operand-requires t c =
    let mark = sym c.mark_at-mark.ensures ∙ c.if-mark-eq-PREFIX.true in
    let operand_child = ways.prefix_child _ _ _ c.requires.0.there.is c.decreases mark in
    (operand_child.less, (operand_child.there, c.requires.1))

pub returns-in_default-operand-clause-does : goal.returns-in_default-operand-clause-does
returns-in_default-operand-clause-does t c =
    let mark = sym c.mark_at-mark.ensures ∙ c.if-mark-eq-PREFIX.true in
    λ d. ways.prefix_stop _ d _ mark (c.compile_expr-operand.ensures.does _) c.in_default-operand.is

pub emit_op-signed-requires : goal.emit_op-signed-requires
emit_op-signed-requires t c =
    let mark = sym c.mark_at-mark.ensures ∙ c.if-mark-eq-PREFIX.true in
    let operand_child = ways.prefix_child _ _ _ c.requires.0.there.is c.decreases mark in
    ways.ran_fit operand_child.there c.compile_expr-operand.ensures.does c.in-Ok-operand.is

pub returns-in_default-signed-clause-does : goal.returns-in_default-signed-clause-does
returns-in_default-signed-clause-does t c =
    let mark = sym c.mark_at-mark.ensures ∙ c.if-mark-eq-PREFIX.true in
    λ d. ways.prefix_done _ d _ _ _ _ c.span_at-span.ensures c.u8_at-sign.ensures c.prefix_op.ensures mark (c.compile_expr-operand.ensures.does _) c.in-Ok-operand.is
    (c.emit_op-signed.ensures.does _)

pub returns-then-mark-eq-PREFIX-clause-does : goal.returns-then-mark-eq-PREFIX-clause-does
returns-then-mark-eq-PREFIX-clause-does t c =
    let mark = sym c.mark_at-mark.ensures ∙ c.if-mark-eq-PREFIX.true in
    λ d. ways.same_answer c.in-Ok-signed.is
    (ways.prefix_done _ d _ _ _ _ c.span_at-span.ensures c.u8_at-sign.ensures c.prefix_op.ensures mark (c.compile_expr-operand.ensures.does _) c.in-Ok-operand.is
    (c.emit_op-signed.ensures.does _))

-- ## A call

pub call_open-opened-requires : goal.call_open-opened-requires
call_open-opened-requires t c =
    let mark = sym c.mark_at-mark.ensures ∙ c.if-mark-eq-CALL.true in
    (c.requires.1, record { depth = _; there = ways.callee_there _ _ _ mark c.requires.0.there.is })

pub returns-in_default-opened-clause-does : goal.returns-in_default-opened-clause-does
returns-in_default-opened-clause-does t c =
    let mark = sym c.mark_at-mark.ensures ∙ c.if-mark-eq-CALL.true in
    λ d. ways.call_stop _ d _ _ c.span_at-span.ensures mark c.call_open-opened.ensures.does c.in_default-opened.is

pub call_parts-parts-requires : goal.call_parts-parts-requires
call_parts-parts-requires t c =
    let mark = sym c.mark_at-mark.ensures ∙ c.if-mark-eq-CALL.true in
    record { depth = _; there = ways.callee_there _ _ _ mark c.requires.0.there.is }

pub loop-init : goal.loop-init
loop-init t c =
    let mark = sym c.mark_at-mark.ensures ∙ c.if-mark-eq-CALL.true in (
      λ d. walk_start (ways.opened_fit _ _ _ _ c.span_at-span.ensures mark c.call_open-opened.ensures.does c.in-Ok-opened.is c.call_parts-parts.ensures
          c.requires.0.there.is) all_left,
      ways.opened_on _ _ _ _ c.span_at-span.ensures mark c.call_open-opened.ensures.does c.in-Ok-opened.is c.call_parts-parts.ensures
          c.requires.0.there.is,
      (refl, refl, refl, refl, refl, refl),
    )

pub compile_expr-part-requires : goal.compile_expr-part-requires
compile_expr-part-requires t c =
    let mark = sym c.mark_at-mark.ensures ∙ c.if-mark-eq-CALL.true in
    let parts = ways.parts_there _ _ _ _ c.span_at-span.ensures mark c.call_open-opened.ensures.does c.in-Ok-opened.is c.call_parts-parts.ensures c.requires.0.there.is in
    let part_child = ways.child _ _ _ c.requires.0.there.is c.decreases c.loop.invariant.1 (walk_there (c.loop.invariant.0 _) parts.is (more_left c.loop-test.true)) in
    (part_child.less, (part_child.there, (c.loop.invariant.0 0).fit))

pub returns-in_default-part-clause-does : goal.returns-in_default-part-clause-does
returns-in_default-part-clause-does t c =
    let mark = sym c.mark_at-mark.ensures ∙ c.if-mark-eq-CALL.true in
    λ d. ways.part_stop _ d _ _ c.span_at-span.ensures mark c.call_open-opened.ensures.does c.in-Ok-opened.is c.call_parts-parts.ensures (c.loop.invariant.0 _)
    (more_left c.loop-test.true) (c.compile_expr-part.ensures.does _) c.in_default-part.is

pub loop-preserved : goal.loop-preserved
loop-preserved t c =
    let mark = sym c.mark_at-mark.ensures ∙ c.if-mark-eq-CALL.true in
    let parts = ways.parts_there _ _ _ _ c.span_at-span.ensures mark c.call_open-opened.ensures.does c.in-Ok-opened.is c.call_parts-parts.ensures c.requires.0.there.is in
    let part_child = ways.child _ _ _ c.requires.0.there.is c.decreases c.loop.invariant.1 (walk_there (c.loop.invariant.0 _) parts.is (more_left c.loop-test.true)) in (
      λ d. walk_step (c.loop.invariant.0 d) (more_left c.loop-test.true) (c.compile_expr-part.ensures.does d) c.in-Ok-part.is
          (ways.ran_fit part_child.there c.compile_expr-part.ensures.does c.in-Ok-part.is) (one_less c.loop-test.true),
      ways.ran_on part_child.there c.compile_expr-part.ensures.does c.in-Ok-part.is
          c.loop.invariant.1,
      search rules,
    )

pub call_close-called-requires : goal.call_close-called-requires
call_close-called-requires t c =
    let mark = sym c.mark_at-mark.ensures ∙ c.if-mark-eq-CALL.true in
    ((c.loop.invariant.0 0).fit, record { depth = _; there = ways.callee_there _ _ _ mark c.requires.0.there.is }, c.call_open-opened.ensures.does.few _ c.in-Ok-opened.is)

pub returns-in_default-called-clause-does : goal.returns-in_default-called-clause-does
returns-in_default-called-clause-does t c =
    let mark = sym c.mark_at-mark.ensures ∙ c.if-mark-eq-CALL.true in
    λ d. ways.call_done _ d _ _ c.span_at-span.ensures mark c.call_open-opened.ensures.does c.in-Ok-opened.is c.call_parts-parts.ensures (c.loop.invariant.0 _)
    (none_left c.loop-test.false) c.call_close-called.ensures.does

pub returns-then-mark-eq-CALL-clause-does : goal.returns-then-mark-eq-CALL-clause-does
returns-then-mark-eq-CALL-clause-does t c =
    let mark = sym c.mark_at-mark.ensures ∙ c.if-mark-eq-CALL.true in
    λ d. ways.same_answer c.in-Ok-called.is
    (ways.call_done _ d _ _ c.span_at-span.ensures mark c.call_open-opened.ensures.does c.in-Ok-opened.is c.call_parts-parts.ensures (c.loop.invariant.0 _) (none_left c.loop-test.false)
    c.call_close-called.ensures.does)

-- ## A method of the superclass

pub overflow_add-at-then-mark-eq-SUPER : goal.overflow_add-at-then-mark-eq-SUPER
overflow_add-at-then-mark-eq-SUPER t c =
    let mark = sym c.mark_at-mark.ensures ∙ c.if-mark-eq-SUPER.true in
    let x = super_at _ _ _ _ mark c.requires.0.there.is in omega (arith, x.bound)

pub u16_at-method-requires : goal.u16_at-method-requires
u16_at-method-requires t c =
    let mark = sym c.mark_at-mark.ensures ∙ c.if-mark-eq-SUPER.true in
    let x = super_at _ _ _ _ mark c.requires.0.there.is in omega (arith, x.bound)

pub overflow_add-at-then-mark-eq-SUPER-2 : goal.overflow_add-at-then-mark-eq-SUPER-2
overflow_add-at-then-mark-eq-SUPER-2 t c =
    let mark = sym c.mark_at-mark.ensures ∙ c.if-mark-eq-SUPER.true in
    let x = super_at _ _ _ _ mark c.requires.0.there.is in omega (arith, x.bound)

pub compile_super-bound-requires : goal.compile_super-bound-requires
compile_super-bound-requires t c = c.requires.1

pub returns-in_default-bound-clause-does : goal.returns-in_default-bound-clause-does
returns-in_default-bound-clause-does t c =
    let mark = sym c.mark_at-mark.ensures ∙ c.if-mark-eq-SUPER.true in
    λ d. ways.super_done _ d _ _ c.span_at-span.ensures _ c.u16_at-method.ensures mark c.compile_super-bound.ensures.does

pub returns-then-mark-eq-SUPER-clause-does : goal.returns-then-mark-eq-SUPER-clause-does
returns-then-mark-eq-SUPER-clause-does t c =
    let mark = sym c.mark_at-mark.ensures ∙ c.if-mark-eq-SUPER.true in
    λ d. ways.same_answer c.in-Ok-bound.is (ways.super_done _ d _ _ c.span_at-span.ensures _ c.u16_at-method.ensures mark c.compile_super-bound.ensures.does)

-- ## An assignment

pub overflow_add-at-then-mark-eq-ASSIGN : goal.overflow_add-at-then-mark-eq-ASSIGN
overflow_add-at-then-mark-eq-ASSIGN t c =
    let mark = sym c.mark_at-mark.ensures ∙ c.if-mark-eq-ASSIGN.true in
    let x = assign_at _ _ _ _ mark c.requires.0.there.is in omega (arith, x.bound)

pub u16_at-assigned-requires : goal.u16_at-assigned-requires
u16_at-assigned-requires t c =
    let mark = sym c.mark_at-mark.ensures ∙ c.if-mark-eq-ASSIGN.true in
    let x = assign_at _ _ _ _ mark c.requires.0.there.is in omega (arith, x.bound)

pub overflow_add-at-then-mark-eq-ASSIGN-2 : goal.overflow_add-at-then-mark-eq-ASSIGN-2
overflow_add-at-then-mark-eq-ASSIGN-2 t c =
    let mark = sym c.mark_at-mark.ensures ∙ c.if-mark-eq-ASSIGN.true in
    let x = assign_at _ _ _ _ mark c.requires.0.there.is in omega (arith, x.bound)

pub compile_expr-given-requires : goal.compile_expr-given-requires
compile_expr-given-requires t c =
    let mark = sym c.mark_at-mark.ensures ∙ c.if-mark-eq-ASSIGN.true in
    let given_child = ways.assign_child _ _ _ c.requires.0.there.is c.decreases mark in
    (given_child.less, (given_child.there, c.requires.1))

pub returns-in_default-given-clause-does : goal.returns-in_default-given-clause-does
returns-in_default-given-clause-does t c =
    let mark = sym c.mark_at-mark.ensures ∙ c.if-mark-eq-ASSIGN.true in
    λ d. ways.assign_stop _ d _ mark (c.compile_expr-given.ensures.does _) c.in_default-given.is

pub set_variable-stored-requires : goal.set_variable-stored-requires
set_variable-stored-requires t c =
    let mark = sym c.mark_at-mark.ensures ∙ c.if-mark-eq-ASSIGN.true in
    let given_child = ways.assign_child _ _ _ c.requires.0.there.is c.decreases mark in
    ways.ran_fit given_child.there c.compile_expr-given.ensures.does c.in-Ok-given.is

pub returns-in_default-stored-clause-does : goal.returns-in_default-stored-clause-does
returns-in_default-stored-clause-does t c =
    let mark = sym c.mark_at-mark.ensures ∙ c.if-mark-eq-ASSIGN.true in
    λ d. ways.assign_done _ d _ _ c.span_at-span.ensures _ c.u16_at-assigned.ensures mark (c.compile_expr-given.ensures.does _) c.in-Ok-given.is (c.set_variable-stored.ensures.does _)

pub returns-then-mark-eq-ASSIGN-clause-does : goal.returns-then-mark-eq-ASSIGN-clause-does
returns-then-mark-eq-ASSIGN-clause-does t c =
    let mark = sym c.mark_at-mark.ensures ∙ c.if-mark-eq-ASSIGN.true in
    λ d. ways.same_answer c.in-Ok-stored.is
    (ways.assign_done _ d _ _ c.span_at-span.ensures _ c.u16_at-assigned.ensures mark (c.compile_expr-given.ensures.does _) c.in-Ok-given.is (c.set_variable-stored.ensures.does _))

-- ## A property read

pub overflow_add-at-then-mark-eq-GET : goal.overflow_add-at-then-mark-eq-GET
overflow_add-at-then-mark-eq-GET t c =
    let mark = sym c.mark_at-mark.ensures ∙ c.if-mark-eq-GET.true in
    let x = get_at _ _ _ _ mark c.requires.0.there.is in omega (arith, x.bound)

pub u16_at-property-requires : goal.u16_at-property-requires
u16_at-property-requires t c =
    let mark = sym c.mark_at-mark.ensures ∙ c.if-mark-eq-GET.true in
    let x = get_at _ _ _ _ mark c.requires.0.there.is in omega (arith, x.bound)

pub overflow_add-at-then-mark-eq-GET-2 : goal.overflow_add-at-then-mark-eq-GET-2
overflow_add-at-then-mark-eq-GET-2 t c =
    let mark = sym c.mark_at-mark.ensures ∙ c.if-mark-eq-GET.true in
    let x = get_at _ _ _ _ mark c.requires.0.there.is in omega (arith, x.bound)

pub compile_expr-object-requires : goal.compile_expr-object-requires
compile_expr-object-requires t c =
    let mark = sym c.mark_at-mark.ensures ∙ c.if-mark-eq-GET.true in
    let object_child = ways.get_child _ _ _ c.requires.0.there.is c.decreases mark in
    (object_child.less, (object_child.there, c.requires.1))

pub returns-in_default-object-clause-does : goal.returns-in_default-object-clause-does
returns-in_default-object-clause-does t c =
    let mark = sym c.mark_at-mark.ensures ∙ c.if-mark-eq-GET.true in
    λ d. ways.get_stop _ d _ mark (c.compile_expr-object.ensures.does _) c.in_default-object.is

pub emit_op_name-read-requires : goal.emit_op_name-read-requires
emit_op_name-read-requires t c =
    let mark = sym c.mark_at-mark.ensures ∙ c.if-mark-eq-GET.true in
    let object_child = ways.get_child _ _ _ c.requires.0.there.is c.decreases mark in
    ways.ran_fit object_child.there c.compile_expr-object.ensures.does c.in-Ok-object.is

pub returns-in_default-read-clause-does : goal.returns-in_default-read-clause-does
returns-in_default-read-clause-does t c =
    let mark = sym c.mark_at-mark.ensures ∙ c.if-mark-eq-GET.true in
    λ d. ways.get_done _ d _ _ c.span_at-span.ensures _ c.u16_at-property.ensures mark (c.compile_expr-object.ensures.does _) c.in-Ok-object.is (c.emit_op_name-read.ensures.does _)

pub returns-then-mark-eq-GET-clause-does : goal.returns-then-mark-eq-GET-clause-does
returns-then-mark-eq-GET-clause-does t c =
    let mark = sym c.mark_at-mark.ensures ∙ c.if-mark-eq-GET.true in
    λ d. ways.same_answer c.in-Ok-read.is
    (ways.get_done _ d _ _ c.span_at-span.ensures _ c.u16_at-property.ensures mark (c.compile_expr-object.ensures.does _) c.in-Ok-object.is (c.emit_op_name-read.ensures.does _))

-- ## A property set, which is what is left where no mark fits

pub overflow_add-at-2 : goal.overflow_add-at-2
overflow_add-at-2 t c =
    let mark = ways.last_kind _ _ _ _ c.mark_at-mark.ensures c.requires.0.there.is c.if-mark-eq-LITERAL.false c.if-mark-eq-VARIABLE.false c.if-mark-eq-INFIX.false
    c.if-mark-eq-PREFIX.false c.if-mark-eq-CALL.false c.if-mark-eq-SUPER.false c.if-mark-eq-ASSIGN.false c.if-mark-eq-GET.false in
    let x = set_at _ _ _ _ mark c.requires.0.there.is in omega (arith, x.bound)

pub u16_at-field-requires : goal.u16_at-field-requires
u16_at-field-requires t c =
    let mark = ways.last_kind _ _ _ _ c.mark_at-mark.ensures c.requires.0.there.is c.if-mark-eq-LITERAL.false c.if-mark-eq-VARIABLE.false c.if-mark-eq-INFIX.false
    c.if-mark-eq-PREFIX.false c.if-mark-eq-CALL.false c.if-mark-eq-SUPER.false c.if-mark-eq-ASSIGN.false c.if-mark-eq-GET.false in
    let x = set_at _ _ _ _ mark c.requires.0.there.is in omega (arith, x.bound)

pub overflow_add-from : goal.overflow_add-from
overflow_add-from t c =
    let mark = ways.last_kind _ _ _ _ c.mark_at-mark.ensures c.requires.0.there.is c.if-mark-eq-LITERAL.false c.if-mark-eq-VARIABLE.false c.if-mark-eq-INFIX.false
    c.if-mark-eq-PREFIX.false c.if-mark-eq-CALL.false c.if-mark-eq-SUPER.false c.if-mark-eq-ASSIGN.false c.if-mark-eq-GET.false in
    let x = set_at _ _ _ _ mark c.requires.0.there.is in omega (arith, x.bound)

pub compile_expr-value-requires : goal.compile_expr-value-requires
compile_expr-value-requires t c =
    let mark = ways.last_kind _ _ _ _ c.mark_at-mark.ensures c.requires.0.there.is c.if-mark-eq-LITERAL.false c.if-mark-eq-VARIABLE.false c.if-mark-eq-INFIX.false
    c.if-mark-eq-PREFIX.false c.if-mark-eq-CALL.false c.if-mark-eq-SUPER.false c.if-mark-eq-ASSIGN.false c.if-mark-eq-GET.false in
    let value_child = ways.set_value _ _ _ c.requires.0.there.is c.decreases mark in
    (value_child.less, (value_child.there, c.requires.1))

pub returns-in_default-value-clause-does : goal.returns-in_default-value-clause-does
returns-in_default-value-clause-does t c =
    let mark = ways.last_kind _ _ _ _ c.mark_at-mark.ensures c.requires.0.there.is c.if-mark-eq-LITERAL.false c.if-mark-eq-VARIABLE.false c.if-mark-eq-INFIX.false
    c.if-mark-eq-PREFIX.false c.if-mark-eq-CALL.false c.if-mark-eq-SUPER.false c.if-mark-eq-ASSIGN.false c.if-mark-eq-GET.false in
    λ d. ways.set_stop _ d _ mark (c.compile_expr-value.ensures.does _) c.in_default-value.is

-- Both children are at hand, so that an edit that compiles the value twice is stopped by what the function says of its result.
pub compile_expr-holder-requires : goal.compile_expr-holder-requires
compile_expr-holder-requires t c =
    let mark = ways.last_kind _ _ _ _ c.mark_at-mark.ensures c.requires.0.there.is c.if-mark-eq-LITERAL.false c.if-mark-eq-VARIABLE.false c.if-mark-eq-INFIX.false
    c.if-mark-eq-PREFIX.false c.if-mark-eq-CALL.false c.if-mark-eq-SUPER.false c.if-mark-eq-ASSIGN.false c.if-mark-eq-GET.false in
    let value_child = ways.set_value _ _ _ c.requires.0.there.is c.decreases mark in
    let holder_child = ways.set_object _ _ _ c.requires.0.there.is c.decreases mark (c.compile_expr-value.ensures.does _) c.in-Ok-value.is in (
      ways.of_both (λ value object. search) value_child.less holder_child.less,
      (ways.of_both (λ value object. search) value_child.there holder_child.there, ways.ran_fit value_child.there c.compile_expr-value.ensures.does c.in-Ok-value.is),
    )

pub returns-in_default-holder-clause-does : goal.returns-in_default-holder-clause-does
returns-in_default-holder-clause-does t c =
    let mark = ways.last_kind _ _ _ _ c.mark_at-mark.ensures c.requires.0.there.is c.if-mark-eq-LITERAL.false c.if-mark-eq-VARIABLE.false c.if-mark-eq-INFIX.false
    c.if-mark-eq-PREFIX.false c.if-mark-eq-CALL.false c.if-mark-eq-SUPER.false c.if-mark-eq-ASSIGN.false c.if-mark-eq-GET.false in
    λ d. ways.set_stop_2 _ d _ mark (c.compile_expr-value.ensures.does _) c.in-Ok-value.is (c.compile_expr-holder.ensures.does _) c.in_default-holder.is

pub emit_op_name-put-requires : goal.emit_op_name-put-requires
emit_op_name-put-requires t c =
    let mark = ways.last_kind _ _ _ _ c.mark_at-mark.ensures c.requires.0.there.is c.if-mark-eq-LITERAL.false c.if-mark-eq-VARIABLE.false c.if-mark-eq-INFIX.false
    c.if-mark-eq-PREFIX.false c.if-mark-eq-CALL.false c.if-mark-eq-SUPER.false c.if-mark-eq-ASSIGN.false c.if-mark-eq-GET.false in
    let holder_child = ways.set_object _ _ _ c.requires.0.there.is c.decreases mark (c.compile_expr-value.ensures.does _) c.in-Ok-value.is in
    ways.ran_fit holder_child.there c.compile_expr-holder.ensures.does c.in-Ok-holder.is

pub returns-in_default-put-clause-does : goal.returns-in_default-put-clause-does
returns-in_default-put-clause-does t c =
    let mark = ways.last_kind _ _ _ _ c.mark_at-mark.ensures c.requires.0.there.is c.if-mark-eq-LITERAL.false c.if-mark-eq-VARIABLE.false c.if-mark-eq-INFIX.false
    c.if-mark-eq-PREFIX.false c.if-mark-eq-CALL.false c.if-mark-eq-SUPER.false c.if-mark-eq-ASSIGN.false c.if-mark-eq-GET.false in
    λ d. ways.set_done _ d _ _ c.span_at-span.ensures _ c.u16_at-field.ensures mark (c.compile_expr-value.ensures.does _) c.in-Ok-value.is (c.compile_expr-holder.ensures.does _)
    c.in-Ok-holder.is (c.emit_op_name-put.ensures.does _)

pub returns-clause-does : goal.returns-clause-does
returns-clause-does t c =
    let mark = ways.last_kind _ _ _ _ c.mark_at-mark.ensures c.requires.0.there.is c.if-mark-eq-LITERAL.false c.if-mark-eq-VARIABLE.false c.if-mark-eq-INFIX.false
    c.if-mark-eq-PREFIX.false c.if-mark-eq-CALL.false c.if-mark-eq-SUPER.false c.if-mark-eq-ASSIGN.false c.if-mark-eq-GET.false in
    λ d. ways.same_answer c.in-Ok-put.is
    (ways.set_done _ d _ _ c.span_at-span.ensures _ c.u16_at-field.ensures mark (c.compile_expr-value.ensures.does _) c.in-Ok-value.is (c.compile_expr-holder.ensures.does _)
    c.in-Ok-holder.is (c.emit_op_name-put.ensures.does _))
