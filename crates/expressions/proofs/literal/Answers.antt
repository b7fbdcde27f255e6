-- A literal, by its kind.
use mathlib.Core.Path.{sym, ◌∙◌}
use Rattle.tree_laws.proofs.Expressions.{literal_at, number_at, string_at, last_kind}
use Rattle.expressions.proofs.Arms.{false_done, true_done, nil_done, number_done, string_done}
use native.Mathlib.Omega.{arith}
use Rattle.expressions.proofs.literal.Goals as goal

pub overflow_add-at : goal.overflow_add-at
overflow_add-at c =
    let b = (literal_at _ _ _ _ c.requires.2 c.requires.1.there.is).bound in omega (arith, b)

pub u8_at-kind-requires : goal.u8_at-kind-requires
u8_at-kind-requires c =
    let b = (literal_at _ _ _ _ c.requires.2 c.requires.1.there.is).bound in omega (arith, b)

pub overflow_add-at-then-kind-eq0 : goal.overflow_add-at-then-kind-eq0
overflow_add-at-then-kind-eq0 c =
    let b = (literal_at _ _ _ _ c.requires.2 c.requires.1.there.is).bound in omega (arith, b)

pub returns-then-kind-eq0-clause-does : goal.returns-then-kind-eq0-clause-does
returns-then-kind-eq0-clause-does c =
    λ class d. false_done _ d _ _ c.requires.2 c.requires.3 (sym c.u8_at-kind.ensures ∙ c.if-kind-eq0.true) (c.emit_op.ensures.does class)

pub overflow_add-at-then-kind-eq1 : goal.overflow_add-at-then-kind-eq1
overflow_add-at-then-kind-eq1 c =
    let b = (literal_at _ _ _ _ c.requires.2 c.requires.1.there.is).bound in omega (arith, b)

pub returns-then-kind-eq1-clause-does : goal.returns-then-kind-eq1-clause-does
returns-then-kind-eq1-clause-does c =
    λ class d. true_done _ d _ _ c.requires.2 c.requires.3 (sym c.u8_at-kind.ensures ∙ c.if-kind-eq1.true) (c.emit_op-then-kind-eq1.ensures.does class)

pub overflow_add-at-then-kind-eq2 : goal.overflow_add-at-then-kind-eq2
overflow_add-at-then-kind-eq2 c =
    let b = (literal_at _ _ _ _ c.requires.2 c.requires.1.there.is).bound in omega (arith, b)

pub returns-then-kind-eq2-clause-does : goal.returns-then-kind-eq2-clause-does
returns-then-kind-eq2-clause-does c =
    λ class d. nil_done _ d _ _ c.requires.2 c.requires.3 (sym c.u8_at-kind.ensures ∙ c.if-kind-eq2.true) (c.emit_op-then-kind-eq2.ensures.does class)

pub overflow_add-at-then-kind-eq3 : goal.overflow_add-at-then-kind-eq3
overflow_add-at-then-kind-eq3 c =
    let b = (literal_at _ _ _ _ c.requires.2 c.requires.1.there.is).bound in omega (arith, b)

pub u64_at-bits-requires : goal.u64_at-bits-requires
u64_at-bits-requires c =
    let b = (number_at _ _ _ (literal_at _ _ _ _ c.requires.2 c.requires.1.there.is) (sym c.u8_at-kind.ensures ∙ c.if-kind-eq3.true)).bound in omega (arith, b)

pub overflow_add-at-then-kind-eq3-2 : goal.overflow_add-at-then-kind-eq3-2
overflow_add-at-then-kind-eq3-2 c =
    let b = (number_at _ _ _ (literal_at _ _ _ _ c.requires.2 c.requires.1.there.is) (sym c.u8_at-kind.ensures ∙ c.if-kind-eq3.true)).bound in omega (arith, b)

pub returns-then-kind-eq3-clause-does : goal.returns-then-kind-eq3-clause-does
returns-then-kind-eq3-clause-does c =
    λ class d. number_done _ d _ _ c.requires.2 c.requires.3 _ c.u64_at-bits.ensures
    (number_at _ _ _ (literal_at _ _ _ _ c.requires.2 c.requires.1.there.is) (sym c.u8_at-kind.ensures ∙ c.if-kind-eq3.true)).small (sym c.u8_at-kind.ensures ∙ c.if-kind-eq3.true)
    (c.emit_op_constant.ensures.does class)

pub overflow_add-at-2 : goal.overflow_add-at-2
overflow_add-at-2 c =
    let b = (literal_at _ _ _ _ c.requires.2 c.requires.1.there.is).bound in omega (arith, b)

pub u16_at-name-requires : goal.u16_at-name-requires
u16_at-name-requires c =
    let i = literal_at _ _ _ _ c.requires.2 c.requires.1.there.is in
    let k = last_kind _ _ _ i (λ e. c.if-kind-eq0.false (c.u8_at-kind.ensures ∙ e)) (λ e. c.if-kind-eq1.false (c.u8_at-kind.ensures ∙ e))
    (λ e. c.if-kind-eq2.false (c.u8_at-kind.ensures ∙ e)) (λ e. c.if-kind-eq3.false (c.u8_at-kind.ensures ∙ e)) in
    let b = (string_at _ _ _ i k).bound in omega (arith, b)

pub overflow_add-at-3 : goal.overflow_add-at-3
overflow_add-at-3 c =
    let i = literal_at _ _ _ _ c.requires.2 c.requires.1.there.is in
    let k = last_kind _ _ _ i (λ e. c.if-kind-eq0.false (c.u8_at-kind.ensures ∙ e)) (λ e. c.if-kind-eq1.false (c.u8_at-kind.ensures ∙ e))
    (λ e. c.if-kind-eq2.false (c.u8_at-kind.ensures ∙ e)) (λ e. c.if-kind-eq3.false (c.u8_at-kind.ensures ∙ e)) in
    let b = (string_at _ _ _ i k).bound in omega (arith, b)

pub returns-clause-does : goal.returns-clause-does
returns-clause-does c =
    λ class d. string_done _ d _ _ c.requires.2 c.requires.3 _ c.u16_at-name.ensures
    (last_kind _ _ _ (literal_at _ _ _ _ c.requires.2 c.requires.1.there.is) (λ e. c.if-kind-eq0.false (c.u8_at-kind.ensures ∙ e)) (λ e. c.if-kind-eq1.false (c.u8_at-kind.ensures ∙ e))
    (λ e. c.if-kind-eq2.false (c.u8_at-kind.ensures ∙ e)) (λ e. c.if-kind-eq3.false (c.u8_at-kind.ensures ∙ e))) (c.emit_op_name.ensures.does class)
