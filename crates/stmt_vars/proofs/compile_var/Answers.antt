-- The parts of a `var`, one after the other.
use native.Mathlib.Omega.{arith}
use Rattle.steps.proofs.Steps.{went}
use Rattle.stmt_vars.proofs.Vars as ways
use Rattle.stmt_vars.proofs.compile_var.Goals as goal

pub overflow_add-at : goal.overflow_add-at
overflow_add-at c =
    let bound = ways.var_bound c.requires.1 c.requires.0 in
    let b = bound in omega (arith, b)

pub span_at-span-requires : goal.span_at-span-requires
span_at-span-requires c =
    let bound = ways.var_bound c.requires.1 c.requires.0 in
    let b = bound in omega (arith, b)

pub overflow_add-at-2 : goal.overflow_add-at-2
overflow_add-at-2 c =
    let bound = ways.var_bound c.requires.1 c.requires.0 in
    let b = bound in omega (arith, b)

pub u16_at-name-requires : goal.u16_at-name-requires
u16_at-name-requires c =
    let bound = ways.var_bound c.requires.1 c.requires.0 in
    let b = bound in omega (arith, b)

pub overflow_add-at-3 : goal.overflow_add-at-3
overflow_add-at-3 c =
    let bound = ways.var_bound c.requires.1 c.requires.0 in
    let b = bound in omega (arith, b)

pub u8_at-flag-requires : goal.u8_at-flag-requires
u8_at-flag-requires c =
    let bound = ways.var_bound c.requires.1 c.requires.0 in
    let b = bound in omega (arith, b)

pub overflow_add-at-4 : goal.overflow_add-at-4
overflow_add-at-4 c =
    let bound = ways.var_bound c.requires.1 c.requires.0 in
    let b = bound in omega (arith, b)

pub returns-in_default-clause-does : goal.returns-in_default-clause-does
returns-in_default-clause-does c =
    λ d. ways.var_stop _ d _ _ c.requires.1 _ c.u8_at-flag.ensures _ c.span_at-span.ensures _ c.u16_at-name.ensures _ (c.is_global_in-global.ensures.says c.args.work.now.code.now c.args.work.now.spans.now)
    (c.open_var-a.ensures.gives c.args.work.now.code.now c.args.work.now.spans.now c.requires.2) c.in_default.is

pub overflow_add-at-5 : goal.overflow_add-at-5
overflow_add-at-5 c =
    let bound = ways.var_bound c.requires.1 c.requires.0 in
    let b = bound in omega (arith, b)

pub compile_value-b-requires : goal.compile_value-b-requires
compile_value-b-requires c =
    let value_there = ways.var_value c.requires.1 c.u8_at-flag.ensures c.requires.0 in
    (value_there, (went (c.open_var-a.ensures.gives {class = 0} c.args.work.now.code.now c.args.work.now.spans.now c.requires.2) c.in-Ok.is).ahead.fit)

pub returns-in_default-b-clause-does : goal.returns-in_default-b-clause-does
returns-in_default-b-clause-does c =
    λ d. ways.var_value_stop _ d _ _ c.requires.1 _ c.u8_at-flag.ensures _ c.span_at-span.ensures _ c.u16_at-name.ensures _
    (c.is_global_in-global.ensures.says c.args.work.now.code.now c.args.work.now.spans.now) (c.open_var-a.ensures.gives c.args.work.now.code.now c.args.work.now.spans.now c.requires.2) c.in-Ok.is
    (c.compile_value-b.ensures.does _) c.in_default-b.is

pub close_var-requires : goal.close_var-requires
close_var-requires c =
    let value_there = ways.var_value c.requires.1 c.u8_at-flag.ensures c.requires.0 in
    ways.value_fit value_there c.compile_value-b.ensures.does c.in-Ok-b.is

pub returns-clause-does : goal.returns-clause-does
returns-clause-does c =
    λ d. ways.var_done _ d _ _ c.requires.1 _ c.u8_at-flag.ensures _ c.span_at-span.ensures _ c.u16_at-name.ensures _ (c.is_global_in-global.ensures.says c.args.work.now.code.now c.args.work.now.spans.now)
    (c.open_var-a.ensures.gives c.args.work.now.code.now c.args.work.now.spans.now c.requires.2) c.in-Ok.is (c.compile_value-b.ensures.does _) c.in-Ok-b.is (c.close_var.ensures.does _)
