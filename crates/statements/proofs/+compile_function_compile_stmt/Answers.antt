-- What `compile_function` and `compile_stmt` ask and answer, arm by arm: the mark that was read says which arm of `compile_stmt` it is, and a law what each way
-- out of it comes to.
use mathlib.Core.Path.{◌∙◌, ap, refl, sym}
use borrow.Author.Rules.{rules}
use native.Mathlib.Omega.{arith}
use Rattle.state.specs.Kinds.{number_of}
use Rattle.steps.specs.View.{mem, areas}
use Rattle.stmt_laws.proofs.Calls as calls
use Rattle.expr_laws.proofs.Counts.{all_left, more_left, none_left, one_less}
use Rattle.statements.proofs.Blocks as blocks
use Rattle.statements.proofs.Walks as walks
use Rattle.statements.proofs.Methods as methods
use Rattle.statements.proofs.Fors as fors
use Rattle.statements.proofs.Functions as functions
use Rattle.statements.proofs.Ifs as ifs
use Rattle.statements.proofs.Whiles as whiles
use Rattle.statements.proofs.+compile_function_compile_stmt.Goals as goal
use Rattle.statements.proofs.+compile_function_compile_stmt.Goals.{compile_stmt-then-parts-eq1+in-Ok-a-3, compile_stmt-else-parts-eq1}

-- ## A function

pub compile_function-open_function-a-requires : goal.compile_function-open_function-a-requires
compile_function-open_function-a-requires t c =
    let p = c.requires in
    functions.head p (number_of c.args.kind) c.args.span

pub compile_function-returns-in_default-clause-does : goal.compile_function-returns-in_default-clause-does
compile_function-returns-in_default-clause-does t c =
    let p = c.requires in
    functions.stop p (rw c.from.ensures at c.open_function-a.ensures) _ c.in_default.is

pub compile_function-overflow_add-next : goal.compile_function-overflow_add-next
compile_function-overflow_add-next t c =
    let p = c.requires in
    let b = functions.bound p c.open_function-a.ensures c.in-Ok.is in
    omega (arith, b, c.well_formed)

pub compile_function-u16_at-count-requires : goal.compile_function-u16_at-count-requires
compile_function-u16_at-count-requires t c =
    let p = c.requires in
    let b = functions.bound p c.open_function-a.ensures c.in-Ok.is in
    omega (arith, b)

pub compile_function-loop-init : goal.compile_function-loop-init
compile_function-loop-init t c =
    let p = c.requires in (
      functions.start p c.open_function-a.ensures c.in-Ok.is _ (all_left ∙ c.u16_at-count.ensures),
      (refl, refl, refl, refl, refl, refl),
    )

pub compile_function-overflow_add-level : goal.compile_function-overflow_add-level
compile_function-overflow_add-level t c =
    let p = c.requires in
    let b = p.room in
    omega (arith, b)

pub compile_function-compile_stmt-b-requires : goal.compile_function-compile_stmt-b-requires
compile_function-compile_stmt-b-requires t c =
    let p = c.requires in
    functions.child p c.open_function-a.ensures c.in-Ok.is c.loop.invariant.0 (more_left c.loop-test.true) c.decreases

pub compile_function-returns-in_default-b-clause-does : goal.compile_function-returns-in_default-b-clause-does
compile_function-returns-in_default-b-clause-does t c =
    let p = c.requires in
    functions.stop_2 p (rw c.from.ensures at c.open_function-a.ensures) c.in-Ok.is c.loop.invariant.0 (more_left c.loop-test.true)
    c.compile_stmt-b.ensures.does c.in_default-b.is

pub compile_function-loop-preserved : goal.compile_function-loop-preserved
compile_function-loop-preserved t c = (
  walks.in_step c.loop.invariant.0 (more_left c.loop-test.true) c.compile_stmt-b.ensures.does c.in-Ok-b.is (one_less c.loop-test.true),
  search rules,
)

pub compile_function-close_function-requires : goal.compile_function-close_function-requires
compile_function-close_function-requires t c =
    let p = c.requires in
    functions.close p c.open_function-a.ensures c.in-Ok.is c.loop.invariant.0 (none_left c.loop-test.false)

pub compile_function-returns-clause-does : goal.compile_function-returns-clause-does
compile_function-returns-clause-does t c =
    let p = c.requires in
    functions.done p (rw c.from.ensures at c.open_function-a.ensures) c.in-Ok.is c.loop.invariant.0 (none_left c.loop-test.false)
    c.close_function.ensures.does

-- ## A statement, before the arms

pub compile_stmt-mark_at-mark-requires : goal.compile_stmt-mark_at-mark-requires
compile_stmt-mark_at-mark-requires t c = let b = calls.bound _ _ _ _ c.requires.there in omega (arith, b)

pub compile_stmt-overflow_add-at : goal.compile_stmt-overflow_add-at
compile_stmt-overflow_add-at t c = let b = calls.bound _ _ _ _ c.requires.there in omega (arith, b, c.well_formed)

pub compile_stmt-span_at-span-requires : goal.compile_stmt-span_at-span-requires
compile_stmt-span_at-span-requires t c = let b = calls.bound _ _ _ _ c.requires.there in omega (arith, b)

-- ## A block

pub compile_stmt-begin_scope-requires : goal.compile_stmt-begin_scope-requires
compile_stmt-begin_scope-requires t c =
    let p = c.requires in
    (p.ready.fit.low, p.ready.fit.wf, calls.scope_room _ _ _ _ _ (calls.room _ _ _ _ p.there) p.ready)

pub compile_stmt-overflow_add-next : goal.compile_stmt-overflow_add-next
compile_stmt-overflow_add-next t c =
    let mark = sym c.mark_at-mark.ensures ∙ c.if-mark-eq-BLOCK.true in
    let p = c.requires in
    let b = blocks.bound p mark in
    omega (arith, b, c.well_formed)

pub compile_stmt-overflow_add-at-then-mark-eq-BLOCK : goal.compile_stmt-overflow_add-at-then-mark-eq-BLOCK
compile_stmt-overflow_add-at-then-mark-eq-BLOCK t c =
    let mark = sym c.mark_at-mark.ensures ∙ c.if-mark-eq-BLOCK.true in
    let p = c.requires in
    let b = blocks.bound p mark in
    omega (arith, b, c.well_formed)

pub compile_stmt-u16_at-count-requires : goal.compile_stmt-u16_at-count-requires
compile_stmt-u16_at-count-requires t c =
    let mark = sym c.mark_at-mark.ensures ∙ c.if-mark-eq-BLOCK.true in
    let p = c.requires in
    let b = blocks.bound p mark in
    omega (arith, b)

pub compile_stmt-loop-init : goal.compile_stmt-loop-init
compile_stmt-loop-init t c =
    let mark = sym c.mark_at-mark.ensures ∙ c.if-mark-eq-BLOCK.true in
    let p = c.requires in (
      blocks.start p mark (c.begin_scope.ensures.gives _ _ p.ready.fit) _ (all_left ∙ c.u16_at-count.ensures),
      (refl, refl, refl, refl, refl, refl),
    )

pub compile_stmt-compile_stmt-a-requires : goal.compile_stmt-compile_stmt-a-requires
compile_stmt-compile_stmt-a-requires t c =
    let p = c.requires in
    walks.in_stmt c.loop.invariant.0 (more_left c.loop-test.true) (calls.bound _ _ _ _ p.there) c.decreases

pub compile_stmt-returns-in_default-clause-does : goal.compile_stmt-returns-in_default-clause-does
compile_stmt-returns-in_default-clause-does t c =
    let mark = sym c.mark_at-mark.ensures ∙ c.if-mark-eq-BLOCK.true in
    let p = c.requires in
    blocks.stop p mark (c.begin_scope.ensures.gives _ _ p.ready.fit) c.span_at-span.ensures
    c.loop.invariant.0 (more_left c.loop-test.true) c.compile_stmt-a.ensures.does c.in_default.is

pub compile_stmt-loop-preserved : goal.compile_stmt-loop-preserved
compile_stmt-loop-preserved t c = (
  walks.in_step c.loop.invariant.0 (more_left c.loop-test.true) c.compile_stmt-a.ensures.does c.in-Ok.is (one_less c.loop-test.true),
  search rules,
)

pub compile_stmt-end_scope-requires : goal.compile_stmt-end_scope-requires
compile_stmt-end_scope-requires t c =
    let mark = sym c.mark_at-mark.ensures ∙ c.if-mark-eq-BLOCK.true in
    let p = c.requires in
    blocks.end p mark (c.begin_scope.ensures.gives _ _ p.ready.fit) c.span_at-span.ensures
    c.loop.invariant.0 (none_left c.loop-test.false)

pub compile_stmt-returns-then-mark-eq-BLOCK-clause-does : goal.compile_stmt-returns-then-mark-eq-BLOCK-clause-does
compile_stmt-returns-then-mark-eq-BLOCK-clause-does t c =
    let mark = sym c.mark_at-mark.ensures ∙ c.if-mark-eq-BLOCK.true in
    let p = c.requires in
    blocks.done p mark (c.begin_scope.ensures.gives _ _ p.ready.fit) c.span_at-span.ensures
    c.loop.invariant.0 (none_left c.loop-test.false) c.end_scope.ensures.does

-- ## An `if`

pub compile_stmt-overflow_add-at-then-mark-eq-IF : goal.compile_stmt-overflow_add-at-then-mark-eq-IF
compile_stmt-overflow_add-at-then-mark-eq-IF t c =
    let mark = sym c.mark_at-mark.ensures ∙ c.if-mark-eq-IF.true in
    let p = c.requires in
    let b = ifs.bound p mark in
    omega (arith, b, c.well_formed)

pub compile_stmt-compile_expr-a-requires : goal.compile_stmt-compile_expr-a-requires
compile_stmt-compile_expr-a-requires t c =
    let mark = sym c.mark_at-mark.ensures ∙ c.if-mark-eq-IF.true in
    let p = c.requires in
    (ifs.test p mark, p.ready.fit)

pub compile_stmt-returns-in_default-a-clause-does : goal.compile_stmt-returns-in_default-a-clause-does
compile_stmt-returns-in_default-a-clause-does t c =
    let mark = sym c.mark_at-mark.ensures ∙ c.if-mark-eq-IF.true in
    let p = c.requires in
    ifs.stop p mark c.span_at-span.ensures c.compile_expr-a.ensures.does _ c.in_default-a.is

pub compile_stmt-open_jump-b-requires : goal.compile_stmt-open_jump-b-requires
compile_stmt-open_jump-b-requires t c =
    let mark = sym c.mark_at-mark.ensures ∙ c.if-mark-eq-IF.true in
    let p = c.requires in
    ifs.fit p mark c.span_at-span.ensures c.compile_expr-a.ensures.does c.in-Ok-a.is

pub compile_stmt-returns-in_default-b-clause-does : goal.compile_stmt-returns-in_default-b-clause-does
compile_stmt-returns-in_default-b-clause-does t c =
    let mark = sym c.mark_at-mark.ensures ∙ c.if-mark-eq-IF.true in
    let p = c.requires in
    ifs.stop_2 p mark c.span_at-span.ensures c.compile_expr-a.ensures.does c.in-Ok-a.is c.open_jump-b.ensures.does _
    c.in_default-b.is

pub compile_stmt-compile_stmt-d-requires : goal.compile_stmt-compile_stmt-d-requires
compile_stmt-compile_stmt-d-requires t c =
    let mark = sym c.mark_at-mark.ensures ∙ c.if-mark-eq-IF.true in
    let p = c.requires in
    ifs.yes p mark c.span_at-span.ensures c.compile_expr-a.ensures.does c.in-Ok-a.is c.open_jump-b.ensures.does
    c.in-Ok-b.is c.decreases

pub compile_stmt-returns-in_default-d-clause-does : goal.compile_stmt-returns-in_default-d-clause-does
compile_stmt-returns-in_default-d-clause-does t c =
    let mark = sym c.mark_at-mark.ensures ∙ c.if-mark-eq-IF.true in
    let p = c.requires in
    ifs.stop_3 p mark c.span_at-span.ensures c.compile_expr-a.ensures.does c.in-Ok-a.is c.open_jump-b.ensures.does
    c.in-Ok-b.is c.compile_stmt-d.ensures.does c.in_default-d.is

pub compile_stmt-turn_jump-e-requires : goal.compile_stmt-turn_jump-e-requires
compile_stmt-turn_jump-e-requires t c =
    let mark = sym c.mark_at-mark.ensures ∙ c.if-mark-eq-IF.true in
    let p = c.requires in
    ifs.turn p mark c.span_at-span.ensures c.compile_expr-a.ensures.does c.in-Ok-a.is c.open_jump-b.ensures.does
    c.in-Ok-b.is c.compile_stmt-d.ensures.does c.in-Ok-d.is

pub compile_stmt-returns-in_default-e-clause-does : goal.compile_stmt-returns-in_default-e-clause-does
compile_stmt-returns-in_default-e-clause-does t c =
    let mark = sym c.mark_at-mark.ensures ∙ c.if-mark-eq-IF.true in
    let p = c.requires in
    ifs.stop_4 p mark c.span_at-span.ensures c.compile_expr-a.ensures.does c.in-Ok-a.is c.open_jump-b.ensures.does
    c.in-Ok-b.is c.compile_stmt-d.ensures.does c.in-Ok-d.is c.turn_jump-e.ensures.does c.in_default-e.is

pub compile_stmt-overflow_add-at-then-mark-eq-IF-2 : goal.compile_stmt-overflow_add-at-then-mark-eq-IF-2
compile_stmt-overflow_add-at-then-mark-eq-IF-2 t c =
    let mark = sym c.mark_at-mark.ensures ∙ c.if-mark-eq-IF.true in
    let p = c.requires in
    let b = ifs.bound p mark in
    omega (arith, b, c.well_formed)

pub compile_stmt-u8_at-requires : goal.compile_stmt-u8_at-requires
compile_stmt-u8_at-requires t c =
    let mark = sym c.mark_at-mark.ensures ∙ c.if-mark-eq-IF.true in
    let p = c.requires in
    let b = ifs.bound p mark in
    omega (arith, b)

pub compile_stmt-patch_jump-requires : goal.compile_stmt-patch_jump-requires
compile_stmt-patch_jump-requires t c =
    let mark = sym c.mark_at-mark.ensures ∙ c.if-mark-eq-IF.true in
    let p = c.requires in
    ifs.none_patch p mark c.span_at-span.ensures c.compile_expr-a.ensures.does c.in-Ok-a.is c.open_jump-b.ensures.does
    c.in-Ok-b.is c.compile_stmt-d.ensures.does c.in-Ok-d.is c.turn_jump-e.ensures.does c.in-Ok-e.is
    c.u8_at.ensures c.if-u8_at-eq0.true

pub compile_stmt-returns-then-u8_at-eq0-clause-does : goal.compile_stmt-returns-then-u8_at-eq0-clause-does
compile_stmt-returns-then-u8_at-eq0-clause-does t c =
    let mark = sym c.mark_at-mark.ensures ∙ c.if-mark-eq-IF.true in
    let p = c.requires in
    ifs.none_done p mark c.span_at-span.ensures c.compile_expr-a.ensures.does c.in-Ok-a.is c.open_jump-b.ensures.does
    c.in-Ok-b.is c.compile_stmt-d.ensures.does c.in-Ok-d.is c.turn_jump-e.ensures.does c.in-Ok-e.is
    c.u8_at.ensures c.if-u8_at-eq0.true c.patch_jump.ensures.does

pub compile_stmt-compile_stmt-f-requires : goal.compile_stmt-compile_stmt-f-requires
compile_stmt-compile_stmt-f-requires t c =
    let mark = sym c.mark_at-mark.ensures ∙ c.if-mark-eq-IF.true in
    let p = c.requires in
    ifs.no p mark c.span_at-span.ensures c.compile_expr-a.ensures.does c.in-Ok-a.is c.open_jump-b.ensures.does
    c.in-Ok-b.is c.compile_stmt-d.ensures.does c.in-Ok-d.is c.turn_jump-e.ensures.does c.in-Ok-e.is
    c.u8_at.ensures c.if-u8_at-eq0.false c.decreases

pub compile_stmt-returns-in_default-f-clause-does : goal.compile_stmt-returns-in_default-f-clause-does
compile_stmt-returns-in_default-f-clause-does t c =
    let mark = sym c.mark_at-mark.ensures ∙ c.if-mark-eq-IF.true in
    let p = c.requires in
    ifs.stop_5 p mark c.span_at-span.ensures c.compile_expr-a.ensures.does c.in-Ok-a.is c.open_jump-b.ensures.does
    c.in-Ok-b.is c.compile_stmt-d.ensures.does c.in-Ok-d.is c.turn_jump-e.ensures.does c.in-Ok-e.is
    c.u8_at.ensures c.if-u8_at-eq0.false c.compile_stmt-f.ensures.does c.in_default-f.is

pub compile_stmt-patch_jump-requires-then-mark-eq-IF : goal.compile_stmt-patch_jump-requires-then-mark-eq-IF
compile_stmt-patch_jump-requires-then-mark-eq-IF t c =
    let mark = sym c.mark_at-mark.ensures ∙ c.if-mark-eq-IF.true in
    let p = c.requires in
    ifs.one_patch p mark c.span_at-span.ensures c.compile_expr-a.ensures.does c.in-Ok-a.is c.open_jump-b.ensures.does
    c.in-Ok-b.is c.compile_stmt-d.ensures.does c.in-Ok-d.is c.turn_jump-e.ensures.does c.in-Ok-e.is
    c.u8_at.ensures c.if-u8_at-eq0.false c.compile_stmt-f.ensures.does c.in-Ok-f.is

pub compile_stmt-returns-then-mark-eq-IF-clause-does : goal.compile_stmt-returns-then-mark-eq-IF-clause-does
compile_stmt-returns-then-mark-eq-IF-clause-does t c =
    let mark = sym c.mark_at-mark.ensures ∙ c.if-mark-eq-IF.true in
    let p = c.requires in
    ifs.one_done p mark c.span_at-span.ensures c.compile_expr-a.ensures.does c.in-Ok-a.is c.open_jump-b.ensures.does
    c.in-Ok-b.is c.compile_stmt-d.ensures.does c.in-Ok-d.is c.turn_jump-e.ensures.does c.in-Ok-e.is
    c.u8_at.ensures c.if-u8_at-eq0.false c.compile_stmt-f.ensures.does c.in-Ok-f.is c.patch_jump-then-mark-eq-IF.ensures.does

-- ## A `while`

pub compile_stmt-code_length_in-start-requires : goal.compile_stmt-code_length_in-start-requires
compile_stmt-code_length_in-start-requires t c =
    let p = c.requires in
    (p.ready.fit.low, p.ready.fit.wf.size, p.ready.fit.coded.top)

pub compile_stmt-overflow_add-at-then-mark-eq-WHILE : goal.compile_stmt-overflow_add-at-then-mark-eq-WHILE
compile_stmt-overflow_add-at-then-mark-eq-WHILE t c =
    let p = c.requires in
    let b = calls.bound _ _ _ _ p.there in
    omega (arith, b, c.well_formed)

pub compile_stmt-compile_expr-a-requires-then-mark-eq-WHILE : goal.compile_stmt-compile_expr-a-requires-then-mark-eq-WHILE
compile_stmt-compile_expr-a-requires-then-mark-eq-WHILE t c =
    let mark = sym c.mark_at-mark.ensures ∙ c.if-mark-eq-WHILE.true in
    let p = c.requires in
    (whiles.test p mark, p.ready.fit)

pub compile_stmt-returns-in_default-a-2-clause-does : goal.compile_stmt-returns-in_default-a-2-clause-does
compile_stmt-returns-in_default-a-2-clause-does t c =
    let mark = sym c.mark_at-mark.ensures ∙ c.if-mark-eq-WHILE.true in
    let p = c.requires in
    whiles.stop p mark c.span_at-span.ensures c.code_length_in-start.ensures c.compile_expr-a-then-mark-eq-WHILE.ensures.does _ c.in_default-a-2.is

pub compile_stmt-open_jump-b-requires-then-mark-eq-WHILE : goal.compile_stmt-open_jump-b-requires-then-mark-eq-WHILE
compile_stmt-open_jump-b-requires-then-mark-eq-WHILE t c =
    let mark = sym c.mark_at-mark.ensures ∙ c.if-mark-eq-WHILE.true in
    let p = c.requires in
    whiles.fit p mark c.span_at-span.ensures c.code_length_in-start.ensures c.compile_expr-a-then-mark-eq-WHILE.ensures.does c.in-Ok-a-2.is

pub compile_stmt-returns-in_default-b-2-clause-does : goal.compile_stmt-returns-in_default-b-2-clause-does
compile_stmt-returns-in_default-b-2-clause-does t c =
    let mark = sym c.mark_at-mark.ensures ∙ c.if-mark-eq-WHILE.true in
    let p = c.requires in
    whiles.stop_2 p mark c.span_at-span.ensures c.code_length_in-start.ensures c.compile_expr-a-then-mark-eq-WHILE.ensures.does c.in-Ok-a-2.is
    c.open_jump-b-then-mark-eq-WHILE.ensures.does _ c.in_default-b-2.is

pub compile_stmt-compile_stmt-d-requires-then-mark-eq-WHILE : goal.compile_stmt-compile_stmt-d-requires-then-mark-eq-WHILE
compile_stmt-compile_stmt-d-requires-then-mark-eq-WHILE t c =
    let mark = sym c.mark_at-mark.ensures ∙ c.if-mark-eq-WHILE.true in
    let p = c.requires in
    whiles.body p mark c.span_at-span.ensures c.code_length_in-start.ensures c.compile_expr-a-then-mark-eq-WHILE.ensures.does c.in-Ok-a-2.is
    c.open_jump-b-then-mark-eq-WHILE.ensures.does c.in-Ok-b-2.is c.decreases

pub compile_stmt-returns-in_default-d-2-clause-does : goal.compile_stmt-returns-in_default-d-2-clause-does
compile_stmt-returns-in_default-d-2-clause-does t c =
    let mark = sym c.mark_at-mark.ensures ∙ c.if-mark-eq-WHILE.true in
    let p = c.requires in
    whiles.stop_3 p mark c.span_at-span.ensures c.code_length_in-start.ensures c.compile_expr-a-then-mark-eq-WHILE.ensures.does c.in-Ok-a-2.is
    c.open_jump-b-then-mark-eq-WHILE.ensures.does c.in-Ok-b-2.is c.compile_stmt-d-then-mark-eq-WHILE.ensures.does c.in_default-d-2.is

pub compile_stmt-close_loop-requires : goal.compile_stmt-close_loop-requires
compile_stmt-close_loop-requires t c =
    let mark = sym c.mark_at-mark.ensures ∙ c.if-mark-eq-WHILE.true in
    let p = c.requires in
    whiles.close p mark c.span_at-span.ensures c.code_length_in-start.ensures c.compile_expr-a-then-mark-eq-WHILE.ensures.does c.in-Ok-a-2.is
    c.open_jump-b-then-mark-eq-WHILE.ensures.does c.in-Ok-b-2.is c.compile_stmt-d-then-mark-eq-WHILE.ensures.does c.in-Ok-d-2.is

pub compile_stmt-returns-then-mark-eq-WHILE-clause-does : goal.compile_stmt-returns-then-mark-eq-WHILE-clause-does
compile_stmt-returns-then-mark-eq-WHILE-clause-does t c =
    let mark = sym c.mark_at-mark.ensures ∙ c.if-mark-eq-WHILE.true in
    let p = c.requires in
    whiles.done p mark c.span_at-span.ensures c.code_length_in-start.ensures c.compile_expr-a-then-mark-eq-WHILE.ensures.does c.in-Ok-a-2.is
    c.open_jump-b-then-mark-eq-WHILE.ensures.does c.in-Ok-b-2.is c.compile_stmt-d-then-mark-eq-WHILE.ensures.does c.in-Ok-d-2.is c.close_loop.ensures.does

-- ## A `for`, whose two ways into it meet: what its start comes to is read off the way that was taken

pub compile_stmt-overflow_add-at-then-mark-eq-FOR : goal.compile_stmt-overflow_add-at-then-mark-eq-FOR
compile_stmt-overflow_add-at-then-mark-eq-FOR t c =
    let mark = sym c.mark_at-mark.ensures ∙ c.if-mark-eq-FOR.true in
    let p = c.requires in
    let b = fors.bound p mark in
    omega (arith, b, c.well_formed)

pub compile_stmt-u8_at-parts-requires : goal.compile_stmt-u8_at-parts-requires
compile_stmt-u8_at-parts-requires t c =
    let mark = sym c.mark_at-mark.ensures ∙ c.if-mark-eq-FOR.true in
    let p = c.requires in
    let b = fors.bound p mark in
    omega (arith, b)

pub compile_stmt-begin_scope-requires-then-mark-eq-FOR : goal.compile_stmt-begin_scope-requires-then-mark-eq-FOR
compile_stmt-begin_scope-requires-then-mark-eq-FOR t c =
    let p = c.requires in
    (p.ready.fit.low, p.ready.fit.wf, calls.scope_room _ _ _ _ _ (calls.room _ _ _ _ p.there) p.ready)

pub compile_stmt-overflow_add-next-then-mark-eq-FOR : goal.compile_stmt-overflow_add-next-then-mark-eq-FOR
compile_stmt-overflow_add-next-then-mark-eq-FOR t c =
    let mark = sym c.mark_at-mark.ensures ∙ c.if-mark-eq-FOR.true in
    let p = c.requires in
    let b = fors.bound p mark in
    omega (arith, b, c.well_formed)

pub compile_stmt-compile_stmt-a-requires-then-parts-eq1 : goal.compile_stmt-compile_stmt-a-requires-then-parts-eq1
compile_stmt-compile_stmt-a-requires-then-parts-eq1 t c =
    let mark = sym c.mark_at-mark.ensures ∙ c.if-mark-eq-FOR.true in
    let p = c.requires in
    fors.init p mark c.u8_at-parts.ensures {class = 0} (c.begin_scope-then-mark-eq-FOR.ensures.gives _ _ p.ready.fit)
    c.if-parts-eq1.true c.decreases

pub compile_stmt-returns-in_default-a-3-clause-does : goal.compile_stmt-returns-in_default-a-3-clause-does
compile_stmt-returns-in_default-a-3-clause-does t c =
    let mark = sym c.mark_at-mark.ensures ∙ c.if-mark-eq-FOR.true in
    let p = c.requires in
    fors.stop p mark c.u8_at-parts.ensures (c.begin_scope-then-mark-eq-FOR.ensures.gives _ _ p.ready.fit) c.if-parts-eq1.true
    c.compile_stmt-a-then-parts-eq1.ensures.does c.span_at-span.ensures c.in_default-a-3.is

pub compile_stmt-code_length_in-start-requires-then-mark-eq-FOR : goal.compile_stmt-code_length_in-start-requires-then-mark-eq-FOR
compile_stmt-code_length_in-start-requires-then-mark-eq-FOR t c =
    let mark = sym c.mark_at-mark.ensures ∙ c.if-mark-eq-FOR.true in
    let p = c.requires in
    let e = c.u8_at-parts.ensures in
    let o = c.begin_scope-then-mark-eq-FOR.ensures.gives _ _ p.ready.fit in
    let f = fors.fit p mark e o c.span_at-span.ensures (elim c.if-parts-eq1.branch [
      | compile_stmt-then-parts-eq1+in-Ok-a-3 w ↦ fors.came p (ap areas w.work-is) w.out-is w.next-is
          (fors.init_one p mark e o w.if-parts-eq1.true w.compile_stmt-a-then-parts-eq1.ensures.does w.in-Ok-a-3.is)
      | compile_stmt-else-parts-eq1 w ↦ fors.came p (ap areas w.work-is) w.out-is w.next-is (fors.init_none p mark e o w.if-parts-eq1.false _)
    ]) in
    (f.low, f.wf.size, f.coded.top)

pub compile_stmt-for_cond-tested-requires : goal.compile_stmt-for_cond-tested-requires
compile_stmt-for_cond-tested-requires t c =
    let mark = sym c.mark_at-mark.ensures ∙ c.if-mark-eq-FOR.true in
    let p = c.requires in
    let e = c.u8_at-parts.ensures in
    let o = c.begin_scope-then-mark-eq-FOR.ensures.gives _ _ p.ready.fit in
    let init : fors.Init c.args.class c.args.limit c.args.level c.args.tree.now p.left c.args.at (mem c.begin_scope-then-mark-eq-FOR.new.t c.args.work.now.code.now c.args.work.now.spans.now) c.args.out.now
    (areas c.if-parts-eq1.work) c.if-parts-eq1.out c.if-parts-eq1.next = elim c.if-parts-eq1.branch [
      | compile_stmt-then-parts-eq1+in-Ok-a-3 w ↦ fors.came p (ap areas w.work-is) w.out-is w.next-is
          (fors.init_one p mark e o w.if-parts-eq1.true w.compile_stmt-a-then-parts-eq1.ensures.does w.in-Ok-a-3.is)
      | compile_stmt-else-parts-eq1 w ↦ fors.came p (ap areas w.work-is) w.out-is w.next-is (fors.init_none p mark e o w.if-parts-eq1.false _)
    ] in (
      fors.cond_there p mark e o c.span_at-span.ensures init,
      fors.fit p mark e o c.span_at-span.ensures init,
    )

pub compile_stmt-returns-in-Err-clause-does : goal.compile_stmt-returns-in-Err-clause-does
compile_stmt-returns-in-Err-clause-does t c =
    let mark = sym c.mark_at-mark.ensures ∙ c.if-mark-eq-FOR.true in
    let p = c.requires in
    let e = c.u8_at-parts.ensures in
    let o = c.begin_scope-then-mark-eq-FOR.ensures.gives _ _ p.ready.fit in
    fors.stop_2 p mark e o c.span_at-span.ensures (elim c.if-parts-eq1.branch [
      | compile_stmt-then-parts-eq1+in-Ok-a-3 w ↦ fors.came p (ap areas w.work-is) w.out-is w.next-is
          (fors.init_one p mark e o w.if-parts-eq1.true w.compile_stmt-a-then-parts-eq1.ensures.does w.in-Ok-a-3.is)
      | compile_stmt-else-parts-eq1 w ↦ fors.came p (ap areas w.work-is) w.out-is w.next-is (fors.init_none p mark e o w.if-parts-eq1.false _)
    ]) c.code_length_in-start-then-mark-eq-FOR.ensures c.for_cond-tested.ensures.does c.in-Err.is

pub compile_stmt-compile_stmt-d-requires-then-mark-eq-FOR : goal.compile_stmt-compile_stmt-d-requires-then-mark-eq-FOR
compile_stmt-compile_stmt-d-requires-then-mark-eq-FOR t c =
    let mark = sym c.mark_at-mark.ensures ∙ c.if-mark-eq-FOR.true in
    let p = c.requires in
    let e = c.u8_at-parts.ensures in
    let o = c.begin_scope-then-mark-eq-FOR.ensures.gives _ _ p.ready.fit in
    fors.body p mark e o c.span_at-span.ensures (elim c.if-parts-eq1.branch [
      | compile_stmt-then-parts-eq1+in-Ok-a-3 w ↦ fors.came p (ap areas w.work-is) w.out-is w.next-is
          (fors.init_one p mark e o w.if-parts-eq1.true w.compile_stmt-a-then-parts-eq1.ensures.does w.in-Ok-a-3.is)
      | compile_stmt-else-parts-eq1 w ↦ fors.came p (ap areas w.work-is) w.out-is w.next-is (fors.init_none p mark e o w.if-parts-eq1.false _)
    ]) c.code_length_in-start-then-mark-eq-FOR.ensures c.for_cond-tested.ensures.does c.in-Ok-tested.is c.decreases

pub compile_stmt-returns-in_default-d-3-clause-does : goal.compile_stmt-returns-in_default-d-3-clause-does
compile_stmt-returns-in_default-d-3-clause-does t c =
    let mark = sym c.mark_at-mark.ensures ∙ c.if-mark-eq-FOR.true in
    let p = c.requires in
    let e = c.u8_at-parts.ensures in
    let o = c.begin_scope-then-mark-eq-FOR.ensures.gives _ _ p.ready.fit in
    fors.stop_3 p mark e o c.span_at-span.ensures (elim c.if-parts-eq1.branch [
      | compile_stmt-then-parts-eq1+in-Ok-a-3 w ↦ fors.came p (ap areas w.work-is) w.out-is w.next-is
          (fors.init_one p mark e o w.if-parts-eq1.true w.compile_stmt-a-then-parts-eq1.ensures.does w.in-Ok-a-3.is)
      | compile_stmt-else-parts-eq1 w ↦ fors.came p (ap areas w.work-is) w.out-is w.next-is (fors.init_none p mark e o w.if-parts-eq1.false _)
    ]) c.code_length_in-start-then-mark-eq-FOR.ensures c.for_cond-tested.ensures.does c.in-Ok-tested.is c.compile_stmt-d-then-mark-eq-FOR.ensures.does c.in_default-d-3.is

pub compile_stmt-for_incr-e-requires : goal.compile_stmt-for_incr-e-requires
compile_stmt-for_incr-e-requires t c =
    let mark = sym c.mark_at-mark.ensures ∙ c.if-mark-eq-FOR.true in
    let p = c.requires in
    let e = c.u8_at-parts.ensures in
    let o = c.begin_scope-then-mark-eq-FOR.ensures.gives _ _ p.ready.fit in
    let init : fors.Init c.args.class c.args.limit c.args.level c.args.tree.now p.left c.args.at (mem c.begin_scope-then-mark-eq-FOR.new.t c.args.work.now.code.now c.args.work.now.spans.now) c.args.out.now
    (areas c.if-parts-eq1.work) c.if-parts-eq1.out c.if-parts-eq1.next = elim c.if-parts-eq1.branch [
      | compile_stmt-then-parts-eq1+in-Ok-a-3 w ↦ fors.came p (ap areas w.work-is) w.out-is w.next-is
          (fors.init_one p mark e o w.if-parts-eq1.true w.compile_stmt-a-then-parts-eq1.ensures.does w.in-Ok-a-3.is)
      | compile_stmt-else-parts-eq1 w ↦ fors.came p (ap areas w.work-is) w.out-is w.next-is (fors.init_none p mark e o w.if-parts-eq1.false _)
    ] in (
      fors.incr_there p mark e o c.span_at-span.ensures init c.code_length_in-start-then-mark-eq-FOR.ensures c.for_cond-tested.ensures.does c.in-Ok-tested.is c.compile_stmt-d-then-mark-eq-FOR.ensures.does
          c.in-Ok-d-3.is,
      fors.fit_2 p mark e o c.span_at-span.ensures init c.code_length_in-start-then-mark-eq-FOR.ensures c.for_cond-tested.ensures.does c.in-Ok-tested.is c.compile_stmt-d-then-mark-eq-FOR.ensures.does
          c.in-Ok-d-3.is,
    )

pub compile_stmt-returns-in_default-e-2-clause-does : goal.compile_stmt-returns-in_default-e-2-clause-does
compile_stmt-returns-in_default-e-2-clause-does t c =
    let mark = sym c.mark_at-mark.ensures ∙ c.if-mark-eq-FOR.true in
    let p = c.requires in
    let e = c.u8_at-parts.ensures in
    let o = c.begin_scope-then-mark-eq-FOR.ensures.gives _ _ p.ready.fit in
    fors.stop_4 p mark e o c.span_at-span.ensures (elim c.if-parts-eq1.branch [
      | compile_stmt-then-parts-eq1+in-Ok-a-3 w ↦ fors.came p (ap areas w.work-is) w.out-is w.next-is
          (fors.init_one p mark e o w.if-parts-eq1.true w.compile_stmt-a-then-parts-eq1.ensures.does w.in-Ok-a-3.is)
      | compile_stmt-else-parts-eq1 w ↦ fors.came p (ap areas w.work-is) w.out-is w.next-is (fors.init_none p mark e o w.if-parts-eq1.false _)
    ]) c.code_length_in-start-then-mark-eq-FOR.ensures c.for_cond-tested.ensures.does c.in-Ok-tested.is c.compile_stmt-d-then-mark-eq-FOR.ensures.does c.in-Ok-d-3.is
    c.for_incr-e.ensures.does c.in_default-e-2.is

pub compile_stmt-close_loop-f-requires : goal.compile_stmt-close_loop-f-requires
compile_stmt-close_loop-f-requires t c =
    let mark = sym c.mark_at-mark.ensures ∙ c.if-mark-eq-FOR.true in
    let p = c.requires in
    let e = c.u8_at-parts.ensures in
    let o = c.begin_scope-then-mark-eq-FOR.ensures.gives _ _ p.ready.fit in
    fors.close p mark e o c.span_at-span.ensures (elim c.if-parts-eq1.branch [
      | compile_stmt-then-parts-eq1+in-Ok-a-3 w ↦ fors.came p (ap areas w.work-is) w.out-is w.next-is
          (fors.init_one p mark e o w.if-parts-eq1.true w.compile_stmt-a-then-parts-eq1.ensures.does w.in-Ok-a-3.is)
      | compile_stmt-else-parts-eq1 w ↦ fors.came p (ap areas w.work-is) w.out-is w.next-is (fors.init_none p mark e o w.if-parts-eq1.false _)
    ]) c.code_length_in-start-then-mark-eq-FOR.ensures c.for_cond-tested.ensures.does c.in-Ok-tested.is c.compile_stmt-d-then-mark-eq-FOR.ensures.does c.in-Ok-d-3.is
    c.for_incr-e.ensures.does c.in-Ok-e-2.is

pub compile_stmt-returns-in_default-f-2-clause-does : goal.compile_stmt-returns-in_default-f-2-clause-does
compile_stmt-returns-in_default-f-2-clause-does t c =
    let mark = sym c.mark_at-mark.ensures ∙ c.if-mark-eq-FOR.true in
    let p = c.requires in
    let e = c.u8_at-parts.ensures in
    let o = c.begin_scope-then-mark-eq-FOR.ensures.gives _ _ p.ready.fit in
    fors.stop_5 p mark e o c.span_at-span.ensures (elim c.if-parts-eq1.branch [
      | compile_stmt-then-parts-eq1+in-Ok-a-3 w ↦ fors.came p (ap areas w.work-is) w.out-is w.next-is
          (fors.init_one p mark e o w.if-parts-eq1.true w.compile_stmt-a-then-parts-eq1.ensures.does w.in-Ok-a-3.is)
      | compile_stmt-else-parts-eq1 w ↦ fors.came p (ap areas w.work-is) w.out-is w.next-is (fors.init_none p mark e o w.if-parts-eq1.false _)
    ]) c.code_length_in-start-then-mark-eq-FOR.ensures c.for_cond-tested.ensures.does c.in-Ok-tested.is c.compile_stmt-d-then-mark-eq-FOR.ensures.does c.in-Ok-d-3.is
    c.for_incr-e.ensures.does c.in-Ok-e-2.is c.close_loop-f.ensures.does c.in_default-f-2.is

pub compile_stmt-end_scope-requires-then-mark-eq-FOR : goal.compile_stmt-end_scope-requires-then-mark-eq-FOR
compile_stmt-end_scope-requires-then-mark-eq-FOR t c =
    let mark = sym c.mark_at-mark.ensures ∙ c.if-mark-eq-FOR.true in
    let p = c.requires in
    let e = c.u8_at-parts.ensures in
    let o = c.begin_scope-then-mark-eq-FOR.ensures.gives _ _ p.ready.fit in
    fors.end p mark e o c.span_at-span.ensures (elim c.if-parts-eq1.branch [
      | compile_stmt-then-parts-eq1+in-Ok-a-3 w ↦ fors.came p (ap areas w.work-is) w.out-is w.next-is
          (fors.init_one p mark e o w.if-parts-eq1.true w.compile_stmt-a-then-parts-eq1.ensures.does w.in-Ok-a-3.is)
      | compile_stmt-else-parts-eq1 w ↦ fors.came p (ap areas w.work-is) w.out-is w.next-is (fors.init_none p mark e o w.if-parts-eq1.false _)
    ]) c.code_length_in-start-then-mark-eq-FOR.ensures c.for_cond-tested.ensures.does c.in-Ok-tested.is c.compile_stmt-d-then-mark-eq-FOR.ensures.does c.in-Ok-d-3.is
    c.for_incr-e.ensures.does c.in-Ok-e-2.is c.close_loop-f.ensures.does c.in-Ok-f-2.is

pub compile_stmt-returns-then-mark-eq-FOR-clause-does : goal.compile_stmt-returns-then-mark-eq-FOR-clause-does
compile_stmt-returns-then-mark-eq-FOR-clause-does t c =
    let mark = sym c.mark_at-mark.ensures ∙ c.if-mark-eq-FOR.true in
    let p = c.requires in
    let e = c.u8_at-parts.ensures in
    let o = c.begin_scope-then-mark-eq-FOR.ensures.gives _ _ p.ready.fit in
    fors.done p mark e o c.span_at-span.ensures (elim c.if-parts-eq1.branch [
      | compile_stmt-then-parts-eq1+in-Ok-a-3 w ↦ fors.came p (ap areas w.work-is) w.out-is w.next-is
          (fors.init_one p mark e o w.if-parts-eq1.true w.compile_stmt-a-then-parts-eq1.ensures.does w.in-Ok-a-3.is)
      | compile_stmt-else-parts-eq1 w ↦ fors.came p (ap areas w.work-is) w.out-is w.next-is (fors.init_none p mark e o w.if-parts-eq1.false _)
    ]) c.code_length_in-start-then-mark-eq-FOR.ensures c.for_cond-tested.ensures.does c.in-Ok-tested.is c.compile_stmt-d-then-mark-eq-FOR.ensures.does c.in-Ok-d-3.is
    c.for_incr-e.ensures.does c.in-Ok-e-2.is c.close_loop-f.ensures.does c.in-Ok-f-2.is c.end_scope-then-mark-eq-FOR.ensures.does

-- ## A function that is declared

pub compile_stmt-compile_function-a-requires : goal.compile_stmt-compile_function-a-requires
compile_stmt-compile_function-a-requires t c =
    let mark = sym c.mark_at-mark.ensures ∙ c.if-mark-eq-FUN.true in
    let p = c.requires in
    functions.function p mark c.decreases

pub compile_stmt-returns-in_default-a-4-clause-does : goal.compile_stmt-returns-in_default-a-4-clause-does
compile_stmt-returns-in_default-a-4-clause-does t c =
    let mark = sym c.mark_at-mark.ensures ∙ c.if-mark-eq-FUN.true in
    let p = c.requires in
    functions.fun_stop p mark c.span_at-span.ensures c.compile_function-a.ensures.does c.in_default-a-4.is

pub compile_stmt-overflow_add-at-then-mark-eq-FUN : goal.compile_stmt-overflow_add-at-then-mark-eq-FUN
compile_stmt-overflow_add-at-then-mark-eq-FUN t c =
    let mark = sym c.mark_at-mark.ensures ∙ c.if-mark-eq-FUN.true in
    let p = c.requires in
    let b = functions.fun_bound p mark in
    omega (arith, b, c.well_formed)

pub compile_stmt-u16_at-requires : goal.compile_stmt-u16_at-requires
compile_stmt-u16_at-requires t c =
    let mark = sym c.mark_at-mark.ensures ∙ c.if-mark-eq-FUN.true in
    let p = c.requires in
    let b = functions.fun_bound p mark in
    omega (arith, b)

pub compile_stmt-define_name-requires : goal.compile_stmt-define_name-requires
compile_stmt-define_name-requires t c =
    let mark = sym c.mark_at-mark.ensures ∙ c.if-mark-eq-FUN.true in
    let p = c.requires in
    functions.fun_fit p mark c.span_at-span.ensures c.compile_function-a.ensures.does c.in-Ok-a-4.is

pub compile_stmt-returns-then-mark-eq-FUN-clause-does : goal.compile_stmt-returns-then-mark-eq-FUN-clause-does
compile_stmt-returns-then-mark-eq-FUN-clause-does t c =
    let mark = sym c.mark_at-mark.ensures ∙ c.if-mark-eq-FUN.true in
    let p = c.requires in
    functions.fun_done p mark c.span_at-span.ensures c.compile_function-a.ensures.does c.in-Ok-a-4.is
    c.u16_at.ensures c.define_name.ensures.does

-- ## A class

pub compile_stmt-open_class-a-requires : goal.compile_stmt-open_class-a-requires
compile_stmt-open_class-a-requires t c =
    let mark = sym c.mark_at-mark.ensures ∙ c.if-mark-eq-CLASS.true in
    let p = c.requires in
    (methods.head p mark, p.ready.fit, calls.scope_room _ _ _ _ _ (calls.room _ _ _ _ p.there) p.ready)

pub compile_stmt-returns-in_default-a-5-clause-does : goal.compile_stmt-returns-in_default-a-5-clause-does
compile_stmt-returns-in_default-a-5-clause-does t c =
    let mark = sym c.mark_at-mark.ensures ∙ c.if-mark-eq-CLASS.true in
    let p = c.requires in
    methods.stop p mark c.span_at-span.ensures c.open_class-a.ensures.does _ c.in_default-a-5.is

pub compile_stmt-inner_class-inner-requires : goal.compile_stmt-inner_class-inner-requires
compile_stmt-inner_class-inner-requires t c =
    let mark = sym c.mark_at-mark.ensures ∙ c.if-mark-eq-CLASS.true in
    let p = c.requires in
    methods.head p mark

pub compile_stmt-overflow_add-at-then-mark-eq-CLASS : goal.compile_stmt-overflow_add-at-then-mark-eq-CLASS
compile_stmt-overflow_add-at-then-mark-eq-CLASS t c =
    let mark = sym c.mark_at-mark.ensures ∙ c.if-mark-eq-CLASS.true in
    let p = c.requires in
    let b = (methods.head p mark).bound in
    omega (arith, b, c.well_formed)

pub compile_stmt-u16_at-count-requires-then-mark-eq-CLASS : goal.compile_stmt-u16_at-count-requires-then-mark-eq-CLASS
compile_stmt-u16_at-count-requires-then-mark-eq-CLASS t c =
    let mark = sym c.mark_at-mark.ensures ∙ c.if-mark-eq-CLASS.true in
    let p = c.requires in
    let b = (methods.head p mark).bound in
    omega (arith, b)

pub compile_stmt-loop-method-init : goal.compile_stmt-loop-method-init
compile_stmt-loop-method-init t c =
    let mark = sym c.mark_at-mark.ensures ∙ c.if-mark-eq-CLASS.true in
    let p = c.requires in (
      methods.start p mark c.span_at-span.ensures c.open_class-a.ensures.does c.in-Ok-a-5.is _ (all_left ∙ c.u16_at-count-then-mark-eq-CLASS.ensures),
      (refl, refl, refl, refl, refl, refl),
    )

pub compile_stmt-overflow_add-next-in-loop-method : goal.compile_stmt-overflow_add-next-in-loop-method
compile_stmt-overflow_add-next-in-loop-method t c =
    let mark = sym c.mark_at-mark.ensures ∙ c.if-mark-eq-CLASS.true in
    let p = c.requires in
    let b = methods.method_bound p mark c.span_at-span.ensures c.open_class-a.ensures.does c.in-Ok-a-5.is
    c.loop-method.invariant.0 (more_left c.loop-method-test.true) in
    omega (arith, b, c.well_formed)

pub compile_stmt-u16_at-name-requires : goal.compile_stmt-u16_at-name-requires
compile_stmt-u16_at-name-requires t c =
    let mark = sym c.mark_at-mark.ensures ∙ c.if-mark-eq-CLASS.true in
    let p = c.requires in
    let b = methods.method_bound p mark c.span_at-span.ensures c.open_class-a.ensures.does c.in-Ok-a-5.is
    c.loop-method.invariant.0 (more_left c.loop-method-test.true) in
    omega (arith, b)

pub compile_stmt-overflow_add-next-in-loop-method-2 : goal.compile_stmt-overflow_add-next-in-loop-method-2
compile_stmt-overflow_add-next-in-loop-method-2 t c =
    let mark = sym c.mark_at-mark.ensures ∙ c.if-mark-eq-CLASS.true in
    let p = c.requires in
    let b = methods.method_bound p mark c.span_at-span.ensures c.open_class-a.ensures.does c.in-Ok-a-5.is
    c.loop-method.invariant.0 (more_left c.loop-method-test.true) in
    omega (arith, b, c.well_formed)

pub compile_stmt-span_at-of-requires : goal.compile_stmt-span_at-of-requires
compile_stmt-span_at-of-requires t c =
    let mark = sym c.mark_at-mark.ensures ∙ c.if-mark-eq-CLASS.true in
    let p = c.requires in
    let b = methods.method_bound p mark c.span_at-span.ensures c.open_class-a.ensures.does c.in-Ok-a-5.is
    c.loop-method.invariant.0 (more_left c.loop-method-test.true) in
    omega (arith, b)

pub compile_stmt-compile_function-b-requires : goal.compile_stmt-compile_function-b-requires
compile_stmt-compile_function-b-requires t c =
    let mark = sym c.mark_at-mark.ensures ∙ c.if-mark-eq-CLASS.true in
    let p = c.requires in
    methods.function p mark c.span_at-span.ensures c.open_class-a.ensures.does c.in-Ok-a-5.is c.loop-method.invariant.0
    c.decreases (more_left c.loop-method-test.true)

pub compile_stmt-returns-in_default-b-3-clause-does : goal.compile_stmt-returns-in_default-b-3-clause-does
compile_stmt-returns-in_default-b-3-clause-does t c =
    let mark = sym c.mark_at-mark.ensures ∙ c.if-mark-eq-CLASS.true in
    let p = c.requires in
    methods.stop_2 p mark c.span_at-span.ensures c.open_class-a.ensures.does c.in-Ok-a-5.is c.loop-method.invariant.0
    (more_left c.loop-method-test.true) c.span_at-of.ensures c.u16_at-name.ensures c.method_kind.ensures.0
    c.compile_function-b.ensures.does c.inner_class-inner.ensures c.in_default-b-3.is

pub compile_stmt-emit_op_name-d-requires : goal.compile_stmt-emit_op_name-d-requires
compile_stmt-emit_op_name-d-requires t c =
    let mark = sym c.mark_at-mark.ensures ∙ c.if-mark-eq-CLASS.true in
    let p = c.requires in
    methods.method_fit p mark c.span_at-span.ensures c.open_class-a.ensures.does c.in-Ok-a-5.is c.loop-method.invariant.0
    (more_left c.loop-method-test.true) c.span_at-of.ensures c.u16_at-name.ensures c.method_kind.ensures.0
    c.compile_function-b.ensures.does c.in-Ok-b-3.is

pub compile_stmt-returns-in_default-d-4-clause-does : goal.compile_stmt-returns-in_default-d-4-clause-does
compile_stmt-returns-in_default-d-4-clause-does t c =
    let mark = sym c.mark_at-mark.ensures ∙ c.if-mark-eq-CLASS.true in
    let p = c.requires in
    methods.stop_3 p mark c.span_at-span.ensures c.open_class-a.ensures.does c.in-Ok-a-5.is c.loop-method.invariant.0
    (more_left c.loop-method-test.true) c.span_at-of.ensures c.u16_at-name.ensures c.method_kind.ensures.0
    c.compile_function-b.ensures.does c.in-Ok-b-3.is c.emit_op_name-d.ensures.does c.inner_class-inner.ensures
    c.in_default-d-4.is

pub compile_stmt-loop-method-preserved : goal.compile_stmt-loop-method-preserved
compile_stmt-loop-method-preserved t c =
    let mark = sym c.mark_at-mark.ensures ∙ c.if-mark-eq-CLASS.true in
    let p = c.requires in (
      methods.step p mark c.span_at-span.ensures c.open_class-a.ensures.does c.in-Ok-a-5.is c.loop-method.invariant.0
          (more_left c.loop-method-test.true) c.span_at-of.ensures c.u16_at-name.ensures c.method_kind.ensures.0
          c.compile_function-b.ensures.does c.in-Ok-b-3.is c.emit_op_name-d.ensures.does c.in-Ok-d-4.is (one_less c.loop-method-test.true),
      search rules,
    )

pub compile_stmt-close_class-requires : goal.compile_stmt-close_class-requires
compile_stmt-close_class-requires t c =
    let mark = sym c.mark_at-mark.ensures ∙ c.if-mark-eq-CLASS.true in
    let p = c.requires in
    let d = methods.close p mark c.span_at-span.ensures c.open_class-a.ensures.does c.in-Ok-a-5.is
    c.loop-method.invariant.0 c.inner_class-inner.ensures in
    (methods.head p mark, d.0, d.1)

pub compile_stmt-returns-then-mark-eq-CLASS-clause-does : goal.compile_stmt-returns-then-mark-eq-CLASS-clause-does
compile_stmt-returns-then-mark-eq-CLASS-clause-does t c =
    let mark = sym c.mark_at-mark.ensures ∙ c.if-mark-eq-CLASS.true in
    let p = c.requires in
    methods.done p mark c.span_at-span.ensures c.open_class-a.ensures.does c.in-Ok-a-5.is c.loop-method.invariant.0
    c.inner_class-inner.ensures (none_left c.loop-method-test.false) c.close_class.ensures.does

-- ## A statement that holds no statement, which is what is left where no mark fits

pub compile_stmt-compile_plain-requires : goal.compile_stmt-compile_plain-requires
compile_stmt-compile_plain-requires t c =
    let p = c.requires in
    let m = c.mark_at-mark.ensures in (
      record { left = p.left; there = p.there },
      record {
        no_block = λ e. c.if-mark-eq-BLOCK.false (m ∙ e);
        no_if = λ e. c.if-mark-eq-IF.false (m ∙ e);
        no_while = λ e. c.if-mark-eq-WHILE.false (m ∙ e);
        no_for = λ e. c.if-mark-eq-FOR.false (m ∙ e);
        no_fun = λ e. c.if-mark-eq-FUN.false (m ∙ e);
        no_class = λ e. c.if-mark-eq-CLASS.false (m ∙ e);
      },
      p.ready.fit,
    )

pub compile_stmt-returns-clause-does : goal.compile_stmt-returns-clause-does
compile_stmt-returns-clause-does t c =
    let p = c.requires in
    walks.plainly p c.compile_plain.ensures.does
