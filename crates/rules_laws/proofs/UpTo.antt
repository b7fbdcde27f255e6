-- Three definitions of the rules, each cut before a step that it comes to: their text in specs/Compiler.antt up to there. Impossible shows that they
-- are that, and what the step finds.
use mathlib.Core.Option.{Option}
use mathlib.Core.List.{List}
use Prim.Native.Nat.{ℕ, ◌+◌}
use lib.ListN.{length}
use lib.Dec.{leb}
use Rattle.std.specs.Prelude.{if◌then◌else◌}
use Rattle.rules.specs.declared.Span.{Span}
use Rattle.rules.specs.declared.Refusal.TheVariants.{TooManyParams}
use Rattle.rules.specs.Tree.{Expr, Stmts, Methods, Superclass}
use Rattle.rules.specs.Op as op
use Rattle.rules.specs.Chunk.{CS}
use Rattle.rules.specs.Compiler.{Compile, FunctionType, need, the, done, new_ctx, begin_ctx, slot_zero, declare_local, define_local, declare_params, compile_stmts, implicit_return, ◌>>=◌, ◌>>◌}
use Rattle.rules.specs.Compiler.{emit_op, emit_op_constant, define_name, push_class_ctx, is_some, compile_superclass, some_methods, get_variable, compile_methods, end_superclass, compile_value}

module _ (limit : ℕ) where
  -- `compile_function` up to its `end_function`, which starts with `end_ctx`
  unfoldable pub function_up_to_end : FunctionType → (name : ℕ) → (params : List ℕ) → (body : Stmts) → Span → Compile Unit
  function_up_to_end type name params body span = do
    need (leb (length params) 255) (TooManyParams span)
    depth ← the λ s. s.ctx.scope_depth
    begin_ctx (new_ctx name (length params) type (depth + 1))
    declare_local (slot_zero type name) span
    define_local
    declare_params params span
    compile_stmts limit body
    implicit_return limit

  -- `compile_stmt` of a class up to its `pop_class_ctx`
  unfoldable pub class_up_to_pop : Span → (name : ℕ) → Option Superclass → Methods → Compile Unit
  class_up_to_pop span name super- methods = do
    emit_op_constant limit op.CLASS (CS name) span
    define_name limit name span
    push_class_ctx (is_some super-)
    compile_superclass limit name super- span
    if some_methods methods
        then (do
          get_variable limit name span
          compile_methods limit methods
          emit_op limit op.POP span)
        else done
    end_superclass limit super-

  -- `compile_var` of a local up to its `define_local`
  unfoldable pub var_up_to_define : (name : ℕ) → Option Expr → Span → Compile Unit
  var_up_to_define name value span = do
    declare_local name span
    compile_value limit value span
