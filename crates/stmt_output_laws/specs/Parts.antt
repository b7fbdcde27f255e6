-- Statements are compiled in parts, since their children are compiled in between. Each part is a cut of the rules' step; proofs/ has the laws that
-- the parts make the whole.
use Rattle.std.specs.Prelude.{Bool, List, ℕ, ◌+◌, length, leb, if◌then◌else◌}
use Rattle.std.proofs.Math.Option.{Option}
use Rattle.rules.specs.declared.Span.{Span}
use Rattle.rules.specs.declared.Refusal.TheVariants.{TooManyParams}
use Rattle.rules.specs.Tree.{Superclass, Fun}
use Rattle.rules.specs.Op as op
use Rattle.rules.specs.Chunk.{CS}
use Rattle.rules.specs.Compiler.{Compile, done, need, the, is_some, FunctionType, new_ctx, slot_zero, begin_ctx, declare_local, define_local, declare_params, push_class_ctx, emit_op}
use Rattle.rules.specs.Compiler.{emit_op_constant, get_variable, define_name, compile_superclass, end_superclass, implicit_return, end_function, fun_name, method_type, compile_function}
use Rattle.rules.specs.Compiler.{◌>>=◌, ◌>>◌}

module _ (limit : ℕ) where
  -- a class up to its methods, and after them; `pop_class_ctx` comes last
  unfoldable pub open_class : (name : ℕ) → Option Superclass → (some_methods : Bool) → Span → Compile Unit
  open_class name super- some_methods span = do
    emit_op_constant limit op.CLASS (CS name) span
    define_name limit name span
    push_class_ctx (is_some super-)
    compile_superclass limit name super- span
    if some_methods then get_variable limit name span else done

  unfoldable pub close_class : Option Superclass → (some_methods : Bool) → Span → Compile Unit
  close_class super- some_methods span = do
    if some_methods then emit_op limit op.POP span else done
    end_superclass limit super-

  -- one of its methods
  unfoldable pub compile_method : Span × Fun → Compile Unit
  compile_method (span, f) = do
    compile_function limit f (method_type (fun_name f)) span
    emit_op_constant limit op.METHOD (CS (fun_name f)) span

  -- a function after its statements
  unfoldable pub close_function : Span → Compile Unit
  close_function span = do
    implicit_return limit
    end_function limit span

-- a function up to its statements
unfoldable pub open_function : FunctionType → (name : ℕ) → (params : List ℕ) → Span → Compile Unit
open_function type name params span = do
  need (leb (length params) 255) (TooManyParams span)
  depth ← the λ s. s.ctx.scope_depth
  begin_ctx (new_ctx name (length params) type (depth + 1))
  declare_local (slot_zero type name) span
  define_local
  declare_params params span
