-- src/vm/compiler.rs: contexts, scopes, names, statements, expressions. A definition for each function of the Rust, under its name with `-` for `_`;
-- `resolve_local` is three: `find_local` and `capture`, which it does of one list of locals, and `resolved`, what its caller makes of the answer.
-- antt wants a definition above its use, so the file goes from the Rust's end to its start: the structs, `impl CompilerCtx`, the small functions
-- of `impl Compiler`, then `compile_expr`, `compile_function`, `compile_stmt`, `compile`. The arms of each `match` stand in the Rust's order.
-- A list of locals, of contexts or of classes has the newest first; code, constants, captured variables and finished functions stand in order.
use Rattle.std.specs.Prelude.{Bool, true, false, not, ◌&&◌, List, [], ◌∷◌, ◌++◌, ℕ, ◌+◌, ◌-◌, ◌/◌, ◌%◌, length, drop, set, ltb, leb, eqb, if◌then◌else◌}
use Rattle.std.proofs.Math.Option.{Option, none, some}
use Rattle.rules.specs.Base.{position}
use Rattle.rules.specs.declared.Span.{Span}
use Rattle.rules.specs.declared.Refusal.{Refusal}
use Rattle.rules.specs.declared.Stopped.{Stopped}
use Rattle.rules.specs.declared.Refusal.TheVariants.{AlreadyDefined, AccessInsideInitializer, ClassInheritFromSelf, JumpTooLarge, TooManyArgs, TooManyConstants, TooManyLocals, TooManyParams, TooManyUpvalues}
use Rattle.rules.specs.declared.Refusal.TheVariants.{ReturnInInitializer, ReturnOutsideFunction, SuperOutsideClass, SuperWithoutSuperclass, ThisOutsideClass, CodeFull}
use Rattle.rules.specs.Answer.{NO_SPAN}
use Rattle.rules.specs.Tree.{this_name, super_name, init_name, script_name}
use Rattle.rules.specs.Tree.{Expr, Exprs, ExprAssign, ExprCall, ExprGet, ExprInfix, Literal, ExprPrefix, ExprSet, ExprSuper, ExprVar, []ᵉ, ◌∷ᵉ◌, count_exprs}
use Rattle.rules.specs.Tree.{OpInfix, Add, Subtract, Multiply, Divide, Less, LessEqual, Greater, GreaterEqual, Equal, NotEqual, LogicAnd, LogicOr}
use Rattle.rules.specs.Tree.{OpPrefix, Negate, Not, ExprLiteral, LitBool, LitNil, LitNumber, LitString, Superclass}
use Rattle.rules.specs.Tree.{Stmt, Stmts, StmtBlock, StmtClass, StmtExpr, StmtFor, StmtFun, StmtIf, StmtPrint, StmtReturn, StmtVar, StmtWhile, []ˢ, ◌∷ˢ◌}
use Rattle.rules.specs.Tree.{Fun, fun, Methods, []ᵐ, method}
use Rattle.rules.specs.Op as op
use Rattle.rules.specs.Chunk.{Chunk, empty_chunk, write_u8, write_constant, Written, at_place, no_room, Constant, CN, CS, CF, ObjectFunction}

-- ## The state

pub data FunctionType : Type 0 where
  Function Initializer Method Script : FunctionType

pub record Local : Type 0 where
  pub name : ℕ
  pub depth : ℕ
  pub is_initialized : Bool
  pub is_captured : Bool

pub record Upvalue : Type 0 where
  pub idx : ℕ
  pub is_local : Bool

pub record CompilerCtx : Type 0 where
  pub name : ℕ
  pub arity : ℕ
  pub type : FunctionType
  pub chunk : Chunk
  pub locals : List Local
  pub upvalues : List Upvalue
  pub scope_depth : ℕ

pub record Compiler : Type 0 where
  pub ctx : CompilerCtx
  pub parents : List CompilerCtx
  -- for each class around the place, whether it has a superclass
  pub class_ctx : List Bool
  -- finished, in order: a function's number is its place
  pub functions : List ObjectFunction

abbrev pub new_ctx : (name arity : ℕ) → FunctionType → (scope_depth : ℕ) → CompilerCtx
new_ctx name arity type scope_depth =
    record
    { name = name; arity = arity; type = type; chunk = empty_chunk; locals = []; upvalues = []; scope_depth = scope_depth }

abbrev pub new : Compiler
new = record { ctx = new_ctx script_name 0 Script 0; parents = []; class_ctx = []; functions = [] }

-- antt has no record update: a definition for each field that changes
abbrev pub with_chunk : CompilerCtx → Chunk → CompilerCtx
with_chunk c x =
    record {
      name = c.name;
      arity = c.arity;
      type = c.type;
      chunk = x;
      locals = c.locals;
      upvalues = c.upvalues;
      scope_depth = c.scope_depth;
    }

abbrev pub with_locals : CompilerCtx → List Local → CompilerCtx
with_locals c x =
    record {
      name = c.name;
      arity = c.arity;
      type = c.type;
      chunk = c.chunk;
      locals = x;
      upvalues = c.upvalues;
      scope_depth = c.scope_depth;
    }

abbrev pub with_upvalues : CompilerCtx → List Upvalue → CompilerCtx
with_upvalues c x =
    record {
      name = c.name;
      arity = c.arity;
      type = c.type;
      chunk = c.chunk;
      locals = c.locals;
      upvalues = x;
      scope_depth = c.scope_depth;
    }

abbrev pub with_scope_depth : CompilerCtx → ℕ → CompilerCtx
with_scope_depth c x =
    record {
      name = c.name;
      arity = c.arity;
      type = c.type;
      chunk = c.chunk;
      locals = c.locals;
      upvalues = c.upvalues;
      scope_depth = x;
    }

abbrev pub with_ctx : Compiler → CompilerCtx → Compiler
with_ctx s x = record { ctx = x; parents = s.parents; class_ctx = s.class_ctx; functions = s.functions }

abbrev pub with_ctxs : Compiler → CompilerCtx → List CompilerCtx → Compiler
with_ctxs s x xs = record { ctx = x; parents = xs; class_ctx = s.class_ctx; functions = s.functions }

abbrev pub with_classes : Compiler → List Bool → Compiler
with_classes s x = record { ctx = s.ctx; parents = s.parents; class_ctx = x; functions = s.functions }

-- ## A step takes the state, and gives a value and the next state, or refuses

-- a refusal in this state is in the function of its context
abbrev pub stopped : Refusal → Compiler → Stopped
stopped r s = record { what = r; function = s.ctx.name; around = length s.parents }

pub data Outcome (A : Type 0) : Type 0 where
  ok : A → Compiler → Outcome A
  err : Stopped → Outcome A

abbrev pub Compile : Type 0 → Type 0
Compile A = Compiler → Outcome A

unfoldable pub go_on : {A B : Type 0} → Outcome A → (A → Compile B) → Outcome B
go_on (ok a s) f = f a s
go_on (err x) f = err x

infixl 10 ◌>>=◌
unfoldable pub ◌>>=◌ : {A B : Type 0} → Compile A → (A → Compile B) → Compile B
m >>= f = λ s. go_on (m s) f

infixl 10 ◌>>◌
unfoldable pub ◌>>◌ : {A B : Type 0} → Compile A → Compile B → Compile B
m >> n = λ s. go_on (m s) (λ _. n)

unfoldable pub return : {A : Type 0} → A → Compile A
return a s = ok a s

unfoldable pub done : Compile Unit
done = return tt

unfoldable pub refuse : {A : Type 0} → Refusal → Compile A
refuse r s = err (stopped r s)

unfoldable pub need : Bool → Refusal → Compile Unit
need true r s = ok tt s
need false r s = err (stopped r s)

unfoldable pub get : Compile Compiler
get s = ok s s

unfoldable pub put_ctxs : CompilerCtx → List CompilerCtx → Compile Unit
put_ctxs ctx parents s = ok tt (with_ctxs s ctx parents)

-- one field of the state, or of the current context
unfoldable pub the : {A : Type 0} → (Compiler → A) → Compile A
the f s = ok (f s) s

unfoldable pub update_ctx : (CompilerCtx → CompilerCtx) → Compile Unit
update_ctx f s = ok tt (with_ctx s (f s.ctx))

-- ## `impl CompilerCtx`: names

pub data Found : Type 0 where
  at_slot : ℕ → Found
  uninitialized no_local : Found

-- `resolve_local`: the topmost local of that name; its slot is how many locals lie below it
unfoldable pub find_local : (name : ℕ) → List Local → Found
find_local name [] = no_local
find_local name (local ∷ below) =
    if eqb local.name name
    then if local.is_initialized then at_slot (length below) else uninitialized
    else find_local name below

-- `resolve_local` with its `capture`: the topmost local of that name is marked as captured
unfoldable pub capture : (name : ℕ) → List Local → List Local
capture name [] = []
capture name (local ∷ below) =
    if eqb local.name name
    then record { name = local.name; depth = local.depth; is_initialized = local.is_initialized; is_captured = true } ∷ below
    else local ∷ capture name below

pub data Resolved : Type 0 where
  captured : (idx : ℕ) → CompilerCtx → List CompilerCtx → Resolved
  nowhere : Resolved
  failed : Refusal → Resolved

unfoldable pub same_upvalue : Upvalue → Upvalue → Bool
same_upvalue a b =
    eqb a.idx b.idx && (if a.is_local then b.is_local else if b.is_local then false else true)

-- `add_upvalue`, by the place of an equal one; at most 256
unfoldable pub added : Option ℕ → Upvalue → Span → CompilerCtx → List CompilerCtx → Resolved
added (some place) upvalue span ctx parents = captured place ctx parents
added none upvalue span ctx parents =
    if ltb (length ctx.upvalues) 256
    then captured (length ctx.upvalues) (with_upvalues ctx (ctx.upvalues ++ (upvalue ∷ []))) parents
    else failed (TooManyUpvalues span)

unfoldable pub add_upvalue : Upvalue → Span → CompilerCtx → List CompilerCtx → Resolved
add_upvalue upvalue span ctx parents = added (position (same_upvalue upvalue) ctx.upvalues) upvalue span ctx parents

-- `resolve_upvalue`'s second match: what the context around resolved further out. Contexts come and go as the current one and those around it, since
-- both may change
unfoldable pub further_out : Resolved → Span → CompilerCtx → Resolved
further_out (captured idx parent above) span ctx = add_upvalue (record { idx = idx; is_local = false }) span ctx (parent ∷ above)
further_out nowhere span ctx = nowhere
further_out (failed r) span ctx = failed r

-- its first match: what `resolve_local` gives in the context around
unfoldable pub through : Found → (outer : Resolved) → (name : ℕ) → Span → (ctx parent : CompilerCtx) → List CompilerCtx → Resolved
through (at_slot slot) outer name span ctx parent above =
    add_upvalue (record { idx = slot; is_local = true }) span ctx (with_locals parent (capture name parent.locals) ∷ above)
through uninitialized outer name span ctx parent above = failed (AccessInsideInitializer span name)
through no_local outer name span ctx parent above = further_out outer span ctx

unfoldable pub resolve_upvalue : (name : ℕ) → Span → CompilerCtx → List CompilerCtx → Resolved
resolve_upvalue name span ctx [] = nowhere
resolve_upvalue name span ctx (parent ∷ above) =
    through (find_local name parent.locals) (resolve_upvalue name span parent above) name span ctx parent above

pub data Place : Type 0 where
  local_at upvalue_at : ℕ → Place
  global_named : Place

unfoldable pub resolved : Found → (outer : Resolved) → (name : ℕ) → Span → Compile Place
resolved (at_slot slot) outer name span = return (local_at slot)
resolved uninitialized outer name span = refuse (AccessInsideInitializer span name)
resolved no_local (captured idx ctx parents) name span = do
  put_ctxs ctx parents
  return (upvalue_at idx)
resolved no_local nowhere name span = return global_named
resolved no_local (failed r) name span = refuse r

-- `resolve_local` and then `resolve_upvalue`, as `get_variable` and `set_variable` do
unfoldable pub resolve : (name : ℕ) → Span → Compile Place
resolve name span = do
  s ← get
  resolved (find_local name s.ctx.locals) (resolve_upvalue name span s.ctx s.parents) name span

-- ## `impl Compiler` from `begin_ctx` on: what emits nothing

unfoldable pub begin_ctx : CompilerCtx → Compile Unit
begin_ctx ctx s = ok tt (with_ctxs s ctx (s.ctx ∷ s.parents))

unfoldable pub finish : CompilerCtx → ObjectFunction
finish c = record { name = c.name; arity = c.arity; upvalue_count = length c.upvalues; chunk = c.chunk }

unfoldable pub back_to : List CompilerCtx → Compile (ℕ × List Upvalue)
back_to [] s = ok (0, []) s  -- never: Impossible `end_ctx_has_parent`
back_to (parent ∷ above) s =
    ok (length s.functions, s.ctx.upvalues)
    (record { ctx = parent; parents = above; class_ctx = s.class_ctx; functions = s.functions ++ (finish s.ctx ∷ []) })

-- the finished function's number and its captured variables
unfoldable pub end_ctx : Compile (ℕ × List Upvalue)
end_ctx = do
  parents ← the λ s. s.parents
  back_to parents

-- the loop of `declare_local`: a local of that name, looking down while the depth isn't below the current one
unfoldable pub declared_here : (depth name : ℕ) → List Local → Bool
declared_here depth name [] = false
declared_here depth name (local ∷ below) =
    if ltb local.depth depth then false
    else if eqb local.name name then true
    else declared_here depth name below

unfoldable pub declare_local : (name : ℕ) → Span → Compile Unit
declare_local name span = do
  ctx ← the (λ s. s.ctx)
  need (not (declared_here ctx.scope_depth name ctx.locals)) (AlreadyDefined span name)
  need (ltb (length ctx.locals) 256) (TooManyLocals span)
  update_ctx λ c. with_locals c
      (record { name = name; depth = c.scope_depth; is_initialized = false; is_captured = false } ∷ c.locals)

unfoldable pub initialize : List Local → List Local
initialize [] = []  -- never: Impossible `define_local_has_local`
initialize (local ∷ below) =
    record { name = local.name; depth = local.depth; is_initialized = true; is_captured = local.is_captured } ∷ below

unfoldable pub define_local : Compile Unit
define_local = update_ctx λ c. with_locals c (initialize c.locals)

-- where the next byte goes
unfoldable pub code_length : Compile ℕ
code_length = the λ s. length s.ctx.chunk.ops

unfoldable pub set_u16 : List ℕ → ℕ → ℕ → List ℕ
set_u16 ops at n = set (set ops at (n % 256)) (at + 1) (n / 256)

unfoldable pub patch_jump : (offset-idx : ℕ) → Span → Compile Unit
patch_jump offset-idx span = do
  end ← code_length
  need (leb (end - 2 - offset-idx) 65_535) (JumpTooLarge span)
  update_ctx λ c. with_chunk c
      (record {
        ops = set_u16 c.chunk.ops offset-idx (end - 2 - offset-idx);
        constants = c.chunk.constants;
        spans = c.chunk.spans;
      })

abbrev pub start_loop : Compile ℕ
start_loop = code_length

unfoldable pub begin_scope : Compile Unit
begin_scope = update_ctx λ c. with_scope_depth c (c.scope_depth + 1)

unfoldable pub is_global : Compile Bool
is_global = the λ s. eqb s.ctx.scope_depth 0

unfoldable pub push_class_ctx : (with_super : Bool) → Compile Unit
push_class_ctx with_super s = ok tt (with_classes s (with_super ∷ s.class_ctx))

-- the list is never empty: Impossible `pop_class_ctx_has_class`
unfoldable pub pop_class_ctx : Compile Unit
pop_class_ctx s = ok tt (with_classes s (drop 1 s.class_ctx))

-- how many code bytes the open functions have
unfoldable pub open_code : Compiler → ℕ
open_code s = length s.ctx.chunk.ops + of_all s.parents
  where
    of_all : List CompilerCtx → ℕ
    of_all [] = 0
    of_all (c ∷ cs) = length c.chunk.ops + of_all cs

-- ## Small questions about the tree and the state

unfoldable pub prefix_op : OpPrefix → ℕ
prefix_op Negate = op.NEGATE
prefix_op Not = op.NOT

-- `match self.class_ctx.last()`: the innermost class has a superclass, or 21 or 22
unfoldable pub innermost_has_super : List Bool → Span → Compile Unit
innermost_has_super [] span = refuse (SuperOutsideClass span)
innermost_has_super (yes_or_no ∷ _) span = need yes_or_no (SuperWithoutSuperclass span)

unfoldable pub need_super : Span → Compile Unit
need_super span = do
  classes ← the λ s. s.class_ctx
  innermost_has_super classes span

abbrev pub is_some : {A : Type 0} → Option A → Bool
is_some none = false
is_some (some _) = true

unfoldable pub slot_zero : FunctionType → (name : ℕ) → ℕ
slot_zero Initializer name = this_name
slot_zero Method name = this_name
slot_zero Function name = name
slot_zero Script name = name

unfoldable pub declare_params : List ℕ → Span → Compile Unit
declare_params [] span = done
declare_params (param ∷ params) span = do
  declare_local param span
  define_local
  declare_params params span

-- the code's last byte is RETURN's, an operand or not
unfoldable pub ends_in_return : List ℕ → Bool
ends_in_return [] = false
ends_in_return (b ∷ []) = eqb b op.RETURN
ends_in_return (_ ∷ b ∷ bs) = ends_in_return (b ∷ bs)

abbrev pub method_type : (name : ℕ) → FunctionType
method_type name = if eqb name init_name then Initializer else Method

unfoldable pub some_methods : Methods → Bool
some_methods []ᵐ = false
some_methods (method _ _ _) = true

unfoldable pub fun_name : Fun → ℕ
fun_name (fun name params body) = name

-- ## `impl Compiler`: what emits, under the code limit

module _ (code_limit : ℕ) where
  unfoldable pub emit_u8 : ℕ → Span → Compile Unit
  emit_u8 byte span = do
    used ← the open_code
    need (ltb used code_limit) CodeFull
    update_ctx λ c. with_chunk c (write_u8 c.chunk byte span)

  unfoldable pub emit_place : Written → Span → Compile Unit
  emit_place (at_place place chunk) span = do
    update_ctx λ c. with_chunk c chunk
    emit_u8 place span
  emit_place no_room span = refuse (TooManyConstants span)

  unfoldable pub emit_constant : Constant → Span → Compile Unit
  emit_constant value span = do
    chunk ← the λ s. s.ctx.chunk
    emit_place (write_constant chunk value) span

  -- Whole instructions. The Rust writes them byte by byte; here each has its definition, so that a law of the code can be shown of each.

  unfoldable pub emit_op : (opcode : ℕ) → Span → Compile Unit
  emit_op opcode span = emit_u8 opcode span

  unfoldable pub emit_op_u8 : (opcode operand : ℕ) → Span → Compile Unit
  emit_op_u8 opcode operand span = do
    emit_u8 opcode span
    emit_u8 operand span

  unfoldable pub emit_op_constant : (opcode : ℕ) → Constant → Span → Compile Unit
  emit_op_constant opcode value span = do
    emit_u8 opcode span
    emit_constant value span

  unfoldable pub emit_invoke : (opcode : ℕ) → Constant → (count : ℕ) → Span → Compile Unit
  emit_invoke opcode value count span = do
    emit_u8 opcode span
    emit_constant value span
    emit_u8 count span

  unfoldable pub emit_upvalues : List Upvalue → Span → Compile Unit
  emit_upvalues [] span = done
  emit_upvalues (upvalue ∷ upvalues) span = do
    emit_u8 (if upvalue.is_local then 1 else 0) span
    emit_u8 upvalue.idx span
    emit_upvalues upvalues span

  unfoldable pub emit_closure : (number : ℕ) → List Upvalue → Span → Compile Unit
  emit_closure number upvalues span = do
    emit_u8 op.CLOSURE span
    emit_constant (CF number) span
    emit_upvalues upvalues span

  -- the place of the operand, which `patch_jump` fills
  unfoldable pub emit_jump : ℕ → Span → Compile ℕ
  emit_jump opcode span = do
    emit_u8 opcode span
    emit_u8 0xFF span
    emit_u8 0xFF span
    end ← code_length
    return (end - 2)

  unfoldable pub emit_loop : (start-idx : ℕ) → Span → Compile Unit
  emit_loop start-idx span = do
    end ← code_length
    need (leb (end + 3 - start-idx) 65_535) (JumpTooLarge span)
    emit_u8 op.LOOP span
    emit_u8 ((end + 3 - start-idx) % 256) span
    emit_u8 ((end + 3 - start-idx) / 256) span

  -- the loop of `end_scope`: the locals that lie deeper than the scope, the topmost first
  unfoldable pub pop_locals : List Local → Span → Compile Unit
  pop_locals [] span = done
  pop_locals (local ∷ below) span = do
    depth ← the λ s. s.ctx.scope_depth
    if ltb depth local.depth
        then (do
          emit_op (if local.is_captured then op.CLOSE_UPVALUE else op.POP) span
          update_ctx λ c. with_locals c below
          pop_locals below span)
        else done

  unfoldable pub end_scope : Span → Compile Unit
  end_scope span = do
    update_ctx λ c. with_scope_depth c (c.scope_depth - 1)
    locals ← the λ s. s.ctx.locals
    pop_locals locals span

  unfoldable pub get_place : Place → (name : ℕ) → Span → Compile Unit
  get_place (local_at slot) name span = emit_op_u8 op.GET_LOCAL slot span
  get_place (upvalue_at idx) name span = emit_op_u8 op.GET_UPVALUE idx span
  get_place global_named name span = emit_op_constant op.GET_GLOBAL (CS name) span

  unfoldable pub get_variable : (name : ℕ) → Span → Compile Unit
  get_variable name span = do
    classes ← the λ s. s.class_ctx
    need (not (eqb name this_name && eqb (length classes) 0)) (ThisOutsideClass span)
    place ← resolve name span
    get_place place name span

  unfoldable pub set_place : Place → (name : ℕ) → Span → Compile Unit
  set_place (local_at slot) name span = emit_op_u8 op.SET_LOCAL slot span
  set_place (upvalue_at idx) name span = emit_op_u8 op.SET_UPVALUE idx span
  set_place global_named name span = emit_op_constant op.SET_GLOBAL (CS name) span

  unfoldable pub set_variable : (name : ℕ) → Span → Compile Unit
  set_variable name span = do
    place ← resolve name span
    set_place place name span

  unfoldable pub define_global : (name : ℕ) → Span → Compile Unit
  define_global name span = emit_op_constant op.DEFINE_GLOBAL (CS name) span

  -- ## `compile_expr`, its longer arms first

  unfoldable pub compile_literal : ExprLiteral → Span → Compile Unit
  compile_literal (LitBool true) span = emit_op op.TRUE span
  compile_literal (LitBool false) span = emit_op op.FALSE span
  compile_literal LitNil span = emit_op op.NIL span
  compile_literal (LitNumber bits) span = emit_op_constant op.CONSTANT (CN bits) span
  compile_literal (LitString name) span = emit_op_constant op.CONSTANT (CS name) span

  -- `match infix.op`, after the left side; `rt` compiles the right one
  unfoldable pub compile_infix : OpInfix → (rt : Compile Unit) → Span → Compile Unit
  compile_infix Add rt span = rt >> emit_op op.ADD span
  compile_infix Subtract rt span = rt >> emit_op op.SUBTRACT span
  compile_infix Multiply rt span = rt >> emit_op op.MULTIPLY span
  compile_infix Divide rt span = rt >> emit_op op.DIVIDE span
  compile_infix Less rt span = rt >> emit_op op.LESS span
  compile_infix LessEqual rt span = rt >> emit_op op.LESS_EQUAL span
  compile_infix Greater rt span = rt >> emit_op op.GREATER span
  compile_infix GreaterEqual rt span = rt >> emit_op op.GREATER_EQUAL span
  compile_infix Equal rt span = rt >> emit_op op.EQUAL span
  compile_infix NotEqual rt span = rt >> emit_op op.NOT_EQUAL span
  compile_infix LogicAnd rt span = do
    jump-to-end ← emit_jump op.JUMP_IF_FALSE span
    emit_op op.POP span
    rt
    patch_jump jump-to-end span
  compile_infix LogicOr rt span = do
    jump-to-right-expr ← emit_jump op.JUMP_IF_FALSE span
    jump-to-end ← emit_jump op.JUMP span
    patch_jump jump-to-right-expr span
    emit_op op.POP span
    rt
    patch_jump jump-to-end span

  unfoldable pub compile_super : (name : ℕ) → Span → Compile Unit
  compile_super name span = do
    need_super span
    get_variable this_name span
    get_variable super_name span
    emit_op_constant op.GET_SUPER (CS name) span

  -- the three arms of `match &call.callee.0`; `object`, `callee` and `args` compile those parts
  unfoldable pub call_method : (object args : Compile Unit) → (name count : ℕ) → Span → Compile Unit
  call_method object args name count span = do
    object
    args
    emit_invoke op.INVOKE (CS name) count span

  unfoldable pub call_super : (args : Compile Unit) → (name count : ℕ) → Span → Compile Unit
  call_super args name count span = do
    need_super span
    get_variable this_name span
    args
    get_variable super_name span
    emit_invoke op.SUPER_INVOKE (CS name) count span

  unfoldable pub call_value : (callee args : Compile Unit) → (count : ℕ) → Span → Compile Unit
  call_value callee args count span = do
    callee
    args
    emit_op_u8 op.CALL count span

  unfoldable mutual
    pub compile_expr : Expr → Compile Unit
    compile_expr (ExprAssign span name value) = do
      compile_expr value
      set_variable name span
    compile_expr (ExprCall span callee args) = do
      need (leb (count_exprs args) 255) (TooManyArgs span)
      compile_call callee (compile_expr callee) (compile_exprs args) (count_exprs args) span
    compile_expr (ExprGet span name object) = do
      compile_expr object
      emit_op_constant op.GET_PROPERTY (CS name) span
    compile_expr (ExprInfix span op lt rt) = do
      compile_expr lt
      compile_infix op (compile_expr rt) span
    compile_expr (Literal span literal) = compile_literal literal span
    compile_expr (ExprPrefix span op rt) = do
      compile_expr rt
      emit_op (prefix_op op) span
    compile_expr (ExprSet span name value object) = do
      compile_expr value
      compile_expr object
      emit_op_constant op.SET_PROPERTY (CS name) span
    compile_expr (ExprSuper span name) = compile_super name span
    compile_expr (ExprVar span name) = get_variable name span

    -- `match &call.callee.0`: an `EG` becomes an INVOKE, an `EU` a SUPER_INVOKE
    pub compile_call : Expr → (callee args : Compile Unit) → (count : ℕ) → Span → Compile Unit
    compile_call (ExprGet _ name object) callee args n span = call_method (compile_expr object) args name n span
    compile_call (ExprSuper _ name) callee args n span = call_super args name n span
    compile_call (ExprAssign _ _ _) callee args n span = call_value callee args n span
    compile_call (ExprCall _ _ _) callee args n span = call_value callee args n span
    compile_call (ExprInfix _ _ _ _) callee args n span = call_value callee args n span
    compile_call (Literal _ _) callee args n span = call_value callee args n span
    compile_call (ExprPrefix _ _ _) callee args n span = call_value callee args n span
    compile_call (ExprSet _ _ _ _) callee args n span = call_value callee args n span
    compile_call (ExprVar _ _) callee args n span = call_value callee args n span

    pub compile_exprs : Exprs → Compile Unit
    compile_exprs []ᵉ = done
    compile_exprs (e ∷ᵉ es) = do
      compile_expr e
      compile_exprs es

  -- ## `compile_function` and `compile_stmt`, their longer arms first

  -- `match value { Some(value) => .., None => NIL }`
  unfoldable pub compile_value : Option Expr → Span → Compile Unit
  compile_value none span = emit_op op.NIL span
  compile_value (some value) span = compile_expr value

  -- `match self.ctx.type_` of a return
  unfoldable pub return_value : FunctionType → Option Expr → Span → Compile Unit
  return_value Script value span = refuse (ReturnOutsideFunction span)
  return_value Initializer (some value) span = refuse (ReturnInInitializer span)
  return_value Initializer none span = emit_op_u8 op.GET_LOCAL 0 span
  return_value Function value span = compile_value value span
  return_value Method value span = compile_value value span

  unfoldable pub compile_return : Option Expr → Span → Compile Unit
  compile_return value span = do
    type ← the λ s. s.ctx.type
    return_value type value span
    emit_op op.RETURN span

  unfoldable pub compile_var : (name : ℕ) → Option Expr → Span → Compile Unit
  compile_var name value span = do
    global ← is_global
    if global
        then (do
          compile_value value span
          define_global name span)
        else do
          declare_local name span
          compile_value value span
          define_local

  -- the end of a `fun` and the start of a `class`: a global is defined, or a local declared and defined
  unfoldable pub define_name : (name : ℕ) → Span → Compile Unit
  define_name name span = do
    global ← is_global
    if global
        then define_global name span
        else do
          declare_local name span
          define_local

  -- `if let Some(super_) = &class.super_`
  unfoldable pub compile_superclass : (class : ℕ) → Option Superclass → Span → Compile Unit
  compile_superclass class none span = done
  compile_superclass class (some super) span = do
    need (not (eqb super.name class)) (ClassInheritFromSelf span class)
    begin_scope
    declare_local super_name NO_SPAN
    define_local
    get_variable super.name super.span
    get_variable class span
    emit_op op.INHERIT span

  -- `if has_super`
  unfoldable pub end_superclass : Option Superclass → Compile Unit
  end_superclass none = done
  end_superclass (some _) = end_scope NO_SPAN

  -- the three optional parts of a `for`: the condition and the jump past the loop, the increment, and the end that the jump goes to
  unfoldable pub for_cond : Option Expr → Span → Compile (Option ℕ)
  for_cond none span = return none
  for_cond (some cond) span = do
    compile_expr cond
    jump-to-end ← emit_jump op.JUMP_IF_FALSE span
    emit_op op.POP span
    return (some jump-to-end)

  unfoldable pub for_incr : Option Expr → Span → Compile Unit
  for_incr none span = done
  for_incr (some incr) span = do
    compile_expr incr
    emit_op op.POP span

  unfoldable pub for_end : Option ℕ → Span → Compile Unit
  for_end none span = done
  for_end (some jump-to-end) span = do
    patch_jump jump-to-end span
    emit_op op.POP span

  -- `if chunk.ops.last() != Some(&op::RETURN)`
  unfoldable pub implicit_return : Compile Unit
  implicit_return = do
    ops ← the λ s. s.ctx.chunk.ops
    if ends_in_return ops then done else compile_return none NO_SPAN

  -- the function is finished, and the one around it makes a closure of it
  unfoldable pub end_function : Span → Compile Unit
  end_function span = do
    (number, upvalues) ← end_ctx
    emit_closure number upvalues span

  -- `compile_function`; `body` compiles the statements
  unfoldable pub compile_function_with : FunctionType → (name : ℕ) → (params : List ℕ) → (body : Compile Unit) → Span → Compile Unit
  compile_function_with type name params body span = do
    need (leb (length params) 255) (TooManyParams span)
    depth ← the λ s. s.ctx.scope_depth
    begin_ctx (new_ctx name (length params) type (depth + 1))
    declare_local (slot_zero type name) span
    define_local
    declare_params params span
    body
    implicit_return
    end_function span

  unfoldable mutual
    pub compile_stmt : Stmt → Compile Unit
    compile_stmt (StmtBlock span stmts) = do
      begin_scope
      compile_stmts stmts
      end_scope span
    compile_stmt (StmtClass span name super methods) = do
      emit_op_constant op.CLASS (CS name) span
      define_name name span
      push_class_ctx (is_some super)
      compile_superclass name super span
      if some_methods methods
          then (do
            get_variable name span
            compile_methods methods
            emit_op op.POP span)
          else done
      end_superclass super
      pop_class_ctx
    compile_stmt (StmtExpr span value) = do
      compile_expr value
      emit_op op.POP span
    compile_stmt (StmtFor span init cond body incr) = do
      begin_scope
      compile_stmts init
      loop_start ← start_loop
      jump-to-end ← for_cond cond span
      compile_stmt body
      for_incr incr span
      emit_loop loop_start span
      for_end jump-to-end span
      end_scope span
    compile_stmt (StmtFun span f) = do
      compile_function f Function span
      define_name (fun_name f) span
    compile_stmt (StmtIf span cond then- else-) = do
      compile_expr cond
      jump-to-else ← emit_jump op.JUMP_IF_FALSE span
      emit_op op.POP span
      compile_stmt then-
      jump-to-end ← emit_jump op.JUMP span
      patch_jump jump-to-else span
      emit_op op.POP span
      compile_stmts else-
      patch_jump jump-to-end span
    compile_stmt (StmtPrint span value) = do
      compile_expr value
      emit_op op.PRINT span
    compile_stmt (StmtReturn span value) = compile_return value span
    compile_stmt (StmtVar span name value) = compile_var name value span
    compile_stmt (StmtWhile span cond body) = do
      loop_start ← start_loop
      compile_expr cond
      jump-to-end ← emit_jump op.JUMP_IF_FALSE span
      emit_op op.POP span
      compile_stmt body
      emit_loop loop_start span
      patch_jump jump-to-end span
      emit_op op.POP span

    pub compile_stmts : Stmts → Compile Unit
    compile_stmts []ˢ = done
    compile_stmts (stmt ∷ˢ stmts) = do
      compile_stmt stmt
      compile_stmts stmts

    pub compile_function : Fun → FunctionType → Span → Compile Unit
    compile_function (fun name params body) type span = compile_function_with type name params (compile_stmts body) span

    pub compile_methods : Methods → Compile Unit
    compile_methods []ᵐ = done
    compile_methods (method span f methods) = do
      compile_function f (method_type (fun_name f)) span
      emit_op_constant op.METHOD (CS (fun_name f)) span
      compile_methods methods

  -- ## `compile`

  unfoldable pub compile_script : Stmts → Compile Unit
  compile_script stmts = do
    compile_stmts stmts
    emit_op op.NIL NO_SPAN
    emit_op op.RETURN NO_SPAN

  -- the functions in the order they are finished, the script last
  unfoldable pub compile_functions : Stmts → Outcome (List ObjectFunction)
  compile_functions stmts =
      (do
        compile_script stmts
        the λ s. s.functions ++ (finish s.ctx ∷ []))
      new
