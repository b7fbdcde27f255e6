-- What the functions that compile an expression say: what was read at a place is compiled by the rules' `compile_expr`. An infix operator and a
-- call are cut in parts, since their children are compiled in between; proofs/ has the laws that the parts make the whole.
use Rattle.std.specs.Prelude.{◌≡◌, List, ℕ, suc, ◌+◌, ◌≤◌, leb, Ok, Err}
use Rattle.std.proofs.Math.Option.{some}
use Rattle.rules.specs.Base.{lookup}
use Rattle.rules.specs.declared.Span.{Span}
use Rattle.rules.specs.declared.Refusal.TheVariants.{TooManyArgs}
use Rattle.rules.specs.Tree.{this_name, super_name, Expr, Exprs, ExprAssign, ExprCall, ExprGet, ExprInfix, Literal, ExprPrefix, ExprSet, ExprSuper, ExprVar, ◌∷ᵉ◌}
use Rattle.rules.specs.Tree.{OpInfix, Add, Subtract, Multiply, Divide, Less, LessEqual, Greater, GreaterEqual, Equal, NotEqual, LogicAnd, LogicOr, OpPrefix}
use Rattle.rules.specs.Reader.{Read, got}
use Rattle.rules.specs.TreeFile.{infix_ops, prefix_ops, read_expr}
use Rattle.rules.specs.Op as op
use Rattle.rules.specs.Chunk.{CS}
use Rattle.rules.specs.Compiler.{Compile, return, done, need, emit_op, emit_op_u8, emit_invoke, emit_jump, patch_jump, prefix_op, need_super, get_variable, compile_expr, ◌>>=◌, ◌>>◌}
use Rattle.fields.specs.Words.{word16}
use Rattle.steps.specs.Why.{told, Step}
use Rattle.steps.specs.View.{Mem, t_of, code_len, steady, Gave, Refused, Did}

-- ## What was read

-- something was read there
pub record There {A : Type 0} (r : Read A) : Type 0 where
  pub thing : A
  pub next : ℕ
  pub is : r ≡ got thing next

-- the file's second field is how many names it has
abbrev pub expr_at : (tree : List ℕ) → (depth at : ℕ) → Read Expr
expr_at tree depth at = read_expr tree (word16 tree 2) depth at

-- an expression was read there, with some levels left
pub record Somewhere (tree : List ℕ) (at : ℕ) : Type 0 where
  pub depth : ℕ
  pub there : There (expr_at tree depth at)

-- what was read is compiled; the answer's value is where to read on
pub record Ran (class limit l : ℕ) (r : Read Expr) (before now : Mem) (a : Step) : Type 0 where
  pub did : (e : Expr) (n : ℕ) → r ≡ got e n → Did class limit l n steady (compile_expr limit e) before now a

-- ## Operators

-- the opcode of a prefix operator's number
pub record PrefixOp (n r : ℕ) : Type 0 where
  pub is : (o : OpPrefix) → lookup n prefix_ops ≡ some o → r ≡ prefix_op o

-- `compile_infix` before its right side, and after it. The value in between is the place of the operand that `and` and `or` leave open
module _ (limit : ℕ) where
  unfoldable pub before_right : OpInfix → Span → Compile ℕ
  before_right Add span = return 0
  before_right Subtract span = return 0
  before_right Multiply span = return 0
  before_right Divide span = return 0
  before_right Less span = return 0
  before_right LessEqual span = return 0
  before_right Greater span = return 0
  before_right GreaterEqual span = return 0
  before_right Equal span = return 0
  before_right NotEqual span = return 0
  before_right LogicAnd span = do
    jump-to-end ← emit_jump limit op.JUMP_IF_FALSE span
    emit_op limit op.POP span
    return jump-to-end
  before_right LogicOr span = do
    jump-to-right-expr ← emit_jump limit op.JUMP_IF_FALSE span
    jump-to-end ← emit_jump limit op.JUMP span
    patch_jump jump-to-right-expr span
    emit_op limit op.POP span
    return jump-to-end

  unfoldable pub after_right : OpInfix → (place : ℕ) → Span → Compile Unit
  after_right Add place span = emit_op limit op.ADD span
  after_right Subtract place span = emit_op limit op.SUBTRACT span
  after_right Multiply place span = emit_op limit op.MULTIPLY span
  after_right Divide place span = emit_op limit op.DIVIDE span
  after_right Less place span = emit_op limit op.LESS span
  after_right LessEqual place span = emit_op limit op.LESS_EQUAL span
  after_right Greater place span = emit_op limit op.GREATER span
  after_right GreaterEqual place span = emit_op limit op.GREATER_EQUAL span
  after_right Equal place span = emit_op limit op.EQUAL span
  after_right NotEqual place span = emit_op limit op.NOT_EQUAL span
  after_right LogicAnd place span = patch_jump place span
  after_right LogicOr place span = patch_jump place span

-- the opcode of an infix operator's number that leaves nothing open
pub record InfixOp (n r : ℕ) : Type 0 where
  pub is : (o : OpInfix) → lookup n infix_ops ≡ some o → (limit place : ℕ) (span : Span) → after_right limit o place span ≡ emit_op limit r span

abbrev pub BegunAs : (class limit l n : ℕ) → Compile ℕ → (before now : Mem) → Step → Type 0
BegunAs class limit l n m before now (Ok v) = Gave class limit l steady m v before now × (10 ≤ n → v + 2 ≤ code_len now l)
BegunAs class limit l n m before now (Err x) = Refused class l m before (told (t_of now) x)

pub record BegunBy (class limit l n : ℕ) (m : Compile ℕ) (before now : Mem) (r : Step) : Type 0 where
  pub does : BegunAs class limit l n m before now r

-- an infix operator up to its right side; n is its number
pub record Begun (class limit l n : ℕ) (span : Span) (before now : Mem) (r : Step) : Type 0 where
  pub did : (o : OpInfix) → lookup n infix_ops ≡ some o → BegunBy class limit l n (before_right limit o span) before now r

pub record Closed (class limit l n place next : ℕ) (span : Span) (before now : Mem) (r : Step) : Type 0 where
  pub did : (o : OpInfix) → lookup n infix_ops ≡ some o → Did class limit l next steady (after_right limit o place span) before now r

-- ## Calls

-- `match &call.callee.0`
pub data Callee : Type 0 where
  on_object : (name : ℕ) (object : Expr) → Callee
  on_super : (name : ℕ) → Callee
  on_value : Callee

unfoldable pub callee_of : Expr → Callee
callee_of (ExprGet _ name object) = on_object name object
callee_of (ExprSuper _ name) = on_super name
callee_of (ExprAssign _ _ _) = on_value
callee_of (ExprCall _ _ _) = on_value
callee_of (ExprInfix _ _ _ _) = on_value
callee_of (Literal _ _) = on_value
callee_of (ExprPrefix _ _ _) = on_value
callee_of (ExprSet _ _ _ _) = on_value
callee_of (ExprVar _ _) = on_value

-- the expressions that are compiled one after the other, where the first of them stands, and how many they are
unfoldable pub parts : Callee → (callee : Expr) → (args : Exprs) → Exprs
parts (on_object name object) callee args = object ∷ᵉ args
parts (on_super name) callee args = args
parts on_value callee args = callee ∷ᵉ args

unfoldable pub first_part : Callee → (at : ℕ) → ℕ
first_part (on_object name object) at = at + 24
first_part (on_super name) at = at + 24
first_part on_value at = at + 12

unfoldable pub part_count : Callee → (count : ℕ) → ℕ
part_count (on_object name object) count = suc count
part_count (on_super name) count = count
part_count on_value count = suc count

-- what comes before them, and what after
module _ (limit : ℕ) where
  unfoldable pub open_callee : Callee → Span → Compile Unit
  open_callee (on_object name object) span = done
  open_callee (on_super name) span = do
    need_super span
    get_variable limit this_name span
  open_callee on_value span = done

  unfoldable pub call_open : Callee → (count : ℕ) → Span → Compile Unit
  call_open callee count span = do
    need (leb count 255) (TooManyArgs span)
    open_callee callee span

  unfoldable pub call_close : Callee → (count : ℕ) → Span → Compile Unit
  call_close (on_object name object) count span = emit_invoke limit op.INVOKE (CS name) count span
  call_close (on_super name) count span = do
    get_variable limit super_name span
    emit_invoke limit op.SUPER_INVOKE (CS name) count span
  call_close on_value count span = emit_op_u8 limit op.CALL count span

-- of a call whose record starts at `at`: its callee is the record at at + 12, the number of its arguments at at + 10
pub record CallOpened (class limit l : ℕ) (tree : List ℕ) (at : ℕ) (span : Span) (before now : Mem) (r : Step) : Type 0 where
  pub did : (d : ℕ) (e : Expr) (n : ℕ) → expr_at tree d (at + 12) ≡ got e n
      → Did class limit l (first_part (callee_of e) at) steady (call_open limit (callee_of e) (word16 tree (at + 10)) span) before now r
  pub few : (v : ℕ) → r ≡ Ok v → word16 tree (at + 10) ≤ 255

pub record CallParts (tree : List ℕ) (at r : ℕ) : Type 0 where
  pub is : (d : ℕ) (e : Expr) (n : ℕ) → expr_at tree d (at + 12) ≡ got e n → r ≡ part_count (callee_of e) (word16 tree (at + 10))

pub record CallClosed (class limit l : ℕ) (tree : List ℕ) (at next : ℕ) (span : Span) (before now : Mem) (r : Step) : Type 0 where
  pub did : (d : ℕ) (e : Expr) (n : ℕ) → expr_at tree d (at + 12) ≡ got e n
      → Did class limit l next steady (call_close limit (callee_of e) (word16 tree (at + 10)) span) before now r
