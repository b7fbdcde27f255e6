-- A statement that holds no statement finishes no function: it is compiled by steps alone. A `var` and a `return` are cut in parts, since their values
-- are compiled in between; proofs/ has the laws that the parts make the whole.
use Rattle.steps.specs.Why.{Step}
use Rattle.std.specs.Prelude.{◌≡◌, ◌⊎◌, Bool, List, ℕ, if◌then◌else◌}
use Rattle.std.proofs.Math.Option.{Option, some}
use Rattle.rules.specs.Base.{lookup}
use Rattle.rules.specs.declared.Span.{Span}
use Rattle.rules.specs.declared.Refusal.TheVariants.{ReturnInInitializer, ReturnOutsideFunction}
use Rattle.rules.specs.Op as op
use Rattle.rules.specs.Tree.{Expr, Stmt}
use Rattle.rules.specs.Reader.{Read, got}
use Rattle.rules.specs.TreeFile.{flags, maybe, read_expr}
use Rattle.rules.specs.Compiler.{Compile, done, refuse, the, FunctionType, Function, Initializer, Method, Script, declare_local, define_local, define_global, compile_value, compile_stmt, ◌>>=◌}
use Rattle.fields.specs.Words.{word16, letters}
use Rattle.steps.specs.View.{Mem, steady, Did}
use Rattle.expr_laws.specs.Exprs.{There}
use Rattle.stmt_output_laws.specs.Output.{stmt_at}
use Rattle.fields.specs.Marks as marks

-- a statement was read there, with some levels left
pub record StmtSomewhere (tree : List ℕ) (l at : ℕ) : Type 0 where
  pub left : ℕ
  pub there : There (stmt_at tree left l at)

-- its mark is none of those of the statements that hold statements
pub record NoOther (tree : List ℕ) (at : ℕ) : Type 0 where
  pub no_block : letters tree at ≡ marks.SB → ⊥
  pub no_if : letters tree at ≡ marks.SI → ⊥
  pub no_while : letters tree at ≡ marks.SW → ⊥
  pub no_for : letters tree at ≡ marks.SO → ⊥
  pub no_fun : letters tree at ≡ marks.SF → ⊥
  pub no_class : letters tree at ≡ marks.SC → ⊥

-- the instruction that takes the value of a statement's expression
abbrev pub Taken : (tree : List ℕ) → (at o : ℕ) → Type 0
Taken tree at o = ((letters tree at ≡ marks.SE) × (o ≡ op.POP)) ⊎ ((letters tree at ≡ marks.SP) × (o ≡ op.PRINT))

-- what was read is compiled; the answer's value is where to read on
pub record Plainly (class limit l : ℕ) (read : Read Stmt) (before now : Mem) (r : Step) : Type 0 where
  pub did : (s : Stmt) (n : ℕ) → read ≡ got s n → Did class limit l n steady (compile_stmt limit s) before now r

-- ## A value that a flag announces, or none

pub record Flagged (tree : List ℕ) (left at flag : ℕ) (value : Option Expr) (n : ℕ) : Type 0 where
  pub has : Bool
  pub look : lookup flag flags ≡ some has
  pub one : maybe has (read_expr tree (word16 tree 2) left) at ≡ got value n

pub record Announced (tree : List ℕ) (at flag : ℕ) : Type 0 where
  pub left : ℕ
  pub value : Option Expr
  pub next : ℕ
  pub is : Flagged tree left at flag value next

pub record ValueRan (class limit l : ℕ) (tree : List ℕ) (left at flag : ℕ) (span : Span) (before now : Mem) (r : Step) : Type 0 where
  pub did : (value : Option Expr) (n : ℕ) → Flagged tree left at flag value n → Did class limit l n steady (compile_value limit value span) before now r

-- ## A `var` before its value, and after it: a local is declared first, and defined last

unfoldable pub open_var : (global : Bool) → (name : ℕ) → Span → Compile Unit
open_var global name span = if global then done else declare_local name span

unfoldable pub close_var : (limit : ℕ) → (global : Bool) → (name : ℕ) → Span → Compile Unit
close_var limit global name span = if global then define_global limit name span else define_local

-- ## A `return` before its value: whether a function of this kind may return one

unfoldable pub return_kind : FunctionType → Span → Compile Unit
return_kind Script span = refuse (ReturnOutsideFunction span)
return_kind Initializer span = refuse (ReturnInInitializer span)
return_kind Function span = done
return_kind Method span = done

unfoldable pub may_return : Span → Compile Unit
may_return span = do
  type ← the λ s. s.ctx.type
  return_kind type span
