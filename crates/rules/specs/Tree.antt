-- src/syntax/ast.rs: the shapes. A name is its number, a span stands first in each node, and an optional statement is a list of none or one.
-- antt takes no type inside another's list (`List Expr` in `Expr`), so `Exprs`, `Stmts` and `Methods` are lists of their own.
use Rattle.std.specs.Prelude.{Bool, List, ℕ, suc}
use Rattle.std.proofs.Math.Option.{Option}
use Rattle.rules.specs.declared.Span.{Span}

-- the names with fixed numbers
abbrev pub this_name : ℕ
this_name = 0

abbrev pub super_name : ℕ
super_name = 1

abbrev pub init_name : ℕ
init_name = 2

abbrev pub script_name : ℕ
script_name = 3

pub data OpInfix : Type 0 where
  Add Subtract Multiply Divide Less LessEqual Greater GreaterEqual Equal NotEqual LogicAnd LogicOr : OpInfix

pub data OpPrefix : Type 0 where
  Negate Not : OpPrefix

pub data ExprLiteral : Type 0 where
  LitBool : Bool → ExprLiteral
  LitNil : ExprLiteral
  LitNumber : (bits : ℕ) → ExprLiteral
  LitString : (name : ℕ) → ExprLiteral

infixr 20 ◌∷ᵉ◌
mutual
  pub data Expr : Type 0 where
    ExprAssign : Span → (name : ℕ) (value : Expr) → Expr
    ExprCall : Span → (callee : Expr) (args : Exprs) → Expr
    ExprGet : Span → (name : ℕ) (object : Expr) → Expr
    ExprInfix : Span → (op : OpInfix) (lt rt : Expr) → Expr
    Literal : Span → ExprLiteral → Expr
    ExprPrefix : Span → (op : OpPrefix) (rt : Expr) → Expr
    ExprSet : Span → (name : ℕ) (value object : Expr) → Expr
    ExprSuper : Span → (name : ℕ) → Expr
    ExprVar : Span → (name : ℕ) → Expr

  pub data Exprs : Type 0 where
    []ᵉ : Exprs
    ◌∷ᵉ◌ : Expr → Exprs → Exprs

unfoldable pub count_exprs : Exprs → ℕ
count_exprs []ᵉ = 0
count_exprs (e ∷ᵉ es) = suc (count_exprs es)

-- a superclass, which the tree file gives as an `EV`
pub record Superclass : Type 0 where
  pub span : Span
  pub name : ℕ

mutual
  pub data Stmt : Type 0 where
    StmtBlock : Span → (stmts : Stmts) → Stmt
    StmtClass : Span → (name : ℕ) (super : Option Superclass) (methods : Methods) → Stmt
    StmtExpr : Span → (value : Expr) → Stmt
    StmtFor : Span → (init : Stmts) (cond : Option Expr) (body : Stmt) (incr : Option Expr) → Stmt
    StmtFun : Span → (fun : Fun) → Stmt
    StmtIf : Span → (cond : Expr) (then : Stmt) (else : Stmts) → Stmt
    StmtPrint : Span → (value : Expr) → Stmt
    StmtReturn : Span → (value : Option Expr) → Stmt
    StmtVar : Span → (name : ℕ) (value : Option Expr) → Stmt
    StmtWhile : Span → (cond : Expr) (body : Stmt) → Stmt

  pub data Stmts : Type 0 where
    []ˢ : Stmts
    ◌∷ˢ◌ : Stmt → Stmts → Stmts

  pub data Fun : Type 0 where
    fun : (name : ℕ) (params : List ℕ) (body : Stmts) → Fun

  pub data Methods : Type 0 where
    []ᵐ : Methods
    method : Span → Fun → Methods → Methods

infixr 20 ◌∷ˢ◌
