-- What a tree is made of: its spans, names and numbers, how deep its functions stand in one another, and how many bytes its records have.
-- A law of the compiler that asks something of the tree asks it here; `Leaf` says what is asked of each part.
use mathlib.Core.Path.{◌≡◌, refl}
use mathlib.Core.Option.{Option, none, some}
use mathlib.Core.List.{List, ◌∷◌, []}
use Prim.Native.Nat.{ℕ, suc, ◌+◌, ◌*◌}
use lib.ListN.{length}
use Rattle.rules.specs.declared.Span.{Span}
use Rattle.rules.specs.Tree.{Expr, Exprs, ExprAssign, ExprCall, ExprGet, ExprInfix, Literal, ExprPrefix, ExprSet, ExprSuper, ExprVar, ◌∷ᵉ◌, []ᵉ, []ˢ, []ᵐ}
use Rattle.rules.specs.Tree.{ExprLiteral, LitBool, LitNil, LitNumber, LitString, Superclass}
use Rattle.rules.specs.Tree.{Stmt, Stmts, StmtBlock, StmtClass, StmtExpr, StmtFor, StmtFun, StmtIf, StmtPrint, StmtReturn, StmtVar, StmtWhile, ◌∷ˢ◌}
use Rattle.rules.specs.Tree.{Fun, fun, Methods, method}
use Rattle.rules_laws.proofs.Facts.{All}

-- what is asked of each part; `opens g h` says that a function may be opened at level `g`, and that its body stands at level `h`
pub record Leaf : Type 1 where
  pub span : Span → Type 0
  pub name : ℕ → Type 0
  pub bits : ℕ → Type 0
  pub level : Type 0
  pub opens : level → level → Type 0

-- nothing is asked of spans, names and numbers
abbrev pub any_leaf : (level : Type 0) → (level → level → Type 0) → Leaf
any_leaf level opens = record { span = λ _. Unit {0}; name = λ _. Unit {0}; bits = λ _. Unit {0}; level = level; opens = opens }

-- nor how deep functions stand in one another: a level says how many are open
abbrev pub anything : Leaf
anything = any_leaf ℕ (λ g h. h ≡ suc g)

abbrev pub IfSome : {A : Type 0} → (A → Type 0) → Option A → Type 0
IfSome P none = Unit {0}
IfSome P (some a) = P a

module _ (l : Leaf) where
  abbrev pub OfLiteral : ExprLiteral → Type 0
  OfLiteral (LitBool b) = Unit {0}
  OfLiteral LitNil = Unit {0}
  OfLiteral (LitNumber bits) = l.bits bits
  OfLiteral (LitString name) = l.name name

  abbrev mutual
    pub OfExpr : Expr → Type 0
    OfExpr (ExprAssign span name value) = l.span span × l.name name × OfExpr value
    OfExpr (ExprCall span callee args) = l.span span × OfExpr callee × OfExprs args
    OfExpr (ExprGet span name object) = l.span span × l.name name × OfExpr object
    OfExpr (ExprInfix span op lt rt) = l.span span × OfExpr lt × OfExpr rt
    OfExpr (Literal span literal) = l.span span × OfLiteral literal
    OfExpr (ExprPrefix span op rt) = l.span span × OfExpr rt
    OfExpr (ExprSet span name value object) = l.span span × l.name name × OfExpr value × OfExpr object
    OfExpr (ExprSuper span name) = l.span span × l.name name
    OfExpr (ExprVar span name) = l.span span × l.name name

    pub OfExprs : Exprs → Type 0
    OfExprs []ᵉ = Unit {0}
    OfExprs (e ∷ᵉ es) = OfExpr e × OfExprs es

  pub record OfSuperclass (sup : Superclass) : Type 0 where
    pub span : l.span sup.span
    pub name : l.name sup.name

  abbrev mutual
    pub OfStmt : Stmt → l.level → Type 0
    OfStmt (StmtBlock span stmts) g = l.span span × OfStmts stmts g
    OfStmt (StmtClass span name sup methods) g = l.span span × l.name name × IfSome OfSuperclass sup × OfMethods methods g
    OfStmt (StmtExpr span value) g = l.span span × OfExpr value
    OfStmt (StmtFor span init cond body incr) g = l.span span × OfStmts init g × IfSome OfExpr cond × OfStmt body g × IfSome OfExpr incr
    OfStmt (StmtFun span f) g = l.span span × (h : l.level) × l.opens g h × OfFun f h
    OfStmt (StmtIf span cond yes_part no_part) g = l.span span × OfExpr cond × OfStmt yes_part g × OfStmts no_part g
    OfStmt (StmtPrint span value) g = l.span span × OfExpr value
    OfStmt (StmtReturn span value) g = l.span span × IfSome OfExpr value
    OfStmt (StmtVar span name value) g = l.span span × l.name name × IfSome OfExpr value
    OfStmt (StmtWhile span cond body) g = l.span span × OfExpr cond × OfStmt body g

    pub OfStmts : Stmts → l.level → Type 0
    OfStmts []ˢ g = Unit {0}
    OfStmts (t ∷ˢ ts) g = OfStmt t g × OfStmts ts g

    pub OfFun : Fun → l.level → Type 0
    OfFun (fun name params body) g = l.name name × All l.name params × OfStmts body g

    pub OfMethods : Methods → l.level → Type 0
    OfMethods []ᵐ g = Unit {0}
    OfMethods (method span f methods) g = l.span span × (h : l.level) × l.opens g h × OfFun f h × OfMethods methods g

-- ## Every tree is one of which nothing is asked

module _ (level : Type 0) (opens : level → level → Type 0) where
  abbrev asked : Leaf
  asked = any_leaf level opens

  literals : (k : ExprLiteral) → OfLiteral asked k
  literals (LitBool b) = tt
  literals LitNil = tt
  literals (LitNumber bits) = tt
  literals (LitString name) = tt

  mutual
    exprs_any : (es : Exprs) → OfExprs asked es
    exprs_any []ᵉ = tt
    exprs_any (e ∷ᵉ es) = (expr_any e, exprs_any es)

    pub expr_any : (e : Expr) → OfExpr asked e
    expr_any (ExprAssign span name value) = (tt, tt, expr_any value)
    expr_any (ExprCall span callee args) = (tt, expr_any callee, exprs_any args)
    expr_any (ExprGet span name object) = (tt, tt, expr_any object)
    expr_any (ExprInfix span op lt rt) = (tt, expr_any lt, expr_any rt)
    expr_any (Literal span literal) = (tt, literals literal)
    expr_any (ExprPrefix span op rt) = (tt, expr_any rt)
    expr_any (ExprSet span name value object) = (tt, tt, expr_any value, expr_any object)
    expr_any (ExprSuper span name) = (tt, tt)
    expr_any (ExprVar span name) = (tt, tt)

abbrev all_names : (ns : List ℕ) → All anything.name ns
all_names [] = tt
all_names (n ∷ ns) = (tt, all_names ns)

any_expr : (e : Expr) → OfExpr anything e
any_expr e = expr_any ℕ (λ g h. h ≡ suc g) e

option_any : (v : Option Expr) → IfSome (OfExpr anything) v
option_any none = tt
option_any (some e) = any_expr e

super_any : (v : Option Superclass) → IfSome (OfSuperclass anything) v
super_any none = tt
super_any (some e) = record { span = tt; name = tt }

mutual
  stmt_any : (t : Stmt) (g : ℕ) → OfStmt anything t g
  stmt_any (StmtBlock span stmts) g = (tt, stmts_any stmts g)
  stmt_any (StmtClass span name sup methods) g = (tt, tt, super_any sup, methods_any methods g)
  stmt_any (StmtExpr span value) g = (tt, any_expr value)
  stmt_any (StmtFor span init cond body incr) g = (tt, stmts_any init g, option_any cond, stmt_any body g, option_any incr)
  stmt_any (StmtFun span f) g = (tt, suc g, refl, fun_any f (suc g))
  stmt_any (StmtIf span cond yes_part no_part) g = (tt, any_expr cond, stmt_any yes_part g, stmts_any no_part g)
  stmt_any (StmtPrint span value) g = (tt, any_expr value)
  stmt_any (StmtReturn span value) g = (tt, option_any value)
  stmt_any (StmtVar span name value) g = (tt, tt, option_any value)
  stmt_any (StmtWhile span cond body) g = (tt, any_expr cond, stmt_any body g)

  pub stmts_any : (ts : Stmts) (g : ℕ) → OfStmts anything ts g
  stmts_any []ˢ g = tt
  stmts_any (t ∷ˢ ts) g = (stmt_any t g, stmts_any ts g)

  pub fun_any : (f : Fun) (g : ℕ) → OfFun anything f g
  fun_any (fun name params body) g = (tt, all_names params, stmts_any body g)

  methods_any : (ms : Methods) (g : ℕ) → OfMethods anything ms g
  methods_any []ᵐ g = tt
  methods_any (method span f methods) g = (tt, suc g, refl, fun_any f (suc g), methods_any methods g)

-- ## How many bytes a record has, its children among them

abbrev pub literal_size : ExprLiteral → ℕ
literal_size (LitBool b) = 0
literal_size LitNil = 0
literal_size (LitNumber bits) = 8
literal_size (LitString name) = 2

abbrev pub option_size : {A : Type 0} → (A → ℕ) → Option A → ℕ
option_size f none = 0
option_size f (some a) = f a

abbrev mutual
  pub expr_size : Expr → ℕ
  expr_size (ExprAssign span name value) = 12 + expr_size value
  expr_size (ExprCall span callee args) = 12 + expr_size callee + exprs_size args
  expr_size (ExprGet span name object) = 12 + expr_size object
  expr_size (ExprInfix span op lt rt) = 11 + expr_size lt + expr_size rt
  expr_size (Literal span literal) = 11 + literal_size literal
  expr_size (ExprPrefix span op rt) = 11 + expr_size rt
  expr_size (ExprSet span name value object) = 12 + expr_size value + expr_size object
  expr_size (ExprSuper span name) = 12
  expr_size (ExprVar span name) = 12

  pub exprs_size : Exprs → ℕ
  exprs_size []ᵉ = 0
  exprs_size (e ∷ᵉ es) = expr_size e + exprs_size es

abbrev mutual
  pub stmt_size : Stmt → ℕ
  stmt_size (StmtBlock span stmts) = 12 + stmts_size stmts
  stmt_size (StmtClass span name sup methods) = 15 + option_size (λ _. 12) sup + methods_size methods
  stmt_size (StmtExpr span value) = 10 + expr_size value
  stmt_size (StmtFor span init cond body incr) = 11 + stmts_size init + option_size expr_size cond + stmt_size body + option_size expr_size incr
  stmt_size (StmtFun span f) = 10 + fun_size f
  stmt_size (StmtIf span cond yes_part no_part) = 11 + expr_size cond + stmt_size yes_part + stmts_size no_part
  stmt_size (StmtPrint span value) = 10 + expr_size value
  stmt_size (StmtReturn span value) = 11 + option_size expr_size value
  stmt_size (StmtVar span name value) = 13 + option_size expr_size value
  stmt_size (StmtWhile span cond body) = 10 + expr_size cond + stmt_size body

  pub stmts_size : Stmts → ℕ
  stmts_size []ˢ = 0
  stmts_size (t ∷ˢ ts) = stmt_size t + stmts_size ts

  pub fun_size : Fun → ℕ
  fun_size (fun name params body) = 6 + 2 * length params + stmts_size body

  pub methods_size : Methods → ℕ
  methods_size []ᵐ = 0
  methods_size (method span f methods) = 10 + fun_size f + methods_size methods
