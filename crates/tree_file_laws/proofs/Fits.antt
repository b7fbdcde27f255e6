-- Which programs a tree file can say: every part fits its field, and records stand in one another no deeper than the limits allow. How deep they
-- stand is counted on the tree itself.
use mathlib.Core.Logic.{◌≢◌}
use mathlib.Core.Option.{Option, none, some}
use mathlib.Core.List.{List, ◌∷◌, []}
use Prim.Native.Nat.{ℕ, suc, ◌+◌, max, ◌≤◌, ◌<◌}
use lib.ListN.{length}
use lib.Dec.{T}
use Rattle.rules.specs.Base.{before}
use Rattle.rules.specs.Limits.{max_names, max_bits}
use Rattle.rules.specs.Tree.{Expr, Exprs, ExprAssign, ExprCall, ExprGet, ExprInfix, Literal, ExprPrefix, ExprSet, ExprSuper, ExprVar, ◌∷ᵉ◌, count_exprs, []ᵉ, []ˢ, []ᵐ}
use Rattle.rules.specs.Tree.{ExprLiteral, LitBool, LitNil, LitNumber, LitString, Superclass}
use Rattle.rules.specs.Tree.{Stmt, Stmts, StmtBlock, StmtClass, StmtExpr, StmtFor, StmtFun, StmtIf, StmtPrint, StmtReturn, StmtVar, StmtWhile, ◌∷ˢ◌}
use Rattle.rules.specs.Tree.{Fun, fun, Methods, method}
use Rattle.rules.specs.TreeFile.{fixed_names}
use Rattle.rules.specs.TreeEncode.{count_stmts, count_methods}
use Rattle.rules_laws.proofs.Facts.{All, Bytes}
use Rattle.rules_laws.proofs.ReadBack.{Narrow}
use Rattle.rules_laws.proofs.Trees.{IfSome, option_size}

-- ## How many records stand in one another, a statement of the file being 1

abbrev mutual
  pub expr_depth : Expr → ℕ
  expr_depth (ExprAssign s name value) = suc (expr_depth value)
  expr_depth (ExprCall s callee args) = suc (max (expr_depth callee) (exprs_depth args))
  expr_depth (ExprGet s name object) = suc (expr_depth object)
  expr_depth (ExprInfix s op lt rt) = suc (max (expr_depth lt) (expr_depth rt))
  expr_depth (Literal s literal) = 1
  expr_depth (ExprPrefix s op rt) = suc (expr_depth rt)
  expr_depth (ExprSet s name value object) = suc (max (expr_depth value) (expr_depth object))
  expr_depth (ExprSuper s name) = 1
  expr_depth (ExprVar s name) = 1

  pub exprs_depth : Exprs → ℕ
  exprs_depth []ᵉ = 0
  exprs_depth (e ∷ᵉ es) = max (expr_depth e) (exprs_depth es)

-- a superclass is an `EV`, and a method an `SF`
abbrev mutual
  pub stmt_depth : Stmt → ℕ
  stmt_depth (StmtBlock s stmts) = suc (record_depth stmts)
  stmt_depth (StmtClass s name sup methods) = suc (max (option_size (λ _. 1) sup) (methods_depth methods))
  stmt_depth (StmtExpr s value) = suc (expr_depth value)
  stmt_depth (StmtFor s init cond body incr) =
      suc (max (max (record_depth init) (option_size expr_depth cond)) (max (stmt_depth body) (option_size expr_depth incr)))
  stmt_depth (StmtFun s f) = suc (fun_depth f)
  stmt_depth (StmtIf s cond yes_part no_part) = suc (max (expr_depth cond) (max (stmt_depth yes_part) (record_depth no_part)))
  stmt_depth (StmtPrint s value) = suc (expr_depth value)
  stmt_depth (StmtReturn s value) = suc (option_size expr_depth value)
  stmt_depth (StmtVar s name value) = suc (option_size expr_depth value)
  stmt_depth (StmtWhile s cond body) = suc (max (expr_depth cond) (stmt_depth body))

  pub record_depth : Stmts → ℕ
  record_depth []ˢ = 0
  record_depth (t ∷ˢ ts) = max (stmt_depth t) (record_depth ts)

  -- of the records inside
  pub fun_depth : Fun → ℕ
  fun_depth (fun name params body) = record_depth body

  pub methods_depth : Methods → ℕ
  methods_depth []ᵐ = 0
  methods_depth (method s f methods) = max (suc (fun_depth f)) (methods_depth methods)

-- ## How many `SF` records stand in one another, methods among them

abbrev mutual
  pub stmt_nesting : Stmt → ℕ
  stmt_nesting (StmtBlock s stmts) = nested_funs stmts
  stmt_nesting (StmtClass s name sup methods) = methods_nesting methods
  stmt_nesting (StmtExpr s value) = 0
  stmt_nesting (StmtFor s init cond body incr) = max (nested_funs init) (stmt_nesting body)
  stmt_nesting (StmtFun s f) = suc (fun_nesting f)
  stmt_nesting (StmtIf s cond yes_part no_part) = max (stmt_nesting yes_part) (nested_funs no_part)
  stmt_nesting (StmtPrint s value) = 0
  stmt_nesting (StmtReturn s value) = 0
  stmt_nesting (StmtVar s name value) = 0
  stmt_nesting (StmtWhile s cond body) = stmt_nesting body

  pub nested_funs : Stmts → ℕ
  nested_funs []ˢ = 0
  nested_funs (t ∷ˢ ts) = max (stmt_nesting t) (nested_funs ts)

  -- of the records inside
  pub fun_nesting : Fun → ℕ
  fun_nesting (fun name params body) = nested_funs body

  pub methods_nesting : Methods → ℕ
  methods_nesting []ᵐ = 0
  methods_nesting (method s f methods) = max (suc (fun_nesting f)) (methods_nesting methods)

-- ## Each part fits its field

-- a count has two bytes
abbrev pub Count : ℕ → Type 0
Count n = n < 65_536

-- `names` is how many names are written
module _ (names : ℕ) where
  -- a name's number: the four fixed ones, then the written ones
  abbrev pub Known : ℕ → Type 0
  Known n = n < 4 + names

  abbrev pub FitsLiteral : ExprLiteral → Type 0
  FitsLiteral (LitBool b) = Unit {0}
  FitsLiteral LitNil = Unit {0}
  FitsLiteral (LitNumber bits) = bits ≤ max_bits
  FitsLiteral (LitString name) = Known name

  abbrev mutual
    pub FitsExpr : Expr → Type 0
    FitsExpr (ExprAssign s name value) = Narrow s × Known name × FitsExpr value
    FitsExpr (ExprCall s callee args) = Narrow s × Count (count_exprs args) × FitsExpr callee × FitsExprs args
    FitsExpr (ExprGet s name object) = Narrow s × Known name × FitsExpr object
    FitsExpr (ExprInfix s op lt rt) = Narrow s × FitsExpr lt × FitsExpr rt
    FitsExpr (Literal s literal) = Narrow s × FitsLiteral literal
    FitsExpr (ExprPrefix s op rt) = Narrow s × FitsExpr rt
    FitsExpr (ExprSet s name value object) = Narrow s × Known name × FitsExpr value × FitsExpr object
    FitsExpr (ExprSuper s name) = Narrow s × Known name
    FitsExpr (ExprVar s name) = Narrow s × Known name

    pub FitsExprs : Exprs → Type 0
    FitsExprs []ᵉ = Unit {0}
    FitsExprs (e ∷ᵉ es) = FitsExpr e × FitsExprs es

  pub record FitsSuperclass (sup : Superclass) : Type 0 where
    pub span : Narrow sup.span
    pub name : Known sup.name

  -- the statement before a `for` and the one after an `else` are none or one
  abbrev mutual
    pub FitsStmt : Stmt → Type 0
    FitsStmt (StmtBlock s stmts) = Narrow s × Count (count_stmts stmts) × FitsStmts stmts
    FitsStmt (StmtClass s name sup methods) =
        Narrow s × Known name × Count (count_methods methods) × IfSome FitsSuperclass sup × FitsMethods methods
    FitsStmt (StmtExpr s value) = Narrow s × FitsExpr value
    FitsStmt (StmtFor s init cond body incr) =
        Narrow s × (count_stmts init ≤ 1) × FitsStmts init × IfSome FitsExpr cond × FitsStmt body × IfSome FitsExpr incr
    FitsStmt (StmtFun s f) = Narrow s × FitsFun f
    FitsStmt (StmtIf s cond yes_part no_part) =
        Narrow s × (count_stmts no_part ≤ 1) × FitsExpr cond × FitsStmt yes_part × FitsStmts no_part
    FitsStmt (StmtPrint s value) = Narrow s × FitsExpr value
    FitsStmt (StmtReturn s value) = Narrow s × IfSome FitsExpr value
    FitsStmt (StmtVar s name value) = Narrow s × Known name × IfSome FitsExpr value
    FitsStmt (StmtWhile s cond body) = Narrow s × FitsExpr cond × FitsStmt body

    pub FitsStmts : Stmts → Type 0
    FitsStmts []ˢ = Unit {0}
    FitsStmts (t ∷ˢ ts) = FitsStmt t × FitsStmts ts

    pub FitsFun : Fun → Type 0
    FitsFun (fun name params body) =
        Known name × Count (length params) × All Known params × Count (count_stmts body) × FitsStmts body

    pub FitsMethods : Methods → Type 0
    FitsMethods []ᵐ = Unit {0}
    FitsMethods (method s f methods) = Narrow s × FitsFun f × FitsMethods methods

-- ## Names, and the whole

-- a text: bytes, no more than two bytes can count, and none of the fixed names
pub record FitsText (text : List ℕ) : Type 0 where
  pub size : Count (length text)
  pub bytes : Bytes text
  pub own : All (λ (fixed : List ℕ). text ≢ fixed) fixed_names

-- above the name before it, where there is one
abbrev pub Above : Option (List ℕ) → List ℕ → Type 0
Above none text = Unit {0}
Above (some last) text = T (before last text)

abbrev pub Rising : Option (List ℕ) → List (List ℕ) → Type 0
Rising last [] = Unit {0}
Rising last (text ∷ texts) = Above last text × Rising (some text) texts

-- what a file can say whose records stand at most `depth` deep, and whose `SF` records at most `funs`
pub record FitsFile (depth funs : ℕ) (names : List (List ℕ)) (stmts : Stmts) : Type 0 where
  pub few_names : length names ≤ max_names
  pub each_name : All FitsText names
  pub rising : Rising none names
  pub count : Count (count_stmts stmts)
  pub each_stmt : FitsStmts (length names) stmts
  pub within_depth : record_depth stmts ≤ depth
  pub within_funs : nested_funs stmts ≤ funs
