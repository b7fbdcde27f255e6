-- The tree file written: from names and a program to bytes. `TreeFile` says what a file means; this says which bytes say it, record by record, so
-- that the two can be held against one another.
use Rattle.std.specs.Prelude.{Bool, true, false, List, [], ◌∷◌, ◌++◌, ℕ, suc, ◌+◌, ◌*◌, length}
use Rattle.std.proofs.Math.Option.{Option, none, some}
use Rattle.rules.specs.Base.{le}
use Rattle.rules.specs.declared.Span.{Span}
use Rattle.rules.specs.Image.{join}
use Rattle.rules.specs.Tree.{Expr, Exprs, ExprAssign, ExprCall, ExprGet, ExprInfix, Literal, ExprPrefix, ExprSet, ExprSuper, ExprVar, []ᵉ, ◌∷ᵉ◌, count_exprs}
use Rattle.rules.specs.Tree.{OpInfix, Add, Subtract, Multiply, Divide, Less, LessEqual, Greater, GreaterEqual, Equal, NotEqual, LogicAnd, LogicOr}
use Rattle.rules.specs.Tree.{OpPrefix, Negate, Not, ExprLiteral, LitBool, LitNil, LitNumber, LitString, Superclass}
use Rattle.rules.specs.Tree.{Stmt, Stmts, StmtBlock, StmtClass, StmtExpr, StmtFor, StmtFun, StmtIf, StmtPrint, StmtReturn, StmtVar, StmtWhile, []ˢ, ◌∷ˢ◌}
use Rattle.rules.specs.Tree.{Fun, fun, Methods, []ᵐ, method}

-- ## Parts of records

unfoldable pub byte : ℕ → List ℕ
byte n = n ∷ []

-- how every statement and every expression opens: its mark's two letters and its span
unfoldable pub opening : (high low : ℕ) → Span → List ℕ
opening high low s = high ∷ low ∷ le 4 s.start ++ le 4 s.end

unfoldable pub infix_byte : OpInfix → ℕ
infix_byte Add = 0
infix_byte Subtract = 1
infix_byte Multiply = 2
infix_byte Divide = 3
infix_byte Less = 4
infix_byte LessEqual = 5
infix_byte Greater = 6
infix_byte GreaterEqual = 7
infix_byte Equal = 8
infix_byte NotEqual = 9
infix_byte LogicAnd = 10
infix_byte LogicOr = 11

unfoldable pub prefix_byte : OpPrefix → ℕ
prefix_byte Negate = 0
prefix_byte Not = 1

-- yes or no
unfoldable pub bit : Bool → ℕ
bit false = 0
bit true = 1

-- whether a child that may be left out is there
unfoldable pub has : {A : Type 0} → Option A → Bool
has none = false
has (some a) = true

unfoldable pub has_stmt : Stmts → Bool
has_stmt []ˢ = false
has_stmt (t ∷ˢ ts) = true

unfoldable pub count_stmts : Stmts → ℕ
count_stmts []ˢ = 0
count_stmts (t ∷ˢ ts) = suc (count_stmts ts)

unfoldable pub count_methods : Methods → ℕ
count_methods []ᵐ = 0
count_methods (method s f ms) = suc (count_methods ms)

unfoldable pub if_some : {A : Type 0} → (A → List ℕ) → Option A → List ℕ
if_some f none = []
if_some f (some a) = f a

-- ## Expressions: EA, EC, EG, EI, EL, EP, ES, EU, EV

unfoldable pub literal_bytes : ExprLiteral → List ℕ
literal_bytes (LitBool false) = byte 0
literal_bytes (LitBool true) = byte 1
literal_bytes LitNil = byte 2
literal_bytes (LitNumber bits) = byte 3 ++ le 8 bits
literal_bytes (LitString name) = byte 4 ++ le 2 name

unfoldable mutual
  pub expr_bytes : Expr → List ℕ
  expr_bytes (ExprAssign s name value) = opening 0x45 0x41 s ++ le 2 name ++ expr_bytes value
  expr_bytes (ExprCall s callee args) = opening 0x45 0x43 s ++ le 2 (count_exprs args) ++ expr_bytes callee ++ exprs_bytes args
  expr_bytes (ExprGet s name object) = opening 0x45 0x47 s ++ le 2 name ++ expr_bytes object
  expr_bytes (ExprInfix s op lt rt) = opening 0x45 0x49 s ++ byte (infix_byte op) ++ expr_bytes lt ++ expr_bytes rt
  expr_bytes (Literal s literal) = opening 0x45 0x4C s ++ literal_bytes literal
  expr_bytes (ExprPrefix s op rt) = opening 0x45 0x50 s ++ byte (prefix_byte op) ++ expr_bytes rt
  expr_bytes (ExprSet s name value object) = opening 0x45 0x53 s ++ le 2 name ++ expr_bytes value ++ expr_bytes object
  expr_bytes (ExprSuper s name) = opening 0x45 0x55 s ++ le 2 name
  expr_bytes (ExprVar s name) = opening 0x45 0x56 s ++ le 2 name

  pub exprs_bytes : Exprs → List ℕ
  exprs_bytes []ᵉ = []
  exprs_bytes (e ∷ᵉ es) = expr_bytes e ++ exprs_bytes es

-- ## Statements: SB, SC, SE, SO, SF, SI, SP, SR, SV, SW

-- a superclass is an `EV`
unfoldable pub superclass_bytes : Superclass → List ℕ
superclass_bytes sup = opening 0x45 0x56 sup.span ++ le 2 sup.name

unfoldable mutual
  pub stmt_bytes : Stmt → List ℕ
  stmt_bytes (StmtBlock s stmts) = opening 0x53 0x42 s ++ le 2 (count_stmts stmts) ++ stmts_bytes stmts
  stmt_bytes (StmtClass s name sup methods) =
      opening 0x53 0x43 s ++ le 2 name ++ byte (bit (has sup)) ++ le 2 (count_methods methods) ++ if_some superclass_bytes sup ++ methods_bytes methods
  stmt_bytes (StmtExpr s value) = opening 0x53 0x45 s ++ expr_bytes value
  stmt_bytes (StmtFor s init cond body incr) =
      opening 0x53 0x4F s ++ byte (bit (has_stmt init) + 2 * bit (has cond) + 4 * bit (has incr))
      ++ stmts_bytes init ++ if_some expr_bytes cond ++ stmt_bytes body ++ if_some expr_bytes incr
  stmt_bytes (StmtFun s f) = opening 0x53 0x46 s ++ fun_bytes f
  stmt_bytes (StmtIf s cond yes_part no_part) =
      opening 0x53 0x49 s ++ byte (bit (has_stmt no_part)) ++ expr_bytes cond ++ stmt_bytes yes_part ++ stmts_bytes no_part
  stmt_bytes (StmtPrint s value) = opening 0x53 0x50 s ++ expr_bytes value
  stmt_bytes (StmtReturn s value) = opening 0x53 0x52 s ++ byte (bit (has value)) ++ if_some expr_bytes value
  stmt_bytes (StmtVar s name value) = opening 0x53 0x56 s ++ le 2 name ++ byte (bit (has value)) ++ if_some expr_bytes value
  stmt_bytes (StmtWhile s cond body) = opening 0x53 0x57 s ++ expr_bytes cond ++ stmt_bytes body

  pub stmts_bytes : Stmts → List ℕ
  stmts_bytes []ˢ = []
  stmts_bytes (t ∷ˢ ts) = stmt_bytes t ++ stmts_bytes ts

  -- what follows the span of an `SF`
  pub fun_bytes : Fun → List ℕ
  fun_bytes (fun name params body) = le 2 name ++ le 2 (length params) ++ join (le 2) params ++ le 2 (count_stmts body) ++ stmts_bytes body

  -- each an `SF`
  pub methods_bytes : Methods → List ℕ
  methods_bytes []ᵐ = []
  methods_bytes (method s f methods) = opening 0x53 0x46 s ++ fun_bytes f ++ methods_bytes methods

-- ## NM, TR

unfoldable pub name_bytes : List ℕ → List ℕ
name_bytes text = 0x4E ∷ 0x4D ∷ le 2 (length text) ++ text

unfoldable pub encode : (names : List (List ℕ)) → Stmts → List ℕ
encode names stmts = 0x54 ∷ 0x52 ∷ le 2 (length names) ++ le 2 (count_stmts stmts) ++ join name_bytes names ++ stmts_bytes stmts
