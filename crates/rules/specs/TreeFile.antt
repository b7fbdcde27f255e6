-- The tree file: from bytes to a program, or the first refusal of 3, 4 and 5 in reading order.
-- In one record: mark, 4, 5, other fields. `depth` is how many levels of records may still open, and `funs` how many `SF` records: the file's
-- own limits are what the recursion falls by. A refusal names the place where its record starts; `fault` is 3 at that place.
use Rattle.std.specs.Prelude.{Bool, true, false, List, [], ◌∷◌, ℕ, zero, suc, ◌+◌, ◌-◌, ◌/◌, ◌%◌, length, ltb, leb, eqb, if◌then◌else◌}
use Rattle.std.proofs.Math.Option.{Option, none, some}
use Rattle.rules.specs.Base.{before, all}
use Rattle.rules.specs.Limits.{max_names, max_bits}
use Rattle.rules.specs.declared.Span.{Span}
use Rattle.rules.specs.declared.Refusal.{Refusal}
use Rattle.rules.specs.declared.Refusal.TheVariants.{TreeForm, TreeTooDeep, TooManyOpen}
use Rattle.rules.specs.Reader.{Read, Reader, ◌>>=◌, ◌>>◌, return, refuse, here, need, one_of, u8, u16, u64, mark, mark_is, span, many}
use Rattle.rules.specs.Tree.{Expr, Exprs, ExprAssign, ExprCall, ExprGet, ExprInfix, Literal, ExprPrefix, ExprSet, ExprSuper, ExprVar, []ᵉ, ◌∷ᵉ◌}
use Rattle.rules.specs.Tree.{OpInfix, Add, Subtract, Multiply, Divide, Less, LessEqual, Greater, GreaterEqual, Equal, NotEqual, LogicAnd, LogicOr}
use Rattle.rules.specs.Tree.{OpPrefix, Negate, Not, ExprLiteral, LitBool, LitNil, LitNumber, LitString, Superclass}
use Rattle.rules.specs.Tree.{Stmt, Stmts, StmtBlock, StmtClass, StmtExpr, StmtFor, StmtFun, StmtIf, StmtPrint, StmtReturn, StmtVar, StmtWhile, []ˢ, ◌∷ˢ◌}
use Rattle.rules.specs.Tree.{Fun, fun, Methods, []ᵐ, method}

-- ## Tables: what marks and kind bytes mean

pub data ExprMark : Type 0 where
  EA EC EG EI EL EP ES EU EV : ExprMark

pub data StmtMark : Type 0 where
  SB SC SE SF SI SO SP SR SV SW : StmtMark

pub data LiteralKind : Type 0 where
  a_false a_true a_nil a_number a_string : LiteralKind

unfoldable pub expr_marks : List (ℕ × ExprMark)
expr_marks =
    (0x4541, EA) ∷ (0x4543, EC) ∷ (0x4547, EG) ∷ (0x4549, EI) ∷ (0x454C, EL) ∷
    (0x4550, EP) ∷ (0x4553, ES) ∷ (0x4555, EU) ∷ (0x4556, EV) ∷ []

unfoldable pub stmt_marks : List (ℕ × StmtMark)
stmt_marks =
    (0x5342, SB) ∷ (0x5343, SC) ∷ (0x5345, SE) ∷ (0x5346, SF) ∷ (0x5349, SI) ∷
    (0x534F, SO) ∷ (0x5350, SP) ∷ (0x5352, SR) ∷ (0x5356, SV) ∷ (0x5357, SW) ∷ []

unfoldable pub infix_ops : List (ℕ × OpInfix)
infix_ops =
    (0, Add) ∷ (1, Subtract) ∷ (2, Multiply) ∷ (3, Divide) ∷ (4, Less) ∷ (5, LessEqual) ∷ (6, Greater) ∷
    (7, GreaterEqual) ∷ (8, Equal) ∷ (9, NotEqual) ∷ (10, LogicAnd) ∷ (11, LogicOr) ∷ []

unfoldable pub prefix_ops : List (ℕ × OpPrefix)
prefix_ops = (0, Negate) ∷ (1, Not) ∷ []

unfoldable pub literal_kinds : List (ℕ × LiteralKind)
literal_kinds = (0, a_false) ∷ (1, a_true) ∷ (2, a_nil) ∷ (3, a_number) ∷ (4, a_string) ∷ []

unfoldable pub flags : List (ℕ × Bool)
flags = (0, false) ∷ (1, true) ∷ []

-- "this", "super", "init", "<script>": never written
unfoldable pub fixed_names : List (List ℕ)
fixed_names =
    (0x74 ∷ 0x68 ∷ 0x69 ∷ 0x73 ∷ []) ∷
    (0x73 ∷ 0x75 ∷ 0x70 ∷ 0x65 ∷ 0x72 ∷ []) ∷
    (0x69 ∷ 0x6E ∷ 0x69 ∷ 0x74 ∷ []) ∷
    (0x3C ∷ 0x73 ∷ 0x63 ∷ 0x72 ∷ 0x69 ∷ 0x70 ∷ 0x74 ∷ 0x3E ∷ []) ∷ []

-- ## Children in a row, and those that a flag announces

unfoldable pub read_exprs : (count : ℕ) → Reader Expr → Reader Exprs
read_exprs zero expr = return []ᵉ
read_exprs (suc count) expr = do
  e ← expr
  es ← read_exprs count expr
  return (e ∷ᵉ es)

unfoldable pub read_stmts : (count : ℕ) → Reader Stmt → Reader Stmts
read_stmts zero stmt = return []ˢ
read_stmts (suc count) stmt = do
  s ← stmt
  ss ← read_stmts count stmt
  return (s ∷ˢ ss)

unfoldable pub read_methods : (count : ℕ) → Reader (Span × Fun) → Reader Methods
read_methods zero one = return []ᵐ
read_methods (suc count) one = do
  (s, f) ← one
  fs ← read_methods count one
  return (method s f fs)

unfoldable pub maybe : {A : Type 0} → Bool → Reader A → Reader (Option A)
maybe false one = return none
maybe true one = do
  a ← one
  return (some a)

unfoldable pub maybe_stmt : Bool → Reader Stmt → Reader Stmts
maybe_stmt false stmt = return []ˢ
maybe_stmt true stmt = do
  s ← stmt
  return (s ∷ˢ []ˢ)

-- what reads the children of a statement
pub record Children : Type 0 where
  pub expr : Reader Expr
  pub superclass : Reader Superclass
  pub stmt : Reader Stmt
  -- a statement of a function's body, where one `SF` more is open
  pub inner : Reader Stmt
  pub one_method : Reader (Span × Fun)

-- 5 is not for this record, or one more `SF` may open
unfoldable pub may_open : StmtMark → (funs : ℕ) → Bool
may_open SF funs = ltb 0 funs
may_open SB funs = true
may_open SC funs = true
may_open SE funs = true
may_open SI funs = true
may_open SO funs = true
may_open SP funs = true
may_open SR funs = true
may_open SV funs = true
may_open SW funs = true

module _ (tree : List ℕ) where
  unfoldable pub flag : (fault : Refusal) → Reader Bool
  flag fault = u8 tree fault >>= one_of fault flags

  module _ (names : ℕ) where
    -- a name's number
    unfoldable pub name : (fault : Refusal) → Reader ℕ
    name fault = do
      n ← u16 tree fault
      need (ltb n (4 + names)) fault
      return n

    -- ## Expressions: what follows the span of each; `expr` reads a child

    unfoldable pub assign_fields : (expr : Reader Expr) → (fault : Refusal) → Span → Reader Expr
    assign_fields expr fault s = do
      n ← name fault
      value ← expr
      return (ExprAssign s n value)

    unfoldable pub call_fields : (expr : Reader Expr) → (fault : Refusal) → Span → Reader Expr
    call_fields expr fault s = do
      count ← u16 tree fault
      callee ← expr
      args ← read_exprs count expr
      return (ExprCall s callee args)

    unfoldable pub get_fields : (expr : Reader Expr) → (fault : Refusal) → Span → Reader Expr
    get_fields expr fault s = do
      n ← name fault
      object ← expr
      return (ExprGet s n object)

    unfoldable pub infix_fields : (expr : Reader Expr) → (fault : Refusal) → Span → Reader Expr
    infix_fields expr fault s = do
      op ← u8 tree fault >>= one_of fault infix_ops
      lt ← expr
      rt ← expr
      return (ExprInfix s op lt rt)

    unfoldable pub literal_of : (fault : Refusal) → LiteralKind → Reader ExprLiteral
    literal_of fault a_false = return (LitBool false)
    literal_of fault a_true = return (LitBool true)
    literal_of fault a_nil = return LitNil
    literal_of fault a_number = do
      bits ← u64 tree fault
      need (leb bits max_bits) fault
      return (LitNumber bits)
    literal_of fault a_string = do
      n ← name fault
      return (LitString n)

    unfoldable pub literal_fields : (fault : Refusal) → Span → Reader Expr
    literal_fields fault s = do
      kind ← u8 tree fault >>= one_of fault literal_kinds
      literal ← literal_of fault kind
      return (Literal s literal)

    unfoldable pub prefix_fields : (expr : Reader Expr) → (fault : Refusal) → Span → Reader Expr
    prefix_fields expr fault s = do
      op ← u8 tree fault >>= one_of fault prefix_ops
      rt ← expr
      return (ExprPrefix s op rt)

    unfoldable pub set_fields : (expr : Reader Expr) → (fault : Refusal) → Span → Reader Expr
    set_fields expr fault s = do
      n ← name fault
      value ← expr
      object ← expr
      return (ExprSet s n value object)

    unfoldable pub super_fields : (fault : Refusal) → Span → Reader Expr
    super_fields fault s = do
      n ← name fault
      return (ExprSuper s n)

    unfoldable pub var_fields : (fault : Refusal) → Span → Reader Expr
    var_fields fault s = do
      n ← name fault
      return (ExprVar s n)

    unfoldable pub expr_fields : (expr : Reader Expr) → (fault : Refusal) → ExprMark → Span → Reader Expr
    expr_fields expr fault EA s = assign_fields expr fault s
    expr_fields expr fault EC s = call_fields expr fault s
    expr_fields expr fault EG s = get_fields expr fault s
    expr_fields expr fault EI s = infix_fields expr fault s
    expr_fields expr fault EL s = literal_fields fault s
    expr_fields expr fault EP s = prefix_fields expr fault s
    expr_fields expr fault ES s = set_fields expr fault s
    expr_fields expr fault EU s = super_fields fault s
    expr_fields expr fault EV s = var_fields fault s

    unfoldable pub expr_mark : (fault : Refusal) → Reader ExprMark
    expr_mark fault = mark tree fault >>= one_of fault expr_marks

    -- a record whose children `expr` reads
    unfoldable pub expr_record : (expr : Reader Expr) → (fault : Refusal) → Reader Expr
    expr_record expr fault = do
      kind ← expr_mark fault
      s ← span tree fault
      expr_fields expr fault kind s

    unfoldable pub read_expr : (depth : ℕ) → Reader Expr
    read_expr zero = do
      start ← here
      _ ← expr_mark (TreeForm start)
      refuse (TreeTooDeep start)
    read_expr (suc depth) = do
      start ← here
      expr_record (read_expr depth) (TreeForm start)

    -- the superclass of a class: an `EV` and nothing else
    unfoldable pub read_superclass : (depth : ℕ) → Reader Superclass
    read_superclass zero = do
      start ← here
      mark_is tree (TreeForm start) 0x4556
      refuse (TreeTooDeep start)
    read_superclass (suc depth) = do
      start ← here
      mark_is tree (TreeForm start) 0x4556
      s ← span tree (TreeForm start)
      n ← name (TreeForm start)
      return (record { span = s; name = n })

    -- ## Statements: what follows the span of each; `expr` and `stmt` read children, `inner` a statement of a function's body

    unfoldable pub block_fields : (stmt : Reader Stmt) → (fault : Refusal) → Span → Reader Stmt
    block_fields stmt fault s = do
      count ← u16 tree fault
      stmts ← read_stmts count stmt
      return (StmtBlock s stmts)

    unfoldable pub class_fields : (superclass : Reader Superclass) → (one : Reader (Span × Fun)) → (fault : Refusal) → Span → Reader Stmt
    class_fields superclass one fault s = do
      n ← name fault
      has_super ← flag fault
      count ← u16 tree fault
      super ← maybe has_super superclass
      methods ← read_methods count one
      return (StmtClass s n super methods)

    unfoldable pub expression_fields : (expr : Reader Expr) → Span → Reader Stmt
    expression_fields expr s = do
      value ← expr
      return (StmtExpr s value)

    unfoldable pub fun_fields : (inner : Reader Stmt) → (fault : Refusal) → Reader Fun
    fun_fields inner fault = do
      n ← name fault
      arity ← u16 tree fault
      params ← many arity (name fault)
      count ← u16 tree fault
      body ← read_stmts count inner
      return (fun n params body)

    unfoldable pub if_fields : (expr : Reader Expr) → (stmt : Reader Stmt) → (fault : Refusal) → Span → Reader Stmt
    if_fields expr stmt fault s = do
      has-else ← flag fault
      cond ← expr
      yes_part ← stmt
      no_part ← maybe_stmt has-else stmt
      return (StmtIf s cond yes_part no_part)

    -- 1 init, 2 condition, 4 increment
    unfoldable pub for_fields : (expr : Reader Expr) → (stmt : Reader Stmt) → (fault : Refusal) → Span → Reader Stmt
    for_fields expr stmt fault s = do
      parts ← u8 tree fault
      need (ltb parts 8) fault
      init ← maybe_stmt (eqb (parts % 2) 1) stmt
      cond ← maybe (eqb (parts / 2 % 2) 1) expr
      body ← stmt
      incr ← maybe (eqb (parts / 4) 1) expr
      return (StmtFor s init cond body incr)

    unfoldable pub print_fields : (expr : Reader Expr) → Span → Reader Stmt
    print_fields expr s = do
      value ← expr
      return (StmtPrint s value)

    unfoldable pub return_fields : (expr : Reader Expr) → (fault : Refusal) → Span → Reader Stmt
    return_fields expr fault s = do
      has_value ← flag fault
      value ← maybe has_value expr
      return (StmtReturn s value)

    unfoldable pub var_stmt_fields : (expr : Reader Expr) → (fault : Refusal) → Span → Reader Stmt
    var_stmt_fields expr fault s = do
      n ← name fault
      has_value ← flag fault
      value ← maybe has_value expr
      return (StmtVar s n value)

    unfoldable pub while_fields : (expr : Reader Expr) → (stmt : Reader Stmt) → Span → Reader Stmt
    while_fields expr stmt s = do
      cond ← expr
      body ← stmt
      return (StmtWhile s cond body)

    unfoldable pub stmt_fields : Children → (fault : Refusal) → StmtMark → Span → Reader Stmt
    stmt_fields read fault SB s = block_fields read.stmt fault s
    stmt_fields read fault SC s = class_fields read.superclass read.one_method fault s
    stmt_fields read fault SE s = expression_fields read.expr s
    stmt_fields read fault SF s = fun_fields read.inner fault >>= λ f. return (StmtFun s f)
    stmt_fields read fault SI s = if_fields read.expr read.stmt fault s
    stmt_fields read fault SO s = for_fields read.expr read.stmt fault s
    stmt_fields read fault SP s = print_fields read.expr s
    stmt_fields read fault SR s = return_fields read.expr fault s
    stmt_fields read fault SV s = var_stmt_fields read.expr fault s
    stmt_fields read fault SW s = while_fields read.expr read.stmt s

    unfoldable pub stmt_mark : (fault : Refusal) → Reader StmtMark
    stmt_mark fault = mark tree fault >>= one_of fault stmt_marks

    -- a record whose children are read so
    unfoldable pub stmt_record : Children → (funs start : ℕ) → Reader Stmt
    stmt_record read funs start = do
      kind ← stmt_mark (TreeForm start)
      need (may_open kind funs) (TooManyOpen start)
      s ← span tree (TreeForm start)
      stmt_fields read (TreeForm start) kind s

    -- a method: an `SF` and nothing else
    unfoldable pub method_record : (inner : Reader Stmt) → (funs start : ℕ) → Reader (Span × Fun)
    method_record inner funs start = do
      mark_is tree (TreeForm start) 0x5346
      need (ltb 0 funs) (TooManyOpen start)
      s ← span tree (TreeForm start)
      f ← fun_fields inner (TreeForm start)
      return (s, f)

    unfoldable mutual
      pub read_stmt : (depth funs : ℕ) → Reader Stmt
      read_stmt zero funs = do
        start ← here
        _ ← stmt_mark (TreeForm start)
        refuse (TreeTooDeep start)
      read_stmt (suc depth) funs = do
        start ← here
        stmt_record
            (record {
              expr = read_expr depth;
              superclass = read_superclass depth;
              stmt = read_stmt depth funs;
              inner = read_stmt depth (funs - 1);
              one_method = read_method depth funs;
            })
            funs start

      pub read_method : (depth funs : ℕ) → Reader (Span × Fun)
      read_method zero funs = do
        start ← here
        mark_is tree (TreeForm start) 0x5346
        refuse (TreeTooDeep start)
      read_method (suc depth) funs = do
        start ← here
        method_record (read_stmt depth (funs - 1)) funs start

  -- ## Names and the whole file

  -- above the name before it, where there is one
  unfoldable pub rises : (last : Option (List ℕ)) → (text : List ℕ) → Bool
  rises none text = true
  rises (some last) text = before last text

  -- two texts are equal when neither comes before the other
  unfoldable pub differs : List ℕ → List ℕ → Bool
  differs a b = if before a b then true else before b a

  unfoldable pub read_name : (last : Option (List ℕ)) → Reader (List ℕ)
  read_name last = do
    start ← here
    mark_is tree (TreeForm start) 0x4E4D
    size ← u16 tree (TreeForm start)
    text ← many size (u8 tree (TreeForm start))
    need (rises last text) (TreeForm start)
    need (all (differs text) fixed_names) (TreeForm start)
    return text

  unfoldable pub read_names : (count : ℕ) → (last : Option (List ℕ)) → Reader Unit
  read_names zero last = return tt
  read_names (suc count) last = do
    text ← read_name last
    read_names count (some text)

  -- the header is the record at 0, and the file ends at the last record
  unfoldable pub read_file : (depth funs : ℕ) → Reader Stmts
  read_file depth funs = do
    mark_is tree (TreeForm 0) 0x5452
    names ← u16 tree (TreeForm 0)
    count ← u16 tree (TreeForm 0)
    need (leb names max_names) (TreeForm 0)
    read_names names none
    stmts ← read_stmts count (read_stmt names depth funs)
    end ← here
    need (eqb end (length tree)) (TreeForm end)
    return stmts

  unfoldable pub read_tree : (depth funs : ℕ) → Read Stmts
  read_tree depth funs = read_file depth funs 0
