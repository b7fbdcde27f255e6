-- The encoder loses nothing: a tree file read back is the program that it was written from, for all names and programs that fit. A record's law is
-- the chain of its fields' laws, in the order they are written; `ReadBack` has those of the fields.
use mathlib.Core.Path.{◌≡◌, refl, ap, ◌∙◌, subst⁻¹}
use mathlib.Core.Bool.{Bool, true, false}
use mathlib.Core.Option.{Option, none, some}
use mathlib.Core.List.{List, ◌∷◌, ◌++◌, append_assoc, append-nil, []}
use Prim.Native.Nat.{ℕ, zero, suc, ◌+◌, ◌-◌, ◌*◌, ◌/◌, ◌%◌, ◌≤◌, ◌<◌}
use native.Mathlib.Omega.{arith}
use lib.ListN.{length}
use lib.Dec.{T, ltb, leb, eqb, lt→ltb, le→leb, eqb_refl}
use Rattle.rules.specs.Base.{le, lookup}
use Rattle.rules.specs.Limits.{max_names, max_bits}
use Rattle.rules.specs.declared.Span.{Span}
use Rattle.rules.specs.declared.Refusal.{Refusal}
use Rattle.rules.specs.declared.Refusal.TheVariants.{TreeForm, TooManyOpen}
use Rattle.rules.specs.Reader as r
use Rattle.rules.specs.Reader.{Reader, got}
use Rattle.rules.specs.Tree.{Expr, Exprs, ExprAssign, ExprCall, ExprGet, ExprInfix, Literal, ExprPrefix, ExprSet, ExprSuper, ExprVar, ◌∷ᵉ◌, count_exprs, []ᵉ, []ˢ, []ᵐ}
use Rattle.rules.specs.Tree.{OpInfix, Add, Subtract, Multiply, Divide, Less, LessEqual, Greater, GreaterEqual, Equal, NotEqual, LogicAnd, LogicOr}
use Rattle.rules.specs.Tree.{OpPrefix, Negate, Not, ExprLiteral, LitBool, LitNil, LitNumber, LitString, Superclass}
use Rattle.rules.specs.Tree.{Stmt, Stmts, StmtBlock, StmtClass, StmtExpr, StmtFor, StmtFun, StmtIf, StmtPrint, StmtReturn, StmtVar, StmtWhile, ◌∷ˢ◌}
use Rattle.rules.specs.Tree.{Fun, fun, Methods, method}
use Rattle.rules.specs.Image.{join}
use Rattle.rules.specs.TreeFile as t
use Rattle.rules.specs.TreeEncode as w
use Rattle.rules.specs.TreeEncode.{opening, bit, has, has_stmt, count_stmts, count_methods, if_some, expr_bytes, exprs_bytes, superclass_bytes}
use Rattle.rules.specs.TreeEncode.{stmt_bytes, stmts_bytes, fun_bytes, methods_bytes, name_bytes, encode}
use Rattle.rules_laws.proofs.Facts.{All, all_map}
use Rattle.rules_laws.proofs.ReadBack.{Narrow, Reads, Comes, first, ◌⟫◌, return, need, here, byte, mark, mark_is, u16, u64, span, many}
use Rattle.rules_laws.proofs.Trees.{IfSome, option_size}
use Rattle.rules.proofs.Computes as computes
use Rattle.tree_file_laws.proofs.Fits.{Count, Known, FitsLiteral, FitsExpr, FitsExprs, FitsSuperclass, FitsStmt, FitsStmts, FitsFun, FitsMethods}
use Rattle.tree_file_laws.proofs.Fits.{FitsText, Above, Rising, FitsFile}
use Rattle.tree_file_laws.proofs.Fits.{expr_depth, exprs_depth, stmt_depth, record_depth, fun_depth, methods_depth}
use Rattle.tree_file_laws.proofs.Fits.{stmt_nesting, nested_funs, fun_nesting, methods_nesting}
use Rattle.tree_file_laws.proofs.Names.{read_text, read_texts, texts_of, names_of}
use Rattle.tree_file_laws.proofs.Texts.{all_differ, above}

-- ## What the tables have under the encoder's bytes

flag_of : (b : Bool) → lookup (bit b) t.flags ≡ some b
unfolding bit computes.tree_file
flag_of false = refl
flag_of true = refl

infix_of : (op : OpInfix) → lookup (w.infix_byte op) t.infix_ops ≡ some op
unfolding w.infix_byte computes.tree_file
infix_of Add = refl
infix_of Subtract = refl
infix_of Multiply = refl
infix_of Divide = refl
infix_of Less = refl
infix_of LessEqual = refl
infix_of Greater = refl
infix_of GreaterEqual = refl
infix_of Equal = refl
infix_of NotEqual = refl
infix_of LogicAnd = refl
infix_of LogicOr = refl

prefix_of : (op : OpPrefix) → lookup (w.prefix_byte op) t.prefix_ops ≡ some op
unfolding w.prefix_byte computes.tree_file
prefix_of Negate = refl
prefix_of Not = refl

-- the three bits of a `for`, each read by its own test
abbrev for_byte : (init cond incr : Bool) → ℕ
for_byte init cond incr = bit init + 2 * bit cond + 4 * bit incr

record ForBits (init cond incr : Bool) (parts : ℕ) : Type 0 where
  small : T (ltb parts 8)
  first_bit : eqb (parts % 2) 1 ≡ init
  second_bit : eqb (parts / 2 % 2) 1 ≡ cond
  third_bit : eqb (parts / 4) 1 ≡ incr

for_bits : (init cond incr : Bool) → ForBits init cond incr (for_byte init cond incr)
unfolding bit
for_bits false false false = record { small = tt; first_bit = refl; second_bit = refl; third_bit = refl }
for_bits false false true = record { small = tt; first_bit = refl; second_bit = refl; third_bit = refl }
for_bits false true false = record { small = tt; first_bit = refl; second_bit = refl; third_bit = refl }
for_bits false true true = record { small = tt; first_bit = refl; second_bit = refl; third_bit = refl }
for_bits true false false = record { small = tt; first_bit = refl; second_bit = refl; third_bit = refl }
for_bits true false true = record { small = tt; first_bit = refl; second_bit = refl; third_bit = refl }
for_bits true true false = record { small = tt; first_bit = refl; second_bit = refl; third_bit = refl }
for_bits true true true = record { small = tt; first_bit = refl; second_bit = refl; third_bit = refl }

-- the whole file's fields in a row, with nothing after them
fields : (names : List (List ℕ)) (ts : Stmts) →
    encode names ts ≡ 0x54 ∷ 0x52 ∷ (le 2 (length names) ++ (le 2 (count_stmts ts) ++ (join name_bytes names ++ (stmts_bytes ts ++ []))))
unfolding encode
fields names ts = simp (append_assoc, append-nil)

module _ (tree : List ℕ) where
  -- where these bytes are written for `a`, it is read back
  abbrev Back : {A : Type 0} → Reader A → List ℕ → A → Type 0
  Back m bs a = (xs : List ℕ) → Reads tree m (bs ++ xs) xs a

  -- ## Bytes and marks that a table has

  -- a byte as the encoder puts it
  octet : (fault : Refusal) (b : ℕ) → Back (r.u8 tree fault) (w.byte b) b
  unfolding w.byte
  octet fault b xs = byte tree fault b xs

  kind : {A : Type 0} (table : List (ℕ × A)) (fault : Refusal) (b : ℕ) (k : A) → lookup b table ≡ some k →
      Back (r.◌>>=◌ (r.u8 tree fault) (r.one_of fault table)) (w.byte b) k
  unfolding r.one_of r.known
  kind table fault b k e xs = first tree _ (octet fault b xs) (rw e (return tree k))

  marked : {A : Type 0} (table : List (ℕ × A)) (fault : Refusal) (high low : ℕ) (k : A) (xs : List ℕ) → lookup (256 * high + low) table ≡ some k →
      Reads tree (r.◌>>=◌ (r.mark tree fault) (r.one_of fault table)) (high ∷ low ∷ xs) xs k
  unfolding r.one_of r.known
  marked table fault high low k xs e = first tree _ (mark tree fault high low xs) (rw e (return tree k))

  flag : (fault : Refusal) (b : Bool) → Back (t.flag tree fault) (w.byte (bit b)) b
  unfolding t.flag
  flag fault b xs = kind t.flags fault (bit b) b (flag_of b) xs

  -- ## Children that may be left out

  maybe : {A : Type 0} (one : Reader A) (f : A → List ℕ) (v : Option A) (b : Bool) → b ≡ has v → IfSome (λ (a : A). Back one (f a) a) v →
      Back (t.maybe b one) (if_some f v) v
  unfolding t.maybe has if_some
  maybe one f none b e h xs = rw e (return tree none)
  maybe one f (some a) b e h xs = rw e (first tree _ (h xs) (return tree (some a)))

  module _ (names : ℕ) (few : names ≤ max_names) where
    name : (fault : Refusal) (n : ℕ) → Known names n → Back (t.name tree names fault) (le 2 n) n
    unfolding t.name
    name fault n l xs =
        first tree _ (u16 tree fault n xs (omega arith)) (◌⟫◌ tree (need tree (ltb n (4 + names)) fault (lt→ltb n (4 + names) l)) (return tree n))

    params : (fault : Refusal) (ns : List ℕ) → All (Known names) ns → Back (r.many (length ns) (t.name tree names fault)) (join (le 2) ns) ns
    params fault ns h xs = many tree (t.name tree names fault) (le 2) ns xs (all_map (Known names) _ (name fault) ns h)

    -- ## Expressions

    literal : (fault : Refusal) (s : Span) (v : ExprLiteral) → FitsLiteral names v →
        Back (t.literal_fields tree names fault s) (w.literal_bytes v) (Literal s v)
    unfolding t.literal_fields t.literal_of w.literal_bytes computes.tree_file
    literal fault s (LitBool false) h xs =
        first tree _ (kind t.literal_kinds fault 0 t.a_false refl xs) (first tree (λ v. r.return (Literal s v)) (return tree (LitBool false)) (return tree _))
    literal fault s (LitBool true) h xs =
        first tree _ (kind t.literal_kinds fault 1 t.a_true refl xs) (first tree (λ v. r.return (Literal s v)) (return tree (LitBool true)) (return tree _))
    literal fault s LitNil h xs =
        first tree _ (kind t.literal_kinds fault 2 t.a_nil refl xs) (first tree (λ v. r.return (Literal s v)) (return tree LitNil) (return tree _))
    literal fault s (LitNumber bits) h xs =
        simp append_assoc
        (first tree _ (kind t.literal_kinds fault 3 t.a_number refl (le 8 bits ++ xs))
        (first tree _
        (first tree _ (u64 tree fault bits xs (omega arith))
        (◌⟫◌ tree (need tree (leb bits max_bits) fault (le→leb bits max_bits h)) (return tree (LitNumber bits))))
        (return tree _)))
    literal fault s (LitString n) h xs =
        simp append_assoc
        (first tree _ (kind t.literal_kinds fault 4 t.a_string refl (le 2 n ++ xs))
        (first tree _ (first tree _ (name fault n h xs) (return tree (LitString n))) (return tree _)))

    -- a record that opens with the mark of `k`
    expr_record : (depth : ℕ) → 0 < depth → (k : t.ExprMark) (high low : ℕ) → lookup (256 * high + low) t.expr_marks ≡ some k → (s : Span) → Narrow s →
        (e : Expr) (ys xs : List ℕ) → ((fault : Refusal) → Reads tree (t.expr_fields tree names (t.read_expr tree names (depth - 1)) fault k s) ys xs e) →
        Reads tree (t.read_expr tree names depth) (opening high low s ++ ys) xs e
    unfolding t.read_expr t.expr_record t.expr_mark opening
    expr_record zero l k high low m s n e ys xs h = absurd (omega arith)
    expr_record (suc depth) l k high low m s n e ys xs h =
        let z : suc depth - 1 ≡ depth = omega arith in
        here tree (λ at _. simp append_assoc
        (first tree _ (marked t.expr_marks (TreeForm at) high low k _ m) (first tree _ (span tree (TreeForm at) s ys n) (rw z at (h (TreeForm at))))))

    mutual
      unfolding t.read_exprs exprs_bytes expr_bytes computes.tree_file

      expr : (e : Expr) (depth : ℕ) → FitsExpr names e → expr_depth e ≤ depth → Back (t.read_expr tree names depth) (expr_bytes e) e
      expr (ExprAssign s n value) depth h l xs =
          simp append_assoc
          (expr_record depth (omega arith) t.EA 0x45 0x41 refl s h.0 _ _ xs
          (λ fault. first tree _ (name fault n h.1 _) (first tree _ (expr value (depth - 1) h.2 (omega arith) xs) (return tree _))))
      expr (ExprCall s callee args) depth h l xs =
          simp append_assoc
          (expr_record depth (omega arith) t.EC 0x45 0x43 refl s h.0 _ _ xs
          (λ fault. first tree _ (u16 tree fault (count_exprs args) _ h.1)
          (first tree _ (expr callee (depth - 1) h.2 (omega arith) _)
          (first tree _ (exprs args (depth - 1) h.3 (omega arith) xs) (return tree _)))))
      expr (ExprGet s n object) depth h l xs =
          simp append_assoc
          (expr_record depth (omega arith) t.EG 0x45 0x47 refl s h.0 _ _ xs
          (λ fault. first tree _ (name fault n h.1 _) (first tree _ (expr object (depth - 1) h.2 (omega arith) xs) (return tree _))))
      expr (ExprInfix s op lt rt) depth h l xs =
          simp append_assoc
          (expr_record depth (omega arith) t.EI 0x45 0x49 refl s h.0 _ _ xs
          (λ fault. first tree _ (kind t.infix_ops fault (w.infix_byte op) op (infix_of op) _)
          (first tree _ (expr lt (depth - 1) h.1 (omega arith) _) (first tree _ (expr rt (depth - 1) h.2 (omega arith) xs) (return tree _)))))
      expr (Literal s v) depth h l xs =
          simp append_assoc
          (expr_record depth (omega arith) t.EL 0x45 0x4C refl s h.0 _ _ xs
          (λ fault. literal fault s v h.1 xs))
      expr (ExprPrefix s op rt) depth h l xs =
          simp append_assoc
          (expr_record depth (omega arith) t.EP 0x45 0x50 refl s h.0 _ _ xs
          (λ fault. first tree _ (kind t.prefix_ops fault (w.prefix_byte op) op (prefix_of op) _)
          (first tree _ (expr rt (depth - 1) h.1 (omega arith) xs) (return tree _))))
      expr (ExprSet s n value object) depth h l xs =
          simp append_assoc
          (expr_record depth (omega arith) t.ES 0x45 0x53 refl s h.0 _ _ xs
          (λ fault. first tree _ (name fault n h.1 _)
          (first tree _ (expr value (depth - 1) h.2 (omega arith) _) (first tree _ (expr object (depth - 1) h.3 (omega arith) xs) (return tree _)))))
      expr (ExprSuper s n) depth h l xs =
          simp append_assoc
          (expr_record depth (omega arith) t.EU 0x45 0x55 refl s h.0 _ _ xs (λ fault. first tree _ (name fault n h.1 xs) (return tree _)))
      expr (ExprVar s n) depth h l xs =
          simp append_assoc
          (expr_record depth (omega arith) t.EV 0x45 0x56 refl s h.0 _ _ xs (λ fault. first tree _ (name fault n h.1 xs) (return tree _)))

      exprs : (es : Exprs) (depth : ℕ) → FitsExprs names es → exprs_depth es ≤ depth →
          Back (t.read_exprs (count_exprs es) (t.read_expr tree names depth)) (exprs_bytes es) es
      exprs []ᵉ depth h l xs = return tree []ᵉ
      exprs (e ∷ᵉ es) depth h l xs =
          simp append_assoc (first tree _ (expr e depth h.0 (omega arith) _) (first tree _ (exprs es depth h.1 (omega arith) xs) (return tree _)))

    option_expr : (v : Option Expr) (b : Bool) → b ≡ has v → (depth : ℕ) → IfSome (FitsExpr names) v → option_size expr_depth v ≤ depth →
        Back (t.maybe b (t.read_expr tree names depth)) (if_some expr_bytes v) v
    option_expr none b e depth h l = maybe (t.read_expr tree names depth) expr_bytes none b e tt
    option_expr (some a) b e depth h l = maybe (t.read_expr tree names depth) expr_bytes (some a) b e (expr a depth h l)

    -- ## Statements

    superclass : (sup : Superclass) (depth : ℕ) → FitsSuperclass names sup → 0 < depth →
        Back (t.read_superclass tree names depth) (superclass_bytes sup) sup
    unfolding t.read_superclass superclass_bytes opening
    superclass sup zero h l xs = absurd (omega arith)
    superclass sup (suc depth) h l xs =
        simp append_assoc
        (here tree (λ at _. ◌⟫◌ tree (mark_is tree (TreeForm at) 0x45 0x56 _)
        (first tree _ (span tree (TreeForm at) sup.span _ h.span) (first tree _ (name (TreeForm at) sup.name h.name xs) (return tree _)))))

    option_superclass : (v : Option Superclass) (depth : ℕ) → IfSome (FitsSuperclass names) v → option_size (λ _. 1) v ≤ depth →
        Back (t.maybe (has v) (t.read_superclass tree names depth)) (if_some superclass_bytes v) v
    option_superclass none depth h l = maybe (t.read_superclass tree names depth) superclass_bytes none (has none) refl tt
    option_superclass (some sup) depth h l = maybe (t.read_superclass tree names depth) superclass_bytes (some sup) (has (some sup)) refl (superclass sup depth h l)

    -- what reads the children of a record of which `depth` and `funs` may be open
    abbrev children : (depth funs : ℕ) → t.Children
    children depth funs =
        record {
          expr = t.read_expr tree names depth;
          superclass = t.read_superclass tree names depth;
          stmt = t.read_stmt tree names depth funs;
          inner = t.read_stmt tree names depth (funs - 1);
          one_method = t.read_method tree names depth funs;
        }

    stmt_record : (depth funs : ℕ) → 0 < depth → (k : t.StmtMark) → T (t.may_open k funs) → (high low : ℕ) →
        lookup (256 * high + low) t.stmt_marks ≡ some k → (s : Span) → Narrow s → (e : Stmt) (ys xs : List ℕ) →
        ((fault : Refusal) → Reads tree (t.stmt_fields tree names (children (depth - 1) funs) fault k s) ys xs e) →
        Reads tree (t.read_stmt tree names depth funs) (opening high low s ++ ys) xs e
    unfolding t.read_stmt t.stmt_record t.stmt_mark opening
    stmt_record zero funs l k o high low m s n e ys xs h = absurd (omega arith)
    stmt_record (suc depth) funs l k o high low m s n e ys xs h =
        let z : suc depth - 1 ≡ depth = omega arith in
        here tree (λ at _. simp append_assoc
        (first tree _ (marked t.stmt_marks (TreeForm at) high low k _ m)
        (◌⟫◌ tree (need tree (t.may_open k funs) (TooManyOpen at) o)
        (first tree _ (span tree (TreeForm at) s ys n) (rw z at (h (TreeForm at)))))))

    method_record : (depth funs : ℕ) → 0 < depth → 0 < funs → (s : Span) → Narrow s → (f : Fun) (ys xs : List ℕ) →
        ((fault : Refusal) → Reads tree (t.fun_fields tree names (t.read_stmt tree names (depth - 1) (funs - 1)) fault) ys xs f) →
        Reads tree (t.read_method tree names depth funs) (opening 0x53 0x46 s ++ ys) xs (s, f)
    unfolding t.read_stmt t.method_record opening
    method_record zero funs l o s n f ys xs h = absurd (omega arith)
    method_record (suc depth) funs l o s n f ys xs h =
        let z : suc depth - 1 ≡ depth = omega arith in
        here tree (λ at _. simp append_assoc
        (◌⟫◌ tree (mark_is tree (TreeForm at) 0x53 0x46 _)
        (◌⟫◌ tree (need tree (ltb 0 funs) (TooManyOpen at) (lt→ltb 0 funs o))
        (first tree _ (span tree (TreeForm at) s ys n) (first tree _ (rw z at (h (TreeForm at))) (return tree _))))))

    -- ### A statement of each kind, its children given; `depth` and `funs` are what it may open itself

    abbrev Child : (depth funs : ℕ) → Stmt → Type 0
    Child depth funs e = Back (t.read_stmt tree names depth funs) (stmt_bytes e) e

    abbrev ChildrenOf : (depth funs : ℕ) → Stmts → Type 0
    ChildrenOf depth funs ts = Back (t.read_stmts (count_stmts ts) (t.read_stmt tree names depth funs)) (stmts_bytes ts) ts

    -- where at most one statement stands, by a test `b`
    abbrev ChildOrNone : (depth funs : ℕ) → Stmts → Type 0
    ChildOrNone depth funs ts = (b : Bool) → b ≡ has_stmt ts → Back (t.maybe_stmt b (t.read_stmt tree names depth funs)) (stmts_bytes ts) ts

    abbrev Function : (depth funs : ℕ) → Fun → Type 0
    Function depth funs f = (fault : Refusal) → Back (t.fun_fields tree names (t.read_stmt tree names depth funs) fault) (fun_bytes f) f

    abbrev MethodsOf : (depth funs : ℕ) → Methods → Type 0
    MethodsOf depth funs ms = Back (t.read_methods (count_methods ms) (t.read_method tree names depth funs)) (methods_bytes ms) ms

    module _ (depth funs : ℕ) (may : 0 < depth) (s : Span) (n : Narrow s) where
      block : (ts : Stmts) → Count (count_stmts ts) → ChildrenOf (depth - 1) funs ts → Child depth funs (StmtBlock s ts)
      unfolding stmt_bytes computes.tree_file
      block ts c h xs =
          simp append_assoc
          (stmt_record depth funs may t.SB tt 0x53 0x42 refl s n _ _ xs
          (λ fault. first tree _ (u16 tree fault (count_stmts ts) _ c) (first tree _ (h xs) (return tree _))))

      class : (m : ℕ) (sup : Option Superclass) (ms : Methods) → Known names m → Count (count_methods ms) → IfSome (FitsSuperclass names) sup →
          option_size (λ _. 1) sup ≤ depth - 1 → MethodsOf (depth - 1) funs ms → Child depth funs (StmtClass s m sup ms)
      unfolding stmt_bytes computes.tree_file
      class m sup ms k c p l h xs =
          simp append_assoc
          (stmt_record depth funs may t.SC tt 0x53 0x43 refl s n _ _ xs
          (λ fault. first tree _ (name fault m k _)
          (first tree _ (flag fault (has sup) _)
          (first tree _ (u16 tree fault (count_methods ms) _ c)
          (first tree _ (option_superclass sup (depth - 1) p l _) (first tree _ (h xs) (return tree _)))))))

      expression : (e : Expr) → FitsExpr names e → expr_depth e ≤ depth - 1 → Child depth funs (StmtExpr s e)
      unfolding stmt_bytes computes.tree_file
      expression e h l xs =
          simp append_assoc
          (stmt_record depth funs may t.SE tt 0x53 0x45 refl s n _ _ xs
          (λ fault. first tree _ (expr e (depth - 1) h l xs) (return tree _)))

      for : (init : Stmts) (cond : Option Expr) (body : Stmt) (incr : Option Expr) → ChildOrNone (depth - 1) funs init →
          IfSome (FitsExpr names) cond → option_size expr_depth cond ≤ depth - 1 → Child (depth - 1) funs body →
          IfSome (FitsExpr names) incr → option_size expr_depth incr ≤ depth - 1 → Child depth funs (StmtFor s init cond body incr)
      unfolding stmt_bytes computes.tree_file
      for init cond body incr h c l k i m xs =
          simp append_assoc
          (stmt_record depth funs may t.SO tt 0x53 0x4F refl s n _ _ xs
          (λ fault. let bits = for_bits (has_stmt init) (has cond) (has incr) in
          first tree _ (octet fault (for_byte (has_stmt init) (has cond) (has incr)) _)
          (◌⟫◌ tree (need tree (ltb (for_byte (has_stmt init) (has cond) (has incr)) 8) fault bits.small)
          (first tree _ (h _ bits.first_bit _)
          (first tree _ (option_expr cond _ bits.second_bit (depth - 1) c l _)
          (first tree _ (k _)
          (first tree _ (option_expr incr _ bits.third_bit (depth - 1) i m xs) (return tree _))))))))

      function_stmt : (f : Fun) → 0 < funs → Function (depth - 1) (funs - 1) f → Child depth funs (StmtFun s f)
      unfolding stmt_bytes computes.tree_file
      function_stmt f l h xs =
          simp append_assoc
          (stmt_record depth funs may t.SF (lt→ltb 0 funs l) 0x53 0x46 refl s n _ _ xs (λ fault. first tree _ (h fault xs) (return tree _)))

      choice : (cond : Expr) (yes_part : Stmt) (no_part : Stmts) → FitsExpr names cond → expr_depth cond ≤ depth - 1 →
          Child (depth - 1) funs yes_part → ChildOrNone (depth - 1) funs no_part → Child depth funs (StmtIf s cond yes_part no_part)
      unfolding stmt_bytes computes.tree_file
      choice cond yes_part no_part c l h k xs =
          simp append_assoc
          (stmt_record depth funs may t.SI tt 0x53 0x49 refl s n _ _ xs
          (λ fault. first tree _ (flag fault (has_stmt no_part) _)
          (first tree _ (expr cond (depth - 1) c l _)
          (first tree _ (h _) (first tree _ (k (has_stmt no_part) refl xs) (return tree _))))))

      print : (e : Expr) → FitsExpr names e → expr_depth e ≤ depth - 1 → Child depth funs (StmtPrint s e)
      unfolding stmt_bytes computes.tree_file
      print e h l xs =
          simp append_assoc
          (stmt_record depth funs may t.SP tt 0x53 0x50 refl s n _ _ xs
          (λ fault. first tree _ (expr e (depth - 1) h l xs) (return tree _)))

      return_stmt : (v : Option Expr) → IfSome (FitsExpr names) v → option_size expr_depth v ≤ depth - 1 → Child depth funs (StmtReturn s v)
      unfolding stmt_bytes computes.tree_file
      return_stmt v h l xs =
          simp append_assoc
          (stmt_record depth funs may t.SR tt 0x53 0x52 refl s n _ _ xs
          (λ fault. first tree _ (flag fault (has v) _) (first tree _ (option_expr v (has v) refl (depth - 1) h l xs) (return tree _))))

      variable : (m : ℕ) (v : Option Expr) → Known names m → IfSome (FitsExpr names) v → option_size expr_depth v ≤ depth - 1 →
          Child depth funs (StmtVar s m v)
      unfolding stmt_bytes computes.tree_file
      variable m v k h l xs =
          simp append_assoc
          (stmt_record depth funs may t.SV tt 0x53 0x56 refl s n _ _ xs
          (λ fault. first tree _ (name fault m k _)
          (first tree _ (flag fault (has v) _) (first tree _ (option_expr v (has v) refl (depth - 1) h l xs) (return tree _)))))

      while : (cond : Expr) (body : Stmt) → FitsExpr names cond → expr_depth cond ≤ depth - 1 → Child (depth - 1) funs body →
          Child depth funs (StmtWhile s cond body)
      unfolding stmt_bytes computes.tree_file
      while cond body c l h xs =
          simp append_assoc
          (stmt_record depth funs may t.SW tt 0x53 0x57 refl s n _ _ xs
          (λ fault. first tree _ (expr cond (depth - 1) c l _) (first tree _ (h xs) (return tree _))))

      one_more_method : (f : Fun) (ms : Methods) → 0 < funs → Function (depth - 1) (funs - 1) f → MethodsOf depth funs ms →
          MethodsOf depth funs (method s f ms)
      unfolding t.read_methods methods_bytes count_methods
      one_more_method f ms l h k xs =
          simp append_assoc
          (first tree _ (method_record depth funs may l s n f _ _ (λ fault. h fault _)) (first tree _ (k xs) (return tree _)))

    function_of : (depth funs : ℕ) (m : ℕ) (ps : List ℕ) (body : Stmts) → Known names m → Count (length ps) → All (Known names) ps →
        Count (count_stmts body) → ChildrenOf depth funs body → Function depth funs (fun m ps body)
    unfolding t.fun_fields fun_bytes
    function_of depth funs m ps body k c p d h fault xs =
        simp append_assoc
        (first tree _ (name fault m k _)
        (first tree _ (u16 tree fault (length ps) _ c)
        (first tree _ (params fault ps p _) (first tree _ (u16 tree fault (count_stmts body) _ d) (first tree _ (h xs) (return tree _))))))

    one_more : (depth funs : ℕ) (e : Stmt) (ts : Stmts) → Child depth funs e → ChildrenOf depth funs ts → ChildrenOf depth funs (e ∷ˢ ts)
    unfolding t.read_stmts stmts_bytes count_stmts
    one_more depth funs e ts h k xs = simp append_assoc (first tree _ (h _) (first tree _ (k xs) (return tree _)))

    just_one : (depth funs : ℕ) (e : Stmt) → Child depth funs e → ChildOrNone depth funs (e ∷ˢ []ˢ)
    unfolding t.maybe_stmt stmts_bytes has_stmt
    just_one depth funs e h b z xs = rw z (simp append_assoc (first tree _ (h xs) (return tree _)))

    no_stmt : (depth funs : ℕ) → ChildOrNone depth funs []ˢ
    unfolding t.maybe_stmt stmts_bytes has_stmt
    no_stmt depth funs b z xs = rw z (return tree []ˢ)

    no_more : (depth funs : ℕ) → ChildrenOf depth funs []ˢ
    unfolding t.read_stmts stmts_bytes count_stmts
    no_more depth funs xs = return tree []ˢ

    no_method : (depth funs : ℕ) → MethodsOf depth funs []ᵐ
    unfolding t.read_methods methods_bytes count_methods
    no_method depth funs xs = return tree []ᵐ

    mutual
      unfolding count_stmts

      stmt : (e : Stmt) (depth funs : ℕ) → FitsStmt names e → stmt_depth e ≤ depth → stmt_nesting e ≤ funs → Child depth funs e
      stmt (StmtBlock s ts) depth funs h l g =
          block depth funs (omega arith) s h.0 ts h.1 (stmts ts (depth - 1) funs h.2 (omega arith) g)
      stmt (StmtClass s n sup ms) depth funs h l g =
          class depth funs (omega arith) s h.0 n sup ms h.1 h.2 h.3 (omega arith) (methods ms (depth - 1) funs h.4 (omega arith) g)
      stmt (StmtExpr s e) depth funs h l g = expression depth funs (omega arith) s h.0 e h.1 (omega arith)
      stmt (StmtFor s init cond body incr) depth funs h l g =
          for depth funs (omega arith) s h.0 init cond body incr (maybe_stmt init (depth - 1) funs h.1 h.2 (omega arith) (omega arith))
          h.3 (omega arith) (stmt body (depth - 1) funs h.4 (omega arith) (omega arith)) h.5 (omega arith)
      stmt (StmtFun s f) depth funs h l g =
          function_stmt depth funs (omega arith) s h.0 f (omega arith) (function f (depth - 1) (funs - 1) h.1 (omega arith) (omega arith))
      stmt (StmtIf s cond yes_part no_part) depth funs h l g =
          choice depth funs (omega arith) s h.0 cond yes_part no_part h.2 (omega arith)
          (stmt yes_part (depth - 1) funs h.3 (omega arith) (omega arith))
          (maybe_stmt no_part (depth - 1) funs h.1 h.4 (omega arith) (omega arith))
      stmt (StmtPrint s e) depth funs h l g = print depth funs (omega arith) s h.0 e h.1 (omega arith)
      stmt (StmtReturn s v) depth funs h l g = return_stmt depth funs (omega arith) s h.0 v h.1 (omega arith)
      stmt (StmtVar s n v) depth funs h l g = variable depth funs (omega arith) s h.0 n v h.1 h.2 (omega arith)
      stmt (StmtWhile s cond body) depth funs h l g =
          while depth funs (omega arith) s h.0 cond body h.1 (omega arith) (stmt body (depth - 1) funs h.2 (omega arith) g)

      stmts : (ts : Stmts) (depth funs : ℕ) → FitsStmts names ts → record_depth ts ≤ depth → nested_funs ts ≤ funs → ChildrenOf depth funs ts
      stmts []ˢ depth funs h l g = no_more depth funs
      stmts (e ∷ˢ ts) depth funs h l g =
          one_more depth funs e ts (stmt e depth funs h.0 (omega arith) (omega arith)) (stmts ts depth funs h.1 (omega arith) (omega arith))

      maybe_stmt : (ts : Stmts) (depth funs : ℕ) → count_stmts ts ≤ 1 → FitsStmts names ts → record_depth ts ≤ depth → nested_funs ts ≤ funs →
          ChildOrNone depth funs ts
      maybe_stmt []ˢ depth funs c h l g = no_stmt depth funs
      maybe_stmt (e ∷ˢ []ˢ) depth funs c h l g = just_one depth funs e (stmt e depth funs h.0 (omega arith) (omega arith))
      maybe_stmt (e ∷ˢ u ∷ˢ ts) depth funs c h l g = absurd (omega arith)

      function : (f : Fun) (depth funs : ℕ) → FitsFun names f → fun_depth f ≤ depth → fun_nesting f ≤ funs → Function depth funs f
      function (fun m ps body) depth funs h l g =
          function_of depth funs m ps body h.0 h.1 h.2 h.3 (stmts body depth funs h.4 l g)

      methods : (ms : Methods) (depth funs : ℕ) → FitsMethods names ms → methods_depth ms ≤ depth → methods_nesting ms ≤ funs →
          MethodsOf depth funs ms
      methods []ᵐ depth funs h l g = no_method depth funs
      methods (method s f ms) depth funs h l g =
          one_more_method depth funs (omega arith) s h.0 f ms (omega arith)
          (function f (depth - 1) (funs - 1) h.1 (omega arith) (omega arith)) (methods ms depth funs h.2 (omega arith) (omega arith))

  -- ## Names and the whole file

  text_bytes : (fault : Refusal) (bs : List ℕ) → Back (r.many (length bs) (r.u8 tree fault)) bs bs
  unfolding r.many
  text_bytes fault [] xs = return tree []
  text_bytes fault (b ∷ bs) xs = first tree _ (byte tree fault b (bs ++ xs)) (first tree _ (text_bytes fault bs xs) (return tree (b ∷ bs)))

  a_name : (last : Option (List ℕ)) (text : List ℕ) → FitsText text → Above last text → Back (t.read_name tree last) (name_bytes text) text
  unfolding t.read_name name_bytes
  a_name last text h a xs =
      here tree (λ at _. simp append_assoc
      (◌⟫◌ tree (mark_is tree (TreeForm at) 0x4E 0x4D _)
      (first tree _ (u16 tree (TreeForm at) (length text) _ h.size)
      (first tree _ (text_bytes (TreeForm at) text xs)
      (◌⟫◌ tree (need tree _ (TreeForm at) (above tree last text a))
      (◌⟫◌ tree (need tree _ (TreeForm at) (all_differ tree text t.fixed_names h.own)) (return tree text)))))))

  names_back : (texts : List (List ℕ)) (last : Option (List ℕ)) → All FitsText texts → Rising last texts →
      Back (t.read_names tree (length texts) last) (join name_bytes texts) tt
  unfolding t.read_names join
  names_back [] last h a xs = return tree tt
  names_back (text ∷ texts) last h a xs =
      rw append_assoc (first tree _ (a_name last text h.0 a.0 _) (names_back texts (some text) h.1 a.1 xs))

  file : (depth funs : ℕ) (names : List (List ℕ)) (ts : Stmts) → FitsFile depth funs names ts →
      Reads tree (t.read_file tree depth funs) (encode names ts) [] ts
  unfolding t.read_file
  file depth funs names ts h =
      subst⁻¹ (λ (bs : List ℕ). Reads tree (t.read_file tree depth funs) bs [] ts) (fields names ts)
      (◌⟫◌ tree (mark_is tree (TreeForm 0) 0x54 0x52 _)
      (first tree _ (u16 tree (TreeForm 0) (length names) _ (omega (arith, h.few_names)))
      (first tree _ (u16 tree (TreeForm 0) (count_stmts ts) _ h.count)
      (◌⟫◌ tree (need tree (leb (length names) max_names) (TreeForm 0) (le→leb (length names) max_names h.few_names))
      (◌⟫◌ tree (names_back names none h.each_name h.rising _)
      (first tree _ (stmts (length names) h.few_names ts depth funs h.each_stmt h.within_depth h.within_funs [])
      (here tree (λ at e. ◌⟫◌ tree (need tree (eqb at (length tree)) (TreeForm at) (at_end at e)) (return tree ts)))))))))
    where
      at_end : (at : ℕ) → at + 0 ≡ length tree → T (eqb at (length tree))
      at_end at e = let z : length tree ≡ at = omega arith in rw z (eqb_refl at)

  -- the names alone
  a_text : (text : List ℕ) → FitsText text → Back (read_text tree) (name_bytes text) text
  unfolding read_text name_bytes
  a_text text h xs =
      simp append_assoc
      (◌⟫◌ tree (mark_is tree (TreeForm 0) 0x4E 0x4D _) (first tree _ (u16 tree (TreeForm 0) (length text) _ h.size) (text_bytes (TreeForm 0) text xs)))

  all_texts : (depth funs : ℕ) (names : List (List ℕ)) (ts : Stmts) → FitsFile depth funs names ts →
      Reads tree (read_texts tree) (encode names ts) (stmts_bytes ts ++ []) names
  unfolding read_texts
  all_texts depth funs names ts h =
      subst⁻¹ (λ (bs : List ℕ). Reads tree (read_texts tree) bs (stmts_bytes ts ++ []) names) (fields names ts)
      (◌⟫◌ tree (mark_is tree (TreeForm 0) 0x54 0x52 _)
      (first tree _ (u16 tree (TreeForm 0) (length names) _ (omega (arith, h.few_names)))
      (first tree _ (u16 tree (TreeForm 0) (count_stmts ts) _ h.count)
      (many tree (read_text tree) name_bytes names _ (all_map FitsText _ a_text names h.each_name)))))

-- the tree file loses nothing
pub read_encoded : (depth funs : ℕ) (names : List (List ℕ)) (stmts : Stmts) → FitsFile depth funs names stmts →
    t.read_tree (encode names stmts) depth funs ≡ got stmts (length (encode names stmts))
unfolding t.read_tree
read_encoded depth funs names stmts h =
    come.gives ∙ ap (got stmts) (omega (arith, come.leaves.place, ap length come.leaves.all_of, ap length (append-nil come.leaves.passed)))
  where
    come : Comes (encode names stmts) (t.read_file (encode names stmts) depth funs 0) [] stmts
    come = (file (encode names stmts) depth funs names stmts h).run 0 (record { passed = []; all_of = refl; place = refl })

-- nor the names
pub names_of_encoded : (depth funs : ℕ) (names : List (List ℕ)) (stmts : Stmts) → FitsFile depth funs names stmts → names_of (encode names stmts) ≡ names
unfolding names_of texts_of
names_of_encoded depth funs names stmts h = ap (texts_of (encode names stmts)) come.gives
  where
    come : Comes (encode names stmts) (read_texts (encode names stmts) 0) (stmts_bytes stmts ++ []) names
    come = (all_texts (encode names stmts) depth funs names stmts h).run 0 (record { passed = []; all_of = refl; place = refl })
