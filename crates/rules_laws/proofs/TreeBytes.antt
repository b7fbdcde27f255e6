-- From bytes the reader gives only trees whose parts fit the image's fields: spans below 2^32, names below 2^16, numbers without sign or NaN; no more
-- functions in one another than it was told; and the records' sizes are the bytes that were read.
use mathlib.Core.Path.{◌≡◌, refl, subst}
use mathlib.Core.Bool.{Bool, true, false}
use mathlib.Core.Option.{Option, none, some}
use mathlib.Core.List.{List, ◌∷◌, []}
use Prim.Native.Nat.{ℕ, zero, suc, ◌+◌, ◌-◌, ◌*◌, ◌/◌, ◌%◌, ◌≤◌, ◌<◌}
use native.Mathlib.Omega.{arith}
use lib.ListN.{length, get_or}
use lib.Dec.{T, ltb, leb, eqb, ltb→lt, leb→le, eqb→eq}
use Rattle.rules.specs.Base.{all, lookup}
use Rattle.std.specs.Prelude.{if◌then◌else◌}
use Rattle.rules.specs.Limits.{max_names, max_bits}
use Rattle.rules.specs.declared.Span.{Span}
use Rattle.rules.specs.declared.Refusal.{Refusal}
use Rattle.rules.specs.declared.Refusal.TheVariants.{TreeForm, TooManyOpen}
use Rattle.rules.specs.Reader as r
use Rattle.rules.specs.Reader.{Read, Reader, got, bad}
use Rattle.rules.specs.TreeFile as t
use Rattle.rules.specs.Tree.{Expr, ExprAssign, ExprCall, ExprGet, ExprInfix, Literal, ExprPrefix, ExprSet, ExprSuper, ExprVar, ◌∷ᵉ◌, []ᵉ, []ˢ, []ᵐ}
use Rattle.rules.specs.Tree.{ExprLiteral, LitNumber, LitString}
use Rattle.rules.specs.Tree.{Stmt, Stmts, StmtBlock, StmtClass, StmtExpr, StmtFor, StmtFun, StmtIf, StmtPrint, StmtReturn, StmtVar, StmtWhile, ◌∷ˢ◌}
use Rattle.rules.specs.Tree.{Fun, fun, method}
use Rattle.rules_laws.proofs.Facts.{All, Bytes, get_or_small}
use Rattle.rules_laws.proofs.ReadBack.{Narrow}
use Rattle.rules_laws.proofs.Refusals.{Readers}
use Rattle.rules_laws.proofs.Trees.{Leaf, IfSome, OfLiteral, OfExpr, OfExprs, OfSuperclass, OfStmt, OfStmts, OfFun, OfMethods}
use Rattle.rules_laws.proofs.Trees.{literal_size, option_size, expr_size, exprs_size, stmt_size, stmts_size, fun_size, methods_size}

-- what fits the image's fields; a level is how many functions more may be opened, which is `most` at the start
abbrev pub fitting : (most : ℕ) → Leaf
fitting most = record { span = Narrow; name = λ n. n < 65_536; bits = λ n. n ≤ max_bits; level = ℕ; opens = λ g h. (g ≡ suc h) × (g ≤ most) }

-- ## What a reader gives, and where it then stands

abbrev Given : {A : Type 0} → (A → ℕ → Type 0) → Read A → Type 0
Given Q (got a next) = Q a next
Given Q (bad r) = Readers r

-- at this place, the reader refuses or gives a value and a next place of which `Q` holds
record At {A : Type 0} (m : Reader A) (at : ℕ) (Q : A → ℕ → Type 0) : Type 0 where
  run : Given Q (m at)

on : {A B : Type 0} {Q : A → ℕ → Type 0} {S : B → ℕ → Type 0} (o : Read A) (f : A → Reader B) → Given Q o →
    ((a : A) (next : ℕ) → Q a next → At (f a) next S) → Given S (r.go_on o f)
unfolding r.go_on
on (got a next) f q h = (h a next q).run
on (bad r) f q h = q

first : {A B : Type 0} {m : Reader A} {at : ℕ} {f : A → Reader B} {Q : A → ℕ → Type 0} {S : B → ℕ → Type 0} → At m at Q →
    ((a : A) (next : ℕ) → Q a next → At (f a) next S) → At (r.◌>>=◌ m f) at S
unfolding r.◌>>=◌
first {m = m} {at = at} {f = f} hm hf = record { run = on (m at) f hm.run hf }

next : {A B : Type 0} {m : Reader A} {at : ℕ} {n : Reader B} {Q : A → ℕ → Type 0} {S : B → ℕ → Type 0} → At m at Q →
    ((a : A) (next : ℕ) → Q a next → At n next S) → At (r.◌>>◌ m n) at S
unfolding r.◌>>◌
next {m = m} {at = at} {n = n} hm hn = record { run = on (m at) (λ _. n) hm.run hn }

return : {A : Type 0} {at : ℕ} {Q : A → ℕ → Type 0} (a : A) → Q a at → At (r.return a) at Q
unfolding r.return
return a q = record { run = q }

refuse : {A : Type 0} {at : ℕ} {Q : A → ℕ → Type 0} (fault : Refusal) → Readers fault → At (r.refuse fault) at Q
unfolding r.refuse
refuse fault o = record { run = o }

so : {A : Type 0} {m : Reader A} {at : ℕ} {Q S : A → ℕ → Type 0} → At m at Q → ((a : A) (next : ℕ) → Q a next → S a next) → At m at S
so {A} {m = m} {at = at} {Q = Q} {S = S} hm h = record { run = by_outcome (m at) hm.run }
  where
    by_outcome : (o : Read A) → Given Q o → Given S o
    by_outcome (got a next) q = h a next q
    by_outcome (bad fault) q = q

need : {at : ℕ} (b : Bool) (fault : Refusal) → Readers fault → At (r.need b fault) at (λ _ next. T b × (next ≡ at))
unfolding r.need
need true fault o = record { run = (tt, refl) }
need false fault o = record { run = o }

here : {at : ℕ} → At r.here at (λ a next. (a ≡ at) × (next ≡ at))
unfolding r.here
here = record { run = (refl, refl) }

one_of : {A : Type 0} {at : ℕ} (fault : ℕ) (table : List (ℕ × A)) (n : ℕ) → At (r.one_of (TreeForm fault) table n) at (λ _ next. next ≡ at)
unfolding r.one_of r.known
one_of {A} {at = at} fault table n = by_row (lookup n table)
  where
    by_row : (o : Option A) → At (r.known (TreeForm fault) o) at (λ _ next. next ≡ at)
    by_row none = refuse (TreeForm fault) tt
    by_row (some a) = return a refl

-- ## Fields

-- `fault` is the place where the record of a field starts: a field that is missing or wrong is 3 there
module _ (most : ℕ) where
  -- a value of which `P` holds, from `size` bytes
  abbrev Taken : {A : Type 0} → (A → Type 0) → (size at : ℕ) → A → ℕ → Type 0
  Taken P size at a next = P a × (next ≡ at + size)

  -- a reader of children, at every place
  abbrev Reads : {A : Type 0} → Reader A → (A → Type 0) → (A → ℕ) → Type 0
  Reads {A} m P size = (at : ℕ) → At m at (λ (a : A) next. P a × (next ≡ at + size a))

  read_exprs : (count : ℕ) (expr : Reader Expr) → Reads expr (OfExpr (fitting most)) expr_size →
      Reads (t.read_exprs count expr) (OfExprs (fitting most)) exprs_size
  unfolding t.read_exprs
  read_exprs zero expr h at = return []ᵉ (tt, omega arith)
  read_exprs (suc count) expr h at =
      first (h at) (λ e i q. first (read_exprs count expr h i) (λ es j k. return (e ∷ᵉ es) ((q.0, k.0), omega arith)))

  maybe : {A : Type 0} (b : Bool) {one : Reader A} (P : A → Type 0) (size : A → ℕ) → Reads one P size →
      Reads (t.maybe b one) (IfSome P) (option_size size)
  unfolding t.maybe
  maybe false P size h at = return none (tt, omega arith)
  maybe true P size h at = first (h at) (λ a i q. return (some a) q)

  maybe_stmt : (b : Bool) {one : Reader Stmt} (g : ℕ) → Reads one (λ s. OfStmt (fitting most) s g) stmt_size →
      Reads (t.maybe_stmt b one) (λ s. OfStmts (fitting most) s g) stmts_size
  unfolding t.maybe_stmt
  maybe_stmt false g h at = return []ˢ (tt, omega arith)
  maybe_stmt true g h at = first (h at) (λ s i q. return (s ∷ˢ []ˢ) ((q.0, tt), omega arith))

  read_stmts : (count : ℕ) {one : Reader Stmt} (g : ℕ) → Reads one (λ s. OfStmt (fitting most) s g) stmt_size →
      Reads (t.read_stmts count one) (λ s. OfStmts (fitting most) s g) stmts_size
  unfolding t.read_stmts
  read_stmts zero g h at = return []ˢ (tt, omega arith)
  read_stmts (suc count) g h at =
      first (h at) (λ s i q. first (read_stmts count g h i) (λ ss j k. return (s ∷ˢ ss) ((q.0, k.0), omega arith)))

  -- a method's record
  abbrev OfMethod : ℕ → Span × Fun → Type 0
  OfMethod g m = Narrow m.0 × (h : ℕ) × ((g ≡ suc h) × (g ≤ most)) × OfFun (fitting most) m.1 h

  abbrev method_size : Span × Fun → ℕ
  method_size m = 10 + fun_size m.1

  read_methods : (count : ℕ) {one : Reader (Span × Fun)} (g : ℕ) → Reads one (OfMethod g) method_size →
      Reads (t.read_methods count one) (λ ms. OfMethods (fitting most) ms g) methods_size
  unfolding t.read_methods
  read_methods zero g h at = return []ᵐ (tt, omega arith)
  read_methods (suc count) g h at =
      first (h at) (λ m i q. first (read_methods count g h i)
      (λ ms j k. return (method m.0 m.1 ms) ((q.0.0, q.0.1, q.0.2, q.0.3, k.0), omega arith)))

  module _ (tree : List ℕ) (bytes : Bytes tree) where
    u8 : (fault : ℕ) (at : ℕ) → At (r.u8 tree (TreeForm fault)) at (Taken (λ (n : ℕ). n < 256) 1 at)
    unfolding r.u8
    u8 fault at = record { run = by_test (ltb at (length tree)) }
      where
        by_test : (b : Bool) → Given (Taken (λ (n : ℕ). n < 256) 1 at) (if b then got (get_or tree at 0) (at + 1) else bad (TreeForm fault))
        by_test true = (get_or_small tree at bytes, refl)
        by_test false = tt

    -- twice as wide
    wider : {m : Reader ℕ} (base size : ℕ) → ((at : ℕ) → At m at (Taken (λ (n : ℕ). n < base) size at)) → (bound : ℕ) →
        ((a b : ℕ) → a < base → b < base → a + base * b < bound) → (at : ℕ) →
        At (r.◌>>=◌ m (λ a. r.◌>>=◌ m (λ b. r.return (a + base * b)))) at (Taken (λ (n : ℕ). n < bound) (size + size) at)
    wider base size h bound w at = first (h at) (λ a i p. first (h i) (λ b j q. return (a + base * b) (w a b p.0 q.0, omega arith)))

    u16 : (fault : ℕ) (at : ℕ) → At (r.u16 tree (TreeForm fault)) at (Taken (λ (n : ℕ). n < 65_536) 2 at)
    unfolding r.u16
    u16 fault = wider 256 1 (u8 fault) 65_536 (λ a b p q. omega arith)

    u32 : (fault : ℕ) (at : ℕ) → At (r.u32 tree (TreeForm fault)) at (Taken (λ (n : ℕ). n < 4_294_967_296) 4 at)
    unfolding r.u32
    u32 fault = wider 65_536 2 (u16 fault) 4_294_967_296 (λ a b p q. omega arith)

    u64 : (fault : ℕ) (at : ℕ) → At (r.u64 tree (TreeForm fault)) at (Taken (λ (n : ℕ). n < 18_446_744_073_709_551_616) 8 at)
    unfolding r.u64
    u64 fault = wider 4_294_967_296 4 (u32 fault) 18_446_744_073_709_551_616 (λ a b p q. omega arith)

    span : (fault : ℕ) (at : ℕ) → At (r.span tree (TreeForm fault)) at (Taken Narrow 8 at)
    unfolding r.span
    span fault at =
        first (u32 fault at) (λ a i p. first (u32 fault i) (λ b j q. return _ (record { start = p.0; end = q.0 }, omega arith)))

    mark : (fault : ℕ) (at : ℕ) → At (r.mark tree (TreeForm fault)) at (λ _ next. next ≡ at + 2)
    unfolding r.mark
    mark fault at = first (u8 fault at) (λ a i p. first (u8 fault i) (λ b j q. return _ (omega arith)))

    mark_is : (fault : ℕ) (letters at : ℕ) → At (r.mark_is tree (TreeForm fault) letters) at (λ _ next. next ≡ at + 2)
    unfolding r.mark_is
    mark_is fault letters at = first (mark fault at) (λ m i p. so (need (eqb m letters) (TreeForm fault) tt) (λ _ next q. omega arith))

    -- a byte or a mark that a table has
    kind : {A : Type 0} (table : List (ℕ × A)) (fault : ℕ) (at : ℕ) →
        At (r.◌>>=◌ (r.u8 tree (TreeForm fault)) (r.one_of (TreeForm fault) table)) at (λ _ next. next ≡ at + 1)
    kind table fault at = first (u8 fault at) (λ n i p. so (one_of fault table n) (λ _ j q. omega arith))

    marked : {A : Type 0} (table : List (ℕ × A)) (fault : ℕ) (at : ℕ) →
        At (r.◌>>=◌ (r.mark tree (TreeForm fault)) (r.one_of (TreeForm fault) table)) at (λ _ next. next ≡ at + 2)
    marked table fault at = first (mark fault at) (λ n i p. so (one_of fault table n) (λ _ j q. omega arith))

    flag : (fault : ℕ) (at : ℕ) → At (t.flag tree (TreeForm fault)) at (λ _ next. next ≡ at + 1)
    unfolding t.flag
    flag fault at = kind t.flags fault at

    module _ (names : ℕ) where
      name : (fault : ℕ) (at : ℕ) → At (t.name tree names (TreeForm fault)) at (Taken (λ (n : ℕ). n < 65_536) 2 at)
      unfolding t.name
      name fault at = first (u16 fault at) (λ n i p. next (need (ltb n (4 + names)) (TreeForm fault) tt) (λ _ j q. return n (p.0, omega arith)))

      many_names : (count : ℕ) (fault : ℕ) (at : ℕ) →
          At (r.many count (t.name tree names (TreeForm fault))) at
          (λ (ns : List ℕ) next. All (λ (n : ℕ). n < 65_536) ns × (next ≡ at + 2 * length ns))
      unfolding r.many
      many_names zero fault at = return [] (tt, omega arith)
      many_names (suc count) fault at =
          first (name fault at) (λ n i p. first (many_names count fault i) (λ ns j q. return (n ∷ ns) ((p.0, q.0), omega arith)))

      -- ## Expressions; `start` is where the record starts, ten bytes before its fields

      abbrev ExprAt : (start : ℕ) → Expr → ℕ → Type 0
      ExprAt start e next = OfExpr (fitting most) e × (next ≡ start + expr_size e)

      literal_of : (fault : ℕ) (k : t.LiteralKind) (at : ℕ) →
          At (t.literal_of tree names (TreeForm fault) k) at (λ (v : ExprLiteral) next. OfLiteral (fitting most) v × (next ≡ at + literal_size v))
      unfolding t.literal_of
      literal_of fault t.a_false at = return _ (tt, omega arith)
      literal_of fault t.a_true at = return _ (tt, omega arith)
      literal_of fault t.a_nil at = return _ (tt, omega arith)
      literal_of fault t.a_number at =
          first (u64 fault at)
          (λ bits i p. next (need (leb bits max_bits) (TreeForm fault) tt)
          (λ _ j q. return (LitNumber bits) (leb→le bits max_bits q.0, omega arith)))
      literal_of fault t.a_string at = first (name fault at) (λ n i p. return (LitString n) (p.0, p.1))

      expr_fields : (expr : Reader Expr) → Reads expr (OfExpr (fitting most)) expr_size → (fault : ℕ) (k : t.ExprMark) (s : Span) → Narrow s →
          (start at : ℕ) → at ≡ start + 10 →
          At (t.expr_fields tree names expr (TreeForm fault) k s) at (ExprAt start)
      unfolding t.expr_fields t.assign_fields t.call_fields t.get_fields t.infix_fields t.literal_fields t.prefix_fields t.set_fields t.super_fields t.var_fields
      expr_fields expr h fault t.EA s l start at e =
          first (name fault at) (λ n i p. first (h i) (λ v j q. return (ExprAssign s n v) ((l, p.0, q.0), omega arith)))
      expr_fields expr h fault t.EC s l start at e =
          first (u16 fault at)
          (λ n i p. first (h i) (λ f j q. first (read_exprs n expr h j) (λ es k o. return (ExprCall s f es) ((l, q.0, o.0), omega arith))))
      expr_fields expr h fault t.EG s l start at e =
          first (name fault at) (λ n i p. first (h i) (λ v j q. return (ExprGet s n v) ((l, p.0, q.0), omega arith)))
      expr_fields expr h fault t.EI s l start at e =
          first (kind t.infix_ops fault at)
          (λ op i p. first (h i) (λ a j q. first (h j) (λ b k o. return (ExprInfix s op a b) ((l, q.0, o.0), omega arith))))
      expr_fields expr h fault t.EL s l start at e =
          first (kind t.literal_kinds fault at) (λ k i p. first (literal_of fault k i) (λ v j q. return (Literal s v) ((l, q.0), omega arith)))
      expr_fields expr h fault t.EP s l start at e =
          first (kind t.prefix_ops fault at) (λ op i p. first (h i) (λ a j q. return (ExprPrefix s op a) ((l, q.0), omega arith)))
      expr_fields expr h fault t.ES s l start at e =
          first (name fault at)
          (λ n i p. first (h i) (λ v j q. first (h j) (λ o k w. return (ExprSet s n v o) ((l, p.0, q.0, w.0), omega arith))))
      expr_fields expr h fault t.EU s l start at e = first (name fault at) (λ n i p. return (ExprSuper s n) ((l, p.0), omega arith))
      expr_fields expr h fault t.EV s l start at e = first (name fault at) (λ n i p. return (ExprVar s n) ((l, p.0), omega arith))

      read_expr : (depth : ℕ) → Reads (t.read_expr tree names depth) (OfExpr (fitting most)) expr_size
      unfolding t.read_expr t.expr_mark t.expr_record
      read_expr zero at = first here (λ start i p. first (marked t.expr_marks start i) (λ k j q. refuse _ tt))
      read_expr (suc depth) at =
          first here (λ start i p.
          first (marked t.expr_marks start i) (λ k j q.
          first (span start j) (λ s m o.
          expr_fields (t.read_expr tree names depth) (read_expr depth) start k s o.0 at m (omega arith))))

      read_superclass : (depth : ℕ) → Reads (t.read_superclass tree names depth) (OfSuperclass (fitting most)) (λ _. 12)
      unfolding t.read_superclass
      read_superclass zero at = first here (λ start i p. next (mark_is start 0x4556 i) (λ _ j q. refuse _ tt))
      read_superclass (suc depth) at =
          first here (λ start i p.
          next (mark_is start 0x4556 i) (λ _ j q.
          first (span start j) (λ s k o.
          first (name start k) (λ n m w. return _ (record { span = o.0; name = w.0 }, omega arith)))))

      -- ## Statements

      abbrev StmtAt : (start g : ℕ) → Stmt → ℕ → Type 0
      StmtAt start g s next = OfStmt (fitting most) s g × (next ≡ start + stmt_size s)

      -- what reads the children, where `g` functions more may be opened
      record ReadChildren (read : t.Children) (g : ℕ) : Type 0 where
        expr : Reads read.expr (OfExpr (fitting most)) expr_size
        superclass : Reads read.superclass (OfSuperclass (fitting most)) (λ _. 12)
        stmt : Reads read.stmt (λ s. OfStmt (fitting most) s g) stmt_size
        inner : Reads read.inner (λ s. OfStmt (fitting most) s (g - 1)) stmt_size
        one_method : Reads read.one_method (OfMethod g) method_size

      fun_fields : (inner : Reader Stmt) (g : ℕ) → Reads inner (λ s. OfStmt (fitting most) s g) stmt_size → (fault : ℕ) →
          Reads (t.fun_fields tree names inner (TreeForm fault)) (λ f. OfFun (fitting most) f g) fun_size
      unfolding t.fun_fields
      fun_fields inner g h fault at =
          first (name fault at) (λ n i p.
          first (u16 fault i) (λ arity j q.
          first (many_names arity fault j) (λ ns k o.
          first (u16 fault k) (λ count m w.
          first (read_stmts count g h m) (λ body u v. return (fun n ns body) ((p.0, o.0, v.0), omega arith))))))

      stmt_fields : (read : t.Children) (g : ℕ) → ReadChildren read g → g ≤ most → (fault : ℕ) (k : t.StmtMark) → T (t.may_open k g) →
          (s : Span) → Narrow s → (start at : ℕ) → at ≡ start + 10 →
          At (t.stmt_fields tree names read (TreeForm fault) k s) at (StmtAt start g)
      unfolding t.stmt_fields t.block_fields t.class_fields t.expression_fields t.if_fields t.for_fields t.print_fields t.return_fields t.var_stmt_fields t.while_fields t.may_open
      stmt_fields read g h b fault t.SB y s l start at e =
          first (u16 fault at) (λ n i p. first (read_stmts n g h.stmt i) (λ ss j q. return (StmtBlock s ss) ((l, q.0), omega arith)))
      stmt_fields read g h b fault t.SC y s l start at e =
          first (name fault at) (λ n i p.
          first (flag fault i) (λ has j q.
          first (u16 fault j) (λ count k o.
          first (maybe has (OfSuperclass (fitting most)) (λ _. 12) h.superclass k) (λ sup m w.
          first (read_methods count g h.one_method m) (λ ms u v. return (StmtClass s n sup ms) ((l, p.0, w.0, v.0), omega arith))))))
      stmt_fields read g h b fault t.SE y s l start at e = first (h.expr at) (λ v i p. return (StmtExpr s v) ((l, p.0), omega arith))
      stmt_fields read g h b fault t.SF y s l start at e =
          first (fun_fields read.inner (g - 1) h.inner fault at)
          (λ f i p. return (StmtFun s f) ((l, (g - 1), (omega (arith, ltb→lt 0 g y), b), p.0), omega arith))
      stmt_fields read g h b fault t.SI y s l start at e =
          first (flag fault at) (λ has i p.
          first (h.expr i) (λ v j q.
          first (h.stmt j) (λ a k o.
          first (maybe_stmt has g h.stmt k) (λ z m w. return (StmtIf s v a z) ((l, q.0, o.0, w.0), omega arith)))))
      stmt_fields read g h b fault t.SO y s l start at e =
          first (u8 fault at) (λ parts i p.
          next (need (ltb parts 8) (TreeForm fault) tt) (λ _ i' p'.
          first (maybe_stmt (eqb (parts % 2) 1) g h.stmt i') (λ a j q.
          first (maybe (eqb (parts / 2 % 2) 1) (OfExpr (fitting most)) expr_size h.expr j) (λ b k o.
          first (h.stmt k) (λ z m w.
          first (maybe (eqb (parts / 4) 1) (OfExpr (fitting most)) expr_size h.expr m) (λ d u v.
          return (StmtFor s a b z d) ((l, q.0, o.0, w.0, v.0), omega arith)))))))
      stmt_fields read g h b fault t.SP y s l start at e = first (h.expr at) (λ v i p. return (StmtPrint s v) ((l, p.0), omega arith))
      stmt_fields read g h b fault t.SR y s l start at e =
          first (flag fault at)
          (λ has i p. first (maybe has (OfExpr (fitting most)) expr_size h.expr i)
          (λ v j q. return (StmtReturn s v) ((l, q.0), omega arith)))
      stmt_fields read g h b fault t.SV y s l start at e =
          first (name fault at) (λ n i p.
          first (flag fault i) (λ has j q.
          first (maybe has (OfExpr (fitting most)) expr_size h.expr j) (λ v k o. return (StmtVar s n v) ((l, p.0, o.0), omega arith))))
      stmt_fields read g h b fault t.SW y s l start at e =
          first (h.expr at) (λ v i p. first (h.stmt i) (λ b j q. return (StmtWhile s v b) ((l, p.0, q.0), omega arith)))

      mutual
        unfolding t.read_stmt t.stmt_mark t.stmt_record t.method_record

        read_stmt : (depth g : ℕ) → g ≤ most → Reads (t.read_stmt tree names depth g) (λ s. OfStmt (fitting most) s g) stmt_size
        read_stmt zero g b at = first here (λ start i p. first (marked t.stmt_marks start i) (λ k j q. refuse _ tt))
        read_stmt (suc depth) g b at =
            first here (λ start i p.
            first (marked t.stmt_marks start i) (λ k j q.
            next (need (t.may_open k g) (TooManyOpen start) tt) (λ _ j' q'.
            first (span start j') (λ s m o.
            stmt_fields _ g
            (record {
              expr = read_expr depth;
              superclass = read_superclass depth;
              stmt = λ at. read_stmt depth g b at;
              inner = λ at. read_stmt depth (g - 1) (omega arith) at;
              one_method = λ at. read_method depth g b at;
            })
            b start k q'.0 s o.0 at m (omega arith)))))

        read_method : (depth g : ℕ) → g ≤ most → Reads (t.read_method tree names depth g) (OfMethod g) method_size
        read_method zero g b at = first here (λ start i p. next (mark_is start 0x5346 i) (λ _ j q. refuse _ tt))
        read_method (suc depth) g b at =
            first here (λ start i p.
            next (mark_is start 0x5346 i) (λ _ j q.
            next (need (ltb 0 g) (TooManyOpen start) tt) (λ _ j' q'.
            first (span start j') (λ s m o.
            first (fun_fields _ (g - 1) (λ at. read_stmt depth (g - 1) (omega arith) at) start m) (λ f u v.
            return (s, f) ((o.0, (g - 1), (omega (arith, ltb→lt 0 g q'.0), b), v.0), omega arith))))))

    -- ## Names and the whole file

    many_bytes : (count : ℕ) (fault : ℕ) (at : ℕ) → At (r.many count (r.u8 tree (TreeForm fault))) at (λ (bs : List ℕ) next. next ≡ at + length bs)
    unfolding r.many
    many_bytes zero fault at = return [] (omega arith)
    many_bytes (suc count) fault at = first (u8 fault at) (λ b i p. first (many_bytes count fault i) (λ bs j q. return (b ∷ bs) (omega arith)))

    read_name : (last : Option (List ℕ)) (at : ℕ) → At (t.read_name tree last) at (λ _ next. at ≤ next)
    unfolding t.read_name
    read_name last at =
        first here (λ start i p.
        next (mark_is start 0x4E4D i) (λ _ j q.
        first (u16 start j) (λ size k o.
        first (many_bytes size start k) (λ text m w.
        next (need (t.rises tree last text) (TreeForm start) tt) (λ _ u v.
        next (need (all (t.differs tree text) t.fixed_names) (TreeForm start) tt) (λ _ y z. return text (omega arith)))))))

    read_names : (count : ℕ) (last : Option (List ℕ)) (at : ℕ) → At (t.read_names tree count last) at (λ _ next. at ≤ next)
    unfolding t.read_names
    read_names zero last at = return tt (omega arith)
    read_names (suc count) last at = first (read_name last at) (λ text i p. so (read_names count (some text) i) (λ _ j q. omega arith))

    read_file : (depth funs : ℕ) → funs ≤ most → (at : ℕ) →
        At (t.read_file tree depth funs) at (λ (ts : Stmts) next. OfStmts (fitting most) ts funs × (at + 6 + stmts_size ts ≤ length tree))
    unfolding t.read_file
    read_file depth funs b at =
        next (mark_is 0 0x5452 at) (λ _ i p.
        first (u16 0 i) (λ names j q.
        first (u16 0 j) (λ count k o.
        next (need (leb names max_names) (TreeForm 0) tt) (λ _ m w.
        next (read_names names none m) (λ _ u v.
        first (read_stmts count funs (λ at. read_stmt names depth funs b at) u) (λ ts y z.
        first here (λ end e f.
        next (need (eqb end (length tree)) (TreeForm end) tt) (λ _ x x'. return ts (z.0, omega (arith, eqb→eq end (length tree) x'.0))))))))))

-- a list whose every place holds a byte, as a lent slice's does
pub bytes_of : (bs : List ℕ) → ((i : ℕ) → get_or bs i 0 < 256) → Bytes bs
bytes_of [] h = tt
bytes_of (b ∷ bs) h = (h 0, bytes_of bs (λ i. h (suc i)))

-- every tree that is read from bytes fits, and its records are no longer than the file less its header
pub record Fitting (tree : List ℕ) (funs : ℕ) (ts : Stmts) : Type 0 where
  pub parts : OfStmts (fitting funs) ts funs
  pub size : 6 + stmts_size ts ≤ length tree

pub tree_fits : (tree : List ℕ) → Bytes tree → (depth funs : ℕ) (ts : Stmts) (next : ℕ) → t.read_tree tree depth funs ≡ got ts next →
    Fitting tree funs ts
unfolding t.read_tree
tree_fits tree bytes depth funs ts next e =
    by_outcome (t.read_file tree depth funs 0) e (read_file funs tree bytes depth funs (omega arith) 0).run
  where
    by_outcome : (o : Read Stmts) → o ≡ got ts next →
        Given (λ (ts : Stmts) next. OfStmts (fitting funs) ts funs × (0 + 6 + stmts_size ts ≤ length tree)) o → Fitting tree funs ts
    by_outcome (got us i) e h =
        let z : us ≡ ts = cc in
        subst (λ (ts : Stmts). Fitting tree funs ts) z (record { parts = h.0; size = h.1 })
    by_outcome (bad fault) e h = let z : ◌≡◌ {A = ℕ} 0 1 = cc in absurd (omega arith)

-- and what it refuses by is 3, 4 or 5
pub tree_refuses : (tree : List ℕ) → Bytes tree → (depth funs : ℕ) (fault : Refusal) → t.read_tree tree depth funs ≡ bad fault → Readers fault
unfolding t.read_tree
tree_refuses tree bytes depth funs fault e =
    by_outcome (t.read_file tree depth funs 0) e (read_file funs tree bytes depth funs (omega arith) 0).run
  where
    by_outcome : (o : Read Stmts) → o ≡ bad fault →
        Given (λ (ts : Stmts) next. OfStmts (fitting funs) ts funs × (0 + 6 + stmts_size ts ≤ length tree)) o → Readers fault
    by_outcome (got us i) e h = let z : ◌≡◌ {A = ℕ} 0 1 = cc in absurd (omega arith)
    by_outcome (bad other) e h = let z : other ≡ fault = cc in subst Readers z h
