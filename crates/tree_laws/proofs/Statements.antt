-- What stands where a statement was read, a law for each kind: how far the file goes at least, the fields by their places, the children with one
-- level less left, and the statement that they make.
use mathlib.Core.Path.{◌≡◌, refl, sym, ap, subst, ◌∙◌}
use mathlib.Core.Bool.{Bool, true, false}
use mathlib.Core.Option.{Option, none, some}
use mathlib.Core.List.{List, ◌∷◌, []}
use mathlib.Core.Logic.{◌⊎◌, inl, inr, ⊎_elim}
use Prim.Native.Nat.{ℕ, zero, suc, ◌+◌, ◌-◌, ◌/◌, ◌%◌, ◌≤◌, ◌<◌}
use native.Mathlib.Omega.{arith}
use lib.ListN.{length}
use lib.Dec.{ltb, eqb}
use borrow.Author.Tests.{ltb-true}
use Rattle.rules.specs.Base.{lookup}
use Rattle.rules.specs.declared.Span.{Span}
use Rattle.rules.specs.declared.Refusal.{Refusal}
use Rattle.rules.specs.declared.Refusal.TheVariants.{TreeForm, TreeTooDeep, TooManyOpen}
use Rattle.rules.specs.Tree.{Expr, Superclass, Stmt, Stmts, StmtBlock, StmtClass, StmtExpr, StmtFor, StmtFun, StmtIf, StmtPrint, StmtReturn, StmtVar, StmtWhile, ◌∷ˢ◌, Fun, fun, Methods, method, []ˢ, []ᵐ}
use Rattle.rules.specs.Reader.{got, Reader, go_on, ◌>>=◌, ◌>>◌, return, refuse, here, need, u8, u16, mark_is, span, many}
use Rattle.rules.specs.TreeFile.{StmtMark, SB, SC, SE, SF, SI, SO, SP, SR, SV, SW, stmt_marks, flags, flag, name, maybe, maybe_stmt, read_stmts, read_methods, Children, may_open, block_fields, class_fields, expression_fields, fun_fields, if_fields, for_fields, print_fields, return_fields, var_stmt_fields, while_fields, stmt_fields, stmt_mark, stmt_record, method_record, read_expr, read_superclass, read_stmt, read_method}
use Rattle.fields.specs.Words.{word8, word16, letters, span_of}
use Rattle.fields.proofs.Reading.{Found, found, bad_got, a_u8, a_u16, a_span, marked}
use Rattle.tree_laws.proofs.Taken.{eleven, twelve, ten, pred_suc, some_room, moved, got_thing, got_next, First, first, on, shift, row, no_row, Chosen, chosen, chosen_field, Kind, kind_at, kind_field, name_at}
use Rattle.fields.specs.Marks as marks

fourteen : (at : ℕ) → at + 12 + 2 ≡ at + 14
fourteen at = omega arith

thirteen : (at : ℕ) → at + 12 + 1 ≡ at + 13
thirteen at = omega arith

fifteen : (at : ℕ) → at + 13 + 2 ≡ at + 15
fifteen at = omega arith

-- a test, and then what it lets through
record Tested {A : Type 0} (b : Bool) (f : Reader A) (at : ℕ) (a : A) (n : ℕ) : Type 0 where
  test : b ≡ true
  rest : f at ≡ got a n

tested : {A : Type 0} (b : Bool) (x : Refusal) (f : Reader A) (at : ℕ) {a : A} {n : ℕ} → (need b x >> f) at ≡ got a n → Tested b f at a n
unfolding need ◌>>◌ go_on
tested true x f at e = record { test = refl; rest = e }
tested false x f at e = absurd (bad_got e)

-- ## What a flag announces

pub record SomeAt {A : Type 0} (one : Reader A) (at : ℕ) (o : Option A) (n : ℕ) : Type 0 where
  pub thing : A
  pub one_is : one at ≡ got thing n
  pub is : o ≡ some thing

pub maybe_yes : {A : Type 0} (one : Reader A) (at : ℕ) {o : Option A} {n : ℕ} → maybe true one at ≡ got o n → SomeAt one at o n
unfolding maybe ◌>>=◌ return
maybe_yes one at r = let x = first (one at) _ r in record { thing = x.thing; one_is = moved x.is (got_next x.rest); is = sym (got_thing x.rest) }

pub maybe_no : {A : Type 0} (one : Reader A) (at : ℕ) {o : Option A} {n : ℕ} → maybe false one at ≡ got o n → (o ≡ none) × (n ≡ at)
unfolding maybe return
maybe_no one at r = (sym (got_thing r), sym (got_next r))

pub record OneStmtAt (stmt : Reader Stmt) (at : ℕ) (ss : Stmts) (n : ℕ) : Type 0 where
  pub thing : Stmt
  pub one : stmt at ≡ got thing n
  pub is : ss ≡ thing ∷ˢ []ˢ

pub same_some : {A : Type 0} {a b : A} → some a ≡ some b → a ≡ b
same_some e = cc

-- a flag's byte
pub flag_on : {b : Bool} (n : ℕ) → lookup n flags ≡ some b → n ≡ 1 → b ≡ true
unfolding lookup flags
flag_on n h e = sym (same_some (ap (λ (k : ℕ). lookup k flags) (sym e) ∙ h))

pub flag_off : {b : Bool} (n : ℕ) → lookup n flags ≡ some b → n ≡ 0 → b ≡ false
unfolding lookup flags
flag_off n h e = sym (same_some (ap (λ (k : ℕ). lookup k flags) (sym e) ∙ h))

pub flag_is : {b : Bool} (n : ℕ) → lookup n flags ≡ some b → (n ≡ 0) ⊎ (n ≡ 1)
unfolding flags
flag_is n h = ⊎_elim inl (λ h. ⊎_elim inr (λ h. absurd (no_row n h)) (row n 1 true [] h)) (row n 0 false ((1, true) ∷ []) h)

-- ## Rows

pub record StmtRowAt (stmt : Reader Stmt) (count at : ℕ) (ss : Stmts) (n : ℕ) : Type 0 where
  pub one : Stmt
  pub mid : ℕ
  pub others : Stmts
  pub head : stmt at ≡ got one mid
  pub tail : read_stmts count stmt mid ≡ got others n
  pub is : ss ≡ one ∷ˢ others

pub no_stmts : (stmt : Reader Stmt) (at : ℕ) {ss : Stmts} {n : ℕ} → read_stmts 0 stmt at ≡ got ss n → (ss ≡ []ˢ) × (n ≡ at)
unfolding read_stmts return
no_stmts stmt at e = (sym (got_thing e), sym (got_next e))

pub more_stmts : (stmt : Reader Stmt) (count at : ℕ) {ss : Stmts} {n : ℕ} → read_stmts (suc count) stmt at ≡ got ss n → StmtRowAt stmt count at ss n
unfolding read_stmts ◌>>=◌ return
more_stmts stmt count at r =
    let x = first (stmt at) _ r in
    let y = first (read_stmts count stmt x.next) _ x.rest in
    record {
      one = x.thing;
      mid = x.next;
      others = y.thing;
      head = x.is;
      tail = moved y.is (got_next y.rest);
      is = sym (got_thing y.rest);
    }

pub record MethodRowAt (one : Reader (Span × Fun)) (count at : ℕ) (ms : Methods) (n : ℕ) : Type 0 where
  pub thing : Span × Fun
  pub mid : ℕ
  pub others : Methods
  pub head : one at ≡ got thing mid
  pub tail : read_methods count one mid ≡ got others n
  pub is : ms ≡ method thing.0 thing.1 others

pub no_methods : (one : Reader (Span × Fun)) (at : ℕ) {ms : Methods} {n : ℕ} → read_methods 0 one at ≡ got ms n → (ms ≡ []ᵐ) × (n ≡ at)
unfolding read_methods return
no_methods one at e = (sym (got_thing e), sym (got_next e))

pub more_methods : (one : Reader (Span × Fun)) (count at : ℕ) {ms : Methods} {n : ℕ} → read_methods (suc count) one at ≡ got ms n → MethodRowAt one count at ms n
unfolding read_methods ◌>>=◌ return
more_methods one count at r =
    let x = first (one at) _ r in
    let y = first (read_methods count one x.next) _ x.rest in
    record {
      thing = x.thing;
      mid = x.next;
      others = y.thing;
      head = x.is;
      tail = moved y.is (got_next y.rest);
      is = sym (got_thing y.rest);
    }

module _ (tree : List ℕ) (names : ℕ) where
  -- a row of names, as a function's parameters are
  pub record NameRowAt (x : Refusal) (count at : ℕ) (ns : List ℕ) (n : ℕ) : Type 0 where
    pub bound : at + 2 ≤ length tree
    pub others : List ℕ
    pub tail : many count (name tree names x) (at + 2) ≡ got others n
    pub is : ns ≡ word16 tree at ∷ others

  pub no_names : (x : Refusal) (at : ℕ) {ns : List ℕ} {n : ℕ} → many 0 (name tree names x) at ≡ got ns n → (ns ≡ []) × (n ≡ at)
  unfolding many return
  no_names x at e = (sym (got_thing e), sym (got_next e))

  pub more_names : (x : Refusal) (count at : ℕ) {ns : List ℕ} {n : ℕ} → many (suc count) (name tree names x) at ≡ got ns n → NameRowAt x count at ns n
  unfolding many ◌>>=◌ return
  more_names x count at r =
      let o = first (name tree names x at) _ r in
      let f = (name_at tree names x at o.is).field in
      let y = first (many count (name tree names x) (at + 2)) _ (on _ o f) in
      record { bound = f.bound; others = y.thing; tail = moved y.is (got_next y.rest); is = sym (got_thing y.rest) }

  pub names_length : (x : Refusal) (count at : ℕ) {ns : List ℕ} {n : ℕ} → many count (name tree names x) at ≡ got ns n → length ns ≡ count
  names_length x zero at r = ap length (no_names x at r).0
  names_length x (suc count) at r = let i = more_names x count at r in ap length i.is ∙ ap suc (names_length x count (at + 2) i.tail)

  -- ## Every statement

  -- what reads a statement's children, where d levels are left under it
  abbrev pub kids : (d funs : ℕ) → Children
  kids d funs =
      record {
        expr = read_expr tree names d;
        superclass = read_superclass tree names d;
        stmt = read_stmt tree names d funs;
        inner = read_stmt tree names d (funs - 1);
        one_method = read_method tree names d funs;
      }

  never_stmt : (funs at : ℕ) {s : Stmt} {n : ℕ} → read_stmt tree names zero funs at ≡ got s n → ⊥
  unfolding read_stmt ◌>>=◌ here go_on refuse
  never_stmt funs at r = bad_got (first (stmt_mark tree names (TreeForm at) at) (λ _. refuse (TreeTooDeep at)) r).rest

  opened : (d funs at : ℕ) {s : Stmt} {n : ℕ} → read_stmt tree names (suc d) funs at ≡ got s n → stmt_record tree names (kids d funs) funs at at ≡ got s n
  unfolding read_stmt ◌>>=◌ here go_on
  opened d funs at r = r

  after_mark : (read : Children) (funs at : ℕ) {s : Stmt} {n : ℕ} → stmt_record tree names read funs at at ≡ got s n
      → First (stmt_mark tree names (TreeForm at) at) (λ kind. need (may_open kind funs) (TooManyOpen at) >> (span tree (TreeForm at) >>= stmt_fields tree names read (TreeForm at) kind)) s n
  unfolding stmt_record ◌>>=◌
  after_mark read funs at r = first (stmt_mark tree names (TreeForm at) at) _ r

  kind_of : (x : Refusal) (at : ℕ) {k : StmtMark} {n : ℕ} → stmt_mark tree names x at ≡ got k n → Kind tree stmt_marks at k n
  unfolding stmt_mark
  kind_of x at r = kind_at tree x stmt_marks at r

  pub record AnyStmtAt (d funs at : ℕ) : Type 0 where
    pub room : 0 < d
    pub bound : at + 10 ≤ length tree
    pub kind : StmtMark
    pub look : lookup (letters tree at) stmt_marks ≡ some kind
    pub opens : may_open kind funs ≡ true

  pub any_stmt_at : (d funs at : ℕ) {s : Stmt} {n : ℕ} → read_stmt tree names d funs at ≡ got s n → AnyStmtAt d funs at
  unfolding ◌>>=◌
  any_stmt_at zero funs at r = absurd (never_stmt funs at r)
  any_stmt_at (suc d) funs at r =
      let x = after_mark (kids d funs) funs at (opened d funs at r) in
      let w = kind_of (TreeForm at) at x.is in
      let t = tested (may_open x.thing funs) (TooManyOpen at) (span tree (TreeForm at) >>= stmt_fields tree names (kids d funs) (TreeForm at) x.thing) x.next x.rest in
      let y = first (span tree (TreeForm at) x.next) _ t.rest in
      let z : span tree (TreeForm at) (at + 2) ≡ got y.thing y.next = ap (span tree (TreeForm at)) (sym w.on) ∙ y.is in
      let f = shift (ten at) (found tree (a_span tree) z) in
      record { room = some_room d; bound = f.bound; kind = x.thing; look = w.look; opens = t.test }

  -- what follows the span, by the mark
  fields_at : (d funs at m : ℕ) (k : StmtMark) {s : Stmt} {n : ℕ} → lookup m stmt_marks ≡ some k → letters tree at ≡ m → read_stmt tree names d funs at ≡ got s n
      → stmt_fields tree names (kids (d - 1) funs) (TreeForm at) k (span_of tree (at + 2)) (at + 10) ≡ got s n
  unfolding ◌>>=◌
  fields_at zero funs at m k look q r = absurd (never_stmt funs at r)
  fields_at (suc d) funs at m k look q r =
      let x = after_mark (kids d funs) funs at (opened d funs at r) in
      let f = kind_field tree m at k look q (kind_of (TreeForm at) at x.is) in
      let t = tested (may_open k funs) (TooManyOpen at) (span tree (TreeForm at) >>= stmt_fields tree names (kids d funs) (TreeForm at) k) (at + 2) (on _ x f) in
      let y = first (span tree (TreeForm at) (at + 2)) (stmt_fields tree names (kids d funs) (TreeForm at) k) t.rest in
      let g = shift (ten at) (found tree (a_span tree) y.is) in
      ap (λ (j : ℕ). stmt_fields tree names (kids j funs) (TreeForm at) k (span_of tree (at + 2)) (at + 10)) (pred_suc d) ∙
      on (stmt_fields tree names (kids d funs) (TreeForm at) k) y g

  -- what each mark gives
  pub by_mark : {P : Type 0} (d funs at : ℕ) {s : Stmt} {n : ℕ} → read_stmt tree names d funs at ≡ got s n
      → (letters tree at ≡ marks.SB → P) → (letters tree at ≡ marks.SC → P) → (letters tree at ≡ marks.SE → P) → (letters tree at ≡ marks.SF → P) → (letters tree at ≡ marks.SI → P)
      → (letters tree at ≡ marks.SO → P) → (letters tree at ≡ marks.SP → P) → (letters tree at ≡ marks.SR → P) → (letters tree at ≡ marks.SV → P) → (letters tree at ≡ marks.SW → P)
      → P
  unfolding stmt_marks
  by_mark d funs at r b c e f i o p t v w =
      ⊎_elim b (λ h.
      ⊎_elim c (λ h.
      ⊎_elim e (λ h.
      ⊎_elim f (λ h.
      ⊎_elim i (λ h.
      ⊎_elim o (λ h.
      ⊎_elim p (λ h.
      ⊎_elim t (λ h.
      ⊎_elim v (λ h.
      ⊎_elim w (λ h. absurd (no_row _ h))
      (row _ _ _ _ h)) (row _ _ _ _ h)) (row _ _ _ _ h)) (row _ _ _ _ h)) (row _ _ _ _ h)) (row _ _ _ _ h)) (row _ _ _ _ h)) (row _ _ _ _ h)) (row _ _ _ _ h))
      (row _ _ _ _ (any_stmt_at d funs at r).look)

  -- ## Fields

  name_ten : (at : ℕ) {a m : ℕ} → name tree names (TreeForm at) (at + 10) ≡ got a m → Found (length tree) a (word16 tree (at + 10)) m (at + 12)
  name_ten at e = shift (twelve at) (name_at tree names (TreeForm at) (at + 10) e).field

  flag_at : (x : Refusal) (at k : ℕ) → at + 1 ≡ k → {b : Bool} {n : ℕ} → flag tree x at ≡ got b n → Chosen tree flags at b n
  unfolding flag
  flag_at x at k e r = chosen tree x flags at r

  -- ## One child, or two

  pub record ValueAt (expr : Reader Expr) (make : Span → Expr → Stmt) (at : ℕ) (s : Stmt) (n : ℕ) : Type 0 where
    pub value : Expr
    pub one : expr (at + 10) ≡ got value n
    pub is : s ≡ make (span_of tree (at + 2)) value

  expression_of : (expr : Reader Expr) (at : ℕ) {s : Stmt} {n : ℕ} → expression_fields tree names expr (span_of tree (at + 2)) (at + 10) ≡ got s n → ValueAt expr StmtExpr at s n
  unfolding expression_fields ◌>>=◌ return
  expression_of expr at r = let x = first (expr (at + 10)) _ r in record { value = x.thing; one = moved x.is (got_next x.rest); is = sym (got_thing x.rest) }

  pub expression_at : (d funs at : ℕ) {s : Stmt} {n : ℕ} → letters tree at ≡ marks.SE → read_stmt tree names d funs at ≡ got s n → ValueAt (read_expr tree names (d - 1)) StmtExpr at s n
  unfolding stmt_fields lookup stmt_marks
  expression_at d funs at m r = expression_of (read_expr tree names (d - 1)) at (fields_at d funs at marks.SE SE refl m r)

  print_of : (expr : Reader Expr) (at : ℕ) {s : Stmt} {n : ℕ} → print_fields tree names expr (span_of tree (at + 2)) (at + 10) ≡ got s n → ValueAt expr StmtPrint at s n
  unfolding print_fields ◌>>=◌ return
  print_of expr at r = let x = first (expr (at + 10)) _ r in record { value = x.thing; one = moved x.is (got_next x.rest); is = sym (got_thing x.rest) }

  pub print_at : (d funs at : ℕ) {s : Stmt} {n : ℕ} → letters tree at ≡ marks.SP → read_stmt tree names d funs at ≡ got s n → ValueAt (read_expr tree names (d - 1)) StmtPrint at s n
  unfolding stmt_fields lookup stmt_marks
  print_at d funs at m r = print_of (read_expr tree names (d - 1)) at (fields_at d funs at marks.SP SP refl m r)

  pub record WhileAt (expr : Reader Expr) (stmt : Reader Stmt) (at : ℕ) (s : Stmt) (n : ℕ) : Type 0 where
    pub cond : Expr
    pub mid : ℕ
    pub body : Stmt
    pub one : expr (at + 10) ≡ got cond mid
    pub two : stmt mid ≡ got body n
    pub is : s ≡ StmtWhile (span_of tree (at + 2)) cond body

  while_of : (expr : Reader Expr) (stmt : Reader Stmt) (at : ℕ) {s : Stmt} {n : ℕ} → while_fields tree names expr stmt (span_of tree (at + 2)) (at + 10) ≡ got s n → WhileAt expr stmt at s n
  unfolding while_fields ◌>>=◌ return
  while_of expr stmt at r =
      let x = first (expr (at + 10)) _ r in
      let y = first (stmt x.next) _ x.rest in
      record { cond = x.thing; mid = x.next; body = y.thing; one = x.is; two = moved y.is (got_next y.rest); is = sym (got_thing y.rest) }

  pub while_at : (d funs at : ℕ) {s : Stmt} {n : ℕ} → letters tree at ≡ marks.SW → read_stmt tree names d funs at ≡ got s n → WhileAt
      (read_expr tree names (d - 1)) (read_stmt tree names (d - 1) funs) at s n
  unfolding stmt_fields lookup stmt_marks
  while_at d funs at m r = while_of (read_expr tree names (d - 1)) (read_stmt tree names (d - 1) funs) at (fields_at d funs at marks.SW SW refl m r)

  -- ## A block

  pub record BlockAt (stmt : Reader Stmt) (at : ℕ) (s : Stmt) (n : ℕ) : Type 0 where
    pub bound : at + 12 ≤ length tree
    pub stmts : Stmts
    pub row_is : read_stmts (word16 tree (at + 10)) stmt (at + 12) ≡ got stmts n
    pub is : s ≡ StmtBlock (span_of tree (at + 2)) stmts

  block_of : (stmt : Reader Stmt) (at : ℕ) {s : Stmt} {n : ℕ} → block_fields tree names stmt (TreeForm at) (span_of tree (at + 2)) (at + 10) ≡ got s n → BlockAt stmt at s n
  unfolding block_fields ◌>>=◌ return
  block_of stmt at r =
      let o = first (u16 tree (TreeForm at) (at + 10)) _ r in
      let f = shift (twelve at) (found tree (a_u16 tree) o.is) in
      let x = first (read_stmts (word16 tree (at + 10)) stmt (at + 12)) _ (on _ o f) in
      record { bound = f.bound; stmts = x.thing; row_is = moved x.is (got_next x.rest); is = sym (got_thing x.rest) }

  pub block_at : (d funs at : ℕ) {s : Stmt} {n : ℕ} → letters tree at ≡ marks.SB → read_stmt tree names d funs at ≡ got s n → BlockAt (read_stmt tree names (d - 1) funs) at s n
  unfolding stmt_fields lookup stmt_marks
  block_at d funs at m r = block_of (read_stmt tree names (d - 1) funs) at (fields_at d funs at marks.SB SB refl m r)

  -- ## An `if`

  pub record IfAt (expr : Reader Expr) (stmt : Reader Stmt) (at : ℕ) (s : Stmt) (n : ℕ) : Type 0 where
    pub bound : at + 11 ≤ length tree
    pub has : Bool
    pub look : lookup (word8 tree (at + 10)) flags ≡ some has
    pub cond : Expr
    pub mid : ℕ
    pub yes_part : Stmt
    pub late : ℕ
    pub no_part : Stmts
    pub one : expr (at + 11) ≡ got cond mid
    pub two : stmt mid ≡ got yes_part late
    pub three : maybe_stmt has stmt late ≡ got no_part n
    pub is : s ≡ StmtIf (span_of tree (at + 2)) cond yes_part no_part

  if_of : (expr : Reader Expr) (stmt : Reader Stmt) (at : ℕ) {s : Stmt} {n : ℕ} → if_fields tree names expr stmt (TreeForm at) (span_of tree (at + 2)) (at + 10) ≡ got s n → IfAt expr stmt at s n
  unfolding if_fields ◌>>=◌ return
  if_of expr stmt at r =
      let o = first (flag tree (TreeForm at) (at + 10)) _ r in
      let w = flag_at (TreeForm at) (at + 10) (at + 11) (eleven at) o.is in
      let f = chosen_field tree {k = at + 11} (eleven at) w in
      let x = first (expr (at + 11)) _ (on _ o f) in
      let y = first (stmt x.next) _ x.rest in
      let z = first (maybe_stmt o.thing stmt y.next) _ y.rest in
      record {
        bound = f.bound;
        has = o.thing;
        look = w.look;
        cond = x.thing;
        mid = x.next;
        yes_part = y.thing;
        late = y.next;
        no_part = z.thing;
        one = x.is;
        two = y.is;
        three = moved z.is (got_next z.rest);
        is = sym (got_thing z.rest);
      }

  pub if_at : (d funs at : ℕ) {s : Stmt} {n : ℕ} → letters tree at ≡ marks.SI → read_stmt tree names d funs at ≡ got s n → IfAt (read_expr tree names (d - 1))
      (read_stmt tree names (d - 1) funs) at s n
  unfolding stmt_fields lookup stmt_marks
  if_at d funs at m r = if_of (read_expr tree names (d - 1)) (read_stmt tree names (d - 1) funs) at (fields_at d funs at marks.SI SI refl m r)

  -- ## A `return`, a `var`

  pub record ReturnAt (expr : Reader Expr) (at : ℕ) (s : Stmt) (n : ℕ) : Type 0 where
    pub bound : at + 11 ≤ length tree
    pub has : Bool
    pub look : lookup (word8 tree (at + 10)) flags ≡ some has
    pub value : Option Expr
    pub one : maybe has expr (at + 11) ≡ got value n
    pub is : s ≡ StmtReturn (span_of tree (at + 2)) value

  return_of : (expr : Reader Expr) (at : ℕ) {s : Stmt} {n : ℕ} → return_fields tree names expr (TreeForm at) (span_of tree (at + 2)) (at + 10) ≡ got s n → ReturnAt expr at s n
  unfolding return_fields ◌>>=◌ return
  return_of expr at r =
      let o = first (flag tree (TreeForm at) (at + 10)) _ r in
      let w = flag_at (TreeForm at) (at + 10) (at + 11) (eleven at) o.is in
      let f = chosen_field tree {k = at + 11} (eleven at) w in
      let x = first (maybe o.thing expr (at + 11)) _ (on _ o f) in
      record {
        bound = f.bound;
        has = o.thing;
        look = w.look;
        value = x.thing;
        one = moved x.is (got_next x.rest);
        is = sym (got_thing x.rest);
      }

  pub return_at : (d funs at : ℕ) {s : Stmt} {n : ℕ} → letters tree at ≡ marks.SR → read_stmt tree names d funs at ≡ got s n → ReturnAt (read_expr tree names (d - 1)) at s n
  unfolding stmt_fields lookup stmt_marks
  return_at d funs at m r = return_of (read_expr tree names (d - 1)) at (fields_at d funs at marks.SR SR refl m r)

  pub record VarStmtAt (expr : Reader Expr) (at : ℕ) (s : Stmt) (n : ℕ) : Type 0 where
    pub bound : at + 13 ≤ length tree
    pub has : Bool
    pub look : lookup (word8 tree (at + 12)) flags ≡ some has
    pub value : Option Expr
    pub one : maybe has expr (at + 13) ≡ got value n
    pub is : s ≡ StmtVar (span_of tree (at + 2)) (word16 tree (at + 10)) value

  var_stmt_of : (expr : Reader Expr) (at : ℕ) {s : Stmt} {n : ℕ} → var_stmt_fields tree names expr (TreeForm at) (span_of tree (at + 2)) (at + 10) ≡ got s n → VarStmtAt expr at s n
  unfolding var_stmt_fields ◌>>=◌ return
  var_stmt_of expr at r =
      let p = first (name tree names (TreeForm at) (at + 10)) _ r in
      let o = first (flag tree (TreeForm at) (at + 12)) _ (on _ p (name_ten at p.is)) in
      let w = flag_at (TreeForm at) (at + 12) (at + 13) (thirteen at) o.is in
      let f = chosen_field tree {k = at + 13} (thirteen at) w in
      let x = first (maybe o.thing expr (at + 13)) _ (on _ o f) in
      record {
        bound = f.bound;
        has = o.thing;
        look = w.look;
        value = x.thing;
        one = moved x.is (got_next x.rest);
        is = sym (got_thing x.rest);
      }

  pub var_stmt_at : (d funs at : ℕ) {s : Stmt} {n : ℕ} → letters tree at ≡ marks.SV → read_stmt tree names d funs at ≡ got s n → VarStmtAt (read_expr tree names (d - 1)) at s n
  unfolding stmt_fields lookup stmt_marks
  var_stmt_at d funs at m r = var_stmt_of (read_expr tree names (d - 1)) at (fields_at d funs at marks.SV SV refl m r)

  -- ## A `for`

  pub record ForAt (expr : Reader Expr) (stmt : Reader Stmt) (at : ℕ) (s : Stmt) (n : ℕ) : Type 0 where
    pub bound : at + 11 ≤ length tree
    pub small : word8 tree (at + 10) < 8
    pub init : Stmts
    pub mid₁ : ℕ
    pub cond : Option Expr
    pub mid₂ : ℕ
    pub body : Stmt
    pub mid₃ : ℕ
    pub incr : Option Expr
    pub one : maybe_stmt (eqb (word8 tree (at + 10) % 2) 1) stmt (at + 11) ≡ got init mid₁
    pub two : maybe (eqb (word8 tree (at + 10) / 2 % 2) 1) expr mid₁ ≡ got cond mid₂
    pub three : stmt mid₂ ≡ got body mid₃
    pub four : maybe (eqb (word8 tree (at + 10) / 4) 1) expr mid₃ ≡ got incr n
    pub is : s ≡ StmtFor (span_of tree (at + 2)) init cond body incr

  for_of : (expr : Reader Expr) (stmt : Reader Stmt) (at : ℕ) {s : Stmt} {n : ℕ} → for_fields tree names expr stmt (TreeForm at) (span_of tree (at + 2)) (at + 10) ≡ got s n → ForAt expr stmt at s n
  unfolding for_fields ◌>>=◌ return
  for_of expr stmt at r =
      let o = first (u8 tree (TreeForm at) (at + 10)) _ r in
      let f = shift (eleven at) (found tree (a_u8 tree) o.is) in
      let t = tested (ltb (word8 tree (at + 10)) 8) (TreeForm at) _ (at + 11) (on _ o f) in
      let x = first (maybe_stmt (eqb (word8 tree (at + 10) % 2) 1) stmt (at + 11)) _ t.rest in
      let y = first (maybe (eqb (word8 tree (at + 10) / 2 % 2) 1) expr x.next) _ x.rest in
      let z = first (stmt y.next) _ y.rest in
      let w = first (maybe (eqb (word8 tree (at + 10) / 4) 1) expr z.next) _ z.rest in
      record {
        bound = f.bound;
        small = ltb-true _ _ t.test;
        init = x.thing;
        mid₁ = x.next;
        cond = y.thing;
        mid₂ = y.next;
        body = z.thing;
        mid₃ = z.next;
        incr = w.thing;
        one = x.is;
        two = y.is;
        three = z.is;
        four = moved w.is (got_next w.rest);
        is = sym (got_thing w.rest);
      }

  pub for_at : (d funs at : ℕ) {s : Stmt} {n : ℕ} → letters tree at ≡ marks.SO → read_stmt tree names d funs at ≡ got s n → ForAt (read_expr tree names (d - 1))
      (read_stmt tree names (d - 1) funs) at s n
  unfolding stmt_fields lookup stmt_marks
  for_at d funs at m r = for_of (read_expr tree names (d - 1)) (read_stmt tree names (d - 1) funs) at (fields_at d funs at marks.SO SO refl m r)

  -- ## A function

  pub record FunAt (inner : Reader Stmt) (at : ℕ) (f : Fun) (n : ℕ) : Type 0 where
    pub bound : at + 14 ≤ length tree
    pub params : List ℕ
    -- where the number of statements stands
    pub mid : ℕ
    pub body : Stmts
    pub row_is : many (word16 tree (at + 12)) (name tree names (TreeForm at)) (at + 14) ≡ got params mid
    pub late : mid + 2 ≤ length tree
    pub stmts : read_stmts (word16 tree mid) inner (mid + 2) ≡ got body n
    pub is : f ≡ fun (word16 tree (at + 10)) params body

  pub fun_of : (inner : Reader Stmt) (at : ℕ) {f : Fun} {n : ℕ} → fun_fields tree names inner (TreeForm at) (at + 10) ≡ got f n → FunAt inner at f n
  unfolding fun_fields ◌>>=◌ return
  fun_of inner at r =
      let p = first (name tree names (TreeForm at) (at + 10)) _ r in
      let o = first (u16 tree (TreeForm at) (at + 12)) _ (on _ p (name_ten at p.is)) in
      let f = shift (fourteen at) (found tree (a_u16 tree) o.is) in
      let x = first (many (word16 tree (at + 12)) (name tree names (TreeForm at)) (at + 14)) _ (on _ o f) in
      let y = first (u16 tree (TreeForm at) x.next) _ x.rest in
      let g = found tree (a_u16 tree) y.is in
      let z = first (read_stmts (word16 tree x.next) inner (x.next + 2)) _ (on _ y g) in
      record {
        bound = f.bound;
        params = x.thing;
        mid = x.next;
        body = z.thing;
        row_is = x.is;
        late = g.bound;
        stmts = moved z.is (got_next z.rest);
        is = sym (got_thing z.rest);
      }

  pub record FunStmtAt (inner : Reader Stmt) (funs at : ℕ) (s : Stmt) (n : ℕ) : Type 0 where
    pub opens : 0 < funs
    pub function : Fun
    pub one : fun_fields tree names inner (TreeForm at) (at + 10) ≡ got function n
    pub is : s ≡ StmtFun (span_of tree (at + 2)) function

  fun_stmt_of : (inner : Reader Stmt) (funs at : ℕ) {s : Stmt} {n : ℕ} → 0 < funs →
      (fun_fields tree names inner (TreeForm at) >>= λ f. return (StmtFun (span_of tree (at + 2)) f)) (at + 10) ≡ got s n → FunStmtAt inner funs at s n
  unfolding ◌>>=◌ return
  fun_stmt_of inner funs at h r =
      let x = first (fun_fields tree names inner (TreeForm at) (at + 10)) _ r in
      record { opens = h; function = x.thing; one = moved x.is (got_next x.rest); is = sym (got_thing x.rest) }

  may : (d funs at : ℕ) (w : AnyStmtAt d funs at) → letters tree at ≡ marks.SF → 0 < funs
  unfolding may_open lookup stmt_marks
  may d funs at w m =
      let q : w.kind ≡ SF = same_some (sym w.look ∙ ap (λ (k : ℕ). lookup k stmt_marks) m) in
      ltb-true _ _ (ap (λ (k : StmtMark). may_open k funs) (sym q) ∙ w.opens)

  pub fun_stmt_at : (d funs at : ℕ) {s : Stmt} {n : ℕ} → letters tree at ≡ marks.SF → read_stmt tree names d funs at ≡ got s n → FunStmtAt (read_stmt tree names (d - 1) (funs - 1)) funs at s n
  unfolding stmt_fields lookup stmt_marks
  fun_stmt_at d funs at m r = fun_stmt_of (read_stmt tree names (d - 1) (funs - 1)) funs at (may d funs at (any_stmt_at d funs at r) m) (fields_at d funs at marks.SF SF refl m r)

  -- ## A method

  never_method : (funs at : ℕ) {s : Span × Fun} {n : ℕ} → read_method tree names zero funs at ≡ got s n → ⊥
  unfolding read_method ◌>>=◌ ◌>>◌ here go_on refuse
  never_method funs at r = bad_got (first (mark_is tree (TreeForm at) marks.SF at) (λ _. refuse (TreeTooDeep at)) r).rest

  pub record MethodAt (inner : Reader Stmt) (d funs at : ℕ) (s : Span × Fun) (n : ℕ) : Type 0 where
    pub room : 0 < d
    pub opens : 0 < funs
    pub mark : letters tree at ≡ marks.SF
    pub bound : at + 10 ≤ length tree
    pub function : Fun
    pub one : fun_fields tree names inner (TreeForm at) (at + 10) ≡ got function n
    pub is : s ≡ (span_of tree (at + 2), function)

  method_of : (inner : Reader Stmt) (d funs at : ℕ) {s : Span × Fun} {n : ℕ} → 0 < d → method_record tree names inner funs at at ≡ got s n → MethodAt inner d funs at s n
  unfolding method_record ◌>>=◌ ◌>>◌ return
  method_of inner d funs at h r =
      let x = first (mark_is tree (TreeForm at) marks.SF at) _ r in
      let w = marked tree (TreeForm at) marks.SF at x.is in
      let t = tested (ltb 0 funs) (TooManyOpen at) (span tree (TreeForm at) >>= λ s. fun_fields tree names inner (TreeForm at) >>= λ f. return (s, f)) x.next x.rest in
      let y = first (span tree (TreeForm at) x.next) _ t.rest in
      let z : span tree (TreeForm at) (at + 2) ≡ got y.thing y.next = ap (span tree (TreeForm at)) (sym w.on) ∙ y.is in
      let f = shift (ten at) (found tree (a_span tree) z) in
      let v = first (fun_fields tree names inner (TreeForm at) (at + 10)) _ (on _ y f) in
      record {
        room = h;
        opens = ltb-true _ _ t.test;
        mark = w.is;
        bound = f.bound;
        function = v.thing;
        one = moved v.is (got_next v.rest);
        is = sym (got_thing v.rest);
      }

  method_opened : (d funs at : ℕ) {s : Span × Fun} {n : ℕ} → read_method tree names (suc d) funs at ≡ got s n → method_record tree names (read_stmt tree names d (funs - 1)) funs at at ≡ got s n
  unfolding read_method ◌>>=◌ here go_on
  method_opened d funs at r = r

  pub method_at : (d funs at : ℕ) {s : Span × Fun} {n : ℕ} → read_method tree names d funs at ≡ got s n → MethodAt (read_stmt tree names (d - 1) (funs - 1)) d funs at s n
  method_at zero funs at r = absurd (never_method funs at r)
  method_at (suc d) funs at {s} {n} r =
      subst (λ (j : ℕ). MethodAt (read_stmt tree names j (funs - 1)) (suc d) funs at s n) (sym (pred_suc d))
      (method_of (read_stmt tree names d (funs - 1)) (suc d) funs at (some_room d) (method_opened d funs at r))

  -- ## A class

  pub record ClassAt (superclass : Reader Superclass) (one_method : Reader (Span × Fun)) (at : ℕ) (s : Stmt) (n : ℕ) : Type 0 where
    pub bound : at + 15 ≤ length tree
    pub has : Bool
    pub look : lookup (word8 tree (at + 12)) flags ≡ some has
    pub super : Option Superclass
    pub mid : ℕ
    pub methods : Methods
    pub one : maybe has superclass (at + 15) ≡ got super mid
    pub row_is : read_methods (word16 tree (at + 13)) one_method mid ≡ got methods n
    pub is : s ≡ StmtClass (span_of tree (at + 2)) (word16 tree (at + 10)) super methods

  class_of : (superclass : Reader Superclass) (one_method : Reader (Span × Fun)) (at : ℕ) {s : Stmt} {n : ℕ} → class_fields tree names superclass one_method
      (TreeForm at) (span_of tree (at + 2)) (at + 10) ≡ got s n
      → ClassAt superclass one_method at s n
  unfolding class_fields ◌>>=◌ return
  class_of superclass one_method at r =
      let p = first (name tree names (TreeForm at) (at + 10)) _ r in
      let o = first (flag tree (TreeForm at) (at + 12)) _ (on _ p (name_ten at p.is)) in
      let w = flag_at (TreeForm at) (at + 12) (at + 13) (thirteen at) o.is in
      let f = chosen_field tree {k = at + 13} (thirteen at) w in
      let c = first (u16 tree (TreeForm at) (at + 13)) _ (on _ o f) in
      let g = shift (fifteen at) (found tree (a_u16 tree) c.is) in
      let x = first (maybe o.thing superclass (at + 15)) _ (on _ c g) in
      let y = first (read_methods (word16 tree (at + 13)) one_method x.next) _ x.rest in
      record {
        bound = g.bound;
        has = o.thing;
        look = w.look;
        super = x.thing;
        mid = x.next;
        methods = y.thing;
        one = x.is;
        row_is = moved y.is (got_next y.rest);
        is = sym (got_thing y.rest);
      }

  pub class_at : (d funs at : ℕ) {s : Stmt} {n : ℕ} → letters tree at ≡ marks.SC → read_stmt tree names d funs at ≡ got s n → ClassAt
      (read_superclass tree names (d - 1)) (read_method tree names (d - 1) funs) at s n
  unfolding stmt_fields lookup stmt_marks
  class_at d funs at m r = class_of (read_superclass tree names (d - 1)) (read_method tree names (d - 1) funs) at (fields_at d funs at marks.SC SC refl m r)

  -- its superclass
  pub record SuperclassAt (d at : ℕ) (s : Superclass) (n : ℕ) : Type 0 where
    pub room : 0 < d
    pub bound : at + 12 ≤ length tree
    pub end : n ≡ at + 12
    pub is : s ≡ record { span = span_of tree (at + 2); name = word16 tree (at + 10) }

  never_superclass : (at : ℕ) {s : Superclass} {n : ℕ} → read_superclass tree names zero at ≡ got s n → ⊥
  unfolding read_superclass ◌>>=◌ ◌>>◌ here go_on refuse
  never_superclass at r = bad_got (first (mark_is tree (TreeForm at) marks.EV at) (λ _. refuse (TreeTooDeep at)) r).rest

  pub superclass_at : (d at : ℕ) {s : Superclass} {n : ℕ} → read_superclass tree names d at ≡ got s n → SuperclassAt d at s n
  unfolding read_superclass ◌>>=◌ ◌>>◌ here go_on return
  superclass_at zero at r = absurd (never_superclass at r)
  superclass_at (suc d) at r =
      let x = first (mark_is tree (TreeForm at) marks.EV at) (λ _. span tree (TreeForm at) >>= λ s. name tree names (TreeForm at) >>= λ n. return (record { span = s; name = n })) r in
      let w = marked tree (TreeForm at) marks.EV at x.is in
      let y = first (span tree (TreeForm at) x.next) (λ s. name tree names (TreeForm at) >>= λ n. return (record { span = s; name = n })) x.rest in
      let z : span tree (TreeForm at) (at + 2) ≡ got y.thing y.next = ap (span tree (TreeForm at)) (sym w.on) ∙ y.is in
      let f = shift (ten at) (found tree (a_span tree) z) in
      let p = first (name tree names (TreeForm at) (at + 10)) (λ n. return (record { span = span_of tree (at + 2); name = n })) (on _ y f) in
      let g = name_ten at p.is in
      let q = on _ p g in
      record { room = some_room d; bound = g.bound; end = sym (got_next q); is = sym (got_thing q) }
