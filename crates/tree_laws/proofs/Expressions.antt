-- What stands where an expression was read, a law for each kind: how far the file goes at least, the fields by their places, the children with
-- one level less left, and the expression that they make.
use mathlib.Core.Path.{◌≡◌, refl, sym, ap, ◌∙◌}
use mathlib.Core.Bool.{true, false}
use mathlib.Core.Option.{some}
use mathlib.Core.List.{List}
use mathlib.Core.Logic.{⊎_elim}
use Prim.Native.Nat.{ℕ, zero, suc, ◌+◌, ◌-◌, ◌≤◌, ◌<◌}
use native.Mathlib.Omega.{arith}
use lib.ListN.{length}
use lib.Dec.{leb}
use borrow.Author.Tests.{leb-true}
use Rattle.rules.specs.Base.{lookup}
use Rattle.rules.specs.Limits.{max_bits}
use Rattle.rules.specs.declared.Refusal.{Refusal}
use Rattle.rules.specs.declared.Refusal.TheVariants.{TreeForm, TreeTooDeep}
use Rattle.rules.specs.Tree.{Expr, Exprs, ExprAssign, ExprCall, ExprGet, ExprInfix, Literal, ExprPrefix, ExprSet, ExprSuper, ExprVar, ◌∷ᵉ◌, count_exprs, OpInfix, OpPrefix, ExprLiteral, LitBool, LitNil, LitNumber, LitString, []ᵉ}
use Rattle.rules.specs.Reader.{Read, got, Reader, go_on, ◌>>=◌, ◌>>◌, return, refuse, here, need, one_of, u8, u16, u64, span}
use Rattle.rules.specs.TreeFile.{ExprMark, EA, EC, EG, EI, EL, EP, ES, EU, EV, expr_marks, infix_ops, prefix_ops, literal_kinds, LiteralKind, a_false, a_true, a_nil, a_number, a_string, name, read_exprs, assign_fields, call_fields, get_fields, infix_fields, literal_of, literal_fields, prefix_fields, set_fields, super_fields, var_fields, expr_fields, expr_mark, expr_record, read_expr}
use Rattle.fields.specs.Words.{word8, word16, word64, letters, span_of}
use Rattle.fields.proofs.Reading.{Found, found, bad_got, then_on, a_u16, a_u64, a_span}
use Rattle.tree_laws.proofs.Taken.{eleven, twelve, ten, pred_suc, some_room, moved, got_thing, got_next, First, first, on, shift, passed, row, no_row, chosen, chosen_field, Kind, kind_at, kind_field, name_at}
use Rattle.fields.specs.Marks as marks

nineteen : (at : ℕ) → at + 11 + 8 ≡ at + 19
nineteen at = omega arith

thirteen : (at : ℕ) → at + 11 + 2 ≡ at + 13
thirteen at = omega arith

-- ## A row of expressions

pub record RowAt (expr : Reader Expr) (count at : ℕ) (es : Exprs) (n : ℕ) : Type 0 where
  pub one : Expr
  pub mid : ℕ
  pub others : Exprs
  pub head : expr at ≡ got one mid
  pub tail : read_exprs count expr mid ≡ got others n
  pub is : es ≡ one ∷ᵉ others

pub none_left : (expr : Reader Expr) (at : ℕ) {es : Exprs} {n : ℕ} → read_exprs 0 expr at ≡ got es n → (es ≡ []ᵉ) × (n ≡ at)
unfolding read_exprs return
none_left expr at e = (sym (got_thing e), sym (got_next e))

pub one_more : (expr : Reader Expr) (count at : ℕ) {es : Exprs} {n : ℕ} → read_exprs (suc count) expr at ≡ got es n → RowAt expr count at es n
unfolding read_exprs ◌>>=◌ return
one_more expr count at r =
    let x = first (expr at) _ r in
    let y = first (read_exprs count expr x.next) _ x.rest in
    record {
      one = x.thing;
      mid = x.next;
      others = y.thing;
      head = x.is;
      tail = moved y.is (got_next y.rest);
      is = sym (got_thing y.rest);
    }

-- and the other way
pub row_read : (expr : Reader Expr) (count : ℕ) {at mid n : ℕ} {e : Expr} {es : Exprs} → expr at ≡ got e mid → read_exprs count expr mid ≡ got es n → read_exprs (suc count) expr at ≡ got (e ∷ᵉ es) n
unfolding read_exprs ◌>>=◌ return
row_read expr count h t = then_on _ h ∙ then_on _ t

pub count_read : (expr : Reader Expr) (count at : ℕ) {es : Exprs} {n : ℕ} → read_exprs count expr at ≡ got es n → count_exprs es ≡ count
unfolding count_exprs
count_read expr zero at r = ap count_exprs (none_left expr at r).0
count_read expr (suc count) at r =
    let x = one_more expr count at r in
    ap count_exprs x.is ∙ ap suc (count_read expr count x.mid x.tail)

module _ (tree : List ℕ) (names : ℕ) where
  -- ## Every record

  pub never : (at : ℕ) {e : Expr} {n : ℕ} → read_expr tree names zero at ≡ got e n → ⊥
  unfolding read_expr ◌>>=◌ here go_on refuse
  never at r = bad_got (first (expr_mark tree names (TreeForm at) at) (λ _. refuse (TreeTooDeep at)) r).rest

  opened : (d at : ℕ) {e : Expr} {n : ℕ} → read_expr tree names (suc d) at ≡ got e n → expr_record tree names (read_expr tree names d) (TreeForm at) at ≡ got e n
  unfolding read_expr ◌>>=◌ here go_on
  opened d at r = r

  -- the mark, and what follows it
  marked : (expr : Reader Expr) (x : Refusal) (at : ℕ) {e : Expr} {n : ℕ} → expr_record tree names expr x at ≡ got e n → First (expr_mark tree names x at)
      (λ kind. span tree x >>= expr_fields tree names expr x kind) e n
  unfolding expr_record ◌>>=◌
  marked expr x at r = first (expr_mark tree names x at) _ r

  kind_of : (x : Refusal) (at : ℕ) {k : ExprMark} {n : ℕ} → expr_mark tree names x at ≡ got k n → Kind tree expr_marks at k n
  unfolding expr_mark
  kind_of x at r = kind_at tree x expr_marks at r

  -- its mark and its span are there, its mark is one of the nine, and one level more may open
  pub record AnyAt (d at : ℕ) : Type 0 where
    pub room : 0 < d
    pub bound : at + 10 ≤ length tree
    pub kind : ExprMark
    pub look : lookup (letters tree at) expr_marks ≡ some kind

  pub any_at : (d at : ℕ) {e : Expr} {n : ℕ} → read_expr tree names d at ≡ got e n → AnyAt d at
  unfolding ◌>>=◌
  any_at zero at r = absurd (never at r)
  any_at (suc d) at {e} {n} r =
      let x = marked (read_expr tree names d) (TreeForm at) at (opened d at r) in
      let w = kind_of (TreeForm at) at x.is in
      let y = first (span tree (TreeForm at) x.next) _ x.rest in
      let z : span tree (TreeForm at) (at + 2) ≡ got y.thing y.next = ap (span tree (TreeForm at)) (sym w.on) ∙ y.is in
      let f = shift (ten at) (found tree (a_span tree) z) in
      record { room = some_room d; bound = f.bound; kind = x.thing; look = w.look }

  -- what follows the span, by the mark
  fields_at : (d at m : ℕ) (k : ExprMark) {e : Expr} {n : ℕ} → lookup m expr_marks ≡ some k → letters tree at ≡ m → read_expr tree names d at ≡ got e n
      → expr_fields tree names (read_expr tree names (d - 1)) (TreeForm at) k (span_of tree (at + 2)) (at + 10) ≡ got e n
  unfolding ◌>>=◌
  fields_at zero at m k look q r = absurd (never at r)
  fields_at (suc d) at m k look q r =
      let x = marked (read_expr tree names d) (TreeForm at) at (opened d at r) in
      let f = kind_field tree m at k look q (kind_of (TreeForm at) at x.is) in
      let y = first (span tree (TreeForm at) (at + 2)) (expr_fields tree names (read_expr tree names d) (TreeForm at) k) (on _ x f) in
      let g = shift (ten at) (found tree (a_span tree) y.is) in
      ap (λ (j : ℕ). expr_fields tree names (read_expr tree names j) (TreeForm at) k (span_of tree (at + 2)) (at + 10)) (pred_suc d) ∙
      on (expr_fields tree names (read_expr tree names d) (TreeForm at) k) y g

  -- no other mark is left
  pub last_mark : (d at : ℕ) {e : Expr} {n : ℕ} → read_expr tree names d at ≡ got e n
      → (letters tree at ≡ marks.EL → ⊥) → (letters tree at ≡ marks.EV → ⊥) → (letters tree at ≡ marks.EI → ⊥) → (letters tree at ≡ marks.EP → ⊥)
      → (letters tree at ≡ marks.EC → ⊥) → (letters tree at ≡ marks.EU → ⊥) → (letters tree at ≡ marks.EA → ⊥) → (letters tree at ≡ marks.EG → ⊥)
      → letters tree at ≡ marks.ES
  unfolding expr_marks
  last_mark d at r l v i p c u a g =
      let w = any_at d at r in
      ⊎_elim (λ h. absurd (a h)) (λ h.
      ⊎_elim (λ h. absurd (c h)) (λ h.
      ⊎_elim (λ h. absurd (g h)) (λ h.
      ⊎_elim (λ h. absurd (i h)) (λ h.
      ⊎_elim (λ h. absurd (l h)) (λ h.
      ⊎_elim (λ h. absurd (p h)) (λ h.
      ⊎_elim (λ h. h) (λ h.
      ⊎_elim (λ h. absurd (u h)) (λ h.
      ⊎_elim (λ h. absurd (v h)) (λ h. absurd (no_row _ h))
      (row _ _ _ _ h)) (row _ _ _ _ h)) (row _ _ _ _ h)) (row _ _ _ _ h)) (row _ _ _ _ h)) (row _ _ _ _ h)) (row _ _ _ _ h)) (row _ _ _ _ h))
      (row _ _ _ _ w.look)

  -- ## Each kind

  name_ten : (at : ℕ) {a m : ℕ} → name tree names (TreeForm at) (at + 10) ≡ got a m → Found (length tree) a (word16 tree (at + 10)) m (at + 12)
  name_ten at e = shift (twelve at) (name_at tree names (TreeForm at) (at + 10) e).field

  pub record PrefixAt (expr : Reader Expr) (at : ℕ) (e : Expr) (n : ℕ) : Type 0 where
    pub bound : at + 11 ≤ length tree
    pub op : OpPrefix
    pub rt : Expr
    pub look : lookup (word8 tree (at + 10)) prefix_ops ≡ some op
    pub one : expr (at + 11) ≡ got rt n
    pub is : e ≡ ExprPrefix (span_of tree (at + 2)) op rt

  prefix_of : (expr : Reader Expr) (at : ℕ) {e : Expr} {n : ℕ} → prefix_fields tree names expr (TreeForm at) (span_of tree (at + 2)) (at + 10) ≡ got e n → PrefixAt expr at e n
  unfolding prefix_fields ◌>>=◌ return
  prefix_of expr at r =
      let o = first ((u8 tree (TreeForm at) >>= one_of (TreeForm at) prefix_ops) (at + 10)) _ r in
      let w = chosen tree (TreeForm at) prefix_ops (at + 10) o.is in
      let f = chosen_field tree {k = at + 11} (eleven at) w in
      let x = first (expr (at + 11)) _ (on _ o f) in
      record {
        bound = f.bound;
        op = o.thing;
        rt = x.thing;
        look = w.look;
        one = moved x.is (got_next x.rest);
        is = sym (got_thing x.rest);
      }

  pub prefix_at : (d at : ℕ) {e : Expr} {n : ℕ} → letters tree at ≡ marks.EP → read_expr tree names d at ≡ got e n → PrefixAt (read_expr tree names (d - 1)) at e n
  unfolding expr_fields lookup expr_marks
  prefix_at d at m r = prefix_of (read_expr tree names (d - 1)) at (fields_at d at marks.EP EP refl m r)

  pub record InfixAt (expr : Reader Expr) (at : ℕ) (e : Expr) (n : ℕ) : Type 0 where
    pub bound : at + 11 ≤ length tree
    pub op : OpInfix
    pub lt : Expr
    pub mid : ℕ
    pub rt : Expr
    pub look : lookup (word8 tree (at + 10)) infix_ops ≡ some op
    pub one : expr (at + 11) ≡ got lt mid
    pub two : expr mid ≡ got rt n
    pub is : e ≡ ExprInfix (span_of tree (at + 2)) op lt rt

  infix_of : (expr : Reader Expr) (at : ℕ) {e : Expr} {n : ℕ} → infix_fields tree names expr (TreeForm at) (span_of tree (at + 2)) (at + 10) ≡ got e n → InfixAt expr at e n
  unfolding infix_fields ◌>>=◌ return
  infix_of expr at r =
      let o = first ((u8 tree (TreeForm at) >>= one_of (TreeForm at) infix_ops) (at + 10)) _ r in
      let w = chosen tree (TreeForm at) infix_ops (at + 10) o.is in
      let f = chosen_field tree {k = at + 11} (eleven at) w in
      let x = first (expr (at + 11)) _ (on _ o f) in
      let y = first (expr x.next) _ x.rest in
      record {
        bound = f.bound;
        op = o.thing;
        lt = x.thing;
        mid = x.next;
        rt = y.thing;
        look = w.look;
        one = x.is;
        two = moved y.is (got_next y.rest);
        is = sym (got_thing y.rest);
      }

  pub infix_at : (d at : ℕ) {e : Expr} {n : ℕ} → letters tree at ≡ marks.EI → read_expr tree names d at ≡ got e n → InfixAt (read_expr tree names (d - 1)) at e n
  unfolding expr_fields lookup expr_marks
  infix_at d at m r = infix_of (read_expr tree names (d - 1)) at (fields_at d at marks.EI EI refl m r)

  pub record GetAt (expr : Reader Expr) (at : ℕ) (e : Expr) (n : ℕ) : Type 0 where
    pub bound : at + 12 ≤ length tree
    pub object : Expr
    pub one : expr (at + 12) ≡ got object n
    pub is : e ≡ ExprGet (span_of tree (at + 2)) (word16 tree (at + 10)) object

  get_of : (expr : Reader Expr) (at : ℕ) {e : Expr} {n : ℕ} → get_fields tree names expr (TreeForm at) (span_of tree (at + 2)) (at + 10) ≡ got e n → GetAt expr at e n
  unfolding get_fields ◌>>=◌ return
  get_of expr at r =
      let o = first (name tree names (TreeForm at) (at + 10)) _ r in
      let f = name_ten at o.is in
      let x = first (expr (at + 12)) _ (on _ o f) in
      record {
        bound = f.bound;
        object = x.thing;
        one = moved x.is (got_next x.rest);
        is = sym (got_thing x.rest);
      }

  pub get_at : (d at : ℕ) {e : Expr} {n : ℕ} → letters tree at ≡ marks.EG → read_expr tree names d at ≡ got e n → GetAt (read_expr tree names (d - 1)) at e n
  unfolding expr_fields lookup expr_marks
  get_at d at m r = get_of (read_expr tree names (d - 1)) at (fields_at d at marks.EG EG refl m r)

  pub record AssignAt (expr : Reader Expr) (at : ℕ) (e : Expr) (n : ℕ) : Type 0 where
    pub bound : at + 12 ≤ length tree
    pub value : Expr
    pub one : expr (at + 12) ≡ got value n
    pub is : e ≡ ExprAssign (span_of tree (at + 2)) (word16 tree (at + 10)) value

  assign_of : (expr : Reader Expr) (at : ℕ) {e : Expr} {n : ℕ} → assign_fields tree names expr (TreeForm at) (span_of tree (at + 2)) (at + 10) ≡ got e n → AssignAt expr at e n
  unfolding assign_fields ◌>>=◌ return
  assign_of expr at r =
      let o = first (name tree names (TreeForm at) (at + 10)) _ r in
      let f = name_ten at o.is in
      let x = first (expr (at + 12)) _ (on _ o f) in
      record {
        bound = f.bound;
        value = x.thing;
        one = moved x.is (got_next x.rest);
        is = sym (got_thing x.rest);
      }

  pub assign_at : (d at : ℕ) {e : Expr} {n : ℕ} → letters tree at ≡ marks.EA → read_expr tree names d at ≡ got e n → AssignAt (read_expr tree names (d - 1)) at e n
  unfolding expr_fields lookup expr_marks
  assign_at d at m r = assign_of (read_expr tree names (d - 1)) at (fields_at d at marks.EA EA refl m r)

  pub record SetAt (expr : Reader Expr) (at : ℕ) (e : Expr) (n : ℕ) : Type 0 where
    pub bound : at + 12 ≤ length tree
    pub value : Expr
    pub mid : ℕ
    pub object : Expr
    pub one : expr (at + 12) ≡ got value mid
    pub two : expr mid ≡ got object n
    pub is : e ≡ ExprSet (span_of tree (at + 2)) (word16 tree (at + 10)) value object

  set_of : (expr : Reader Expr) (at : ℕ) {e : Expr} {n : ℕ} → set_fields tree names expr (TreeForm at) (span_of tree (at + 2)) (at + 10) ≡ got e n → SetAt expr at e n
  unfolding set_fields ◌>>=◌ return
  set_of expr at r =
      let o = first (name tree names (TreeForm at) (at + 10)) _ r in
      let f = name_ten at o.is in
      let x = first (expr (at + 12)) _ (on _ o f) in
      let y = first (expr x.next) _ x.rest in
      record {
        bound = f.bound;
        value = x.thing;
        mid = x.next;
        object = y.thing;
        one = x.is;
        two = moved y.is (got_next y.rest);
        is = sym (got_thing y.rest);
      }

  pub set_at : (d at : ℕ) {e : Expr} {n : ℕ} → letters tree at ≡ marks.ES → read_expr tree names d at ≡ got e n → SetAt (read_expr tree names (d - 1)) at e n
  unfolding expr_fields lookup expr_marks
  set_at d at m r = set_of (read_expr tree names (d - 1)) at (fields_at d at marks.ES ES refl m r)

  pub record VarAt (at : ℕ) (e : Expr) (n : ℕ) : Type 0 where
    pub bound : at + 12 ≤ length tree
    pub end : n ≡ at + 12
    pub is : e ≡ ExprVar (span_of tree (at + 2)) (word16 tree (at + 10))

  var_of : (at : ℕ) {e : Expr} {n : ℕ} → var_fields tree names (TreeForm at) (span_of tree (at + 2)) (at + 10) ≡ got e n → VarAt at e n
  unfolding var_fields ◌>>=◌ return
  var_of at r =
      let o = first (name tree names (TreeForm at) (at + 10)) _ r in
      let f = name_ten at o.is in
      let x = on _ o f in
      record { bound = f.bound; end = sym (got_next x); is = sym (got_thing x) }

  pub var_at : (d at : ℕ) {e : Expr} {n : ℕ} → letters tree at ≡ marks.EV → read_expr tree names d at ≡ got e n → VarAt at e n
  unfolding expr_fields lookup expr_marks
  var_at d at m r = var_of at (fields_at d at marks.EV EV refl m r)

  pub record SuperAt (at : ℕ) (e : Expr) (n : ℕ) : Type 0 where
    pub bound : at + 12 ≤ length tree
    pub end : n ≡ at + 12
    pub is : e ≡ ExprSuper (span_of tree (at + 2)) (word16 tree (at + 10))

  super_of : (at : ℕ) {e : Expr} {n : ℕ} → super_fields tree names (TreeForm at) (span_of tree (at + 2)) (at + 10) ≡ got e n → SuperAt at e n
  unfolding super_fields ◌>>=◌ return
  super_of at r =
      let o = first (name tree names (TreeForm at) (at + 10)) _ r in
      let f = name_ten at o.is in
      let x = on _ o f in
      record { bound = f.bound; end = sym (got_next x); is = sym (got_thing x) }

  pub super_at : (d at : ℕ) {e : Expr} {n : ℕ} → letters tree at ≡ marks.EU → read_expr tree names d at ≡ got e n → SuperAt at e n
  unfolding expr_fields lookup expr_marks
  super_at d at m r = super_of at (fields_at d at marks.EU EU refl m r)

  -- a call: how many arguments, the callee, the arguments
  pub record CallAt (expr : Reader Expr) (at : ℕ) (e : Expr) (n : ℕ) : Type 0 where
    pub bound : at + 12 ≤ length tree
    pub callee : Expr
    pub mid : ℕ
    pub args : Exprs
    pub one : expr (at + 12) ≡ got callee mid
    pub many : read_exprs (word16 tree (at + 10)) expr mid ≡ got args n
    pub is : e ≡ ExprCall (span_of tree (at + 2)) callee args

  call_of : (expr : Reader Expr) (at : ℕ) {e : Expr} {n : ℕ} → call_fields tree names expr (TreeForm at) (span_of tree (at + 2)) (at + 10) ≡ got e n → CallAt expr at e n
  unfolding call_fields ◌>>=◌ return
  call_of expr at r =
      let o = first (u16 tree (TreeForm at) (at + 10)) _ r in
      let f = shift (twelve at) (found tree (a_u16 tree) o.is) in
      let x = first (expr (at + 12)) _ (on _ o f) in
      let y = first (read_exprs (word16 tree (at + 10)) expr x.next) _ x.rest in
      record {
        bound = f.bound;
        callee = x.thing;
        mid = x.next;
        args = y.thing;
        one = x.is;
        many = moved y.is (got_next y.rest);
        is = sym (got_thing y.rest);
      }

  pub call_at : (d at : ℕ) {e : Expr} {n : ℕ} → letters tree at ≡ marks.EC → read_expr tree names d at ≡ got e n → CallAt (read_expr tree names (d - 1)) at e n
  unfolding expr_fields lookup expr_marks
  call_at d at m r = call_of (read_expr tree names (d - 1)) at (fields_at d at marks.EC EC refl m r)

  -- ## A literal, by its kind

  pub record LiteralAt (at : ℕ) (e : Expr) (n : ℕ) : Type 0 where
    pub bound : at + 11 ≤ length tree
    pub kind : LiteralKind
    pub lit : ExprLiteral
    pub look : lookup (word8 tree (at + 10)) literal_kinds ≡ some kind
    pub one : literal_of tree names (TreeForm at) kind (at + 11) ≡ got lit n
    pub is : e ≡ Literal (span_of tree (at + 2)) lit

  literal_is : (at : ℕ) {e : Expr} {n : ℕ} → literal_fields tree names (TreeForm at) (span_of tree (at + 2)) (at + 10) ≡ got e n → LiteralAt at e n
  unfolding literal_fields ◌>>=◌ return
  literal_is at r =
      let o = first ((u8 tree (TreeForm at) >>= one_of (TreeForm at) literal_kinds) (at + 10)) _ r in
      let w = chosen tree (TreeForm at) literal_kinds (at + 10) o.is in
      let f = chosen_field tree {k = at + 11} (eleven at) w in
      let x = first (literal_of tree names (TreeForm at) o.thing (at + 11)) _ (on _ o f) in
      record {
        bound = f.bound;
        kind = o.thing;
        lit = x.thing;
        look = w.look;
        one = moved x.is (got_next x.rest);
        is = sym (got_thing x.rest);
      }

  pub literal_at : (d at : ℕ) {e : Expr} {n : ℕ} → letters tree at ≡ marks.EL → read_expr tree names d at ≡ got e n → LiteralAt at e n
  unfolding expr_fields lookup expr_marks
  literal_at d at m r = literal_is at (fields_at d at marks.EL EL refl m r)

  -- the literal itself: its value, where it ends, how far the file goes
  pub record PlainAt (lit : ExprLiteral) (at : ℕ) (e : Expr) (n : ℕ) : Type 0 where
    pub end : n ≡ at + 11
    pub is : e ≡ Literal (span_of tree (at + 2)) lit

  pub record NumberAt (at : ℕ) (e : Expr) (n : ℕ) : Type 0 where
    pub bound : at + 19 ≤ length tree
    pub end : n ≡ at + 19
    pub small : word64 tree (at + 11) ≤ max_bits
    pub is : e ≡ Literal (span_of tree (at + 2)) (LitNumber (word64 tree (at + 11)))

  pub record StringAt (at : ℕ) (e : Expr) (n : ℕ) : Type 0 where
    pub bound : at + 13 ≤ length tree
    pub end : n ≡ at + 13
    pub is : e ≡ Literal (span_of tree (at + 2)) (LitString (word16 tree (at + 11)))

  -- the reader of a literal whose kind byte is known
  kind_is : (at : ℕ) {e : Expr} {n : ℕ} (i : LiteralAt at e n) (b : ℕ) (k : LiteralKind) → lookup b literal_kinds ≡ some k → word8 tree (at + 10) ≡ b
      → literal_of tree names (TreeForm at) k (at + 11) ≡ got i.lit n
  kind_is at i b k look q =
      let z : some i.kind ≡ some k = sym i.look ∙ ap (λ (j : ℕ). lookup j literal_kinds) q ∙ look in
      let y : i.kind ≡ k = cc in
      ap (λ (j : LiteralKind). literal_of tree names (TreeForm at) j (at + 11)) (sym y) ∙ i.one

  plain_of : (lit : ExprLiteral) (at : ℕ) {e : Expr} {n : ℕ} (i : LiteralAt at e n) → ◌≡◌ {A = Read ExprLiteral} (got lit (at + 11)) (got i.lit n) → PlainAt lit at e n
  plain_of lit at i q = record { end = sym (got_next q); is = i.is ∙ ap (Literal (span_of tree (at + 2))) (sym (got_thing q)) }

  pub false_at : (at : ℕ) {e : Expr} {n : ℕ} → LiteralAt at e n → word8 tree (at + 10) ≡ 0 → PlainAt (LitBool false) at e n
  unfolding literal_of return lookup literal_kinds
  false_at at i q = plain_of (LitBool false) at i (kind_is at i 0 a_false refl q)

  pub true_at : (at : ℕ) {e : Expr} {n : ℕ} → LiteralAt at e n → word8 tree (at + 10) ≡ 1 → PlainAt (LitBool true) at e n
  unfolding literal_of return lookup literal_kinds
  true_at at i q = plain_of (LitBool true) at i (kind_is at i 1 a_true refl q)

  pub nil_at : (at : ℕ) {e : Expr} {n : ℕ} → LiteralAt at e n → word8 tree (at + 10) ≡ 2 → PlainAt LitNil at e n
  unfolding literal_of return lookup literal_kinds
  nil_at at i q = plain_of LitNil at i (kind_is at i 2 a_nil refl q)

  number_of : (at : ℕ) {lit : ExprLiteral} {e : Expr} {n : ℕ} → e ≡ Literal (span_of tree (at + 2)) lit → literal_of tree names (TreeForm at) a_number (at + 11) ≡ got lit n → NumberAt at e n
  unfolding literal_of ◌>>=◌
  number_of at {lit} i r =
      let o = first (u64 tree (TreeForm at) (at + 11)) (λ bits. need (leb bits max_bits) (TreeForm at) >> return (LitNumber bits)) r in
      let f = shift (nineteen at) (found tree (a_u64 tree) o.is) in
      let x = passed (leb (word64 tree (at + 11)) max_bits) (TreeForm at) (LitNumber (word64 tree (at + 11))) (at + 19)
      (on (λ bits. need (leb bits max_bits) (TreeForm at) >> return (LitNumber bits)) o f) in
      record { bound = f.bound; end = x.on; small = leb-true _ _ x.test; is = i ∙ ap (Literal (span_of tree (at + 2))) x.is }

  pub number_at : (at : ℕ) {e : Expr} {n : ℕ} → LiteralAt at e n → word8 tree (at + 10) ≡ 3 → NumberAt at e n
  unfolding lookup literal_kinds
  number_at at i q = number_of at i.is (kind_is at i 3 a_number refl q)

  string_of : (at : ℕ) {lit : ExprLiteral} {e : Expr} {n : ℕ} → e ≡ Literal (span_of tree (at + 2)) lit → literal_of tree names (TreeForm at) a_string (at + 11) ≡ got lit n → StringAt at e n
  unfolding literal_of ◌>>=◌ return
  string_of at i r =
      let o = first (name tree names (TreeForm at) (at + 11)) _ r in
      let f = shift (thirteen at) (name_at tree names (TreeForm at) (at + 11) o.is).field in
      let x = on _ o f in
      record { bound = f.bound; end = sym (got_next x); is = i ∙ ap (Literal (span_of tree (at + 2))) (sym (got_thing x)) }

  pub string_at : (at : ℕ) {e : Expr} {n : ℕ} → LiteralAt at e n → word8 tree (at + 10) ≡ 4 → StringAt at e n
  unfolding lookup literal_kinds
  string_at at i q = string_of at i.is (kind_is at i 4 a_string refl q)

  -- no other kind is left
  pub last_kind : (at : ℕ) {e : Expr} {n : ℕ} → LiteralAt at e n → (word8 tree (at + 10) ≡ 0 → ⊥) → (word8 tree (at + 10) ≡ 1 → ⊥) →
      (word8 tree (at + 10) ≡ 2 → ⊥) → (word8 tree (at + 10) ≡ 3 → ⊥) → word8 tree (at + 10) ≡ 4
  unfolding literal_kinds
  last_kind at i a b c d =
      ⊎_elim (λ h. absurd (a h)) (λ h.
      ⊎_elim (λ h. absurd (b h)) (λ h.
      ⊎_elim (λ h. absurd (c h)) (λ h.
      ⊎_elim (λ h. absurd (d h)) (λ h.
      ⊎_elim (λ h. h) (λ h. absurd (no_row _ h))
      (row _ _ _ _ h)) (row _ _ _ _ h)) (row _ _ _ _ h)) (row _ _ _ _ h))
      (row _ _ _ _ i.look)
