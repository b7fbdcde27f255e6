-- Calls: cut around the parts that are compiled one after the other, and the walk over those.
use Rattle.std.specs.Prelude.{Ok, Err}
use mathlib.Core.Path.{◌≡◌, refl, sym, ap, subst, ◌∙◌}
use mathlib.Core.Bool.{Bool, true, false}
use mathlib.Core.List.{List}
use mathlib.Core.Logic.{⊎_elim}
use Prim.Native.Nat.{ℕ, suc, ◌+◌, ◌-◌, ◌%◌, ◌≤◌, ◌<◌}
use native.Mathlib.Nat.{mod-eq_of_lt}
use native.Mathlib.Omega.{arith}
use lib.Dec.{leb, eqb}
use native.Mathlib.Numerals.{add-one}
use borrow.Author.Tests.{le-leb, lt-leb, eqb-true, eqb-false}
use Rattle.rules.specs.declared.Span.{Span}
use Rattle.rules.specs.declared.Refusal.TheVariants.{TooManyArgs}
use Rattle.rules.specs.Tree.{this_name, super_name, Expr, Exprs, ExprAssign, ExprCall, ExprGet, ExprInfix, Literal, ExprPrefix, ExprSet, ExprSuper, ExprVar, ◌∷ᵉ◌, count_exprs}
use Rattle.rules.specs.Reader.{got, Reader}
use Rattle.rules.specs.TreeFile.{expr_marks, read_exprs, read_expr}
use Rattle.rules.specs.Op as op
use Rattle.rules.specs.Chunk.{CS}
use Rattle.rules.specs.Compiler.{Compiler, Outcome, ok, err, Compile, go_on, ◌>>◌, return, done, need, emit_op_u8, emit_invoke, need_super, get_variable, call_method, call_super, call_value}
use Rattle.rules.specs.Compiler.{compile_expr, compile_exprs}
use Rattle.fields.specs.Words.{word16, letters}
use Rattle.tree_laws.proofs.Taken.{row, no_row}
use Rattle.tree_laws.proofs.Expressions.{RowAt, none_left, one_more, row_read, any_at, prefix_at, infix_at, get_at, assign_at, set_at, var_at, super_at, call_at, literal_at}
use Rattle.tree_laws.proofs.Deeper.{deeper}
use Rattle.steps.specs.View.{Mem, t_of, Rest, view, Agrees, Fit, steady, Ahead, Gave, Refused, Did}
use Rattle.steps.proofs.Steps.{went, valued, stuck, next, stop, halt, then_on, ahead_then, refused_seq, ask_seq, passed, failed}
use Rattle.expr_laws.specs.Exprs.{There, expr_at, Ran, Callee, on_object, on_super, on_value, callee_of, parts, first_part, part_count, open_callee, call_open, call_close, CallOpened, CallParts}
use Rattle.expr_laws.specs.Exprs.{CallClosed}
use Rattle.steps.proofs.Monad.{regroup, nothing}
use Rattle.fields.specs.Marks as marks
use Rattle.steps.proofs.Jumps.{ahead_none}
use Rattle.steps.specs.declared.Why.{Why}
use Rattle.steps.specs.Why.{too_many_args, refusal_of, told, Step}

-- ## The parts make the whole

-- one part and then the others, before what comes last
cut_first : (n : Outcome Unit) (a b c : Compile Unit) → go_on n (λ _. a >> (b >> c)) ≡ go_on (go_on n (λ _. done)) (λ _. (a >> b) >> c)
unfolding go_on done return ◌>>◌
cut_first (ok u s) a b c = sym (regroup (a s) (λ _. b) (λ _. c))
cut_first (err x) a b c = refl

cut_super : (n : Outcome Unit) (a b c d : Compile Unit) → go_on n (λ _. a >> (b >> (c >> d))) ≡ go_on (go_on n (λ _. a >> b)) (λ _. c >> d)
unfolding go_on ◌>>◌
cut_super (ok u s) a b c d = sym (regroup (a s) (λ _. b) (λ _. c >> d))
cut_super (err x) a b c d = refl

pub call_cut : (limit : ℕ) (span : Span) (callee : Expr) (args : Exprs) (s : Compiler)
    → compile_expr limit (ExprCall span callee args) s
    ≡ (call_open limit (callee_of callee) (count_exprs args) span >> (compile_exprs limit (parts (callee_of callee) callee args) >> call_close limit (callee_of callee) (count_exprs args) span)) s
unfolding compile_expr ◌>>◌ call_open open_callee call_close callee_of parts call_method call_super call_value
call_cut limit span (ExprGet sp name object) args s = cut_first (need (leb (count_exprs args) 255) (TooManyArgs span) s) (compile_expr limit object) (compile_exprs limit args) _
call_cut limit span (ExprSuper sp name) args s = cut_super (need (leb (count_exprs args) 255) (TooManyArgs span) s) (need_super span) (get_variable limit this_name span) (compile_exprs limit args) _
call_cut limit span (ExprAssign a b c) args s = cut_first (need (leb (count_exprs args) 255) (TooManyArgs span) s) (compile_expr limit (ExprAssign a b c)) (compile_exprs limit args) _
call_cut limit span (ExprCall a b c) args s = cut_first (need (leb (count_exprs args) 255) (TooManyArgs span) s) (compile_expr limit (ExprCall a b c)) (compile_exprs limit args) _
call_cut limit span (ExprInfix a b c d) args s = cut_first (need (leb (count_exprs args) 255) (TooManyArgs span) s) (compile_expr limit (ExprInfix a b c d)) (compile_exprs limit args) _
call_cut limit span (Literal a b) args s = cut_first (need (leb (count_exprs args) 255) (TooManyArgs span) s) (compile_expr limit (Literal a b)) (compile_exprs limit args) _
call_cut limit span (ExprPrefix a b c) args s = cut_first (need (leb (count_exprs args) 255) (TooManyArgs span) s) (compile_expr limit (ExprPrefix a b c)) (compile_exprs limit args) _
call_cut limit span (ExprSet a b c d) args s = cut_first (need (leb (count_exprs args) 255) (TooManyArgs span) s) (compile_expr limit (ExprSet a b c d)) (compile_exprs limit args) _
call_cut limit span (ExprVar a b) args s = cut_first (need (leb (count_exprs args) 255) (TooManyArgs span) s) (compile_expr limit (ExprVar a b)) (compile_exprs limit args) _

-- ## Which callee the bytes have

module _ (tree : List ℕ) (names d at : ℕ) {e : Expr} {n : ℕ} (r : read_expr tree names d at ≡ got e n) where
  pub object_of : (m : letters tree at ≡ marks.EG) → callee_of e ≡ on_object (word16 tree (at + 10)) (get_at tree names d at m r).object
  unfolding callee_of
  object_of m = ap callee_of (get_at tree names d at m r).is

  pub super_of : letters tree at ≡ marks.EU → callee_of e ≡ on_super (word16 tree (at + 10))
  unfolding callee_of
  super_of m = ap callee_of (super_at tree names d at m r).is

  pub value_of : (letters tree at ≡ marks.EG → ⊥) → (letters tree at ≡ marks.EU → ⊥) → callee_of e ≡ on_value
  unfolding callee_of expr_marks
  value_of g u =
      ⊎_elim (λ m. ap callee_of (assign_at tree names d at m r).is) (λ h.
      ⊎_elim (λ m. ap callee_of (call_at tree names d at m r).is) (λ h.
      ⊎_elim (λ m. absurd (g m)) (λ h.
      ⊎_elim (λ m. ap callee_of (infix_at tree names d at m r).is) (λ h.
      ⊎_elim (λ m. ap callee_of (literal_at tree names d at m r).is) (λ h.
      ⊎_elim (λ m. ap callee_of (prefix_at tree names d at m r).is) (λ h.
      ⊎_elim (λ m. ap callee_of (set_at tree names d at m r).is) (λ h.
      ⊎_elim (λ m. absurd (u m)) (λ h.
      ⊎_elim (λ m. ap callee_of (var_at tree names d at m r).is) (λ h. absurd (no_row _ h))
      (row _ _ _ _ h)) (row _ _ _ _ h)) (row _ _ _ _ h)) (row _ _ _ _ h)) (row _ _ _ _ h)) (row _ _ _ _ h)) (row _ _ _ _ h)) (row _ _ _ _ h))
      (row _ _ _ _ (any_at tree names d at r).look)

-- a callee's fields, counted from the call's record
twenty_two : (at : ℕ) → at + 12 + 10 ≡ at + 22
twenty_two at = omega arith

twenty_four : (at : ℕ) → at + 12 + 12 ≡ at + 24
twenty_four at = omega arith

-- a number of arguments that is a byte
pub low_byte : {n w : ℕ} → n ≡ w → w ≤ 255 → n % 256 ≡ w
low_byte {n} {w} q h = let b : n < 256 = omega arith in omega (arith, mod-eq_of_lt b)

-- every part stands after the call's first bytes
pub first_on : (k : Callee) (at : ℕ) → at < first_part k at
unfolding first_part
first_on (on_object name object) at = omega arith
first_on (on_super name) at = omega arith
first_on on_value at = omega arith

-- ## The parts as they are read

module _ (tree : List ℕ) (names d at : ℕ) {callee : Expr} {args : Exprs} {mid n : ℕ} (one : read_expr tree names d (at + 12) ≡ got callee mid)
    (many : read_exprs (word16 tree (at + 10)) (read_expr tree names d) mid ≡ got args n) where
  parts_as : {k : Callee} → callee_of callee ≡ k → read_exprs (part_count k (word16 tree (at + 10))) (read_expr tree names d) (first_part k at) ≡ got (parts k callee args) n
      → read_exprs (part_count (callee_of callee) (word16 tree (at + 10))) (read_expr tree names d) (first_part (callee_of callee) at) ≡ got (parts (callee_of callee) callee args) n
  parts_as q h = subst (λ (k : Callee). read_exprs (part_count k (word16 tree (at + 10))) (read_expr tree names d) (first_part k at) ≡ got (parts k callee args) n) (sym q) h

  object_parts : (m : letters tree (at + 12) ≡ marks.EG)
      → read_exprs (suc (word16 tree (at + 10))) (read_expr tree names d) (at + 24) ≡ got ((get_at tree names d (at + 12) m one).object ∷ᵉ args) n
  object_parts m =
      let i = get_at tree names d (at + 12) m one in
      row_read (read_expr tree names d) (word16 tree (at + 10))
      (deeper tree names d (at + 24) (any_at tree names d (at + 12) one).room (ap (read_expr tree names (d - 1)) (sym (twenty_four at)) ∙ i.one)) many

  super_parts : letters tree (at + 12) ≡ marks.EU → read_exprs (word16 tree (at + 10)) (read_expr tree names d) (at + 24) ≡ got args n
  super_parts m = ap (read_exprs (word16 tree (at + 10)) (read_expr tree names d)) (sym (twenty_four at) ∙ sym (super_at tree names d (at + 12) m one).end) ∙ many

  by_mark : (g u : Bool) → eqb (letters tree (at + 12)) marks.EG ≡ g → eqb (letters tree (at + 12)) marks.EU ≡ u
      → read_exprs (part_count (callee_of callee) (word16 tree (at + 10))) (read_expr tree names d) (first_part (callee_of callee) at) ≡ got (parts (callee_of callee) callee args) n
  unfolding part_count first_part parts
  by_mark true u p q = parts_as (object_of tree names d (at + 12) one (eqb-true _ _ p)) (object_parts (eqb-true _ _ p))
  by_mark false true p q = parts_as (super_of tree names d (at + 12) one (eqb-true _ _ q)) (super_parts (eqb-true _ _ q))
  by_mark false false p q = parts_as (value_of tree names d (at + 12) one (eqb-false _ _ p) (eqb-false _ _ q)) (row_read (read_expr tree names d) (word16 tree (at + 10)) one many)

  pub parts_read : read_exprs (part_count (callee_of callee) (word16 tree (at + 10))) (read_expr tree names d) (first_part (callee_of callee) at) ≡ got (parts (callee_of callee) callee args) n
  parts_read = by_mark _ _ refl refl

-- ## The ends of a call

as_open : {class limit l : ℕ} (at : ℕ) (span : Span) {before now : Mem} {r : Step} {c k : Callee} → c ≡ k → Did class limit l (first_part k at) steady (open_callee limit k span) before now r
    → Did class limit l (first_part c at) steady (open_callee limit c span) before now r
as_open {class} {limit} {l} at span {before} {now} {r} q d = subst (λ (k : Callee). Did class limit l (first_part k at) steady (open_callee limit k span) before now r) (sym q) d

as_close : {class limit l next : ℕ} (count : ℕ) (span : Span) {before now : Mem} {r : Step} {c k : Callee} → c ≡ k → Did class limit l next steady (call_close limit k count span) before now r
    → Did class limit l next steady (call_close limit c count span) before now r
as_close {class} {limit} {l} {next} count span {before} {now} {r} q d = subst (λ (k : Callee). Did class limit l next steady (call_close limit k count span) before now r) (sym q) d

name_is : (tree : List ℕ) (at n : ℕ) → n ≡ word16 tree (at + 22) → n ≡ word16 tree (at + 12 + 10)
name_is tree at n q = q ∙ ap (word16 tree) (sym (twenty_two at))

module _ {class limit l : ℕ} (tree : List ℕ) (at : ℕ) (span : Span) {before : Mem} where
  pub too_many : 255 < word16 tree (at + 10) → CallOpened class limit l tree at span before before (Err (too_many_args l span))
  unfolding call_open refusal_of
  too_many h = record {
    did = λ d e n r. stop before (refused_seq (failed (leb (word16 tree (at + 10)) 255) (too_many_args l span) refl (lt-leb _ _ h)) _);
    few = λ v q. let z : ◌≡◌ {A = ℕ} 0 1 = cc in absurd (omega arith);
  }

  -- whatever the callee is, the number of arguments is right
  few_open : {now : Mem} {r : Step} → word16 tree (at + 10) ≤ 255
      → ((d : ℕ) (e : Expr) (n : ℕ) → expr_at tree d (at + 12) ≡ got e n → Did class limit l (first_part (callee_of e) at) steady (open_callee limit (callee_of e) span) before now r)
      → CallOpened class limit l tree at span before now r
  unfolding call_open
  few_open h f = record {
    did = λ d e n r. ask_seq (passed (leb (word16 tree (at + 10)) 255) (TooManyArgs span) (le-leb _ _ h)) _ (f d e n r);
    few = λ v q. h;
  }

  pub super_stop : {now : Mem} {r : Step} {x : Why} {v : ℕ} → word16 tree (at + 10) ≤ 255 → letters tree (at + 12) ≡ marks.EU
      → Did class limit l v steady (need_super span) before now r → r ≡ Err x → CallOpened class limit l tree at span before now r
  unfolding open_callee
  super_stop h m d q = few_open h (λ k e n r. as_open at span (super_of tree _ k (at + 12) r m) (halt _ d q))

  pub super_open : {mid now : Mem} {r r' : Step} {v k : ℕ} → word16 tree (at + 10) ≤ 255 → letters tree (at + 12) ≡ marks.EU
      → Did class limit l k steady (need_super span) before mid r → r ≡ Ok v → Did class limit l (at + 24) steady (get_variable limit this_name span) mid now r'
      → CallOpened class limit l tree at span before now r'
  unfolding open_callee first_part
  super_open h m d q d' = few_open h (λ k e n r. as_open at span (super_of tree _ k (at + 12) r m) (then_on _ d q d'))

  pub object_open : Fit before l limit → word16 tree (at + 10) ≤ 255 → letters tree (at + 12) ≡ marks.EG → CallOpened class limit l tree at span before before (Ok (at + 24))
  unfolding open_callee first_part
  object_open fit h m = few_open h (λ k e n r. as_open at span (object_of tree _ k (at + 12) r m) (next (nothing fit)))

  pub value_open : Fit before l limit → word16 tree (at + 10) ≤ 255 → (letters tree (at + 12) ≡ marks.EG → ⊥) → (letters tree (at + 12) ≡ marks.EU → ⊥)
      → CallOpened class limit l tree at span before before (Ok (at + 12))
  unfolding open_callee first_part
  value_open fit h g u = few_open h (λ k e n r. as_open at span (value_of tree _ k (at + 12) r g u) (next (nothing fit)))

  pub close_super_stop : (next : ℕ) {now : Mem} {r : Step} {x : Why} {k : ℕ} → letters tree (at + 12) ≡ marks.EU → Did class limit l k steady (get_variable limit super_name span) before now r
      → r ≡ Err x
      → CallClosed class limit l tree at next span before now r
  unfolding call_close
  close_super_stop next m d q = record { did = λ k e n r. as_close _ span (super_of tree _ k (at + 12) r m) (halt _ d q) }

  module _ (next name count : ℕ) (c : count ≡ word16 tree (at + 10)) where
    pub close_super : {mid now : Mem} {r r' : Step} {k v : ℕ} → letters tree (at + 12) ≡ marks.EU → name ≡ word16 tree (at + 22)
        → Did class limit l k steady (get_variable limit super_name span) before mid r → r ≡ Ok v
        → Did class limit l next steady (emit_invoke limit op.SUPER_INVOKE (CS name) count span) mid now r' → CallClosed class limit l tree at next span before now r'
    unfolding call_close
    close_super {mid} {now} {r' = r'} m p d q d' = record {
      did = λ k e n r. as_close _ span (super_of tree _ k (at + 12) r m)
          (then_on _ d q (subst (λ (j : ℕ). Did class limit l next steady (emit_invoke limit op.SUPER_INVOKE (CS j) (word16 tree (at + 10)) span) mid now r') (name_is tree at name p)
          (subst (λ (j : ℕ). Did class limit l next steady (emit_invoke limit op.SUPER_INVOKE (CS name) j span) mid now r') c d')));
    }

    pub close_object : {now : Mem} {r' : Step} → letters tree (at + 12) ≡ marks.EG → name ≡ word16 tree (at + 22)
        → Did class limit l next steady (emit_invoke limit op.INVOKE (CS name) count span) before now r' → CallClosed class limit l tree at next span before now r'
    unfolding call_close
    close_object {now} {r'} m p d' = record {
      did = λ k e n r. as_close _ span (object_of tree _ k (at + 12) r m)
          (subst (λ (j : ℕ). Did class limit l next steady (emit_invoke limit op.INVOKE (CS j) (word16 tree (at + 10)) span) before now r') (name_is tree at name p)
          (subst (λ (j : ℕ). Did class limit l next steady (emit_invoke limit op.INVOKE (CS name) j span) before now r') c d'));
    }

  module _ (next count : ℕ) (c : count ≡ word16 tree (at + 10)) where
    pub close_value : {now : Mem} {r' : Step} → (letters tree (at + 12) ≡ marks.EG → ⊥) → (letters tree (at + 12) ≡ marks.EU → ⊥)
        → Did class limit l next steady (emit_op_u8 limit op.CALL count span) before now r' → CallClosed class limit l tree at next span before now r'
    unfolding call_close
    close_value {now} {r'} g u d' = record {
      did = λ k e n r. as_close _ span (value_of tree _ k (at + 12) r g u)
          (subst (λ (j : ℕ). Did class limit l next steady (emit_op_u8 limit op.CALL j span) before now r') c d');
    }

count_on : (tree : List ℕ) (at : ℕ) {r : ℕ} {c k : Callee} → c ≡ k → r ≡ part_count k (word16 tree (at + 10)) → r ≡ part_count c (word16 tree (at + 10))
count_on tree at q h = h ∙ ap (λ (k : Callee). part_count k (word16 tree (at + 10))) (sym q)

pub parts_super : (tree : List ℕ) (at : ℕ) {r : ℕ} → letters tree (at + 12) ≡ marks.EU → r ≡ word16 tree (at + 10) → CallParts tree at r
unfolding part_count
parts_super tree at m h = record { is = λ d e n r. count_on tree at (super_of tree _ d (at + 12) r m) h }

parts_if : (tree : List ℕ) (at : ℕ) {r : ℕ} (g : Bool) → eqb (letters tree (at + 12)) marks.EG ≡ g → (letters tree (at + 12) ≡ marks.EU → ⊥) → r ≡ suc (word16 tree (at + 10)) → CallParts tree at r
unfolding part_count
parts_if tree at true p u h = record { is = λ d e n r. count_on tree at (object_of tree _ d (at + 12) r (eqb-true _ _ p)) h }
parts_if tree at false p u h = record { is = λ d e n r. count_on tree at (value_of tree _ d (at + 12) r (eqb-false _ _ p) u) h }

pub parts_other : (tree : List ℕ) (at : ℕ) {r : ℕ} → (letters tree (at + 12) ≡ marks.EU → ⊥) → r ≡ word16 tree (at + 10) + 1 → CallParts tree at r
parts_other tree at u h = parts_if tree at _ refl u (h ∙ add-one (word16 tree (at + 10)))

-- ## The walk over the parts

-- from `before`, m comes to what compiling the parts that are left comes to from `now`
pub record Left (class limit l : ℕ) (expr : Reader Expr) (m : Compile Unit) (n : ℕ) (before now : Mem) (next left : ℕ) : Type 0 where
  pub es : Exprs
  pub is : read_exprs left expr next ≡ got es n
  pub same : (rest : Rest) → Agrees class before rest → m (view before l rest) ≡ compile_exprs limit es (view now l rest)
  pub agrees : (rest : Rest) → Agrees class before rest → Agrees class now rest
  pub ahead : Ahead l limit steady before now

-- of `count` parts from `from` on, `left` are still to be compiled, from `next` on
pub record Walk (class limit l : ℕ) (expr : Reader Expr) (count from : ℕ) (before now : Mem) (next left : ℕ) : Type 0 where
  pub fit : Fit now l limit
  pub to : (es : Exprs) (n : ℕ) → read_exprs count expr from ≡ got es n → Left class limit l expr (compile_exprs limit es) n before now next left

module _ {class limit l : ℕ} {expr : Reader Expr} {count from : ℕ} {before : Mem} where
  pub walk_start : Fit before l limit → {left : ℕ} → left ≡ count → Walk class limit l expr count from before before from left
  walk_start fit e = record { fit = fit; to = λ es n r. record { es = es; is = ap (λ (k : ℕ). read_exprs k expr from) e ∙ r; same = λ rest q. refl; agrees = λ rest q. q; ahead = ahead_none fit } }

  module _ {now : Mem} {next left : ℕ} (w : Walk class limit l expr count from before now next left) {es : Exprs} {n : ℕ} (r : read_exprs count expr from ≡ got es n) where
    -- one more is there
    head_of : 0 < left → RowAt expr (left - 1) next (w.to es n r).es n
    head_of h =
        let p : suc (left - 1) ≡ left = omega arith in
        one_more expr (left - 1) next (ap (λ (k : ℕ). read_exprs k expr next) p ∙ (w.to es n r).is)

    pub walk_there : 0 < left → There (expr next)
    walk_there h = let i = head_of h in record { thing = i.one; next = i.mid; is = i.head }

    pub walk_stop : {now' : Mem} {a : Step} {x : Why} → 0 < left → Ran class limit l (expr next) now now' a → a ≡ Err x → Refused class l (compile_exprs limit es) before (told (t_of now') x)
    unfolding compile_exprs
    walk_stop h b q =
        let i = head_of h in
        let o = w.to es n r in
        let f = refused_seq (stuck (b.did i.one i.mid i.head) q) (compile_exprs limit i.others) in
        record { refuses = λ rest g. o.same rest g ∙ ap (λ (z : Exprs). compile_exprs limit z (view now l rest)) i.is ∙ f.refuses rest (o.agrees rest g) }

    pub walk_done : left ≤ 0 → Gave class limit l steady (compile_exprs limit es) tt before now × (n ≡ next)
    unfolding compile_exprs done return
    walk_done h =
        let o = w.to es n r in
        let p : left ≡ 0 = omega arith in
        let e = none_left expr next (ap (λ (k : ℕ). read_exprs k expr next) (sym p) ∙ o.is) in (
          record { comes = λ rest g. o.same rest g ∙ ap (λ (z : Exprs). compile_exprs limit z (view now l rest)) e.0; agrees = o.agrees; ahead = o.ahead },
          e.1,
        )

  module _ {now : Mem} {next left : ℕ} (w : Walk class limit l expr count from before now next left) {now' : Mem} {a : Step} {v : ℕ} (h : 0 < left)
      (b : Ran class limit l (expr next) now now' a) (q : a ≡ Ok v) where
    step_left : {es : Exprs} {n : ℕ} → read_exprs count expr from ≡ got es n → Left class limit l expr (compile_exprs limit es) n before now' v (left - 1)
    unfolding compile_exprs ◌>>◌ go_on
    step_left {es} {n} r =
        let i = head_of w r h in
        let o = w.to es n r in
        let d = b.did i.one i.mid i.head in
        let g = went d q in
        record {
          es = i.others;
          is = ap (read_exprs (left - 1) expr) (valued d q) ∙ i.tail;
          same = λ rest z. o.same rest z ∙ ap (λ (x : Exprs). compile_exprs limit x (view now l rest)) i.is ∙ ap (λ (x : Outcome Unit). go_on x (λ _. compile_exprs limit i.others))
              (g.comes rest (o.agrees rest z));
          agrees = λ rest z. g.agrees rest (o.agrees rest z);
          ahead = ahead_then o.ahead g.ahead;
        }

    pub walk_step : Fit now' l limit → {less : ℕ} → less + 1 ≡ left → Walk class limit l expr count from before now' v less
    walk_step fit {less} e =
        let p : left - 1 ≡ less = omega arith in
        record { fit = fit; to = λ es n r. subst (Left class limit l expr (compile_exprs limit es) n before now' v) p (step_left r) }
