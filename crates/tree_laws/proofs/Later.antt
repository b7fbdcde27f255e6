-- What is read ends no earlier than it starts and no later than the file, whatever the bytes are: a walk over a file goes on, never back and never out.
use mathlib.Core.Path.{◌≡◌, sym, subst, ◌∙◌}
use mathlib.Core.Bool.{Bool, true, false}
use mathlib.Core.List.{List}
use Prim.Native.Nat.{ℕ, zero, suc, ◌+◌, ◌-◌, ◌*◌, ◌≤◌, ◌<◌}
use native.Mathlib.Omega.{arith}
use lib.ListN.{length}
use Rattle.rules.specs.declared.Span.{Span}
use Rattle.rules.specs.declared.Refusal.{Refusal}
use Rattle.rules.specs.declared.Refusal.TheVariants.{TreeForm}
use Rattle.rules.specs.Tree.{Expr, Stmt, Stmts, Fun}
use Rattle.rules.specs.Reader.{got, Reader, go_on, ◌>>=◌, ◌>>◌, return, here, need, one_of, u8, many}
use Rattle.rules.specs.TreeFile.{ExprMark, EA, EC, EG, EI, EL, EP, ES, EU, EV, LiteralKind, a_false, a_true, a_nil, a_number, a_string, infix_ops, prefix_ops, literal_kinds, name, flag, flags, maybe, maybe_stmt, read_exprs, read_stmts, read_methods, assign_fields, call_fields, get_fields, infix_fields, literal_of, literal_fields, prefix_fields, set_fields, super_fields, var_fields, expr_fields, expr_mark, expr_marks, expr_record, read_expr}
use Rattle.rules.specs.TreeFile.{StmtMark, SB, SC, SE, SF, SI, SO, SP, SR, SV, SW, Children, block_fields, class_fields, expression_fields, fun_fields, if_fields, for_fields, print_fields, return_fields, var_stmt_fields, while_fields, stmt_fields, stmt_mark, stmt_marks, stmt_record, read_superclass, read_stmt, read_method}
use Rattle.fields.proofs.Reading.{Field, found, bad_got, a_u8, a_u16, a_u64, a_span}
use Rattle.tree_laws.proofs.Taken.{pred_suc, first, got_next, chosen, kind_at, name_at}
use Rattle.tree_laws.proofs.Expressions.{never}
use Rattle.tree_laws.proofs.Statements.{kids, any_stmt_at, method_at, superclass_at}

-- a reader that goes on by so many bytes at least, and stays in a file of `len` bytes
pub record Later (len least : ℕ) {A : Type 0} (one : Reader A) : Type 0 where
  pub ends : (at : ℕ) {a : A} {n : ℕ} → one at ≡ got a n → at + least ≤ n
  pub within : (at : ℕ) {a : A} {n : ℕ} → at ≤ len → one at ≡ got a n → n ≤ len

-- ## One step and then another

add : (at x mid y n : ℕ) → at + x ≤ mid → mid + y ≤ n → at + (x + y) ≤ n
add at x mid y n p q = omega arith

same_place : (at n : ℕ) → at ≡ n → at + 0 ≤ n
same_place at n e = omega arith

still_in : (len at n : ℕ) → at ≤ len → at ≡ n → n ≤ len
still_in len at n h e = omega arith

found_on : {m n : ℕ} → n ≡ m → m ≤ n
found_on e = omega arith

found_in : {len m n : ℕ} → m ≤ len → n ≡ m → n ≤ len
found_in h e = omega arith

fewer : (at k n : ℕ) → at + k ≤ n → at + 0 ≤ n
fewer at k n h = omega arith

then : {A B : Type 0} {len x y : ℕ} {one : Reader A} → Later len x one → {f : A → Reader B} → ((a : A) → Later len y (f a)) → Later len (x + y) (one >>= f)
unfolding ◌>>=◌
then {one = one} h {f} k = record {
  ends = λ at e. let i = first (one at) f e in add at _ i.next _ _ (h.ends at i.is) ((k i.thing).ends i.next i.rest);
  within = λ at g e. let i = first (one at) f e in (k i.thing).within i.next (h.within at g i.is) i.rest;
}

-- where only the order counts
order : {len x : ℕ} {A : Type 0} {one : Reader A} → Later len x one → Later len 0 one
order {x = x} h = record { ends = λ at e. fewer at x _ (h.ends at e); within = h.within }

on : {A B : Type 0} {len x : ℕ} {one : Reader A} → Later len x one → {f : A → Reader B} → ((a : A) → Later len 0 (f a)) → Later len 0 (one >>= f)
on h k = order (then h k)

nothing : {A : Type 0} {len : ℕ} (a : A) → Later len 0 (return a)
unfolding return
nothing {len = len} a = record { ends = λ at e. same_place at _ (got_next e); within = λ at g e. still_in len at _ g (got_next e) }

needed : {A : Type 0} {len x : ℕ} (b : Bool) (r : Refusal) {one : Reader A} → Later len x one → Later len x (need b r >> one)
unfolding need ◌>>◌ go_on
needed true r h = record { ends = λ at e. h.ends at e; within = λ at g e. h.within at g e }
needed false r h = record { ends = λ at e. absurd (bad_got e); within = λ at g e. absurd (bad_got e) }

-- ## Rows, and what a flag announces

row : {len : ℕ} {one : Reader Expr} → Later len 0 one → (count : ℕ) → Later len 0 (read_exprs count one)
unfolding read_exprs
row h zero = nothing _
row h (suc count) = on h (λ e. on (row h count) (λ es. nothing _))

pub stmts_later : {len x : ℕ} {one : Reader Stmt} → Later len x one → (count : ℕ) → Later len 0 (read_stmts count one)
unfolding read_stmts
stmts_later h zero = nothing _
stmts_later h (suc count) = on h (λ e. on (stmts_later h count) (λ es. nothing _))

methods_later : {len x : ℕ} {one : Reader (Span × Fun)} → Later len x one → (count : ℕ) → Later len 0 (read_methods count one)
unfolding read_methods
methods_later h zero = nothing _
methods_later h (suc count) = on h (λ p. on (methods_later h count) (λ es. nothing _))

maybe_later : {A : Type 0} {len x : ℕ} {one : Reader A} → Later len x one → (b : Bool) → Later len 0 (maybe b one)
unfolding maybe
maybe_later h true = on h (λ a. nothing _)
maybe_later h false = nothing _

maybe_stmt_later : {len x : ℕ} {one : Reader Stmt} → Later len x one → (b : Bool) → Later len 0 (maybe_stmt b one)
unfolding maybe_stmt
maybe_stmt_later h true = on h (λ a. nothing _)
maybe_stmt_later h false = nothing _

module _ (tree : List ℕ) where
  -- ## Fields

  a_field : {A : Type 0} {field : Refusal → Reader A} {k : ℕ} {value : ℕ → A} → Field tree field k value → (x : Refusal) → Later (length tree) k (field x)
  a_field one x = record { ends = λ at e. found_on (found tree one e).on; within = λ at g e. found_in (found tree one e).bound (found tree one e).on }

  choice : {A : Type 0} (x : Refusal) (table : List (ℕ × A)) → Later (length tree) 1 (u8 tree x >>= one_of x table)
  choice x table = record { ends = λ at e. found_on (chosen tree x table at e).on; within = λ at g e. found_in (chosen tree x table at e).bound (chosen tree x table at e).on }

  a_flag : (x : Refusal) → Later (length tree) 1 (flag tree x)
  unfolding flag
  a_flag x = choice x flags

  module _ (names : ℕ) where
    a_name : (x : Refusal) → Later (length tree) 2 (name tree names x)
    a_name x = record { ends = λ at e. found_on (name_at tree names x at e).field.on; within = λ at g e. found_in (name_at tree names x at e).field.bound (name_at tree names x at e).field.on }

    an_expr_mark : (x : Refusal) → Later (length tree) 2 (expr_mark tree names x)
    unfolding expr_mark
    an_expr_mark x = record { ends = λ at e. found_on (kind_at tree x expr_marks at e).on; within = λ at g e. found_in (kind_at tree x expr_marks at e).bound (kind_at tree x expr_marks at e).on }

    a_stmt_mark : (x : Refusal) → Later (length tree) 2 (stmt_mark tree names x)
    unfolding stmt_mark
    a_stmt_mark x = record { ends = λ at e. found_on (kind_at tree x stmt_marks at e).on; within = λ at g e. found_in (kind_at tree x stmt_marks at e).bound (kind_at tree x stmt_marks at e).on }

    times : (at mid n count : ℕ) → mid ≡ at + 2 → n ≡ mid + 2 * count → n ≡ at + 2 * suc count
    times at mid n count p q = omega arith

    pub later_names : (x : Refusal) (count at : ℕ) {ns : List ℕ} {n : ℕ} → many count (name tree names x) at ≡ got ns n → n ≡ at + 2 * count
    unfolding many ◌>>=◌ return
    later_names x zero at e = let z = got_next e in omega arith
    later_names x (suc count) at e =
        let i = first (name tree names x at) _ e in
        let j = first (many count (name tree names x) i.next) _ i.rest in
        sym (got_next j.rest) ∙ times at i.next j.next count (name_at tree names x at i.is).field.on (later_names x count i.next j.is)

    names_in : (x : Refusal) (count at : ℕ) {ns : List ℕ} {n : ℕ} → at ≤ length tree → many count (name tree names x) at ≡ got ns n → n ≤ length tree
    unfolding many ◌>>=◌ return
    names_in x zero at g e = still_in (length tree) at _ g (got_next e)
    names_in x (suc count) at g e =
        let i = first (name tree names x at) _ e in
        let j = first (many count (name tree names x) i.next) _ i.rest in
        still_in (length tree) j.next _ (names_in x count i.next ((a_name x).within at g i.is) j.is) (got_next j.rest)

    names_later : (x : Refusal) (count : ℕ) → Later (length tree) 0 (many count (name tree names x))
    names_later x count = record { ends = λ at e. let z = later_names x count at e in omega arith; within = names_in x count }

    -- ## Expressions

    literal_later : (x : Refusal) (k : LiteralKind) → Later (length tree) 0 (literal_of tree names x k)
    unfolding literal_of
    literal_later x a_false = nothing _
    literal_later x a_true = nothing _
    literal_later x a_nil = nothing _
    literal_later x a_number = on (a_field (a_u64 tree) x) (λ n. needed _ x (nothing _))
    literal_later x a_string = on (a_name x) (λ n. nothing _)

    expr_fields_later : {one : Reader Expr} → Later (length tree) 0 one → (x : Refusal) (k : ExprMark) (s : Span) → Later (length tree) 0 (expr_fields tree names one x k s)
    unfolding expr_fields assign_fields call_fields get_fields infix_fields literal_fields prefix_fields set_fields super_fields var_fields
    expr_fields_later h x EA s = on (a_name x) (λ n. on h (λ e. nothing _))
    expr_fields_later h x EC s = on (a_field (a_u16 tree) x) (λ n. on h (λ e. on (row h n) (λ es. nothing _)))
    expr_fields_later h x EG s = on (a_name x) (λ n. on h (λ e. nothing _))
    expr_fields_later h x EI s = on (choice x infix_ops) (λ o. on h (λ e. on h (λ e. nothing _)))
    expr_fields_later h x EL s = on (choice x literal_kinds) (λ k. on (literal_later x k) (λ e. nothing _))
    expr_fields_later h x EP s = on (choice x prefix_ops) (λ o. on h (λ e. nothing _))
    expr_fields_later h x ES s = on (a_name x) (λ n. on h (λ e. on h (λ e. nothing _)))
    expr_fields_later h x EU s = on (a_name x) (λ n. nothing _)
    expr_fields_later h x EV s = on (a_name x) (λ n. nothing _)

    expr_record_later : {one : Reader Expr} → Later (length tree) 0 one → (x : Refusal) → Later (length tree) 0 (expr_record tree names one x)
    unfolding expr_record
    expr_record_later h x = on (an_expr_mark x) (λ k. on (a_field (a_span tree) x) (expr_fields_later h x k))

    expr_later : (d : ℕ) → Later (length tree) 0 (read_expr tree names d)
    unfolding read_expr ◌>>=◌ here go_on
    expr_later zero = record { ends = λ at e. absurd (never tree names at e); within = λ at g e. absurd (never tree names at e) }
    expr_later (suc d) = record { ends = λ at e. (expr_record_later (expr_later d) (TreeForm at)).ends at e; within = λ at g e. (expr_record_later (expr_later d) (TreeForm at)).within at g e }

    plain : (at n : ℕ) → at + 0 ≤ n → at ≤ n
    plain at n h = omega arith

    pub later_expr : (d at : ℕ) {e : Expr} {n : ℕ} → read_expr tree names d at ≡ got e n → at ≤ n
    later_expr d at e = plain at _ ((expr_later d).ends at e)

    -- ## Statements

    superclass_later : (d : ℕ) → Later (length tree) 0 (read_superclass tree names d)
    superclass_later d = record {
      ends = λ at e. let z = (superclass_at tree names d at e).end in omega arith;
      within = λ at g e. found_in
          (superclass_at tree names d at e).bound (superclass_at tree names d at e).end;
    }

    fun_later : {x : ℕ} {inner : Reader Stmt} → Later (length tree) x inner → (r : Refusal) → Later (length tree) 6 (fun_fields tree names inner r)
    unfolding fun_fields
    fun_later h r = then (a_name r) (λ n. then (a_field (a_u16 tree) r) (λ k. then (names_later r k) (λ ns. then (a_field (a_u16 tree) r) (λ k. on (stmts_later h k) (λ ss. nothing _)))))

    stmt_fields_later : (read : Children) → Later (length tree) 0 read.expr → Later (length tree) 0 read.superclass → Later (length tree) 0 read.stmt →
        Later (length tree) 0 read.inner → Later (length tree) 0 read.one_method
        → (x : Refusal) (k : StmtMark) (s : Span) → Later (length tree) 0 (stmt_fields tree names read x k s)
    unfolding stmt_fields block_fields class_fields expression_fields if_fields for_fields print_fields return_fields var_stmt_fields while_fields
    stmt_fields_later read e c s i m x SB p = on (a_field (a_u16 tree) x) (λ n. on (stmts_later s n) (λ ss. nothing _))
    stmt_fields_later read e c s i m x SC p = on (a_name x) (λ n. on (a_flag x) (λ b. on (a_field (a_u16 tree) x) (λ n. on (maybe_later c b) (λ o. on (methods_later m n) (λ ms. nothing _)))))
    stmt_fields_later read e c s i m x SE p = on e (λ v. nothing _)
    stmt_fields_later read e c s i m x SF p = on (fun_later i x) (λ f. nothing _)
    stmt_fields_later read e c s i m x SI p = on (a_flag x) (λ b. on e (λ v. on s (λ t. on (maybe_stmt_later s b) (λ ss. nothing _))))
    stmt_fields_later read e c s i m x SO p =
        on (a_field (a_u8 tree) x) (λ n. needed _ x (on (maybe_stmt_later s _) (λ t. on (maybe_later e _) (λ v. on s (λ t. on (maybe_later e _) (λ v. nothing _))))))
    stmt_fields_later read e c s i m x SP p = on e (λ v. nothing _)
    stmt_fields_later read e c s i m x SR p = on (a_flag x) (λ b. on (maybe_later e b) (λ v. nothing _))
    stmt_fields_later read e c s i m x SV p = on (a_name x) (λ n. on (a_flag x) (λ b. on (maybe_later e b) (λ v. nothing _)))
    stmt_fields_later read e c s i m x SW p = on e (λ v. on s (λ t. nothing _))

    sixteen : (at n : ℕ) → at + 10 + 6 ≤ n → at + 16 ≤ n
    sixteen at n h = omega arith

    no_room : 0 < 0 → ⊥
    no_room h = omega arith

    -- statements and methods, with so many levels left
    record Level (d : ℕ) : Type 0 where
      stmt : (funs : ℕ) → Later (length tree) 10 (read_stmt tree names d funs)
      method : (funs : ℕ) → Later (length tree) 16 (read_method tree names d funs)

    stmt_record_later : (d : ℕ) → Level d → (funs start : ℕ) → Later (length tree) 10 (stmt_record tree names (kids tree names d funs) funs start)
    unfolding stmt_record
    stmt_record_later d l funs start =
        then (a_stmt_mark (TreeForm start)) (λ k. needed _ _ (then (a_field (a_span tree) (TreeForm start))
        (stmt_fields_later (kids tree names d funs) (expr_later d) (superclass_later d) (order (l.stmt funs)) (order (l.stmt (funs - 1))) (order (l.method funs)) (TreeForm start) k)))

    -- one level less than one more
    same_level : (d funs : ℕ) → Later (length tree) 10 (read_stmt tree names d funs) → Later (length tree) 10 (read_stmt tree names (suc d - 1) funs)
    same_level d funs h = subst (λ (j : ℕ). Later (length tree) 10 (read_stmt tree names j funs)) (sym (pred_suc d)) h

    level : (d : ℕ) → Level d
    unfolding read_stmt ◌>>=◌ here go_on
    level zero = record {
      stmt = λ funs. record { ends = λ at e. absurd (no_room (any_stmt_at tree names zero funs at e).room); within = λ at g e. absurd (no_room (any_stmt_at tree names zero funs at e).room) };
      method = λ funs. record { ends = λ at e. absurd (no_room (method_at tree names zero funs at e).room); within = λ at g e. absurd (no_room (method_at tree names zero funs at e).room) };
    }
    level (suc d) =
        let l = level d in
        record {
          stmt = λ funs. record { ends = λ at e. (stmt_record_later d l funs at).ends at e; within = λ at g e. (stmt_record_later d l funs at).within at g e };
          method = λ funs. record {
            ends = λ at e. sixteen at _ ((fun_later (same_level d (funs - 1) (l.stmt (funs - 1))) (TreeForm at)).ends (at + 10) (method_at tree names (suc d) funs at e).one);
            within = λ at g e. let m = method_at tree names (suc d) funs at e in (fun_later (same_level d (funs - 1) (l.stmt (funs - 1))) (TreeForm at)).within (at + 10) m.bound m.one;
          };
        }

    pub later_stmt : (d funs at : ℕ) {s : Stmt} {n : ℕ} → read_stmt tree names d funs at ≡ got s n → at + 10 ≤ n
    later_stmt d funs at e = ((level d).stmt funs).ends at e

    pub later_stmts : (count d funs at : ℕ) {ss : Stmts} {n : ℕ} → read_stmts count (read_stmt tree names d funs) at ≡ got ss n → at ≤ n
    later_stmts count d funs at e = plain at _ ((stmts_later ((level d).stmt funs) count).ends at e)

    pub within_stmts : (count d funs at : ℕ) {ss : Stmts} {n : ℕ} → at ≤ length tree → read_stmts count (read_stmt tree names d funs) at ≡ got ss n → n ≤ length tree
    within_stmts count d funs at g e = (stmts_later ((level d).stmt funs) count).within at g e

    pub later_method : (d funs at : ℕ) {m : Span × Fun} {n : ℕ} → read_method tree names d funs at ≡ got m n → at + 16 ≤ n
    later_method d funs at e = ((level d).method funs).ends at e
