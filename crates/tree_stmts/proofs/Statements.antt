-- Where a statement or a method ends: its fields, and then the records that they announce. One law for each way out of each kind's fields, and
-- of a record.
use mathlib.Core.Path.{◌≡◌, refl, sym, ap, ◌∙◌}
use mathlib.Core.Bool.{Bool, true, false}
use mathlib.Core.Option.{Option, none, some}
use mathlib.Core.List.{List, ◌∷◌, []}
use mathlib.Core.Logic.{◌⊎◌, inl, inr, ⊎_elim}
use Prim.Native.Nat.{ℕ, zero, suc, ◌+◌, ◌-◌, ◌/◌, ◌%◌, ◌≤◌, ◌<◌}
use native.Mathlib.Omega.{arith}
use lib.ListN.{length}
use lib.Dec.{ltb, leb, eqb, lit<}
use native.Mathlib.Nat.{mod-lt}
use borrow.Author.Tests.{lt-ltb, le-ltb, leb-true, leb-false, ltb-true, ltb-false, eqb-true, eqb-false, ne_eqb}
use types.Run.{OneOf}
use Rattle.rules.specs.Base.{lookup, all}
use Rattle.std.specs.Prelude.{if◌then◌else◌}
use Rattle.rules.specs.declared.Span.{Span}
use Rattle.rules.specs.declared.Refusal.{Refusal}
use Rattle.rules.specs.declared.Refusal.TheVariants.{TreeForm, TreeTooDeep, TooManyOpen}
use Rattle.rules.specs.Tree.{Expr, Stmt, Stmts, StmtFor, ◌∷ˢ◌, []ˢ}
use Rattle.rules.specs.Reader.{Read, got, bad, Reader, go_on, ◌>>=◌, ◌>>◌, return, refuse, here, need, one_of, u8, u16, mark, span, mark_is, many}
use Rattle.rules.specs.TreeFile.{StmtMark, SB, SC, SE, SF, SI, SO, SP, SR, SV, SW, stmt_marks, flags, flag, name, maybe, maybe_stmt, may_open, read_stmts, read_methods, block_fields}
use Rattle.rules.specs.TreeFile.{class_fields, expression_fields, fun_fields, if_fields, for_fields, print_fields, return_fields, var_stmt_fields, while_fields, stmt_fields, stmt_mark}
use Rattle.rules.specs.TreeFile.{EV, expr_marks, expr_mark, expr_fields, expr_record, var_fields, stmt_record, method_record, read_expr, read_superclass, read_stmt, read_method}
use Rattle.fields.specs.Words.{word8, letters, span_of}
use Rattle.fields.proofs.Reading.{a_u8, a_mark, a_span, then_on, then_bad, bad_got, mark_is_it, mark_is_not, mark_is_cut}
use Rattle.tree_small.specs.Places.{place, and_then, row, below, known_mark}
use Rattle.tree_stmts.specs.Stmts.{method_marks, known_stmt, plain, body_from, stmt_place, kids_place, follow_head, children, ClassKids, FunKids, IfKids, ForKids}
use Rattle.tree_stmts.specs.Stmts.{ValueKids, VarKids, StmtKids, StmtOpens}
use Rattle.std.specs.Prelude.{Result, Ok, Err, None, Some}
use Rattle.tree_stmts.specs.declared.Head.{Head}
use Rattle.tree_small.proofs.Places.{chain, made, goes, stops, and_then_end, and_then_same, row_one, row_some, stmts_row, methods_row, many_row}
use Rattle.tree_exprs.proofs.Expressions.{same_place}
use Rattle.tree_small.proofs.Tables.{if_true, none_some, one_of_is, known_not, outside, Marked, known_some, known_none, known_is, alike, full_flags, below_is, below_big, below_short}
use Rattle.fields.specs.Marks as marks

pub moved : {A : Type 0} {a : A} {r : Read A} {n m : ℕ} → r ≡ got a n → n ≡ m → r ≡ got a m
moved {a = a} e h = e ∙ ap (got a) h

-- ## Flags

module _ (tree : List ℕ) (fault : Refusal) (at : ℕ) where
  pub flag_no : below tree 2 fault at ≡ bad fault → flag tree fault at ≡ bad fault
  unfolding flag
  flag_no e = (alike tree full_flags fault at).no e

  pub flag_is : (v : ℕ) {n : ℕ} → v < 2 → below tree 2 fault at ≡ got v n → flag tree fault at ≡ got (eqb v 1) n
  unfolding flag flags lookup
  flag_is zero h e = (alike tree full_flags fault at).is e refl
  flag_is (suc zero) h e = (alike tree full_flags fault at).is e refl
  flag_is (suc (suc v)) h e = absurd (omega arith)

  -- a bound on a byte, and then the rest
  needs_if : (most : ℕ) {B : Type 0} (k : ℕ → Reader B) (t s : Bool) → leb (at + 1) (length tree) ≡ t → ltb (word8 tree at) most ≡ s
      → {v n : ℕ} → below tree most fault at ≡ got v n → go_on (u8 tree fault at) (λ p. need (ltb p most) fault >> k p) ≡ k v n
  unfolding ◌>>◌ need go_on
  needs_if most k true true h l {v} {n} e =
      let w = leb-true _ _ h in
      let q : got (word8 tree at) (at + 1) ≡ got v n = sym (below_is tree most fault at w (ltb-true _ _ l)) ∙ e in
      let y : word8 tree at ≡ v = cc in
      let z : at + 1 ≡ n = cc in
      then_on _ ((a_u8 tree).whole fault at w) ∙ rw l (ap (λ (p : ℕ). k p (at + 1)) y ∙ ap (k v) z)
  needs_if most k true false h l e = absurd (bad_got (sym (below_big tree most fault at (leb-true _ _ h) (ltb-false _ _ l)) ∙ e))
  needs_if most k false s h l e = absurd (bad_got (sym (below_short tree most fault at (leb-false _ _ h)) ∙ e))

  needs : (most : ℕ) {B : Type 0} (k : ℕ → Reader B) {v n : ℕ} → below tree most fault at ≡ got v n → go_on (u8 tree fault at) (λ p. need (ltb p most) fault >> k p) ≡ k v n
  needs most k e = needs_if most k _ _ refl refl e

  needs_no_if : (most : ℕ) {B : Type 0} (k : ℕ → Reader B) (t s : Bool) → leb (at + 1) (length tree) ≡ t → ltb (word8 tree at) most ≡ s
      → below tree most fault at ≡ bad fault → go_on (u8 tree fault at) (λ p. need (ltb p most) fault >> k p) ≡ bad fault
  unfolding ◌>>◌ need go_on
  needs_no_if most k true true h l e = absurd (bad_got (sym e ∙ below_is tree most fault at (leb-true _ _ h) (ltb-true _ _ l)))
  needs_no_if most k true false h l e = then_on _ ((a_u8 tree).whole fault at (leb-true _ _ h)) ∙ rw l
  needs_no_if most k false s h l e = then_bad _ ((a_u8 tree).short fault at (leb-false _ _ h))

  needs_no : (most : ℕ) {B : Type 0} (k : ℕ → Reader B) → below tree most fault at ≡ bad fault → go_on (u8 tree fault at) (λ p. need (ltb p most) fault >> k p) ≡ bad fault
  needs_no most k e = needs_no_if most k _ _ refl refl e

-- what is made of a thing that comes second ends where it does
made_inside : {A B C : Type 0} (r : Read A) (f : A → Reader B) (make : A → B → C) → place (go_on r (λ a. f a >>= λ b. return (make a b))) ≡ place (go_on r f)
unfolding go_on place ◌>>=◌
made_inside (got a n) f make = made (f a n) (make a)
made_inside (bad x) f make = refl

maybe_count : {A : Type 0} (one : Reader A) (v at : ℕ) → v < 2 → place (maybe (eqb v 1) one at) ≡ row (λ n. place (one n)) v at
unfolding maybe return place row ◌>>=◌
maybe_count one zero at h = refl
maybe_count one (suc zero) at h = made (one at) some ∙ sym (and_then_end (place (one at)))
maybe_count one (suc (suc v)) at h = absurd (omega arith)

maybe_stmt_count : (one : Reader Stmt) (v at : ℕ) → v < 2 → place (maybe_stmt (eqb v 1) one at) ≡ row (λ n. place (one n)) v at
unfolding maybe_stmt return place row ◌>>=◌
maybe_stmt_count one zero at h = refl
maybe_stmt_count one (suc zero) at h = made (one at) (λ s. s ∷ˢ []ˢ) ∙ sym (and_then_end (place (one at)))
maybe_stmt_count one (suc (suc v)) at h = absurd (omega arith)

under_two : (v : ℕ) → v < 8 → v / 4 < 2
under_two v h = omega arith

-- ## Announced records

module _ (tree : List ℕ) (names depth : ℕ) where
  abbrev e_place : ℕ → Result ℕ Refusal
  e_place n = place (read_expr tree names depth n)

  plain_place : (at cond body funs : ℕ) (methods : Bool)
      → follow_head tree names depth (Ok (plain at cond body funs methods)) ≡ and_then (row e_place cond at) (row (stmt_place tree names depth funs methods) body)
  unfolding follow_head plain kids_place row and_then
  plain_place at cond body funs methods =
      and_then_same (row e_place cond at) _ _ (λ n. and_then_end (row (stmt_place tree names depth funs methods) body n))

  -- statements alone
  plain_stmts : (at body funs : ℕ) (methods : Bool) → follow_head tree names depth (Ok (plain at 0 body funs methods)) ≡ row (stmt_place tree names depth funs methods) body at
  unfolding row and_then
  plain_stmts at body funs methods = plain_place at 0 body funs methods

  pub stmts_place : (funs count at : ℕ) → place (read_stmts count (read_stmt tree names depth funs) at) ≡ row (stmt_place tree names depth funs false) count at
  unfolding stmt_place
  stmts_place funs count at = stmts_row (read_stmt tree names depth funs) count at

  methods_place : (funs count at : ℕ) → place (read_methods count (read_method tree names depth funs) at) ≡ row (stmt_place tree names depth funs true) count at
  unfolding stmt_place
  methods_place funs count at = methods_row (read_method tree names depth funs) count at

-- ## By kind: what each way out of the fields announces

module _ (tree : List ℕ) (start : ℕ) where
  pub value_no : {at : ℕ} → below tree 2 (TreeForm start) at ≡ bad (TreeForm start) → ValueKids tree start at (Err (TreeForm start))
  unfolding ◌>>=◌ place follow_head
  value_no {at} e = record { whole = λ names depth. ap place (then_bad _ (flag_no tree (TreeForm start) at e)) }

  pub value_is : {v at next : ℕ} → v < 2 → below tree 2 (TreeForm start) at ≡ got v next → ValueKids tree start at (Ok (Head.Exprs next v))
  unfolding ◌>>=◌ follow_head
  value_is {v} {at} {next} h e =
      record {
        whole = λ names depth.
            ap place (then_on _ (flag_is tree (TreeForm start) at v h e)) ∙ maybe_count (read_expr tree names depth) v next h;
      }

  return_from : {r : Result Head Refusal} → ValueKids tree start (start + 10) r → (names depth : ℕ) (s : Span)
      → place (return_fields tree names (read_expr tree names depth) (TreeForm start) s (start + 10)) ≡ follow_head tree names depth r
  unfolding return_fields ◌>>=◌
  return_from v names depth s = made_inside (flag tree (TreeForm start) (start + 10)) (λ has. maybe has (read_expr tree names depth)) _ ∙ v.whole names depth

  module _ (names : ℕ) where
    pub var_unnamed : name tree names (TreeForm start) (start + 10) ≡ bad (TreeForm start) → VarKids tree names start (Err (TreeForm start))
    unfolding var_stmt_fields ◌>>=◌ place follow_head
    var_unnamed e = record { whole = λ depth s. ap place (then_bad _ e) }

    pub var_from : {nm next : ℕ} {r : Result Head Refusal} → name tree names (TreeForm start) (start + 10) ≡ got nm next → ValueKids tree start next r
        → VarKids tree names start r
    unfolding var_stmt_fields ◌>>=◌
    var_from {next = next} e v =
        record {
          whole = λ depth s.
              ap place (then_on _ e) ∙ made_inside (flag tree (TreeForm start) next) (λ has. maybe has (read_expr tree names depth)) _ ∙ v.whole names depth;
        }

module _ (tree : List ℕ) (start funs : ℕ) where
  pub if_no : below tree 2 (TreeForm start) (start + 10) ≡ bad (TreeForm start) → IfKids tree start funs (Err (TreeForm start))
  unfolding if_fields ◌>>=◌ place follow_head
  if_no e = record { whole = λ names depth s. ap place (then_bad _ (flag_no tree (TreeForm start) (start + 10) e)) }

  row_more : (one : ℕ → Result ℕ Refusal) (v at : ℕ) → row one (1 + v) at ≡ and_then (one at) (row one v)
  row_more one v at =
      let q : 1 + v - 1 ≡ v = omega arith in
      row_some one (1 + v) at (omega arith) ∙ ap (λ (k : ℕ). and_then (one at) (row one k)) q

  pub if_is : {v at : ℕ} {r : Result Head Refusal} → v < 2 → below tree 2 (TreeForm start) (start + 10) ≡ got v at → r ≡ Ok (plain at 1 (1 + v) funs false) → IfKids tree start funs r
  unfolding if_fields ◌>>=◌ stmt_place
  if_is {v} {at} h e q =
      record {
        whole = λ names depth s.
            ap place (then_on _ (flag_is tree (TreeForm start) (start + 10) v h e)) ∙
            chain (read_expr tree names depth at) _ (row (stmt_place tree names depth funs false) (1 + v))
            (λ c n. chain (read_stmt tree names depth funs n) _ (row (stmt_place tree names depth funs false) v)
            (λ y m. made (maybe_stmt (eqb v 1) (read_stmt tree names depth funs) m) _ ∙ maybe_stmt_count (read_stmt tree names depth funs) v m h) ∙
            sym (row_more (stmt_place tree names depth funs false) v n)) ∙
            ap (λ x. and_then x (row (stmt_place tree names depth funs false) (1 + v))) (sym (row_one (e_place tree names depth) at)) ∙
            sym (plain_place tree names depth at 1 (1 + v) funs false) ∙ ap (follow_head tree names depth) (sym q);
      }

  pub for_no : below tree 8 (TreeForm start) (start + 10) ≡ bad (TreeForm start) → ForKids tree start funs (Err (TreeForm start))
  unfolding for_fields ◌>>=◌ place follow_head
  for_no e = record { whole = λ names depth s. ap place (needs_no tree (TreeForm start) (start + 10) 8 _ e) }

  -- the parts of a for, from its number
  for_from : (names depth v at : ℕ) (s : Span) → v % 2 < 2 → v / 2 % 2 < 2 → v / 4 < 2 → {x : Read Stmt}
      → x ≡ (maybe_stmt (eqb (v % 2) 1) (read_stmt tree names depth funs) >>= λ init. maybe (eqb (v / 2 % 2) 1) (read_expr tree names depth) >>= λ cond.
      read_stmt tree names depth funs >>= λ body. maybe (eqb (v / 4) 1) (read_expr tree names depth) >>= λ incr. return (StmtFor s init cond body incr)) at
      → place x ≡ and_then (row (stmt_place tree names depth funs false) (v % 2) at) (λ n. and_then (row (e_place tree names depth) (v / 2 % 2) n)
      (λ n. and_then (row (stmt_place tree names depth funs false) 1 n) (λ n. row (e_place tree names depth) (v / 4) n)))
  unfolding ◌>>=◌ stmt_place
  for_from names depth v at s a b c e =
      ap place e ∙
      chain (maybe_stmt (eqb (v % 2) 1) (read_stmt tree names depth funs) at) _ (λ n. and_then (row (e_place tree names depth) (v / 2 % 2) n)
      (λ n. and_then (row (stmt_place tree names depth funs false) 1 n) (λ n. row (e_place tree names depth) (v / 4) n)))
      (λ i n. chain (maybe (eqb (v / 2 % 2) 1) (read_expr tree names depth) n) _ (λ n. and_then (row (stmt_place tree names depth funs false) 1 n) (λ n. row (e_place tree names depth) (v / 4) n))
      (λ d m. chain (read_stmt tree names depth funs m) _ (λ n. row (e_place tree names depth) (v / 4) n)
      (λ y k. made (maybe (eqb (v / 4) 1) (read_expr tree names depth) k) _ ∙ maybe_count (read_expr tree names depth) (v / 4) k c) ∙
      ap (λ x. and_then x (λ n. row (e_place tree names depth) (v / 4) n)) (sym (row_one (stmt_place tree names depth funs false) m))) ∙
      ap (λ x. and_then x (λ n. and_then (row (stmt_place tree names depth funs false) 1 n) (λ n. row (e_place tree names depth) (v / 4) n)))
      (maybe_count (read_expr tree names depth) (v / 2 % 2) n b)) ∙
      ap (λ x. and_then x (λ n. and_then (row (e_place tree names depth) (v / 2 % 2) n)
      (λ n. and_then (row (stmt_place tree names depth funs false) 1 n) (λ n. row (e_place tree names depth) (v / 4) n))))
      (maybe_stmt_count (read_stmt tree names depth funs) (v % 2) at a)

  pub for_is : {v at : ℕ} → v < 8 → below tree 8 (TreeForm start) (start + 10) ≡ got v at
      → ForKids tree start funs (Ok (Head.Kids (record { at = at; init = v % 2; cond = v / 2 % 2; body = 1; incr = v / 4; funs = funs; methods = false })))
  unfolding for_fields ◌>>=◌ follow_head kids_place
  for_is {v} {at} h e =
      record {
        whole = λ names depth s.
            for_from names depth v at s (mod-lt v (lit< tt)) (mod-lt (v / 2) (lit< tt)) (under_two v h) (needs tree (TreeForm start) (start + 10) 8 _ e);
      }

  module _ (names : ℕ) where
    -- ## A class

    module _ (depth : ℕ) where
      pub class_unnamed : name tree names (TreeForm start) (start + 10) ≡ bad (TreeForm start) → ClassKids tree names depth start funs (Err (TreeForm start))
      unfolding class_fields ◌>>=◌ place follow_head
      class_unnamed e = record { whole = λ s. ap place (then_bad _ e) }

      pub class_no : {nm next : ℕ} → name tree names (TreeForm start) (start + 10) ≡ got nm next → below tree 2 (TreeForm start) next ≡ bad (TreeForm start)
          → ClassKids tree names depth start funs (Err (TreeForm start))
      unfolding class_fields ◌>>=◌ place follow_head
      class_no {next = next} e f = record { whole = λ s. ap place (then_on _ e ∙ then_bad _ (flag_no tree (TreeForm start) next f)) }

      module _ {nm next v past : ℕ} (e : name tree names (TreeForm start) (start + 10) ≡ got nm next) (h : v < 2) (f : below tree 2 (TreeForm start) next ≡ got v past) where
        pub class_cut : u16 tree (TreeForm start) past ≡ bad (TreeForm start) → ClassKids tree names depth start funs (Err (TreeForm start))
        unfolding class_fields ◌>>=◌ place follow_head
        class_cut g = record { whole = λ s. ap place (then_on _ e ∙ then_on _ (flag_is tree (TreeForm start) next v h f) ∙ then_bad _ g) }

        class_from : {count at : ℕ} → u16 tree (TreeForm start) past ≡ got count at → (s : Span)
            → place (class_fields tree names (read_superclass tree names depth) (read_method tree names depth funs) (TreeForm start) s (start + 10)) ≡
            and_then (row (λ n. place (read_superclass tree names depth n)) v at) (row (stmt_place tree names depth funs true) count)
        unfolding class_fields ◌>>=◌
        class_from {count} {at} g s =
            ap place (then_on _ e ∙ then_on _ (flag_is tree (TreeForm start) next v h f) ∙ then_on _ g) ∙
            chain (maybe (eqb v 1) (read_superclass tree names depth) at) _ (row (stmt_place tree names depth funs true) count)
            (λ c n. made (read_methods count (read_method tree names depth funs) n) _ ∙ methods_place tree names depth funs count n) ∙
            ap (λ x. and_then x (row (stmt_place tree names depth funs true) count)) (maybe_count (read_superclass tree names depth) v at h)

        pub class_plain : {count at : ℕ} {r : Result Head Refusal} → u16 tree (TreeForm start) past ≡ got count at → v ≡ 0 → r ≡ Ok (plain at 0 count funs true) → ClassKids tree names depth start funs r
        unfolding row and_then
        class_plain {count} {at} g z q =
            record {
              whole = λ s.
                  class_from g s ∙ ap (λ (k : ℕ). and_then (row (λ n. place (read_superclass tree names depth n)) k at) (row (stmt_place tree names depth funs true) count)) z ∙
                  sym (plain_stmts tree names depth at count funs true) ∙ ap (follow_head tree names depth) (sym q);
            }

        with_super : {count at : ℕ} → u16 tree (TreeForm start) past ≡ got count at → (v ≡ 0 → ⊥) → (s : Span)
            → place (class_fields tree names (read_superclass tree names depth) (read_method tree names depth funs) (TreeForm start) s (start + 10)) ≡
            and_then (place (read_superclass tree names depth at)) (row (stmt_place tree names depth funs true) count)
        with_super {count} {at} g z s =
            let y : v ≡ 1 = omega (arith, z) in
            class_from g s ∙ ap (λ (k : ℕ). and_then (row (λ n. place (read_superclass tree names depth n)) k at) (row (stmt_place tree names depth funs true) count)) y ∙
            ap (λ x. and_then x (row (stmt_place tree names depth funs true) count)) (row_one (λ n. place (read_superclass tree names depth n)) at)

        pub class_super_bad : {count at : ℕ} {t : Result ℕ Refusal} {x : Refusal} → u16 tree (TreeForm start) past ≡ got count at → (v ≡ 0 → ⊥)
            → t ≡ place (read_superclass tree names depth at) → t ≡ Err x → ClassKids tree names depth start funs (Err x)
        unfolding follow_head
        class_super_bad g z p q = record { whole = λ s. with_super g z s ∙ stops _ (sym p ∙ q) }

        pub class_super : {count at from : ℕ} {t : Result ℕ Refusal} {r : Result Head Refusal} → u16 tree (TreeForm start) past ≡ got count at → (v ≡ 0 → ⊥)
            → t ≡ place (read_superclass tree names depth at) → t ≡ Ok from → r ≡ Ok (plain from 0 count funs true) → ClassKids tree names depth start funs r
        class_super {count} {at} {from} g z p q w =
            record {
              whole = λ s.
                  with_super g z s ∙ goes _ (sym p ∙ q) ∙ sym (plain_stmts tree names depth from count funs true) ∙ ap (follow_head tree names depth) (sym w);
            }

    -- ## A function

    pub fun_unnamed : name tree names (TreeForm start) (start + 10) ≡ bad (TreeForm start) → FunKids tree names start funs (Err (TreeForm start))
    unfolding fun_fields ◌>>=◌ place follow_head
    fun_unnamed e = record { whole = λ depth. ap place (then_bad _ e) }

    pub fun_cut : {nm next : ℕ} → name tree names (TreeForm start) (start + 10) ≡ got nm next → u16 tree (TreeForm start) next ≡ bad (TreeForm start)
        → FunKids tree names start funs (Err (TreeForm start))
    unfolding fun_fields ◌>>=◌ place follow_head
    fun_cut e f = record { whole = λ depth. ap place (then_on _ e ∙ then_bad _ f) }

    body_place : {B : Type 0} (depth : ℕ) (make : Stmts → B) (r : Read ℕ)
        → place (go_on r (λ count. read_stmts count (read_stmt tree names depth funs) >>= λ body. return (make body))) ≡ follow_head tree names depth (body_from r funs)
    unfolding go_on place body_from follow_head ◌>>=◌
    body_place depth make (bad x) = refl
    body_place depth make (got count at) =
        made (read_stmts count (read_stmt tree names depth funs) at) make ∙ stmts_place tree names depth funs count at ∙ sym (plain_stmts tree names depth at count funs false)

    module _ {nm next arity past : ℕ} (e : name tree names (TreeForm start) (start + 10) ≡ got nm next) (f : u16 tree (TreeForm start) next ≡ got arity past) where
      fun_from : (depth : ℕ) → place (fun_fields tree names (read_stmt tree names depth funs) (TreeForm start) (start + 10)) ≡
          and_then (row (λ n. place (name tree names (TreeForm start) n)) arity past) (λ n. follow_head tree names depth (body_from (u16 tree (TreeForm start) n) funs))
      unfolding fun_fields ◌>>=◌
      fun_from depth =
          ap place (then_on _ e ∙ then_on _ f) ∙
          chain (many arity (name tree names (TreeForm start)) past) _ (λ n. follow_head tree names depth (body_from (u16 tree (TreeForm start) n) funs))
          (λ ps n. body_place depth _ (u16 tree (TreeForm start) n)) ∙
          ap (λ x. and_then x (λ n. follow_head tree names depth (body_from (u16 tree (TreeForm start) n) funs))) (many_row (name tree names (TreeForm start)) arity past)

      pub fun_params_bad : {t : Result ℕ Refusal} {x : Refusal} → t ≡ row (λ n. place (name tree names (TreeForm start) n)) arity past → t ≡ Err x → FunKids tree names start funs (Err x)
      unfolding follow_head
      fun_params_bad p q = record { whole = λ depth. fun_from depth ∙ stops _ (sym p ∙ q) }

      pub fun_is : {t : Result ℕ Refusal} {at : ℕ} {r : Result Head Refusal} → t ≡ row (λ n. place (name tree names (TreeForm start) n)) arity past → t ≡ Ok at
          → r ≡ body_from (u16 tree (TreeForm start) at) funs → FunKids tree names start funs r
      fun_is p q w = record { whole = λ depth. fun_from depth ∙ goes _ (sym p ∙ q) ∙ ap (follow_head tree names depth) (sym w) }

pub body_bad : {r : Read ℕ} {x : Refusal} (funs : ℕ) → r ≡ bad x → Err x ≡ body_from r funs
unfolding body_from
body_bad funs e = sym (ap (λ q. body_from q funs) e)

pub body_is : {r : Read ℕ} {count at : ℕ} (funs : ℕ) {h : Head} → h ≡ plain at 0 count funs false → r ≡ got count at → Ok h ≡ body_from r funs
unfolding body_from
body_is funs p e = ap Ok p ∙ sym (ap (λ q. body_from q funs) e)

-- ## By the mark

-- one expression, whatever is made of it
one_expr : (tree : List ℕ) (names depth at : ℕ) {r : Result Head Refusal} → r ≡ Ok (Head.Exprs at 1) → {B : Type 0} (make : Expr → B)
    → place (go_on (read_expr tree names depth at) (λ e. return (make e))) ≡ follow_head tree names depth r
unfolding follow_head
one_expr tree names depth at q make =
    made (read_expr tree names depth at) make ∙ sym (row_one (e_place tree names depth) at) ∙ ap (follow_head tree names depth) (sym q)

module _ (tree : List ℕ) (names depth funs start : ℕ) {mark : ℕ} {r : Result Head Refusal} where
  announce : (code : ℕ) (kind : StmtMark) → lookup code stmt_marks ≡ some kind → mark ≡ code
      → ((s : Span) → place (stmt_fields tree names (children tree names depth funs) (TreeForm start) kind s (start + 10)) ≡ follow_head tree names depth r)
      → StmtKids tree names depth funs mark start r
  announce code kind l e h =
      record {
        whole = λ k look s.
            let y : some k ≡ some kind = sym look ∙ ap (λ (m : ℕ). lookup m stmt_marks) e ∙ l in
            let z : k ≡ kind = cc in
            ap (λ (j : StmtMark). place (stmt_fields tree names (children tree names depth funs) (TreeForm start) j s (start + 10))) z ∙ h s;
      }

  pub by_block : r ≡ body_from (u16 tree (TreeForm start) (start + 10)) funs → mark ≡ marks.SB → StmtKids tree names depth funs mark start r
  unfolding lookup stmt_marks stmt_fields children block_fields ◌>>=◌
  by_block q e =
      announce marks.SB SB refl e
      (λ s. body_place tree start funs names depth _ (u16 tree (TreeForm start) (start + 10)) ∙ ap (follow_head tree names depth) (sym q))

  pub by_class : ClassKids tree names depth start funs r → mark ≡ marks.SC → StmtKids tree names depth funs mark start r
  unfolding lookup stmt_marks stmt_fields children
  by_class b e = announce marks.SC SC refl e b.whole

  pub by_fun : FunKids tree names start (funs - 1) r → mark ≡ marks.SF → StmtKids tree names depth funs mark start r
  unfolding lookup stmt_marks stmt_fields children ◌>>=◌
  by_fun b e = announce marks.SF SF refl e (λ s. made (fun_fields tree names (read_stmt tree names depth (funs - 1)) (TreeForm start) (start + 10)) _ ∙ b.whole depth)

  pub by_if : IfKids tree start funs r → mark ≡ marks.SI → StmtKids tree names depth funs mark start r
  unfolding lookup stmt_marks stmt_fields children
  by_if b e = announce marks.SI SI refl e (b.whole names depth)

  pub by_for : ForKids tree start funs r → mark ≡ marks.SO → StmtKids tree names depth funs mark start r
  unfolding lookup stmt_marks stmt_fields children
  by_for b e = announce marks.SO SO refl e (b.whole names depth)

  pub by_return : ValueKids tree start (start + 10) r → mark ≡ marks.SR → StmtKids tree names depth funs mark start r
  unfolding lookup stmt_marks stmt_fields children
  by_return v e = announce marks.SR SR refl e (return_from tree start v names depth)

  pub by_var : VarKids tree names start r → mark ≡ marks.SV → StmtKids tree names depth funs mark start r
  unfolding lookup stmt_marks stmt_fields children
  by_var b e = announce marks.SV SV refl e (b.whole depth)

  pub by_expr : r ≡ Ok (Head.Exprs (start + 10) 1) → (mark ≡ marks.SE) ⊎ (mark ≡ marks.SP) → StmtKids tree names depth funs mark start r
  unfolding lookup stmt_marks stmt_fields children expression_fields print_fields ◌>>=◌
  by_expr q (inl e) = announce marks.SE SE refl e (λ s. one_expr tree names depth (start + 10) q _)
  by_expr q (inr e) = announce marks.SP SP refl e (λ s. one_expr tree names depth (start + 10) q _)

  a_while : r ≡ Ok (plain (start + 10) 1 1 funs false) → mark ≡ marks.SW → StmtKids tree names depth funs mark start r
  unfolding lookup stmt_marks stmt_fields children while_fields ◌>>=◌ stmt_place
  a_while q e =
      announce marks.SW SW refl e
      (λ s. chain (read_expr tree names depth (start + 10)) _ (row (stmt_place tree names depth funs false) 1)
      (λ c n. made (read_stmt tree names depth funs n) _ ∙ sym (row_one (stmt_place tree names depth funs false) n)) ∙
      ap (λ x. and_then x (row (stmt_place tree names depth funs false) 1)) (sym (row_one (e_place tree names depth) (start + 10))) ∙
      sym (plain_place tree names depth (start + 10) 1 1 funs false) ∙ ap (follow_head tree names depth) (sym q))

  none_of : lookup mark stmt_marks ≡ none → StmtKids tree names depth funs mark start r
  none_of l =
      record {
        whole = λ k look s.
            let y : ◌≡◌ {A = Option StmtMark} (some k) none = sym look ∙ l in
            let z : ◌≡◌ {A = ℕ} 0 1 = cc in absurd (omega arith);
      }

  other_if : (t : Bool) → eqb mark marks.SW ≡ t → r ≡ Ok (plain (start + 10) 1 1 funs false)
      → (OneOf (marks.SB ∷ marks.SC ∷ marks.SE ∷ marks.SP ∷ marks.SF ∷ marks.SI ∷ marks.SO ∷ marks.SR ∷ marks.SV ∷ []) mark → ⊥) → StmtKids tree names depth funs mark start r
  unfolding all stmt_marks
  other_if true e q n = a_while q (eqb-true _ _ e)
  other_if false e q n =
      none_of (outside (marks.SW ∷ marks.SB ∷ marks.SC ∷ marks.SE ∷ marks.SP ∷ marks.SF ∷ marks.SI ∷ marks.SO ∷ marks.SR ∷ marks.SV ∷ []) stmt_marks mark refl
      (⊎_elim (eqb-false _ _ e) n))

  -- no other mark is left
  pub while_left : r ≡ Ok (plain (start + 10) 1 1 funs false) → (mark ≡ marks.SB → ⊥) → (mark ≡ marks.SC → ⊥) → ((mark ≡ marks.SE) ⊎ (mark ≡ marks.SP) → ⊥) → (mark ≡ marks.SF → ⊥)
      → (mark ≡ marks.SI → ⊥) → (mark ≡ marks.SO → ⊥) → (mark ≡ marks.SR → ⊥) → (mark ≡ marks.SV → ⊥) → StmtKids tree names depth funs mark start r
  while_left q a b c d e f g h =
      other_if _ refl q
      (⊎_elim a (⊎_elim b (⊎_elim (λ x. c (inl x)) (⊎_elim (λ x. c (inr x)) (⊎_elim d (⊎_elim e (⊎_elim f (⊎_elim g h))))))))

-- ## The superclass

module _ (tree : List ℕ) (names : ℕ) where
  pub super_cut : (depth at : ℕ) → length tree < at + 2 → read_superclass tree names depth at ≡ bad (TreeForm at)
  unfolding read_superclass ◌>>=◌ ◌>>◌ here go_on
  super_cut zero at h = then_bad _ (mark_is_cut tree (TreeForm at) marks.EV at h)
  super_cut (suc depth) at h = then_bad _ (mark_is_cut tree (TreeForm at) marks.EV at h)

  pub super_not : (depth at : ℕ) → at + 2 ≤ length tree → (letters tree at ≡ marks.EV → ⊥) → read_superclass tree names depth at ≡ bad (TreeForm at)
  unfolding read_superclass ◌>>=◌ ◌>>◌ here go_on
  super_not zero at h n = then_bad _ (mark_is_not tree (TreeForm at) marks.EV at h n)
  super_not (suc depth) at h n = then_bad _ (mark_is_not tree (TreeForm at) marks.EV at h n)

  -- an expression with that mark is read as a superclass is
  variable_mark : (fault : Refusal) (at : ℕ) → at + 2 ≤ length tree → letters tree at ≡ marks.EV → (mark tree fault >>= one_of fault expr_marks) at ≡ got EV (at + 2)
  unfolding ◌>>=◌ lookup expr_marks
  variable_mark fault at h e =
      then_on (one_of fault expr_marks) ((a_mark tree).whole fault at h) ∙ one_of_is expr_marks (letters tree at) fault (at + 2) (ap (λ (n : ℕ). lookup n expr_marks) e)

  pub super_is : (depth at : ℕ) → at + 2 ≤ length tree → letters tree at ≡ marks.EV → place (read_expr tree names depth at) ≡ place (read_superclass tree names depth at)
  unfolding read_superclass read_expr expr_record expr_mark expr_fields var_fields ◌>>=◌ ◌>>◌ here go_on refuse place
  super_is zero at h e = ap place (then_on _ (variable_mark (TreeForm at) at h e)) ∙ sym (ap place (then_on _ (mark_is_it tree (TreeForm at) marks.EV at h e)))
  super_is (suc depth) at h e =
      ap place (then_on _ (variable_mark (TreeForm at) at h e)) ∙
      same_place (span tree (TreeForm at) (at + 2)) _ _ (λ s n. made (name tree names (TreeForm at) n) _ ∙ sym (made (name tree names (TreeForm at) n) _)) ∙
      sym (ap place (then_on _ (mark_is_it tree (TreeForm at) marks.EV at h e)))

-- ## A record

method_letters_if : (m : ℕ) {k : StmtMark} (t : Bool) → eqb m marks.SF ≡ t → lookup m method_marks ≡ some k → (m ≡ marks.SF) × (k ≡ SF)
unfolding lookup method_marks
method_letters_if m {k} true e l =
    let q : some SF ≡ some k = rw e at l in
    (eqb-true _ _ e, cc)
method_letters_if m {k} false e l =
    let q : ◌≡◌ {A = Option StmtMark} none (some k) = rw e at l in
    let z : ◌≡◌ {A = ℕ} 0 1 = cc in absurd (omega arith)

pub method_letters : (m : ℕ) {k : StmtMark} → lookup m method_marks ≡ some k → (m ≡ marks.SF) × (k ≡ SF)
method_letters m l = method_letters_if m _ refl l

-- the mark of a statement, or of a method, that is there
pub record StmtMarked (tree : List ℕ) (at : ℕ) (method : Bool) (m : ℕ) : Type 0 where
  pub table : Marked (if method then method_marks else stmt_marks) tree at m

pub stmt_known : (tree : List ℕ) (at : ℕ) (method : Bool) {m : ℕ} → known_stmt method tree at ≡ Some m → StmtMarked tree at method m
unfolding known_stmt
stmt_known tree at method e = record { table = known_some (if method then method_marks else stmt_marks) tree at e }

unfoldable is_fun : StmtMark → Bool
is_fun SF = true
is_fun SB = false
is_fun SC = false
is_fun SE = false
is_fun SI = false
is_fun SO = false
is_fun SP = false
is_fun SR = false
is_fun SV = false
is_fun SW = false

-- one key alone stands for what passes a test
only_if : {A : Type 0} (p : A → Bool) (key n : ℕ) (k : ℕ) (x : A) (rest : Option A) (t : Bool) → eqb n k ≡ t
    → (if p x then eqb k key else true) ≡ true → {a : A} → (if eqb n k then some x else rest) ≡ some a → p a ≡ true → (rest ≡ some a → n ≡ key) → n ≡ key
only_if {A} p key n k x rest true e g {a} l h f =
    let q : some x ≡ some a = rw e at l in
    let z : x ≡ a = cc in
    let w : p x ≡ true = ap p z ∙ h in
    let v : eqb k key ≡ true = rw w at g in
    eqb-true _ _ e ∙ eqb-true _ _ v
only_if {A} p key n k x rest false e g {a} l h f = f (rw e at l)

only : {A : Type 0} (p : A → Bool) (key n : ℕ) (table : List (ℕ × A)) → all (λ row. if p row.1 then eqb row.0 key else true) table ≡ true
    → {a : A} → lookup n table ≡ some a → p a ≡ true → n ≡ key
unfolding all lookup
only p key n [] h l q = let z : ◌≡◌ {A = ℕ} 0 1 = cc in absurd (omega arith)
only p key n (r ∷ rows) h l q =
    let w = if_true (if p r.1 then eqb r.0 key else true) (all (λ row. if p row.1 then eqb row.0 key else true) rows) h in
    only_if p key n r.0 r.1 (lookup n rows) _ refl w.0 l q (λ l'. only p key n rows w.1 l' q)

fun_letters : (m : ℕ) {k : StmtMark} → lookup m stmt_marks ≡ some k → is_fun k ≡ true → m ≡ marks.SF
unfolding all stmt_marks is_fun
fun_letters m l h = only is_fun marks.SF m stmt_marks refl l h

may_open_is : (k : StmtMark) (funs : ℕ) → (is_fun k ≡ true → 0 < funs) → may_open k funs ≡ true
unfolding may_open is_fun
may_open_is SF funs h = lt-ltb 0 funs (h refl)
may_open_is SB funs h = refl
may_open_is SC funs h = refl
may_open_is SE funs h = refl
may_open_is SI funs h = refl
may_open_is SO funs h = refl
may_open_is SP funs h = refl
may_open_is SR funs h = refl
may_open_is SV funs h = refl
may_open_is SW funs h = refl

fun_kind : (m : ℕ) {k : StmtMark} → lookup m stmt_marks ≡ some k → m ≡ marks.SF → k ≡ SF
unfolding lookup stmt_marks
fun_kind m {k} l e = let q : some k ≡ some SF = sym l ∙ ap (λ (n : ℕ). lookup n stmt_marks) e in cc

fun_look : (m : ℕ) → m ≡ marks.SF → lookup m stmt_marks ≡ some SF
unfolding lookup stmt_marks
fun_look m e = ap (λ (n : ℕ). lookup n stmt_marks) e

need_is : {t : Bool} (x : Refusal) (at : ℕ) → t ≡ true → need t x at ≡ got tt at
unfolding need
need_is x at e = ap (λ (b : Bool). need b x at) e

need_not : {t : Bool} (x : Refusal) (at : ℕ) → t ≡ false → need t x at ≡ bad x
unfolding need
need_not x at e = ap (λ (b : Bool). need b x at) e

-- a method's mark, by the table of one row
method_none_if : (tree : List ℕ) (at : ℕ) → known_mark method_marks tree at ≡ None → (t s : Bool) → leb (at + 2) (length tree) ≡ t → eqb (letters tree at) marks.SF ≡ s
    → (fault : Refusal) → mark_is tree fault marks.SF at ≡ bad fault
unfolding lookup method_marks
method_none_if tree at e true true h l fault =
    let q : letters tree at ≡ marks.SF = eqb-true _ _ l in
    absurd (none_some (sym e ∙ known_is method_marks tree at (leb-true _ _ h) refl (record { value = SF; is = ap (λ (n : ℕ). lookup n method_marks) q })))
method_none_if tree at e true false h l fault = mark_is_not tree fault marks.SF at (leb-true _ _ h) (eqb-false _ _ l)
method_none_if tree at e false s h l fault = mark_is_cut tree fault marks.SF at (leb-false _ _ h)

method_is : (tree : List ℕ) (at : ℕ) {m : ℕ} → Marked method_marks tree at m → (fault : Refusal) → mark_is tree fault marks.SF at ≡ got tt (at + 2)
method_is tree at {m} k fault = mark_is_it tree fault marks.SF at k.bound (k.letters_are ∙ (method_letters m k.look).0)

module _ (tree : List ℕ) (names : ℕ) where
  pub no_stmt : (depth funs : ℕ) (method : Bool) (at : ℕ) → known_stmt method tree at ≡ None → stmt_place tree names depth funs method at ≡ Err (TreeForm at)
  unfolding known_stmt stmt_place read_stmt read_method stmt_record method_record stmt_mark ◌>>=◌ ◌>>◌ here go_on lookup stmt_marks place
  no_stmt zero funs false at e = ap place (then_bad _ (known_none stmt_marks tree at e (TreeForm at)))
  no_stmt (suc depth) funs false at e = ap place (then_bad _ (known_none stmt_marks tree at e (TreeForm at)))
  no_stmt zero funs true at e = ap place (then_bad _ (method_none_if tree at e _ _ refl refl (TreeForm at)))
  no_stmt (suc depth) funs true at e = ap place (then_bad _ (method_none_if tree at e _ _ refl refl (TreeForm at)))

  pub deep_stmt : (depth funs : ℕ) (method : Bool) (at : ℕ) {m : ℕ} → StmtMarked tree at method m → depth ≡ 0 → stmt_place tree names depth funs method at ≡ Err (TreeTooDeep at)
  unfolding stmt_place read_stmt read_method stmt_mark ◌>>=◌ ◌>>◌ here go_on refuse place
  deep_stmt zero funs false at k z = ap place (then_on _ (k.table.is (TreeForm at)))
  deep_stmt zero funs true at k z = ap place (then_on _ (method_is tree at k.table (TreeForm at)))
  deep_stmt (suc depth) funs method at k z = absurd (omega arith)

  pub full_stmt : (depth funs : ℕ) (method : Bool) (at : ℕ) {m : ℕ} → StmtMarked tree at method m → (depth ≡ 0 → ⊥) → m ≡ marks.SF → funs ≡ 0
      → stmt_place tree names depth funs method at ≡ Err (TooManyOpen at)
  unfolding stmt_place read_stmt read_method stmt_record method_record stmt_mark ◌>>=◌ ◌>>◌ here go_on may_open place
  full_stmt zero funs method at k z e f = absurd (z refl)
  full_stmt (suc depth) funs false at {m} k z e f =
      ap place (then_on _ (k.table.is (TreeForm at)) ∙ then_bad _ (need_not (TooManyOpen at) (at + 2)
      (ap (λ (j : StmtMark). may_open j funs) (fun_kind m k.table.look e) ∙ le-ltb 0 funs (omega arith))))
  full_stmt (suc depth) funs true at k z e f =
      ap place (then_on _ (method_is tree at k.table (TreeForm at)) ∙ then_bad _ (need_not (TooManyOpen at) (at + 2) (le-ltb 0 funs (omega arith))))

  pub cut_stmt : (depth funs : ℕ) (method : Bool) (at : ℕ) {m : ℕ} → StmtMarked tree at method m → (depth ≡ 0 → ⊥) → (m ≡ marks.SF → 0 < funs) → length tree < at + 10
      → stmt_place tree names depth funs method at ≡ Err (TreeForm at)
  unfolding stmt_place read_stmt read_method stmt_record method_record stmt_mark ◌>>=◌ ◌>>◌ here go_on place
  cut_stmt zero funs method at k z f h = absurd (z refl)
  cut_stmt (suc depth) funs false at {m} k z f h =
      ap place (then_on _ (k.table.is (TreeForm at)) ∙
      then_on _ (need_is (TooManyOpen at) (at + 2) (may_open_is k.table.kind funs (λ q. f (fun_letters m k.table.look q)))) ∙
      then_bad _ ((a_span tree).short (TreeForm at) (at + 2) (omega arith)))
  cut_stmt (suc depth) funs true at {m} k z f h =
      ap place (then_on _ (method_is tree at k.table (TreeForm at)) ∙
      then_on _ (need_is (TooManyOpen at) (at + 2) (lt-ltb 0 funs (f (method_letters m k.table.look).0))) ∙
      then_bad _ ((a_span tree).short (TreeForm at) (at + 2) (omega arith)))

  -- what follows the span of a record that is there
  pub stmt_is : (depth funs at : ℕ) {m : ℕ} (k : Marked stmt_marks tree at m) → (depth ≡ 0 → ⊥) → (m ≡ marks.SF → 0 < funs) → at + 10 ≤ length tree
      → read_stmt tree names depth funs at ≡ stmt_fields tree names (children tree names (depth - 1) funs) (TreeForm at) k.kind (span_of tree (at + 2)) (at + 10)
  unfolding read_stmt stmt_record stmt_mark children ◌>>=◌ ◌>>◌ here go_on
  stmt_is zero funs at k z f h = absurd (z refl)
  stmt_is (suc depth) funs at {m} k z f h =
      let p : suc depth - 1 ≡ depth = omega arith in
      let q : at + 2 + 8 ≡ at + 10 = omega arith in
      then_on _ (k.is (TreeForm at)) ∙
      then_on _ (need_is (TooManyOpen at) (at + 2) (may_open_is k.kind funs (λ q. f (fun_letters m k.look q)))) ∙
      then_on _ ((a_span tree).whole (TreeForm at) (at + 2) (omega arith)) ∙
      ap (stmt_fields tree names (children tree names depth funs) (TreeForm at) k.kind (span_of tree (at + 2))) q ∙
      sym (ap (λ (d : ℕ). stmt_fields tree names (children tree names d funs) (TreeForm at) k.kind (span_of tree (at + 2)) (at + 10)) p)

  pub method_has : (depth funs at : ℕ) {m : ℕ} (k : Marked method_marks tree at m) → (depth ≡ 0 → ⊥) → (m ≡ marks.SF → 0 < funs) → at + 10 ≤ length tree
      → read_method tree names depth funs at ≡ go_on (fun_fields tree names (read_stmt tree names (depth - 1) (funs - 1)) (TreeForm at) (at + 10)) (λ f. return (span_of tree (at + 2), f))
  unfolding read_method method_record ◌>>=◌ ◌>>◌ here go_on
  method_has zero funs at k z f h = absurd (z refl)
  method_has (suc depth) funs at {m} k z f h =
      let p : suc depth - 1 ≡ depth = omega arith in
      let q : at + 2 + 8 ≡ at + 10 = omega arith in
      then_on _ (method_is tree at k (TreeForm at)) ∙
      then_on _ (need_is (TooManyOpen at) (at + 2) (lt-ltb 0 funs (f (method_letters m k.look).0))) ∙
      then_on _ ((a_span tree).whole (TreeForm at) (at + 2) (omega arith)) ∙
      ap (λ (j : ℕ). go_on (fun_fields tree names (read_stmt tree names depth (funs - 1)) (TreeForm at) j) (λ f. return (span_of tree (at + 2), f))) q ∙
      sym (ap (λ (d : ℕ). go_on (fun_fields tree names (read_stmt tree names d (funs - 1)) (TreeForm at) (at + 10)) (λ f. return (span_of tree (at + 2), f))) p)

  pub opens_bad : (depth funs : ℕ) (method : Bool) (at : ℕ) {x : Refusal} → stmt_place tree names depth funs method at ≡ Err x → StmtOpens tree names depth funs method at (Err x)
  unfolding follow_head
  opens_bad depth funs method at e = record { whole = e; room = λ q. let z : ◌≡◌ {A = ℕ} 0 1 = cc in absurd (omega arith) }

  pub opens_kids : (depth funs : ℕ) (method : Bool) (at : ℕ) {m : ℕ} {r : Result Head Refusal} → StmtMarked tree at method m → (depth ≡ 0 → ⊥) → (m ≡ marks.SF → 0 < funs) → at + 10 ≤ length tree
      → StmtKids tree names (depth - 1) funs m at r → StmtOpens tree names depth funs method at r
  unfolding stmt_place stmt_fields children ◌>>=◌
  opens_kids depth funs false at k z f h a =
      record {
        whole = ap place (stmt_is depth funs at k.table z f h) ∙ a.whole k.table.kind k.table.look (span_of tree (at + 2));
        room = λ q. omega (arith, z);
      }
  opens_kids depth funs true at {m} k z f h a =
      record {
        whole =
            ap place (method_has depth funs at k.table z f h) ∙
            made (fun_fields tree names (read_stmt tree names (depth - 1) (funs - 1)) (TreeForm at) (at + 10)) _ ∙
            sym (made (fun_fields tree names (read_stmt tree names (depth - 1) (funs - 1)) (TreeForm at) (at + 10)) _) ∙
            a.whole SF (fun_look m (method_letters m k.table.look).0) (span_of tree (at + 2));
        room = λ q. omega (arith, z);
      }

-- a record ends where what its head announces ends
pub follows : {tree : List ℕ} {names depth funs : ℕ} {method : Bool} {at : ℕ} {answer head : Result Head Refusal} {end : Result ℕ Refusal}
    → StmtOpens tree names depth funs method at answer → answer ≡ head → end ≡ follow_head tree names (depth - 1) head → end ≡ stmt_place tree names depth funs method at
follows {tree} {names} {depth} o q e = e ∙ sym (o.whole ∙ ap (follow_head tree names (depth - 1)) q)

-- ## The mark that the code finds

pub some_left : {funs : ℕ} → (funs ≡ 0 → ⊥) → 0 < funs
some_left h = omega (arith, h)

module _ (tree : List ℕ) where
  pub known_fun : (method : Bool) (at : ℕ) {m : ℕ} → at + 2 ≤ length tree → m ≡ letters tree at → m ≡ marks.SF → known_stmt method tree at ≡ Some m
  unfolding known_stmt lookup method_marks
  known_fun true at {m} h e q = known_is method_marks tree at h e (record { value = SF; is = ap (λ (n : ℕ). lookup n method_marks) q })
  known_fun false at {m} h e q = known_is stmt_marks tree at h e (record { value = SF; is = fun_look m q })

  pub known_for_method : {method : Bool} (at : ℕ) {m : ℕ} → method ≡ true → at + 2 ≤ length tree → m ≡ letters tree at → (m ≡ marks.SF → ⊥) → known_stmt method tree at ≡ None
  unfolding known_stmt lookup method_marks
  known_for_method {method} at {m} t h e n = rw t (known_not method_marks tree at h e (rw (ne_eqb m marks.SF n)))

  pub known_for_stmt : {method : Bool} (at : ℕ) → method ≡ false → known_stmt method tree at ≡ known_mark stmt_marks tree at
  unfolding known_stmt
  known_for_stmt at t = rw t
