-- What is read of a statement with some levels left is read alike with any that suffice: a walk over the bytes needs no count of levels.
use mathlib.Core.Path.{◌≡◌, sym, ap, ◌∙◌}
use mathlib.Core.Bool.{Bool, true, false}
use mathlib.Core.List.{List}
use Prim.Native.Nat.{ℕ, zero, suc, ◌+◌, ◌-◌}
use native.Mathlib.Omega.{arith}
use Rattle.rules.specs.declared.Span.{Span}
use Rattle.rules.specs.declared.Refusal.{Refusal}
use Rattle.rules.specs.declared.Refusal.TheVariants.{TreeForm, TooManyOpen}
use Rattle.rules.specs.Tree.{Stmt, Stmts, Fun}
use Rattle.rules.specs.Reader.{got, Reader, go_on, ◌>>=◌, ◌>>◌, here, u8, u16, need, span, mark_is, many}
use Rattle.rules.specs.TreeFile.{Children, StmtMark, SB, SC, SE, SF, SI, SO, SP, SR, SV, SW, name, flag, maybe, maybe_stmt, may_open, read_stmts, read_methods, block_fields, class_fields}
use Rattle.rules.specs.TreeFile.{expression_fields, fun_fields, if_fields, for_fields, print_fields, return_fields, var_stmt_fields, while_fields, stmt_fields, stmt_mark, stmt_record, method_record}
use Rattle.rules.specs.TreeFile.{read_superclass, read_stmt, read_method}
use Rattle.tree_laws.proofs.Deeper.{Covers, both_do, same, then, one_deeper}
use Rattle.tree_laws.proofs.Statements.{any_stmt_at, method_at, superclass_at}
use Rattle.fields.specs.Marks as marks

after : {A B : Type 0} (one : Reader A) (f g : Reader B) → Covers f g → Covers (one >> f) (one >> g)
unfolding ◌>>◌ ◌>>=◌
after one f g c = then one _ _ (λ a. c)

perhaps : {A : Type 0} {one more : Reader A} → Covers one more → (b : Bool) → Covers (maybe b one) (maybe b more)
unfolding maybe
perhaps c false = same _
perhaps c true = both_do c _ _ (λ a. same _)

perhaps_stmt : {one more : Reader Stmt} → Covers one more → (b : Bool) → Covers (maybe_stmt b one) (maybe_stmt b more)
unfolding maybe_stmt
perhaps_stmt c false = same _
perhaps_stmt c true = both_do c _ _ (λ a. same _)

row : {one more : Reader Stmt} → Covers one more → (count : ℕ) → Covers (read_stmts count one) (read_stmts count more)
unfolding read_stmts
row c zero = same _
row c (suc count) = both_do c _ _ (λ s. both_do (row c count) _ _ (λ ss. same _))

methods : {one more : Reader (Span × Fun)} → Covers one more → (count : ℕ) → Covers (read_methods count one) (read_methods count more)
unfolding read_methods
methods c zero = same _
methods c (suc count) = both_do c _ _ (λ s. both_do (methods c count) _ _ (λ ss. same _))

-- a family of readers, each of which covers the one before
module _ {A : Type 0} (R : ℕ → Reader A) (c : (d : ℕ) → Covers (R d) (R (suc d))) where
  up_to : (k d e at : ℕ) {s : A} {n : ℕ} → e ≡ k + d → R d at ≡ got s n → R e at ≡ got s n
  up_to zero d e at q r = let p : e ≡ d = omega arith in ap (λ (j : ℕ). R j at) p ∙ r
  up_to (suc k) d zero at q r = absurd (omega arith)
  up_to (suc k) d (suc e) at q r = let p : e ≡ k + d = omega arith in (c e).gives at (up_to k d e at p r)

  -- where two of them read something, they read the same
  same_two : (d e at : ℕ) {s t : A} {n m : ℕ} → R d at ≡ got t m → R e at ≡ got s n → R d at ≡ got s n
  same_two d e at p r =
      let q : e + d ≡ e + d = omega arith in
      let w : e + d ≡ d + e = omega arith in
      p ∙ sym (up_to e d (e + d) at q p) ∙ up_to d e (e + d) at w r

-- each child's reader
record All (a b : Children) : Type 0 where
  expr : Covers a.expr b.expr
  superclass : Covers a.superclass b.superclass
  stmt : Covers a.stmt b.stmt
  inner : Covers a.inner b.inner
  one_method : Covers a.one_method b.one_method

module _ (tree : List ℕ) (names : ℕ) where
  fun_covers : {one more : Reader Stmt} → Covers one more → (x : Refusal) → Covers (fun_fields tree names one x) (fun_fields tree names more x)
  unfolding fun_fields
  fun_covers c x = then (name tree names x) _ _ (λ n. then (u16 tree x) _ _ (λ k. then (many k (name tree names x)) _ _ (λ ps. then (u16 tree x) _ _ (λ k. both_do (row c k) _ _ (λ b. same _)))))

  fields : {a b : Children} → All a b → (x : Refusal) (k : StmtMark) (s : Span) → Covers (stmt_fields tree names a x k s) (stmt_fields tree names b x k s)
  unfolding stmt_fields block_fields class_fields expression_fields if_fields for_fields print_fields return_fields var_stmt_fields while_fields
  fields c x SB s = then (u16 tree x) _ _ (λ n. both_do (row c.stmt n) _ _ (λ ss. same _))
  fields c x SC s =
      then (name tree names x) _ _
      (λ n. then (flag tree x) _ _ (λ h. then (u16 tree x) _ _ (λ k. both_do (perhaps c.superclass h) _ _ (λ u. both_do (methods c.one_method k) _ _ (λ ms. same _)))))
  fields c x SE s = both_do c.expr _ _ (λ e. same _)
  fields c x SF s = both_do (fun_covers c.inner x) _ _ (λ f. same _)
  fields c x SI s = then (flag tree x) _ _ (λ h. both_do c.expr _ _ (λ e. both_do c.stmt _ _ (λ y. both_do (perhaps_stmt c.stmt h) _ _ (λ n. same _))))
  fields c x SO s =
      then (u8 tree x) _ _
      (λ p. after (need _ x) _ _
      (both_do (perhaps_stmt c.stmt _) _ _ (λ i. both_do (perhaps c.expr _) _ _ (λ d. both_do c.stmt _ _ (λ b. both_do (perhaps c.expr _) _ _ (λ j. same _))))))
  fields c x SP s = both_do c.expr _ _ (λ e. same _)
  fields c x SR s = then (flag tree x) _ _ (λ h. both_do (perhaps c.expr h) _ _ (λ e. same _))
  fields c x SV s = then (name tree names x) _ _ (λ n. then (flag tree x) _ _ (λ h. both_do (perhaps c.expr h) _ _ (λ e. same _)))
  fields c x SW s = both_do c.expr _ _ (λ e. both_do c.stmt _ _ (λ b. same _))

  whole : {a b : Children} → All a b → (funs start : ℕ) → Covers (stmt_record tree names a funs start) (stmt_record tree names b funs start)
  unfolding stmt_record
  whole c funs start = then (stmt_mark tree names (TreeForm start)) _ _
      (λ k. after (need (may_open k funs) (TooManyOpen start)) _ _ (then (span tree (TreeForm start)) _ _ (λ s. fields c (TreeForm start) k s)))

  method_whole : {one more : Reader Stmt} → Covers one more → (funs start : ℕ) → Covers (method_record tree names one funs start) (method_record tree names more funs start)
  unfolding method_record
  method_whole c funs start =
      after (mark_is tree (TreeForm start) marks.SF) _ _
      (after (need _ (TooManyOpen start)) _ _ (then (span tree (TreeForm start)) _ _ (λ s. both_do (fun_covers c (TreeForm start)) _ _ (λ f. same _))))

  super_up : (d : ℕ) → Covers (read_superclass tree names d) (read_superclass tree names (suc d))
  unfolding read_superclass
  super_up zero = record { gives = λ at r. let h = (superclass_at tree names zero at r).room in absurd (omega arith) }
  super_up (suc d) = same _

  record Up (d : ℕ) : Type 0 where
    a_stmt : (funs : ℕ) → Covers (read_stmt tree names d funs) (read_stmt tree names (suc d) funs)
    a_method : (funs : ℕ) → Covers (read_method tree names d funs) (read_method tree names (suc d) funs)

  up_one : (d : ℕ) → Up d
  unfolding read_stmt ◌>>=◌ here go_on
  up_one zero = record {
    a_stmt = λ funs. record { gives = λ at r. let h = (any_stmt_at tree names zero funs at r).room in absurd (omega arith) };
    a_method = λ funs. record { gives = λ at r. let h = (method_at tree names zero funs at r).room in absurd (omega arith) };
  }
  up_one (suc d) =
      let u = up_one d in
      record {
        a_stmt = λ funs. record {
          gives = λ at r. (whole
              (record { expr = one_deeper tree names d; superclass = super_up d; stmt = u.a_stmt funs; inner = u.a_stmt (funs - 1); one_method = u.a_method funs }) funs at).gives at r;
        };
        a_method = λ funs. record { gives = λ at r. (method_whole (u.a_stmt (funs - 1)) funs at).gives at r };
      }

  stmt_up : (d funs : ℕ) → Covers (read_stmt tree names d funs) (read_stmt tree names (suc d) funs)
  stmt_up d funs = (up_one d).a_stmt funs

  pub same_stmt : (d e funs at : ℕ) {s t : Stmt} {n m : ℕ} → read_stmt tree names d funs at ≡ got t m → read_stmt tree names e funs at ≡ got s n → read_stmt tree names d funs at ≡ got s n
  same_stmt d e funs at p r = same_two (λ d. read_stmt tree names d funs) (λ d. stmt_up d funs) d e at p r

  pub same_stmts : (count d e funs at : ℕ) {s t : Stmts} {n m : ℕ} → read_stmts count (read_stmt tree names d funs) at ≡ got t m → read_stmts count (read_stmt tree names e funs) at ≡ got s n
      → read_stmts count (read_stmt tree names d funs) at ≡ got s n
  same_stmts count d e funs at p r = same_two (λ d. read_stmts count (read_stmt tree names d funs)) (λ d. row (stmt_up d funs) count) d e at p r

  pub same_fun : (x : Refusal) (d e funs at : ℕ) {s t : Fun} {n m : ℕ} → fun_fields tree names (read_stmt tree names d funs) x at ≡ got t m
      → fun_fields tree names (read_stmt tree names e funs) x at ≡ got s n
      → fun_fields tree names (read_stmt tree names d funs) x at ≡ got s n
  same_fun x d e funs at p r = same_two (λ d. fun_fields tree names (read_stmt tree names d funs) x) (λ d. fun_covers (stmt_up d funs) x) d e at p r
