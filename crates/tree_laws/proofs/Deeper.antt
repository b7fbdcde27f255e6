-- What is read with some levels left is read alike with one more. A call on a method needs it: its object stands two records down, and its
-- arguments one.
use mathlib.Core.Path.{◌≡◌, sym, ap, ◌∙◌}
use mathlib.Core.List.{List}
use Prim.Native.Nat.{ℕ, zero, suc, ◌-◌, ◌<◌}
use native.Mathlib.Omega.{arith}
use Rattle.rules.specs.declared.Span.{Span}
use Rattle.rules.specs.declared.Refusal.{Refusal}
use Rattle.rules.specs.declared.Refusal.TheVariants.{TreeForm}
use Rattle.rules.specs.Tree.{Expr}
use Rattle.rules.specs.Reader.{got, Reader, go_on, ◌>>=◌, here, u8, u16, one_of, span}
use Rattle.rules.specs.TreeFile.{ExprMark, EA, EC, EG, EI, EL, EP, ES, EU, EV, infix_ops, prefix_ops, name, read_exprs, assign_fields, call_fields, get_fields, infix_fields, prefix_fields, set_fields}
use Rattle.rules.specs.TreeFile.{expr_fields, expr_mark, expr_record, read_expr}
use Rattle.fields.proofs.Reading.{then_on}
use Rattle.tree_laws.proofs.Taken.{first}
use Rattle.tree_laws.proofs.Expressions.{never}

-- a reader that gives what another gives
pub record Covers {A : Type 0} (one more : Reader A) : Type 0 where
  pub gives : (at : ℕ) {a : A} {n : ℕ} → one at ≡ got a n → more at ≡ got a n

pub both_do : {A B : Type 0} {one more : Reader A} → Covers one more → (f g : A → Reader B) → ((a : A) → Covers (f a) (g a)) → Covers (one >>= f) (more >>= g)
unfolding ◌>>=◌
both_do {one = one} c f g h = record {
  gives = λ at e.
      let x = first (one at) f e in
      then_on g (c.gives at x.is) ∙ (h x.thing).gives x.next x.rest;
}

pub same : {A : Type 0} (one : Reader A) → Covers one one
same one = record { gives = λ at e. e }

pub then : {A B : Type 0} (one : Reader A) (f g : A → Reader B) → ((a : A) → Covers (f a) (g a)) → Covers (one >>= f) (one >>= g)
then one = both_do (same one)

row : {one more : Reader Expr} → Covers one more → (count : ℕ) → Covers (read_exprs count one) (read_exprs count more)
unfolding read_exprs
row c zero = same _
row c (suc count) = both_do c _ _ (λ e. both_do (row c count) _ _ (λ es. same _))

module _ (tree : List ℕ) (names : ℕ) {one more : Reader Expr} (c : Covers one more) (x : Refusal) where
  fields : (k : ExprMark) (s : Span) → Covers (expr_fields tree names one x k s) (expr_fields tree names more x k s)
  unfolding expr_fields assign_fields call_fields get_fields infix_fields prefix_fields set_fields
  fields EA s = then (name tree names x) _ _ (λ n. both_do c _ _ (λ e. same _))
  fields EC s = then (u16 tree x) _ _ (λ n. both_do c _ _ (λ e. both_do (row c n) _ _ (λ es. same _)))
  fields EG s = then (name tree names x) _ _ (λ n. both_do c _ _ (λ e. same _))
  fields EI s = then (u8 tree x >>= one_of x infix_ops) _ _ (λ n. both_do c _ _ (λ e. both_do c _ _ (λ e. same _)))
  fields EL s = same _
  fields EP s = then (u8 tree x >>= one_of x prefix_ops) _ _ (λ n. both_do c _ _ (λ e. same _))
  fields ES s = then (name tree names x) _ _ (λ n. both_do c _ _ (λ e. both_do c _ _ (λ e. same _)))
  fields EU s = same _
  fields EV s = same _

  whole : Covers (expr_record tree names one x) (expr_record tree names more x)
  unfolding expr_record
  whole = then (expr_mark tree names x) _ _ (λ k. then (span tree x) _ _ (fields k))

module _ (tree : List ℕ) (names : ℕ) where
  pub one_deeper : (d : ℕ) → Covers (read_expr tree names d) (read_expr tree names (suc d))
  unfolding read_expr ◌>>=◌ here go_on
  one_deeper zero = record { gives = λ at e. absurd (never tree names at e) }
  one_deeper (suc d) = record { gives = λ at e. (whole tree names (one_deeper d) (TreeForm at)).gives at e }

  pub deeper : (d at : ℕ) → 0 < d → {e : Expr} {n : ℕ} → read_expr tree names (d - 1) at ≡ got e n → read_expr tree names d at ≡ got e n
  deeper zero at h r = absurd (omega arith)
  deeper (suc d) at h r =
      let p : suc d - 1 ≡ d = omega arith in
      (one_deeper d).gives at (ap (λ (j : ℕ). read_expr tree names j at) (sym p) ∙ r)
