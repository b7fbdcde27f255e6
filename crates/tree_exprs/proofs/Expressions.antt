-- Where an expression ends: its fields, and then the expressions that they announce. One law for each kind, and one for each way out of a
-- record's fields.
use mathlib.Core.Path.{◌≡◌, refl, sym, ap, ◌∙◌}
use mathlib.Core.Bool.{Bool, true, false}
use mathlib.Core.Option.{Option, none, some}
use mathlib.Core.List.{List, ◌∷◌, []}
use mathlib.Core.Logic.{◌⊎◌, inl, inr, ⊎_elim}
use Prim.Native.Nat.{ℕ, zero, suc, ◌+◌, ◌-◌, ◌≤◌, ◌<◌}
use native.Mathlib.Omega.{arith}
use native.Mathlib.Numerals.{add-one}
use lib.ListN.{length}
use lib.Dec.{leb, eqb}
use borrow.Author.Tests.{lt-leb, le-leb, eqb-true, eqb-false}
use types.Run.{OneOf}
use Rattle.rules.specs.Base.{lookup, all}
use Rattle.rules.specs.Limits.{max_bits}
use Rattle.rules.specs.declared.Span.{Span}
use Rattle.rules.specs.declared.Refusal.{Refusal}
use Rattle.rules.specs.declared.Refusal.TheVariants.{TreeForm, TreeTooDeep}
use Rattle.rules.specs.Tree.{Expr, Exprs}
use Rattle.rules.specs.Reader.{Read, got, bad, Reader, go_on, ◌>>=◌, ◌>>◌, return, refuse, here, need, one_of, u8, u16, u64}
use Rattle.rules.specs.TreeFile.{ExprMark, EA, EC, EG, EI, EL, EP, ES, EU, EV, expr_marks, infix_ops, prefix_ops, literal_kinds, name, read_exprs, assign_fields, call_fields, get_fields}
use Rattle.rules.specs.TreeFile.{infix_fields, literal_of, literal_fields, prefix_fields, set_fields, super_fields, var_fields, expr_fields, expr_mark, expr_record, read_expr, a_number, a_string}
use Rattle.fields.specs.Words.{word64, span_of}
use Rattle.fields.proofs.Reading.{a_u64, a_span, then_on, then_bad}
use Rattle.tree_small.specs.Places.{place, and_then, row, below, known_mark, Tells}
use Rattle.tree_exprs.specs.Exprs.{number, announced, with_callee, follow, Announces, Opens}
use Rattle.std.specs.Prelude as rust
use Rattle.std.specs.Prelude.{Result, Ok, Err, None, Some, MatchOption}
use Rattle.tree_small.proofs.Places.{chain, made, and_then_end, row_one, exprs_row}
use Rattle.tree_small.proofs.Tables.{outside, Marked, known_none, alike, full_infix, full_prefix, full_kinds}
use Rattle.fields.specs.Marks as marks

-- ## A number's bits

module _ (tree : List ℕ) where
  pub number_cut : (fault : Refusal) (at : ℕ) → length tree < at + 8 → number tree fault at ≡ bad fault
  unfolding number ◌>>=◌
  number_cut fault at h = then_bad (λ n. need (leb n max_bits) fault >> return n) ((a_u64 tree).short fault at h)

  pub number_big : (fault : Refusal) (at : ℕ) → at + 8 ≤ length tree → max_bits < word64 tree at → number tree fault at ≡ bad fault
  unfolding number ◌>>=◌ ◌>>◌ go_on need return
  number_big fault at h l = then_on (λ n. need (leb n max_bits) fault >> return n) ((a_u64 tree).whole fault at h) ∙ rw (lt-leb (word64 tree at) max_bits l)

  pub number_is : (fault : Refusal) (at : ℕ) → at + 8 ≤ length tree → word64 tree at ≤ max_bits → number tree fault at ≡ got (word64 tree at) (at + 8)
  unfolding number ◌>>=◌ ◌>>◌ go_on need return
  number_is fault at h l = then_on (λ n. need (leb n max_bits) fault >> return n) ((a_u64 tree).whole fault at h) ∙ rw (le-leb (word64 tree at) max_bits l)

pub step_moved : {s : Result ℕ Refusal} {n m : ℕ} → n ≡ m → s ≡ Ok n → Ok m ≡ s
step_moved h e = ap Ok (sym h) ∙ sym e

-- ## Fields and then expressions

-- after a field that an answer tells
pub after : {tree : List ℕ} {field : Refusal → Reader ℕ} {size most at m : ℕ} {f : rust.Option ℕ} {r : Result (ℕ × ℕ) Refusal} (kids start : ℕ)
    → Tells tree field size most at f → MatchOption f (r ≡ Err (TreeForm start)) (λ _. r ≡ Ok (m, kids)) → at + size ≡ m → r ≡ announced (place (field (TreeForm start) at)) kids
unfolding announced place
after {f = None} kids start t q h = q ∙ sym (ap (λ x. announced (place x) kids) (t.no refl (TreeForm start)))
after {f = Some n} kids start t q h = q ∙ ap (λ (k : ℕ). Ok (k, kids)) (sym h) ∙ sym (ap (λ x. announced (place x) kids) (t.is n refl (TreeForm start)))

pub step_bad : (kids : ℕ) {s t : Result ℕ Refusal} {x : Refusal} → s ≡ t → s ≡ Err x → Err x ≡ announced t kids
unfolding announced
step_bad kids p e = sym (ap (λ q. announced q kids) (sym p ∙ e))

pub step_at : (kids : ℕ) {s t : Result ℕ Refusal} {n : ℕ} → s ≡ t → s ≡ Ok n → Ok (n, kids) ≡ announced t kids
unfolding announced
step_at kids p e = sym (ap (λ q. announced q kids) (sym p ∙ e))

pub callee_bad : {r : Read ℕ} {x : Refusal} → r ≡ bad x → Err x ≡ with_callee r
unfolding with_callee
callee_bad e = sym (ap with_callee e)

pub callee_at : {r : Read ℕ} {count n m : ℕ} → r ≡ got count n → n ≡ m → Ok (m, count + 1) ≡ with_callee r
unfolding with_callee
callee_at {count = count} e h = ap (λ (k : ℕ). Ok (k, count + 1)) (sym h) ∙ sym (ap with_callee e)

follow_announced : (one : ℕ → Result ℕ Refusal) (s : Result ℕ Refusal) (k : ℕ) → and_then s (row one k) ≡ follow one (announced s k)
unfolding follow announced and_then
follow_announced one (Ok n) k = refl
follow_announced one (Err r) k = refl

module _ (tree : List ℕ) (names : ℕ) (expr : Reader Expr) (fault : Refusal) (s : Span) (at : ℕ) where
  assign_place : place (assign_fields tree names expr fault s at) ≡ and_then (place (name tree names fault at)) (row (λ n. place (expr n)) 1)
  unfolding assign_fields ◌>>=◌
  assign_place = chain (name tree names fault at) _ _ (λ a n. made (expr n) _ ∙ sym (row_one (λ n. place (expr n)) n))

  get_place : place (get_fields tree names expr fault s at) ≡ and_then (place (name tree names fault at)) (row (λ n. place (expr n)) 1)
  unfolding get_fields ◌>>=◌
  get_place = chain (name tree names fault at) _ _ (λ a n. made (expr n) _ ∙ sym (row_one (λ n. place (expr n)) n))

  set_place : place (set_fields tree names expr fault s at) ≡ and_then (place (name tree names fault at)) (row (λ n. place (expr n)) 2)
  unfolding set_fields ◌>>=◌ row
  set_place = chain (name tree names fault at) _ _ (λ a n. chain (expr n) _ _ (λ v m. made (expr m) _ ∙ sym (row_one (λ n. place (expr n)) m)))

  super_place : place (super_fields tree names fault s at) ≡ and_then (place (name tree names fault at)) (row (λ n. place (expr n)) 0)
  unfolding super_fields ◌>>=◌ row return place
  super_place = chain (name tree names fault at) _ _ (λ a n. refl)

  var_place : place (var_fields tree names fault s at) ≡ and_then (place (name tree names fault at)) (row (λ n. place (expr n)) 0)
  unfolding var_fields ◌>>=◌ row return place
  var_place = chain (name tree names fault at) _ _ (λ a n. refl)

  infix_place : place (infix_fields tree names expr fault s at) ≡ and_then (place (below tree 12 fault at)) (row (λ n. place (expr n)) 2)
  unfolding infix_fields ◌>>=◌ row
  infix_place =
      chain ((u8 tree fault >>= one_of fault infix_ops) at) _ _ (λ a n. chain (expr n) _ _ (λ v m. made (expr m) _ ∙ sym (row_one (λ n. place (expr n)) m))) ∙
      ap (λ x. and_then x (row (λ n. place (expr n)) 2)) (alike tree full_infix fault at).places

  prefix_place : place (prefix_fields tree names expr fault s at) ≡ and_then (place (below tree 2 fault at)) (row (λ n. place (expr n)) 1)
  unfolding prefix_fields ◌>>=◌
  prefix_place =
      chain ((u8 tree fault >>= one_of fault prefix_ops) at) _ _ (λ a n. made (expr n) _ ∙ sym (row_one (λ n. place (expr n)) n)) ∙
      ap (λ x. and_then x (row (λ n. place (expr n)) 1)) (alike tree full_prefix fault at).places

  literal_place : place (literal_fields tree names fault s at) ≡ and_then (place (literal_fields tree names fault s at)) (row (λ n. place (expr n)) 0)
  unfolding row
  literal_place = sym (and_then_end _)

  call_from : (make : Expr → Exprs → Expr) (r : Read ℕ)
      → place (go_on r (λ count. expr >>= λ callee. read_exprs count expr >>= λ args. return (make callee args))) ≡ follow (λ n. place (expr n)) (with_callee r)
  unfolding go_on with_callee follow place row ◌>>=◌
  call_from make (bad x) = refl
  call_from make (got count n) =
      chain (expr n) _ (row (λ n. place (expr n)) count) (λ c m. made (read_exprs count expr m) _ ∙ exprs_row expr count m) ∙
      sym (ap (λ (k : ℕ). row (λ n. place (expr n)) k n) (add-one count))

  call_place : place (call_fields tree names expr fault s at) ≡ follow (λ n. place (expr n)) (with_callee (u16 tree fault at))
  unfolding call_fields ◌>>=◌
  call_place = call_from _ (u16 tree fault at)

-- ## By the mark

by : {r : Result (ℕ × ℕ) Refusal} (one : ℕ → Result ℕ Refusal) (s : Result ℕ Refusal) (kids : ℕ) {x : Result ℕ Refusal} → x ≡ and_then s (row one kids) → r ≡ announced s kids → x ≡ follow one r
by one s kids p e = p ∙ follow_announced one s kids ∙ ap (follow one) (sym e)

module _ (tree : List ℕ) (names start : ℕ) {mark : ℕ} {r : Result (ℕ × ℕ) Refusal} where
  announce : (code : ℕ) (kind : ExprMark) → lookup code expr_marks ≡ some kind → mark ≡ code
      → ((expr : Reader Expr) (s : Span) → place (expr_fields tree names expr (TreeForm start) kind s (start + 10)) ≡ follow (λ n. place (expr n)) r)
      → Announces tree names mark start r
  announce code kind l e h =
      record {
        whole = λ k look expr s.
            let y : some k ≡ some kind = sym look ∙ ap (λ (m : ℕ). lookup m expr_marks) e ∙ l in
            let z : k ≡ kind = cc in
            ap (λ (j : ExprMark). place (expr_fields tree names expr (TreeForm start) j s (start + 10))) z ∙ h expr s;
      }

  pub named_one : r ≡ announced (place (name tree names (TreeForm start) (start + 10))) 1 → (mark ≡ marks.EA) ⊎ (mark ≡ marks.EG) → Announces tree names mark start r
  unfolding lookup expr_marks expr_fields
  named_one q (inl e) = announce marks.EA EA refl e (λ expr s. by (λ n. place (expr n)) _ 1 (assign_place tree names expr (TreeForm start) s (start + 10)) q)
  named_one q (inr e) = announce marks.EG EG refl e (λ expr s. by (λ n. place (expr n)) _ 1 (get_place tree names expr (TreeForm start) s (start + 10)) q)

  pub named_two : r ≡ announced (place (name tree names (TreeForm start) (start + 10))) 2 → mark ≡ marks.ES → Announces tree names mark start r
  unfolding lookup expr_marks expr_fields
  named_two q e = announce marks.ES ES refl e (λ expr s. by (λ n. place (expr n)) _ 2 (set_place tree names expr (TreeForm start) s (start + 10)) q)

  pub named_super : r ≡ announced (place (name tree names (TreeForm start) (start + 10))) 0 → mark ≡ marks.EU → Announces tree names mark start r
  unfolding lookup expr_marks expr_fields
  named_super q e = announce marks.EU EU refl e (λ expr s. by (λ n. place (expr n)) _ 0 (super_place tree names expr (TreeForm start) s (start + 10)) q)

  pub named_var : r ≡ announced (place (name tree names (TreeForm start) (start + 10))) 0 → mark ≡ marks.EV → Announces tree names mark start r
  unfolding lookup expr_marks expr_fields
  named_var q e = announce marks.EV EV refl e (λ expr s. by (λ n. place (expr n)) _ 0 (var_place tree names expr (TreeForm start) s (start + 10)) q)

  pub operated_two : r ≡ announced (place (below tree 12 (TreeForm start) (start + 10))) 2 → mark ≡ marks.EI → Announces tree names mark start r
  unfolding lookup expr_marks expr_fields
  operated_two q e = announce marks.EI EI refl e (λ expr s. by (λ n. place (expr n)) _ 2 (infix_place tree names expr (TreeForm start) s (start + 10)) q)

  pub operated_one : r ≡ announced (place (below tree 2 (TreeForm start) (start + 10))) 1 → mark ≡ marks.EP → Announces tree names mark start r
  unfolding lookup expr_marks expr_fields
  operated_one q e = announce marks.EP EP refl e (λ expr s. by (λ n. place (expr n)) _ 1 (prefix_place tree names expr (TreeForm start) s (start + 10)) q)

  pub calls : r ≡ with_callee (u16 tree (TreeForm start) (start + 10)) → mark ≡ marks.EC → Announces tree names mark start r
  unfolding lookup expr_marks expr_fields
  calls q e = announce marks.EC EC refl e (λ expr s. call_place tree names expr (TreeForm start) s (start + 10) ∙ ap (follow (λ n. place (expr n))) (sym q))

  a_literal : ((s : Span) → r ≡ announced (place (literal_fields tree names (TreeForm start) s (start + 10))) 0) → mark ≡ marks.EL → Announces tree names mark start r
  unfolding lookup expr_marks expr_fields
  a_literal q e = announce marks.EL EL refl e (λ expr s. by (λ n. place (expr n)) _ 0 (literal_place tree names expr (TreeForm start) s (start + 10)) (q s))

  none_of : (lookup mark expr_marks ≡ none) → Announces tree names mark start r
  none_of l =
      record {
        whole = λ k look expr s.
            let y : ◌≡◌ {A = Option ExprMark} (some k) none = sym look ∙ l in
            let z : ◌≡◌ {A = ℕ} 0 1 = cc in absurd (omega arith);
      }

  other_if : (t : Bool) → eqb mark marks.EL ≡ t → ((s : Span) → r ≡ announced (place (literal_fields tree names (TreeForm start) s (start + 10))) 0)
      → (OneOf (marks.EA ∷ marks.EG ∷ marks.EC ∷ marks.EI ∷ marks.EP ∷ marks.ES ∷ marks.EU ∷ marks.EV ∷ []) mark → ⊥) → Announces tree names mark start r
  unfolding all expr_marks
  other_if true e q n = a_literal q (eqb-true _ _ e)
  other_if false e q n =
      none_of (outside (marks.EL ∷ marks.EA ∷ marks.EG ∷ marks.EC ∷ marks.EI ∷ marks.EP ∷ marks.ES ∷ marks.EU ∷ marks.EV ∷ []) expr_marks mark refl
      (⊎_elim (eqb-false _ _ e) n))

  -- no other mark is left
  pub literal_left : ((s : Span) → r ≡ announced (place (literal_fields tree names (TreeForm start) s (start + 10))) 0)
      → ((mark ≡ marks.EA) ⊎ (mark ≡ marks.EG) → ⊥) → (mark ≡ marks.EC → ⊥) → (mark ≡ marks.EI → ⊥) → (mark ≡ marks.EP → ⊥) → (mark ≡ marks.ES → ⊥) → (mark ≡ marks.EU → ⊥) → (mark ≡ marks.EV → ⊥)
      → Announces tree names mark start r
  literal_left q a b c d e f g =
      other_if _ refl q
      (⊎_elim (λ h. a (inl h)) (⊎_elim (λ h. a (inr h)) (⊎_elim b (⊎_elim c (⊎_elim d (⊎_elim e (⊎_elim f g)))))))

-- ## A record

bad_opened : {x : Refusal} {from count : ℕ} → ◌≡◌ {A = Result (ℕ × ℕ) Refusal} (Err x) (Ok (from, count)) → ⊥
bad_opened e = let z : ◌≡◌ {A = ℕ} 0 1 = cc in omega arith

module _ (tree : List ℕ) (names : ℕ) where
  pub no_expr : (depth at : ℕ) → known_mark expr_marks tree at ≡ None → read_expr tree names depth at ≡ bad (TreeForm at)
  unfolding read_expr expr_record expr_mark ◌>>=◌ here go_on lookup expr_marks
  no_expr zero at e = then_bad _ (known_none expr_marks tree at e (TreeForm at))
  no_expr (suc depth) at e = then_bad _ (known_none expr_marks tree at e (TreeForm at))

  pub deep_expr : (depth at : ℕ) {m : ℕ} → Marked expr_marks tree at m → depth ≡ 0 → read_expr tree names depth at ≡ bad (TreeTooDeep at)
  unfolding read_expr expr_mark ◌>>=◌ here go_on refuse
  deep_expr zero at k z = then_on _ (k.is (TreeForm at))
  deep_expr (suc depth) at k z = absurd (omega arith)

  pub cut_expr : (depth at : ℕ) {m : ℕ} → Marked expr_marks tree at m → (depth ≡ 0 → ⊥) → length tree < at + 10 → read_expr tree names depth at ≡ bad (TreeForm at)
  unfolding read_expr expr_record expr_mark ◌>>=◌ here go_on
  cut_expr zero at k z h = absurd (z refl)
  cut_expr (suc depth) at k z h = then_on _ (k.is (TreeForm at)) ∙ then_bad _ ((a_span tree).short (TreeForm at) (at + 2) (omega arith))

  -- what follows the span of a record that is there
  pub expr_is : (depth at : ℕ) {m : ℕ} (k : Marked expr_marks tree at m) → (depth ≡ 0 → ⊥) → at + 10 ≤ length tree
      → read_expr tree names depth at ≡ expr_fields tree names (read_expr tree names (depth - 1)) (TreeForm at) k.kind (span_of tree (at + 2)) (at + 10)
  unfolding read_expr expr_record expr_mark ◌>>=◌ here go_on
  expr_is zero at k z h = absurd (z refl)
  expr_is (suc depth) at k z h =
      let p : suc depth - 1 ≡ depth = omega arith in
      let q : at + 2 + 8 ≡ at + 10 = omega arith in
      then_on _ (k.is (TreeForm at)) ∙ then_on _ ((a_span tree).whole (TreeForm at) (at + 2) (omega arith)) ∙
      ap (expr_fields tree names (read_expr tree names depth) (TreeForm at) k.kind (span_of tree (at + 2))) q ∙
      sym (ap (λ (d : ℕ). expr_fields tree names (read_expr tree names d) (TreeForm at) k.kind (span_of tree (at + 2)) (at + 10)) p)

  pub opens_bad : (depth at : ℕ) {x : Refusal} → read_expr tree names depth at ≡ bad x → Opens tree names depth at (Err x)
  unfolding place follow
  opens_bad depth at e = record { whole = ap place e; room = λ from count q. absurd (bad_opened q) }

  pub opens_kids : (depth at : ℕ) {m : ℕ} {r : Result (ℕ × ℕ) Refusal} → Marked expr_marks tree at m → (depth ≡ 0 → ⊥) → at + 10 ≤ length tree
      → Announces tree names m at r → Opens tree names depth at r
  opens_kids depth at k z h a =
      record {
        whole = ap place (expr_is depth at k z h) ∙ a.whole k.kind k.look (read_expr tree names (depth - 1)) (span_of tree (at + 2));
        room = λ from count q. omega (arith, z);
      }

-- ## A literal

pub same_place : {A B C : Type 0} (r : Read A) (f : A → Reader B) (g : A → Reader C) → ((a : A) (n : ℕ) → place (f a n) ≡ place (g a n)) → place (go_on r f) ≡ place (go_on r g)
unfolding go_on place
same_place (got a n) f g h = h a n
same_place (bad x) f g h = refl

need_place : {A B : Type 0} (t : Bool) (x : Refusal) (v : A) (w : B) (n : ℕ) → place ((need t x >> return v) n) ≡ place ((need t x >> return w) n)
unfolding need ◌>>◌ go_on return place
need_place true x v w n = refl
need_place false x v w n = refl

module _ (tree : List ℕ) (names : ℕ) (fault : Refusal) (s : Span) (at : ℕ) where
  pub literal_no : below tree 5 fault at ≡ bad fault → literal_fields tree names fault s at ≡ bad fault
  unfolding literal_fields ◌>>=◌
  literal_no e = then_bad _ ((alike tree full_kinds fault at).no e)

  pub literal_plain : (kind : ℕ) → below tree 5 fault at ≡ got kind (at + 1) → kind < 3 → place (literal_fields tree names fault s at) ≡ Ok (at + 1)
  unfolding literal_fields ◌>>=◌ go_on lookup literal_kinds literal_of return place
  literal_plain zero e h = ap place (then_on _ ((alike tree full_kinds fault at).is e refl))
  literal_plain (suc zero) e h = ap place (then_on _ ((alike tree full_kinds fault at).is e refl))
  literal_plain (suc (suc zero)) e h = ap place (then_on _ ((alike tree full_kinds fault at).is e refl))
  literal_plain (suc (suc (suc kind))) e h = absurd (omega arith)

  pub literal_number : (kind : ℕ) → below tree 5 fault at ≡ got kind (at + 1) → kind ≡ 3 → {m : ℕ} → at + 1 ≡ m → place (literal_fields tree names fault s at) ≡ place (number tree fault m)
  unfolding literal_fields ◌>>=◌ lookup literal_kinds literal_of number
  literal_number kind e h j =
      let q : below tree 5 fault at ≡ got 3 (at + 1) = e ∙ ap (λ (k : ℕ). got k (at + 1)) h in
      ap place (then_on _ ((alike tree full_kinds fault at).is q refl)) ∙
      made (literal_of tree names fault a_number (at + 1)) _ ∙
      same_place (u64 tree fault (at + 1)) _ _ (λ bits n. need_place (leb bits max_bits) fault _ bits n) ∙
      ap (λ (k : ℕ). place (number tree fault k)) j

  pub literal_string : (kind : ℕ) → below tree 5 fault at ≡ got kind (at + 1) → kind < 5 → 3 ≤ kind → (kind ≡ 3 → ⊥) → {m : ℕ} → at + 1 ≡ m → place
      (literal_fields tree names fault s at) ≡ place (name tree names fault m)
  unfolding literal_fields ◌>>=◌ lookup literal_kinds literal_of
  literal_string kind e h g f i =
      let j : kind ≡ 4 = omega arith in
      let q : below tree 5 fault at ≡ got 4 (at + 1) = e ∙ ap (λ (k : ℕ). got k (at + 1)) j in
      ap place (then_on _ ((alike tree full_kinds fault at).is q refl)) ∙
      made (literal_of tree names fault a_string (at + 1)) _ ∙
      made (name tree names fault (at + 1)) _ ∙
      ap (λ (k : ℕ). place (name tree names fault k)) i
