-- An `if`: a condition, the part where it holds, and the part where it does not, which may be missing. The laws follow the code from one call to the
-- next: what may be relied on there, and what the whole comes to where a part is refused.
use Rattle.steps.specs.Why.{Step}
use Rattle.std.specs.Prelude.{Ok, Err}
use mathlib.Core.Path.{◌≡◌, refl, sym, ap, subst, ◌∙◌}
use mathlib.Core.Bool.{Bool, true, false}
use mathlib.Core.Option.{some}
use mathlib.Core.List.{List, []}
use mathlib.Core.Logic.{⊎_elim}
use Prim.Native.Nat.{ℕ, ◌+◌, ◌-◌, ◌*◌, ◌≤◌, ◌<◌}
use native.Mathlib.Omega.{arith}
use native.Mathlib.Nat.{le_refl}
use Rattle.rules.specs.Base.{lookup}
use Rattle.rules.specs.declared.Span.{Span}
use Rattle.rules.specs.Tree.{Stmt, Stmts, StmtIf}
use Rattle.rules.specs.Reader.{got, Reader, go_on, return, ◌>>=◌}
use Rattle.rules.specs.TreeFile.{flags, maybe_stmt, read_expr, read_stmt, read_stmts}
use Rattle.rules.specs.Compiler.{◌>>◌, compile_expr, compile_stmt, compile_stmts, patch_jump}
use Rattle.fields.specs.Words.{word8, word16, letters, span_of}
use Rattle.tree_laws.proofs.Statements.{IfAt, if_at, flag_on, flag_off, flag_is}
use Rattle.tree_laws.proofs.Later.{later_expr, later_stmt}
use Rattle.state.specs.Layout.{deepest}
use Rattle.steps.specs.View.{Mem, Fit, code_len, depth_at, steady, Did, Opened}
use Rattle.steps.proofs.Steps.{went, still, valued, stuck, went_to, placed, stuck_to, refused_seq, refused_bind}
use Rattle.expr_laws.specs.Exprs.{There, expr_at, Ran}
use Rattle.stmt_jumps.specs.Jumps.{open_jump, turn_jump}
use Rattle.steps.proofs.Monad.{on_to}
use Rattle.stmt_output_laws.specs.Output.{funs_left, stmt_at, stmts_at, Worked, Walked, Ready}
use Rattle.stmt_output_laws.proofs.Growing.{Run, free_steady, of_gave, of_grew, to_grew, run_seq, run_bind, run_refused, run_refused_seq, grown, reached, refused, stopped, conclude, ready_after}
use Rattle.stmt_laws.proofs.Cuts.{if_cut}
use Rattle.stmt_laws.proofs.Blocks.{by_parts}
use Rattle.fields.specs.Marks as marks
use Rattle.steps.specs.declared.Why.{Why}

-- a part that may be missing is a row of none or one
pub none_row : (stmt : Reader Stmt) (at : ℕ) → read_stmts 0 stmt at ≡ maybe_stmt false stmt at
unfolding read_stmts maybe_stmt
none_row stmt at = refl

pub one_row : (stmt : Reader Stmt) (at : ℕ) → read_stmts 1 stmt at ≡ maybe_stmt true stmt at
unfolding read_stmts maybe_stmt ◌>>=◌ return go_on
one_row stmt at = refl

pub as_row : (b : Bool) (stmt : Reader Stmt) (k at : ℕ) → lookup k flags ≡ some b → {ss : Stmts} {n : ℕ} → maybe_stmt b stmt at ≡ got ss n → read_stmts k stmt at ≡ got ss n
as_row b stmt k at q r =
    ⊎_elim
    (λ z. ap (λ (j : ℕ). read_stmts j stmt at) z ∙ none_row stmt at ∙ ap (λ (c : Bool). maybe_stmt c stmt at) (sym (flag_off k q z)) ∙ r)
    (λ z. ap (λ (j : ℕ). read_stmts j stmt at) z ∙ one_row stmt at ∙ ap (λ (c : Bool). maybe_stmt c stmt at) (sym (flag_on k q z)) ∙ r)
    (flag_is k q)

-- what is deep enough for a statement is deep enough for its children
pub no_deeper : (d left : ℕ) → d + 2 * left ≤ deepest → d + 2 * (left - 1) ≤ deepest
no_deeper d left h = omega arith

pub eleven_on : (at : ℕ) {n : ℕ} → at + 11 ≤ n → at ≤ n
eleven_on at h = omega arith

module _ (tree : List ℕ) (l at left : ℕ) (mark : letters tree at ≡ marks.SI) where
  abbrev parts : {s : Stmt} {n : ℕ} → stmt_at tree left l at ≡ got s n
      → IfAt tree (word16 tree 2) (read_expr tree (word16 tree 2) (left - 1)) (read_stmt tree (word16 tree 2) (left - 1) (funs_left l)) at s n
  parts h = if_at tree (word16 tree 2) left (funs_left l) at mark h

  pub if_cond : There (stmt_at tree left l at) → There (expr_at tree (left - 1) (at + 11))
  if_cond h = record { thing = (parts h.is).cond; next = (parts h.is).mid; is = (parts h.is).one }

  whole : (span : Span) (sp : span ≡ span_of tree (at + 2)) {s : Stmt} {n : ℕ} (h : stmt_at tree left l at ≡ got s n) → s ≡ StmtIf span (parts h).cond (parts h).yes_part (parts h).no_part
  whole span sp h = (parts h).is ∙ ap (λ (z : Span). StmtIf z (parts h).cond (parts h).yes_part (parts h).no_part) (sym sp)

  module _ (span : Span) {class limit : ℕ} {before m1 : Mem} {ra : Step} (a : Ran class limit l (expr_at tree (left - 1) (at + 11)) before m1 ra) where
    pub if_stop : (sp : span ≡ span_of tree (at + 2)) (out : List ℕ) {x : Why} → ra ≡ Err x → Walked class limit l at (stmt_at tree left l at) (compile_stmt limit) before out m1 out ra
    if_stop sp out q = record {
      did = λ s n h. by_parts (whole span sp h) (if_cut limit span (parts h).cond (parts h).yes_part (parts h).no_part)
          (stopped q (refused_seq (stuck (a.did (parts h).cond (parts h).mid (parts h).one) q) _));
    }

    pub if_fit : {n1 : ℕ} → There (stmt_at tree left l at) → ra ≡ Ok n1 → Fit m1 l limit
    if_fit h qa = (went (a.did (parts h.is).cond (parts h.is).mid (parts h.is).one) qa).ahead.fit

    module _ {n1 : ℕ} (qa : ra ≡ Ok n1) where
      here : {s : Stmt} {n : ℕ} (h : stmt_at tree left l at ≡ got s n) → n1 ≡ (parts h).mid
      here h = valued (a.did (parts h).cond (parts h).mid (parts h).one) qa

      -- a child stands further on than the statement
      pub if_far : There (stmt_at tree left l at) → at < n1
      if_far h =
          let e = here h.is in
          let k = later_expr tree (word16 tree 2) (left - 1) (at + 11) (parts h.is).one in
          omega (arith, e, k)

      first : (out : List ℕ) {s : Stmt} {n : ℕ} (h : stmt_at tree left l at ≡ got s n) → Run class limit l at n1 steady (compile_expr limit (parts h).cond) tt before out m1 out
      first out h = of_gave out refl (subst (λ (k : ℕ). at ≤ k) (sym (here h)) (eleven_on at (later_expr tree (word16 tree 2) (left - 1) (at + 11) (parts h).one)))
          (went (a.did (parts h).cond (parts h).mid (parts h).one) qa)

      module _ {m2 : Mem} {rb : Step} (b : Opened class limit l steady (open_jump limit span) m1 m2 rb) where
        pub if_stop_2 : (sp : span ≡ span_of tree (at + 2)) (out : List ℕ) {x : Why} → rb ≡ Err x → Walked class limit l at (stmt_at tree left l at) (compile_stmt limit) before out m2 out rb
        if_stop_2 sp out q = record {
          did = λ s n h. by_parts (whole span sp h) (if_cut limit span (parts h).cond (parts h).yes_part (parts h).no_part)
              (stopped q (run_refused_seq (first out h) _ (refused_bind (stuck_to b q) _)));
        }

        module _ {j : ℕ} (qb : rb ≡ Ok j) where
          second : (out : List ℕ) → Run class limit l n1 n1 steady (open_jump limit span) j m1 out m2 out
          second out = of_gave out refl (le_refl n1) (went_to b qb)

          pub if_yes : There (stmt_at tree left l at) → There (stmt_at tree (left - 1) l n1)
          if_yes h = record { thing = (parts h.is).yes_part; next = (parts h.is).late; is = ap (read_stmt tree (word16 tree 2) (left - 1) (funs_left l)) (here h.is) ∙ (parts h.is).two }

          pub if_yes_ready : There (stmt_at tree left l at) → Ready tree before at left l limit → Ready tree m2 n1 (left - 1) l limit
          if_yes_ready h y = ready_after y (run_seq free_steady (open_jump limit span) (first [] h.is) (second [])) (no_deeper (depth_at before l) left y.shallow)

          module _ {m3 : Mem} {out out3 : List ℕ} {rd : Step} (d : Walked class limit l n1 (stmt_at tree (left - 1) l n1) (compile_stmt limit) m2 out m3 out3 rd) where
            then_did : {s : Stmt} {n : ℕ} (h : stmt_at tree left l at ≡ got s n) → Worked class limit l n1 (parts h).late (compile_stmt limit (parts h).yes_part) m2 out m3 out3 rd
            then_did h = d.did (parts h).yes_part (parts h).late (ap (read_stmt tree (word16 tree 2) (left - 1) (funs_left l)) (here h) ∙ (parts h).two)

            pub if_stop_3 : (sp : span ≡ span_of tree (at + 2)) {x : Why} → rd ≡ Err x → Walked class limit l at (stmt_at tree left l at) (compile_stmt limit) before out m3 out3 rd
            if_stop_3 sp q = record {
              did = λ s n h. by_parts (whole span sp h) (if_cut limit span (parts h).cond (parts h).yes_part (parts h).no_part)
                  (stopped q (run_refused_seq (first out h) _ (run_refused (second out) _ (refused_seq (refused (then_did h) q) _))));
            }

            module _ {n2 : ℕ} (qd : rd ≡ Ok n2) where
              there : {s : Stmt} {n : ℕ} (h : stmt_at tree left l at ≡ got s n) → n2 ≡ (parts h).late
              there h = reached (then_did h) qd

              pub if_far_2 : There (stmt_at tree left l at) → at < n2
              if_far_2 h =
                  let e = there h.is in
                  let k = later_expr tree (word16 tree 2) (left - 1) (at + 11) (parts h.is).one in
                  let j = later_stmt tree (word16 tree 2) (left - 1) (funs_left l) (parts h.is).mid (parts h.is).two in
                  omega (arith, e, k, j)

              third : {s : Stmt} {n : ℕ} (h : stmt_at tree left l at ≡ got s n) → Run class limit l n1 (parts h).late steady (compile_stmt limit (parts h).yes_part) tt m2 out m3 out3
              third h = of_grew (grown (then_did h) qd)

              -- the place of the first jump's operand is still one, and the areas fit
              pub if_place : There (stmt_at tree left l at) → j + 2 ≤ code_len m3 l
              if_place h = still j (placed b qb) (third h.is).gave

              pub if_fit_2 : There (stmt_at tree left l at) → Fit m3 l limit
              if_fit_2 h = (third h.is).gave.ahead.fit

              module _ {m4 : Mem} {re : Step} (e : Opened class limit l steady (turn_jump limit j span) m3 m4 re) where
                pub if_stop_4 : (sp : span ≡ span_of tree (at + 2)) {x : Why} → re ≡ Err x → Walked class limit l at (stmt_at tree left l at) (compile_stmt limit) before out m4 out3 re
                if_stop_4 sp q = record {
                  did = λ s n h. by_parts (whole span sp h) (if_cut limit span (parts h).cond (parts h).yes_part (parts h).no_part)
                      (stopped q (run_refused_seq (first out h) _ (run_refused (second out) _ (run_refused_seq (third h) _ (refused_bind (stuck_to e q) _)))));
                }

                module _ {k : ℕ} (qe : re ≡ Ok k) where
                  fourth : {late : ℕ} → Run class limit l late late steady (turn_jump limit j span) k m3 out3 m4 out3
                  fourth {late} = of_gave out3 refl (le_refl late) (went_to e qe)

                  row_of : {s : Stmt} {n : ℕ} (h : stmt_at tree left l at ≡ got s n) → stmts_at tree (word8 tree (at + 10)) (left - 1) l n2 ≡ got (parts h).no_part n
                  row_of h =
                      ap (read_stmts (word8 tree (at + 10)) (read_stmt tree (word16 tree 2) (left - 1) (funs_left l))) (there h)
                      ∙ as_row (parts h).has (read_stmt tree (word16 tree 2) (left - 1) (funs_left l)) (word8 tree (at + 10)) (parts h).late (parts h).look (parts h).three

                  pub if_no : There (stmt_at tree left l at) → There (stmts_at tree (word8 tree (at + 10)) (left - 1) l n2)
                  if_no h = record { thing = (parts h.is).no_part; next = h.next; is = row_of h.is }

                  pub if_no_ready : There (stmt_at tree left l at) → Ready tree before at left l limit → Ready tree m4 n2 (left - 1) l limit
                  if_no_ready h y =
                      subst (λ (p : ℕ). Ready tree m4 p (left - 1) l limit) (sym (there h.is))
                      (ready_after y
                      (run_seq free_steady _ (first out h.is)
                      (run_bind free_steady (λ _. compile_stmt limit (parts h.is).yes_part >> turn_jump limit j span) (second out) (run_seq free_steady _ (third h.is) fourth)))
                      (no_deeper (depth_at before l) left y.shallow))

                  module _ {m5 : Mem} {out5 : List ℕ} {rf : Step} (f : Walked class limit l n2 (stmts_at tree (word8 tree (at + 10)) (left - 1) l n2) (compile_stmts limit) m4 out3 m5 out5 rf) where
                    else_did : {s : Stmt} {n : ℕ} (h : stmt_at tree left l at ≡ got s n) → Worked class limit l n2 n (compile_stmts limit (parts h).no_part) m4 out3 m5 out5 rf
                    else_did {s} {n} h = f.did (parts h).no_part n (row_of h)

                    pub if_stop_5 : (sp : span ≡ span_of tree (at + 2)) {x : Why} → rf ≡ Err x → Walked class limit l at (stmt_at tree left l at) (compile_stmt limit) before out m5 out5 rf
                    if_stop_5 sp q = record {
                      did = λ s n h. by_parts (whole span sp h) (if_cut limit span (parts h).cond (parts h).yes_part (parts h).no_part)
                          (stopped q
                          (run_refused_seq (first out h) _
                          (run_refused (second out) _ (run_refused_seq (third h) _ (run_refused (fourth {late = (parts h).late}) _ (refused_seq (refused (else_did h) q) _))))));
                    }

                    module _ {n3 : ℕ} (qf : rf ≡ Ok n3) where
                      fifth : {s : Stmt} {n : ℕ} (h : stmt_at tree left l at ≡ got s n) → Run class limit l (parts h).late n steady (compile_stmts limit (parts h).no_part) tt m4 out3 m5 out5
                      fifth {s} {n} h = subst (λ (p : ℕ). Run class limit l p n steady (compile_stmts limit (parts h).no_part) tt m4 out3 m5 out5) (there h) (of_grew (grown (else_did h) qf))

                      pub if_place_2 : There (stmt_at tree left l at) → k + 2 ≤ code_len m5 l
                      if_place_2 h = still k (placed e qe) (fifth h.is).gave

                      pub if_fit_3 : There (stmt_at tree left l at) → Fit m5 l limit
                      if_fit_3 h = (fifth h.is).gave.ahead.fit

                      pub if_done : (sp : span ≡ span_of tree (at + 2)) {now : Mem} {rg : Step} → Did class limit l n3 steady (patch_jump k span) m5 now rg
                          → Walked class limit l at (stmt_at tree left l at) (compile_stmt limit) before out now out5 rg
                      if_done sp {now} {rg} g = record {
                        did = λ s n h. by_parts (whole span sp h) (if_cut limit span (parts h).cond (parts h).yes_part (parts h).no_part)
                            (conclude
                            (λ z. to_grew (λ d. refl) refl (λ x. refl)
                            (run_seq free_steady _ (first out h)
                            (run_bind free_steady _ (second out)
                            (run_seq free_steady _ (third h) (run_bind free_steady _ fourth (run_seq free_steady _ (fifth h) (of_gave out5 refl (le_refl n) z)))))))
                            (λ x z. run_refused_seq (first out h) _
                            (run_refused (second out) _ (run_refused_seq (third h) _ (run_refused (fourth {late = (parts h).late}) _ (run_refused_seq (fifth h) _ z)))))
                            (on_to (reached (else_did h) qf) g));
                      }
