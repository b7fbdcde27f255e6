-- A `while`: where its code starts, a condition, a body, and the jump back.
use Rattle.steps.specs.Why.{Step}
use Rattle.std.specs.Prelude.{Ok, Err}
use mathlib.Core.Path.{◌≡◌, refl, sym, ap, subst, ◌∙◌}
use mathlib.Core.Option.{some}
use mathlib.Core.List.{List, []}
use Prim.Native.Nat.{ℕ, ◌+◌, ◌-◌, ◌≤◌, ◌<◌}
use native.Mathlib.Omega.{arith}
use native.Mathlib.Nat.{le_refl, le_trans}
use Rattle.rules.specs.declared.Span.{Span}
use Rattle.rules.specs.Tree.{Stmt, StmtWhile}
use Rattle.rules.specs.Reader.{got}
use Rattle.rules.specs.TreeFile.{read_expr, read_stmt}
use Rattle.rules.specs.Compiler.{start_loop, code_length, compile_expr, compile_stmt}
use Rattle.fields.specs.Words.{word16, letters, span_of}
use Rattle.tree_laws.proofs.Statements.{WhileAt, while_at}
use Rattle.tree_laws.proofs.Later.{later_expr}
use Rattle.steps.specs.View.{Mem, Fit, code_len, depth_at, steady, Did, Opened, Told}
use Rattle.steps.proofs.Steps.{went, still, valued, stuck, went_to, placed, stuck_to, refused_seq, refused_bind}
use Rattle.expr_laws.specs.Exprs.{There, expr_at, Ran}
use Rattle.stmt_jumps.specs.Jumps.{open_jump}
use Rattle.steps.proofs.Monad.{on_to}
use Rattle.stmt_output_laws.specs.Output.{funs_left, stmt_at, Worked, Walked, Ready}
use Rattle.stmt_jumps.specs.Jumps.{close_loop}
use Rattle.stmt_output_laws.proofs.Growing.{Run, free_steady, of_gave, of_grew, to_grew, told_run, run_seq, run_bind, run_refused, run_refused_seq, grown, reached, refused, stopped}
use Rattle.stmt_output_laws.proofs.Growing.{conclude, ready_after}
use Rattle.stmt_laws.proofs.Cuts.{while_cut}
use Rattle.stmt_laws.proofs.Blocks.{by_parts}
use Rattle.stmt_laws.proofs.Calls.{ten_on}
use Rattle.stmt_laws.proofs.Ifs.{no_deeper}
use Rattle.fields.specs.Marks as marks
use Rattle.steps.specs.declared.Why.{Why}

module _ (tree : List ℕ) (l at left : ℕ) (mark : letters tree at ≡ marks.SW) where
  abbrev parts : {s : Stmt} {n : ℕ} → stmt_at tree left l at ≡ got s n
      → WhileAt tree (word16 tree 2) (read_expr tree (word16 tree 2) (left - 1)) (read_stmt tree (word16 tree 2) (left - 1) (funs_left l)) at s n
  parts h = while_at tree (word16 tree 2) left (funs_left l) at mark h

  pub while_cond : There (stmt_at tree left l at) → There (expr_at tree (left - 1) (at + 10))
  while_cond h = record { thing = (parts h.is).cond; next = (parts h.is).mid; is = (parts h.is).one }

  whole : (span : Span) (sp : span ≡ span_of tree (at + 2)) {s : Stmt} {n : ℕ} (h : stmt_at tree left l at ≡ got s n) → s ≡ StmtWhile span (parts h).cond (parts h).body
  whole span sp h = (parts h).is ∙ ap (λ (z : Span). StmtWhile z (parts h).cond (parts h).body) (sym sp)

  module _ (span : Span) {class limit start : ℕ} {before : Mem} (fit : Fit before l limit) (ask : Told class l code_length start before) where
    asked : (out : List ℕ) → Run class limit l at at steady start_loop start before out before out
    asked out = told_run out fit (le_refl at) ask

    module _ {m1 : Mem} {ra : Step} (a : Ran class limit l (expr_at tree (left - 1) (at + 10)) before m1 ra) where
      pub while_stop : (sp : span ≡ span_of tree (at + 2)) (out : List ℕ) {x : Why} → ra ≡ Err x → Walked class limit l at (stmt_at tree left l at) (compile_stmt limit) before out m1 out ra
      while_stop sp out q = record {
        did = λ s n h. by_parts (whole span sp h) (while_cut limit span (parts h).cond (parts h).body)
            (stopped q (run_refused (asked out) _ (refused_seq (stuck (a.did (parts h).cond (parts h).mid (parts h).one) q) _)));
      }

      pub while_fit : {n1 : ℕ} → There (stmt_at tree left l at) → ra ≡ Ok n1 → Fit m1 l limit
      while_fit h qa = (went (a.did (parts h.is).cond (parts h.is).mid (parts h.is).one) qa).ahead.fit

      module _ {n1 : ℕ} (qa : ra ≡ Ok n1) where
        here : {s : Stmt} {n : ℕ} (h : stmt_at tree left l at ≡ got s n) → n1 ≡ (parts h).mid
        here h = valued (a.did (parts h).cond (parts h).mid (parts h).one) qa

        -- the body stands further on than the statement
        pub while_far : There (stmt_at tree left l at) → at < n1
        while_far h =
            let e = here h.is in
            let k = later_expr tree (word16 tree 2) (left - 1) (at + 10) (parts h.is).one in
            omega (arith, e, k)

        first : (out : List ℕ) {s : Stmt} {n : ℕ} (h : stmt_at tree left l at ≡ got s n) → Run class limit l at n1 steady (compile_expr limit (parts h).cond) tt before out m1 out
        first out h = of_gave out refl (subst (λ (k : ℕ). at ≤ k) (sym (here h)) (ten_on at (later_expr tree (word16 tree 2) (left - 1) (at + 10) (parts h).one)))
            (went (a.did (parts h).cond (parts h).mid (parts h).one) qa)

        module _ {m2 : Mem} {rb : Step} (b : Opened class limit l steady (open_jump limit span) m1 m2 rb) where
          pub while_stop_2 : (sp : span ≡ span_of tree (at + 2)) (out : List ℕ) {x : Why} → rb ≡ Err x → Walked class limit l at (stmt_at tree left l at) (compile_stmt limit) before out m2 out rb
          while_stop_2 sp out q = record {
            did = λ s n h. by_parts (whole span sp h) (while_cut limit span (parts h).cond (parts h).body)
                (stopped q (run_refused (asked out) _ (run_refused_seq (first out h) _ (refused_bind (stuck_to b q) _))));
          }

          module _ {j : ℕ} (qb : rb ≡ Ok j) where
            second : (out : List ℕ) → Run class limit l n1 n1 steady (open_jump limit span) j m1 out m2 out
            second out = of_gave out refl (le_refl n1) (went_to b qb)

            pub while_body : There (stmt_at tree left l at) → There (stmt_at tree (left - 1) l n1)
            while_body h = record { thing = (parts h.is).body; next = h.next; is = ap (read_stmt tree (word16 tree 2) (left - 1) (funs_left l)) (here h.is) ∙ (parts h.is).two }

            pub while_ready : There (stmt_at tree left l at) → Ready tree before at left l limit → Ready tree m2 n1 (left - 1) l limit
            while_ready h y = ready_after y (run_seq free_steady (open_jump limit span) (first [] h.is) (second [])) (no_deeper (depth_at before l) left y.shallow)

            module _ {m3 : Mem} {out out3 : List ℕ} {rd : Step} (d : Walked class limit l n1 (stmt_at tree (left - 1) l n1) (compile_stmt limit) m2 out m3 out3 rd) where
              body_did : {s : Stmt} {n : ℕ} (h : stmt_at tree left l at ≡ got s n) → Worked class limit l n1 n (compile_stmt limit (parts h).body) m2 out m3 out3 rd
              body_did {s} {n} h = d.did (parts h).body n (ap (read_stmt tree (word16 tree 2) (left - 1) (funs_left l)) (here h) ∙ (parts h).two)

              pub while_stop_3 : (sp : span ≡ span_of tree (at + 2)) {x : Why} → rd ≡ Err x → Walked class limit l at (stmt_at tree left l at) (compile_stmt limit) before out m3 out3 rd
              while_stop_3 sp q = record {
                did = λ s n h. by_parts (whole span sp h) (while_cut limit span (parts h).cond (parts h).body)
                    (stopped q (run_refused (asked out) _ (run_refused_seq (first out h) _ (run_refused (second out) _ (refused_seq (refused (body_did h) q) _)))));
              }

              module _ {n2 : ℕ} (qd : rd ≡ Ok n2) where
                third : {s : Stmt} {n : ℕ} (h : stmt_at tree left l at ≡ got s n) → Run class limit l n1 n steady (compile_stmt limit (parts h).body) tt m2 out m3 out3
                third h = of_grew (grown (body_did h) qd)

                pub while_place : There (stmt_at tree left l at) → j + 2 ≤ code_len m3 l
                while_place h = still j (placed b qb) (third h.is).gave

                pub while_fit_2 : There (stmt_at tree left l at) → Fit m3 l limit
                while_fit_2 h = (third h.is).gave.ahead.fit

                -- the code has only grown since the loop's start
                pub while_start : There (stmt_at tree left l at) → start ≡ code_len before l → start ≤ code_len m3 l
                while_start h q = subst (λ (k : ℕ). k ≤ code_len m3 l) (sym q) (le_trans (first [] h.is).gave.ahead.up (le_trans (second []).gave.ahead.up (third h.is).gave.ahead.up))

                pub while_done : (sp : span ≡ span_of tree (at + 2)) {now : Mem} {rg : Step} → Did class limit l n2 steady (close_loop limit start (some j) span) m3 now rg
                    → Walked class limit l at (stmt_at tree left l at) (compile_stmt limit) before out now out3 rg
                while_done sp {now} {rg} g = record {
                  did = λ s n h. by_parts (whole span sp h) (while_cut limit span (parts h).cond (parts h).body)
                      (conclude
                      (λ z. to_grew (λ d. refl) refl (λ x. refl)
                      (run_bind free_steady _ (asked out)
                      (run_seq free_steady _ (first out h) (run_bind free_steady _ (second out) (run_seq free_steady _ (third h) (of_gave out3 refl (le_refl n) z))))))
                      (λ x z. run_refused (asked out) _ (run_refused_seq (first out h) _ (run_refused (second out) _ (run_refused_seq (third h) _ z))))
                      (on_to (reached (body_did h) qd) g));
                }
