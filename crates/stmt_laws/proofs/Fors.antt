-- A `for`: a scope, a start, a condition, a body, an increment, and the jump back. Each but the body may be missing.
use Rattle.steps.specs.Why.{Step}
use Rattle.std.specs.Prelude.{Result, Ok, Err, IfSome}
use Rattle.std.proofs.lemmas.Option.{IfSome_then}
use mathlib.Core.Path.{◌≡◌, refl, sym, ap, subst, ◌∙◌}
use mathlib.Core.Bool.{Bool, true, false}
use mathlib.Core.Option.{Option, some}
use mathlib.Core.List.{List}
use Prim.Native.Nat.{ℕ, ◌+◌, ◌-◌, ◌/◌, ◌%◌, ◌≤◌, ◌<◌}
use native.Mathlib.Omega.{arith}
use native.Mathlib.Nat.{le_refl, le_trans}
use lib.Dec.{eqb}
use borrow.Author.Tests.{eqb-true, eqb-false}
use Rattle.rules.specs.declared.Span.{Span}
use Rattle.rules.specs.Tree.{Expr, Stmt, Stmts, StmtFor}
use Rattle.rules.specs.Reader.{got, Reader}
use Rattle.rules.specs.TreeFile.{maybe, maybe_stmt, read_expr, read_stmt, read_stmts}
use Rattle.rules.specs.Compiler.{start_loop, code_length, begin_scope, end_scope, for_cond, for_incr, compile_stmt, compile_stmts}
use Rattle.fields.specs.Words.{word8, word16, letters, span_of}
use Rattle.tree_laws.proofs.Statements.{maybe_yes, maybe_no, ForAt, for_at}
use Rattle.tree_laws.proofs.Later.{later_expr, later_stmts}
use Rattle.steps.specs.View.{Mem, Fit, code_len, depth_at, steady, deeper, shallower, Gave, Did, Told}
use Rattle.steps.proofs.Steps.{went, still, valued, stuck, refused_seq, refused_bind, one_up_one_down}
use Rattle.expr_laws.specs.Exprs.{There}
use Rattle.steps.proofs.Monad.{on_to}
use Rattle.stmt_output_laws.specs.Output.{funs_left, stmt_at, stmts_at, Worked, Walked, Ready}
use Rattle.stmt_jumps.specs.Jumps.{close_loop, place_of}
use Rattle.stmt_output_laws.proofs.Growing.{Run, free_steady, of_gave, of_grew, to_grew, told_run, run_seq, run_bind, run_refused, run_refused_seq, grown, reached, refused, stopped}
use Rattle.stmt_output_laws.proofs.Growing.{conclude, ready_after}
use Rattle.stmt_loops.specs.Loops.{cond_at, incr_at, ConditionedAs, Conditioned, Incremented}
use Rattle.stmt_loops.specs.declared.Cond.{Cond}
use Rattle.stmt_laws.proofs.Calls.{further, same_on}
use Rattle.stmt_laws.proofs.Cuts.{for_cut}
use Rattle.stmt_laws.proofs.Blocks.{by_parts, begun, less_deep, over_zero, free_shallower}
use Rattle.stmt_laws.proofs.Ifs.{none_row, one_row}
use Rattle.fields.specs.Marks as marks
use Rattle.steps.specs.declared.Why.{Why}

small : (k : ℕ) → k < 2 → (k ≡ 1 → ⊥) → k ≡ 0
small k h g = omega arith

below_two : (k : ℕ) → k % 2 < 2
below_two k = omega arith

later_maybe : (tree : List ℕ) (b : Bool) (d : ℕ) {at : ℕ} {o : Option Expr} {n : ℕ} → maybe b (read_expr tree (word16 tree 2) d) at ≡ got o n → at ≤ n
later_maybe tree true d {at} r = let i = maybe_yes (read_expr tree (word16 tree 2) d) at r in later_expr tree (word16 tree 2) d at i.one_is
later_maybe tree false d {at} r = let i = maybe_no (read_expr tree (word16 tree 2) d) at r in same_on i.1

row_if : (k : ℕ) (b : Bool) (stmt : Reader Stmt) (at : ℕ) → k < 2 → eqb k 1 ≡ b → {ss : Stmts} {n : ℕ} → maybe_stmt b stmt at ≡ got ss n → read_stmts k stmt at ≡ got ss n
row_if k true stmt at h q r = ap (λ (j : ℕ). read_stmts j stmt at) (eqb-true k 1 q) ∙ one_row stmt at ∙ r
row_if k false stmt at h q r =
    let z = eqb-false k 1 q in
    let e : k ≡ 0 = small k h z in
    ap (λ (j : ℕ). read_stmts j stmt at) e ∙ none_row stmt at ∙ r

module _ (tree : List ℕ) (l at left : ℕ) (mark : letters tree at ≡ marks.SO) where
  abbrev parts : {s : Stmt} {n : ℕ} → stmt_at tree left l at ≡ got s n
      → ForAt tree (word16 tree 2) (read_expr tree (word16 tree 2) (left - 1)) (read_stmt tree (word16 tree 2) (left - 1) (funs_left l)) at s n
  parts h = for_at tree (word16 tree 2) left (funs_left l) at mark h

  whole : (span : Span) (sp : span ≡ span_of tree (at + 2)) {s : Stmt} {n : ℕ} (h : stmt_at tree left l at ≡ got s n) → s ≡ StmtFor span (parts h).init (parts h).cond (parts h).body (parts h).incr
  whole span sp h = (parts h).is ∙ ap (λ (z : Span). StmtFor z (parts h).init (parts h).cond (parts h).body (parts h).incr) (sym sp)

  init_row : {s : Stmt} {n : ℕ} (h : stmt_at tree left l at ≡ got s n) → stmts_at tree (word8 tree (at + 10) % 2) (left - 1) l (at + 11) ≡ got (parts h).init (parts h).mid₁
  init_row h = row_if (word8 tree (at + 10) % 2) _ (read_stmt tree (word16 tree 2) (left - 1) (funs_left l)) (at + 11) (below_two (word8 tree (at + 10))) refl (parts h).one

  pub for_init : There (stmt_at tree left l at) → There (stmts_at tree (word8 tree (at + 10) % 2) (left - 1) l (at + 11))
  for_init h = record { thing = (parts h.is).init; next = (parts h.is).mid₁; is = init_row h.is }

  module _ (span : Span) {class limit : ℕ} {before m0 m1 : Mem} {out out1 : List ℕ} {ra : Step} (o : Gave class limit l deeper begin_scope tt before m0)
      (w : Walked class limit l (at + 11) (stmts_at tree (word8 tree (at + 10) % 2) (left - 1) l (at + 11)) (compile_stmts limit) m0 out m1 out1 ra) where
    scope : Run class limit l at (at + 11) deeper begin_scope tt before out m0 out
    scope = begun out (further at 11) o

    init_did : {s : Stmt} {n : ℕ} (h : stmt_at tree left l at ≡ got s n) → Worked class limit l (at + 11) (parts h).mid₁ (compile_stmts limit (parts h).init) m0 out m1 out1 ra
    init_did h = w.did (parts h).init (parts h).mid₁ (init_row h)

    pub for_stop : (sp : span ≡ span_of tree (at + 2)) {x : Why} → ra ≡ Err x → Walked class limit l at (stmt_at tree left l at) (compile_stmt limit) before out m1 out1 ra
    for_stop sp q = record {
      did = λ s n h. by_parts (whole span sp h) (for_cut limit span (parts h).init (parts h).cond (parts h).body (parts h).incr)
          (stopped q (run_refused_seq scope _ (refused_seq (refused (init_did h) q) _)));
    }

    module _ {n1 : ℕ} (qa : ra ≡ Ok n1) where
      here : {s : Stmt} {n : ℕ} (h : stmt_at tree left l at ≡ got s n) → n1 ≡ (parts h).mid₁
      here h = reached (init_did h) qa

      first : {s : Stmt} {n : ℕ} (h : stmt_at tree left l at ≡ got s n) → Run class limit l (at + 11) (parts h).mid₁ steady (compile_stmts limit (parts h).init) tt m0 out m1 out1
      first h = of_grew (grown (init_did h) qa)

      pub for_fit : There (stmt_at tree left l at) → Fit m1 l limit
      for_fit h = (first h.is).gave.ahead.fit

      cond_read : {s : Stmt} {n : ℕ} (h : stmt_at tree left l at ≡ got s n) → cond_at tree (word8 tree (at + 10)) (left - 1) n1 ≡ got (parts h).cond (parts h).mid₂
      cond_read h = ap (maybe (eqb (word8 tree (at + 10) / 2 % 2) 1) (read_expr tree (word16 tree 2) (left - 1))) (here h) ∙ (parts h).two

      pub for_cond_there : There (stmt_at tree left l at) → There (cond_at tree (word8 tree (at + 10)) (left - 1) n1)
      for_cond_there h = record { thing = (parts h.is).cond; next = (parts h.is).mid₂; is = cond_read h.is }

      module _ {start : ℕ} (fit1 : Fit m1 l limit) (ask : Told class l code_length start m1) {m2 : Mem} {b : Result Cond Why}
          (t : Conditioned class limit l (cond_at tree (word8 tree (at + 10)) (left - 1) n1) span m1 m2 b) where
        asked : {k : ℕ} → Run class limit l k k steady start_loop start m1 out1 m1 out1
        asked {k} = told_run out1 fit1 (le_refl k) ask

        tested : {s : Stmt} {n : ℕ} (h : stmt_at tree left l at ≡ got s n) → ConditionedAs class limit l (parts h).mid₂ (parts h).cond span m1 m2 b
        tested h = t.did (parts h).cond (parts h).mid₂ (cond_read h)

        pub for_stop_2 : (sp : span ≡ span_of tree (at + 2)) {x : Why} → b ≡ Err x → Walked class limit l at (stmt_at tree left l at) (compile_stmt limit) before out m2 out1 (Err x)
        for_stop_2 sp q = record {
          did = λ s n h. by_parts (whole span sp h) (for_cut limit span (parts h).init (parts h).cond (parts h).body (parts h).incr)
              (stopped refl
              (run_refused_seq scope _
              (run_refused_seq (first h) _
              (run_refused (asked {k = (parts h).mid₁}) _
              (refused_bind (subst (λ (z : Result Cond Why). ConditionedAs class limit l (parts h).mid₂ (parts h).cond span m1 m2 z) q (tested h)) _)))));
        }

        module _ {c : Cond} (qb : b ≡ Ok c) where
          passed : {s : Stmt} {n : ℕ} (h : stmt_at tree left l at ≡ got s n) → Gave class limit l steady (for_cond limit (parts h).cond span) (place_of c.exit) m1 m2
              × (c.next ≡ (parts h).mid₂) × (IfSome c.exit (λ place. place + 2 ≤ code_len m2 l))
          passed h = subst (λ (z : Result Cond Why). ConditionedAs class limit l (parts h).mid₂ (parts h).cond span m1 m2 z) qb (tested h)

          second : {s : Stmt} {n : ℕ} (h : stmt_at tree left l at ≡ got s n)
              → Run class limit l (parts h).mid₁ (parts h).mid₂ steady (for_cond limit (parts h).cond span) (place_of c.exit) m1 out1 m2 out1
          second h = of_gave out1 refl (later_maybe tree _ (left - 1) (parts h).two) (passed h).0

          pub for_body : There (stmt_at tree left l at) → There (stmt_at tree (left - 1) l c.next)
          for_body h = record { thing = (parts h.is).body; next = (parts h.is).mid₃; is = ap (read_stmt tree (word16 tree 2) (left - 1) (funs_left l)) (passed h.is).1 ∙ (parts h.is).three }

          -- the body stands further on than the statement
          pub for_far : There (stmt_at tree left l at) → at < c.next
          for_far h =
              let e = (passed h.is).1 in
              let k = later_stmts tree (word16 tree 2) (word8 tree (at + 10) % 2) (left - 1) (funs_left l) (at + 11) (init_row h.is) in
              let j = later_maybe tree _ (left - 1) (parts h.is).two in
              omega (arith, e, k, j)

          pub for_ready : There (stmt_at tree left l at) → 0 < left → Ready tree before at left l limit → Ready tree m2 c.next (left - 1) l limit
          for_ready h g y =
              subst (λ (p : ℕ). Ready tree m2 p (left - 1) l limit) (sym (passed h.is).1)
              (ready_after y (run_seq (record { past = λ made rest. refl }) _ scope (run_seq free_steady (for_cond limit (parts h.is).cond span) (first h.is) (second h.is)))
              (less_deep (depth_at before l) left g y.shallow))

          module _ {m3 : Mem} {out3 : List ℕ} {rd : Step} (d : Walked class limit l c.next (stmt_at tree (left - 1) l c.next) (compile_stmt limit) m2 out1 m3 out3 rd) where
            body_did : {s : Stmt} {n : ℕ} (h : stmt_at tree left l at ≡ got s n) → Worked class limit l c.next (parts h).mid₃ (compile_stmt limit (parts h).body) m2 out1 m3 out3 rd
            body_did h = d.did (parts h).body (parts h).mid₃ (ap (read_stmt tree (word16 tree 2) (left - 1) (funs_left l)) (passed h).1 ∙ (parts h).three)

            pub for_stop_3 : (sp : span ≡ span_of tree (at + 2)) {x : Why} → rd ≡ Err x → Walked class limit l at (stmt_at tree left l at) (compile_stmt limit) before out m3 out3 rd
            for_stop_3 sp q = record {
              did = λ s n h. by_parts (whole span sp h) (for_cut limit span (parts h).init (parts h).cond (parts h).body (parts h).incr)
                  (stopped q (run_refused_seq scope _ (run_refused_seq (first h) _ (run_refused (asked {k = (parts h).mid₁}) _ (run_refused (second h) _ (refused_seq (refused (body_did h) q) _))))));
            }

            module _ {n3 : ℕ} (qd : rd ≡ Ok n3) where
              third : {s : Stmt} {n : ℕ} (h : stmt_at tree left l at ≡ got s n) → Run class limit l (parts h).mid₂ (parts h).mid₃ steady (compile_stmt limit (parts h).body) tt m2 out1 m3 out3
              third h = subst (λ (p : ℕ). Run class limit l p (parts h).mid₃ steady (compile_stmt limit (parts h).body) tt m2 out1 m3 out3) (passed h).1 (of_grew (grown (body_did h) qd))

              pub for_fit_2 : There (stmt_at tree left l at) → Fit m3 l limit
              for_fit_2 h = (third h.is).gave.ahead.fit

              incr_read : {s : Stmt} {n : ℕ} (h : stmt_at tree left l at ≡ got s n) → incr_at tree (word8 tree (at + 10)) (left - 1) n3 ≡ got (parts h).incr n
              incr_read h = ap (maybe (eqb (word8 tree (at + 10) / 4) 1) (read_expr tree (word16 tree 2) (left - 1))) (reached (body_did h) qd) ∙ (parts h).four

              pub for_incr_there : There (stmt_at tree left l at) → There (incr_at tree (word8 tree (at + 10)) (left - 1) n3)
              for_incr_there h = record { thing = (parts h.is).incr; next = h.next; is = incr_read h.is }

              module _ {m4 : Mem} {re : Step} (e : Incremented class limit l (incr_at tree (word8 tree (at + 10)) (left - 1) n3) span m3 m4 re) where
                pub for_stop_4 : (sp : span ≡ span_of tree (at + 2)) {x : Why} → re ≡ Err x → Walked class limit l at (stmt_at tree left l at) (compile_stmt limit) before out m4 out3 re
                for_stop_4 sp q = record {
                  did = λ s n h. by_parts (whole span sp h) (for_cut limit span (parts h).init (parts h).cond (parts h).body (parts h).incr)
                      (stopped q
                      (run_refused_seq scope _
                      (run_refused_seq (first h) _
                      (run_refused (asked {k = (parts h).mid₁}) _
                      (run_refused (second h) _ (run_refused_seq (third h) _ (refused_seq (stuck (e.did (parts h).incr n (incr_read h)) q) _)))))));
                }

                module _ {n4 : ℕ} (qe : re ≡ Ok n4) where
                  fourth : {s : Stmt} {n : ℕ} (h : stmt_at tree left l at ≡ got s n) → Run class limit l (parts h).mid₃ n steady (for_incr limit (parts h).incr span) tt m3 out3 m4 out3
                  fourth {s} {n} h = of_gave out3 refl (later_maybe tree _ (left - 1) (parts h).four) (went (e.did (parts h).incr n (incr_read h)) qe)

                  ends : {s : Stmt} {n : ℕ} (h : stmt_at tree left l at ≡ got s n) → n4 ≡ n
                  ends {s} {n} h = valued (e.did (parts h).incr n (incr_read h)) qe

                  pub for_fit_3 : There (stmt_at tree left l at) → Fit m4 l limit
                  for_fit_3 h = (fourth h.is).gave.ahead.fit

                  pub for_start : There (stmt_at tree left l at) → start ≡ code_len m1 l → start ≤ code_len m4 l
                  for_start h q = subst (λ (k : ℕ). k ≤ code_len m4 l) (sym q)
                      (le_trans (second h.is).gave.ahead.up (le_trans (third h.is).gave.ahead.up (fourth h.is).gave.ahead.up))

                  pub for_place : There (stmt_at tree left l at) → IfSome c.exit (λ place. place + 2 ≤ code_len m4 l)
                  for_place h = IfSome_then c.exit (passed h.is).2 (λ place q. still place (still place q (third h.is).gave) (fourth h.is).gave)

                  module _ {m5 : Mem} {rf : Step} (f : Did class limit l n4 steady (close_loop limit start (place_of c.exit) span) m4 m5 rf) where
                    pub for_stop_5 : (sp : span ≡ span_of tree (at + 2)) {x : Why} → rf ≡ Err x → Walked class limit l at (stmt_at tree left l at) (compile_stmt limit) before out m5 out3 rf
                    for_stop_5 sp q = record {
                      did = λ s n h. by_parts (whole span sp h) (for_cut limit span (parts h).init (parts h).cond (parts h).body (parts h).incr)
                          (stopped q
                          (run_refused_seq scope _
                          (run_refused_seq (first h) _
                          (run_refused (asked {k = (parts h).mid₁}) _
                          (run_refused (second h) _ (run_refused_seq (third h) _ (run_refused_seq (fourth h) _ (refused_seq (stuck f q) _))))))));
                    }

                    module _ {v : ℕ} (qf : rf ≡ Ok v) where
                      fifth : {k : ℕ} → Run class limit l k k steady (close_loop limit start (place_of c.exit) span) tt m4 out3 m5 out3
                      fifth {k} = of_gave out3 refl (le_refl k) (went f qf)

                      pub for_fit_4 : Fit m5 l limit
                      for_fit_4 = (went f qf).ahead.fit

                      -- the scope is still open
                      pub for_deep : There (stmt_at tree left l at) → 0 < depth_at m5 l
                      for_deep h = over_zero (depth_at before l)
                          ((went f qf).ahead.deep ∙ (fourth h.is).gave.ahead.deep ∙ (third h.is).gave.ahead.deep ∙ (second h.is).gave.ahead.deep ∙ (first h.is).gave.ahead.deep
                          ∙ o.ahead.deep)

                      pub for_done : (sp : span ≡ span_of tree (at + 2)) {now : Mem} {rg : Step} → Did class limit l n4 shallower (end_scope limit span) m5 now rg
                          → Walked class limit l at (stmt_at tree left l at) (compile_stmt limit) before out now out3 rg
                      for_done sp {now} {rg} g = record {
                        did = λ s n h. by_parts (whole span sp h) (for_cut limit span (parts h).init (parts h).cond (parts h).body (parts h).incr)
                            (conclude
                            (λ z. to_grew one_up_one_down refl (λ x. refl)
                            (run_seq (record { past = λ made rest. refl }) _ scope
                            (run_seq (record { past = λ made rest. refl }) _ (first h)
                            (run_bind (record { past = λ made rest. refl }) _ asked
                            (run_bind (record { past = λ made rest. refl }) _ (second h) (run_seq (record { past = λ made rest. refl }) _ (third h)
                            (run_seq (record { past = λ made rest. refl }) _ (fourth h) (run_seq free_shallower _ fifth (of_gave out3 refl (le_refl n) z)))))))))
                            (λ x z. run_refused_seq scope _
                            (run_refused_seq (first h) _
                            (run_refused (asked {k = (parts h).mid₁}) _
                            (run_refused (second h) _ (run_refused_seq (third h) _ (run_refused_seq (fourth h) _ (run_refused_seq (fifth {k = n}) _ z)))))))
                            (on_to (ends h) g));
                      }
