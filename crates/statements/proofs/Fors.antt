-- A `for`, the levels left being some number that no code has: the laws of crates/stmt_laws at the depth that the statement was read at. Those are over a row
-- of none or one for the start, which may be missing.
use Rattle.steps.specs.Why.{Step}
use Rattle.std.specs.Prelude.{Result, Ok, Err, IfSome}
use mathlib.Core.Path.{◌≡◌, refl, sym, ap, subst}
use mathlib.Core.Bool.{true}
use mathlib.Core.List.{List}
use Prim.Native.Nat.{ℕ, ◌+◌, ◌-◌, ◌*◌, ◌%◌, ◌≤◌, ◌<◌}
use native.Mathlib.Omega.{arith}
use lib.ListN.{length, get_or}
use Rattle.rules.specs.declared.Span.{Span}
use Rattle.rules.specs.Compiler.{begin_scope, end_scope, compile_stmts}
use Rattle.fields.specs.Words.{word8, word16, letters, span_of}
use Rattle.tree_laws.proofs.Statements.{for_at}
use Rattle.steps.specs.View.{Mem, mem, Fit, code_len, steady, deeper, shallower, Gave, Did, Measured}
use Rattle.expr_laws.specs.Exprs.{There}
use Rattle.stmt_output_laws.specs.Output.{funs_left, stmts_at, Walked, Ready}
use Rattle.stmt_jumps.specs.Jumps.{close_loop, place_of}
use Rattle.stmt_loops.specs.Loops.{cond_at, incr_at, CondThere, IncrThere, Conditioned, Incremented}
use Rattle.stmt_loops.specs.declared.Cond.{Cond}
use Rattle.stmt_laws.proofs.Calls as calls
use Rattle.stmt_laws.proofs.Blocks as blocks
use Rattle.stmt_laws.proofs.Fors as ways
use Rattle.statements.specs.Walk.{StmtThere, StmtDone}
use Rattle.statements.proofs.Ones as ones
use Rattle.statements.proofs.Walks.{Child, child_of, done_of}
use Rattle.state.specs.Layout.{depth_place, level_words}
use Rattle.fields.specs.Marks as marks
use Rattle.steps.specs.declared.Why.{Why}

-- the flag is a number of statements
none_of : {k j : ℕ} → k ≡ j → (k % 2 ≡ 1 → ⊥) → 0 ≡ j % 2
none_of {k} {j} e z = let f : k % 2 ≡ j % 2 = ap (λ (i : ℕ). i % 2) e in omega (arith, f)

one_of : {k j : ℕ} → k ≡ j → k % 2 ≡ 1 → 1 ≡ j % 2
one_of {k} {j} e z = let f : k % 2 ≡ j % 2 = ap (λ (i : ℕ). i % 2) e in omega (arith, f)

further : (at : ℕ) → at < at + 11
further at = omega arith

-- what the start comes to, where it goes well
abbrev pub Init : (class limit l : ℕ) → (tree : List ℕ) → (left at : ℕ) → Mem → List ℕ → Mem → List ℕ → ℕ → Type 0
Init class limit l tree left at m0 out m1 out1 n1 = Walked class limit l (at + 11) (stmts_at tree (word8 tree (at + 10) % 2) (left - 1) l (at + 11)) (compile_stmts limit) m0 out m1 out1 (Ok n1)

-- the same of values by other names
pub came : {tree : List ℕ} {l at limit : ℕ} {before : Mem} (p : StmtThere tree before at l limit) {class : ℕ} {m0 m1 m2 : Mem} {out out1 out2 : List ℕ} {n1 n2 : ℕ}
    → m2 ≡ m1 → out2 ≡ out1 → n2 ≡ n1 → Init class limit l tree p.left at m0 out m1 out1 n1 → Init class limit l tree p.left at m0 out m2 out2 n2
came {tree} {l} {at} {limit} p {class} {m0} {m1} {m2} {out} {out1} {out2} {n1} {n2} em eo en w =
    subst (λ (m : Mem). Init class limit l tree p.left at m0 out m out2 n2) (sym em)
    (subst (λ (o : List ℕ). Init class limit l tree p.left at m0 out m1 o n2) (sym eo)
    (subst (λ (n : ℕ). Init class limit l tree p.left at m0 out m1 out1 n) (sym en) w))

module _ {tree : List ℕ} {l at limit : ℕ} {before : Mem} (p : StmtThere tree before at l limit) (mark : letters tree at ≡ marks.SO) where
  pub bound : at + 11 ≤ length tree
  bound = (for_at tree (word16 tree 2) p.left (funs_left l) at mark p.there.is).bound

  module _ {parts : ℕ} (ep : parts ≡ word8 tree (at + 10)) {class : ℕ} {m0 : Mem} (o : Gave class limit l deeper begin_scope tt before m0) where
    init_ready : Ready tree m0 (at + 11) (p.left - 1) l limit
    init_ready = blocks.ready_begun (calls.further at 11) (calls.room tree p.left l at p.there) p.ready o

    pub init_none : (parts % 2 ≡ 1 → ⊥) → (out : List ℕ) → Init class limit l tree p.left at m0 out m0 out (at + 11)
    init_none z out = calls.walked_as tree (p.left - 1) l (at + 11) (none_of ep z) (ones.none_walked tree l (at + 11) (p.left - 1) init_ready)

    module _ (z : parts % 2 ≡ 1) where
      init_there : There (stmts_at tree 1 (p.left - 1) l (at + 11))
      init_there = calls.row_as tree (p.left - 1) l (at + 11) (one_of ep z) (ways.for_init tree l at p.left mark p.there)

      pub init : {t : ℕ} → 2 * (length tree - at) + 1 ≡ t → Child tree m0 (at + 11) l limit t
      init s = child_of p s (further at) (ones.one_there tree l (at + 11) (p.left - 1) init_ready init_there) init_ready

      module _ {m1 : Mem} {out out1 : List ℕ} {ra : Step} (b : StmtDone class limit l tree (at + 11) m0 out m1 out1 ra) where
        pub stop : {span : Span} → span ≡ span_of tree (at + 2) → {x : Why} → ra ≡ Err x → StmtDone class limit l tree at before out m1 out1 ra
        stop {span} sp q = done_of p
            (ways.for_stop tree l at p.left mark span o
            (calls.walked_as tree (p.left - 1) l (at + 11) (one_of ep z) (ones.one_stop tree l (at + 11) (p.left - 1) init_ready (b.at_depth (p.left - 1)) q)) sp q)

        pub init_one : {n1 : ℕ} → ra ≡ Ok n1 → Init class limit l tree p.left at m0 out m1 out1 n1
        init_one q = calls.walked_as tree (p.left - 1) l (at + 11) (one_of ep z) (ones.one_walked tree l (at + 11) (p.left - 1) init_ready (b.at_depth (p.left - 1)) init_there q)

    module _ {span : Span} (sp : span ≡ span_of tree (at + 2)) {t1 code1 spans1 out out1 : List ℕ} {n1 : ℕ} (w : Init class limit l tree p.left at m0 out (mem t1 code1 spans1) out1 n1) where
      pub fit : Fit (mem t1 code1 spans1) l limit
      fit = ways.for_fit tree l at p.left mark span o w refl p.there

      pub cond_there : CondThere tree parts n1
      cond_there = record { left = p.left - 1; there = calls.cond_as tree (p.left - 1) n1 ep (ways.for_cond_there tree l at p.left mark span o w refl p.there) }

      module _ {start : ℕ} (k : Measured t1 l start) {m2 : Mem} {b : Result Cond Why} (c : (d : ℕ) → Conditioned class limit l (cond_at tree parts d n1) span (mem t1 code1 spans1) m2 b) where
        tested : Conditioned class limit l (cond_at tree (word8 tree (at + 10)) (p.left - 1) n1) span (mem t1 code1 spans1) m2 b
        tested = calls.conditioned_as tree (p.left - 1) n1 ep (c (p.left - 1))

        pub stop_2 : {x : Why} → b ≡ Err x → StmtDone class limit l tree at before out m2 out1 (Err x)
        stop_2 q = done_of p (ways.for_stop_2 tree l at p.left mark span o w refl fit (k.says class code1 spans1) tested sp q)

        module _ {o2 : Cond} (qb : b ≡ Ok o2) where
          pub body : {t : ℕ} → 2 * (length tree - at) + 1 ≡ t → Child tree m2 o2.next l limit t
          body s =
              child_of p s (ways.for_far tree l at p.left mark span o w refl fit (k.says class code1 spans1) tested qb p.there)
              (ways.for_body tree l at p.left mark span o w refl fit (k.says class code1 spans1) tested qb p.there)
              (ways.for_ready tree l at p.left mark span o w refl fit (k.says class code1 spans1) tested qb p.there (calls.room tree p.left l at p.there) p.ready)

          module _ {m3 : Mem} {out3 : List ℕ} {rd : Step} (d : StmtDone class limit l tree o2.next m2 out1 m3 out3 rd) where
            pub stop_3 : {x : Why} → rd ≡ Err x → StmtDone class limit l tree at before out m3 out3 rd
            stop_3 q = done_of p (ways.for_stop_3 tree l at p.left mark span o w refl fit (k.says class code1 spans1) tested qb (d.at_depth (p.left - 1)) sp q)

            module _ {n3 : ℕ} (qd : rd ≡ Ok n3) where
              pub fit_2 : Fit m3 l limit
              fit_2 = ways.for_fit_2 tree l at p.left mark span o w refl fit (k.says class code1 spans1) tested qb (d.at_depth (p.left - 1)) qd p.there

              pub incr_there : IncrThere tree parts n3
              incr_there = record {
                left = p.left - 1;
                there = calls.incr_as tree (p.left - 1) n3 ep
                    (ways.for_incr_there tree l at p.left mark span o w refl fit (k.says class code1 spans1) tested qb (d.at_depth (p.left - 1)) qd p.there);
              }

              module _ {m4 : Mem} {re : Step} (e : (d : ℕ) → Incremented class limit l (incr_at tree parts d n3) span m3 m4 re) where
                moved : Incremented class limit l (incr_at tree (word8 tree (at + 10)) (p.left - 1) n3) span m3 m4 re
                moved = calls.incremented_as tree (p.left - 1) n3 ep (e (p.left - 1))

                pub stop_4 : {x : Why} → re ≡ Err x → StmtDone class limit l tree at before out m4 out3 re
                stop_4 q = done_of p (ways.for_stop_4 tree l at p.left mark span o w refl fit (k.says class code1 spans1) tested qb (d.at_depth (p.left - 1)) qd moved sp q)

                module _ {n4 : ℕ} (qe : re ≡ Ok n4) where
                  pub close : Fit m4 l limit × (start ≤ code_len m4 l) × (IfSome o2.exit (λ place. place + 2 ≤ code_len m4 l))
                  close = (
                    ways.for_fit_3 tree l at p.left mark span o w refl fit (k.says class code1 spans1) tested qb (d.at_depth (p.left - 1)) qd moved qe p.there,
                    ways.for_start tree l at p.left mark span o w refl fit (k.says class code1 spans1) tested qb (d.at_depth (p.left - 1)) qd moved qe p.there (k.is code1 spans1),
                    ways.for_place tree l at p.left mark span o w refl fit (k.says class code1 spans1) tested qb (d.at_depth (p.left - 1)) qd moved qe p.there,
                  )

                  module _ {t5 code5 spans5 : List ℕ} {rf : Step}
                      (f : (class : ℕ) → Did class limit l n4 steady (close_loop limit start (place_of o2.exit) span) m4 (mem t5 code5 spans5) rf) where
                    pub stop_5 : {x : Why} → rf ≡ Err x → StmtDone class limit l tree at before out (mem t5 code5 spans5) out3 rf
                    stop_5 q = done_of p (ways.for_stop_5 tree l at p.left mark span o w refl fit (k.says class code1 spans1) tested qb (d.at_depth (p.left - 1)) qd moved qe (f class) sp q)

                    module _ {v : ℕ} (qf : rf ≡ Ok v) where
                      pub end : Fit (mem t5 code5 spans5) l limit × (0 < get_or t5 (l * level_words + depth_place) 0)
                      end = (
                        ways.for_fit_4 tree l at p.left mark span o w refl fit (k.says class code1 spans1) tested qb (d.at_depth (p.left - 1)) qd moved qe (f class) qf,
                        calls.deep_enough t5 code5 spans5 l
                            (ways.for_deep tree l at p.left mark span o w refl fit (k.says class code1 spans1) tested qb (d.at_depth (p.left - 1)) qd moved qe (f class) qf p.there),
                      )

                      pub done : {now : Mem} {rg : Step} → ((class : ℕ) → Did class limit l n4 shallower (end_scope limit span) (mem t5 code5 spans5) now rg)
                          → StmtDone class limit l tree at before out now out3 rg
                      done g = done_of p
                          (ways.for_done tree l at p.left mark span o w refl fit (k.says class code1 spans1) tested qb (d.at_depth (p.left - 1)) qd moved qe (f class) qf sp (g class))
