-- An `if`, the levels left being some number that no code has: the laws of crates/stmt_laws at the depth that the statement was read at. Those are over a row
-- of none or one for the part that may be missing.
use Rattle.steps.specs.Why.{Step}
use Rattle.std.specs.Prelude.{Ok, Err}
use mathlib.Core.Path.{◌≡◌, refl, sym, ◌∙◌}
use mathlib.Core.List.{List}
use mathlib.Core.Logic.{⊎_elim}
use Prim.Native.Nat.{ℕ, ◌+◌, ◌-◌, ◌*◌, ◌≤◌}
use lib.ListN.{length}
use Rattle.rules.specs.declared.Span.{Span}
use Rattle.rules.specs.Compiler.{patch_jump, compile_stmts}
use Rattle.fields.specs.Words.{word8, word16, letters, span_of}
use Rattle.tree_laws.proofs.Statements.{if_at, flag_is}
use Rattle.steps.specs.View.{Mem, Fit, code_len, steady, Did, Opened}
use Rattle.expr_laws.specs.Exprs.{There, Somewhere, expr_at, Ran}
use Rattle.stmt_jumps.specs.Jumps.{open_jump, turn_jump}
use Rattle.stmt_output_laws.specs.Output.{funs_left, stmts_at, Walked, Ready}
use Rattle.stmt_laws.proofs.Calls as calls
use Rattle.stmt_laws.proofs.Ifs as ways
use Rattle.statements.specs.Walk.{StmtThere, StmtDone}
use Rattle.statements.proofs.Ones as ones
use Rattle.statements.proofs.Walks.{Child, child_of, done_of}
use Rattle.fields.specs.Marks as marks
use Rattle.steps.specs.declared.Why.{Why}

module _ {tree : List ℕ} {l at limit : ℕ} {before : Mem} (p : StmtThere tree before at l limit) (mark : letters tree at ≡ marks.SI) where
  pub bound : at + 11 ≤ length tree
  bound = (if_at tree (word16 tree 2) p.left (funs_left l) at mark p.there.is).bound

  pub test : Somewhere tree (at + 11)
  test = record { depth = p.left - 1; there = ways.if_cond tree l at p.left mark p.there }

  -- the flag is a number of statements
  one_of : {k : ℕ} → k ≡ word8 tree (at + 10) → (k ≡ 0 → ⊥) → 1 ≡ word8 tree (at + 10)
  one_of e z = ⊎_elim (λ q. absurd (z (e ∙ q))) sym (flag_is _ (if_at tree (word16 tree 2) p.left (funs_left l) at mark p.there.is).look)

  module _ {span : Span} (sp : span ≡ span_of tree (at + 2)) {class : ℕ} {m1 : Mem} {ra : Step} (a : (d : ℕ) → Ran class limit l (expr_at tree d (at + 11)) before m1 ra) where
    pub stop : (out : List ℕ) {x : Why} → ra ≡ Err x → StmtDone class limit l tree at before out m1 out ra
    stop out q = done_of p (ways.if_stop tree l at p.left mark span (a (p.left - 1)) sp out q)

    pub fit : {n1 : ℕ} → ra ≡ Ok n1 → Fit m1 l limit
    fit q = ways.if_fit tree l at p.left mark span (a (p.left - 1)) p.there q

    module _ {n1 : ℕ} (qa : ra ≡ Ok n1) {m2 : Mem} {rb : Step} (b : (class : ℕ) → Opened class limit l steady (open_jump limit span) m1 m2 rb) where
      pub stop_2 : (out : List ℕ) {x : Why} → rb ≡ Err x → StmtDone class limit l tree at before out m2 out rb
      stop_2 out q = done_of p (ways.if_stop_2 tree l at p.left mark span (a (p.left - 1)) qa (b class) sp out q)

      module _ {j : ℕ} (qb : rb ≡ Ok j) where
        pub yes : {t : ℕ} → 2 * (length tree - at) + 1 ≡ t → Child tree m2 n1 l limit t
        yes s =
            child_of p s (ways.if_far tree l at p.left mark span (a (p.left - 1)) qa p.there) (ways.if_yes tree l at p.left mark span (a (p.left - 1)) qa (b class) qb p.there)
            (ways.if_yes_ready tree l at p.left mark span (a (p.left - 1)) qa (b class) qb p.there p.ready)

        module _ {m3 : Mem} {out out3 : List ℕ} {rd : Step} (d : StmtDone class limit l tree n1 m2 out m3 out3 rd) where
          pub stop_3 : {x : Why} → rd ≡ Err x → StmtDone class limit l tree at before out m3 out3 rd
          stop_3 q = done_of p (ways.if_stop_3 tree l at p.left mark span (a (p.left - 1)) qa (b class) qb (d.at_depth (p.left - 1)) sp q)

          module _ {n2 : ℕ} (qd : rd ≡ Ok n2) where
            pub turn : Fit m3 l limit × (j + 2 ≤ code_len m3 l)
            turn = (
              ways.if_fit_2 tree l at p.left mark span (a (p.left - 1)) qa (b class) qb (d.at_depth (p.left - 1)) qd p.there,
              ways.if_place tree l at p.left mark span (a (p.left - 1)) qa (b class) qb (d.at_depth (p.left - 1)) qd p.there,
            )

            module _ {m4 : Mem} {re : Step} (e : (class : ℕ) → Opened class limit l steady (turn_jump limit j span) m3 m4 re) where
              pub stop_4 : {x : Why} → re ≡ Err x → StmtDone class limit l tree at before out m4 out3 re
              stop_4 q = done_of p (ways.if_stop_4 tree l at p.left mark span (a (p.left - 1)) qa (b class) qb (d.at_depth (p.left - 1)) qd (e class) sp q)

              module _ {k : ℕ} (qe : re ≡ Ok k) where
                no_ready : Ready tree m4 n2 (p.left - 1) l limit
                no_ready = ways.if_no_ready tree l at p.left mark span (a (p.left - 1)) qa (b class) qb (d.at_depth (p.left - 1)) qd (e class) qe p.there p.ready

                no_row : There (stmts_at tree (word8 tree (at + 10)) (p.left - 1) l n2)
                no_row = ways.if_no tree l at p.left mark span (a (p.left - 1)) qa (b class) qb (d.at_depth (p.left - 1)) qd (e class) qe p.there

                -- what the row of none or one comes to
                module _ {m5 : Mem} {out5 : List ℕ} {rf : Step} (f : Walked class limit l n2 (stmts_at tree (word8 tree (at + 10)) (p.left - 1) l n2) (compile_stmts limit) m4 out3 m5 out5 rf) where
                  row_patch : {n3 : ℕ} → rf ≡ Ok n3 → Fit m5 l limit × (k + 2 ≤ code_len m5 l)
                  row_patch qf = (
                    ways.if_fit_3 tree l at p.left mark span (a (p.left - 1)) qa (b class) qb (d.at_depth (p.left - 1)) qd (e class) qe f qf p.there,
                    ways.if_place_2 tree l at p.left mark span (a (p.left - 1)) qa (b class) qb (d.at_depth (p.left - 1)) qd (e class) qe f qf p.there,
                  )

                  row_done : {n3 : ℕ} → rf ≡ Ok n3 → {now : Mem} {rg : Step} → ((class : ℕ) → Did class limit l n3 steady (patch_jump k span) m5 now rg)
                      → StmtDone class limit l tree at before out now out5 rg
                  row_done qf g = done_of p (ways.if_done tree l at p.left mark span (a (p.left - 1)) qa (b class) qb (d.at_depth (p.left - 1)) qd (e class) qe f qf sp (g class))

                -- there is no second part
                module _ {u : ℕ} (eu : u ≡ word8 tree (at + 10)) (z : u ≡ 0) where
                  none : Walked class limit l n2 (stmts_at tree (word8 tree (at + 10)) (p.left - 1) l n2) (compile_stmts limit) m4 out3 m4 out3 (Ok n2)
                  none = calls.walked_as tree (p.left - 1) l n2 (sym z ∙ eu) (ones.none_walked tree l n2 (p.left - 1) no_ready)

                  pub none_patch : Fit m4 l limit × (k + 2 ≤ code_len m4 l)
                  none_patch = row_patch none refl

                  pub none_done : {now : Mem} {rg : Step} → ((class : ℕ) → Did class limit l n2 steady (patch_jump k span) m4 now rg) → StmtDone class limit l tree at before out now out3 rg
                  none_done g = row_done none refl g

                -- there is one
                module _ {u : ℕ} (eu : u ≡ word8 tree (at + 10)) (z : u ≡ 0 → ⊥) where
                  row_there : There (stmts_at tree 1 (p.left - 1) l n2)
                  row_there = calls.row_as tree (p.left - 1) l n2 (one_of eu z) no_row

                  pub no : {t : ℕ} → 2 * (length tree - at) + 1 ≡ t → Child tree m4 n2 l limit t
                  no s =
                      child_of p s (ways.if_far_2 tree l at p.left mark span (a (p.left - 1)) qa (b class) qb (d.at_depth (p.left - 1)) qd p.there)
                      (ones.one_there tree l n2 (p.left - 1) no_ready row_there) no_ready

                  module _ {m5 : Mem} {out5 : List ℕ} {rf : Step} (f : StmtDone class limit l tree n2 m4 out3 m5 out5 rf) where
                    pub stop_5 : {x : Why} → rf ≡ Err x → StmtDone class limit l tree at before out m5 out5 rf
                    stop_5 q = done_of p
                        (ways.if_stop_5 tree l at p.left mark span (a (p.left - 1)) qa (b class) qb (d.at_depth (p.left - 1)) qd (e class) qe
                        (calls.walked_as tree (p.left - 1) l n2 (one_of eu z) (ones.one_stop tree l n2 (p.left - 1) no_ready (f.at_depth (p.left - 1)) q)) sp q)

                    module _ {n3 : ℕ} (qf : rf ≡ Ok n3) where
                      one : Walked class limit l n2 (stmts_at tree (word8 tree (at + 10)) (p.left - 1) l n2) (compile_stmts limit) m4 out3 m5 out5 (Ok n3)
                      one = calls.walked_as tree (p.left - 1) l n2 (one_of eu z) (ones.one_walked tree l n2 (p.left - 1) no_ready (f.at_depth (p.left - 1)) row_there qf)

                      pub one_patch : Fit m5 l limit × (k + 2 ≤ code_len m5 l)
                      one_patch = row_patch one refl

                      pub one_done : {now : Mem} {rg : Step} → ((class : ℕ) → Did class limit l n3 steady (patch_jump k span) m5 now rg) → StmtDone class limit l tree at before out now out5 rg
                      one_done g = row_done one refl g
