-- A `while`, the levels left being some number that no code has: the laws of crates/stmt_laws at the depth that the statement was read at.
use Rattle.steps.specs.Why.{Step}
use Rattle.std.specs.Prelude.{Ok, Err}
use mathlib.Core.Path.{◌≡◌}
use mathlib.Core.Bool.{true}
use mathlib.Core.Option.{some}
use mathlib.Core.List.{List}
use Prim.Native.Nat.{ℕ, ◌+◌, ◌-◌, ◌*◌, ◌≤◌}
use lib.ListN.{length}
use Rattle.rules.specs.declared.Span.{Span}
use Rattle.fields.specs.Words.{letters, span_of}
use Rattle.steps.specs.View.{Mem, mem, Fit, code_len, steady, Did, Opened, Measured}
use Rattle.expr_laws.specs.Exprs.{Somewhere, expr_at, Ran}
use Rattle.stmt_jumps.specs.Jumps.{open_jump}
use Rattle.stmt_jumps.specs.Jumps.{close_loop}
use Rattle.stmt_laws.proofs.Whiles as ways
use Rattle.statements.specs.Walk.{StmtThere, StmtDone}
use Rattle.statements.proofs.Walks.{Child, child_of, done_of}
use Rattle.fields.specs.Marks as marks
use Rattle.steps.specs.declared.Why.{Why}

module _ {tree : List ℕ} {l at limit : ℕ} {t0 code0 spans0 : List ℕ} (p : StmtThere tree (mem t0 code0 spans0) at l limit) (mark : letters tree at ≡ marks.SW) where
  pub test : Somewhere tree (at + 10)
  test = record { depth = p.left - 1; there = ways.while_cond tree l at p.left mark p.there }

  module _ {span : Span} (sp : span ≡ span_of tree (at + 2)) {start : ℕ} (w : Measured t0 l start) {class : ℕ} {m1 : Mem} {ra : Step}
      (a : (d : ℕ) → Ran class limit l (expr_at tree d (at + 10)) (mem t0 code0 spans0) m1 ra) where
    pub stop : (out : List ℕ) {x : Why} → ra ≡ Err x → StmtDone class limit l tree at (mem t0 code0 spans0) out m1 out ra
    stop out q = done_of p (ways.while_stop tree l at p.left mark span p.ready.fit (w.says class code0 spans0) (a (p.left - 1)) sp out q)

    pub fit : {n1 : ℕ} → ra ≡ Ok n1 → Fit m1 l limit
    fit q = ways.while_fit tree l at p.left mark span p.ready.fit (w.says class code0 spans0) (a (p.left - 1)) p.there q

    module _ {n1 : ℕ} (qa : ra ≡ Ok n1) {m2 : Mem} {rb : Step} (b : (class : ℕ) → Opened class limit l steady (open_jump limit span) m1 m2 rb) where
      pub stop_2 : (out : List ℕ) {x : Why} → rb ≡ Err x → StmtDone class limit l tree at (mem t0 code0 spans0) out m2 out rb
      stop_2 out q = done_of p (ways.while_stop_2 tree l at p.left mark span p.ready.fit (w.says class code0 spans0) (a (p.left - 1)) qa (b class) sp out q)

      module _ {j : ℕ} (qb : rb ≡ Ok j) where
        pub body : {t : ℕ} → 2 * (length tree - at) + 1 ≡ t → Child tree m2 n1 l limit t
        body s =
            child_of p s (ways.while_far tree l at p.left mark span p.ready.fit (w.says class code0 spans0) (a (p.left - 1)) qa p.there)
            (ways.while_body tree l at p.left mark span p.ready.fit (w.says class code0 spans0) (a (p.left - 1)) qa (b class) qb p.there)
            (ways.while_ready tree l at p.left mark span p.ready.fit (w.says class code0 spans0) (a (p.left - 1)) qa (b class) qb p.there p.ready)

        module _ {m3 : Mem} {out out3 : List ℕ} {rd : Step} (d : StmtDone class limit l tree n1 m2 out m3 out3 rd) where
          pub stop_3 : {x : Why} → rd ≡ Err x → StmtDone class limit l tree at (mem t0 code0 spans0) out m3 out3 rd
          stop_3 q = done_of p (ways.while_stop_3 tree l at p.left mark span p.ready.fit (w.says class code0 spans0) (a (p.left - 1)) qa (b class) qb (d.at_depth (p.left - 1)) sp q)

          module _ {n2 : ℕ} (qd : rd ≡ Ok n2) where
            pub close : Fit m3 l limit × (start ≤ code_len m3 l) × (j + 2 ≤ code_len m3 l)
            close = (
              ways.while_fit_2 tree l at p.left mark span p.ready.fit (w.says class code0 spans0) (a (p.left - 1)) qa (b class) qb (d.at_depth (p.left - 1)) qd p.there,
              ways.while_start tree l at p.left mark span p.ready.fit (w.says class code0 spans0) (a (p.left - 1)) qa (b class) qb (d.at_depth (p.left - 1)) qd p.there
                  (w.is code0 spans0),
              ways.while_place tree l at p.left mark span p.ready.fit (w.says class code0 spans0) (a (p.left - 1)) qa (b class) qb (d.at_depth (p.left - 1)) qd p.there,
            )

            pub done : {now : Mem} {rg : Step} → ((class : ℕ) → Did class limit l n2 steady (close_loop limit start (some j) span) m3 now rg)
                → StmtDone class limit l tree at (mem t0 code0 spans0) out now out3 rg
            done g = done_of p
                (ways.while_done tree l at p.left mark span p.ready.fit (w.says class code0 spans0) (a (p.left - 1)) qa (b class) qb (d.at_depth (p.left - 1)) qd sp (g class))
