-- A row of statements is walked: those that are left come to the same, from the areas as they are, as all of them from where the walk began.
use Rattle.steps.specs.Why.{Step}
use Rattle.std.specs.Prelude.{Ok, Err}
use mathlib.Core.Path.{◌≡◌, refl, sym, ap, subst, ◌∙◌}
use mathlib.Core.List.{List}
use Prim.Native.Nat.{ℕ, suc, ◌-◌, ◌≤◌, ◌<◌}
use native.Mathlib.Omega.{arith}
use Rattle.rules.specs.Tree.{Stmts}
use Rattle.rules.specs.Reader.{got}
use Rattle.rules.specs.TreeFile.{read_stmt}
use Rattle.rules.specs.Compiler.{Compiler, ◌>>◌, compile_stmt, compile_stmts}
use Rattle.fields.specs.Words.{word16}
use Rattle.tree_laws.proofs.Statements.{StmtRowAt, no_stmts, more_stmts}
use Rattle.steps.specs.View.{Mem, Refused}
use Rattle.steps.proofs.Steps.{refused_seq}
use Rattle.expr_laws.specs.Exprs.{There}
use Rattle.stmt_output_laws.specs.Output.{funs_left, stmt_at, stmts_at, Grew, Walked, Ready}
use Rattle.stmt_output_laws.proofs.Growing.{of_grew, ready_after, grown, reached, refused, worked, stopped, Onward, onward_start, onward_step, onward_refused, onward_done}
use Rattle.stmt_laws.proofs.Cuts.{none_cut, row_cut}
use Rattle.steps.specs.declared.Why.{Why}
use Rattle.rules.specs.declared.Stopped.{Stopped}

-- what is left of a row from `from` on, of which `stmts` is the whole
pub record Remains (class limit l : ℕ) (tree : List ℕ) (left from : ℕ) (stmts : Stmts) (n : ℕ) (before : Mem) (out : List ℕ) (now : Mem) (out' : List ℕ) (next more : ℕ) : Type 0 where
  pub others : Stmts
  pub is : stmts_at tree more left l next ≡ got others n
  pub onward : Onward class limit l from next (compile_stmts limit stmts) (compile_stmts limit others) before out now out'

pub record Row (class limit l : ℕ) (tree : List ℕ) (count left from : ℕ) (before : Mem) (out : List ℕ) (now : Mem) (out' : List ℕ) (next more : ℕ) : Type 0 where
  pub ready : Ready tree now next left l limit
  pub to : (stmts : Stmts) (n : ℕ) → stmts_at tree count left l from ≡ got stmts n → Remains class limit l tree left from stmts n before out now out' next more

pub row_start : {class limit l count left from : ℕ} {tree : List ℕ} {before : Mem} {out : List ℕ} → Ready tree before from left l limit
    → Row class limit l tree count left from before out before out from count
row_start y = record { ready = y; to = λ stmts n r. record { others = stmts; is = r; onward = onward_start y.fit } }

module _ {class limit l count left from : ℕ} {tree : List ℕ} {before : Mem} {out : List ℕ} {now : Mem} {out' : List ℕ} {next more : ℕ}
    (w : Row class limit l tree count left from before out now out' next more) where
  head_of : {stmts : Stmts} {n : ℕ} (r : stmts_at tree count left l from ≡ got stmts n) → 0 < more
      → StmtRowAt (read_stmt tree (word16 tree 2) left (funs_left l)) (more - 1) next (w.to stmts n r).others n
  head_of {stmts} {n} r h =
      let p : suc (more - 1) ≡ more = omega arith in
      more_stmts (read_stmt tree (word16 tree 2) left (funs_left l)) (more - 1) next (ap (λ (k : ℕ). stmts_at tree k left l next) p ∙ (w.to stmts n r).is)

  pub row_there : There (stmts_at tree count left l from) → 0 < more → There (stmt_at tree left l next)
  row_there t h = let i = head_of t.is h in record { thing = i.one; next = i.mid; is = i.head }

  cut_here : {stmts : Stmts} {n : ℕ} (r : stmts_at tree count left l from ≡ got stmts n) (h : 0 < more) (s : Compiler)
      → compile_stmts limit (w.to stmts n r).others s ≡ (compile_stmt limit (head_of r h).one >> compile_stmts limit (head_of r h).others) s
  cut_here r h s = ap (λ (z : Stmts). compile_stmts limit z s) (head_of r h).is ∙ row_cut limit (head_of r h).one (head_of r h).others s

  like_refused : {stmts : Stmts} {n : ℕ} (r : stmts_at tree count left l from ≡ got stmts n) (h : 0 < more) {x : Stopped} → Refused class l (compile_stmt limit (head_of r h).one) now x
      → Refused class l (compile_stmts limit (w.to stmts n r).others) now x
  like_refused r h f = let g = refused_seq f (compile_stmts limit (head_of r h).others) in record { refuses = λ rest q. cut_here r h _ ∙ g.refuses rest q }

  module _ {now' : Mem} {out'' : List ℕ} {a : Step} (b : Walked class limit l next (stmt_at tree left l next) (compile_stmt limit) now out' now' out'' a) where
    pub row_stop : 0 < more → {x : Why} → a ≡ Err x → Walked class limit l from (stmts_at tree count left l from) (compile_stmts limit) before out now' out'' a
    row_stop h q = record {
      did = λ stmts n r.
          let i = head_of r h in
          stopped q (onward_refused (w.to stmts n r).onward (like_refused r h (refused (b.did i.one i.mid i.head) q)));
    }

    module _ {v : ℕ} (h : 0 < more) (q : a ≡ Ok v) where
      step_on : {stmts : Stmts} {n : ℕ} (r : stmts_at tree count left l from ≡ got stmts n) → Remains class limit l tree left from stmts n before out now' out'' v (more - 1)
      step_on {stmts} {n} r =
          let i = head_of r h in
          let d = b.did i.one i.mid i.head in
          let e : v ≡ i.mid = reached d q in
          record {
            others = i.others;
            is = ap (stmts_at tree (more - 1) left l) e ∙ i.tail;
            onward = subst (λ (k : ℕ). Onward class limit l from k (compile_stmts limit stmts) (compile_stmts limit i.others) before out now' out'') (sym e)
                (onward_step (w.to stmts n r).onward (compile_stmt limit i.one) (compile_stmts limit i.others) (cut_here r h) (of_grew (grown d q)));
          }

      pub row_step : There (stmts_at tree count left l from) → Row class limit l tree count left from before out now' out'' v (more - 1)
      row_step t =
          let i = head_of t.is h in
          let d = b.did i.one i.mid i.head in
          let g = grown d q in
          let e : v ≡ i.mid = reached d q in
          let y = w.ready in
          record {
            ready = subst (λ (k : ℕ). Ready tree now' k left l limit) (sym e) (ready_after y (of_grew g) y.shallow);
            to = λ stmts n r. step_on r;
          }

  pub row_done : more ≤ 0 → {next' : ℕ} → next' ≡ next → Walked class limit l from (stmts_at tree count left l from) (compile_stmts limit) before out now out' (Ok next')
  row_done h e = record {
    did = λ stmts n r.
        let o = w.to stmts n r in
        let p : more ≡ 0 = omega arith in
        let z = no_stmts (read_stmt tree (word16 tree 2) left (funs_left l)) next (ap (λ (k : ℕ). stmts_at tree k left l next) (sym p) ∙ o.is) in
        let f = onward_done o.onward (λ s. ap (λ (z : Stmts). compile_stmts limit z s) z.0 ∙ none_cut limit s) in
        worked refl (e ∙ sym z.1) (subst (λ (k : ℕ). Grew class limit l from k (compile_stmts limit stmts) before out now out') (sym z.1) f);
  }
