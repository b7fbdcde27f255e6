-- A block: statements between the start and the end of a scope.
use Rattle.steps.specs.Why.{Step}
use Rattle.std.specs.Prelude.{Ok, Err}
use mathlib.Core.Path.{◌≡◌, refl, sym, ap, ◌∙◌}
use mathlib.Core.List.{List, []}
use Prim.Native.Nat.{ℕ, ◌+◌, ◌-◌, ◌*◌, ◌≤◌, ◌<◌}
use native.Mathlib.Omega.{arith}
use native.Mathlib.Nat.{le_refl}
use Rattle.rules.specs.declared.Span.{Span}
use Rattle.rules.specs.Tree.{Stmt, StmtBlock}
use Rattle.rules.specs.Compiler.{Compiler, Compile, begin_scope, end_scope, compile_stmt, compile_stmts}
use Rattle.fields.specs.Words.{word16, letters, span_of}
use Rattle.tree_laws.proofs.Statements.{block_at}
use Rattle.state.specs.Layout.{deepest}
use Rattle.steps.specs.View.{Mem, Fit, deeper, shallower, depth_at, Gave, Did}
use Rattle.steps.proofs.Steps.{refused_seq, one_up_one_down}
use Rattle.expr_laws.specs.Exprs.{There}
use Rattle.steps.proofs.Monad.{on_to}
use Rattle.stmt_output_laws.specs.Output.{funs_left, stmt_at, stmts_at, Worked, Walked, Ready}
use Rattle.stmt_output_laws.proofs.Growing.{Run, Free, of_gave, of_grew, to_grew, run_seq, run_refused_seq, grown, reached, refused, stopped, conclude, worked_like, ready_after}
use Rattle.stmt_laws.proofs.Calls.{further}
use Rattle.stmt_laws.proofs.Cuts.{block_cut}
use Rattle.fields.specs.Marks as marks
use Rattle.steps.specs.declared.Why.{Why}

-- ## A statement by what it is, and by its parts

pub by_parts : {class limit l at n : ℕ} {m : Compile Unit} {before : Mem} {out : List ℕ} {now : Mem} {out' : List ℕ} {r : Step} {s t : Stmt} → s ≡ t → ((z : Compiler) → compile_stmt limit t z ≡ m z)
    → Worked class limit l at n m before out now out' r → Worked class limit l at n (compile_stmt limit s) before out now out' r
by_parts {limit = limit} q h w = worked_like (λ z. ap (λ (s : Stmt). compile_stmt limit s z) q ∙ h z) w

pub less_deep : (d left : ℕ) → 0 < left → d + 2 * left ≤ deepest → d + 1 + 2 * (left - 1) ≤ deepest
less_deep d left h g = omega arith

pub over_zero : (d : ℕ) {e : ℕ} → e ≡ d + 1 → 0 < e
over_zero d q = omega arith

pub free_shallower : Free shallower
free_shallower = record { past = λ made rest. refl }

-- a scope is begun
pub begun : {class limit l at n : ℕ} {before now : Mem} (out : List ℕ) → at ≤ n → Gave class limit l deeper begin_scope tt before now → Run class limit l at n deeper begin_scope tt before out now out
begun out h g = of_gave out refl h g

pub ready_begun : {class limit l at n left : ℕ} {tree : List ℕ} {before now : Mem} → at ≤ n → 0 < left → Ready tree before at left l limit → Gave class limit l deeper begin_scope tt before now
    → Ready tree now n (left - 1) l limit
ready_begun {l = l} {left = left} {before = before} h g y o = ready_after y (begun [] h o) (less_deep (depth_at before l) left g y.shallow)

-- ## The block

module _ (tree : List ℕ) (l at left : ℕ) (mark : letters tree at ≡ marks.SB) where
  pub block_row : There (stmt_at tree left l at) → There (stmts_at tree (word16 tree (at + 10)) (left - 1) l (at + 12))
  block_row h = let b = block_at tree (word16 tree 2) left (funs_left l) at mark h.is in record { thing = b.stmts; next = h.next; is = b.row_is }

  module _ {class limit : ℕ} {span : Span} (sp : span ≡ span_of tree (at + 2)) {before open-mem mid : Mem} {out out' : List ℕ} {r : Step} (o : Gave class limit l deeper begin_scope tt
      before open-mem)
      (w : Walked class limit l (at + 12) (stmts_at tree (word16 tree (at + 10)) (left - 1) l (at + 12)) (compile_stmts limit) open-mem out mid out' r) where
    pub block_stop : {x : Why} → r ≡ Err x → Walked class limit l at (stmt_at tree left l at) (compile_stmt limit) before out mid out' r
    block_stop q = record {
      did = λ s n h.
          let b = block_at tree (word16 tree 2) left (funs_left l) at mark h in
          by_parts b.is (block_cut limit (span_of tree (at + 2)) b.stmts)
          (stopped q (run_refused_seq (begun {at = at} out (further at 12) o) _ (refused_seq (refused (w.did b.stmts n b.row_is) q) _)));
    }

    pub block_fit : {k : ℕ} → There (stmt_at tree left l at) → r ≡ Ok k → Fit mid l limit
    block_fit h q = let b = block_at tree (word16 tree 2) left (funs_left l) at mark h.is in (grown (w.did b.stmts h.next b.row_is) q).gave.ahead.fit

    -- the scope is still open
    pub block_deep : {k : ℕ} → There (stmt_at tree left l at) → r ≡ Ok k → 0 < depth_at mid l
    block_deep h q = let b = block_at tree (word16 tree 2) left (funs_left l) at mark h.is in over_zero (depth_at before l)
        ((grown (w.did b.stmts h.next b.row_is) q).gave.ahead.deep ∙ o.ahead.deep)

    pub block_done : {k : ℕ} {now : Mem} {r' : Step} → r ≡ Ok k → ((class : ℕ) → Did class limit l k shallower (end_scope limit span) mid now r')
        → Walked class limit l at (stmt_at tree left l at) (compile_stmt limit) before out now out' r'
    block_done {k} {now} {r'} q d = record {
      did = λ s n h.
          let b = block_at tree (word16 tree 2) left (funs_left l) at mark h in
          let row = w.did b.stmts n b.row_is in
          let first = begun {at = at} out (further at 12) o in
          let second = of_grew (grown row q) in
          by_parts (b.is ∙ ap (λ (z : Span). StmtBlock z b.stmts) (sym sp)) (block_cut limit span b.stmts)
          (conclude
          (λ g. to_grew one_up_one_down refl (λ x. refl) (run_seq (record { past = λ made rest. refl }) _ first (run_seq free_shallower _ second (of_gave out' refl (le_refl n) g))))
          (λ x z. run_refused_seq first _ (run_refused_seq second _ z))
          (on_to (reached row q) (d class)));
    }
