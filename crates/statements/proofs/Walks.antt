-- The levels of records that are left are some number that no code has: what is read with some of them left is read alike with any that suffice. The
-- measure of the walk is the bytes left; a statement's children stand further on. And a row of statements, wherever it stands.
use Rattle.steps.specs.Why.{Step}
use Rattle.std.specs.Prelude.{Ok, Err}
use mathlib.Core.Path.{◌≡◌, refl, sym, subst}
use mathlib.Core.List.{List}
use Prim.Native.Nat.{ℕ, suc, ◌+◌, ◌-◌, ◌*◌, ◌≤◌, ◌<◌}
use native.Mathlib.Omega.{arith}
use lib.ListN.{length}
use Rattle.rules.specs.declared.Span.{Span}
use Rattle.rules.specs.declared.Refusal.TheVariants.{TreeForm}
use Rattle.rules.specs.Compiler.{compile_stmt, compile_stmts, compile_function}
use Rattle.fields.specs.Words.{word16}
use Rattle.tree_laws.proofs.Depths.{same_stmt, same_stmts, same_fun}
use Rattle.tree_laws.proofs.Later.{later_stmt}
use Rattle.state.specs.Layout.{type_of}
use Rattle.steps.specs.View.{Mem}
use Rattle.expr_laws.specs.Exprs.{There}
use Rattle.stmt_output_laws.specs.Output.{funs_left, stmt_at, stmts_at, fun_at, Walked, Ready}
use Rattle.stmt_output_laws.proofs.Growing.{reached}
use Rattle.stmt_plain_laws.specs.Plain.{Plainly}
use Rattle.stmt_laws.proofs.Calls as calls
use Rattle.stmt_laws.proofs.Rows as rows
use Rattle.statements.specs.Walk.{StmtThere, StmtDone, RowThere, RowDone, FunDone}
use Rattle.steps.specs.declared.Why.{Why}

-- ## What a law says at the depth that something was read at holds at any

pub any_depth : (tree : List ℕ) (l at left : ℕ) {class limit : ℕ} {before : Mem} {out : List ℕ} {now : Mem} {out' : List ℕ} {r : Step} → There (stmt_at tree left l at)
    → Walked class limit l at (stmt_at tree left l at) (compile_stmt limit) before out now out' r → StmtDone class limit l tree at before out now out' r
any_depth tree l at left h w = record { at_depth = λ d. record { did = λ s n r. w.did s n (same_stmt tree (word16 tree 2) left d (funs_left l) at h.is r) } }

pub done_of : {tree : List ℕ} {ready before now : Mem} {at l limit class : ℕ} {out out' : List ℕ} {r : Step} (p : StmtThere tree ready at l limit)
    → Walked class limit l at (stmt_at tree p.left l at) (compile_stmt limit) before out now out' r → StmtDone class limit l tree at before out now out' r
done_of {tree} {at = at} {l = l} p w = any_depth tree l at p.left p.there w

-- a statement that finishes no function
pub plainly : {tree : List ℕ} {before now : Mem} {at l limit class : ℕ} {out : List ℕ} {r : Step} → StmtThere tree before at l limit
    → ((d : ℕ) → Plainly class limit l (stmt_at tree d l at) before now r)
    → StmtDone class limit l tree at before out now out r
plainly {tree} {at = at} {l = l} {out = out} p h = record { at_depth = λ d. calls.plainly tree d l at out (h d) }

any_row : (tree : List ℕ) (count l from left : ℕ) {class limit : ℕ} {before : Mem} {out : List ℕ} {now : Mem} {out' : List ℕ} {r : Step} → There (stmts_at tree count left l from)
    → Walked class limit l from (stmts_at tree count left l from) (compile_stmts limit) before out now out' r → RowDone class limit l tree count from before out now out' r
any_row tree count l from left h w = record { at_depth = λ d. record { did = λ s n r. w.did s n (same_stmts tree (word16 tree 2) count left d (funs_left l) from h.is r) } }

pub any_fun : (tree : List ℕ) (l at left kind : ℕ) (span : Span) {class limit : ℕ} {before : Mem} {out : List ℕ} {now : Mem} {out' : List ℕ} {r : Step} → There (fun_at tree left l at)
    → Walked class limit l at (fun_at tree left l at) (λ f. compile_function limit f (type_of kind) span) before out now out' r → FunDone class limit l kind span tree at before out now out' r
any_fun tree l at left kind span h w =
    record { at_depth = λ d. record { did = λ f n r. w.did f n (same_fun tree (word16 tree 2) (TreeForm at) left d (funs_left (suc l)) (at + 10) h.is r) } }

-- ## The measure

to_child : (len at next t : ℕ) → at < next → at + 10 ≤ len → 2 * (len - at) + 1 ≡ t → 2 * (len - next) + 1 < t
to_child len at next t h b e = omega arith

pub to_fun : (len at t : ℕ) → 2 * (len - at) + 1 ≡ t → 2 * (len - at) < t
to_fun len at t e = omega arith

-- what a child's call asks: the bytes left fall, and a statement was read there
abbrev pub Child : (tree : List ℕ) → Mem → (next l limit t : ℕ) → Type 0
Child tree m next l limit t = (2 * (length tree - next) + 1 < t) × StmtThere tree m next l limit

pub child_of : {tree : List ℕ} {before m : Mem} {at next l limit t : ℕ} (p : StmtThere tree before at l limit) → 2 * (length tree - at) + 1 ≡ t → at < next → There (stmt_at tree (p.left - 1) l next)
    → Ready tree m next (p.left - 1) l limit → Child tree m next l limit t
child_of {tree} {at = at} {next = next} {l = l} {t = t} p s far h y =
    (to_child (length tree) at next t far (calls.bound tree p.left l at p.there) s, record { left = p.left - 1; there = h; ready = y })

-- ## A row

pub record RowOf (class limit l : ℕ) (tree : List ℕ) (count from : ℕ) (before : Mem) (out : List ℕ) (now : Mem) (out' : List ℕ) (next more : ℕ) : Type 0 where
  pub left : ℕ
  pub whole : There (stmts_at tree count left l from)
  pub row : rows.Row class limit l tree count left from before out now out' next more

pub row_start : {class limit l count from more : ℕ} {tree : List ℕ} {m : Mem} {out : List ℕ} → RowThere tree m count from l limit → more ≡ count
    → RowOf class limit l tree count from m out m out from more
row_start {class} {limit} {l} {count} {from} {more} {tree} {m} {out} p q = record {
  left = p.left;
  whole = p.there;
  row = subst (λ (k : ℕ). rows.Row class limit l tree count p.left from m out m out from k) (sym q) (rows.row_start p.ready);
}

module _ {class limit l count from : ℕ} {tree : List ℕ} {before now : Mem} {out out' : List ℕ} {next more : ℕ} (w : RowOf class limit l tree count from before out now out' next more) where
  one : 0 < more → There (stmt_at tree w.left l next)
  one h = rows.row_there w.row w.whole h

  pub row_child : 0 < more → StmtThere tree now next l limit
  row_child h = record { left = w.left; there = one h; ready = w.row.ready }

  pub row_done : more ≤ 0 → RowDone class limit l tree count from before out now out' (Ok next)
  row_done h = any_row tree count l from w.left w.whole (rows.row_done w.row h refl)

  module _ {now' : Mem} {out'' : List ℕ} {a : Step} (h : 0 < more) (b : StmtDone class limit l tree next now out' now' out'' a) where
    pub row_stop : {x : Why} → a ≡ Err x → RowDone class limit l tree count from before out now' out'' a
    row_stop q = any_row tree count l from w.left w.whole (rows.row_stop w.row (b.at_depth w.left) h q)

    pub row_step : {v less : ℕ} → a ≡ Ok v → less + 1 ≡ more → RowOf class limit l tree count from before out now' out'' v less
    row_step {v} {less} q e =
        let p : more - 1 ≡ less = omega arith in
        record {
          left = w.left;
          whole = w.whole;
          row = subst (rows.Row class limit l tree count w.left from before out now' out'' v) p (rows.row_step w.row (b.at_depth w.left) h q w.whole);
        }

    later : {at v : ℕ} → at < next → a ≡ Ok v → at < v
    later {at} {v} f q =
        let y = one h in
        let e : v ≡ y.next = reached ((b.at_depth w.left).did y.thing y.next y.is) q in
        let k = later_stmt tree (word16 tree 2) w.left (funs_left l) next y.is in
        omega arith

-- a row that is part of what starts at `at`
pub record RowIn (class limit l : ℕ) (tree : List ℕ) (at count from : ℕ) (before : Mem) (out : List ℕ) (now : Mem) (out' : List ℕ) (next more : ℕ) : Type 0 where
  pub row : RowOf class limit l tree count from before out now out' next more
  pub far : at < next

module _ {class limit l at count from : ℕ} {tree : List ℕ} {before now : Mem} {out out' : List ℕ} {next more : ℕ} (w : RowIn class limit l tree at count from before out now out' next more)
    (h : 0 < more) where
  pub in_stmt : {t : ℕ} → at + 10 ≤ length tree → 2 * (length tree - at) + 1 ≡ t → Child tree now next l limit t
  in_stmt {t} b e = (to_child (length tree) at next t w.far b e, row_child w.row h)

  in_falls : (t : ℕ) → at + 1 ≤ length tree → 2 * (length tree - at) ≡ t → 2 * (length tree - next) + 1 < t
  in_falls t b e = let f = w.far in omega arith

  pub in_fun : {t : ℕ} → at + 1 ≤ length tree → 2 * (length tree - at) ≡ t → Child tree now next l limit t
  in_fun {t} b e = (in_falls t b e, row_child w.row h)

  pub in_step : {now' : Mem} {out'' : List ℕ} {a : Step} → StmtDone class limit l tree next now out' now' out'' a → {v less : ℕ} → a ≡ Ok v
      → less + 1 ≡ more → RowIn class limit l tree at count from before out now' out'' v less
  in_step b q e = record { row = row_step w.row h b q e; far = later w.row h b w.far q }
