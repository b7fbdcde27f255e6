-- A block, the levels left being some number that no code has: the laws of crates/stmt_laws at the depth that the statement was read at.
use Rattle.steps.specs.Why.{Step}
use Rattle.std.specs.Prelude.{Err}
use mathlib.Core.Path.{◌≡◌, refl}
use mathlib.Core.List.{List}
use Prim.Native.Nat.{ℕ, ◌+◌, ◌-◌, ◌*◌, ◌≤◌, ◌<◌}
use native.Mathlib.Omega.{arith}
use lib.ListN.{length, get_or}
use Rattle.rules.specs.declared.Span.{Span}
use Rattle.rules.specs.Compiler.{begin_scope, end_scope}
use Rattle.fields.specs.Words.{word16, letters, span_of}
use Rattle.tree_laws.proofs.Statements.{block_at}
use Rattle.steps.specs.View.{Mem, mem, Fit, deeper, shallower, Gave, Did}
use Rattle.stmt_output_laws.specs.Output.{funs_left}
use Rattle.stmt_laws.proofs.Calls as calls
use Rattle.stmt_laws.proofs.Blocks as ways
use Rattle.statements.specs.Walk.{StmtThere, StmtDone}
use Rattle.statements.proofs.Walks.{RowIn, row_start, row_stop, row_done, done_of}
use Rattle.state.specs.Layout.{depth_place, level_words}
use Rattle.fields.specs.Marks as marks
use Rattle.steps.specs.declared.Why.{Why}

further : (at : ℕ) → at < at + 12
further at = omega arith

module _ {tree : List ℕ} {l at limit : ℕ} {before : Mem} (p : StmtThere tree before at l limit) (mark : letters tree at ≡ marks.SB) where
  pub bound : at + 12 ≤ length tree
  bound = (block_at tree (word16 tree 2) p.left (funs_left l) at mark p.there.is).bound

  module _ {class : ℕ} {m0 : Mem} (o : Gave class limit l deeper begin_scope tt before m0) where
    pub start : {count : ℕ} (out : List ℕ) → count ≡ word16 tree (at + 10) → RowIn class limit l tree at (word16 tree (at + 10)) (at + 12) m0 out m0 out (at + 12) count
    start out q = record {
      row = row_start
          (record {
            left = p.left - 1;
            there = ways.block_row tree l at p.left mark p.there;
            ready = ways.ready_begun (calls.further at 12) (calls.room tree p.left l at p.there) p.ready o;
          })
          q;
      far = further at;
    }

    module _ {span : Span} (sp : span ≡ span_of tree (at + 2)) {t1 code1 spans1 out out1 : List ℕ} {next more : ℕ}
        (w : RowIn class limit l tree at (word16 tree (at + 10)) (at + 12) m0 out (mem t1 code1 spans1) out1 next more) where
      pub stop : 0 < more → {m2 : Mem} {out2 : List ℕ} {a : Step} → StmtDone class limit l tree next (mem t1 code1 spans1) out1 m2 out2 a → {x : Why} → a ≡ Err x
          → StmtDone class limit l tree at before out m2 out2 a
      stop h b q = done_of p (ways.block_stop tree l at p.left mark sp o ((row_stop w.row h b q).at_depth (p.left - 1)) q)

      module _ (h : more ≤ 0) where
        pub end : Fit (mem t1 code1 spans1) l limit × (0 < get_or t1 (l * level_words + depth_place) 0)
        end = (
          ways.block_fit tree l at p.left mark sp o ((row_done w.row h).at_depth (p.left - 1)) p.there refl,
          calls.deep_enough t1 code1 spans1 l (ways.block_deep tree l at p.left mark sp o ((row_done w.row h).at_depth (p.left - 1)) p.there refl),
        )

        pub done : {now : Mem} {r : Step} → ((class : ℕ) → Did class limit l next shallower (end_scope limit span) (mem t1 code1 spans1) now r) → StmtDone class limit l tree at before out now out1 r
        done d = done_of p (ways.block_done tree l at p.left mark sp o ((row_done w.row h).at_depth (p.left - 1)) refl d)
