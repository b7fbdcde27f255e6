-- A function, and the statement that is one, the levels left being some number that no code has: the laws of crates/stmt_laws at the depth that it was read at.
use Rattle.steps.specs.Why.{Step}
use Rattle.std.specs.Prelude.{Ok, Err}
use mathlib.Core.Path.{◌≡◌, refl}
use mathlib.Core.List.{List}
use Prim.Native.Nat.{ℕ, suc, ◌+◌, ◌-◌, ◌*◌, ◌≤◌, ◌<◌}
use native.Mathlib.Omega.{arith}
use lib.ListN.{length, get_or}
use Rattle.rules.specs.Limits.{max_tree, max_code}
use Rattle.rules.specs.declared.Span.{Span}
use Rattle.rules.specs.Compiler.{define_name, compile_stmts}
use Rattle.fields.specs.Words.{word16, letters, span_of}
use Rattle.state.specs.Kinds.{number_of}
use Rattle.state.specs.declared.Kind.TheVariants.{Function}
use Rattle.state.specs.Layout.{levels, deepest, image_at, Wf, depth_place, level_words}
use Rattle.steps.specs.View.{Mem, mem, Fit, steady, Did}
use Rattle.stmt_output_laws.specs.Output.{largest, stmts_at, Walked}
use Rattle.stmt_functions.specs.Functions.{FunHead, FunctionOpened, FunctionClosed}
use Rattle.stmt_laws.proofs.Calls as calls
use Rattle.stmt_laws.proofs.Functions as ways
use Rattle.statements.specs.Walk.{StmtThere, StmtDone, FunThere, FunDone}
use Rattle.statements.proofs.Walks.{Child, RowIn, row_start, row_stop, row_done, in_fun, done_of, any_fun, to_fun}
use Rattle.fields.specs.Marks as marks
use Rattle.steps.specs.declared.Why.{Why}

-- ## The function

less : {a b : ℕ} → a + 1 ≤ b → a < b
less h = omega arith

within : (at k n : ℕ) → at < k → k ≤ n → at + 1 ≤ n
within at k n h g = omega arith

module _ {tree : List ℕ} {l at limit : ℕ} {t0 code0 spans0 : List ℕ} (p : FunThere tree (mem t0 code0 spans0) at l limit) where
  low : suc l < levels
  low = calls.below_levels l p.room

  pub head : (kind : ℕ) (span : Span) → FunHead tree at × (l + 1 < levels) × Wf t0 × (get_or t0 (l * level_words + depth_place) 0 < deepest)
  head kind span = (ways.function_head tree l at p.left kind span p.there, p.room, p.ready.fit.wf, calls.scope_room t0 code0 spans0 l (p.left + 1) (calls.some_room p.left) p.ready)

  module _ {kind : ℕ} {span : Span} {t1 : List ℕ} {ra : Step} (a : FunctionOpened l kind tree at span t0 t1 ra) where
    pub stop : {class : ℕ} (out : List ℕ) {x : Why} → ra ≡ Err x → FunDone class limit l kind span tree at (mem t0 code0 spans0) out (mem t1 code0 spans0) out ra
    stop out q = any_fun tree l at p.left kind span p.there (ways.function_stop tree l at p.left kind span a code0 spans0 out q)

    module _ {first : ℕ} (qa : ra ≡ Ok first) where
      pub bound : first + 2 ≤ length tree
      bound = ways.function_bound tree l at p.left kind span a qa p.there

      -- the body starts behind the head
      behind : at < first + 2
      behind = less (ways.behind tree l at p.left kind span a qa p.there.is)

      pub start : {class more : ℕ} (out : List ℕ) → more ≡ word16 tree first
          → RowIn class limit (l + 1) tree at (word16 tree first) (first + 2) (mem t1 code0 spans0) out (mem t1 code0 spans0) out (first + 2) more
      start out q = record {
        row = row_start
            (record {
              left = p.left;
              there = calls.row_higher tree p.left l (first + 2) refl (ways.function_row tree l at p.left kind span a qa p.there);
              ready = calls.ready_higher l (ways.function_ready tree l at p.left kind span a qa code0 spans0 p.there low p.ready);
            })
            q;
        far = behind;
      }

      module _ {class : ℕ} {out t2 code2 spans2 out2 : List ℕ} {next more : ℕ}
          (w : RowIn class limit (l + 1) tree at (word16 tree first) (first + 2) (mem t1 code0 spans0) out (mem t2 code2 spans2) out2 next more) where
        pub child : {t : ℕ} → 0 < more → 2 * (length tree - at) ≡ t → Child tree (mem t2 code2 spans2) next (l + 1) limit t
        child h e = in_fun w h (within at (first + 2) (length tree) behind bound) e

        pub stop_2 : 0 < more → {m3 : Mem} {out3 : List ℕ} {b : Step} → StmtDone class limit (l + 1) tree next (mem t2 code2 spans2) out2 m3 out3 b → {x : Why} → b ≡ Err x
            → FunDone class limit l kind span tree at (mem t0 code0 spans0) out m3 out3 b
        stop_2 h b q = any_fun tree l at p.left kind span p.there
            (ways.function_stop_2 tree l at p.left kind span a qa (calls.walked_higher tree p.left l (first + 2) refl ((row_stop w.row h b q).at_depth p.left)) low q)

        module _ (h : more ≤ 0) where
          body : Walked class limit (suc l) (first + 2) (stmts_at tree (word16 tree first) p.left (suc l) (first + 2)) (compile_stmts limit) (mem t1 code0 spans0) out (mem t2 code2 spans2) out2
              (Ok next)
          body = calls.walked_higher tree p.left l (first + 2) refl ((row_done w.row h).at_depth p.left)

          pub close : (l + 1 < levels) × Fit (mem t2 code2 spans2) (l + 1) limit × (limit ≤ max_code) × (get_or t2 image_at 0 ≤ max_tree) × (get_or t2 (image_at + 1) 0 ≤ max_tree * largest)
          close = (
            p.room,
            calls.fit_higher l (ways.function_fit tree l at p.left kind span a qa body refl p.there),
            p.ready.small,
            ways.function_count tree l at p.left kind span a qa body refl p.there low p.ready,
            ways.function_bytes tree l at p.left kind span a qa body refl p.there low p.ready,
          )

          pub done : {now : Mem} {out3 : List ℕ} {r : Step} → ((class : ℕ) → FunctionClosed class limit l next span (mem t2 code2 spans2) out2 now out3 r)
              → FunDone class limit l kind span tree at (mem t0 code0 spans0) out now out3 r
          done {now} {out3} d = any_fun tree l at p.left kind span p.there (ways.function_done tree l at p.left kind span a qa body refl low now out3 (d class))

-- ## The statement

module _ {tree : List ℕ} {l at limit : ℕ} {before : Mem} (p : StmtThere tree before at l limit) (mark : letters tree at ≡ marks.SF) where
  pub fun_bound : at + 14 ≤ length tree
  fun_bound = ways.fun_bound tree l at p.left mark p.there

  pub function : {t : ℕ} → 2 * (length tree - at) + 1 ≡ t → (2 * (length tree - at) < t) × FunThere tree before at l limit
  function {t} s = (
    to_fun (length tree) at t s,
    record {
      left = p.left - 1;
      there = ways.fun_there tree l at p.left mark p.there;
      room = calls.lower_than l (ways.fun_low tree l at p.left mark p.there);
      ready = calls.ready_back p.left (calls.room tree p.left l at p.there) p.ready;
    },
  )

  module _ {span : Span} (sp : span ≡ span_of tree (at + 2)) {class : ℕ} {m1 : Mem} {out out1 : List ℕ} {ra : Step} (a : FunDone class limit l (number_of Function) span tree at before out m1 out1 ra) where
    by_number : FunDone class limit l 1 span tree at before out m1 out1 ra
    unfolding number_of
    by_number = a

    pub fun_stop : {x : Why} → ra ≡ Err x → StmtDone class limit l tree at before out m1 out1 ra
    fun_stop q = done_of p (ways.fun_stop tree l at p.left mark span sp (by_number.at_depth (p.left - 1)) q)

    pub fun_fit : {n : ℕ} → ra ≡ Ok n → Fit m1 l limit
    fun_fit q = ways.fun_fit tree l at p.left mark span sp (by_number.at_depth (p.left - 1)) p.there q

    pub fun_done : {n name : ℕ} {now : Mem} {rb : Step} → ra ≡ Ok n → name ≡ word16 tree (at + 10) → ((class : ℕ) → Did class limit l n steady (define_name limit name span) m1 now rb)
        → StmtDone class limit l tree at before out now out1 rb
    fun_done q e d = done_of p (ways.fun_done tree l at p.left mark span sp (by_number.at_depth (p.left - 1)) q e (d class))
