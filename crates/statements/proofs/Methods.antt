-- A class, the levels left being some number that no code has: the laws of crates/stmt_laws at the depth that the statement was read at, and the loop over
-- the methods, each of which is a function and the instruction behind it.
use Rattle.steps.specs.Why.{Step}
use Rattle.std.specs.Prelude.{Ok, Err}
use mathlib.Core.Path.{◌≡◌, ap, subst, ◌∙◌}
use mathlib.Core.List.{List}
use Prim.Native.Nat.{ℕ, ◌+◌, ◌-◌, ◌*◌, ◌≤◌, ◌<◌}
use native.Mathlib.Omega.{arith}
use lib.ListN.{length, get_or}
use Rattle.rules.specs.declared.Span.{Span}
use Rattle.rules.specs.Op as op
use Rattle.rules.specs.Chunk.{CS}
use Rattle.rules.specs.Compiler.{method_type, emit_op_constant}
use Rattle.fields.specs.Words.{word8, word16, letters, span_of}
use Rattle.tree_laws.proofs.Later.{later_method}
use Rattle.state.specs.Layout.{type_of, depth_place, level_words}
use Rattle.steps.specs.View.{Mem, mem, Fit, steady, Did}
use Rattle.steps.proofs.Steps.{valued}
use Rattle.expr_laws.specs.Exprs.{There}
use Rattle.stmt_output_laws.specs.Output.{funs_left, stmt_at, method_at, methods_at, Walked}
use Rattle.stmt_output_laws.specs.Parts.{compile_method}
use Rattle.stmt_output_laws.proofs.Growing.{reached}
use Rattle.stmt_heads.specs.Classes.{ClassHead, InnerClass, ClassOpened, ClassClosed}
use Rattle.stmt_laws.proofs.Calls as calls
use Rattle.stmt_laws.proofs.Classes as ways
use Rattle.stmt_laws.proofs.Functions as functions
use Rattle.statements.specs.Walk.{StmtThere, StmtDone, FunThere, FunDone}
use Rattle.statements.proofs.Walks.{any_depth, done_of}
use Rattle.fields.specs.Marks as marks
use Rattle.steps.specs.declared.Why.{Why}

-- the methods that are left come to the same, from the areas as they are, as all of them from where the loop began
pub record Methoding (inner limit l : ℕ) (tree : List ℕ) (at first : ℕ) (before : Mem) (out : List ℕ) (now : Mem) (out' : List ℕ) (next more : ℕ) : Type 0 where
  pub left : ℕ
  pub there : There (stmt_at tree left l at)
  pub row : ways.Row inner limit l tree (word16 tree (at + 13)) (left - 1) first before out now out' next more
  pub far : at < next

function_falls : (len at next t : ℕ) → at < next → 2 * (len - at) + 1 ≡ t → 2 * (len - next) < t
function_falls len at next t h e = omega arith

past : (at next end n : ℕ) → at < next → next + 16 ≤ end → n ≡ end → at < n
past at next end n h k e = omega arith

module _ {tree : List ℕ} {l at limit : ℕ} {before : Mem} (p : StmtThere tree before at l limit) (mark : letters tree at ≡ marks.SC) where
  pub head : ClassHead tree at
  head = ways.class_head tree l at p.left mark p.there

module _ {tree : List ℕ} {l at limit : ℕ} {before : Mem} (p : StmtThere tree before at l limit) (mark : letters tree at ≡ marks.SC) {span : Span} (sp : span ≡ span_of tree (at + 2)) {m1 : Mem}
    {ra : Step}
    (a : (class : ℕ) → ClassOpened class limit l tree at span before m1 ra) where
  pub stop : {class : ℕ} (out : List ℕ) {x : Why} → ra ≡ Err x → StmtDone class limit l tree at before out m1 out ra
  stop {class} out q = done_of p (ways.class_stop tree l at p.left mark span sp (a class) out q)

  module _ {first : ℕ} (qa : ra ≡ Ok first) where
    pub start : {inner count : ℕ} (out : List ℕ) → count ≡ word16 tree (at + 13) → Methoding inner limit l tree at first m1 out m1 out first count
    start out q = record {
      left = p.left;
      there = p.there;
      row = ways.row_start q (ways.class_ready tree l at p.left mark span sp (a 0) qa p.there (calls.room tree p.left l at p.there) p.ready);
      far = ways.class_far tree l at p.left mark span sp (a 0) qa p.there;
    }

    module _ {inner : ℕ} {out out2 t2 code2 spans2 : List ℕ} {next more : ℕ} (w : Methoding inner limit l tree at first m1 out (mem t2 code2 spans2) out2 next more) where
      rows : There (methods_at tree (word16 tree (at + 13)) (w.left - 1) l first)
      rows = ways.class_row tree l at w.left mark span sp (a 0) qa w.there

      one : 0 < more → There (method_at tree (w.left - 1) l next)
      one h = ways.row_there w.row rows h

      pub method_bound : 0 < more → next + 14 ≤ length tree
      method_bound h = functions.method_bound tree l next (w.left - 1) (one h)

      pub function : {t : ℕ} → 2 * (length tree - at) + 1 ≡ t → 0 < more → (2 * (length tree - next) < t) × FunThere tree (mem t2 code2 spans2) next l limit
      function {t} s h = (
        function_falls (length tree) at next t w.far s,
        record {
          left = w.left - 1 - 1;
          there = functions.method_there tree l next (w.left - 1) (one h);
          room = calls.lower_than l (functions.method_low tree l next (w.left - 1) (one h));
          ready = calls.ready_back (w.left - 1) (functions.method_room tree l next (w.left - 1) (one h)) w.row.ready;
        },
      )

      module _ (i : InnerClass tree at inner) where
        pub close : Fit (mem t2 code2 spans2) l limit × (word8 tree (at + 12) ≡ 1 → 0 < get_or t2 (l * level_words + depth_place) 0)
        close = (w.row.ready.fit, λ q. calls.deep_enough t2 code2 spans2 l (ways.class_deep tree l at w.left mark span sp (a 0) qa inner i w.row w.there q))

        pub done : {class : ℕ} → more ≤ 0 → {now : Mem} {rc : Step} → ((class : ℕ) → ClassClosed class limit l tree at next span (mem t2 code2 spans2) now rc)
            → StmtDone class limit l tree at before out now out2 rc
        done {class} h g = any_depth tree l at w.left w.there (ways.class_done tree l at w.left mark span sp (a class) qa inner i w.row h g)

      module _ (h : 0 < more) {name kind : ℕ} {of : Span} (eo : of ≡ span_of tree (next + 2)) (en : name ≡ word16 tree (next + 10)) (ek : type_of kind ≡ method_type name) {m3 : Mem}
          {out3 : List ℕ} {rb : Step}
          (b : FunDone inner limit l kind of tree next (mem t2 code2 spans2) out2 m3 out3 rb) where
        pub method_fit : {n : ℕ} → rb ≡ Ok n → Fit m3 l limit
        method_fit q = functions.method_fit tree l next (w.left - 1) of eo kind en ek (b.at_depth (w.left - 1 - 1)) (one h) q

        pub stop_2 : {class : ℕ} → InnerClass tree at inner → {x : Why} → rb ≡ Err x → StmtDone class limit l tree at before out m3 out3 rb
        stop_2 {class} i q = any_depth tree l at w.left w.there
            (ways.class_stop_2 tree l at w.left mark span sp (a class) qa inner i w.row h (functions.method_stop tree l next (w.left - 1) of eo kind en ek (b.at_depth (w.left - 1 - 1)) q) q)

        module _ {n : ℕ} (qb : rb ≡ Ok n) {m4 : Mem} {rd : Step} (d : (class : ℕ) → Did class limit l n steady (emit_op_constant limit op.METHOD (CS name) of) m3 m4 rd) where
          method_done : Walked inner limit l next (method_at tree (w.left - 1) l next) (compile_method limit) (mem t2 code2 spans2) out2 m4 out3 rd
          method_done = functions.method_done tree l next (w.left - 1) of eo kind en ek (b.at_depth (w.left - 1 - 1)) qb (d inner)

          pub stop_3 : {class : ℕ} → InnerClass tree at inner → {x : Why} → rd ≡ Err x → StmtDone class limit l tree at before out m4 out3 rd
          stop_3 {class} i q = any_depth tree l at w.left w.there (ways.class_stop_2 tree l at w.left mark span sp (a class) qa inner i w.row h method_done q)

          pub step : {v less : ℕ} → rd ≡ Ok v → less + 1 ≡ more → Methoding inner limit l tree at first m1 out m4 out3 n less
          step {less = less} q e =
              let p : more - 1 ≡ less = omega arith in
              let q' = q ∙ ap Ok (valued (d inner) q) in
              let y = one h in
              record {
                left = w.left;
                there = w.there;
                row = subst (ways.Row inner limit l tree (word16 tree (at + 13)) (w.left - 1) first m1 out m4 out3 n) p (ways.row_step w.row method_done h q' rows);
                far = past at next y.next n w.far (later_method tree (word16 tree 2) (w.left - 1) (funs_left l) next y.is) (reached (method_done.did y.thing y.next y.is) q');
              }
