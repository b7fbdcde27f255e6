-- A class: what opens it, its methods one after the other with the class as the innermost one, and what closes it.
use Rattle.std.specs.Prelude.{Ok, Err}
use mathlib.Core.Path.{◌≡◌, refl, sym, ap, subst, ◌∙◌}
use mathlib.Core.Bool.{Bool, true, false}
use mathlib.Core.Option.{Option}
use mathlib.Core.List.{List, []}
use Prim.Native.Nat.{ℕ, suc, ◌+◌, ◌-◌, ◌*◌, ◌≤◌, ◌<◌}
use native.Mathlib.Omega.{arith}
use native.Mathlib.Nat.{le_refl}
use lib.Dec.{ltb}
use Rattle.rules.specs.declared.Span.{Span}
use Rattle.rules.specs.Tree.{Stmt, StmtClass, Superclass, Methods}
use Rattle.rules.specs.Reader.{got}
use Rattle.rules.specs.TreeFile.{maybe, read_superclass, read_method}
use Rattle.rules.specs.Compiler.{Compiler, ◌>>◌, is_some, some_methods, compile_stmt, compile_methods}
use Rattle.fields.specs.Words.{word8, word16, letters, span_of}
use Rattle.tree_laws.proofs.Statements.{ClassAt, class_at, MethodRowAt, no_methods, more_methods, superclass_at, maybe_yes, maybe_no, flag_on}
use Rattle.state.specs.Layout.{deepest}
use Rattle.steps.specs.View.{Mem, t_of, depth_at, steady, Refused, Did}
use Rattle.steps.proofs.Steps.{went, valued, stuck, refused_seq}
use Rattle.expr_laws.specs.Exprs.{There}
use Rattle.steps.proofs.Monad.{on_to}
use Rattle.stmt_output_laws.specs.Output.{funs_left, stmt_at, method_at, methods_at, Grew, Walked, Ready}
use Rattle.stmt_output_laws.specs.Parts.{open_class, close_class, compile_method}
use Rattle.stmt_output_laws.proofs.Growing.{Run, of_gave, of_grew, run_seq, run_refused_seq, grown, reached, refused}
use Rattle.stmt_output_laws.proofs.Growing.{stopped, conclude, ready_after, Onward, onward_start, onward_step, onward_refused, onward_done}
use Rattle.stmt_heads.specs.Classes.{inner, opening, closing, ClassHead, InnerClass, ClassOpened, ClassClosed}
use Rattle.stmt_laws.proofs.ClassCut.{class_then_pop, class_grown, closes, free_closing, some_count}
use Rattle.stmt_laws.proofs.Calls.{same_on}
use Rattle.stmt_laws.proofs.Cuts.{no_methods_cut, methods_cut}
use Rattle.stmt_laws.proofs.Blocks.{by_parts}
use Rattle.fields.specs.Marks as marks
use Rattle.steps.specs.Why.{told, Step}
use Rattle.steps.specs.declared.Why.{Why}
use Rattle.rules.specs.declared.Stopped.{Stopped}

-- ## The walk over the methods

pub record Remains (class limit l : ℕ) (tree : List ℕ) (left from : ℕ) (methods : Methods) (n : ℕ) (before : Mem) (out : List ℕ) (now : Mem) (out' : List ℕ) (next more : ℕ) : Type 0 where
  pub others : Methods
  pub is : methods_at tree more left l next ≡ got others n
  pub onward : Onward class limit l from next (compile_methods limit methods) (compile_methods limit others) before out now out'

pub record Row (class limit l : ℕ) (tree : List ℕ) (count left from : ℕ) (before : Mem) (out : List ℕ) (now : Mem) (out' : List ℕ) (next more : ℕ) : Type 0 where
  pub ready : Ready tree now next left l limit
  pub deep : depth_at now l ≡ depth_at before l
  pub to : (methods : Methods) (n : ℕ) → methods_at tree count left l from ≡ got methods n → Remains class limit l tree left from methods n before out now out' next more

pub row_start : {class limit l count k left from : ℕ} {tree : List ℕ} {before : Mem} {out : List ℕ} → k ≡ count → Ready tree before from left l limit
    → Row class limit l tree count left from before out before out from k
row_start {l = l} {left = left} {from = from} {tree = tree} q y = record {
  ready = y;
  deep = refl;
  to = λ methods n r. record { others = methods; is = ap (λ (j : ℕ). methods_at tree j left l from) q ∙ r; onward = onward_start y.fit };
}

module _ {class limit l count left from : ℕ} {tree : List ℕ} {before : Mem} {out : List ℕ} {now : Mem} {out' : List ℕ} {next more : ℕ}
    (w : Row class limit l tree count left from before out now out' next more) where
  head_of : {methods : Methods} {n : ℕ} (r : methods_at tree count left l from ≡ got methods n) → 0 < more
      → MethodRowAt (read_method tree (word16 tree 2) left (funs_left l)) (more - 1) next (w.to methods n r).others n
  head_of {methods} {n} r h =
      let p : suc (more - 1) ≡ more = omega arith in
      more_methods (read_method tree (word16 tree 2) left (funs_left l)) (more - 1) next (ap (λ (k : ℕ). methods_at tree k left l next) p ∙ (w.to methods n r).is)

  pub row_there : There (methods_at tree count left l from) → 0 < more → There (method_at tree left l next)
  row_there t h = let i = head_of t.is h in record { thing = i.thing; next = i.mid; is = i.head }

  cut_here : {methods : Methods} {n : ℕ} (r : methods_at tree count left l from ≡ got methods n) (h : 0 < more) (s : Compiler)
      → compile_methods limit (w.to methods n r).others s ≡ (compile_method limit (head_of r h).thing >> compile_methods limit (head_of r h).others) s
  cut_here r h s = ap (λ (z : Methods). compile_methods limit z s) (head_of r h).is ∙ methods_cut limit (head_of r h).thing.0 (head_of r h).thing.1 (head_of r h).others s

  like_refused : {methods : Methods} {n : ℕ} (r : methods_at tree count left l from ≡ got methods n) (h : 0 < more) {x : Stopped} → Refused class l (compile_method limit (head_of r h).thing) now x
      → Refused class l (compile_methods limit (w.to methods n r).others) now x
  like_refused r h f = let g = refused_seq f (compile_methods limit (head_of r h).others) in record { refuses = λ rest q. cut_here r h _ ∙ g.refuses rest q }

  module _ {now' : Mem} {out'' : List ℕ} {a : Step} (b : Walked class limit l next (method_at tree left l next) (compile_method limit) now out' now' out'' a) where
    pub row_stop : 0 < more → {x : Why} → a ≡ Err x → (methods : Methods) (n : ℕ) → methods_at tree count left l from ≡ got methods n
        → Refused class l (compile_methods limit methods) before (told (t_of now') x)
    row_stop h q methods n r = let i = head_of r h in onward_refused (w.to methods n r).onward (like_refused r h (refused (b.did i.thing i.mid i.head) q))

    module _ {v : ℕ} (h : 0 < more) (q : a ≡ Ok v) where
      step_on : {methods : Methods} {n : ℕ} (r : methods_at tree count left l from ≡ got methods n) → Remains class limit l tree left from methods n before out now' out'' v (more - 1)
      step_on {methods} {n} r =
          let i = head_of r h in
          let d = b.did i.thing i.mid i.head in
          let e : v ≡ i.mid = reached d q in
          record {
            others = i.others;
            is = ap (methods_at tree (more - 1) left l) e ∙ i.tail;
            onward = subst (λ (k : ℕ). Onward class limit l from k (compile_methods limit methods) (compile_methods limit i.others) before out now' out'') (sym e)
                (onward_step (w.to methods n r).onward (compile_method limit i.thing) (compile_methods limit i.others) (cut_here r h) (of_grew (grown d q)));
          }

      pub row_step : There (methods_at tree count left l from) → Row class limit l tree count left from before out now' out'' v (more - 1)
      row_step t =
          let i = head_of t.is h in
          let d = b.did i.thing i.mid i.head in
          let g = grown d q in
          let e : v ≡ i.mid = reached d q in
          let y = w.ready in
          record {
            ready = subst (λ (k : ℕ). Ready tree now' k left l limit) (sym e) (ready_after y (of_grew g) y.shallow);
            deep = g.gave.ahead.deep ∙ w.deep;
            to = λ methods n r. step_on r;
          }

  pub row_done : more ≤ 0 → (methods : Methods) (n : ℕ) → methods_at tree count left l from ≡ got methods n → Grew class limit l from n (compile_methods limit methods) before out now out'
      × (next ≡ n)
  row_done h methods n r =
      let o = w.to methods n r in
      let p : more ≡ 0 = omega arith in
      let z = no_methods (read_method tree (word16 tree 2) left (funs_left l)) next (ap (λ (k : ℕ). methods_at tree k left l next) (sym p) ∙ o.is) in
      let f = onward_done o.onward (λ s. ap (λ (z : Methods). compile_methods limit z s) z.0 ∙ no_methods_cut limit s) in
      (subst (λ (k : ℕ). Grew class limit l from k (compile_methods limit methods) before out now out') (sym z.1) f, sym z.1)

-- ## The class

inner_deep : (b : Bool) (d left : ℕ) → 0 < left → d + 2 * left ≤ deepest → (opening b).depth d + 2 * (left - 1) ≤ deepest
inner_deep true d left h g = omega arith
inner_deep false d left h g = omega arith

fifteen_on : (at : ℕ) {n : ℕ} → at + 15 ≤ n → at ≤ n
fifteen_on at h = omega arith

open_depth : (b : Bool) (d : ℕ) → b ≡ true → 0 < (opening b).depth d
open_depth true d q = omega arith
open_depth false d q = let z : ◌≡◌ {A = ℕ} 0 1 = cc in absurd (omega arith)

twelve_on : (at : ℕ) {n : ℕ} → n ≡ at + 12 → at ≤ n
twelve_on at q = omega arith

super_later : (tree : List ℕ) (d : ℕ) (b : Bool) {at : ℕ} {o : Option Superclass} {n : ℕ} → maybe b (read_superclass tree (word16 tree 2) d) at ≡ got o n → at ≤ n
super_later tree d true {at} r = let i = maybe_yes (read_superclass tree (word16 tree 2) d) at r in twelve_on at (superclass_at tree (word16 tree 2) d at i.one_is).end
super_later tree d false {at} r = same_on (maybe_no (read_superclass tree (word16 tree 2) d) at r).1

has_super : (tree : List ℕ) (d : ℕ) (b : Bool) (at : ℕ) → b ≡ true → {o : Option Superclass} {n : ℕ} → maybe b (read_superclass tree (word16 tree 2) d) at ≡ got o n → is_some o ≡ true
has_super tree d true at q r = ap is_some (maybe_yes (read_superclass tree (word16 tree 2) d) at r).is
has_super tree d false at q r = let z : ◌≡◌ {A = ℕ} 0 1 = cc in absurd (omega arith)

module _ (tree : List ℕ) (l at left : ℕ) (mark : letters tree at ≡ marks.SC) where
  abbrev parts : {s : Stmt} {n : ℕ} → stmt_at tree left l at ≡ got s n
      → ClassAt tree (word16 tree 2) (read_superclass tree (word16 tree 2) (left - 1)) (read_method tree (word16 tree 2) (left - 1) (funs_left l)) at s n
  parts h = class_at tree (word16 tree 2) left (funs_left l) at mark h

  pub class_head : There (stmt_at tree left l at) → ClassHead tree at
  class_head h = let i = parts h.is in record { bound = i.bound; depth = left - 1; has = i.has; look = i.look; super = i.super; mid = i.mid; one = i.one }

  behind : {s : Stmt} {n : ℕ} (h : stmt_at tree left l at ≡ got s n) → at ≤ (parts h).mid
  behind h = fifteen_on at (super_later tree (left - 1) (parts h).has (parts h).one)

  some_is : {s : Stmt} {n : ℕ} (h : stmt_at tree left l at ≡ got s n) → some_methods (parts h).methods ≡ ltb 0 (word16 tree (at + 13))
  some_is h = some_count (read_method tree (word16 tree 2) (left - 1) (funs_left l)) (word16 tree (at + 13)) (parts h).mid (parts h).row_is

  module _ (span : Span) (sp : span ≡ span_of tree (at + 2)) {limit class : ℕ} {before m1 : Mem} {ra : Step} (a : ClassOpened class limit l tree at span before m1 ra) where
    opened : {s : Stmt} {n : ℕ} (h : stmt_at tree left l at ≡ got s n)
        → Did class limit l (parts h).mid (opening (is_some (parts h).super)) (open_class limit (word16 tree (at + 10)) (parts h).super (some_methods (parts h).methods) span) before m1 ra
    opened h =
        subst (λ (b : Bool). Did class limit l (parts h).mid (opening (is_some (parts h).super)) (open_class limit (word16 tree (at + 10)) (parts h).super b span) before m1 ra) (sym (some_is h))
        (a.did (left - 1) (parts h).has (parts h).super (parts h).mid (parts h).look (parts h).one)

    whole : {s : Stmt} {n : ℕ} (h : stmt_at tree left l at ≡ got s n) → s ≡ StmtClass span (word16 tree (at + 10)) (parts h).super (parts h).methods
    whole h = (parts h).is ∙ ap (λ (z : Span). StmtClass z (word16 tree (at + 10)) (parts h).super (parts h).methods) (sym sp)

    pub class_stop : (out : List ℕ) {x : Why} → ra ≡ Err x → Walked class limit l at (stmt_at tree left l at) (compile_stmt limit) before out m1 out ra
    class_stop out q = record {
      did = λ s n h. by_parts (whole h) (class_then_pop limit span (word16 tree (at + 10)) (parts h).super (parts h).methods) (stopped q (refused_seq (refused_seq (stuck (opened h) q) _) _));
    }

    module _ {first : ℕ} (qa : ra ≡ Ok first) where
      here : {s : Stmt} {n : ℕ} (h : stmt_at tree left l at ≡ got s n) → first ≡ (parts h).mid
      here h = valued (opened h) qa

      -- the methods stand further on than the class
      pub class_far : There (stmt_at tree left l at) → at < first
      class_far h =
          let e = here h.is in
          let k = super_later tree (left - 1) (parts h.is).has (parts h.is).one in
          omega (arith, e, k)

      begins : (out : List ℕ) {s : Stmt} {n : ℕ} (h : stmt_at tree left l at ≡ got s n)
          → Run class limit l at (parts h).mid (opening (is_some (parts h).super)) (open_class limit (word16 tree (at + 10)) (parts h).super (some_methods (parts h).methods) span) tt before
          out m1 out
      begins out h = of_gave out refl (behind h) (went (opened h) qa)

      pub class_row : There (stmt_at tree left l at) → There (methods_at tree (word16 tree (at + 13)) (left - 1) l first)
      class_row h = record { thing = (parts h.is).methods; next = h.next; is = ap (methods_at tree (word16 tree (at + 13)) (left - 1) l) (here h.is) ∙ (parts h.is).row_is }

      pub class_ready : There (stmt_at tree left l at) → 0 < left → Ready tree before at left l limit → Ready tree m1 first (left - 1) l limit
      class_ready h g y =
          subst (λ (k : ℕ). Ready tree m1 k (left - 1) l limit) (sym (here h.is))
          (ready_after y (begins [] h.is) (inner_deep (is_some (parts h.is).super) (depth_at before l) left g y.shallow))

      module _ (inner-class : ℕ) (e : InnerClass tree at inner-class) {out out2 : List ℕ} {m2 : Mem} {next more : ℕ}
          (w : Row inner-class limit l tree (word16 tree (at + 13)) (left - 1) first m1 out m2 out2 next more) where
        inner_is : {s : Stmt} {n : ℕ} (h : stmt_at tree left l at ≡ got s n) → inner-class ≡ inner (is_some (parts h).super)
        inner_is h = e.is (left - 1) (parts h).has (parts h).super (parts h).mid (parts h).look (parts h).one

        rows : {s : Stmt} {n : ℕ} (h : stmt_at tree left l at ≡ got s n) → methods_at tree (word16 tree (at + 13)) (left - 1) l first ≡ got (parts h).methods n
        rows h = ap (methods_at tree (word16 tree (at + 13)) (left - 1) l) (here h) ∙ (parts h).row_is

        pub class_stop_2 : 0 < more → {m3 : Mem} {out3 : List ℕ} {rb : Step} {x : Why}
            → Walked inner-class limit l next (method_at tree (left - 1) l next) (compile_method limit) m2 out2 m3 out3 rb → rb ≡ Err x
            → Walked class limit l at (stmt_at tree left l at) (compile_stmt limit) before out m3 out3 rb
        class_stop_2 g {m3 = m3} {rb = rb} {x = x} b q = record {
          did = λ s n h. by_parts (whole h) (class_then_pop limit span (word16 tree (at + 10)) (parts h).super (parts h).methods)
              (stopped q
              (refused_seq
              (run_refused_seq (begins out h) _
              (refused_seq (subst (λ (c : ℕ). Refused c l (compile_methods limit (parts h).methods) m1 (told (t_of m3) x)) (inner_is h) (row_stop w b g q (parts h).methods n (rows h))) _)) _));
        }

        -- the scope of `super` is open where there is one
        pub class_deep : There (stmt_at tree left l at) → word8 tree (at + 12) ≡ 1 → 0 < depth_at m2 l
        class_deep h q =
            subst (λ (k : ℕ). 0 < k) (sym (w.deep ∙ (begins [] h.is).gave.ahead.deep))
            (open_depth (is_some (parts h.is).super) (depth_at before l)
            (has_super tree (left - 1) (parts h.is).has (at + 15) (flag_on (word8 tree (at + 12)) (parts h.is).look q) (parts h.is).one))

        pub class_done : more ≤ 0 → {now : Mem} {rc : Step} → ((class : ℕ) → ClassClosed class limit l tree at next span m2 now rc)
            → Walked class limit l at (stmt_at tree left l at) (compile_stmt limit) before out now out2 rc
        class_done g {now} {rc} d = record {
          did = λ s n h.
              let f = row_done w g (parts h).methods n (rows h) in
              let b = is_some (parts h).super in
              let second = of_grew (subst (λ (c : ℕ). Grew c limit l first n (compile_methods limit (parts h).methods) m1 out m2 out2) (inner_is h) f.0) in
              let middle = subst (λ (k : ℕ). Run (inner b) limit l k n steady (compile_methods limit (parts h).methods) tt m1 out m2 out2) (here h) second in
              let last = subst (λ (y : Bool). Did (inner b) limit l next (closing b) (close_class limit (parts h).super y span) m2 now rc) (sym (some_is h))
              ((d (inner b)).did (left - 1) (parts h).has (parts h).super (parts h).mid (parts h).look (parts h).one) in
              by_parts (whole h) (class_then_pop limit span (word16 tree (at + 10)) (parts h).super (parts h).methods)
              (conclude
              (λ z. class_grown (closes b) (λ x. refl) (run_seq (record { past = λ made rest. refl }) _ (begins out h) (run_seq (free_closing b) _ middle (of_gave out2 refl (le_refl n) z))))
              (λ x z. refused_seq (run_refused_seq (begins out h) _ (run_refused_seq middle _ z)) _)
              (on_to f.1 last));
        }
