-- A `return`: a law for each way out of its parts, and that the parts make the whole.
use Rattle.std.specs.Prelude.{Ok, Err}
use mathlib.Core.Path.{◌≡◌, refl, sym, ap, ap₂, ◌∙◌}
use mathlib.Core.Option.{Option, none, some}
use mathlib.Core.List.{List}
use Prim.Native.Nat.{ℕ, zero, suc, ◌+◌, ◌*◌, ◌-◌, ◌≤◌, ◌<◌}
use native.Mathlib.Omega.{arith}
use lib.ListN.{length, get_or}
use Rattle.rules.specs.Base.{lookup}
use Rattle.rules.specs.declared.Span.{Span}
use Rattle.rules.specs.declared.Refusal.TheVariants.{ReturnInInitializer, ReturnOutsideFunction}
use Rattle.rules.specs.Tree.{Expr, Stmt, StmtReturn}
use Rattle.rules.specs.Reader.{got}
use Rattle.rules.specs.TreeFile.{flags, read_expr}
use Rattle.rules.specs.Op as op
use Rattle.rules.specs.Compiler.{Compiler, go_on, ◌>>=◌, ◌>>◌, return, done, refuse, the, FunctionType, Function, Initializer, Method, Script, emit_op, compile_expr, compile_value, return_value}
use Rattle.rules.specs.Compiler.{compile_return, compile_stmt}
use Rattle.fields.specs.Words.{word8, word16, letters, span_of}
use Rattle.tree_laws.proofs.Statements.{SomeAt, return_at}
use Rattle.state.specs.Layout.{type_of, type_place, level_words}
use Rattle.steps.specs.View.{Mem, steady, Did, Tried}
use Rattle.steps.proofs.Steps.{valued, next, stop, refuses_in, halt, then_on, ask, ask_refused}
use Rattle.step_returns.proofs.Returns.{told_type}
use Rattle.expr_laws.specs.Exprs.{Somewhere, expr_at, Ran}
use Rattle.steps.proofs.Monad.{like, on_to, nothing}
use Rattle.stmt_output_laws.specs.Output.{funs_left, stmt_at}
use Rattle.stmt_plain_laws.specs.Plain.{StmtSomewhere, Plainly, Flagged, return_kind, may_return}
use Rattle.stmt_plain_laws.proofs.Values.{by_stmt, flagged_no, flagged_yes}
use Rattle.fields.specs.Marks as marks
use Rattle.steps.specs.declared.Why.{Why}
use Rattle.steps.specs.Why.{return_in_initializer, return_outside_function, refusal_of, Step}

-- ## The kind of function

module _ (span : Span) (s : Compiler) where
  outside : (kind : ℕ) → kind ≡ 0 → return_kind (type_of kind) span s ≡ refuse (ReturnOutsideFunction span) s
  unfolding type_of return_kind
  outside kind e = ap (λ (k : ℕ). return_kind (type_of k) span s) e

  initializer : (kind : ℕ) → 3 ≤ kind → return_kind (type_of kind) span s ≡ refuse (ReturnInInitializer span) s
  unfolding type_of return_kind
  initializer zero h = absurd (omega arith)
  initializer (suc zero) h = absurd (omega arith)
  initializer (suc (suc zero)) h = absurd (omega arith)
  initializer (suc (suc (suc k))) h = refl

  returns_one : (kind : ℕ) → (kind ≡ 0 → ⊥) → kind < 3 → return_kind (type_of kind) span s ≡ done s
  unfolding type_of return_kind
  returns_one zero e h = absurd (e refl)
  returns_one (suc zero) e h = refl
  returns_one (suc (suc zero)) e h = refl
  returns_one (suc (suc (suc k))) e h = absurd (omega arith)

module _ (l n : ℕ) (span : Span) (t : List ℕ) where
  abbrev kind : ℕ
  kind = get_or t (l * level_words + type_place) 0

  pub kind_outside : kind ≡ 0 → Tried l n steady (may_return span) t t (Err (return_outside_function l span))
  unfolding may_return refuse refusal_of
  kind_outside e = record { gives = λ code spans fit. stop _ (ask_refused (told_type t code spans l) _ (refuses_in (return_outside_function l span) refl t refl (λ rest h. outside span _ kind e))) }

  pub kind_initializer : 3 ≤ kind → Tried l n steady (may_return span) t t (Err (return_in_initializer l span))
  unfolding may_return refuse refusal_of
  kind_initializer e = record {
    gives = λ code spans fit. stop _ (ask_refused (told_type t code spans l) _ (refuses_in (return_in_initializer l span) refl t refl (λ rest h. initializer span
        _ kind e)));
  }

  pub kind_returns : (kind ≡ 0 → ⊥) → kind < 3 → Tried l n steady (may_return span) t t (Ok n)
  unfolding may_return
  kind_returns e h = record { gives = λ code spans fit. ask (told_type t code spans l) _ (like (λ s. returns_one span s kind e h) (next (nothing fit))) }

-- ## The whole

module _ (limit : ℕ) (e : Expr) (span : Span) where
  by_type : (type : FunctionType) (s : Compiler)
      → (return_value limit type (some e) span >> emit_op limit op.RETURN span) s ≡ (return_kind type span >> (compile_expr limit e >> emit_op limit op.RETURN span)) s
  unfolding return_value compile_value return_kind refuse done return ◌>>◌ go_on
  by_type Script s = refl
  by_type Initializer s = refl
  by_type Function s = refl
  by_type Method s = refl

  whole : (s : Compiler) → compile_return limit (some e) span s ≡ (may_return span >> (compile_expr limit e >> emit_op limit op.RETURN span)) s
  unfolding compile_return may_return the ◌>>=◌ ◌>>◌ go_on
  whole s = by_type s.ctx.type s

pub return_bound : {tree : List ℕ} {l at : ℕ} → letters tree at ≡ marks.SR → StmtSomewhere tree l at → at + 11 ≤ length tree
return_bound {tree} {l} {at} m w = (return_at tree (word16 tree 2) w.left (funs_left l) at m w.there.is).bound

module _ (tree : List ℕ) (left l at : ℕ) (m : letters tree at ≡ marks.SR) where
  module _ (flag : ℕ) (f : flag ≡ word8 tree (at + 10)) where
    announced : {s : Stmt} {n : ℕ} → (z : stmt_at tree left l at ≡ got s n) → Flagged tree (left - 1) (at + 11) flag (return_at tree (word16 tree 2) left (funs_left l) at m z).value n
    announced z = let i = return_at tree (word16 tree 2) left (funs_left l) at m z in record { has = i.has; look = ap (λ (k : ℕ). lookup k flags) f ∙ i.look; one = i.one }

    -- the statement that was read returns this
    by_return : {class limit : ℕ} {s : Stmt} {n : ℕ} {before now : Mem} {r : Step} (sp : Span) → sp ≡ span_of tree (at + 2) → (z : stmt_at tree left l at ≡ got s n)
        → {o : Option Expr} → (return_at tree (word16 tree 2) left (funs_left l) at m z).value ≡ o
        → Did class limit l n steady (compile_return limit o sp) before now r → Did class limit l n steady (compile_stmt limit s) before now r
    unfolding compile_stmt
    by_return sp h z q d = by_stmt ((return_at tree (word16 tree 2) left (funs_left l) at m z).is ∙ ap₂ StmtReturn (sym h) q) d

    pub return_none : {class limit : ℕ} {before now : Mem} {r : Step} (sp : Span) → sp ≡ span_of tree (at + 2) → flag ≡ 0
        → Did class limit l (at + 11) steady (compile_return limit none sp) before now r
        → Plainly class limit l (stmt_at tree left l at) before now r
    return_none sp h e d = record {
      did = λ s n z.
          let i = flagged_no tree (left - 1) (at + 11) flag e (announced z) in
          by_return sp h z i.0 (on_to (sym i.1) d);
    }

    module _ (e : flag ≡ 0 → ⊥) where
      valued_at : {s : Stmt} {n : ℕ} → (z : stmt_at tree left l at ≡ got s n)
          → SomeAt (read_expr tree (word16 tree 2) (left - 1)) (at + 11) (return_at tree (word16 tree 2) left (funs_left l) at m z).value n
      valued_at z = flagged_yes tree (left - 1) (at + 11) flag e (announced z)

      module _ {class limit : ℕ} (sp : Span) (h : sp ≡ span_of tree (at + 2)) {before : Mem} where
        by_parts : {s : Stmt} {n : ℕ} {now : Mem} {r : Step} (z : stmt_at tree left l at ≡ got s n)
            → Did class limit l n steady (may_return sp >> (compile_expr limit (valued_at z).thing >> emit_op limit op.RETURN sp)) before now r
            → Did class limit l n steady (compile_stmt limit s) before now r
        by_parts z d = let i = valued_at z in by_return sp h z i.is (like (whole limit i.thing sp) d)

        pub return_stop : {k : ℕ} {now : Mem} {r : Step} {x : Why} → Did class limit l k steady (may_return sp) before now r → r ≡ Err x
            → Plainly class limit l (stmt_at tree left l at) before now r
        return_stop a q = record { did = λ s n z. by_parts z (halt _ a q) }

        module _ {k v : ℕ} {mid : Mem} {r : Step} (a : Did class limit l k steady (may_return sp) before mid r) (q : r ≡ Ok v) where
          pub return_value_stop : {now : Mem} {r' : Step} {x : Why} → Ran class limit l (expr_at tree (left - 1) (at + 11)) mid now r' → r' ≡ Err x
              → Plainly class limit l (stmt_at tree left l at) before now r'
          return_value_stop b q' = record { did = λ s n z. let i = valued_at z in by_parts z (then_on _ a q (halt _ (b.did i.thing n i.one_is) q')) }

          pub return_done : {late now : Mem} {r' r'' : Step} {v' : ℕ} → Ran class limit l (expr_at tree (left - 1) (at + 11)) mid late r' → r' ≡ Ok v'
              → Did class limit l v' steady (emit_op limit op.RETURN sp) late now r'' → Plainly class limit l (stmt_at tree left l at) before now r''
          return_done b q' d = record {
            did = λ s n z.
                let i = valued_at z in
                let c = b.did i.thing n i.one_is in
                by_parts z (then_on _ a q (then_on _ c q' (on_to (valued c q') d)));
          }

pub return_there : {tree : List ℕ} {l at : ℕ} → letters tree at ≡ marks.SR → (flag : ℕ) → flag ≡ word8 tree (at + 10) → (flag ≡ 0 → ⊥) → StmtSomewhere tree l at → Somewhere tree (at + 11)
return_there {tree} {l} {at} m flag f e w =
    let i = valued_at tree w.left l at m flag f e w.there.is in
    record { depth = w.left - 1; there = record { thing = i.thing; next = w.there.next; is = i.one_is } }
