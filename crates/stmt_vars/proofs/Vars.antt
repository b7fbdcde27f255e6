-- A `var`: a law for each way out of its parts, and that the parts make the whole.
use Rattle.steps.specs.Why.{Step}
use mathlib.Core.Path.{◌≡◌, refl, sym, ap, ap₂, ◌∙◌}
use mathlib.Core.Bool.{Bool, true, false}
use mathlib.Core.List.{List}
use Prim.Native.Nat.{ℕ, ◌+◌, ◌-◌, ◌≤◌}
use lib.ListN.{length}
use Rattle.rules.specs.Base.{lookup}
use Rattle.std.specs.Prelude.{if◌then◌else◌, Ok, Err}
use Rattle.rules.specs.declared.Span.{Span}
use Rattle.rules.specs.Tree.{Stmt, StmtVar}
use Rattle.rules.specs.Reader.{got}
use Rattle.rules.specs.TreeFile.{flags}
use Rattle.rules.specs.Op as op
use Rattle.rules.specs.Chunk.{CS}
use Rattle.rules.specs.Compiler.{Compiler, Compile, go_on, ◌>>◌, return, done, is_global, declare_local, define_local, emit_op_constant, define_global, compile_value, compile_var, compile_stmt}
use Rattle.fields.specs.Words.{word8, word16, letters, span_of}
use Rattle.tree_laws.proofs.Statements.{var_stmt_at}
use Rattle.steps.specs.View.{Mem, mem, Fit, steady, Did, Told, Changed, Tried}
use Rattle.steps.proofs.Steps.{went, valued, next, halt, then_on, ask, chosen, otherwise}
use Rattle.steps.proofs.Monad.{like, on_to, nothing}
use Rattle.stmt_output_laws.specs.Output.{funs_left, stmt_at}
use Rattle.stmt_plain_laws.specs.Plain.{StmtSomewhere, Plainly, Flagged, Announced, ValueRan, open_var, close_var}
use Rattle.stmt_plain_laws.proofs.Values.{by_stmt}
use Rattle.fields.specs.Marks as marks
use Rattle.steps.specs.declared.Why.{Why}

-- ## The parts

module _ (l n : ℕ) (global : Bool) (name : ℕ) (span : Span) where
  pub opened_global : (t : List ℕ) → global ≡ true → Tried l n steady (open_var global name span) t t (Ok n)
  unfolding open_var
  opened_global t e = record { gives = λ code spans fit. chosen _ _ _ e (next (nothing fit)) }

  pub opened_local : {t t' : List ℕ} {r : Step} → global ≡ false → Tried l n steady (declare_local name span) t t' r → Tried l n steady (open_var global name span) t t' r
  unfolding open_var
  opened_local e d = record { gives = λ code spans fit. otherwise _ _ _ e (d.gives code spans fit) }

  module _ {class limit : ℕ} where
    pub closed_global : {before now : Mem} {r : Step} → global ≡ true → Did class limit l n steady (emit_op_constant limit op.DEFINE_GLOBAL (CS name) span) before now r
        → Did class limit l n steady (close_var limit global name span) before now r
    unfolding close_var define_global
    closed_global e d = chosen _ _ _ e d

    pub closed_local : {t t' : List ℕ} (code spans : List ℕ) → global ≡ false → Fit (mem t code spans) l limit → Changed l steady define_local t t'
        → Did class limit l n steady (close_var limit global name span) (mem t code spans) (mem t' code spans) (Ok n)
    unfolding close_var
    closed_local code spans e fit d = otherwise _ _ _ e (next (d.gives code spans fit))

-- ## The whole

module _ (limit name : ℕ) (span : Span) (value : Compile Unit) where
  whole : (b : Bool) (s : Compiler)
      → (if b then value >> define_global limit name span else declare_local name span >> (value >> define_local)) s ≡ (open_var b name span >> (value >> close_var limit b name span)) s
  unfolding open_var close_var ◌>>◌ done return go_on
  whole true s = refl
  whole false s = refl

pub var_bound : {tree : List ℕ} {l at : ℕ} → letters tree at ≡ marks.SV → StmtSomewhere tree l at → at + 13 ≤ length tree
var_bound {tree} {l} {at} m w = (var_stmt_at tree (word16 tree 2) w.left (funs_left l) at m w.there.is).bound

module _ (tree : List ℕ) (left l at : ℕ) (m : letters tree at ≡ marks.SV) where
  module _ (flag : ℕ) (f : flag ≡ word8 tree (at + 12)) where
    announced : {s : Stmt} {n : ℕ} → (z : stmt_at tree left l at ≡ got s n) → Flagged tree (left - 1) (at + 13) flag (var_stmt_at tree (word16 tree 2) left (funs_left l) at m z).value n
    announced z = let i = var_stmt_at tree (word16 tree 2) left (funs_left l) at m z in record { has = i.has; look = ap (λ (k : ℕ). lookup k flags) f ∙ i.look; one = i.one }

    module _ {class limit : ℕ} (sp : Span) (h : sp ≡ span_of tree (at + 2)) (name : ℕ) (p : name ≡ word16 tree (at + 10)) (global : Bool) {before : Mem}
        (g : Told class l is_global global before) where
      by_parts : {s : Stmt} {n : ℕ} {now : Mem} {r : Step} (z : stmt_at tree left l at ≡ got s n)
          → Did class limit l n steady
          (open_var global name sp >> (compile_value limit (var_stmt_at tree (word16 tree 2) left (funs_left l) at m z).value sp >> close_var limit global name sp)) before now r
          → Did class limit l n steady (compile_stmt limit s) before now r
      unfolding compile_stmt compile_var
      by_parts z d =
          let i = var_stmt_at tree (word16 tree 2) left (funs_left l) at m z in
          by_stmt (i.is ∙ ap₂ (λ w k. StmtVar w k i.value) (sym h) (sym p))
          (ask g _ (like (whole limit name sp (compile_value limit i.value sp) global) d))

      pub var_stop : {k : ℕ} {now : Mem} {r : Step} {x : Why} → Did class limit l k steady (open_var global name sp) before now r → r ≡ Err x
          → Plainly class limit l (stmt_at tree left l at) before now r
      var_stop a q = record { did = λ s n z. by_parts z (halt _ a q) }

      module _ {k v : ℕ} {mid : Mem} {r : Step} (a : Did class limit l k steady (open_var global name sp) before mid r) (q : r ≡ Ok v) where
        pub var_value_stop : {now : Mem} {r' : Step} {x : Why} → ValueRan class limit l tree (left - 1) (at + 13) flag sp mid now r' → r' ≡ Err x
            → Plainly class limit l (stmt_at tree left l at) before now r'
        var_value_stop b q' = record { did = λ s n z. by_parts z (then_on _ a q (halt _ (b.did _ n (announced z)) q')) }

        pub var_done : {late now : Mem} {r' r'' : Step} {v' : ℕ} → ValueRan class limit l tree (left - 1) (at + 13) flag sp mid late r' → r' ≡ Ok v'
            → Did class limit l v' steady (close_var limit global name sp) late now r'' → Plainly class limit l (stmt_at tree left l at) before now r''
        var_done b q' d = record {
          did = λ s n z.
              let c = b.did _ n (announced z) in
              by_parts z (then_on _ a q (then_on _ c q' (on_to (valued c q') d)));
        }

pub var_value : {tree : List ℕ} {l at flag : ℕ} → letters tree at ≡ marks.SV → flag ≡ word8 tree (at + 12) → StmtSomewhere tree l at → Announced tree (at + 13) flag
var_value {tree} {l} {at} {flag} m f w = record { left = w.left - 1; value = _; next = w.there.next; is = announced tree w.left l at m flag f w.there.is }

-- the areas after the value
pub value_fit : {class limit l at flag v : ℕ} {tree : List ℕ} {sp : Span} {before now : Mem} {r : Step} → Announced tree at flag
    → ((d : ℕ) → ValueRan class limit l tree d at flag sp before now r) → r ≡ Ok v → Fit now l limit
value_fit w a q = (went ((a w.left).did w.value w.next w.is) q).ahead.fit
