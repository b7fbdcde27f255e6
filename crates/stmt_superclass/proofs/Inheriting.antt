-- The superclass of a class: a law for each way out of the functions that open it.
use Rattle.std.specs.Prelude.{Ok, Err}
use mathlib.Core.Path.{◌≡◌, refl, sym, ap, ap₂, subst, ◌∙◌}
use mathlib.Core.Bool.{not}
use mathlib.Core.Option.{Option, some}
use mathlib.Core.List.{List}
use Prim.Native.Nat.{ℕ, ◌+◌}
use lib.Dec.{eqb}
use borrow.Author.Tests.{eq-eqb, ne_eqb}
use Rattle.rules.specs.declared.Span.{Span}
use Rattle.rules.specs.declared.Refusal.TheVariants.{ClassInheritFromSelf}
use Rattle.rules.specs.Answer.{NO_SPAN}
use Rattle.rules.specs.Tree.{super_name, Superclass}
use Rattle.rules.specs.Op as op
use Rattle.rules.specs.Compiler.{Compile, ◌>>◌, is_some, begin_scope, declare_local, define_local, emit_op, get_variable, compile_superclass}
use Rattle.fields.specs.Words.{word8, word16, span_of}
use Rattle.steps.specs.View.{Mem, mem, Fit, steady, deeper, Did, Changed, Tried}
use Rattle.steps.proofs.Steps.{went, next_at, stop, halt, then_on, did_seq, refused_seq, ask_seq, passed, failed}
use Rattle.steps.proofs.Monad.{nothing, on_to}
use Rattle.stmt_heads.specs.Classes.{inner, scoping, superclass_of, SuperOpened}
use Rattle.stmt_heads.proofs.Heads.{with_super, without_super}
use Rattle.steps.specs.declared.Why.{Why}
use Rattle.steps.specs.Why.{class_inherit_from_self, refusal_of, Step}

-- ## The class inherits

-- what is left once `super` is declared
abbrev pub inherits : (limit parent : ℕ) → (place : Span) → (name : ℕ) → (span : Span) → Compile Unit
inherits limit parent place name span = get_variable limit parent place >> (get_variable limit name span >> emit_op limit op.INHERIT span)

-- the areas fit all the while: once the scope is begun, once `super` is declared, once it is defined
module _ {limit l : ℕ} {t t₁ : List ℕ} (code spans : List ℕ) (fit : Fit (mem t code spans) l limit) (b : Changed l deeper begin_scope t t₁) where
  pub begun_fit : Fit (mem t₁ code spans) l limit
  begun_fit = (b.gives {class = 2} code spans fit).ahead.fit

  pub declared_fit : {t₂ : List ℕ} {n v : ℕ} {r : Step} → Tried l n steady (declare_local super_name NO_SPAN) t₁ t₂ r → r ≡ Ok v → Fit (mem t₂ code spans) l limit
  declared_fit d q = (went (d.gives {class = 2} code spans begun_fit) q).ahead.fit

  pub defined_fit : {t₂ t₃ : List ℕ} {n v : ℕ} {r : Step} → Tried l n steady (declare_local super_name NO_SPAN) t₁ t₂ r → r ≡ Ok v → Changed l steady define_local t₂ t₃
      → Fit (mem t₃ code spans) l limit
  defined_fit d q g = (g.gives {class = 2} code spans (declared_fit d q)).ahead.fit

module _ {limit l : ℕ} (tree : List ℕ) (at name : ℕ) (span : Span) where
  pub inherit_self : {k parent : ℕ} {before : Mem} → parent ≡ word16 tree (at + 25) → parent ≡ name
      → Did 2 limit l k deeper (compile_superclass limit name (some (superclass_of tree at)) span) before before (Err (class_inherit_from_self l span name))
  unfolding compile_superclass refusal_of
  inherit_self {before = before} p q =
      stop before (refused_seq (failed (not (eqb (word16 tree (at + 25)) name)) (class_inherit_from_self l span name) refl (ap not (eq-eqb _ _ (sym p ∙ q)))) _)

  module _ {k parent : ℕ} {place : Span} (p : parent ≡ word16 tree (at + 25)) (s : place ≡ span_of tree (at + 17)) (q : parent ≡ name → ⊥)
      {t t₁ : List ℕ} (code spans : List ℕ) (fit : Fit (mem t code spans) l limit) (b : Changed l deeper begin_scope t t₁) where
    inherit_by : {now : Mem} {r : Step} → Did 2 limit l k steady (declare_local super_name NO_SPAN >> (define_local >> inherits limit parent place name span)) (mem t₁ code spans) now r
        → Did 2 limit l k deeper (compile_superclass limit name (some (superclass_of tree at)) span) (mem t code spans) now r
    unfolding compile_superclass
    inherit_by {now} {r} d =
        let e = ap₂ (λ (j : ℕ) (w : Span). inherits limit j w name span) p s in
        ask_seq (passed (not (eqb (word16 tree (at + 25)) name)) (ClassInheritFromSelf span name) (ap not (ne_eqb _ _ (λ h. q (p ∙ h))))) _
        (did_seq (b.gives code spans fit) _
        (subst (λ (m : Compile Unit). Did 2 limit l k steady (declare_local super_name NO_SPAN >> (define_local >> m)) (mem t₁ code spans) now r) e d))

    pub inherit_stop : {t₂ : List ℕ} {n : ℕ} {r : Step} {x : Why} → Tried l n steady (declare_local super_name NO_SPAN) t₁ t₂ r → r ≡ Err x
        → Did 2 limit l k deeper (compile_superclass limit name (some (superclass_of tree at)) span) (mem t code spans) (mem t₂ code spans) r
    inherit_stop d h = inherit_by (halt _ (d.gives code spans (begun_fit code spans fit b)) h)

    pub inherit_done : {t₂ t₃ : List ℕ} {n v : ℕ} {r r' : Step} {now : Mem} → Tried l n steady (declare_local super_name NO_SPAN) t₁ t₂ r → r ≡ Ok v → Changed l steady define_local t₂ t₃
        → Did 2 limit l k steady (inherits limit parent place name span) (mem t₃ code spans) now r'
        → Did 2 limit l k deeper (compile_superclass limit name (some (superclass_of tree at)) span) (mem t code spans) now r'
    inherit_done d h g d' =
        inherit_by (then_on _ (d.gives code spans (begun_fit code spans fit b)) h (did_seq (g.gives code spans (declared_fit code spans fit b d h)) _ d'))

  -- ## The superclass where there is one

  pub superclass_there : {before now : Mem} {r : Step} → word8 tree (at + 12) ≡ 1 → Did 2 limit l (at + 27) deeper (compile_superclass limit name (some (superclass_of tree at)) span) before now r
      → SuperOpened limit l name tree at span before now r
  superclass_there {before} {now} {r} h x = record {
    did = λ d has o mid look one.
        let i = with_super tree at d look one h in
        on_to (sym i.end) (subst (λ (o : Option Superclass). Did (inner (is_some o)) limit l (at + 27) (scoping (is_some o)) (compile_superclass limit name o span) before now r) (sym i.is) x);
  }

  pub superclass_none : {before : Mem} → (word8 tree (at + 12) ≡ 1 → ⊥) → Fit before l limit → SuperOpened limit l name tree at span before before (Ok (at + 15))
  unfolding compile_superclass
  superclass_none {before} h fit = record {
    did = λ d has o mid look one.
        let i = without_super tree at d look one h in
        subst (λ (o : Option Superclass). Did (inner (is_some o)) limit l mid (scoping (is_some o)) (compile_superclass limit name o span) before before (Ok (at + 15))) (sym i.is)
        (next_at (nothing fit) (sym i.end));
  }
