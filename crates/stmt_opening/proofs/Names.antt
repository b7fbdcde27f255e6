-- A function's own locals: the one of slot zero, and the parameters, one after the other.
use Rattle.std.specs.Prelude.{◌⊎◌, Result, Ok, Err, ⊤}
use mathlib.Core.Path.{◌≡◌, refl, sym, ap, subst, ◌∙◌}
use mathlib.Core.List.{List, ◌∷◌, []}
use mathlib.Core.Logic.{⊎_elim}
use Prim.Native.Nat.{ℕ, zero, suc, ◌+◌, ◌*◌, ◌-◌, ◌≤◌, ◌<◌}
use native.Mathlib.Omega.{arith}
use lib.ListN.{length}
use Rattle.rules.specs.declared.Span.{Span}
use Rattle.rules.specs.Reader.{got}
use Rattle.rules.specs.Compiler.{Compiler, ok, err, Compile, ◌>>◌, done, return, update_ctx, slot_zero, declare_local, define_local, declare_params}
use Rattle.fields.specs.Words.{word16}
use Rattle.state.specs.Kinds.{number_of}
use Rattle.state.specs.declared.Kind.{Kind}
use Rattle.state.specs.declared.Kind.TheVariants.{Script, Function, Method, Initializer}
use Rattle.state.specs.Layout.{levels, ctx_at, type_of, Wf, upvalues_place, name_place, level_words, local_count_place, word}
use Rattle.state.specs.Meaning.{Kept, DeclaredAs, DeclaredAt, DefinedAt}
use Rattle.state.specs.declared.Undeclared.{Undeclared}
use Rattle.state.specs.declared.Undeclared.TheVariants.{Already, Full}
use Rattle.state.proofs.Laws.{kept_same}
use Rattle.tree_laws.proofs.Statements.{NameRowAt, no_names, more_names}
use Rattle.steps.specs.View.{mem, Rest, view}
use Rattle.steps.proofs.Steps.{seq_ok, seq_err}
use Rattle.steps.proofs.Views.{view_locals, stopped_in}
use Rattle.rules.proofs.Slips as slips
use Rattle.rules.proofs.Slips.{enough_locals, already_declared}
use Rattle.steps.proofs.Monad.{regroup}
use Rattle.stmt_opening.specs.Opening.{names_at, NamesThere, declare_named, Locally, NamedAs, Named, ParamsDeclared}
use Rattle.rules.specs.declared.Refusal.{Refusal}
use Rattle.steps.specs.declared.Why.{Why}
use Rattle.steps.specs.Why.{already_defined, too_many_locals, refusal_of, told, Step}

-- ## Slot zero

pub method_slot : (kind : Kind) (name : ℕ) → (kind ≡ Initializer) ⊎ (kind ≡ Method) → 0 ≡ slot_zero (type_of (number_of kind)) name
unfolding number_of type_of slot_zero
method_slot kind name h = ⊎_elim (λ q. rw q refl) (λ q. rw q refl) h

pub function_slot : (kind : Kind) (name : ℕ) → (kind ≡ Script) ⊎ (kind ≡ Function) → name ≡ slot_zero (type_of (number_of kind)) name
unfolding number_of type_of slot_zero
function_slot kind name h = ⊎_elim (λ q. rw q refl) (λ q. rw q refl) h

-- ## What is kept

pub kept_on : {lo hi lo' hi' : ℕ} {t t' t'' : List ℕ} → lo ≤ lo' → hi' ≤ hi → Kept lo hi t t' → Kept lo' hi' t' t'' → Kept lo hi t t''
kept_on a b x y = record {
  below = λ i h. y.below i (omega arith) ∙ x.below i h;
  above = λ i h. y.above i (omega arith) ∙ x.above i h;
}

-- ## One local

define_is : (t t' code spans : List ℕ) (l : ℕ) (rest : Rest) → l < levels → Wf t → DefinedAt t t' l → define_local (view (mem t code spans) l rest) ≡ ok tt (view (mem t' code spans) l rest)
unfolding define_local update_ctx view ctx_at
define_is t t' code spans l rest low wf w = ap (ok tt) (sym (view_locals t code spans t' l local_count_place _ wf low w.kept (omega arith) w.does rest))

module _ (l n name : ℕ) (span : Span) (t t₁ : List ℕ) (r : Result ⊤ Undeclared) (w : DeclaredAt t t₁ l name r) where
  does_as : (s : Result ⊤ Undeclared) → r ≡ s → DeclaredAs t t₁ l name s
  does_as s q = subst (λ (s : Result ⊤ Undeclared). DeclaredAs t t₁ l name s) q w.does

  own_name : word t₁ l name_place ≡ word t l name_place
  own_name = w.kept.above _ (omega arith)

  pub named_again : r ≡ Err Already → Named l n (declare_named name span) t t₁ (Err (already_defined l span name))
  unfolding view ctx_at refusal_of
  named_again q = record {
    does = λ code spans rest.
        seq_err (declare_local name span) (view (mem t code spans) l rest) define_local (already_declared name span (view (mem t code spans) l rest) (does_as (Err Already) q))
        ∙ ap err (stopped_in t code spans rest _ own_name);
  }

  pub named_full : r ≡ Err Full → Named l n (declare_named name span) t t₁ (Err (too_many_locals l span))
  unfolding view ctx_at refusal_of
  named_full q = record {
    does = λ code spans rest.
        seq_err (declare_local name span) (view (mem t code spans) l rest) define_local
        (slips.too_many_locals name span (view (mem t code spans) l rest) (does_as (Err Full) q).0 (does_as (Err Full) q).1)
        ∙ ap err (stopped_in t code spans rest _ own_name);
  }

  declare_is : l < levels → Wf t → r ≡ Ok tt → (code spans : List ℕ) (rest : Rest) → declare_local name span (view (mem t code spans) l rest) ≡ ok tt (view (mem t₁ code spans) l rest)
  unfolding view ctx_at
  declare_is low wf q code spans rest =
      enough_locals name span (view (mem t code spans) l rest) (does_as (Ok tt) q).0 (does_as (Ok tt) q).1
      ∙ ap (ok tt) (sym (view_locals t code spans t₁ l upvalues_place _ wf low w.kept (omega arith) (does_as (Ok tt) q).2 rest))

  pub named_new : l < levels → Wf t → r ≡ Ok tt → (t₂ : List ℕ) → DefinedAt t₁ t₂ l → Named l n (declare_named name span) t t₂ (Ok n)
  named_new low wf q t₂ d = record {
    does = (
      record {
        comes = λ code spans rest.
            seq_ok (declare_local name span) (view (mem t code spans) l rest) define_local (declare_is low wf q code spans rest) ∙ define_is t₁ t₂ code spans l rest low w.wf d;
        kept = kept_on (omega arith) (omega arith) w.kept d.kept;
        wf = d.wf;
      },
      refl,
    );
  }

-- ## After a local

module _ {l n : ℕ} {m : Compile Unit} {t t' : List ℕ} {r : Step} (d : Named l n m t t' r) where
  pub named_on : {v : ℕ} → r ≡ Ok v → Locally l m t t'
  named_on q = (subst (λ (s : Step). NamedAs l n m t t' s) q d.does).0

  pub named_stop : {x : Why} → r ≡ Err x → (code spans : List ℕ) (rest : Rest) → m (view (mem t code spans) l rest) ≡ err (told t' x)
  named_stop q = subst (λ (s : Step). NamedAs l n m t t' s) q d.does

-- an answer that stopped
pub named_stopped : {l n : ℕ} {m : Compile Unit} {t t' : List ℕ} {r : Step} {x : Why} → r ≡ Err x →
    ((code spans : List ℕ) (rest : Rest) → m (view (mem t code spans) l rest) ≡ err (told t' x)) → Named l n m t t' r
named_stopped {l} {n} {m} {t} {t'} q h = record { does = subst (λ (s : Step). NamedAs l n m t t' s) (sym q) h }

-- ## One parameter after the other

params_more : (p : ℕ) (ps : List ℕ) (span : Span) (x : Compiler) → declare_params (p ∷ ps) span x ≡ (declare_named p span >> declare_params ps span) x
unfolding declare_params ◌>>◌
params_more p ps span x = sym (regroup (declare_local p span x) (λ _. define_local) (λ _. declare_params ps span))

params_none : (span : Span) (x : Compiler) → declare_params [] span x ≡ ok tt x
unfolding declare_params done return
params_none span x = refl

module _ (tree : List ℕ) (l : ℕ) (span : Span) where
  -- from t, m comes to what declaring the parameters that are left comes to from t'
  pub record ParamsLeft (x : Refusal) (m : Compile Unit) (n : ℕ) (t t' : List ℕ) (next left : ℕ) : Type 0 where
    pub params : List ℕ
    pub is : names_at tree x left next ≡ got params n
    pub same : (code spans : List ℕ) (rest : Rest) → m (view (mem t code spans) l rest) ≡ declare_params params span (view (mem t' code spans) l rest)

  -- of `count` names from `from` on, `left` are still to be declared, from `next` on
  pub record Walk (count from : ℕ) (t t' : List ℕ) (next left : ℕ) : Type 0 where
    pub wf : Wf t'
    pub kept : Kept (l * level_words) (l * level_words + upvalues_place) t t'
    pub to : (x : Refusal) (ps : List ℕ) (n : ℕ) → names_at tree x count from ≡ got ps n → ParamsLeft x (declare_params ps span) n t t' next left

  pub walk_start : (count from : ℕ) (t : List ℕ) → Wf t → {left : ℕ} → left ≡ count → Walk count from t t from left
  walk_start count from t wf e = record { wf = wf; kept = kept_same _ _ t; to = λ x ps n r. record { params = ps; is = ap (λ (k : ℕ). names_at tree x k from) e ∙ r; same = λ code spans rest. refl } }

  module _ {count from : ℕ} {t t' : List ℕ} {next left : ℕ} (w : Walk count from t t' next left) where
    head_of : {x : Refusal} {ps : List ℕ} {n : ℕ} (r : names_at tree x count from ≡ got ps n) → 0 < left → NameRowAt tree (word16 tree 2) x (left - 1) next (w.to x ps n r).params n
    head_of {x} {ps} {n} r h =
        let p : suc (left - 1) ≡ left = omega arith in
        more_names tree (word16 tree 2) x (left - 1) next (ap (λ (k : ℕ). names_at tree x k next) p ∙ (w.to x ps n r).is)

    -- one more is there
    pub walk_there : NamesThere tree count from → 0 < left → next + 2 ≤ length tree
    walk_there y h = (head_of y.is h).bound

    pub walk_done : left ≤ 0 → ParamsDeclared l tree count from span t t' (Ok next)
    walk_done h = record {
      did = λ x ps n r.
          let o = w.to x ps n r in
          let p : left ≡ 0 = omega arith in
          let e = no_names tree (word16 tree 2) x next (ap (λ (k : ℕ). names_at tree x k next) (sym p) ∙ o.is) in
          record {
            does = (
              record {
                comes = λ code spans rest. o.same code spans rest ∙ ap (λ (z : List ℕ). declare_params z span (view (mem t' code spans) l rest)) e.0 ∙
                    params_none span (view (mem t' code spans) l rest);
                kept = w.kept;
                wf = w.wf;
              },
              sym e.1,
            );
          };
    }

    module _ {k name : ℕ} {t'' : List ℕ} {a : Step} (is : name ≡ word16 tree next) (d : Named l k (declare_named name span) t' t'' a) (h : 0 < left) where
      -- the next name is the first of those that are left
      here : (x : Refusal) (ps : List ℕ) (n : ℕ) (r : names_at tree x count from ≡ got ps n) (code spans : List ℕ) (rest : Rest)
          → declare_params ps span (view (mem t code spans) l rest) ≡ (declare_named name span >> declare_params (head_of r h).others span) (view (mem t' code spans) l rest)
      here x ps n r code spans rest =
          let i = head_of r h in
          (w.to x ps n r).same code spans rest
          ∙ ap (λ (z : List ℕ). declare_params z span (view (mem t' code spans) l rest)) (i.is ∙ ap (λ (j : ℕ). j ∷ i.others) (sym is))
          ∙ params_more name i.others span (view (mem t' code spans) l rest)

      pub walk_stop : {x : Why} → a ≡ Err x → ParamsDeclared l tree count from span t t'' a
      walk_stop q = record {
        did = λ x ps n r.
            named_stopped q (λ code spans rest. here x ps n r code spans rest ∙ seq_err (declare_named name span) (view (mem t' code spans) l rest) _ (named_stop d q code spans rest));
      }

      pub walk_step : {v less : ℕ} → a ≡ Ok v → less + 1 ≡ left → Walk count from t t'' (next + 2) less
      walk_step {less = less} q e =
          let g = named_on d q in
          let p : left - 1 ≡ less = omega arith in
          record {
            wf = g.wf;
            kept = kept_on (omega arith) (omega arith) w.kept g.kept;
            to = λ x ps n r.
                let i = head_of r h in
                record {
                  params = i.others;
                  is = ap (λ (k : ℕ). names_at tree x k (next + 2)) (sym p) ∙ i.tail;
                  same = λ code spans rest. here x ps n r code spans rest ∙ seq_ok (declare_named name span) (view (mem t' code spans) l rest) _ (g.comes code spans rest);
                };
          }
