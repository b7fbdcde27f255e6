-- A function is begun: too many parameters, its context, its own locals.
use Rattle.std.specs.Prelude.{Ok, Err}
use mathlib.Core.Path.{◌≡◌, refl, sym, ap, subst, ◌∙◌}
use mathlib.Core.List.{List, []}
use Prim.Native.Nat.{ℕ, suc, ◌+◌, ◌*◌, ◌-◌, ◌%◌, ◌≤◌, ◌<◌}
use native.Mathlib.Omega.{arith}
use native.Mathlib.Nat.{mod-eq_of_lt}
use native.Mathlib.Numerals.{add-one}
use lib.ListN.{length, get_or}
use borrow.Author.Tests.{le-leb, lt-leb}
use Rattle.rules.specs.declared.Span.{Span}
use Rattle.rules.specs.declared.Refusal.TheVariants.{TreeForm, TooManyParams}
use Rattle.rules.specs.Reader.{got}
use Rattle.rules.specs.Compiler.{FunctionType, Compiler, CompilerCtx, new_ctx, ok, err, stopped, Compile, ◌>>=◌, ◌>>◌, go_on, need, the, slot_zero, begin_ctx, declare_local, define_local}
use Rattle.rules.specs.Compiler.{declare_params}
use Rattle.fields.specs.Words.{word16}
use Rattle.state.specs.Layout.{levels, code_end_at, runs_end_at, start_of_code, start_of_runs, end_of_code, end_of_runs, chunk_at, ctx_at, type_of, Wf, upvalues_place, depth_place}
use Rattle.state.specs.Layout.{code_from_place, runs_from_place, level_words}
use Rattle.state.specs.Meaning.{Kept, Began}
use Rattle.state.proofs.Laws.{length_row}
use Rattle.tree_laws.proofs.Statements.{names_length}
use Rattle.steps.specs.View.{mem, Rest, view, depth_at, Entered}
use Rattle.steps.proofs.Steps.{seq_ok, seq_err}
use Rattle.steps.proofs.Views.{ahead_kept, stopped_in}
use Rattle.step_scopes.proofs.Scopes.{entered}
use Rattle.steps.proofs.Monad.{regroup}
use Rattle.stmt_output_laws.specs.Parts.{open_function}
use Rattle.stmt_opening.specs.Opening.{names_at, NamesThere, FunHead, declare_named, Locally, NamedAs, Named, ParamsDeclared, Inside, FunctionOpenedAs, FunctionOpened}
use Rattle.stmt_opening.proofs.Names.{kept_on, named_on, named_stop}
use Rattle.steps.specs.declared.Why.{Why}
use Rattle.steps.specs.Why.{too_many_params, refusal_of, Step}

-- ## The rules' step

module _ (type : FunctionType) (name : ℕ) (params : List ℕ) (span : Span) (x : Compiler) where
  open_many : 255 < length params → open_function type name params span x ≡ err (stopped (TooManyParams span) x)
  unfolding open_function need ◌>>◌ go_on
  open_many h = rw (lt-leb (length params) 255 h)

  open_few : length params ≤ 255
      → open_function type name params span x ≡ (begin_ctx (new_ctx name (length params) type (x.ctx.scope_depth + 1)) >>
      (declare_local (slot_zero type name) span >> (define_local >> declare_params params span))) x
  unfolding open_function need ◌>>◌ ◌>>=◌ the go_on
  open_few h = rw (le-leb (length params) 255 h)

  pub open_is : {y : Compiler} → length params ≤ 255 → begin_ctx (new_ctx name (length params) type (x.ctx.scope_depth + 1)) x ≡ ok tt y
      → open_function type name params span x ≡ (declare_named (slot_zero type name) span >> declare_params params span) y
  unfolding ◌>>◌
  open_is {y} h e =
      open_few h ∙ seq_ok (begin_ctx (new_ctx name (length params) type (x.ctx.scope_depth + 1))) x (declare_local (slot_zero type name) span >> (define_local >> declare_params params span)) e
      ∙ sym (regroup (declare_local (slot_zero type name) span y) (λ _. define_local) (λ _. declare_params params span))

-- ## The context

no_more : (a b : ℕ) → a - b ≡ 0 → a ≤ b
no_more a b h = omega arith

module _ (l name arity kind : ℕ) (t t' : List ℕ) (low : l + 1 < levels) (b : Began t t' l name arity kind) where
  no_code : end_of_code t' ≤ start_of_code t' (suc l)
  unfolding ctx_at chunk_at
  no_code = no_more (end_of_code t') (start_of_code t' (suc l)) (sym (length_row (λ i. get_or [] (start_of_code t' (suc l) + i) 0) (end_of_code t' - start_of_code t' (suc l))) ∙ ap
      (λ (c : CompilerCtx). length c.chunk.ops) (b.fresh [] []))

  no_runs : end_of_runs t' ≤ start_of_runs t' (suc l)
  unfolding ctx_at chunk_at
  no_runs = no_more (end_of_runs t') (start_of_runs t' (suc l)) (sym (length_row _ (end_of_runs t' - start_of_runs t' (suc l))) ∙ ap (λ (c : CompilerCtx). length c.chunk.spans) (b.fresh [] []))

-- ## The whole

module _ (l kind name : ℕ) (params : List ℕ) (span : Span) (t t₁ : List ℕ) (low : l + 1 < levels) (few : length params ≤ 255) (b : Began t t₁ l name (length params) kind) where
  abbrev whole : Compile Unit
  whole = open_function (type_of kind) name params span

  abbrev first : Compile Unit
  first = declare_named (slot_zero (type_of kind) name) span

  begun : Entered l name (length params) kind t t₁
  begun = entered l name (length params) kind t t₁ low b

  begun_is : (code spans : List ℕ) (rest : Rest) → whole (view (mem t code spans) l rest) ≡ (first >> declare_params params span) (view (mem t₁ code spans) (suc l) rest)
  unfolding view depth_at ctx_at
  begun_is code spans rest = open_is (type_of kind) name params span (view (mem t code spans) l rest) few (begun.comes code spans rest)

  pub opened_stop : (n : ℕ) {k : ℕ} {t₂ : List ℕ} {r : Step} {x : Why} → Named (suc l) k first t₁ t₂ r → r ≡ Err x → FunctionOpenedAs l n whole t t₂ r
  opened_stop n {t₂ = t₂} d q =
      subst (λ (s : Step). FunctionOpenedAs l n whole t t₂ s) (sym q)
      (λ code spans rest. begun_is code spans rest ∙ seq_err first (view (mem t₁ code spans) (suc l) rest) _ (named_stop d q code spans rest))

  module _ {t₂ : List ℕ} (f : Locally (suc l) first t₁ t₂) where
    then_is : (code spans : List ℕ) (rest : Rest) → whole (view (mem t code spans) l rest) ≡ declare_params params span (view (mem t₂ code spans) (suc l) rest)
    then_is code spans rest = begun_is code spans rest ∙ seq_ok first (view (mem t₁ code spans) (suc l) rest) _ (f.comes code spans rest)

    inside : {t₃ : List ℕ} → Locally (suc l) (declare_params params span) t₂ t₃ → Inside l whole t t₃
    unfolding depth_at
    inside {t₃} g =
        let kp : Kept (suc l * level_words) (suc l * level_words + upvalues_place) t₁ t₃ = kept_on (omega arith) (omega arith) f.kept g.kept in
        let kp' : Kept (suc l * level_words + 0) (suc l * level_words + upvalues_place) t₁ t₃ = record { below = λ i h. kp.below i (omega arith); above = kp.above } in
        record {
          fit = λ {limit} code spans h. (ahead_kept t₁ code spans t₃ (suc l) limit 0 upvalues_place (begun.fit code spans h) g.wf kp' (omega arith)).fit;
          comes = λ code spans rest. then_is code spans rest ∙ g.comes code spans rest;
          deep = λ code spans. kp.above (suc l * level_words + depth_place) (omega arith) ∙ begun.deep code spans;
          kept = kept_on (omega arith) (omega arith) b.kept kp;
          from = omega (arith, no_code l name (length params) kind t t₁ low b, b.kept.above code_end_at (omega arith), kp.above (suc l * level_words + code_from_place) (omega arith));
          runs_from = omega (arith, no_runs l name (length params) kind t t₁ low b, b.kept.above runs_end_at (omega arith), kp.above (suc l * level_words + runs_from_place) (omega arith));
        }

    last_as : (n : ℕ) (t₃ : List ℕ) (r : Step) → NamedAs (suc l) n (declare_params params span) t₂ t₃ r → FunctionOpenedAs l n whole t t₃ r
    last_as n t₃ (Ok v) d = (inside d.0, d.1)
    last_as n t₃ (Err x) d = λ code spans rest. then_is code spans rest ∙ d code spans rest

  pub opened_last : {n k v : ℕ} {t₂ t₃ : List ℕ} {r r' : Step} → Named (suc l) k first t₁ t₂ r → r ≡ Ok v → Named (suc l) n (declare_params params span) t₂ t₃ r'
      → FunctionOpenedAs l n whole t t₃ r'
  opened_last {n} {t₃ = t₃} {r' = r'} d q e = last_as (named_on d q) n t₃ r' e.does

-- ## From the record's fields

few_are : {n count w : ℕ} → n ≡ w → count ≡ w → count ≤ 255 → count % 256 ≡ n
few_are {n} {count} {w} p q h = let b : count < 256 = omega arith in omega (arith, mod-eq_of_lt b)

module _ (l kind : ℕ) (tree : List ℕ) (at : ℕ) (span : Span) (t : List ℕ) where
  -- what is read there
  abbrev read : List ℕ → ℕ → Type 0
  read params mid = names_at tree (TreeForm at) (word16 tree (at + 12)) (at + 14) ≡ got params mid

  module _ (count : ℕ) (is : count ≡ word16 tree (at + 12)) where
    count_is : {params : List ℕ} {mid : ℕ} → read params mid → length params ≡ count
    count_is r = names_length tree (word16 tree 2) (TreeForm at) (word16 tree (at + 12)) (at + 14) r ∙ sym is

    pub too_many : 255 < count → FunctionOpened l kind tree at span t t (Err (too_many_params l span))
    unfolding refusal_of
    too_many h = record {
      did = λ params mid r code spans rest.
          open_many (type_of kind) (word16 tree (at + 10)) params span (view (mem t code spans) l rest) (let e = count_is r in omega arith)
          ∙ ap err (stopped_in t code spans rest _ refl);
    }

    module _ (name : ℕ) (named : name ≡ word16 tree (at + 10)) (t₁ : List ℕ) (low : l + 1 < levels) (few : count ≤ 255) (b : Began t t₁ l name (count % 256) kind) where
      begun_as : {params : List ℕ} {mid : ℕ} → read params mid → Began t t₁ l (word16 tree (at + 10)) (length params) kind
      begun_as {params} r =
          subst (λ (j : ℕ). Began t t₁ l j (length params) kind) named
          (subst (λ (j : ℕ). Began t t₁ l name j kind) (few_are {n = length params} {count = count} {w = count} (count_is r) refl few) b)

      few_as : {params : List ℕ} {mid : ℕ} → read params mid → length params ≤ 255
      few_as r = let e = count_is r in omega arith

      first_as : {k own : ℕ} {t₂ : List ℕ} {a : Step} → own ≡ slot_zero (type_of kind) name → Named (l + 1) k (declare_named own span) t₁ t₂ a
          → Named (suc l) k (declare_named (slot_zero (type_of kind) (word16 tree (at + 10))) span) t₁ t₂ a
      first_as {k} {own} {t₂} {a} z d =
          subst (λ (j : ℕ). Named (suc l) k (declare_named j span) t₁ t₂ a) (z ∙ ap (slot_zero (type_of kind)) named)
          (subst (λ (j : ℕ). Named j k (declare_named own span) t₁ t₂ a) (add-one l) d)

      module _ {k own : ℕ} {t₂ : List ℕ} {a : Step} (z : own ≡ slot_zero (type_of kind) name) (d : Named (l + 1) k (declare_named own span) t₁ t₂ a) where
        pub first_stop : {x : Why} → a ≡ Err x → FunctionOpened l kind tree at span t t₂ a
        first_stop q = record { did = λ params mid r. opened_stop l kind (word16 tree (at + 10)) params span t t₁ low (few_as r) (begun_as r) mid (first_as z d) q }

        pub first_wf : {v : ℕ} → a ≡ Ok v → Wf t₂
        first_wf q = (named_on d q).wf

        pub params_last : {v : ℕ} {t₃ : List ℕ} {r : Step} → a ≡ Ok v → ParamsDeclared (l + 1) tree count (at + 14) span t₂ t₃ r → FunctionOpened l kind tree at span t t₃ r
        params_last {t₃ = t₃} {r = r} q p = record {
          did = λ params mid e.
              opened_last l kind (word16 tree (at + 10)) params span t t₁ low (few_as e) (begun_as e) (first_as z d) q
              (subst (λ (j : ℕ). Named j mid (declare_params params span) t₂ t₃ r) (add-one l)
              (p.did (TreeForm at) params mid (ap (λ (j : ℕ). names_at tree (TreeForm at) j (at + 14)) is ∙ e)));
        }

-- the parameters are there
pub params_there : (tree : List ℕ) (at : ℕ) {count : ℕ} → count ≡ word16 tree (at + 12) → FunHead tree at → NamesThere tree count (at + 14)
params_there tree at q h = record { fault = TreeForm at; names = h.params; next = h.mid; is = ap (λ (j : ℕ). names_at tree (TreeForm at) j (at + 14)) q ∙ h.row_is }

-- what it is to begin a function says of the number nothing but what kind it is
pub of_kind : (l j k : ℕ) (tree : List ℕ) (at : ℕ) (span : Span) (t t' : List ℕ) (r : Step) → type_of j ≡ type_of k → FunctionOpened l j tree at span t t' r → FunctionOpened l k tree at span t t' r
of_kind l j k tree at span t t' r e h = record {
  did = λ params mid q. subst (λ (type : FunctionType). FunctionOpenedAs l mid (open_function type (word16 tree (at + 10)) params span) t t' r) e (h.did params mid q);
}
