-- Names: where one is found, and the variable that it stands for.
use mathlib.Core.Path.{◌≡◌, refl, sym, ap, ap₂, subst, ◌∙◌}
use mathlib.Core.Bool.{Bool, true, false, not, ◌&&◌}
use mathlib.Core.List.{List, ◌∷◌, []}
use Prim.Native.Nat.{ℕ, suc, ◌<◌}
use native.Mathlib.Omega.{arith}
use lib.ListN.{length}
use lib.Dec.{eqb}
use borrow.Author.Tests.{ne_eqb}
use Rattle.rules.specs.Tree.{this_name}
use Rattle.rules.specs.declared.Span.{Span}
use Rattle.rules.specs.declared.Refusal.TheVariants.{ThisOutsideClass}
use Rattle.rules.specs.Compiler.{Compiler, ok, go_on, ◌>>=◌, ◌>>◌, return, refuse, need, get, the, put_ctxs, Found, at_slot, uninitialized, no_local, find_local, Resolved, resolve_upvalue, Place, local_at, upvalue_at, global_named, resolved, resolve, emit_op_u8, emit_op_constant, get_place, set_place, get_variable}
use Rattle.rules.specs.Chunk.{CS}
use Rattle.state.specs.Layout.{levels, code_end_at, runs_end_at, end_of_code, end_of_runs, ctx_at, parents_of, depth_place, name_place, word}
use Rattle.state.specs.Meaning.{found, Looked, up_of, Captured}
use Rattle.state.specs.declared.Unready.{Unready}
use Rattle.state.specs.declared.Uncaptured.{Uncaptured}
use Rattle.state.specs.declared.Uncaptured.TheVariants as uncaptured
use Rattle.steps.specs.View.{Mem, mem, t_of, Rest, view, top_class, Agrees, Fit, steady, Gave, Refused, DidAs, Did, PlacedAs, Placed}
use Rattle.steps.specs.declared.Place.{Place as Spot}
use Rattle.steps.specs.declared.Place.TheVariants.{Local, Upvalue, Global}
use Rattle.steps.specs.Why.{Step}
use Rattle.std.specs.Prelude.{Option, Some, None, Result, Ok, Err}
use Rattle.steps.proofs.Steps.{refuses_in}
use Rattle.steps.proofs.Views.{still_agrees, ahead_named}
use Rattle.steps.proofs.Jumps.{ahead_none}
use Rattle.steps.specs.declared.Why.{Why}
use Rattle.step_names.specs.Access.{op_of, access_place}
use Rattle.step_names.specs.declared.Access.{Access}
use Rattle.step_names.specs.declared.Access.TheVariants.{Get, Set}
use Rattle.steps.specs.Why.{access_inside_initializer, this_outside_class, too_many_upvalues, refusal_of, told}

resolve_is : (nm : ℕ) (span : Span) (x : Compiler) (f : Found) (u : Resolved) → find_local nm x.ctx.locals ≡ f → resolve_upvalue nm span x.ctx
    x.parents ≡ u → resolve nm span x ≡ resolved f u nm span x
unfolding resolve ◌>>=◌ get go_on
resolve_is nm span x f u p q = ap₂ (λ (f : Found) (u : Resolved). resolved f u nm span x) p q

abbrev pub place_of : Spot → Place
place_of (Local i) = local_at i
place_of (Upvalue i) = upvalue_at i
place_of Global = global_named

-- a place that is found without a change
stays : {class limit l : ℕ} (nm : ℕ) (span : Span) (m : Mem) (v : Place) → Fit m l limit →
    ((rest : Rest) → resolve nm span (view m l rest) ≡ ok v (view m l rest)) → Gave class limit l steady (resolve nm span) v m m
stays nm span m v fit h = record { comes = λ rest _. h rest; agrees = λ rest q. q; ahead = ahead_none fit }

module _ (l nm : ℕ) (span : Span) (t t₁ : List ℕ) (s : Result (Option ℕ) Unready) (res : Looked t t₁ l nm false s) where
  finds : (x : Result (Option ℕ) Unready) → s ≡ x → (code spans : List ℕ) (rest : Rest) → find_local nm (view (mem t code spans) l rest).ctx.locals ≡ found x
  unfolding view ctx_at
  finds x e code spans rest = sym res.answer ∙ ap found e

  pub at_local : (i : ℕ) → s ≡ Ok (Some i) → Placed l nm span t t₁ (Ok (Local i))
  unfolding resolved return
  at_local i e = record {
    gives = λ class limit code spans fit.
        subst (λ (x : List ℕ). Gave class limit l steady (resolve nm span) (local_at i) (mem t code spans) (mem x code spans)) (sym (res.unmarked refl))
        (stays nm span (mem t code spans) (local_at i) fit (λ rest. resolve_is nm span (view (mem t code spans) l rest) (at_slot i) _ (finds (Ok (Some i)) e code spans rest) refl));
  }

  pub at_unready : {e : Unready} → s ≡ Err e → Placed l nm span t t₁ (Err (access_inside_initializer l span nm))
  unfolding resolved refuse refusal_of
  at_unready e = record {
    gives = λ class limit code spans fit. refuses_in (access_inside_initializer l span nm) refl t₁ (ap (λ (x : List ℕ). word x l name_place) (res.unmarked refl))
        (λ rest _. resolve_is nm span (view (mem t code spans) l rest) uninitialized _ (finds (Err _) e code spans rest) refl);
  }

  module _ (e : s ≡ Ok None) (t₂ : List ℕ) (u : Result (Option ℕ) Uncaptured) (cap₁ : Captured t₁ t₂ l nm u) where
    cap : Captured t t₂ l nm u
    cap = subst (λ (x : List ℕ). Captured x t₂ l nm u) (res.unmarked refl) cap₁

    outer : (y : Result (Option ℕ) Uncaptured) → u ≡ y → (code spans : List ℕ) (rest : Rest) → resolve nm span (view (mem t code spans) l rest) ≡ resolved no_local
        (up_of span nm y (ctx_at t₂ code spans l (end_of_code t) (end_of_runs t)) (parents_of t₂ code spans l)) nm span (view (mem t code spans) l rest)
    unfolding view
    outer y q code spans rest =
        resolve_is nm span (view (mem t code spans) l rest) no_local _ (finds (Ok None) e code spans rest)
        (sym (cap.does span code spans (end_of_code t) (end_of_runs t)) ∙ ap (λ (y : Result (Option ℕ) Uncaptured). up_of span nm y (ctx_at t₂ code spans l (end_of_code t) (end_of_runs t)) (parents_of t₂ code spans l)) q)

    pub at_upvalue : (i : ℕ) → l < levels → u ≡ Ok (Some i) → Placed l nm span t t₂ (Ok (Upvalue i))
    unfolding resolved return put_ctxs ◌>>◌ go_on view
    at_upvalue i low q = record {
      gives = λ class limit code spans fit.
          let ce : end_of_code t₂ ≡ end_of_code t = cap.kept.above code_end_at (omega arith) in
          let re : end_of_runs t₂ ≡ end_of_runs t = cap.kept.above runs_end_at (omega arith) in
          let c = ap₂ (ctx_at t₂ code spans l) ce re in
          record {
            comes = λ rest _. outer (Ok (Some i)) q code spans rest ∙ ap (ok (upvalue_at i))
                (sym (λ j. record { ctx = c j; parents = parents_of t₂ code spans l; class_ctx = rest.classes; functions = rest.functions }));
            agrees = λ rest h. still_agrees (cap.kept.above _ (omega arith)) h;
            ahead = ahead_named steady t code spans t₂ l limit fit cap.wf (cap.rest l depth_place (omega arith) (omega arith) (omega arith))
                (λ o a b. cap.rest l o (omega arith) (omega arith) (omega arith)) (λ k o a b d. cap.rest k o (omega arith) (omega arith) (omega arith)) (λ j a. cap.kept.above j (omega arith));
          };
    }

    pub at_global : u ≡ Ok None → Placed l nm span t t₂ (Ok Global)
    unfolding resolved return
    at_global q = record {
      gives = λ class limit code spans fit.
          subst (λ (x : List ℕ). Gave class limit l steady (resolve nm span) global_named (mem t code spans) (mem x code spans)) (sym (cap.quiet q))
          (stays nm span (mem t code spans) global_named fit (λ rest. outer (Ok None) q code spans rest));
    }

    named : l < levels → word t₂ l name_place ≡ word t l name_place
    named low = cap.rest l name_place (omega arith) (omega arith) (omega arith)

    pub at_outer_unready : u ≡ Err uncaptured.Unready → Placed l nm span t t₂ (Err (access_inside_initializer l span nm))
    unfolding resolved refuse refusal_of
    at_outer_unready q = record { gives = λ class limit code spans fit. refuses_in (access_inside_initializer l span nm) refl t₂ (named fit.low) (λ rest _. outer (Err uncaptured.Unready) q code spans rest) }

    pub at_full : u ≡ Err uncaptured.Full → Placed l nm span t t₂ (Err (too_many_upvalues l span))
    unfolding resolved refuse refusal_of
    at_full q = record { gives = λ class limit code spans fit. refuses_in (too_many_upvalues l span) refl t₂ (named fit.low) (λ rest _. outer (Err uncaptured.Full) q code spans rest) }

-- what is known of a name that was looked for
module _ {l limit nm : ℕ} {span : Span} {t code spans t' : List ℕ} (fit : Fit (mem t code spans) l limit) {r : Result Spot Why} (p : Placed l nm span t t' r) where
  placed_as : (class : ℕ) (x : Result Spot Why) → r ≡ x → PlacedAs l nm span t t' class limit code spans x
  placed_as class x q = subst (λ (x : Result Spot Why). PlacedAs l nm span t t' class limit code spans x) q (p.gives class limit code spans fit)

  pub is_at : (class : ℕ) (x : Spot) → r ≡ Ok x → Gave class limit l steady (resolve nm span) (place_of x) (mem t code spans) (mem t' code spans)
  is_at class (Local i) q = placed_as class (Ok (Local i)) q
  is_at class (Upvalue i) q = placed_as class (Ok (Upvalue i)) q
  is_at class Global q = placed_as class (Ok Global) q

  pub is_nowhere : (class : ℕ) (x : Why) → r ≡ Err x → Refused class l (resolve nm span) (mem t code spans) (told t' x)
  is_nowhere class x q = placed_as class (Err x) q

-- ## What is emitted there

pub emits_local : (a : Access) (limit nm : ℕ) (span : Span) {b i : ℕ} {x : Spot} → b ≡ op_of a x → x ≡ Local i → emit_op_u8 limit b i span ≡ access_place a limit (local_at i) nm span
unfolding get_place set_place
emits_local Get limit nm span {i = i} e q = ap (λ (b : ℕ). emit_op_u8 limit b i span) (e ∙ ap (op_of Get) q)
emits_local Set limit nm span {i = i} e q = ap (λ (b : ℕ). emit_op_u8 limit b i span) (e ∙ ap (op_of Set) q)

pub emits_upvalue : (a : Access) (limit nm : ℕ) (span : Span) {b i : ℕ} {x : Spot} → b ≡ op_of a x → x ≡ Upvalue i → emit_op_u8 limit b i span ≡ access_place a limit (upvalue_at i) nm span
unfolding get_place set_place
emits_upvalue Get limit nm span {i = i} e q = ap (λ (b : ℕ). emit_op_u8 limit b i span) (e ∙ ap (op_of Get) q)
emits_upvalue Set limit nm span {i = i} e q = ap (λ (b : ℕ). emit_op_u8 limit b i span) (e ∙ ap (op_of Set) q)

pub emits_global : (a : Access) (limit nm : ℕ) (span : Span) {b : ℕ} {x : Spot} → b ≡ op_of a x → x ≡ Global → emit_op_constant limit b (CS nm) span ≡ access_place a limit global_named nm span
unfolding get_place set_place
emits_global Get limit nm span e q = ap (λ (b : ℕ). emit_op_constant limit b (CS nm) span) (e ∙ ap (op_of Get) q)
emits_global Set limit nm span e q = ap (λ (b : ℕ). emit_op_constant limit b (CS nm) span) (e ∙ ap (op_of Set) q)

-- ## `this`, which a class must be around

no_class : (cs : List Bool) → eqb (length cs) 0 ≡ eqb (top_class cs) 0
no_class [] = refl
no_class (true ∷ cs) = ne_eqb (suc (length cs)) 0 (λ (z : suc (length cs) ≡ 0). omega arith)
no_class (false ∷ cs) = ne_eqb (suc (length cs)) 0 (λ (z : suc (length cs) ≡ 0). omega arith)

module _ (limit name : ℕ) (span : Span) (class : ℕ) where
  variable_is : (b : Bool) → (eqb name this_name && eqb class 0) ≡ b → (l : ℕ) (m : Mem) (rest : Rest) → Agrees class m rest → get_variable limit name span
      (view m l rest) ≡ go_on (need (not b) (ThisOutsideClass span) (view m l rest)) (λ _. resolve name span >>= λ place. get_place limit place name span)
  unfolding get_variable ◌>>=◌ ◌>>◌ the go_on view
  variable_is b e l (mem t code spans) rest h =
      ap (λ (b : Bool). go_on (need (not b) (ThisOutsideClass span) (view (mem t code spans) l rest)) (λ _. resolve name span >>= λ place. get_place limit place name span))
      (ap (λ (x : Bool). eqb name this_name && x) (no_class rest.classes ∙ ap (λ (k : ℕ). eqb k 0) h.innermost) ∙ e)

  pub lost : (eqb name this_name && eqb class 0) ≡ true → {l : ℕ} (m : Mem) → Refused class l (get_variable limit name span) m (told (t_of m) (this_outside_class l span))
  unfolding need go_on refusal_of
  lost e {l} m = refuses_in (this_outside_class l span) refl (t_of m) refl (λ rest h. variable_is true e l m rest h)

  module _ (e : (eqb name this_name && eqb class 0) ≡ false) where
    kept_as : {l n : ℕ} {before now : Mem} (r : Step) → Did class limit l n steady (resolve name span >>= λ place. get_place limit place name span) before now r
        → DidAs class limit l n steady (get_variable limit name span) before now r
    unfolding need go_on
    kept_as {l} {before = before} (Ok v) d = (
      record {
        comes = λ rest h. variable_is false e l before rest h ∙ d.does.0.comes rest h;
        agrees =
            d.does.0.agrees;
        ahead = d.does.0.ahead;
      },
      d.does.1,
    )
    kept_as {l} {before = before} (Err x) d = record { refuses = λ rest h. variable_is false e l before rest h ∙ d.does.refuses rest h }

    pub kept_on : {l n : ℕ} {before now : Mem} {r : Step} → Did class limit l n steady (resolve name span >>= λ place. get_place limit place name span) before
        now r → Did class limit l n steady (get_variable limit name span) before now r
    kept_on {r = r} d = record { does = kept_as r d }
