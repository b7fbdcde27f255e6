-- The ways out of resolve_upvalue, as facts of lists.
use Prim.Native.Nat.{ℕ, suc, ◌+◌, ◌*◌, ◌-◌, ◌≤◌, ◌<◌}
use native.Mathlib.Omega.{arith}
use native.Mathlib.Nat.{eq-or-lt_of_le}
use mathlib.Core.Path.{◌≡◌, refl, sym, ap, ap₂, ◌∙◌, subst}
use mathlib.Core.List.{List, ◌∷◌}
use mathlib.Core.Bool.{true, false}
use mathlib.Core.Logic.{⊎_elim}
use lib.ListN.{get_or}
use Rattle.rules.specs.declared.Span.{Span}
use Rattle.rules.specs.Compiler.{Local, Upvalue, CompilerCtx, with_locals, Found, no_local, find_local, capture, Resolved, add_upvalue, through, further_out, resolve_upvalue}
use Rattle.state.specs.Layout.{levels, locals_of, start_of_code, start_of_runs, ctx_at, parents_of, Wf, upvalues_place, constants_place, depth_place, code_from_place, runs_from_place}
use Rattle.state.specs.Layout.{level_words, local_count_place, level_used}
use Rattle.state.specs.Meaning.{Kept, found, Looked, up_of, Added, Captured}
use Rattle.state.specs.declared.Unready.{Unready}
use Rattle.state.specs.declared.Uncaptured.{Uncaptured}
use Rattle.state.specs.declared.Uncaptured.TheVariants as uncaptured
use Rattle.std.specs.Prelude.{Option, Some, None, Result, Ok, Err}
use Rattle.state.proofs.Laws.{kept_off, ctx_same, ctx_paths, chunk_same, upvalues_same, parents_named}

-- a context that a change keeps off, and those around it
ctx_off : (lo hi : ℕ) (t t' : List ℕ) (k : ℕ) → Kept lo hi t t' → Wf t → k < levels →
    ((o : ℕ) → o < level_used → lo ≤ k * level_words + o → k * level_words + o < hi → ⊥) → (code spans : List ℕ) (ce re : ℕ) → ctx_at t' code spans k ce re ≡ ctx_at t code spans k ce re
ctx_off lo hi t t' k kp wf low off code spans ce re = ctx_same t code spans t' code spans k ce re wf low (λ o h. kept_off lo hi t t' _ kp (λ x y. off o h x y)) (λ i h. refl) (λ i h. refl)

parents_off : (lo hi : ℕ) (t t' : List ℕ) (k : ℕ) → Kept lo hi t t' → Wf t → k < levels → k * level_words ≤ lo →
    ((o : ℕ) → code_from_place ≤ o → o ≤ runs_from_place → lo ≤ k * level_words + o → k * level_words + o < hi → ⊥) → (code spans : List ℕ) → parents_of t' code spans k ≡ parents_of t code spans k
parents_off lo hi t t' k kp wf low above off code spans =
    parents_named t t' k wf low (λ j o a b. kp.below _ (omega arith)) (kept_off lo hi t t' _ kp (λ x y. off code_from_place (omega arith) (omega arith) x y))
    (kept_off lo hi t t' _ kp (λ x y. off runs_from_place (omega arith) (omega arith) x y)) code spans

-- the script has nothing around it
pub outermost : (t : List ℕ) (nm : ℕ) → Wf t → Captured t t 0 nm (Ok None)
unfolding parents_of resolve_upvalue
outermost t nm wf = record { does = λ span code spans ce re. refl; quiet = λ e. refl; kept = record { below = λ j l. refl; above = λ j l. refl }; rest = λ j o a b c. refl; wf = wf }

-- what was not found further out is not found
stays : (span : Span) (nm : ℕ) (r : Result (Option ℕ) Uncaptured) → ((i : ℕ) → r ≡ Ok (Some i) → ⊥) → (c p x c' : CompilerCtx) (a y ps' : List CompilerCtx) → up_of span nm r c' ps' ≡ through
    no_local (up_of span nm r x y) nm span c p a
unfolding through further_out
stays span nm (Ok (Some i)) h c p x c' a y ps' = absurd (h i refl)
stays span nm (Ok None) h c p x c' a y ps' = refl
stays span nm (Err uncaptured.Unready) h c p x c' a y ps' = refl
stays span nm (Err uncaptured.Full) h c p x c' a y ps' = refl

module _ (t t₁ : List ℕ) (k nm : ℕ) (low : suc k < levels) (wf : Wf t) where
  -- the context around
  abbrev around : (t code spans : List ℕ) → CompilerCtx
  around t code spans = ctx_at t code spans k (start_of_code t (suc k)) (start_of_runs t (suc k))

  step : (span : Span) (code spans : List ℕ) (ce re : ℕ) → resolve_upvalue nm span (ctx_at t code spans (suc k) ce re) (parents_of t code spans (suc k))
      ≡ through (find_local nm (locals_of t k)) (resolve_upvalue nm span (around t code spans) (parents_of t code spans k)) nm span
      (ctx_at t code spans (suc k) ce re) (around t code spans) (parents_of t code spans k)
  unfolding parents_of resolve_upvalue ctx_at
  step span code spans ce re = refl

  answered : (r : Result (Option ℕ) Unready) → Looked t t₁ k nm true r → (span : Span) (code spans : List ℕ) (ce re : ℕ) → resolve_upvalue nm span (ctx_at t code spans (suc k) ce re) (parents_of t code spans (suc k))
      ≡ through (found r) (resolve_upvalue nm span (around t code spans) (parents_of t code spans k)) nm span (ctx_at t code spans (suc k) ce re) (around t code spans) (parents_of t code spans k)
  answered r res span code spans ce re = step span code spans ce re ∙ ap
      (λ (f : Found). through f (resolve_upvalue nm span (around t code spans) (parents_of t code spans k)) nm span (ctx_at t code spans (suc k) ce re)
      (around t code spans) (parents_of t code spans k)) (sym res.answer)

  module _ (r : Result (Option ℕ) Unready) (res : Looked t t₁ k nm true r) where
    top_kept : (code spans : List ℕ) (ce re : ℕ) → ctx_at t₁ code spans (suc k) ce re ≡ ctx_at t code spans (suc k) ce re
    top_kept = ctx_off _ _ t t₁ (suc k) res.kept wf low (λ o h x y. omega arith)

    -- the enclosing function has other locals at most
    marked_ctx : (ls : List Local) → locals_of t₁ k ≡ ls → (code spans : List ℕ) (ce re : ℕ) → ctx_at t₁ code spans k ce re ≡ with_locals (ctx_at t code spans k ce re) ls
    unfolding ctx_at
    marked_ctx ls e code spans ce re =
        let at : (o : ℕ) → local_count_place ≤ o → get_or t₁ (k * level_words + o) 0 ≡ get_or t (k * level_words + o) 0 = λ o h. res.kept.above _ (omega arith) in
        ctx_paths t code spans t₁ code spans k ce re ce re (λ o x y. at o (omega arith))
        (chunk_same t code spans t₁ code spans k ce re (wf.few_constants k (omega arith)) (λ o x y z. at o (omega arith)) (λ i h. refl) (λ i h. refl))
        e (upvalues_same t t₁ k (wf.few_upvalues k (omega arith)) (λ o x y. at o (omega arith))) (at depth_place (omega arith))

    outer_kept : (code spans : List ℕ) → parents_of t₁ code spans k ≡ parents_of t code spans k
    outer_kept = parents_off _ _ t t₁ k res.kept wf (omega arith) (omega arith) (λ o a b x y. omega arith)

    from_kept : (o : ℕ) → o < level_used → get_or t₁ (suc k * level_words + o) 0 ≡ get_or t (suc k * level_words + o) 0
    from_kept o h = res.kept.above _ (omega arith)

  -- the contexts around, after an upvalue is added above them
  around_kept : (t₂ t₃ : List ℕ) → Kept (suc k * level_words + upvalues_place) (suc k * level_words + constants_place) t₂ t₃ → Wf t₂ → (code spans : List ℕ) →
      parents_of t₃ code spans (suc k) ≡ parents_of t₂ code spans (suc k)
  around_kept t₂ t₃ kp wf₂ = parents_off _ _ t₂ t₃ (suc k) kp wf₂ low (omega arith) (λ o a b x y. omega arith)

  -- the enclosing function has the local
  pub inner : (t₂ : List ℕ) (i : ℕ) (r : Result (Option ℕ) Uncaptured) → Looked t t₁ k nm true (Ok (Some i)) → Added t₁ t₂ (suc k) (record { idx = i; is_local = true }) r → Captured t t₂ (suc k) nm r
  unfolding through further_out parents_of ctx_at
  inner t₂ i r res add = record {
    does = λ span code spans ce re.
        let u : Upvalue = record { idx = i; is_local = true } in
        let cf : start_of_code t₁ (suc k) ≡ start_of_code t (suc k) = from_kept (Ok (Some i)) res code_from_place (omega arith) in
        let rf : start_of_runs t₁ (suc k) ≡ start_of_runs t (suc k) = from_kept (Ok (Some i)) res runs_from_place (omega arith) in
        let ps : parents_of t₂ code spans (suc k) ≡ with_locals (around t code spans) (capture nm (locals_of t k)) ∷ parents_of t code spans k =
        around_kept t₁ t₂ add.kept res.wf code spans ∙ ap₂ ◌∷◌
        (ap₂ (ctx_at t₁ code spans k) cf rf ∙ marked_ctx (Ok (Some i)) res _ res.locals code spans _ _) (outer_kept (Ok (Some i)) res code spans) in
        ap (up_of span nm r (ctx_at t₂ code spans (suc k) ce re)) ps
        ∙ add.does span nm code spans ce re _
        ∙ ap (λ (c : CompilerCtx). add_upvalue u span c (with_locals (around t code spans) (capture nm (locals_of t k)) ∷ parents_of t code spans k)) (top_kept (Ok (Some i)) res code spans ce re)
        ∙ sym (answered (Ok (Some i)) res span code spans ce re);
    quiet = λ e. absurd (add.some e);
    kept = record { below = λ j l. omega arith; above = λ j l. add.kept.above j (omega arith) ∙ res.kept.above j (omega arith) };
    rest = λ j o a b c. kept_off _ _ t₁ t₂ _ add.kept (λ x y. omega arith) ∙ kept_off _ _ t t₁ _ res.kept (λ x y. omega arith);
    wf = add.wf;
  }

  pub unready : (e : Unready) → Looked t t₁ k nm true (Err e) → Captured t t₁ (suc k) nm (Err uncaptured.Unready)
  unfolding through further_out
  unready e res = record {
    does = λ span code spans ce re. sym (answered (Err e) res span code spans ce re);
    quiet = λ e. let z : ◌≡◌ {A = ℕ} 0 1 = cc in absurd (omega arith);
    kept = record { below = λ j l. omega arith; above = λ j l. res.kept.above j (omega arith) };
    rest = λ j o a b c. kept_off _ _ t t₁ _ res.kept (λ x y. omega arith);
    wf = res.wf;
  }

  module _ (res : Looked t t₁ k nm true (Ok None)) (t₂ : List ℕ) (r : Result (Option ℕ) Uncaptured) (cap : Captured t₁ t₂ k nm r) where
    -- what the enclosing function's own search does
    rec : (span : Span) (code spans : List ℕ) (ce re : ℕ) → up_of span nm r (ctx_at t₂ code spans k ce re) (parents_of t₂ code spans k) ≡ resolve_upvalue nm span
        (ctx_at t code spans k ce re) (parents_of t code spans k)
    unfolding ctx_at
    rec span code spans ce re = cap.does span code spans ce re ∙ ap₂ (resolve_upvalue nm span) (marked_ctx (Ok None) res _ res.locals code spans ce re) (outer_kept (Ok None) res code spans)

    whole : (span : Span) (code spans : List ℕ) (ce re : ℕ) → resolve_upvalue nm span (ctx_at t code spans (suc k) ce re) (parents_of t code spans (suc k))
        ≡ through no_local (up_of span nm r (ctx_at t₂ code spans k (start_of_code t (suc k)) (start_of_runs t (suc k))) (parents_of t₂ code spans k)) nm span
        (ctx_at t code spans (suc k) ce re) (around t code spans) (parents_of t code spans k)
    whole span code spans ce re = answered (Ok None) res span code spans ce re
        ∙ ap (λ (x : Resolved). through no_local x nm span (ctx_at t code spans (suc k) ce re) (around t code spans) (parents_of t code spans k)) (sym (rec span code spans _ _))

    above₂ : (j : ℕ) → suc k * level_words ≤ j → get_or t₂ j 0 ≡ get_or t j 0
    above₂ j l = cap.kept.above j (omega arith) ∙ res.kept.above j (omega arith)

    top₂ : (code spans : List ℕ) (ce re : ℕ) → ctx_at t₂ code spans (suc k) ce re ≡ ctx_at t code spans (suc k) ce re
    top₂ code spans ce re = ctx_same t code spans t₂ code spans (suc k) ce re wf low (λ o h. above₂ _ (omega arith)) (λ i h. refl) (λ i h. refl)

    rest₂ : (j o : ℕ) → j ≤ suc k → constants_place ≤ o → o < level_words → get_or t₂ (j * level_words + o) 0 ≡ get_or t (j * level_words + o) 0
    rest₂ j o a b c =
        ⊎_elim (λ (e : j ≡ suc k). above₂ _ (omega arith)) (λ (l : j < suc k). cap.rest j o (omega arith) b c ∙ kept_off _ _ t t₁ _ res.kept (λ x y. omega arith)) (eq-or-lt_of_le a)

    pub not_found : ((i : ℕ) → r ≡ Ok (Some i) → ⊥) → Captured t t₂ (suc k) nm r
    not_found never = record {
      does = λ span code spans ce re. stays span nm r never _ _ _ _ _ _ _ ∙ sym (whole span code spans ce re);
      quiet = λ e. cap.quiet e ∙ res.quiet refl;
      kept = record { below = λ j l. omega arith; above = λ j l. above₂ j (omega arith) };
      rest = rest₂;
      wf = cap.wf;
    }

    pub further : (t₃ : List ℕ) (i : ℕ) (r' : Result (Option ℕ) Uncaptured) → r ≡ Ok (Some i) → Added t₂ t₃ (suc k) (record { idx = i; is_local = false }) r' → Captured t t₃ (suc k) nm r'
    unfolding through further_out parents_of
    further t₃ i r' e add = record {
      does = λ span code spans ce re.
          let u : Upvalue = record { idx = i; is_local = false } in
          let cf : start_of_code t₂ (suc k) ≡ start_of_code t (suc k) = above₂ _ (omega arith) in
          let rf : start_of_runs t₂ (suc k) ≡ start_of_runs t (suc k) = above₂ _ (omega arith) in
          let p : CompilerCtx = ctx_at t₂ code spans k (start_of_code t (suc k)) (start_of_runs t (suc k)) in
          let ps : parents_of t₃ code spans (suc k) ≡ p ∷ parents_of t₂ code spans k =
          around_kept t₂ t₃ add.kept cap.wf code spans ∙ ap (λ (x : CompilerCtx). x ∷ parents_of t₂ code spans k) (ap₂ (ctx_at t₂ code spans k) cf rf) in
          ap (up_of span nm r' (ctx_at t₃ code spans (suc k) ce re)) ps
          ∙ add.does span nm code spans ce re _
          ∙ ap (λ (c : CompilerCtx). add_upvalue u span c (p ∷ parents_of t₂ code spans k)) (top₂ code spans ce re)
          ∙ ap (λ (x : Result (Option ℕ) Uncaptured). through no_local (up_of span nm x p (parents_of t₂ code spans k)) nm span (ctx_at t code spans (suc k) ce re) (around t code spans) (parents_of t code spans k)) (sym e)
          ∙ sym (whole span code spans ce re);
      quiet = λ e. absurd (add.some e);
      kept = record { below = λ j l. omega arith; above = λ j l. add.kept.above j (omega arith) ∙ above₂ j (omega arith) };
      rest = λ j o a b c. kept_off _ _ t₂ t₃ _ add.kept (λ x y. omega arith) ∙ rest₂ j o a b c;
      wf = add.wf;
    }

-- the same, of a level that is not 0 and an answer that was told apart: what the code has
module _ (t t₁ : List ℕ) (l nm : ℕ) (nz : l ≡ 0 → ⊥) (low : l < levels) (wf : Wf t) (s : Result (Option ℕ) Unready) (res : Looked t t₁ (l - 1) nm true s) where
  up_one : l ≡ suc (l - 1)
  up_one = omega arith

  told : (x : Result (Option ℕ) Unready) → s ≡ x → Looked t t₁ (l - 1) nm true x
  told x e = subst (λ (x : Result (Option ℕ) Unready). Looked t t₁ (l - 1) nm true x) e res

  pub at_inner : (t₂ : List ℕ) (i : ℕ) (r : Result (Option ℕ) Uncaptured) → s ≡ Ok (Some i) → Added t₁ t₂ l (record { idx = i; is_local = true }) r → Captured t t₂ l nm r
  at_inner t₂ i r e add =
      subst (λ (m : ℕ). Captured t t₂ m nm r) (sym up_one)
      (inner t t₁ (l - 1) nm (omega arith) wf t₂ i r (told (Ok (Some i)) e) (subst (λ (m : ℕ). Added t₁ t₂ m (record { idx = i; is_local = true }) r) up_one add))

  pub at_unready : (u : Unready) → s ≡ Err u → Captured t t₁ l nm (Err uncaptured.Unready)
  at_unready u e = subst (λ (m : ℕ). Captured t t₁ m nm (Err uncaptured.Unready)) (sym up_one) (unready t t₁ (l - 1) nm (omega arith) wf u (told (Err u) e))

  module _ (e : s ≡ Ok None) (t₂ : List ℕ) (r : Result (Option ℕ) Uncaptured) (cap : Captured t₁ t₂ (l - 1) nm r) where
    pub at_not_found : ((i : ℕ) → r ≡ Ok (Some i) → ⊥) → Captured t t₂ l nm r
    at_not_found h = subst (λ (m : ℕ). Captured t t₂ m nm r) (sym up_one) (not_found t t₁ (l - 1) nm (omega arith) wf (told (Ok None) e) t₂ r cap h)

    pub at_found : (t₃ : List ℕ) (i : ℕ) (r' : Result (Option ℕ) Uncaptured) → r ≡ Ok (Some i) → Added t₂ t₃ l (record { idx = i; is_local = false }) r' → Captured t t₃ l nm r'
    at_found t₃ i r' q add =
        subst (λ (m : ℕ). Captured t t₃ m nm r') (sym up_one)
        (further t t₁ (l - 1) nm (omega arith) wf (told (Ok None) e) t₂ r cap t₃ i r' q
        (subst (λ (m : ℕ). Added t₂ t₃ m (record { idx = i; is_local = false }) r') up_one add))
