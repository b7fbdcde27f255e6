-- The image writer's words do not enter the state, and the function of a level in order can be put.
use mathlib.Core.Path.{◌≡◌, refl, ap₂, ◌∙◌}
use mathlib.Core.List.{List}
use Prim.Native.Nat.{ℕ, suc, ◌+◌, ◌*◌, ◌≤◌, ◌<◌}
use native.Mathlib.Omega.{arith}
use lib.ListN.{get_or}
use Rattle.rules.specs.Limits.{max_code}
use Rattle.state.specs.Layout.{levels, image_at, code_end_at, runs_end_at, end_of_code, end_of_runs, ctx_at, Wf, Coded, code_from_place, runs_from_place, level_words}
use Rattle.state.proofs.Laws.{ctx_same, parents_named}
use Rattle.steps.specs.View.{mem, Rest, view, Fit}
use Rattle.writer.specs.Put.{Closed}

-- ## What does not enter the state

module _ (t t' : List ℕ) (same : (i : ℕ) → i < image_at → get_or t' i 0 ≡ get_or t i 0) where
  word : (k o : ℕ) → k < levels → o < level_words → get_or t' (k * level_words + o) 0 ≡ get_or t (k * level_words + o) 0
  word k o a b = same _ (omega arith)

  coded_same : {code spans : List ℕ} {l limit : ℕ} → l < levels → Coded t code spans l limit → Coded t' code spans l limit
  coded_same low ok =
      let ce = same code_end_at (omega arith) in
      let re = same runs_end_at (omega arith) in
      record {
        room_code = ok.room_code;
        room_runs = ok.room_runs;
        within = omega (arith, ok.within);
        fewer = omega (arith, ok.fewer);
        fewer_at = λ k z. omega (arith, word k code_from_place (omega arith) (omega arith), word k runs_from_place (omega arith) (omega arith), ok.fewer_at k z);
        from_zero = word 0 code_from_place (omega arith) (omega arith) ∙ ok.from_zero;
        top = omega (arith, ok.top, word _ code_from_place low (omega arith));
        top_runs = omega (arith, ok.top_runs, word _ runs_from_place low (omega arith));
        order = λ k z. omega (arith, word k code_from_place (omega arith) (omega arith), word (suc k) code_from_place (omega arith) (omega arith), ok.order k z);
        order_runs = λ k z. omega (arith, word k runs_from_place (omega arith) (omega arith), word (suc k) runs_from_place (omega arith) (omega arith), ok.order_runs k z);
      }

  pub fit_same : {code spans : List ℕ} {l limit : ℕ} → Wf t' → Fit (mem t code spans) l limit → Fit (mem t' code spans) l limit
  fit_same wf fit = record { low = fit.low; wf = wf; coded = coded_same fit.low fit.coded }

  pub view_same : (code spans : List ℕ) (l : ℕ) (rest : Rest) → Wf t → l < levels → view (mem t' code spans) l rest ≡ view (mem t code spans) l rest
  unfolding view
  view_same code spans l rest wf low =
      let c = ap₂ (ctx_at t' code spans l) (same code_end_at (omega arith)) (same runs_end_at (omega arith))
      ∙ ctx_same t code spans t' code spans l (end_of_code t) (end_of_runs t) wf low (λ o h. word l o low (omega arith)) (λ i h. refl) (λ i h. refl) in
      let ps = parents_named t t' l wf low (λ k o a b. word k o (omega arith) (omega arith)) (word l code_from_place low (omega arith)) (word l runs_from_place low (omega arith)) code spans in
      λ i. record { ctx = c i; parents = ps i; class_ctx = rest.classes; functions = rest.functions }

-- ## A level's function can be put

pub can_put : {code spans t : List ℕ} {l limit : ℕ} → Fit (mem t code spans) l limit → limit ≤ max_code → Closed t code spans l
can_put fit h =
    let ok = fit.coded in
    record {
      low = fit.low;
      wf = fit.wf;
      code_order = ok.top;
      code_room = omega (arith, ok.within, ok.room_code);
      code_small = omega (arith, ok.within);
      runs_order = ok.top_runs;
      runs_room = omega (arith, ok.within, ok.room_runs, ok.fewer);
      runs_few = ok.fewer;
    }
