-- What a change of the areas is to the rules' state: which context it is, what stays, and how much code there is.
use mathlib.Core.Path.{◌≡◌, refl, sym, ap, ap₂, subst, ◌∙◌}
use mathlib.Core.List.{List, ◌∷◌, []}
use Prim.Native.Nat.{ℕ, zero, suc, ◌+◌, ◌*◌, ◌-◌, ◌≤◌, ◌<◌}
use native.Mathlib.Omega.{arith}
use native.Mathlib.Nat.{eq-or-lt_of_le}
use mathlib.Core.Logic.{⊎_elim}
use lib.ListN.{length, get_or}
use Rattle.rules.specs.declared.Refusal.{Refusal}
use Rattle.rules.specs.Chunk.{Chunk}
use Rattle.rules.specs.Compiler.{Local, CompilerCtx, Compiler, with_ctx, with_chunk, with_locals, with_scope_depth, open_code, stopped}
use Rattle.state.specs.Layout.{levels, code_end_at, runs_end_at, image_at, locals_of, start_of_code, start_of_runs, end_of_code, end_of_runs, chunk_at, ctx_at, parents_of, Wf, Coded, upvalues_place, constants_place, depth_place, code_from_place, runs_from_place, name_place, type_place, level_words, word}
use Rattle.state.specs.Meaning.{Kept}
use Rattle.state.proofs.Laws.{length_row, kept_off, ctx_paths, chunk_same, upvalues_same, locals_same, parents_named}
use Rattle.steps.specs.View.{Mem, mem, t_of, Rest, view, Agrees, Fit, code_len, depth_at, Turn, steady, Ahead}

-- ## How much code

ops_length : (t code spans : List ℕ) (l ce re : ℕ) → length (ctx_at t code spans l ce re).chunk.ops ≡ ce - start_of_code t l
unfolding ctx_at chunk_at
ops_length t code spans l ce re = length_row _ _

more_code : (x y : Compiler) → x.parents ≡ y.ctx ∷ y.parents → open_code x ≡ length x.ctx.chunk.ops + open_code y
unfolding open_code
more_code x y e = rw e

last_code : (x : Compiler) → x.parents ≡ [] → open_code x ≡ length x.ctx.chunk.ops + 0
unfolding open_code
last_code x e = rw e

abbrev at_level : (t code spans : List ℕ) → (l ce re : ℕ) → Rest → Compiler
at_level t code spans l ce re rest = record { ctx = ctx_at t code spans l ce re; parents = parents_of t code spans l; class_ctx = rest.classes; functions = rest.functions }

-- the code of the open functions, summed, ends where the innermost one's does
open_at : (t code spans : List ℕ) (rest : Rest) (l ce re : ℕ) → start_of_code t 0 ≡ 0 → ((k : ℕ) → k < l → start_of_code t k ≤ start_of_code t (suc k)) → start_of_code t l ≤ ce →
    open_code (at_level t code spans l ce re rest) ≡ ce
unfolding parents_of
open_at t code spans rest zero ce re z ord top = omega (arith, last_code (at_level t code spans zero ce re rest) refl, ops_length t code spans zero ce re)
open_at t code spans rest (suc l) ce re z ord top =
    omega (
      arith,
      more_code (at_level t code spans (suc l) ce re rest) (at_level t code spans l (start_of_code t (suc l)) (start_of_runs t (suc l)) rest) refl,
      ops_length t code spans (suc l) ce re,
      open_at t code spans rest l (start_of_code t (suc l)) (start_of_runs t (suc l)) z (λ k h. ord k (omega arith)) (ord l (omega arith)),
    )

pub open_is : (t code spans : List ℕ) (l limit : ℕ) (rest : Rest) → Coded t code spans l limit → open_code (view (mem t code spans) l rest) ≡ end_of_code t
unfolding view
open_is t code spans l limit rest ok = open_at t code spans rest l (end_of_code t) (end_of_runs t) ok.from_zero ok.order ok.top

pub view_len : (m : Mem) (l : ℕ) (rest : Rest) → length (view m l rest).ctx.chunk.ops ≡ code_len m l
unfolding view code_len
view_len (mem t code spans) l rest = ops_length t code spans l (end_of_code t) (end_of_runs t)

-- ## Which function is open

parents_length : (t code spans : List ℕ) (l : ℕ) → length (parents_of t code spans l) ≡ l
unfolding parents_of
parents_length t code spans zero = refl
parents_length t code spans (suc l) = ap suc (parents_length t code spans l)

-- a refusal names it, by any table that has its name
pub stopped_in : (t code spans : List ℕ) {l name : ℕ} (rest : Rest) (r : Refusal) → name ≡ word t l name_place →
    stopped r (view (mem t code spans) l rest) ≡ record { what = r; function = name; around = l }
unfolding view ctx_at
stopped_in t code spans {l} {name} rest r e = λ i. record { what = r; function = sym e i; around = parents_length t code spans l i }

-- ## What a step leaves alone

pub still_agrees : {class : ℕ} {before now : Mem} {rest : Rest} → get_or (t_of now) image_at 0 ≡ get_or (t_of before) image_at 0 → Agrees class before rest → Agrees class now rest
still_agrees e h = record { innermost = h.innermost; made = h.made ∙ sym e }

-- a change of the table that is neither a start of code or runs nor an end of them
module _ (e : Turn) (t code spans t' : List ℕ) (l limit : ℕ) (fit : Fit (mem t code spans) l limit) (wf' : Wf t')
    (deep : get_or t' (l * level_words + depth_place) 0 ≡ e.depth (get_or t (l * level_words + depth_place) 0))
    (head : (o : ℕ) → code_from_place ≤ o → o ≤ type_place → get_or t' (l * level_words + o) 0 ≡ get_or t (l * level_words + o) 0)
    (under : (k o : ℕ) → k < l → depth_place ≤ o → o ≤ type_place → get_or t' (k * level_words + o) 0 ≡ get_or t (k * level_words + o) 0)
    (ends : (i : ℕ) → suc l * level_words ≤ i → get_or t' i 0 ≡ get_or t i 0) where
  words : (k o : ℕ) → k ≤ l → code_from_place ≤ o → o ≤ type_place → get_or t' (k * level_words + o) 0 ≡ get_or t (k * level_words + o) 0
  words k o h a b = ⊎_elim (λ (q : k ≡ l). subst (λ (j : ℕ). get_or t' (j * level_words + o) 0 ≡ get_or t (j * level_words + o) 0) (sym q) (head o a b))
      (λ (q : k < l). under k o q (omega arith) b) (eq-or-lt_of_le h)

  coded_same : Coded t' code spans l limit
  coded_same =
      let ok' = fit.coded in
      let low = fit.low in
      let ce = ends code_end_at (omega arith) in
      let re = ends runs_end_at (omega arith) in
      record {
        room_code = ok'.room_code;
        room_runs = ok'.room_runs;
        within = omega (arith, ok'.within);
        fewer = omega (arith, ok'.fewer);
        fewer_at = λ k z. omega (arith, words k code_from_place z (omega arith) (omega arith), words k runs_from_place z (omega arith) (omega arith), ok'.fewer_at k z);
        from_zero = words 0 code_from_place (omega arith) (omega arith) (omega arith) ∙ ok'.from_zero;
        top = omega (arith, ok'.top, words l code_from_place (omega arith) (omega arith) (omega arith));
        top_runs = omega (arith, ok'.top_runs, words l runs_from_place (omega arith) (omega arith) (omega arith));
        order = λ k z. omega (arith, words k code_from_place (omega arith) (omega arith) (omega arith), words (suc k) code_from_place (omega arith) (omega arith) (omega arith), ok'.order k z);
        order_runs = λ k z. omega (
          arith,
          words k runs_from_place (omega arith) (omega arith) (omega arith),
          words (suc k) runs_from_place (omega arith)
              (omega arith) (omega arith),
          ok'.order_runs k z,
        );
      }

  pub ahead_named : Ahead l limit e (mem t code spans) (mem t' code spans)
  unfolding code_len depth_at
  ahead_named = record {
    fit = record { low = fit.low; wf = wf'; coded = coded_same };
    up = let low = fit.low in omega (arith, ends code_end_at (omega arith), head code_from_place (omega arith) (omega arith));
    deep = deep;
    head = head;
    under = under;
    over = λ q i h g. ends i h;
    beyond = λ q i h. let low = fit.low in ends i (omega arith);
  }

-- the same of a change within the level's names
pub ahead_kept : (t code spans t' : List ℕ) (l limit lo hi : ℕ) → Fit (mem t code spans) l limit → Wf t' → Kept (l * level_words + lo) (l * level_words + hi) t
    t' → hi ≤ depth_place → Ahead l limit steady (mem t code spans) (mem t' code spans)
ahead_kept t code spans t' l limit lo hi fit wf' kp h =
    let low = fit.low in
    ahead_named steady t code spans t' l limit fit wf' (kp.above _ (omega arith)) (λ o a b. kp.above _ (omega arith))
    (λ k o a b c. kept_off _ _ t t' _ kp (λ x y. omega arith)) (λ i a. kp.above _ (omega arith))

-- ## One context changes

-- the contexts around are the same after a change within the level
pub around_kept : (t t' : List ℕ) (l lo hi : ℕ) → Wf t → l < levels → Kept (l * level_words + lo) (l * level_words + hi) t t' → hi ≤ code_from_place →
    (code spans : List ℕ) → parents_of t' code spans l ≡ parents_of t code spans l
around_kept t t' l lo hi wf low kp h code spans =
    parents_named t t' l wf low (λ k o a b. kept_off _ _ t t' _ kp (λ x y. omega arith)) (kp.above _ (omega arith)) (kp.above _ (omega arith)) code spans

pub view_with : (t code spans t' : List ℕ) (l : ℕ) (c : CompilerCtx) → end_of_code t' ≡ end_of_code t → end_of_runs t' ≡ end_of_runs t → parents_of t' code spans l ≡ parents_of t
    code spans l → ctx_at t' code spans l (end_of_code t) (end_of_runs t) ≡ c → (rest : Rest) → view (mem t' code spans) l rest ≡ with_ctx (view (mem t code spans) l rest) c
unfolding view
view_with t code spans t' l c ce re ps e rest =
    let q : ctx_at t' code spans l (end_of_code t') (end_of_runs t') ≡ c = ap₂ (ctx_at t' code spans l) ce re ∙ e in
    λ i. record { ctx = q i; parents = ps i; class_ctx = rest.classes; functions = rest.functions }

-- only its locals
pub view_locals : (t code spans t' : List ℕ) (l hi : ℕ) (ls : List Local) → Wf t → l < levels → Kept (l * level_words) (l * level_words + hi) t t' → hi ≤
    upvalues_place → locals_of t' l ≡ ls → (rest : Rest) → view (mem t' code spans) l rest ≡ with_ctx (view (mem t code spans) l rest) (with_locals (view (mem t code spans) l rest).ctx ls)
unfolding view ctx_at
view_locals t code spans t' l hi ls wf low kp h e rest =
    let at : (o : ℕ) → upvalues_place ≤ o → get_or t' (l * level_words + o) 0 ≡ get_or t (l * level_words + o) 0 = λ o a. kp.above _ (omega arith) in
    let kp' : Kept (l * level_words + 0) (l * level_words + hi) t t' = record { below = λ i a. kp.below i (omega arith); above = kp.above } in
    view_with t code spans t' l _ (kp.above _ (omega arith)) (kp.above _ (omega arith)) (around_kept t t' l 0 hi wf low kp' (omega arith) code spans)
    (ctx_paths t code spans t' code spans l (end_of_code t) (end_of_runs t) (end_of_code t) (end_of_runs t) (λ o a b. at o (omega arith))
    (chunk_same t code spans t' code spans l (end_of_code t) (end_of_runs t) (wf.few_constants l low) (λ o a b n. at o (omega arith)) (λ i z. refl) (λ i z. refl))
    e (upvalues_same t t' l (wf.few_upvalues l low) (λ o a b. at o (omega arith))) (at depth_place (omega arith))) rest

-- only its chunk
pub view_chunk : (t code spans t' : List ℕ) (l : ℕ) (c : Chunk) → Wf t → l < levels → Kept (l * level_words + constants_place) (l * level_words + depth_place) t
    t' → chunk_at t' code spans l (end_of_code t) (end_of_runs t) ≡ c → (rest : Rest) → view (mem t' code spans) l rest ≡ with_ctx (view (mem t code spans) l rest)
    (with_chunk (view (mem t code spans) l rest).ctx c)
unfolding view ctx_at
view_chunk t code spans t' l c wf low kp e rest =
    let at : (o : ℕ) → (constants_place ≤ o → o < depth_place → ⊥) → get_or t' (l * level_words + o) 0 ≡ get_or t (l * level_words + o) 0 = λ o off. kept_off _ _ t
    t' _ kp (λ x y. off (omega arith) (omega arith)) in
    view_with t code spans t' l _ (kp.above _ (omega arith)) (kp.above _ (omega arith)) (around_kept t t' l constants_place depth_place wf low kp (omega arith) code spans)
    (ctx_paths t code spans t' code spans l (end_of_code t) (end_of_runs t) (end_of_code t) (end_of_runs t) (λ o a b. at o (λ x y. omega arith)) e
    (locals_same t t' l (wf.few_locals l low) (λ o a. at o (λ x y. omega arith)))
    (upvalues_same t t' l (wf.few_upvalues l low) (λ o a b. at o (λ x y. omega arith))) (at depth_place (λ x y. omega arith))) rest

-- only its depth
pub view_scope : (t code spans t' : List ℕ) (l d : ℕ) → Wf t → l < levels → Kept (l * level_words + depth_place) (l * level_words + code_from_place) t t' → get_or
    t' (l * level_words + depth_place) 0 ≡ d → (rest : Rest) → view (mem t' code spans) l rest ≡ with_ctx (view (mem t code spans) l rest) (with_scope_depth (view (mem t code spans) l rest).ctx d)
unfolding view ctx_at
view_scope t code spans t' l d wf low kp e rest =
    let at : (o : ℕ) → (o ≡ depth_place → ⊥) → get_or t' (l * level_words + o) 0 ≡ get_or t (l * level_words + o) 0 = λ o off. kept_off _ _ t t' _ kp (λ x y. off (omega arith)) in
    view_with t code spans t' l _ (kp.above _ (omega arith)) (kp.above _ (omega arith)) (around_kept t t' l depth_place code_from_place wf low kp (omega arith) code spans)
    (ctx_paths t code spans t' code spans l (end_of_code t) (end_of_runs t) (end_of_code t) (end_of_runs t) (λ o a b. at o (λ z. omega arith))
    (chunk_same t code spans t' code spans l (end_of_code t) (end_of_runs t) (wf.few_constants l low) (λ o a b n. at o n) (λ i z. refl) (λ i z. refl))
    (locals_same t t' l (wf.few_locals l low) (λ o a. at o (λ z. omega arith))) (upvalues_same t t' l (wf.few_upvalues l low) (λ o a b. at o (λ z. omega arith))) e) rest
