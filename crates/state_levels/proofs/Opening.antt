-- A context is opened and closed, and the scope depth is stored, as facts of lists.
use Prim.Native.Nat.{ℕ, suc, ◌+◌, ◌*◌, ◌-◌, ◌≤◌, ◌<◌}
use native.Mathlib.Omega.{arith}
use native.Mathlib.Nat.{eq-or-lt_of_le}
use mathlib.Core.Logic.{⊎_elim}
use mathlib.Core.Path.{◌≡◌, refl, sym, ap, ap₂, ◌∙◌, subst}
use mathlib.Core.List.{List, ◌∷◌}
use lib.ListN.{length, get_or, set, length-set}
use lib.Seq.{get_or-set_same, get_or-set_other}
use Rattle.rules.specs.Compiler.{new_ctx}
use Rattle.state.specs.Layout.{levels, deepest, table_words, code_end_at, runs_end_at, local_of, upvalue_of, constant_of, type_of, start_of_code, start_of_runs, end_of_code, end_of_runs, run_at, chunk_at, ctx_at, parents_of, Wf, upvalues_place, upvalue_count_place, constants_place, constant_count_place, depth_place, code_from_place, runs_from_place, name_place, arity_place, type_place, level_words, local_count_place}
use Rattle.state.specs.Meaning.{Kept, Moved, Closed, Began}
use Rattle.state.proofs.Laws.{kept_set, kept_then, ctx_same, parents_named, wf_count, wf_upvalues, wf_depth, wf_plain}
use Rattle.state.proofs.Words.{none_row, none_stack}

pub moved : (t : List ℕ) (l depth : ℕ) → l < levels → Wf t → depth ≤ deepest → Moved t (set t (l * level_words + depth_place) depth) l depth
moved t l depth low wf h = record {
  does = get_or-set_same t _ depth 0 (omega (arith, wf.size));
  kept = kept_set _ _ t _ _ (omega arith) (omega arith);
  wf = wf_depth t l depth h wf;
}

pub closed : (t : List ℕ) (l : ℕ) → l < levels → Wf t → Closed t (set (set t code_end_at (start_of_code t l)) runs_end_at (start_of_runs t l)) l
closed t l low wf =
    let t₁ : List ℕ = set t code_end_at (start_of_code t l) in
    record {
      code = get_or-set_other t₁ runs_end_at code_end_at (start_of_runs t l) 0 (omega arith) ∙ get_or-set_same t code_end_at (start_of_code t l) 0 (omega (arith, wf.size));
      runs = get_or-set_same t₁ runs_end_at (start_of_runs t l) 0 (omega (arith, wf.size, length-set t code_end_at (start_of_code t l)));
      kept = kept_then _ _ t t₁ _ _ (kept_set _ _ t _ _ (omega arith) (omega arith)) (omega arith) (omega arith);
      wf = wf_plain t₁ levels 1 _ (omega arith) (λ a b. omega arith) (λ z. omega arith) (λ z. omega arith)
          (wf_plain t levels 0 _ (omega arith) (λ a b. omega arith) (λ z. omega arith) (λ z. omega arith) wf);
    }

le_of_lt_suc : (j l : ℕ) → j < suc l → j ≤ l
le_of_lt_suc j l h = omega arith

-- nine stores at offsets that rise: what stands at each of them afterwards
abbrev put : (b : ℕ) → List ℕ → ℕ → ℕ → List ℕ
put b t o v = set t (b + o) v

put_same : (b : ℕ) (t : List ℕ) (o v : ℕ) → b + o < length t → get_or (put b t o v) (b + o) 0 ≡ v
put_same b t o v h = get_or-set_same t (b + o) v 0 h

put_other : (b : ℕ) (t : List ℕ) (o v i : ℕ) → (i ≡ o → ⊥) → get_or (put b t o v) (b + i) 0 ≡ get_or t (b + i) 0
put_other b t o v i ne = get_or-set_other t (b + o) (b + i) v 0 (λ z. ne (omega arith))

put_length : (b : ℕ) (t : List ℕ) (o v : ℕ) → length (put b t o v) ≡ length t
put_length b t o v = length-set t (b + o) v

module _ (t : List ℕ) (l name arity kind : ℕ) (low : l + 1 < levels) (wf : Wf t) (shallow : get_or t (l * level_words + depth_place) 0 < deepest) where
  abbrev b : ℕ
  b = (l + 1) * level_words

  abbrev t₁ : List ℕ
  t₁ = put b t local_count_place 0

  abbrev t₂ : List ℕ
  t₂ = put b t₁ upvalue_count_place 0

  abbrev t₃ : List ℕ
  t₃ = put b t₂ constant_count_place 0

  abbrev t₄ : List ℕ
  t₄ = put b t₃ depth_place (get_or t (l * level_words + depth_place) 0 + 1)

  abbrev t₅ : List ℕ
  t₅ = put b t₄ code_from_place (end_of_code t)

  abbrev t₆ : List ℕ
  t₆ = put b t₅ runs_from_place (end_of_runs t)

  abbrev t₇ : List ℕ
  t₇ = put b t₆ name_place name

  abbrev t₈ : List ℕ
  t₈ = put b t₇ arity_place arity

  abbrev t₉ : List ℕ
  t₉ = put b t₈ type_place kind

  n₁ : length t₁ ≡ table_words
  n₁ = length-set t _ _ ∙ wf.size

  n₂ : length t₂ ≡ table_words
  n₂ = length-set t₁ _ _ ∙ n₁

  n₃ : length t₃ ≡ table_words
  n₃ = length-set t₂ _ _ ∙ n₂

  n₄ : length t₄ ≡ table_words
  n₄ = length-set t₃ _ _ ∙ n₃

  n₅ : length t₅ ≡ table_words
  n₅ = length-set t₄ _ _ ∙ n₄

  n₆ : length t₆ ≡ table_words
  n₆ = length-set t₅ _ _ ∙ n₅

  n₇ : length t₇ ≡ table_words
  n₇ = length-set t₆ _ _ ∙ n₆

  n₈ : length t₈ ≡ table_words
  n₈ = length-set t₇ _ _ ∙ n₇

  kp : Kept b (b + level_words) t t₉
  kp =
      kept_then _ _ t t₈ _ _ (kept_then _ _ t t₇ _ _ (kept_then _ _ t t₆ _ _
      (kept_then _ _ t t₅ _ _ (kept_then _ _ t t₄ _ _ (kept_then _ _ t t₃ _ _
      (kept_then _ _ t t₂ _ _ (kept_then _ _ t t₁ _ _ (kept_set _ _ t _ _ (omega arith) (omega arith)) (omega arith) (omega arith)) (omega arith)
      (omega arith)) (omega arith) (omega arith)) (omega arith) (omega arith)) (omega arith) (omega arith))
      (omega arith) (omega arith)) (omega arith) (omega arith)) (omega arith) (omega arith)

  wf₉ : Wf t₉
  wf₉ =
      wf_plain t₈ (l + 1) type_place _ (omega arith) (λ x y. omega arith) (λ z. omega arith) (λ z. omega arith)
      (wf_plain t₇ (l + 1) arity_place _ (omega arith) (λ x y. omega arith) (λ z. omega arith) (λ z. omega arith)
      (wf_plain t₆ (l + 1) name_place _ (omega arith) (λ x y. omega arith) (λ z. omega arith) (λ z. omega arith)
      (wf_plain t₅ (l + 1) runs_from_place _ (omega arith) (λ x y. omega arith) (λ z. omega arith) (λ z. omega arith)
      (wf_plain t₄ (l + 1) code_from_place _ (omega arith) (λ x y. omega arith) (λ z. omega arith) (λ z. omega arith)
      (wf_depth t₃ (l + 1) _ (omega arith) (wf_count t₂ (l + 1) constant_count_place 0 (omega arith) (λ e. omega arith) (omega arith)
      (wf_upvalues t₁ (l + 1) 0 low (omega arith) (λ o x y. absurd (omega arith)) (wf_count t (l + 1) local_count_place 0 (omega arith) (λ e. omega arith) (omega arith) wf))))))))

  -- the last three stores, and the last six, keep off what is below them
  o₉ : (o : ℕ) → o < name_place → get_or t₉ (b + o) 0 ≡ get_or t₆ (b + o) 0
  o₉ o h = put_other b t₈ type_place kind o (λ z. omega arith) ∙ put_other b t₇ arity_place arity o (λ z. omega arith) ∙ put_other b t₆ name_place name o (λ z. omega arith)

  o₆ : (o : ℕ) → o < depth_place → get_or t₆ (b + o) 0 ≡ get_or t₃ (b + o) 0
  o₆ o h = put_other b t₅ runs_from_place (end_of_runs t) o (λ z. omega arith) ∙ put_other b t₄ code_from_place (end_of_code t) o (λ z. omega arith) ∙ put_other b t₃
      depth_place (get_or t (l * level_words + depth_place) 0 + 1) o (λ z. omega arith)

  v₁ : get_or t₉ (b + local_count_place) 0 ≡ 0
  v₁ = o₉ local_count_place (omega arith) ∙ o₆ local_count_place (omega arith) ∙ put_other b t₂ constant_count_place 0 local_count_place (λ z. omega arith) ∙
      put_other b t₁ upvalue_count_place 0 local_count_place (λ z. omega arith) ∙ put_same b t 256 0 (omega (arith, wf.size))

  v₂ : get_or t₉ (b + upvalue_count_place) 0 ≡ 0
  v₂ = o₉ upvalue_count_place (omega arith) ∙ o₆ upvalue_count_place (omega arith) ∙ put_other b t₂ constant_count_place 0 upvalue_count_place
      (λ z. omega arith) ∙ put_same b t₁ upvalue_count_place 0 (omega (arith, n₁))

  v₃ : get_or t₉ (b + constant_count_place) 0 ≡ 0
  v₃ = o₉ constant_count_place (omega arith) ∙ o₆ constant_count_place (omega arith) ∙ put_same b t₂ constant_count_place 0 (omega (arith, n₂))

  v₄ : get_or t₉ (b + depth_place) 0 ≡ get_or t (l * level_words + depth_place) 0 + 1
  v₄ = o₉ depth_place (omega arith) ∙ put_other b t₅ runs_from_place (end_of_runs t) depth_place (λ z. omega arith) ∙ put_other b t₄ code_from_place (end_of_code t)
      depth_place (λ z. omega arith) ∙ put_same b t₃ depth_place (get_or t (l * level_words + depth_place) 0 + 1) (omega (arith, n₃))

  v₅ : get_or t₉ (b + code_from_place) 0 ≡ end_of_code t
  v₅ = o₉ code_from_place (omega arith) ∙ put_other b t₅ runs_from_place (end_of_runs t) code_from_place (λ z. omega arith) ∙ put_same b t₄ code_from_place (end_of_code t) (omega (arith, n₄))

  v₆ : get_or t₉ (b + runs_from_place) 0 ≡ end_of_runs t
  v₆ = o₉ runs_from_place (omega arith) ∙ put_same b t₅ runs_from_place (end_of_runs t) (omega (arith, n₅))

  v₇ : get_or t₉ (b + name_place) 0 ≡ name
  v₇ = put_other b t₈ type_place kind name_place (λ z. omega arith) ∙ put_other b t₇ arity_place arity name_place (λ z. omega arith) ∙ put_same b t₆ name_place name (omega (arith, n₆))

  v₈ : get_or t₉ (b + arity_place) 0 ≡ arity
  v₈ = put_other b t₈ type_place kind arity_place (λ z. omega arith) ∙ put_same b t₇ arity_place arity (omega (arith, n₇))

  v₉ : get_or t₉ (b + type_place) 0 ≡ kind
  v₉ = put_same b t₈ type_place kind (omega (arith, n₈))

  up_one : l + 1 ≡ suc l
  up_one = omega arith

  ce : end_of_code t₉ ≡ end_of_code t
  ce = kp.above code_end_at (omega arith)

  re : end_of_runs t₉ ≡ end_of_runs t
  re = kp.above runs_end_at (omega arith)

  fresh' : (code spans : List ℕ) → ctx_at t₉ code spans (l + 1) (end_of_code t₉) (end_of_runs t₉) ≡ new_ctx name arity (type_of kind) (get_or t (l * level_words + depth_place) 0 + 1)
  unfolding ctx_at chunk_at
  fresh' code spans =
      let ls = none_stack (λ i. local_of (get_or t₉ (b + i) 0)) _ v₁ in
      let us = none_row (λ i. upvalue_of (get_or t₉ (b + upvalues_place + i) 0)) _ v₂ in
      let ks = none_row (λ i. constant_of (get_or t₉ (b + constants_place + i) 0)) _ v₃ in
      let ops = none_row (λ i. get_or code (start_of_code t₉ (l + 1) + i) 0) (end_of_code t₉ - start_of_code t₉ (l + 1)) (omega (arith, v₅, ce)) in
      let runs = none_row (λ i. run_at spans (start_of_runs t₉ (l + 1) + i)) (end_of_runs t₉ - start_of_runs t₉ (l + 1)) (omega (arith, v₆, re)) in
      λ i. record {
        name = v₇ i;
        arity = v₈ i;
        type = type_of (v₉ i);
        chunk = record { ops = ops i; constants = ks i; spans = runs i };
        locals = ls i;
        upvalues = us i;
        scope_depth = v₄ i;
      }

  same : (j o : ℕ) → j ≤ l → o < level_words → get_or t₉ (j * level_words + o) 0 ≡ get_or t (j * level_words + o) 0
  same j o h a = kp.below _ (omega arith)

  pub began : Began t t₉ l name arity kind
  unfolding parents_of
  began =
      let cu : start_of_code t₉ (suc l) ≡ end_of_code t = ap (start_of_code t₉) (sym up_one) ∙ v₅ in
      let ru : start_of_runs t₉ (suc l) ≡ end_of_runs t = ap (start_of_runs t₉) (sym up_one) ∙ v₆ in
      record {
        fresh = λ code spans. ap (λ (m : ℕ). ctx_at t₉ code spans m (end_of_code t₉) (end_of_runs t₉)) (sym up_one) ∙ fresh' code spans;
        around = λ code spans. ap₂ ◌∷◌
            (ap₂ (ctx_at t₉ code spans l) cu ru ∙ ctx_same t code spans t₉ code spans l (end_of_code t) (end_of_runs t) wf (omega arith)
            (λ o h. same l o (omega arith) (omega arith)) (λ i h. refl) (λ i h. refl))
            (parents_named t t₉ l wf (omega arith) (λ k o h g. same k o (omega arith) (omega arith)) (same l code_from_place (omega arith) (omega arith))
            (same l runs_from_place (omega arith) (omega arith)) code spans);
        coded = λ code spans limit ok. record {
          room_code = ok.room_code;
          room_runs = ok.room_runs;
          within = omega (arith, ok.within, ce);
          fewer = omega (arith, ok.fewer, ce, re);
          fewer_at = λ j h. ⊎_elim (λ (q : j ≡ suc l). subst (λ (m : ℕ). start_of_runs t₉ m ≤ start_of_code t₉ m) (sym q) (omega (arith, ok.fewer)))
              (λ (q : j < suc l). omega (
                arith,
                same j code_from_place (omega arith) (omega arith),
                same j runs_from_place (omega arith) (omega arith),
                ok.fewer_at j (le_of_lt_suc j l q),
              )) (eq-or-lt_of_le h);
          from_zero = same 0 code_from_place (omega arith) (omega arith) ∙ ok.from_zero;
          top = omega (arith, ce);
          top_runs = omega (arith, re);
          order = λ j h. ⊎_elim (λ (q : j ≡ l). subst (λ (m : ℕ). start_of_code t₉ m ≤ start_of_code t₉ (suc m)) (sym q) (omega (arith, same l code_from_place (omega arith) (omega arith), ok.top)))
              (λ (q : j < l). omega (
                arith,
                same j code_from_place (omega arith) (omega arith),
                same (suc j) code_from_place (omega arith) (omega arith),
                ok.order j q,
              )) (eq-or-lt_of_le (le_of_lt_suc j l h));
          order_runs = λ j h. ⊎_elim (λ (q : j ≡ l). subst (λ (m : ℕ). start_of_runs t₉ m ≤ start_of_runs t₉ (suc m)) (sym q) (omega (arith, same l runs_from_place (omega arith) (omega arith), ok.top_runs)))
              (λ (q : j < l). omega (
                arith,
                same j runs_from_place (omega arith) (omega arith),
                same (suc j) runs_from_place (omega arith) (omega arith),
                ok.order_runs j q,
              )) (eq-or-lt_of_le (le_of_lt_suc j l h));
        };
        kept = subst (λ (m : ℕ). Kept (m * level_words) (m * level_words + level_words) t t₉) up_one kp;
        wf = wf₉;
      }
