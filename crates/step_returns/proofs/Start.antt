-- The script's start, whatever the table held: nine stores after its levels are cleared, of which all but the name's store 0.
use Prim.Native.Nat.{ℕ, ◌+◌, ◌*◌, ◌-◌, ◌≤◌, ◌<◌}
use native.Mathlib.Omega.{arith}
use native.Mathlib.Nat.{eq-or-lt_of_le}
use mathlib.Core.Path.{◌≡◌, subst, ◌∙◌}
use mathlib.Core.Logic.{⊎_elim}
use mathlib.Core.List.{List, []}
use lib.ListN.{get_or, set, get_or-eq_default}
use lib.Seq.{get_or-set_same, get_or-set_other}
use Rattle.state.specs.Layout.{levels, code_end_at, runs_end_at, image_at, local_of, upvalue_of, constant_of, run_at, type_of, start_of_code, start_of_runs, end_of_code, end_of_runs, chunk_at, ctx_at, parents_of, Wf, upvalues_place, upvalue_count_place, constants_place, constant_count_place, depth_place, code_from_place, runs_from_place, name_place, arity_place, type_place, level_words}
use Rattle.state.specs.Meaning.{Blank}
use Rattle.state.proofs.Laws.{wf_plain}
use Rattle.state_levels.proofs.Clearing.{zero_still}
use Rattle.steps.specs.View.{view, Started}
use Rattle.state.proofs.Words.{none_row, none_stack}

module _ (t : List ℕ) (blank : Blank t) where
  abbrev t₁ : List ℕ
  t₁ = set t name_place 3

  abbrev t₂ : List ℕ
  t₂ = set t₁ code_from_place 0

  abbrev t₃ : List ℕ
  t₃ = set t₂ runs_from_place 0

  abbrev t₄ : List ℕ
  t₄ = set t₃ arity_place 0

  abbrev t₅ : List ℕ
  t₅ = set t₄ type_place 0

  abbrev t₆ : List ℕ
  t₆ = set t₅ code_end_at 0

  abbrev t₇ : List ℕ
  t₇ = set t₆ runs_end_at 0

  abbrev t₈ : List ℕ
  t₈ = set t₇ image_at 0

  abbrev t₉ : List ℕ
  t₉ = set t₈ (image_at + 1) 0

  wf₁ : Wf t₁
  wf₁ = wf_plain t 0 name_place 3 (omega arith) (λ x y. omega arith) (λ e. omega arith) (λ e. omega arith) blank.wf

  wf₂ : Wf t₂
  wf₂ = wf_plain t₁ 0 code_from_place 0 (omega arith) (λ x y. omega arith) (λ e. omega arith) (λ e. omega arith) wf₁

  wf₃ : Wf t₃
  wf₃ = wf_plain t₂ 0 runs_from_place 0 (omega arith) (λ x y. omega arith) (λ e. omega arith) (λ e. omega arith) wf₂

  wf₄ : Wf t₄
  wf₄ = wf_plain t₃ 0 arity_place 0 (omega arith) (λ x y. omega arith) (λ e. omega arith) (λ e. omega arith) wf₃

  wf₅ : Wf t₅
  wf₅ = wf_plain t₄ 0 type_place 0 (omega arith) (λ x y. omega arith) (λ e. omega arith) (λ e. omega arith) wf₄

  wf₆ : Wf t₆
  wf₆ = wf_plain t₅ levels 0 0 (omega arith) (λ x y. omega arith) (λ e. omega arith) (λ e. omega arith) wf₅

  wf₇ : Wf t₇
  wf₇ = wf_plain t₆ levels 1 0 (omega arith) (λ x y. omega arith) (λ e. omega arith) (λ e. omega arith) wf₆

  wf₈ : Wf t₈
  wf₈ = wf_plain t₇ levels 2 0 (omega arith) (λ x y. omega arith) (λ e. omega arith) (λ e. omega arith) wf₇

  wf₉ : Wf t₉
  wf₉ = wf_plain t₈ levels 3 0 (omega arith) (λ x y. omega arith) (λ e. omega arith) (λ e. omega arith) wf₈

  -- a 0 that stands after a store stands in the end
  zero₈ : (i : ℕ) → get_or t₈ i 0 ≡ 0 → get_or t₉ i 0 ≡ 0
  zero₈ i e = zero_still t₈ _ i e

  zero₇ : (i : ℕ) → get_or t₇ i 0 ≡ 0 → get_or t₉ i 0 ≡ 0
  zero₇ i e = zero₈ i (zero_still t₇ _ i e)

  zero₆ : (i : ℕ) → get_or t₆ i 0 ≡ 0 → get_or t₉ i 0 ≡ 0
  zero₆ i e = zero₇ i (zero_still t₆ _ i e)

  zero₅ : (i : ℕ) → get_or t₅ i 0 ≡ 0 → get_or t₉ i 0 ≡ 0
  zero₅ i e = zero₆ i (zero_still t₅ _ i e)

  zero₄ : (i : ℕ) → get_or t₄ i 0 ≡ 0 → get_or t₉ i 0 ≡ 0
  zero₄ i e = zero₅ i (zero_still t₄ _ i e)

  zero₃ : (i : ℕ) → get_or t₃ i 0 ≡ 0 → get_or t₉ i 0 ≡ 0
  zero₃ i e = zero₄ i (zero_still t₃ _ i e)

  zero₂ : (i : ℕ) → get_or t₂ i 0 ≡ 0 → get_or t₉ i 0 ≡ 0
  zero₂ i e = zero₃ i (zero_still t₂ _ i e)

  zero₁ : (i : ℕ) → get_or t₁ i 0 ≡ 0 → get_or t₉ i 0 ≡ 0
  zero₁ i e = zero₂ i (zero_still t₁ _ i e)

  zero : (i : ℕ) → (i ≡ name_place → ⊥) → get_or t i 0 ≡ 0 → get_or t₉ i 0 ≡ 0
  zero i ne e = zero₁ i (get_or-set_other t name_place i 3 0 ne ∙ e)

  locals : get_or t₉ 256 0 ≡ 0
  locals = zero 256 (λ e. omega arith) (blank.empty 0 (omega arith)).locals

  upvalues : get_or t₉ upvalue_count_place 0 ≡ 0
  upvalues = zero upvalue_count_place (λ e. omega arith) (blank.empty 0 (omega arith)).upvalues

  constants : get_or t₉ constant_count_place 0 ≡ 0
  constants = zero constant_count_place (λ e. omega arith) (blank.empty 0 (omega arith)).constants

  depth : get_or t₉ depth_place 0 ≡ 0
  depth = zero depth_place (λ e. omega arith) (blank.empty 0 (omega arith)).depth

  name : get_or t₉ name_place 0 ≡ 3
  name = get_or-set_other t₈ _ name_place 0 0 (λ e. omega arith) ∙ get_or-set_other t₇ _ name_place 0 0 (λ e. omega arith) ∙ get_or-set_other t₆ _ name_place 0 0
      (λ e. omega arith) ∙ get_or-set_other t₅ _ name_place 0 0 (λ e. omega arith) ∙ get_or-set_other t₄ _ name_place 0 0 (λ e. omega arith) ∙ get_or-set_other t₃ _
      name_place 0 0 (λ e. omega arith) ∙ get_or-set_other t₂ _ name_place 0 0 (λ e. omega arith) ∙ get_or-set_other t₁ _ name_place 0 0 (λ e. omega arith) ∙
      get_or-set_same t name_place 3 0 (omega (arith, blank.wf.size))

  code_from : get_or t₉ code_from_place 0 ≡ 0
  code_from = zero₂ code_from_place (get_or-set_same t₁ code_from_place 0 0 (omega (arith, wf₁.size)))

  runs_from : get_or t₉ runs_from_place 0 ≡ 0
  runs_from = zero₃ runs_from_place (get_or-set_same t₂ runs_from_place 0 0 (omega (arith, wf₂.size)))

  arity : get_or t₉ arity_place 0 ≡ 0
  arity = zero₄ arity_place (get_or-set_same t₃ arity_place 0 0 (omega (arith, wf₃.size)))

  type : get_or t₉ type_place 0 ≡ 0
  type = zero₅ type_place (get_or-set_same t₄ type_place 0 0 (omega (arith, wf₄.size)))

  code_end : get_or t₉ code_end_at 0 ≡ 0
  code_end = zero₆ code_end_at (get_or-set_same t₅ code_end_at 0 0 (omega (arith, wf₅.size)))

  runs_end : get_or t₉ runs_end_at 0 ≡ 0
  runs_end = zero₇ runs_end_at (get_or-set_same t₆ runs_end_at 0 0 (omega (arith, wf₆.size)))

  count : get_or t₉ image_at 0 ≡ 0
  count = zero₈ image_at (get_or-set_same t₇ image_at 0 0 (omega (arith, wf₇.size)))

  bytes : get_or t₉ (image_at + 1) 0 ≡ 0
  bytes = get_or-set_same t₈ (image_at + 1) 0 0 (omega (arith, wf₈.size))

  image' : (i : ℕ) → image_at ≤ i → get_or t₉ i 0 ≡ 0
  image' i h =
      ⊎_elim (λ (e : image_at ≡ i). subst (λ (i : ℕ). get_or t₉ i 0 ≡ 0) e count)
      (λ (l : image_at < i). ⊎_elim (λ (e : image_at + 1 ≡ i). subst (λ (i : ℕ). get_or t₉ i 0 ≡ 0) e bytes)
      (λ (m : image_at + 1 < i). get_or-eq_default t₉ 0 (omega (arith, wf₉.size))) (eq-or-lt_of_le (omega arith)))
      (eq-or-lt_of_le h)

  pub started : Started t₉
  unfolding view ctx_at chunk_at parents_of type_of
  started = record {
    fit = λ code spans limit h g. record {
      low = omega arith;
      wf = wf₉;
      coded = record {
        room_code = h;
        room_runs = g;
        within = omega (arith, code_end);
        fewer = omega (arith, code_end, runs_end);
        fewer_at = λ k z. let e : 0 ≡ k = omega arith in subst (λ (k : ℕ). start_of_runs t₉ k ≤ start_of_code t₉ k) e (omega (arith, runs_from));
        from_zero = code_from;
        top = omega (arith, code_from);
        top_runs = omega (arith, runs_from);
        order = λ k z. absurd (omega arith);
        order_runs = λ k z. absurd (omega arith);
      };
    };
    is = λ code spans.
        let ls = none_stack (λ i. local_of (get_or t₉ (0 * level_words + i) 0)) (get_or t₉ 256 0) locals in
        let us = none_row (λ i. upvalue_of (get_or t₉ (0 * level_words + upvalues_place + i) 0)) (get_or t₉ upvalue_count_place 0) upvalues in
        let ks = none_row (λ i. constant_of (get_or t₉ (0 * level_words + constants_place + i) 0)) (get_or t₉ constant_count_place 0) constants in
        let os = none_row (λ i. get_or code (start_of_code t₉ 0 + i) 0) (end_of_code t₉ - start_of_code t₉ 0) (omega (arith, code_end)) in
        let rs = none_row (λ i. run_at spans (start_of_runs t₉ 0 + i)) (end_of_runs t₉ - start_of_runs t₉ 0) (omega (arith, runs_end)) in
        λ i. record {
          ctx = record {
            name = name i;
            arity = arity i;
            type = type_of (type i);
            chunk = record { ops = os i; constants = ks i; spans = rs i };
            locals = ls i;
            upvalues = us i;
            scope_depth = depth i;
          };
          parents = [];
          class_ctx = [];
          functions = [];
        };
    image = image';
  }
