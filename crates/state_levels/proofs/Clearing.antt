-- A table is made ready, whatever it holds, as facts of lists.
use Prim.Native.Nat.{ℕ, ◌+◌, ◌*◌, ◌≤◌, ◌<◌}
use native.Mathlib.Omega.{arith}
use mathlib.Core.Path.{◌≡◌, subst, ◌∙◌}
use mathlib.Core.Logic.{⊎_elim}
use mathlib.Core.List.{List}
use lib.ListN.{length, get_or, set, length-set}
use lib.Seq.{get_or-set_same}
use Rattle.state.specs.Layout.{levels, table_words, upvalue_count_place, constant_count_place, depth_place, level_words, local_count_place}
use Rattle.state.specs.Meaning.{Kept, Empty, Emptied, Blank}
use Rattle.state.proofs.Laws.{lt_or_le, few_set, kept_set, kept_then}

-- where 0 stands it stays when a 0 is stored
pub zero_still : (t : List ℕ) (j i : ℕ) → get_or t i 0 ≡ 0 → get_or (set t j 0) i 0 ≡ 0
zero_still t j i e = omega (arith, few_set 0 t j 0 i (omega arith) (omega arith))

module _ (t : List ℕ) (l : ℕ) (low : l < levels) (size : length t ≡ table_words) where
  abbrev t₁ : List ℕ
  t₁ = set t (l * level_words + local_count_place) 0

  abbrev t₂ : List ℕ
  t₂ = set t₁ (l * level_words + upvalue_count_place) 0

  abbrev t₃ : List ℕ
  t₃ = set t₂ (l * level_words + constant_count_place) 0

  abbrev t₄ : List ℕ
  t₄ = set t₃ (l * level_words + depth_place) 0

  n₁ : length t₁ ≡ table_words
  n₁ = length-set t _ _ ∙ size

  n₂ : length t₂ ≡ table_words
  n₂ = length-set t₁ _ _ ∙ n₁

  n₃ : length t₃ ≡ table_words
  n₃ = length-set t₂ _ _ ∙ n₂

  pub emptied : Emptied t t₄ l
  emptied = record {
    empty = record {
      locals = zero_still t₃ _ _ (zero_still t₂ _ _ (zero_still t₁ _ _ (get_or-set_same t _ 0 0 (omega (arith, size)))));
      upvalues = zero_still t₃ _ _ (zero_still t₂ _ _ (get_or-set_same t₁ _ 0 0 (omega (arith, n₁))));
      constants = zero_still t₃ _ _ (get_or-set_same t₂ _ 0 0 (omega (arith, n₂)));
      depth = get_or-set_same t₃ _ 0 0 (omega (arith, n₃));
    };
    kept = kept_then _ _ t t₃ _ _ (kept_then _ _ t t₂ _ _ (kept_then _ _ t t₁ _ _ (kept_set _ _ t _ _ (omega arith) (omega arith)) (omega arith) (omega arith))
        (omega arith) (omega arith)) (omega arith) (omega arith);
  }

still_empty : (t t' : List ℕ) (l k : ℕ) → Kept (l * level_words) (l * level_words + level_words) t t' → k < l → Empty t k → Empty t' k
still_empty t t' l k kept h e = record {
  locals = kept.below _ (omega arith) ∙ e.locals;
  upvalues = kept.below _ (omega arith) ∙ e.upvalues;
  constants = kept.below _ (omega arith) ∙ e.constants;
  depth = kept.below _ (omega arith) ∙ e.depth;
}

-- one level more
pub empty_more : (t t' : List ℕ) (l : ℕ) → ((k : ℕ) → k < l → Empty t k) → Emptied t t' l → (k : ℕ) → k < l + 1 → Empty t' k
empty_more t t' l all one k h =
    ⊎_elim (λ (g : k < l). still_empty t t' l k one.kept g (all k g))
    (λ (g : l ≤ k). let e : l ≡ k = omega arith in subst (λ (k : ℕ). Empty t' k) e one.empty)
    (lt_or_le k l)

pub blank : (t : List ℕ) → length t ≡ table_words → ((k : ℕ) → k < levels → Empty t k) → Blank t
blank t size all = record {
  empty = all;
  wf = record {
    size = size;
    few_locals = λ k h. omega (arith, (all k h).locals);
    few_upvalues = λ k h. omega (arith, (all k h).upvalues);
    few_constants = λ k h. omega (arith, (all k h).constants);
    shallow = λ k h. omega (arith, (all k h).depth);
    pairs = λ k o h a b. absurd (omega (arith, (all k h).upvalues));
  };
}
