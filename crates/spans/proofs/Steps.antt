-- The rules' lookup of a span, from the words that are left: at their end, at a run that holds the byte, and past a run that does not.
use mathlib.Core.Path.{◌≡◌, refl, sym, ap}
use mathlib.Core.List.{List, ◌∷◌, []}
use Prim.Native.Nat.{ℕ, suc, ◌-◌, ◌<◌, ◌≤◌}
use native.Mathlib.Omega.{arith}
use lib.ListN.{length, get_or, take, drop}
use borrow.Author.Tests.{lt-ltb, le-ltb}
use Rattle.rules.specs.declared.Refusal.TheVariants.{NoSuchByte}
use Rattle.rules.specs.Answer.{refusal}
use Rattle.rules.specs.Checker.{span_of}
use Rattle.spans.specs.Words.{runs_of}

short : (l : List ℕ) (k : ℕ) → length l ≤ 2 → span_of (runs_of l) k ≡ refusal NoSuchByte
unfolding runs_of span_of
short [] k h = refl
short (a ∷ []) k h = refl
short (a ∷ b ∷ []) k h = refl
short (a ∷ b ∷ c ∷ l) k h = absurd (omega arith)

pub over : (words : List ℕ) (k : ℕ) → length words < 3 → refusal NoSuchByte ≡ span_of (runs_of words) k
over words k h = sym (short words k (omega arith))

take_all : (l : List ℕ) → take (length l) l ≡ l
take_all [] = refl
take_all (x ∷ l) = ap (λ (r : List ℕ). x ∷ r) (take_all l)

-- the words behind the first run
abbrev rest : List ℕ → List ℕ
rest words = take (length words - 3) (drop 3 words)

pub holds : (words : List ℕ) (k : ℕ) → 3 ≤ length words → k < get_or words 2 0
    → record { number = 0; at = get_or words 0 0; end = get_or words 1 0; name = 0; length = 0; function = 0; around = 0 } ≡ span_of (runs_of words) k
unfolding runs_of span_of
holds [] k h l = absurd (omega arith)
holds (a ∷ []) k h l = absurd (omega arith)
holds (a ∷ b ∷ []) k h l = absurd (omega arith)
holds (a ∷ b ∷ c ∷ words) k h l = rw (lt-ltb _ _ l) refl

pub passes : (words : List ℕ) (k : ℕ) → 3 ≤ length words → get_or words 2 0 ≤ k
    → span_of (runs_of words) k ≡ span_of (runs_of (rest words)) (k - get_or words 2 0)
unfolding runs_of span_of
passes [] k h l = absurd (omega arith)
passes (a ∷ []) k h l = absurd (omega arith)
passes (a ∷ b ∷ []) k h l = absurd (omega arith)
passes (a ∷ b ∷ c ∷ words) k h l =
    let m : suc (suc (suc (length words))) - 3 ≡ length words = omega arith in
    let e : take (suc (suc (suc (length words))) - 3) words ≡ words = rw m (take_all words) in
    rw (le-ltb _ _ l, e) refl
