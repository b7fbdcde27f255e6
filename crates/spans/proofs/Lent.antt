-- The rules' lookup of a span, from the lent runs that are left: at their end, at a run that holds the byte, and past a run that does not.
use mathlib.Core.Path.{◌≡◌, refl}
use Prim.Native.Nat.{ℕ, ◌-◌, ◌+◌, ◌<◌, ◌≤◌}
use native.Mathlib.Numerals.{add-one}
use mathlib.Core.List.{List, ◌∷◌, []}
use lib.ListN.{length, get_or, drop, length-drop}
use lib.Seq.{drop-cons}
use lib.Dec.{ltb}
use borrow.Author.Tests.{lt-ltb, le-ltb}
use native.Mathlib.Omega.{arith}
use Rattle.std.specs.Prelude.{if◌then◌else◌}
use Rattle.rules.specs.declared.Answer.{Answer}
use Rattle.rules.specs.declared.Refusal.TheVariants.{NoSuchByte}
use Rattle.rules.specs.Answer.{refusal}
use Rattle.rules.specs.Checker.{span_of}
use Rattle.spans.specs.declared.Run.{Run}
use Rattle.spans.specs.Runs.{runs_in}

abbrev pub span_at : List Run → ℕ → Answer
span_at runs k = span_of (runs_in runs) k

abbrev pub found : Run → Answer
found r = record { number = 0; at = r.start; end = r.end; name = 0; length = 0; function = 0; around = 0 }

abbrev pub none : Run
none = record { start = 0; end = 0; count = 0 }

empty : (rs : List Run) (k : ℕ) → length rs ≡ 0 → span_at rs k ≡ refusal NoSuchByte
unfolding span_of runs_in
empty [] k e = refl
empty (r ∷ rs) k e = absurd (omega (arith, e))

pub ends : (ys : List Run) (i k : ℕ) → length ys ≤ i → span_at (drop i ys) k ≡ refusal NoSuchByte
ends ys i k over = empty (drop i ys) k (simp length-drop (omega arith))

module _ (ys : List Run) (i k : ℕ) (inside : i < length ys) where
  opened : span_at (drop i ys) k
      ≡ (if ltb k (get_or ys i none).count then found (get_or ys i none) else span_at (drop (i + 1) ys) (k - (get_or ys i none).count))
  unfolding span_of runs_in
  opened = rw (add-one, drop-cons ys i none)

  pub holds : k < (get_or ys i none).count → span_at (drop i ys) k ≡ found (get_or ys i none)
  holds here = rw (lt-ltb _ _ here) at opened

  pub passes : (get_or ys i none).count ≤ k → span_at (drop i ys) k ≡ span_at (drop (i + 1) ys) (k - (get_or ys i none).count)
  passes past = rw (le-ltb _ _ past) at opened
