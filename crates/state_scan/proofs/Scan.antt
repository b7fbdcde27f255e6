-- What a scan of the n words from `base` on says of the table that they stand in.
use native.Mathlib.Omega.{arith}
use Rattle.std.proofs.Common.{◌≡◌, ◌∙◌, sym, ap, ℕ, ◌+◌, ◌-◌, ◌%◌, ◌<◌, ◌≤◌, List, length}
use Rattle.std.specs.Prelude.{Some, None, get_or, drop, slice_range}
use Rattle.std.proofs.lemmas.List.{get_or-take, get_or-drop, length-drop, length-take-le}
use Rattle.state.specs.Meaning.{Topmost, Without, First}

module _ (t : List ℕ) (base n : ℕ) (room : base + n ≤ length t) where
  pub long : length (slice_range t base (base + n)) ≡ n
  long = let e : base + n - base ≡ n = omega arith in length-take-le _ (drop base t) (omega (arith, length-drop base t)) ∙ e

  pub word : (j : ℕ) → j < n → get_or (slice_range t base (base + n)) j 0 ≡ get_or t (base + j) 0
  word j h = get_or-take (base + n - base) (drop base t) j 0 (omega arith) ∙ get_or-drop base t j 0

  -- the same, as `Without` has it of words from 0 on
  word_from : (j : ℕ) → j < n → get_or (slice_range t base (base + n)) (0 + j) 0 ≡ get_or t (base + j) 0
  word_from j h = let e : 0 + j ≡ j = omega arith in ap (λ (k : ℕ). get_or (slice_range t base (base + n)) k 0) e ∙ word j h

  pub first_none : (w : ℕ) → First (slice_range t base (base + n)) w None → Without t base n w
  first_none w f j h e = f j (omega (arith, long)) (word_from j h ∙ e)

  pub first_some : (w i : ℕ) → First (slice_range t base (base + n)) w (Some i) → (i < n) × Without t base i w × (get_or t (base + i) 0 ≡ w)
  first_some w i f =
      let low : i < n = omega (arith, f.0, long) in
      (low, (λ j h e. f.1 j h (word_from j (omega arith) ∙ e)), sym (word i low) ∙ f.2)

  pub topmost_none : (nm : ℕ) → Topmost (slice_range t base (base + n)) nm None → (j : ℕ) → 0 ≤ j → j < n → get_or t (base + j) 0 % 65536 ≡ nm → ⊥
  topmost_none nm f j l h e = f j (omega (arith, long)) (ap (λ (w : ℕ). w % 65536) (word j h) ∙ e)

  pub topmost_some : (nm i : ℕ) → Topmost (slice_range t base (base + n)) nm (Some i) →
      (i < n) × ((j : ℕ) → i < j → j < n → get_or t (base + j) 0 % 65536 ≡ nm → ⊥) × (get_or t (base + i) 0 % 65536 ≡ nm)
  topmost_some nm i f =
      let low : i < n = omega (arith, f.0, long) in
      (low, (λ j l h e. f.1 j l (omega (arith, long)) (ap (λ (w : ℕ). w % 65536) (word j h) ∙ e)), sym (ap (λ (w : ℕ). w % 65536) (word i low)) ∙ f.2)
