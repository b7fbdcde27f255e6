-- A row of runs, from one of them on, and where it ends.
use mathlib.Core.Path.{◌≡◌, refl, ap, ap₂, ◌∙◌}
use Prim.Native.Nat.{ℕ, zero, suc, ◌+◌, ◌-◌, ◌*◌, ◌≤◌, ◌<◌}
use mathlib.Core.List.{List, ◌++◌, []}
use native.Mathlib.Omega.{arith}
use lib.ListN.{length, length-append}
use Rattle.rules.specs.Base.{le}
use Rattle.rules.specs.Chunk.{Run}
use Rattle.rules.specs.Image.{join, run_bytes}
use Rattle.state.specs.Layout.{row}
use Rattle.state.proofs.Laws.{row_cong}
use Rattle.writer_bytes.specs.Put.{Put}

pub length_run : (run : Run) → length (run_bytes run) ≡ 11
unfolding run_bytes le
length_run run = refl

-- the runs from `i` on
pub runs_more : (g : ℕ → Run) (n i : ℕ) → i < n → join run_bytes (row (λ k. g (i + k)) (n - i)) ≡ run_bytes (g i) ++ join run_bytes (row (λ k. g (i + 1 + k)) (n - (i + 1)))
unfolding join row
runs_more g n i l =
    let one : n - i ≡ suc (n - (i + 1)) = omega arith in
    ap (λ (m : ℕ). join run_bytes (row (λ k. g (i + k)) m)) one
    ∙ ap₂ (λ (j : ℕ) (rs : List Run). run_bytes (g j) ++ join run_bytes rs) (from i) (row_cong (λ k. g (i + suc k)) (λ k. g (i + 1 + k)) (n - (i + 1)) (λ k h. ap g (next i k)))
  where
    from : (a : ℕ) → a + 0 ≡ a
    from a = omega arith

    next : (a k : ℕ) → a + suc k ≡ a + 1 + k
    next a k = omega arith

pub runs_none : (g : ℕ → Run) (n i : ℕ) → n ≤ i → join run_bytes (row (λ k. g (i + k)) (n - i)) ≡ []
unfolding join row
runs_none g n i l = let none : n - i ≡ 0 = omega arith in ap (λ (m : ℕ). join run_bytes (row (λ k. g (i + k)) m)) none

pub runs_next : {out out' : List ℕ} {at r : ℕ} (g : ℕ → Run) (count : ℕ) → Put out out' at (join run_bytes (row g count)) r → r ≡ at + count * 11
unfolding join row
runs_next {at = at} g count p = omega (arith, p.next, long g count)
  where
    long : (g : ℕ → Run) (count : ℕ) → length (join run_bytes (row g count)) ≡ count * 11
    long g zero = omega arith
    long g (suc count) = omega (arith, length-append (run_bytes (g 0)) (join run_bytes (row (λ k. g (suc k)) count)), length_run (g 0), long (λ k. g (suc k)) count)
