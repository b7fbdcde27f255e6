-- The code limit that a tree needs, `code_needed`, is the peak of its run: the most that the code of the open functions comes to, summed, right after
-- any byte, to the end or the first refusal by a rule of the Rust. 30 comes back exactly under a smaller limit. It is at most one for each byte of the
-- tree's records, so a code area of a byte for each byte of the tree file, and a span area of three words for each, are room enough.
use mathlib.Core.Path.{◌≡◌, refl, subst}
use mathlib.Core.Logic.{◌↔◌}
use mathlib.Core.Bool.{Bool, true, false}
use Prim.Native.Nat.{ℕ, ◌+◌, ◌≤◌, ◌<◌}
use native.Mathlib.Omega.{arith}
use lib.Dec.{leb, leb→le, nleb→lt}
use Rattle.rules.specs.declared.Refusal.TheVariants.{CodeFull}
use Rattle.rules.specs.Tree.{Stmts}
use Rattle.rules.specs.Compiler as c
use Rattle.rules_laws.proofs.Refusals.{RefusedBy}
use Rattle.rules_laws.proofs.Trees.{OfStmts, stmts_size}
use Rattle.rules_laws.proofs.TreeBytes.{fitting}
use Rattle.rules_laws.proofs.Sizes.{Within, within}
use Rattle.rules_laws.proofs.Peak.{peak, moments_of, peak_fits, peak_full, full_by_30, free_run_not_full}

abbrev pub code_needed : Stmts → ℕ
code_needed stmts = peak (moments_of stmts)

-- for all statements and limits
pub full_exactly : (stmts : Stmts) (limit : ℕ) → RefusedBy CodeFull (c.compile_functions limit stmts) ↔ (limit < code_needed stmts)
full_exactly stmts limit = (by_peak (leb (code_needed stmts) limit) refl, λ l. full_by_30 (peak_full stmts limit l))
  where
    by_peak : (b : Bool) → leb (code_needed stmts) limit ≡ b → RefusedBy CodeFull (c.compile_functions limit stmts) → limit < code_needed stmts
    by_peak true e d =
        absurd (free_run_not_full stmts (subst (RefusedBy CodeFull) (peak_fits stmts limit (leb→le (code_needed stmts) limit (rw e tt))) d))
    by_peak false e d = nleb→lt (code_needed stmts) limit (rw e tt)

-- of statements as the reader gives them
pub needed_most : (most : ℕ) (stmts : Stmts) → OfStmts (fitting most) stmts most → code_needed stmts ≤ stmts_size stmts + 2
needed_most most stmts o = by_peak (leb (code_needed stmts) (stmts_size stmts + 2)) refl
  where
    by_peak : (b : Bool) → leb (code_needed stmts) (stmts_size stmts + 2) ≡ b → code_needed stmts ≤ stmts_size stmts + 2
    by_peak true e = leb→le (code_needed stmts) (stmts_size stmts + 2) (rw e tt)
    by_peak false e =
        absurd (subst Within (peak_full stmts (stmts_size stmts + 2) (nleb→lt (code_needed stmts) (stmts_size stmts + 2) (rw e tt))).is
        (within (stmts_size stmts + 2) most stmts o (omega arith)))
