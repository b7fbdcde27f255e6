-- `record_end` goes on by the counts of the record's head.
use mathlib.Core.Path.{◌≡◌, sym, ap, ◌∙◌}
use Prim.Native.Nat.{ℕ, ◌+◌, ◌≤◌}
use native.Mathlib.Omega.{arith}
use mathlib.Core.List.{List}
use lib.ListN.{length}
use borrow.Author.Tests.{leb-true, leb-false}
use Rattle.writer_directory.specs.Walk.{constants_end}
use Rattle.writer_directory.proofs.Ends.{record_cut, record_there, constants_near}
use Rattle.writer_directory.proofs.record_end.Goals as goal

pub returns-then-not-has : goal.returns-then-not-has
returns-then-not-has c =
    record_cut c.args.s.now c.args.at
    (leb-false _ _ (sym c.has.ensures ∙ c.if-not-has.true))

-- the runs begin where the constants end, which is not far behind the bytes
near : (s : List ℕ) (at count runs_at : ℕ) → at + 17 ≤ length s → runs_at ≡ constants_end s count (at + 17) → runs_at ≤ length s + 8
near s at count runs_at there is = omega (arith, is, constants_near s count (at + 17) (omega (arith, there)))

pub overflow_add-result : goal.overflow_add-result
overflow_add-result c =
    let bound = near c.args.s.now c.args.at c.u16_at-constants.result c.constants_end-runs_at.result
    (leb-true _ _ (sym c.has.ensures ∙ c.if-not-has.false)) c.constants_end-runs_at.ensures in
    omega (arith, bound, c.well_formed)

pub overflow_add-result-3 : goal.overflow_add-result-3
overflow_add-result-3 c =
    let bound = near c.args.s.now c.args.at c.u16_at-constants.result c.constants_end-runs_at.result
    (leb-true _ _ (sym c.has.ensures ∙ c.if-not-has.false)) c.constants_end-runs_at.ensures in
    omega (arith, bound, c.well_formed)

pub returns : goal.returns
returns c =
    let a = c.args in
    let e = c.constants_end-runs_at.ensures ∙ ap (λ (k : ℕ). constants_end a.s.now k (a.at + 17)) c.u16_at-constants.ensures in
    omega (arith, e, c.u32_at-runs.ensures, c.u32_at-code.ensures) ∙
    record_there a.s.now a.at (leb-true _ _ (sym c.has.ensures ∙ c.if-not-has.false))
