-- `constant_end` goes on by the mark.
use mathlib.Core.Path.{◌≡◌, sym, ap, ◌∙◌}
use Prim.Native.Nat.{ℕ, ◌+◌, ◌≤◌}
use native.Mathlib.Omega.{arith}
use mathlib.Core.List.{List}
use lib.ListN.{length}
use Rattle.fields.specs.Words.{letters}
use borrow.Author.Tests.{leb-true, leb-false}
use Rattle.writer_directory.specs.Walk.{constant_size, constant_end}
use Rattle.writer_directory.proofs.Ends.{constant_cut, constant_there, number_size, string_size, function_size}
use Rattle.writer_directory.proofs.constant_end.Goals as goal

pub returns-then-not-has : goal.returns-then-not-has
returns-then-not-has c =
    constant_cut c.args.s.now c.args.at
    (leb-false _ _ (sym c.has.ensures ∙ c.if-not-has.true))

-- where the constant ends, from its size by the mark that was read
ends : (s : List ℕ) (at mark size : ℕ) → at + 2 ≤ length s → mark ≡ letters s at → size ≡ constant_size mark → at + size ≡ constant_end s at
ends s at mark size there is e = ap (λ (k : ℕ). at + k) (e ∙ ap constant_size is) ∙ constant_there s at there

pub mark_at-mark-requires : goal.mark_at-mark-requires
mark_at-mark-requires c = leb-true _ _ (sym c.has.ensures ∙ c.if-not-has.false)

pub overflow_add-result : goal.overflow_add-result
overflow_add-result c = omega (arith, leb-true _ _ (sym c.has.ensures ∙ c.if-not-has.false), c.well_formed)

pub returns-then-mark-eq-NUMBER_CONSTANT : goal.returns-then-mark-eq-NUMBER_CONSTANT
returns-then-mark-eq-NUMBER_CONSTANT c =
    ends c.args.s.now c.args.at c.mark_at-mark.result _ (leb-true _ _ (sym c.has.ensures ∙ c.if-not-has.false)) c.mark_at-mark.ensures
    (number_size _ c.if-mark-eq-NUMBER_CONSTANT.true)

pub overflow_add-result-then-mark-eq-STRING_CONSTANT : goal.overflow_add-result-then-mark-eq-STRING_CONSTANT
overflow_add-result-then-mark-eq-STRING_CONSTANT c = omega (arith, leb-true _ _ (sym c.has.ensures ∙ c.if-not-has.false), c.well_formed)

pub returns-then-mark-eq-STRING_CONSTANT : goal.returns-then-mark-eq-STRING_CONSTANT
returns-then-mark-eq-STRING_CONSTANT c =
    ends c.args.s.now c.args.at c.mark_at-mark.result _ (leb-true _ _ (sym c.has.ensures ∙ c.if-not-has.false)) c.mark_at-mark.ensures
    (string_size _ c.if-mark-eq-NUMBER_CONSTANT.false c.if-mark-eq-STRING_CONSTANT.true)

pub overflow_add-result-2 : goal.overflow_add-result-2
overflow_add-result-2 c = omega (arith, leb-true _ _ (sym c.has.ensures ∙ c.if-not-has.false), c.well_formed)

pub returns : goal.returns
returns c =
    ends c.args.s.now c.args.at c.mark_at-mark.result _ (leb-true _ _ (sym c.has.ensures ∙ c.if-not-has.false)) c.mark_at-mark.ensures
    (function_size _ c.if-mark-eq-NUMBER_CONSTANT.false c.if-mark-eq-STRING_CONSTANT.false)
