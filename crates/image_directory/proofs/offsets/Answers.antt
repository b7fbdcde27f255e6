-- `offsets` meets its contract: whether the entries that are left are right is whether all of them are.
use Prim.Native.Nat.{◌+◌, ◌-◌, ◌*◌}
use native.Mathlib.Omega.{arith}
use mathlib.Core.Path.{◌≡◌, sym, ◌∙◌}
use Rattle.image_directory.proofs.Entries.{none_left, lost, other, passed}
use Rattle.image_directory.proofs.offsets.Goals as goal

pub returns-then-u32_at-at : goal.returns-then-u32_at-at
returns-then-u32_at-at c =
    let i = c.loop-i.i in
    other c.args.image.now c.loop-i.at (c.args.first + 4 * i) (c.args.count - i) (omega (arith, c.loop-i-test.true))
    (omega (arith, c.loop-i-test.true, c.requires)) (λ q. c.if-u32_at-at.true (c.u32_at.ensures ∙ q)) ∙ sym c.loop-i.invariant

pub returns-in_default : goal.returns-in_default
returns-in_default c =
    let i = c.loop-i.i in
    lost c.args.image.now c.loop-i.at (c.args.first + 4 * i) (c.args.count - i) (omega (arith, c.loop-i-test.true))
    (sym c.in_default.is ∙ c.skip_function.ensures) ∙ sym c.loop-i.invariant

pub loop-i-preserved : goal.loop-i-preserved
loop-i-preserved c =
    let i = c.loop-i.i in
    let entry : c.args.first + 4 * i + 4 ≡ c.args.first + 4 * (i + 1) = omega arith in
    let left : c.args.count - i - 1 ≡ c.args.count - (i + 1) = omega arith in
    c.loop-i.invariant ∙ rw (entry, left) at
    (passed c.args.image.now c.loop-i.at (c.args.first + 4 * i) (c.args.count - i) c.in-Some.next
    (sym c.in-Some.is ∙ c.skip_function.ensures) (omega (arith, c.loop-i-test.true))
    (omega (arith, c.loop-i-test.true, c.requires)) (sym c.u32_at.ensures ∙ c.if-u32_at-at.false))

pub returns : goal.returns
returns c =
    let i = c.loop-i.i in
    none_left c.args.image.now c.loop-i.at (c.args.first + 4 * i) (c.args.count - i) (omega (arith, c.loop-i-test.false))
    (omega (arith, c.loop-i-test.false, c.loop-i.auto.i-end, c.requires)) ∙ sym c.loop-i.invariant
