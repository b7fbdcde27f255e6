-- `all_one` meets its contract: the counts that are passed are 1.
use Prim.Native.Nat.{ℕ}
use native.Mathlib.Omega.{arith}
use mathlib.Core.Path.{sym}
use lib.ListN.{length, get_or}
use lib.Dec.{eqb}
use borrow.Author.Tests.{eq-eqb, ne_eqb}
use Rattle.image_code.proofs.Once.{below_more_true, below_false, all_begin}
use Rattle.image_naming.proofs.all_one.Goals as goal

pub loop-times-init : goal.loop-times-init
loop-times-init c = all_begin (λ (j : ℕ). eqb (get_or c.args.seen.now j 0) 1)

pub returns-then-times-ne1 : goal.returns-then-times-ne1
returns-then-times-ne1 c =
    sym (below_false (length c.args.seen.now) c.loop-times.times-index (λ (j : ℕ). eqb (get_or c.args.seen.now j 0) 1)
    (omega (arith, c.loop-times-test.true)) (ne_eqb _ _ c.if-times-ne1.true))

pub loop-times-preserved : goal.loop-times-preserved
loop-times-preserved c =
    below_more_true c.loop-times.times-index (λ (j : ℕ). eqb (get_or c.args.seen.now j 0) 1) c.loop-times.invariant (eq-eqb _ _ c.if-times-ne1.false)
