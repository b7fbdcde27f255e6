-- `all_new` meets its contract: the words that are passed are different, and their slots have the mark.
use native.Mathlib.Omega.{arith}
use mathlib.Core.Path.{refl}
use lib.ListN.{length, get_or}
use Rattle.std.proofs.lemmas.Bool.{iff_false}
use Rattle.image_constants.specs.Words.{slot_in}
use Rattle.image_constants.proofs.New.{same_slot, news_looked, news_stamped, news_done, news_found, news_other}
use Rattle.image_constants.proofs.all_new.Goals as goal
use Rattle.image_constants.proofs.all_new.Goals.{then-stamps-slot, else-stamps-slot+else-holds}

pub returns-then-holds : goal.returns-then-holds
returns-then-holds c =
    news_found c.args.words.now c.args.mark (length c.args.words.now) (omega arith) c.loop-i.i (get_or c.args.words.now c.loop-i.i 0)
    (omega (arith, c.loop-i-test.true)) refl (c.if-holds.ensures.0 refl)

pub loop-i-preserved : goal.loop-i-preserved
loop-i-preserved c =
    let slot = same_slot (length c.loop-i.stamps) _ _ _ c.loop-i.invariant.size c.slot_of-slot.ensures.0 in
    elim c.if-stamps-slot.branch [
      | then-stamps-slot w ↦
          rw w.stamps-is (news_stamped c.args.words.now c.args.mark (slot_in (length c.args.stamps.now)) (length c.args.stamps.now)
          c.loop-i.stamps c.loop-i.i _ c.slot_of-slot.result c.loop-i.invariant refl slot w.if-stamps-slot.true
          (omega (arith, c.slot_of-slot.ensures.1, c.loop-i.invariant.size)))
      | else-stamps-slot+else-holds w ↦
          rw w.stamps-is (news_looked c.args.words.now c.args.mark (slot_in (length c.args.stamps.now)) (length c.args.stamps.now)
          c.loop-i.stamps c.loop-i.i _ c.slot_of-slot.result c.loop-i.invariant refl slot w.if-stamps-slot.false
          (news_other c.args.words.now c.loop-i.i (get_or c.args.words.now c.loop-i.i 0) (omega (arith, c.loop-i-test.true)) (iff_false w.holds.ensures w.if-holds.false)))
    ]

pub returns : goal.returns
returns c =
    news_done c.args.words.now c.args.mark (length c.args.words.now) (omega arith) (slot_in (length c.args.stamps.now))
    (length c.args.stamps.now) c.loop-i.stamps c.loop-i.i c.loop-i.invariant c.loop-i-test.false
