-- `note` meets its contract.
use Prim.Native.Nat.{◌-◌, ◌/◌}
use native.Mathlib.Omega.{arith}
use Rattle.image_naming.proofs.Counting.{note_none, note_below, note_above, note_full, note_more}
use Rattle.image_naming.proofs.note.Goals as goal

pub returns-then-word-ne3 : goal.returns-then-word-ne3
returns-then-word-ne3 c = note_none c.args.word c.args.base c.args.seen.now c.requires c.if-word-ne3.true

pub returns-then-number-base : goal.returns-then-number-base
returns-then-number-base c = note_below c.args.word c.args.base c.args.seen.now c.requires c.if-word-ne3.false c.if-number-base.true

pub returns-then-slot-seen : goal.returns-then-slot-seen
returns-then-slot-seen c =
    note_above c.args.word c.args.base c.args.seen.now c.requires c.if-word-ne3.false (c.args.word / 4 - c.args.base)
    (omega (arith, c.if-number-base.false)) c.if-slot-seen.true

pub returns-then-times-lt2 : goal.returns-then-times-lt2
returns-then-times-lt2 c =
    note_more c.args.word c.args.base c.args.seen.now c.requires c.if-word-ne3.false (c.args.word / 4 - c.args.base)
    (omega (arith, c.if-number-base.false)) c.if-slot-seen.false c.if-times-lt2.true

pub returns-else-times-lt2 : goal.returns-else-times-lt2
returns-else-times-lt2 c =
    note_full c.args.word c.args.base c.args.seen.now c.requires c.if-word-ne3.false (c.args.word / 4 - c.args.base)
    (omega (arith, c.if-number-base.false)) c.if-slot-seen.false c.if-times-lt2.false
