-- `note_count` meets its contract.
use mathlib.Core.Path.{sym, ◌∙◌}
use Rattle.image_functions.proofs.All.{note_headless, note_set, note_past}
use Rattle.image_functions.proofs.note_count.Goals as goal

pub returns-in_default : goal.returns-in_default
returns-in_default c =
    note_headless c.args.s.now c.args.k c.args.at
    c.args.counts.now c.requires.counts c.requires.next_is (sym c.in_default.is ∙ c.head_of.ensures)

pub returns-then-k-counts : goal.returns-then-k-counts
returns-then-k-counts c =
    note_set c.args.s.now c.args.k c.args.at c.args.counts.now
    c.requires.counts c.requires.next_is c.in-Some.h (sym c.in-Some.is ∙ c.head_of.ensures) c.if-k-counts.true

pub returns-else-k-counts : goal.returns-else-k-counts
returns-else-k-counts c =
    note_past c.args.s.now c.args.k c.args.at c.args.counts.now
    c.requires.counts c.requires.next_is c.if-k-counts.false
