-- `note_all` meets its contract: what was noted is the functions that are passed.
use Rattle.image_naming.proofs.Walking.{all_begin_with, all_capped, all_lost, all_on, all_done}
use Rattle.image_naming.proofs.note_all.Goals as goal

pub loop-init : goal.loop-init
loop-init c = all_begin_with c.args.s.now c.args.count c.args.base c.args.seen.now c.requires.1 c.requires.0

pub note_function-requires : goal.note_function-requires
note_function-requires c =
    all_capped c.args.s.now c.args.count c.args.base c.args.seen.now c.requires.1 c.loop.seen c.loop.at c.loop.counter c.loop.invariant

pub returns-in_default : goal.returns-in_default
returns-in_default c =
    all_lost c.args.s.now c.args.count c.args.base c.args.seen.now c.requires.1 c.loop.seen c.loop.at c.loop.counter
    c.loop.invariant c.loop-test.true _ (rw c.in_default.is at c.note_function.ensures)

pub loop-preserved : goal.loop-preserved
loop-preserved c =
    all_on c.args.s.now c.args.count c.args.base c.args.seen.now c.requires.1 c.loop.seen c.loop.at c.loop.counter c.loop.invariant
    c.loop-test.true c.in-Some.next c.note_function.result c.in-Some.is _ c.note_function.ensures

pub returns : goal.returns
returns c =
    all_done c.args.s.now c.args.count c.args.base c.args.seen.now c.requires.1 c.loop.seen c.loop.at c.loop.counter c.loop.invariant c.loop-test.false
