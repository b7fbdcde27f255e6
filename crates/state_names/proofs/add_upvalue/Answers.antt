-- `add_upvalue` meets its contract.
use Rattle.state_names.proofs.Adding as ways
use Rattle.state_names.proofs.add_upvalue.Goals as goal

pub returns-in-Some : goal.returns-in-Some
returns-in-Some c =
    let a = c.args in
    ways.there a.t.now a.level a.is_local a.index c.ranges.index.fits c.requires.0 c.requires.1 _ c.in-Some.ensures

pub returns-then-n-ge-UPVALUES : goal.returns-then-n-ge-UPVALUES
returns-then-n-ge-UPVALUES c =
    let a = c.args in
    ways.full a.t.now a.level a.is_local a.index c.ranges.index.fits c.requires.0 c.requires.1 c.in_default.ensures c.if-n-ge-UPVALUES.true

pub returns : goal.returns
returns c =
    let a = c.args in
    ways.pushed a.t.now a.level a.is_local a.index c.ranges.index.fits c.requires.0 c.requires.1 c.in_default.ensures c.if-n-ge-UPVALUES.false
