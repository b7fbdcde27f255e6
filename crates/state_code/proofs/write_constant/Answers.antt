-- `write_constant` meets its contract.
use Rattle.state_code.proofs.Constant as ways
use Rattle.state_code.proofs.write_constant.Goals as goal

pub returns-in-Some : goal.returns-in-Some
returns-in-Some c =
    let a = c.args in
    ways.there a.t.now a.level a.w c.requires.0 c.requires.1 _ c.in-Some.ensures

pub returns-then-n-ge-CONSTANTS : goal.returns-then-n-ge-CONSTANTS
returns-then-n-ge-CONSTANTS c =
    let a = c.args in
    ways.full a.t.now a.level a.w c.requires.0 c.requires.1 c.in_default.ensures _ c.if-n-ge-CONSTANTS.true

pub returns : goal.returns
returns c =
    let a = c.args in
    ways.pushed a.t.now a.level a.w c.requires.0 c.requires.1 c.in_default.ensures c.if-n-ge-CONSTANTS.false
