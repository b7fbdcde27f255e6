-- `declare_local` meets its contract.
use mathlib.Core.Path.{sym, ◌∙◌}
use Rattle.state_names.proofs.Declare as ways
use Rattle.state_names.proofs.declare_local.Goals as goal

pub returns-then-is_some : goal.returns-then-is_some
returns-then-is_some c =
    let a = c.args in
    ways.already a.t.now a.level a.name c.ranges.name.fits c.requires.0 c.requires.1 (sym c.clashing.ensures ∙ sym c.is_some.ensures ∙ c.if-is_some.true)

pub returns-then-n-ge-LOCALS : goal.returns-then-n-ge-LOCALS
returns-then-n-ge-LOCALS c =
    let a = c.args in
    ways.full a.t.now a.level a.name c.ranges.name.fits c.requires.0 c.requires.1 (sym c.clashing.ensures ∙ sym c.is_some.ensures ∙ c.if-is_some.false) c.if-n-ge-LOCALS.true

pub returns : goal.returns
returns c =
    let a = c.args in
    ways.pushed a.t.now a.level a.name c.ranges.name.fits c.requires.0 c.requires.1 (sym c.clashing.ensures ∙ sym c.is_some.ensures ∙ c.if-is_some.false) c.if-n-ge-LOCALS.false
