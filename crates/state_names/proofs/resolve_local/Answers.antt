-- `resolve_local` meets its contract.
use Rattle.state_names.proofs.Resolve as ways
use Rattle.state_names.proofs.resolve_local.Goals as goal
use Rattle.state_names.proofs.resolve_local.Goals.{then-mark+then-w-eq0-2, then-mark+else-w-eq0-2, else-mark}

pub returns-in_default : goal.returns-in_default
returns-in_default c =
    let a = c.args in
    ways.nothing a.t.now a.level a.name c.requires.0 c.requires.1 a.mark c.in_default.ensures

pub returns-then-w-eq0 : goal.returns-then-w-eq0
returns-then-w-eq0 c =
    let a = c.args in
    ways.unready a.t.now a.level a.name c.requires.0 c.requires.1 _ c.in-Some.ensures a.mark _ c.if-w-eq0.true

pub returns : goal.returns
returns c =
    let a = c.args in
    elim c.if-mark.branch [
      | then-mark+then-w-eq0-2 w ↦ rw (w.if-mark.true, w.t-is) (ways.marked a.t.now a.level a.name c.requires.0 c.requires.1 _ c.in-Some.ensures c.if-w-eq0.false w.if-w-eq0-2.true)
      | then-mark+else-w-eq0-2 w ↦ rw (w.if-mark.true, w.t-is) (ways.again a.t.now a.level a.name c.requires.0 c.requires.1 _ c.in-Some.ensures c.if-w-eq0.false w.if-w-eq0-2.false)
      | else-mark w ↦ rw (w.if-mark.false, w.t-is) (ways.plain a.t.now a.level a.name c.requires.0 c.requires.1 _ c.in-Some.ensures c.if-w-eq0.false)
    ]
