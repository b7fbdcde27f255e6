-- `emit_u8` meets its contract.
use mathlib.Core.Path.{sym, ◌∙◌}
use Rattle.state_code.proofs.Emit as ways
use Rattle.state_code.proofs.emit_u8.Goals as goal

pub returns-then-limit-n : goal.returns-then-limit-n
returns-then-limit-n c =
    let a = c.args in
    ways.full a.t.now a.code.now a.spans.now a.level a.limit a.byte a.span c.requires.0 c.requires.1 c.requires.2 _ c.if-limit-n.true

pub returns-then-can_grow : goal.returns-then-can_grow
returns-then-can_grow c =
    let a = c.args in
    ways.grown a.t.now a.code.now a.spans.now a.level a.limit a.byte a.span c.requires.0 c.requires.1 c.requires.2
    c.if-limit-n.false (sym c.can_grow.ensures ∙ c.if-can_grow.true)

pub returns : goal.returns
returns c =
    let a = c.args in
    ways.fresh a.t.now a.code.now a.spans.now a.level a.limit a.byte a.span c.requires.0 c.requires.1 c.requires.2
    c.if-limit-n.false (sym c.can_grow.ensures ∙ c.if-can_grow.false)
