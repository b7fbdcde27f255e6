-- `resolve` meets its contract.
use Rattle.std.proofs.Common.{rules}
use Rattle.step_names.proofs.Names as ways
use Rattle.step_names.proofs.resolve.Goals as goal

pub returns-in-Ok-Some : goal.returns-in-Ok-Some
returns-in-Ok-Some c = let a = c.args in ways.at_local a.level a.name a.span _ _ _ c.resolve_local-slot.ensures _ (search rules)

pub returns-in-Err : goal.returns-in-Err
returns-in-Err c = let a = c.args in ways.at_unready a.level a.name a.span _ _ _ c.resolve_local-slot.ensures c.in-Err.is

pub returns-in-Ok-Some-up : goal.returns-in-Ok-Some-up
returns-in-Ok-Some-up c =
    let a = c.args in ways.at_upvalue a.level a.name a.span _ _ _ c.resolve_local-slot.ensures
    (search rules) _ _ c.resolve_upvalue-up.ensures _ c.requires.0 (search rules)

pub returns-in-Ok-None-up : goal.returns-in-Ok-None-up
returns-in-Ok-None-up c =
    let a = c.args in ways.at_global a.level a.name a.span _ _ _ c.resolve_local-slot.ensures
    (search rules) _ _ c.resolve_upvalue-up.ensures (search rules)

pub returns-in-Err-Unready : goal.returns-in-Err-Unready
returns-in-Err-Unready c =
    let a = c.args in ways.at_outer_unready a.level a.name a.span _ _ _ c.resolve_local-slot.ensures
    (search rules) _ _ c.resolve_upvalue-up.ensures (search rules)

pub returns-in-Err-Full : goal.returns-in-Err-Full
returns-in-Err-Full c =
    let a = c.args in ways.at_full a.level a.name a.span _ _ _ c.resolve_local-slot.ensures
    (search rules) _ _ c.resolve_upvalue-up.ensures (search rules)
