-- What `resolve_upvalue` answers at each of its ways out, by the laws of looking outward.
use Prim.Native.Nat.{ℕ}
use Rattle.std.proofs.Common.{rules}
use mathlib.Core.Path.{subst, sym}
use Rattle.std.specs.Prelude.{Ok, None}
use Rattle.state.specs.Meaning.{Captured}
use Rattle.state_names.proofs.Outward as outward
use Rattle.state_names.proofs.+resolve_upvalue.Goals as goal

pub returns-then-level-eq0 : goal.returns-then-level-eq0
returns-then-level-eq0 t c =
    subst (λ (m : ℕ). Captured c.args.t.now c.args.t.now m c.args.name (Ok None)) (sym c.if-level-eq0.true) (outward.outermost c.args.t.now c.args.name c.requires.1)

pub returns-in-Ok-Some : goal.returns-in-Ok-Some
returns-in-Ok-Some t c =
    let l = c.args.level in
    outward.at_inner c.args.t.now _ l c.args.name c.if-level-eq0.false c.requires.0 c.requires.1 _
    c.resolve_local-slot.ensures _ _ _ (search rules) c.add_upvalue.ensures

pub returns-in-Err : goal.returns-in-Err
returns-in-Err t c =
    let l = c.args.level in
    outward.at_unready c.args.t.now _ l c.args.name c.if-level-eq0.false c.requires.0 c.requires.1 _
    c.resolve_local-slot.ensures _ c.in-Err.is

pub returns-in_default : goal.returns-in_default
returns-in_default t c =
    let l = c.args.level in
    outward.at_not_found c.args.t.now _ l c.args.name c.if-level-eq0.false c.requires.0 c.requires.1 _
    c.resolve_local-slot.ensures (search rules) _ _
    c.resolve_upvalue-r.ensures (let is = c.in_default.is in λ i e. search rules)

pub returns-in_default-2 : goal.returns-in_default-2
returns-in_default-2 t c =
    let l = c.args.level in
    outward.at_not_found c.args.t.now _ l c.args.name c.if-level-eq0.false c.requires.0 c.requires.1 _
    c.resolve_local-slot.ensures (search rules) _ _
    c.resolve_upvalue-r.ensures (let is = c.in_default.is in λ i e. search rules)

pub returns : goal.returns
returns t c =
    let l = c.args.level in
    outward.at_found c.args.t.now _ l c.args.name c.if-level-eq0.false c.requires.0 c.requires.1 _
    c.resolve_local-slot.ensures (search rules) _ _
    c.resolve_upvalue-r.ensures _ _ _ (search rules) c.add_upvalue-2.ensures
