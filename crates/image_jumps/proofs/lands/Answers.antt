-- `lands` meets its contract.
use Prim.Native.Nat.{◌+◌, ◌*◌, ◌≤◌}
use native.Mathlib.Omega.{arith}
use mathlib.Core.Path.{refl}
use lib.ListN.{get_or}
use Rattle.image_code.specs.Table.{kinds_in}
use Rattle.image_jumps.proofs.Landing.{no_jump, jump_room, ahead_end, ahead_past, ahead_near, back_far, back_past, back_near}
use Rattle.image_jumps.proofs.lands.Goals as goal

pub returns-then-op-lt-JUMP : goal.returns-then-op-lt-JUMP
returns-then-op-lt-JUMP c =
    no_jump (kinds_in c.args.kinds.now) c.args.code.now c.args.at _ refl (λ l u. omega (arith, c.if-op-lt-JUMP.true))

pub returns-then-op-gt-LOOP : goal.returns-then-op-gt-LOOP
returns-then-op-gt-LOOP c =
    no_jump (kinds_in c.args.kinds.now) c.args.code.now c.args.at _ refl (λ l u. omega (arith, c.if-op-gt-LOOP.true))

pub overflow_add-far : goal.overflow_add-far
overflow_add-far c =
    let r = jump_room (kinds_in c.args.kinds.now) c.args.code.now c.args.at _ refl c.if-op-lt-JUMP.false c.if-op-gt-LOOP.false c.requires.code_in_bounds in
    omega (arith, r)

pub bounds-code-at-2 : goal.bounds-code-at-2
bounds-code-at-2 c =
    let r = jump_room (kinds_in c.args.kinds.now) c.args.code.now c.args.at _ refl c.if-op-lt-JUMP.false c.if-op-gt-LOOP.false c.requires.code_in_bounds in
    omega (arith, r)

pub overflow_add-far-2 : goal.overflow_add-far-2
overflow_add-far-2 c =
    let r = jump_room (kinds_in c.args.kinds.now) c.args.code.now c.args.at _ refl c.if-op-lt-JUMP.false c.if-op-gt-LOOP.false c.requires.code_in_bounds in
    omega (arith, r)

pub bounds-code-at-3 : goal.bounds-code-at-3
bounds-code-at-3 c =
    let r = jump_room (kinds_in c.args.kinds.now) c.args.code.now c.args.at _ refl c.if-op-lt-JUMP.false c.if-op-gt-LOOP.false c.requires.code_in_bounds in
    omega (arith, r)

pub overflow_mul-far : goal.overflow_mul-far
overflow_mul-far c =
    omega (arith, c.type_inv.code (c.args.at + 1), c.type_inv.code (c.args.at + 2))

pub overflow_add-far-3 : goal.overflow_add-far-3
overflow_add-far-3 c =
    omega (arith, c.type_inv.code (c.args.at + 1), c.type_inv.code (c.args.at + 2))

pub overflow_add-next : goal.overflow_add-next
overflow_add-next c =
    let r = jump_room (kinds_in c.args.kinds.now) c.args.code.now c.args.at _ refl c.if-op-lt-JUMP.false c.if-op-gt-LOOP.false c.requires.code_in_bounds in
    omega (arith, r)

pub overflow_add-to : goal.overflow_add-to
overflow_add-to c =
    let far = get_or c.args.code.now (c.args.at + 1) 0 + 256 * get_or c.args.code.now (c.args.at + 2) 0 in
    let r = jump_room (kinds_in c.args.kinds.now) c.args.code.now c.args.at _ refl c.if-op-lt-JUMP.false c.if-op-gt-LOOP.false c.requires.code_in_bounds in
    omega (arith, r, c.type_inv.code (c.args.at + 1), c.type_inv.code (c.args.at + 2))

pub returns-then-to-code : goal.returns-then-to-code
returns-then-to-code c =
    let far = get_or c.args.code.now (c.args.at + 1) 0 + 256 * get_or c.args.code.now (c.args.at + 2) 0 in
    ahead_end (kinds_in c.args.kinds.now) c.args.code.now c.args.at _ refl far refl c.if-op-lt-JUMP.false c.if-op-lt-LOOP.true c.if-to-code.true

pub returns-then-to-code-2 : goal.returns-then-to-code-2
returns-then-to-code-2 c =
    let far = get_or c.args.code.now (c.args.at + 1) 0 + 256 * get_or c.args.code.now (c.args.at + 2) 0 in
    ahead_past (kinds_in c.args.kinds.now) c.args.code.now c.args.at _ refl far refl c.if-op-lt-JUMP.false c.if-op-lt-LOOP.true c.if-to-code-2.true

pub bounds-ring-to : goal.bounds-ring-to
bounds-ring-to c =
    c.requires.near.1 _ (omega arith)

pub returns-then-op-lt-LOOP : goal.returns-then-op-lt-LOOP
returns-then-op-lt-LOOP c =
    let far = get_or c.args.code.now (c.args.at + 1) 0 + 256 * get_or c.args.code.now (c.args.at + 2) 0 in
    let small : far ≤ 65535 = omega (arith, c.type_inv.code (c.args.at + 1), c.type_inv.code (c.args.at + 2)) in
    ahead_near (kinds_in c.args.kinds.now) c.args.code.now c.args.at _ refl far refl c.args.ring.now c.requires.near.0 small c.if-op-lt-JUMP.false
    c.if-op-lt-LOOP.true (omega arith)

pub returns-then-far-next : goal.returns-then-far-next
returns-then-far-next c =
    let far = get_or c.args.code.now (c.args.at + 1) 0 + 256 * get_or c.args.code.now (c.args.at + 2) 0 in
    back_far (kinds_in c.args.kinds.now) c.args.code.now c.args.at _ refl far refl (omega (arith, c.if-op-gt-LOOP.false, c.if-op-lt-LOOP.false)) c.if-far-next.true

pub returns-then-to-code-3 : goal.returns-then-to-code-3
returns-then-to-code-3 c =
    let far = get_or c.args.code.now (c.args.at + 1) 0 + 256 * get_or c.args.code.now (c.args.at + 2) 0 in
    back_past (kinds_in c.args.kinds.now) c.args.code.now c.args.at _ refl far refl
    (omega (arith, c.if-op-gt-LOOP.false, c.if-op-lt-LOOP.false)) c.if-far-next.false c.if-to-code-3.true

pub bounds-ring-to-2 : goal.bounds-ring-to-2
bounds-ring-to-2 c =
    c.requires.near.1 _ (omega arith)

pub returns : goal.returns
returns c =
    let far = get_or c.args.code.now (c.args.at + 1) 0 + 256 * get_or c.args.code.now (c.args.at + 2) 0 in
    let small : far ≤ 65535 = omega (arith, c.type_inv.code (c.args.at + 1), c.type_inv.code (c.args.at + 2)) in
    back_near (kinds_in c.args.kinds.now) c.args.code.now c.args.at _ refl far refl c.args.ring.now c.requires.near.0 small
    (omega (arith, c.if-op-gt-LOOP.false, c.if-op-lt-LOOP.false)) c.if-far-next.false c.if-to-code-3.false
