-- `patch_jump` meets its contract.
use borrow.Author.Rules.{rules}
use native.Mathlib.Omega.{arith}
use mathlib.Core.Path.{refl}
use lib.ListN.{length-set}
use Rattle.steps.proofs.Steps.{next, stop}
use Rattle.steps.proofs.Jumps as ways
use Rattle.steps.specs.View.{code_len}
use Rattle.step_jumps.proofs.patch_jump.Goals as goal

pub overflow_sub-distance-2 : goal.overflow_sub-distance-2
unfolding code_len
overflow_sub-distance-2 c = let k = c.requires.1 in omega arith

pub overflow_sub-distance-3 : goal.overflow_sub-distance-3
unfolding code_len
overflow_sub-distance-3 c = let k = c.requires.1 in omega arith

pub returns-then-distance-gt-JUMP-clause-does : goal.returns-then-distance-gt-JUMP-clause-does
unfolding code_len
returns-then-distance-gt-JUMP-clause-does c =
    λ class. stop _ (ways.far c.args.level c.args.place _ c.args.span _ _ _
    c.requires.0 c.requires.1 refl c.if-distance-gt-JUMP.true)

pub overflow_add-at : goal.overflow_add-at
unfolding code_len
overflow_add-at c = let k = c.requires.1 in omega arith

pub bounds-work-at : goal.bounds-work-at
unfolding code_len
bounds-work-at c = let k = c.requires.1 in omega (arith, c.requires.0.coded.within, c.requires.0.coded.room_code)

pub overflow_add-work : goal.overflow_add-work
unfolding code_len
overflow_add-work c = let k = c.requires.1 in omega arith

pub bounds-work-at-2 : goal.bounds-work-at-2
unfolding code_len
bounds-work-at-2 c =
    let k = c.requires.1 in simp length-set (omega (arith, c.requires.0.coded.within, c.requires.0.coded.room_code))

pub returns-clause-does : goal.returns-clause-does
unfolding code_len
returns-clause-does c =
    λ class. next (ways.patched c.args.level c.args.place _ c.args.span _ _
    _ c.requires.0 c.requires.1 refl (search rules))
