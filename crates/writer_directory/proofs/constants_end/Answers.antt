-- `constants_end`: where the constants that are left end is where all of them end.
use mathlib.Core.Path.{sym, ap, ◌∙◌}
use Prim.Native.Nat.{◌+◌, ◌-◌}
use native.Mathlib.Omega.{arith}
use Rattle.writer_directory.specs.Walk.{constants_end}
use Rattle.writer_directory.proofs.Ends.{constants_more, constants_none}
use Rattle.writer_directory.proofs.constants_end.Goals as goal

pub loop-preserved : goal.loop-preserved
loop-preserved c =
    let a = c.args in
    let loop = c.loop in
    ap (constants_end a.s.now (a.count - (loop.counter + 1))) c.constant_end-at.ensures
    ∙ sym (constants_more a.s.now (a.count - loop.counter) _ loop.at (omega (arith, c.loop-test.true)) (omega arith)) ∙ loop.invariant

pub returns : goal.returns
returns c =
    let loop = c.loop in
    constants_none c.args.s.now (c.args.count - loop.counter) loop.at (omega (arith, c.loop-test.false)) ∙ loop.invariant
