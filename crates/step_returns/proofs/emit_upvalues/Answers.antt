-- `emit_upvalues` meets its contract, by its loop's invariant: there are as many upvalues as may be, and their words are as they were.
use Rattle.step_returns.proofs.Closures as ways
use Prim.Native.Nat.{◌+◌}
use native.Mathlib.Omega.{arith}
use borrow.Author.Rules.{rules}
use Rattle.state.specs.Layout.{upvalues_place}
use Rattle.step_returns.proofs.emit_upvalues.Goals as goal

pub returns-in_default-clause-does : goal.returns-in_default-clause-does
returns-in_default-clause-does c =
    λ class. let a = c.args in ways.going_stop a.limit a.level a.span _ _ _ c.loop-i.i _ _
    c.loop-i.invariant.0 c.loop-i-test.true _
    (ways.word_kept a.limit a.level a.span _ _ _ c.loop-i.i _ _ c.loop-i.invariant.0
    (upvalues_place + c.loop-i.i) c.requires.1
    (omega (arith, c.requires.0.wf.few_upvalues (a.level + 1) c.requires.1, c.loop-i-test.true)))
    c.emit_pair-a.ensures.does c.in_default.is

pub loop-i-preserved : goal.loop-i-preserved
loop-i-preserved c =
    let a = c.args in (
      ways.going_on a.limit a.level a.span _ _ _ c.loop-i.i _ _
          c.loop-i.invariant.0 c.loop-i-test.true _
          (ways.word_kept a.limit a.level a.span _ _ _ c.loop-i.i _ _ c.loop-i.invariant.0
          (upvalues_place + c.loop-i.i) c.requires.1
          (omega (arith, c.requires.0.wf.few_upvalues (a.level + 1) c.requires.1, c.loop-i-test.true)))
          c.emit_pair-a.ensures.does c.in-Ok.is,
      c.loop-i.invariant.1,
      search rules,
    )

pub returns-clause-does : goal.returns-clause-does
returns-clause-does c = λ class. let a = c.args in ways.gone a.limit a.level a.span _ _ _ c.loop-i.i _ _ c.loop-i.invariant.0 (omega (arith, c.loop-i-test.false))
