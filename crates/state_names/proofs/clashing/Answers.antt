-- `clashing` meets its contract. A scan from the top down: what it has passed decides nothing.
use Prim.Native.Nat.{ℕ}
use native.Mathlib.Omega.{arith}
use mathlib.Core.Path.{sym, ◌∙◌}
use lib.ListN.{get_or}
use Rattle.rules.specs.Compiler.{Local}
use Rattle.state_names.proofs.Declare as ways
use Rattle.state.specs.Layout.{local_of}
use Rattle.state_names.proofs.clashing.Goals as goal

pub loop-i-preserved : goal.loop-i-preserved
loop-i-preserved c =
    let a = c.args in
    let f : ℕ → Local = λ j. local_of (get_or a.locals.now j 0) in
    (omega arith, sym (ways.clash_skip f a.name a.depth c.loop-i.i (omega arith) c.if-w-depth.false c.if-w-name.false) ∙ c.loop-i.invariant.1)

pub returns-then-i-eq0 : goal.returns-then-i-eq0
returns-then-i-eq0 c =
    let a = c.args in
    sym (ways.clash_none (λ j. local_of (get_or a.locals.now j 0)) a.name a.depth c.loop-i.i c.if-i-eq0.true) ∙ c.loop-i.invariant.1

pub returns-then-w-depth : goal.returns-then-w-depth
returns-then-w-depth c =
    let a = c.args in
    sym (ways.clash_stop (λ j. local_of (get_or a.locals.now j 0)) a.name a.depth c.loop-i.i (omega arith) c.if-w-depth.true) ∙ c.loop-i.invariant.1

pub returns-then-w-name : goal.returns-then-w-name
returns-then-w-name c =
    let a = c.args in
    sym (ways.clash_hit (λ j. local_of (get_or a.locals.now j 0)) a.name a.depth c.loop-i.i (omega arith) c.if-w-depth.false c.if-w-name.true) ∙ c.loop-i.invariant.1
