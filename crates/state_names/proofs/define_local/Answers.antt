-- `define_local` meets its contract.
use Prim.Native.Nat.{◌+◌, ◌*◌, ◌-◌}
use native.Mathlib.Omega.{arith}
use lib.ListN.{get_or}
use Rattle.state_names.proofs.Declare as ways
use Rattle.state.specs.Layout.{level_words, local_count_place}
use Rattle.state_names.proofs.define_local.Goals as goal

pub returns-then-n-eq0 : goal.returns-then-n-eq0
returns-then-n-eq0 c =
    let a = c.args in
    ways.define_none a.t.now a.level c.requires.0 c.requires.1 c.if-n-eq0.true

pub returns-then-w-eq0 : goal.returns-then-w-eq0
returns-then-w-eq0 c =
    let a = c.args in
    ways.define_now a.t.now a.level c.requires.0 c.requires.1 (get_or a.t.now (a.level * level_words + local_count_place) 0 - 1) (omega arith) c.if-w-eq0.true

pub returns-else-w-eq0 : goal.returns-else-w-eq0
returns-else-w-eq0 c =
    let a = c.args in
    ways.define_again a.t.now a.level c.requires.0 c.requires.1 (get_or a.t.now (a.level * level_words + local_count_place) 0 - 1) (omega arith) c.if-w-eq0.false
