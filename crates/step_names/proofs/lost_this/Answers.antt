-- `lost_this` meets its contract.
use mathlib.Core.Path.{sym, ap}
use mathlib.Core.Bool.{Bool, ◌&&◌}
use lib.Dec.{eqb}
use borrow.Author.Tests.{eq-eqb, ne_eqb}
use Rattle.step_names.proofs.lost_this.Goals as goal

pub returns-then-name-ne-THIS : goal.returns-then-name-ne-THIS
returns-then-name-ne-THIS c = let a = c.args in sym (ap (λ (b : Bool). b && eqb a.class 0) (ne_eqb _ _ c.if-name-ne-THIS.true))

pub returns : goal.returns
returns c = let a = c.args in sym (ap (λ (b : Bool). b && eqb a.class 0) (eq-eqb _ _ c.if-name-ne-THIS.false))
