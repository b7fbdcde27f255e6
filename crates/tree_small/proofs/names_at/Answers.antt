-- `names_at` meets its contract. The loop: what is left comes to what there was.
use mathlib.Core.Path.{ap}
use Rattle.rules.specs.declared.Refusal.TheVariants.{TreeForm}
use Rattle.tree_small.specs.Places.{place}
use Rattle.tree_small.proofs.Places.{row_stops, row_goes, row_ends}
use Rattle.tree_small.proofs.names_at.Goals as goal

pub returns-in_default : goal.returns-in_default
unfolding place
returns-in_default c = row_stops c.loop.invariant c.loop-test.true (ap place (c.name_at.ensures.no c.in_default.is (TreeForm c.args.start)))

pub loop-preserved : goal.loop-preserved
unfolding place
loop-preserved c = row_goes c.loop.invariant c.loop-test.true (ap place (c.name_at.ensures.is _ c.in-Some.is (TreeForm c.args.start)))

pub returns : goal.returns
returns c = row_ends c.loop.invariant c.loop-test.false
