-- `upvalues_by_walk` meets its contract.
use mathlib.Core.Path.{sym, ◌∙◌}
use Rattle.image_constants.proofs.Kinding.{walk_lost, walk_headless, walk_there}
use Rattle.image_constants.proofs.upvalues_by_walk.Goals as goal

pub returns-in_default : goal.returns-in_default
returns-in_default c = λ k h g. walk_lost c.args.s.now c.args.j k g h (sym c.in_default.is ∙ c.function_place.ensures) 0

pub returns-in_default-head_of : goal.returns-in_default-head_of
returns-in_default-head_of c =
    λ k h g. walk_headless c.args.s.now c.args.j k g h c.in-Some.at (sym c.in-Some.is ∙ c.function_place.ensures)
    (sym c.in_default-head_of.is ∙ c.head_of.ensures) 0

pub returns : goal.returns
returns c =
    λ k l g. walk_there c.args.s.now c.args.j k g l c.in-Some.at (sym c.in-Some.is ∙ c.function_place.ensures)
    c.in-Some-head_of.h (sym c.in-Some-head_of.is ∙ c.head_of.ensures)
