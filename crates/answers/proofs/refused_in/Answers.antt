-- `refused_in` meets its contract: the refusal's own fields, and the function's.
use mathlib.Core.Path.{ap}
use Rattle.rules.specs.declared.Answer.{Answer}
use Rattle.rules.specs.Answer.{in_function, refusal_in}
use Rattle.answers.proofs.refused_in.Goals as goal

pub returns : goal.returns
unfolding refusal_in
returns c = let x = c.args.x in ap (λ (a : Answer). in_function a x.function x.around) c.refused-a.ensures
