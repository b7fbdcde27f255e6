-- `code_answer` meets its contract: the number of what is told of the lookup.
use mathlib.Core.Path.{ap, ◌∙◌}
use Rattle.rules.specs.declared.Answer.{Answer}
use Rattle.rules.specs.Answer.{at_offset}
use Rattle.rules.specs.Checker.{code_part}
use Rattle.image.proofs.Lookup.{only_number}
use Rattle.image.proofs.code_answer.Goals as goal

pub returns : goal.returns
unfolding code_part
returns c =
    ap (λ (a : Answer). at_offset a.number 0) c.code_part-part.ensures.value ∙ only_number c.args.image.now c.args.k
