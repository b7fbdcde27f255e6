-- Who unfolds this can compute with a form that is known.
use Rattle.rules.specs.Op.{size_of}
use Rattle.rules.specs.Division.{size_with}
use Rattle.image_code.specs.Forms.{by_form, operands_in, operands_by, with_opcode, width_with, width_by}

unfoldable pub computes : Unit {0}
unfolding size_of size_with by_form operands_in operands_by with_opcode width_with width_by
computes = tt
