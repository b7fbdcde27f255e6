-- `form_of` meets its contract.
use Rattle.image_code.proofs.Forms.{forms, form_known, form_unknown}
use native.Mathlib.Omega.{arith}
use Rattle.image_code.proofs.form_of.Goals as goal

pub returns-then-op-le-METHOD : goal.returns-then-op-le-METHOD
unfolding forms
returns-then-op-le-METHOD c = form_known c.args.op (omega arith)

pub returns : goal.returns
returns c = form_unknown c.args.op (omega arith)
