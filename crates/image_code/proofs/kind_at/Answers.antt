-- `kind_at` meets its contract.
use Rattle.image_code.proofs.Forms.{kind_found, kind_beyond}
use Rattle.image_code.proofs.kind_at.Goals as goal

pub returns-then-at-code : goal.returns-then-at-code
returns-then-at-code c = kind_found c.args.code.now c.args.kinds.now c.args.at

pub returns : goal.returns
returns c = kind_beyond c.args.code.now c.args.kinds.now c.args.at c.if-at-code.false
