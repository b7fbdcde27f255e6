-- `slot_of` meets its contract.
use Rattle.image_constants.proofs.New.{slot_least, slot_low, slot_high, below_least, below_low, below_high}
use Rattle.image_constants.proofs.slot_of.Goals as goal

pub returns-then-size-lt4096 : goal.returns-then-size-lt4096
returns-then-size-lt4096 c = (slot_least c.args.size c.args.word c.if-size-lt4096.true, below_least c.args.size c.args.word c.requires)

pub returns-then-size-lt65536 : goal.returns-then-size-lt65536
returns-then-size-lt65536 c = (
  slot_low c.args.size c.args.word c.if-size-lt4096.false c.if-size-lt65536.true,
  below_low c.args.size c.args.word c.if-size-lt4096.false,
)

pub returns : goal.returns
returns c = (
  slot_high c.args.size c.args.word c.if-size-lt65536.false,
  below_high c.args.size c.args.word c.if-size-lt65536.false,
)
