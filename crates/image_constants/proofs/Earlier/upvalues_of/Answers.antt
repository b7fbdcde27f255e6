-- `upvalues_of` meets its contract.
use Rattle.image_constants.proofs.Earlier.upvalues_of.Goals as goal

pub returns-then-j-self : goal.returns-then-j-self
returns-then-j-self c = c.args.self.now.known c.args.j c.requires c.if-j-self.true

pub returns : goal.returns
returns c = c.upvalues_by_walk.ensures c.args.self.now.k c.requires c.args.self.now.there
