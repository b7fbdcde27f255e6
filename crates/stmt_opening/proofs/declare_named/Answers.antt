-- `declare_named` meets its contract.
use Rattle.std.proofs.Common.{rules}
use Rattle.stmt_opening.proofs.Names.{named_again, named_full, named_new}
use Rattle.stmt_opening.proofs.declare_named.Goals as goal

pub returns-in-Err-Already : goal.returns-in-Err-Already
returns-in-Err-Already c = let a = c.args in named_again a.level a.next a.name a.span _ _ _ c.declare_local-r.ensures (search rules)

pub returns-in-Err-Full : goal.returns-in-Err-Full
returns-in-Err-Full c = let a = c.args in named_full a.level a.next a.name a.span _ _ _ c.declare_local-r.ensures (search rules)

pub define_local-requires : goal.define_local-requires
define_local-requires c = (c.requires.0, c.declare_local-r.ensures.wf)

pub returns : goal.returns
returns c =
    let a = c.args in named_new a.level a.next a.name a.span _ _ _ c.declare_local-r.ensures
    c.requires.0 c.requires.1 c.in-Ok.is _ c.define_local.ensures
