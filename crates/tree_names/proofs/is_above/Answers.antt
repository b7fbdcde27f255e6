-- `is_above` meets its contract: the library's order of slices is the rules'.
use Rattle.std.proofs.Common.{arith, ◌∙◌}
use Rattle.tree_names.proofs.Texts.{above_none, above_some, before_is}
use Rattle.tree_names.proofs.is_above.Goals as goal

pub returns-in_default : goal.returns-in_default
returns-in_default c = above_none _ _ _ c.in_default.is

pub returns : goal.returns
returns c =
    let o = before_is _ _ _ c.cmp.ensures ∙ above_some _ _ _ c.in-Some.is in
    grind (arith, o)
