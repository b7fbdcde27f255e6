-- `directory_of` meets its contract: the functions of an image end where their bytes do.
use native.Mathlib.Omega.{arith}
use mathlib.Core.Path.{refl, sym, ◌∙◌}
use Rattle.image.proofs.Lookup.{accepted_is, no_directory, nothing_behind, directory_told}
use Rattle.image.proofs.directory_of.Goals as goal

pub returns-in_default : goal.returns-in_default
returns-in_default c =
    c.refused.ensures ∙ no_directory c.args.image.now (sym c.in_default.is ∙ c.count_of.ensures)

pub returns-then-at-image : goal.returns-then-at-image
returns-then-at-image c =
    c.accepted.ensures ∙ nothing_behind c.args.image.now _ _ (sym c.in-Some.is ∙ c.count_of.ensures) c.if-at-image.true

pub u32_at-requires : goal.u32_at-requires
u32_at-requires c =
    omega (arith, (accepted_is c.args.image.now _ _ (sym c.in-Some.is ∙ c.count_of.ensures)).room)

pub returns : goal.returns
returns c =
    directory_told c.args.image.now _ _ (sym c.in-Some.is ∙ c.count_of.ensures) c.if-at-image.false
    _ _ _ refl refl c.u32_at.ensures
