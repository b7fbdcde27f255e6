-- `code_through` meets its contract.
use native.Mathlib.Omega.{arith}
use mathlib.Core.Path.{◌∙◌}
use Rattle.image_directory.proofs.Parts.{no_directory, no_function, through}
use Rattle.image_directory.proofs.code_through.Goals as goal

pub returns-in_default : goal.returns-in_default
returns-in_default c =
    c.refused.ensures ∙ no_directory c.args.image.now c.args.place c.args.k (c.entry_count.ensures.lost c.in_default.is)

pub returns-then-k-count : goal.returns-then-k-count
returns-then-k-count c =
    let there = c.entry_count.ensures.there c.in-Some.count c.in-Some.is in
    c.refused-then-k-count.ensures ∙ no_function c.args.image.now c.args.place c.args.k (omega (arith, there.1.1))
    there.0 c.in-Some.count there.1.0 there.1.1 c.if-k-count.true

pub returns : goal.returns
returns c =
    let there = c.entry_count.ensures.there c.in-Some.count c.in-Some.is in
    c.record_part.ensures ∙ through c.args.image.now c.args.place c.args.k (omega (arith, there.1.1))
    there.0 c.in-Some.count there.1.0 there.1.1 c.if-k-count.false
    c.u32_at.result c.u32_at.ensures
