-- `behind` meets its contract: what is refused is no directory of the functions, and of one that is as long as theirs the entries decide. Assumes
-- nothing.
use native.Mathlib.Omega.{arith}
use mathlib.Core.Path.{◌∙◌}
use borrow.Author.Rules.{rules}
use Rattle.image_directory.proofs.Directory.{nothing, no_directory, no_count, by_offsets}
use Rattle.image_directory.proofs.behind.Goals as goal

pub returns-then-at-image : goal.returns-then-at-image
returns-then-at-image c = nothing c.args.image.now c.args.count c.args.at c.requires c.if-at-image.true

pub returns-in_default : goal.returns-in_default
returns-in_default c =
    no_directory c.args.image.now c.args.count c.args.at c.requires c.if-at-image.false (c.entry_count.ensures.lost c.in_default.is)

pub returns-then-said-count : goal.returns-then-said-count
returns-then-said-count c =
    let there = c.entry_count.ensures.there c.in-Some.said c.in-Some.is in
    no_count c.args.image.now c.args.count c.args.at c.requires c.if-at-image.false (omega (arith, there.1.1))
    there.0 c.in-Some.said there.1.0 c.if-said-count.true

pub returns : goal.returns
returns c =
    let there = c.entry_count.ensures.there c.in-Some.said c.in-Some.is in
    c.offsets.ensures ∙ by_offsets c.args.image.now c.args.count c.args.at c.requires c.if-at-image.false (omega (arith, there.1.1))
    there.0 c.in-Some.said there.1.0 (search rules)
