-- `number_at` meets its contract.
use mathlib.Core.Bool.{not}
use mathlib.Core.Path.{sym, ap}
use native.Mathlib.Omega.{arith}
use Rattle.rules.specs.declared.Refusal.TheVariants.{TreeForm}
use Rattle.tree_small.specs.Places.{place}
use Rattle.tree_small.proofs.Places.{cut, there}
use Rattle.tree_exprs.proofs.Expressions.{number_cut, number_big, number_is}
use Rattle.tree_exprs.proofs.number_at.Goals as goal

pub returns-then-not-has : goal.returns-then-not-has
unfolding place
returns-then-not-has c =
    sym (ap place (number_cut c.args.opened.now.tree.now (TreeForm c.args.opened.now.start)
    c.args.at (cut c.has.ensures (ap not c.if-not-has.true))))

pub returns-then-u64_at-gt-MAX_BITS : goal.returns-then-u64_at-gt-MAX_BITS
unfolding place
returns-then-u64_at-gt-MAX_BITS c =
    sym (ap place (number_big c.args.opened.now.tree.now (TreeForm c.args.opened.now.start) c.args.at
    (there c.has.ensures (ap not c.if-not-has.false)) (omega (arith, c.u64_at.ensures, c.if-u64_at-gt-MAX_BITS.true))))

pub returns : goal.returns
unfolding place
returns c =
    sym (ap place (number_is c.args.opened.now.tree.now (TreeForm c.args.opened.now.start) c.args.at
    (there c.has.ensures (ap not c.if-not-has.false)) (omega (arith, c.u64_at.ensures, c.if-u64_at-gt-MAX_BITS.false))))
