-- `literal_at` meets its contract.
use mathlib.Core.Path.{sym, ap, ◌∙◌}
use Prim.Native.Nat.{◌+◌}
use native.Mathlib.Omega.{arith}
use Rattle.rules.specs.declared.Refusal.TheVariants.{TreeForm}
use Rattle.tree_small.specs.Places.{place}
use Rattle.tree_exprs.proofs.Expressions.{literal_no, literal_plain, literal_number, literal_string, step_moved}
use Rattle.tree_exprs.proofs.literal_at.Goals as goal

pub returns-in_default : goal.returns-in_default
unfolding place
returns-in_default c =
    λ s. sym (ap place (literal_no c.args.opened.now.tree.now c.args.names (TreeForm c.args.opened.now.start) s
    (c.args.opened.now.start + 10) (c.byte_at.ensures.no c.in_default.is (TreeForm c.args.opened.now.start))))

pub returns-then-kind-lt3 : goal.returns-then-kind-lt3
returns-then-kind-lt3 c =
    λ s. step_moved (omega arith) (literal_plain c.args.opened.now.tree.now c.args.names (TreeForm c.args.opened.now.start)
    s (c.args.opened.now.start + 10) _ (c.byte_at.ensures.is _ c.in-Some.is (TreeForm c.args.opened.now.start)) c.if-kind-lt3.true)

pub returns-then-kind-eq3 : goal.returns-then-kind-eq3
returns-then-kind-eq3 c =
    λ s. c.number_at.ensures ∙ sym (literal_number c.args.opened.now.tree.now c.args.names
    (TreeForm c.args.opened.now.start) s (c.args.opened.now.start + 10) _
    (c.byte_at.ensures.is _ c.in-Some.is (TreeForm c.args.opened.now.start)) c.if-kind-eq3.true (omega arith))

pub returns-in_default-name_at : goal.returns-in_default-name_at
unfolding place
returns-in_default-name_at c =
    λ s. sym (literal_string c.args.opened.now.tree.now c.args.names (TreeForm c.args.opened.now.start) s
    (c.args.opened.now.start + 10) _ (c.byte_at.ensures.is _ c.in-Some.is
    (TreeForm c.args.opened.now.start)) (c.byte_at.ensures.small _ c.in-Some.is)
    c.if-kind-lt3.false c.if-kind-eq3.false (omega arith) ∙ ap place
    (c.name_at.ensures.no c.in_default-name_at.is (TreeForm c.args.opened.now.start)))

pub returns : goal.returns
unfolding place
returns c =
    λ s. step_moved (omega arith) (literal_string c.args.opened.now.tree.now c.args.names
    (TreeForm c.args.opened.now.start) s (c.args.opened.now.start + 10) _
    (c.byte_at.ensures.is _ c.in-Some.is (TreeForm c.args.opened.now.start))
    (c.byte_at.ensures.small _ c.in-Some.is) c.if-kind-lt3.false
    c.if-kind-eq3.false (omega arith) ∙ ap place (c.name_at.ensures.is _ c.in-Some-name_at.is (TreeForm c.args.opened.now.start)))
