-- `pairs` meets its contract.
use mathlib.Core.Path.{◌≡◌, sym, ◌∙◌}
use native.Mathlib.Omega.{arith}
use Rattle.image_fit.proofs.Pairing.{pair_fits, pair_first, pairs_end, pair_outer, pair_local, pair_bad, both_false, both_true}
use Rattle.image_fit.proofs.pairs.Goals.{in-0, in-1, in_default-is_local}
use Rattle.image_fit.proofs.pairs.Goals as goal

pub returns-then-not-fits : goal.returns-then-not-fits
returns-then-not-fits c =
    let is : c.match-is_local.fits ≡ pair_fits c.args.upvalues c.loop-left.left.now = elim c.match-is_local.branch [
      | in-0 w ↦ w.fits-is ∙ pair_outer c.args.upvalues c.loop-left.left.now (omega arith)
      | in-1 w ↦ w.fits-is ∙ pair_local c.args.upvalues c.loop-left.left.now (omega arith)
      | in_default-is_local w ↦ w.fits-is ∙ pair_bad c.args.upvalues c.loop-left.left.now (λ q. omega arith) (λ q. omega arith)
    ] in
    sym (c.loop-left.invariant ∙ pair_first c.args.upvalues c.loop-left.left.now c.in-len2-up.len_at_least ∙ both_false _ _ (sym is ∙ c.if-not-fits.true))

pub loop-left-preserved : goal.loop-left-preserved
loop-left-preserved c =
    let is : c.match-is_local.fits ≡ pair_fits c.args.upvalues c.loop-left.left.now = elim c.match-is_local.branch [
      | in-0 w ↦ w.fits-is ∙ pair_outer c.args.upvalues c.loop-left.left.now (omega arith)
      | in-1 w ↦ w.fits-is ∙ pair_local c.args.upvalues c.loop-left.left.now (omega arith)
      | in_default-is_local w ↦ w.fits-is ∙ pair_bad c.args.upvalues c.loop-left.left.now (λ q. omega arith) (λ q. omega arith)
    ] in
    c.loop-left.invariant ∙ pair_first c.args.upvalues c.loop-left.left.now c.in-len2-up.len_at_least ∙ both_true _ _ (sym is ∙ c.if-not-fits.false)

pub returns : goal.returns
returns c = sym (c.loop-left.invariant ∙ sym (pairs_end c.args.upvalues c.loop-left.left.now c.in_default.len_below _ c.is_empty.ensures))
