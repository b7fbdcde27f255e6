-- `code_fits` meets its contract.
use mathlib.Core.Path.{refl, sym, ◌∙◌, ap}
use mathlib.Core.Bool.{Bool}
use Rattle.std.specs.Prelude.{if◌then◌else◌, Some, None}
use lib.ListN.{length}
use Rattle.rules.specs.Division.{operands_fit}
use Rattle.image_code.specs.Table.{kinds_in, division, from, judged, judged_code}
use Rattle.image_closures.proofs.Counting.{closing_begin}
use Rattle.image_closures.proofs.Named.{counted_once}
use Rattle.image_fit.proofs.Judging.{division_is}
use Rattle.image_judge.proofs.Walked.{walked_none, walked_some, lands_no, once_is}
use Rattle.image_judge.proofs.code_fits.Goals as goal

pub returns-in_err-n : goal.returns-in_err-n
returns-in_err-n c =
    c.from_residual.ensures ∙ walked_none (kinds_in c.args.kinds.now) c.args.upvalues (length c.args.code.now)
    (division (kinds_in c.args.kinds.now) c.args.code.now)
    (sym c.in_err-n.was ∙ c.walk.ensures)

pub jumps-requires : goal.jumps-requires
jumps-requires c = (
  (walked_some (operands_fit (kinds_in c.args.kinds.now) c.args.upvalues) c.in_ok-n.n (from (kinds_in c.args.kinds.now) c.args.code.now 0 0)
      (sym c.in_ok-n.was ∙ c.walk.ensures ∙ ap (judged (operands_fit (kinds_in c.args.kinds.now) c.args.upvalues) 0) (division_is (kinds_in c.args.kinds.now) c.args.code.now))).divides,
  c.requires,
)

pub returns-then-not-jumps : goal.returns-then-not-jumps
returns-then-not-jumps c =
    lands_no (kinds_in c.args.kinds.now) c.args.upvalues (length c.args.code.now)
    c.in_ok-n.n (from (kinds_in c.args.kinds.now) c.args.code.now 0 0)
    (walked_some (operands_fit (kinds_in c.args.kinds.now) c.args.upvalues) c.in_ok-n.n (from (kinds_in c.args.kinds.now) c.args.code.now 0 0)
    (sym c.in_ok-n.was ∙ c.walk.ensures ∙ ap (judged (operands_fit (kinds_in c.args.kinds.now) c.args.upvalues) 0) (division_is (kinds_in c.args.kinds.now) c.args.code.now)))
    (sym c.if-not-jumps.true ∙ c.jumps.ensures) ∙ ap (judged_code (kinds_in c.args.kinds.now) c.args.upvalues (length c.args.code.now)) (sym (division_is (kinds_in c.args.kinds.now) c.args.code.now))

pub closures-requires : goal.closures-requires
closures-requires c =
    closing_begin c.args.kinds.now c.args.code.now _ refl
    (walked_some (operands_fit (kinds_in c.args.kinds.now) c.args.upvalues) c.in_ok-n.n (from (kinds_in c.args.kinds.now) c.args.code.now 0 0)
    (sym c.in_ok-n.was ∙ c.walk.ensures ∙ ap (judged (operands_fit (kinds_in c.args.kinds.now) c.args.upvalues) 0) (division_is (kinds_in c.args.kinds.now) c.args.code.now))).divides

pub returns-then-not-all_once : goal.returns-then-not-all_once
returns-then-not-all_once c =
    ap (λ (b : Bool). if b then Some c.in_ok-n.n else None) (sym c.if-not-all_once.true) ∙ once_is (kinds_in c.args.kinds.now) c.args.upvalues (length c.args.code.now)
    c.in_ok-n.n (from (kinds_in c.args.kinds.now) c.args.code.now 0 0)
    (walked_some (operands_fit (kinds_in c.args.kinds.now) c.args.upvalues) c.in_ok-n.n (from (kinds_in c.args.kinds.now) c.args.code.now 0 0)
    (sym c.in_ok-n.was ∙ c.walk.ensures ∙ ap (judged (operands_fit (kinds_in c.args.kinds.now) c.args.upvalues) 0) (division_is (kinds_in c.args.kinds.now) c.args.code.now))) c.all_once.result
    (sym c.if-not-jumps.false ∙ c.jumps.ensures)
    (c.all_once.ensures ∙ counted_once c.args.kinds.now c.closures.new.named c.args.code.now c.closures.ensures) ∙ ap (judged_code (kinds_in c.args.kinds.now) c.args.upvalues (length c.args.code.now)) (sym (division_is (kinds_in c.args.kinds.now) c.args.code.now))

pub returns : goal.returns
returns c =
    ap (λ (b : Bool). if b then Some c.in_ok-n.n else None) (sym c.if-not-all_once.false) ∙ once_is (kinds_in c.args.kinds.now) c.args.upvalues (length c.args.code.now)
    c.in_ok-n.n (from (kinds_in c.args.kinds.now) c.args.code.now 0 0)
    (walked_some (operands_fit (kinds_in c.args.kinds.now) c.args.upvalues) c.in_ok-n.n (from (kinds_in c.args.kinds.now) c.args.code.now 0 0)
    (sym c.in_ok-n.was ∙ c.walk.ensures ∙ ap (judged (operands_fit (kinds_in c.args.kinds.now) c.args.upvalues) 0) (division_is (kinds_in c.args.kinds.now) c.args.code.now))) c.all_once.result
    (sym c.if-not-jumps.false ∙ c.jumps.ensures)
    (c.all_once.ensures ∙ counted_once c.args.kinds.now c.closures.new.named c.args.code.now c.closures.ensures) ∙ ap (judged_code (kinds_in c.args.kinds.now) c.args.upvalues (length c.args.code.now)) (sym (division_is (kinds_in c.args.kinds.now) c.args.code.now))
