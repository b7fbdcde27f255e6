-- `once_in` meets its contract.
use Prim.Native.Nat.{ℕ}
use native.Mathlib.Omega.{arith}
use mathlib.Core.Path.{◌∙◌, ap}
use lib.ListN.{length, get_or}
use lib.Dec.{eqb}
use Rattle.rules.specs.Base.{all_below}
use Rattle.rules.specs.Checker.{names_in_all}
use Rattle.image_constants.specs.Earlier.{earlier}
use Rattle.image_naming.proofs.Walking.{zeros_capped, block_is}
use Rattle.image_naming.proofs.once_in.Goals as goal

pub note_all-requires : goal.note_all-requires
note_all-requires c = (zeros_capped c.args.seen.now c.requires.blank, c.requires.s_value)

pub returns : goal.returns
returns c =
    c.all_one.ensures ∙ ap (λ (m : ℕ). all_below m (λ (i : ℕ). eqb (get_or c.note_all.new.seen i 0) 1)) c.note_all.ensures.size ∙
    block_is c.args.seen.now c.requires.blank c.args.base (length c.args.seen.now)
    (λ (number : ℕ). names_in_all number (earlier c.args.s.now c.args.count)) _ (omega arith) c.note_all.ensures
