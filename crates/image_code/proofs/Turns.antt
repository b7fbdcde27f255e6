-- Laws of the walks over a code: what is left comes to what there was.
use mathlib.Core.Path.{◌≡◌, refl, sym, ◌∙◌, ap}
use mathlib.Core.Bool.{Bool, true, false}
use mathlib.Core.Option.{Option, none, some}
use mathlib.Core.List.{List, []}
use Prim.Native.Nat.{ℕ, suc, ◌+◌, ◌-◌, ◌<◌, ◌≤◌}
use native.Mathlib.Omega.{arith}
use lib.ListN.{length, get_or, drop}
use Rattle.rules.specs.Division.{Kind, Instruction, followed_by}
use Rattle.image_code.specs.Forms.{width}
use Rattle.rules.specs.Base.{all}
use Rattle.std.specs.Prelude.{if◌then◌else◌}
use Rattle.image_code.specs.Table.{instruction_at, from, instructions, is_some}
use Rattle.image_code.proofs.Steps.{here, at_size, ended, within_code, has_width, onto_some, no_true}

pub all_onto : (p : Instruction → Bool) (i : Instruction) (r : Option (List Instruction)) → is_some r ≡ true
    → all p (instructions (followed_by i r)) ≡ (if p i then all p (instructions r) else false)
unfolding is_some instructions followed_by all
all_onto p i none h = absurd (no_true h)
all_onto p i (some is) h = refl

module _ (kind : ℕ → Kind) (code : List ℕ) where
  pub instruction_is : (at size : ℕ) → width kind (get_or code at 0) (drop (at + 1) code) ≡ suc size → instruction_at kind code at ≡ at_size kind code at size
  unfolding instruction_at
  instruction_is at size e = let m : suc size - 1 ≡ size = omega arith in rw (e, m) refl

  -- at the start of an instruction
  module _ (at skip w size : ℕ) (z : skip ≡ 0) (h : at < length code)
      (e : w ≡ width kind (get_or code at 0) (drop (at + 1) code)) (s : w ≡ suc size) where
    pub begins : from kind code at skip ≡ followed_by (instruction_at kind code at) (from kind code (at + 1) size)
    begins = rw z (here kind code at size h (sym e ∙ s) ∙ rw (instruction_is at size (sym e ∙ s)) refl)

    pub goes_on : is_some (from kind code at skip) ≡ true → is_some (from kind code (at + 1) size) ≡ true
    goes_on d = sym (onto_some _ _) ∙ ap is_some (sym begins) ∙ d

    pub all_here : (p : Instruction → Bool) → is_some (from kind code at skip) ≡ true
        → all p (instructions (from kind code at skip)) ≡ (if p (instruction_at kind code at) then all p (instructions (from kind code (at + 1) size)) else false)
    all_here p d = ap (λ (r : Option (List Instruction)). all p (instructions r)) begins ∙ all_onto p _ _ (goes_on d)

  pub fits_in : (at skip w : ℕ) → skip ≡ 0 → at < length code → w ≡ width kind (get_or code at 0) (drop (at + 1) code)
      → is_some (from kind code at skip) ≡ true → at + w ≤ length code
  fits_in at skip w z h e d =
      let p : 0 < w = has_width kind code at w h e (rw z at d) in
      let f = within_code kind code (at + 1) (w - 1) (omega arith) (goes_on at skip w (w - 1) z h e (omega arith) d) in
      omega arith

  pub all_done : (at skip : ℕ) (p : Instruction → Bool) → at ≤ length code → length code ≤ at → is_some (from kind code at skip) ≡ true
      → all p (instructions (from kind code at skip)) ≡ true
  unfolding all instructions
  all_done at skip p l u d =
      let f = within_code kind code at skip l d in
      let z : skip ≡ 0 = omega arith in
      let q : from kind code at 0 ≡ some [] = ended kind code at (omega arith) in
      rw (z, q) refl
