-- Laws of the walk over the jumps: what is left comes to what there was.
use mathlib.Core.Path.{◌≡◌, refl, sym, ◌∙◌, ap}
use mathlib.Core.Bool.{Bool, true, false}
use mathlib.Core.Option.{Option}
use mathlib.Core.List.{List}
use Prim.Native.Nat.{ℕ, zero, suc, ◌+◌, ◌-◌, ◌<◌, ◌≤◌}
use native.Mathlib.Omega.{arith}
use lib.ListN.{length, get_or, drop}
use Rattle.rules.specs.Division.{Kind, Instruction, lands}
use Rattle.image_code.specs.Forms.{width}
use Rattle.image_code.specs.Table.{instruction_at, from, instructions, is_some, Wide}
use Rattle.image_code.proofs.Steps.{passed, has_width}
use Rattle.image_code.proofs.Turns.{goes_on, all_here, fits_in, all_done}
use Rattle.image_jumps.specs.Ring.{Filled, Near, all_land}

-- the jumps before `at` land, in a code that divides, and the ring is filled up to `lead`
pub record Jumping (kind : ℕ → Kind) (code : List ℕ) (ring : List Bool) (at skip lead lead-skip : ℕ) : Type 0 where
  pub within : at ≤ length code
  pub divides : is_some (from kind code at skip) ≡ true
  pub left : all_land kind code (instructions (from kind code 0 0)) ≡ all_land kind code (instructions (from kind code at skip))
  pub filled : Filled kind code ring lead lead-skip
  pub lead_within : lead ≤ length code
  pub lead_near : lead ≤ at + 65539

module _ (kind : ℕ → Kind) (code : List ℕ) where
  pub near_of : (ring : List Bool) (at lead lead-skip : ℕ) → Filled kind code ring lead lead-skip → lead ≤ at + 65539
      → ((p : ℕ) → p < length code → p < at + 65539 → p < lead) → Near kind code ring at
  near_of ring at lead s f h least = record { near = λ p l u v. f.window p (least p l (omega arith)) (omega arith) }

  pub jump_begin : (ring : List Bool) → Wide (length code) (length ring) → is_some (from kind code 0 0) ≡ true → Jumping kind code ring 0 0 0 0
  jump_begin ring l d =
      record {
        within = omega arith;
        divides = d;
        left = refl;
        filled =
            record { room = l; divides = d; ahead = λ p h. refl; window = λ p h. absurd (omega arith); within = omega arith };
        lead_within = omega arith;
        lead_near = omega arith;
      }

  pub jump_skip : (ring : List Bool) (at skip s lead lead-skip : ℕ) → Jumping kind code ring at skip lead lead-skip → at < length code → skip ≡ suc s
      → Jumping kind code ring (at + 1) s lead lead-skip
  jump_skip ring at skip s lead lead-skip j h e =
      let same = passed kind code at skip s h e in
      record {
        within = omega arith;
        divides = rw same at j.divides;
        left = j.left ∙ ap (λ (r : Option (List Instruction)). all_land kind code (instructions r)) same;
        filled = j.filled;
        lead_within = j.lead_within;
        lead_near = omega (arith, j.lead_near);
      }

  module _ (ring : List Bool) (at skip w lead lead-skip : ℕ) (j : Jumping kind code ring at skip lead lead-skip) (z : skip ≡ 0) (h : at < length code)
      (e : w ≡ width kind (get_or code at 0) (drop (at + 1) code)) where
    abbrev good : Bool
    good = lands (instructions (from kind code 0 0)) (length code) (instruction_at kind code at)

    pub jump_width : 0 < w
    jump_width = has_width kind code at w h e (rw z at j.divides)

    pub jump_fits : at + w ≤ length code
    jump_fits = fits_in kind code at skip w z h e j.divides

    pub jump_bad : false ≡ good → false ≡ all_land kind code (instructions (from kind code 0 0))
    jump_bad b =
        let p = jump_width in
        sym (j.left ∙ all_here kind code at skip w (w - 1) z h e (omega arith) _ j.divides ∙ rw (← b) refl)

    pub jump_on : (ring' : List Bool) (lead' skip' : ℕ) → Filled kind code ring' lead' skip' → lead' ≤ length code → lead' ≤ at + 65539
        → true ≡ good → Jumping kind code ring' (at + 1) (w - 1) lead' skip'
    jump_on ring' lead' skip' f l n b =
        let p = jump_width in
        let m : w ≡ suc (w - 1) = omega arith in
        record {
          within = omega arith;
          divides = goes_on kind code at skip w (w - 1) z h e m j.divides;
          left = j.left ∙ all_here kind code at skip w (w - 1) z h e m _ j.divides ∙ rw (← b) refl;
          filled = f;
          lead_within = l;
          lead_near = omega arith;
        }

  pub jump_done : (ring : List Bool) (at skip lead lead-skip : ℕ) → Jumping kind code ring at skip lead lead-skip → length code ≤ at
      → true ≡ all_land kind code (instructions (from kind code 0 0))
  jump_done ring at skip lead lead-skip j h = sym (j.left ∙ all_done kind code at skip _ j.within h j.divides)

  pub lead_least : (ring : List Bool) (at skip lead lead-skip : ℕ) → Jumping kind code ring at skip lead lead-skip → at < length code
      → (want : ℕ) → ((p : ℕ) → p < length code → p < at + 65539 → p < want) → lead ≤ want
  lead_least ring at skip zero s j h want least = omega arith
  lead_least ring at skip (suc lead) s j h want least = least lead (omega (arith, j.lead_within)) (omega (arith, j.lead_near))
