-- What the parts of a code's judgement told, put together.
use mathlib.Core.Path.{◌≡◌, refl, sym, ◌∙◌}
use mathlib.Core.Bool.{Bool, true, false, ◌&&◌}
use mathlib.Core.Option.{Option, none, some}
use mathlib.Core.List.{List}
use Prim.Native.Nat.{ℕ, ◌+◌}
use native.Mathlib.Omega.{arith}
use lib.ListN.{length}
use Rattle.rules.specs.Base.{all, all_below}
use Rattle.std.specs.Prelude.{if◌then◌else◌, Some, None}
use Rattle.rules.specs.Division.{Kind, Instruction, operands_fit, lands}
use Rattle.image_code.specs.Table.{instructions, is_some, judged, closed_by, code_right, judged_code}
use Rattle.image_code.proofs.Steps.{no_true}

-- what the walk told
pub record Walked (p : Instruction → Bool) (n : ℕ) (d : Option (List Instruction)) : Type 0 where
  pub divides : is_some d ≡ true
  pub fits : all p (instructions d) ≡ true
  pub number : n ≡ length (instructions d)

told : (p : Instruction → Bool) (n : ℕ) (is : List Instruction) (b : Bool) → all p is ≡ b → Some n ≡ (if b then Some (0 + length is) else None) → Walked p n (some is)
unfolding is_some instructions
told p n is true e y = record { divides = refl; fits = e; number = (let z : n ≡ 0 + length is = cc in omega arith) }
told p n is false e y = absurd (cc)

pub walked_some : (p : Instruction → Bool) (n : ℕ) (d : Option (List Instruction)) → Some n ≡ judged p 0 d → Walked p n d
unfolding judged
walked_some p n none y = absurd (cc)
walked_some p n (some is) y = told p n is (all p is) refl y

refused : (p : Instruction → Bool) (is : List Instruction) (b : Bool) → all p is ≡ b → None ≡ (if b then Some (0 + length is) else None) → all p is ≡ false
refused p is true e y = absurd (cc)
refused p is false e y = e

module _ (kind : ℕ → Kind) (u size : ℕ) where
  pub walked_none : (d : Option (List Instruction)) → None ≡ judged (operands_fit kind u) 0 d → None ≡ judged_code kind u size d
  unfolding judged judged_code code_right
  walked_none none y = refl
  walked_none (some is) y = rw (refused (operands_fit kind u) is (all (operands_fit kind u) is) refl y) refl

  judged_split : (n : ℕ) (d : Option (List Instruction)) → Walked (operands_fit kind u) n d → judged_code kind u size d
      ≡ (if all (lands (instructions d) size) (instructions d) && all_below 256 (closed_by kind (instructions d)) then Some n else None)
  unfolding judged_code code_right is_some instructions
  judged_split n none w = absurd (no_true w.divides)
  judged_split n (some is) w = rw (w.fits, w.number) refl

  module _ (n : ℕ) (d : Option (List Instruction)) (w : Walked (operands_fit kind u) n d) where
    pub judged_is : judged_code kind u size d
        ≡ (if all (lands (instructions d) size) (instructions d) && all_below 256 (closed_by kind (instructions d)) then Some n else None)
    judged_is = judged_split n d w

    pub lands_no : false ≡ all (lands (instructions d) size) (instructions d) → None ≡ judged_code kind u size d
    lands_no e = sym (judged_is ∙ rw (← e) refl)

    pub once_is : (b : Bool) → true ≡ all (lands (instructions d) size) (instructions d) → b ≡ all_below 256 (closed_by kind (instructions d))
        → (if b then Some n else None) ≡ judged_code kind u size d
    once_is b e f = sym (judged_is ∙ rw (← e, ← f) refl)
