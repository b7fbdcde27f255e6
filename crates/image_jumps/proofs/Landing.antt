-- Laws of the jumps.
use mathlib.Core.Path.{◌≡◌, refl, sym, ◌∙◌, ap}
use mathlib.Core.Bool.{Bool, true, false, ◌&&◌, ◌||◌}
use mathlib.Core.Option.{Option, none, some}
use mathlib.Core.List.{List, ◌∷◌, []}
use Prim.Native.Nat.{ℕ, zero, suc, ◌+◌, ◌-◌, ◌*◌, ◌%◌, ◌<◌, ◌≤◌}
use native.Mathlib.Omega.{arith}
use native.Mathlib.Nat.{eq-or-lt_of_le}
use mathlib.Core.Logic.{⊎_elim}
use lib.ListN.{length, get_or, take, drop, length-drop}
use lib.Dec.{leb, eqb}
use lib.Seq.{get_or-drop}
use borrow.Author.Tests.{eq-eqb, ne_eqb, le-leb, lt-leb}
use Rattle.rules.specs.Division.{Kind, Instruction, divide, is_start, word, lands, lands_by}
use Rattle.rules.specs.Op.{Operands, Plain, Byte, Captured, Value, Text, Invoke, Ahead, Back, Closure, operands_of}
use Rattle.rules.specs.Op as Op
use Rattle.image_code.specs.Forms.{operands_by, form, form_of, width}
use Rattle.image_code.proofs.Computes.{computes}
use Rattle.image_code.proofs.Forms.{ahead_only, back_only, ahead_form, back_form}
use Rattle.image_code.specs.Table.{instruction_at, from, instructions, window_size}
use Rattle.image_code.specs.declared.Form.TheVariants as variant
use Rattle.std.specs.Prelude.{Some}
use Rattle.image_jumps.specs.Ring.{start_at, Near}
use Rattle.image_code.proofs.Steps.{onto_other, none_start, divide_none, divide_op}

word_is : (l : List ℕ) → word (take 2 l) ≡ word l
word_is [] = refl
word_is (x ∷ []) = refl
word_is (x ∷ y ∷ l) = refl

get_or_from : (l : List ℕ) (n i m : ℕ) → n + i ≡ m → get_or (drop n l) i 0 ≡ get_or l m 0
get_or_from l n i m e = get_or-drop n l i 0 ∙ ap (λ (k : ℕ). get_or l k 0) e

other_lands : (is : List Instruction) (size at : ℕ) (o : Option Operands) (bytes : List ℕ) → (form o ≡ Some variant.Ahead → ⊥) → (form o ≡ Some variant.Back → ⊥)
    → true ≡ lands_by is size at (operands_by (form o)) bytes
unfolding computes form lands_by
other_lands is size at none b n m = refl
other_lands is size at (some Plain) b n m = refl
other_lands is size at (some Byte) b n m = refl
other_lands is size at (some Captured) b n m = refl
other_lands is size at (some Value) b n m = refl
other_lands is size at (some Text) b n m = refl
other_lands is size at (some Invoke) b n m = refl
other_lands is size at (some Ahead) b n m = absurd (n refl)
other_lands is size at (some Back) b n m = absurd (m refl)
other_lands is size at (some Closure) b n m = refl

or_true : (b : Bool) → (b || true) ≡ true
or_true true = refl
or_true false = refl

or_false : (b : Bool) → (b || false) ≡ b
or_false true = refl
or_false false = refl

module _ (kind : ℕ → Kind) where
  -- no instruction starts behind the end
  beyond_op : (at op : ℕ) (l : List ℕ) (p : ℕ) → at < p
      → ((size : ℕ) → is_start (instructions (divide kind (at + 1) size l)) p ≡ false)
      → (w : ℕ) → width kind op l ≡ w → is_start (instructions (divide kind at 0 (op ∷ l))) p ≡ false
  beyond_op at op l p h later zero e = rw (divide_none kind at op l e) (none_start p)
  beyond_op at op l p h later (suc size) e = rw (divide_op kind at op size l e) (onto_other _ _ p (λ q. omega arith) ∙ later size)

  beyond : (at skip : ℕ) (l : List ℕ) (p : ℕ) → at + length l ≤ p → is_start (instructions (divide kind at skip l)) p ≡ false
  unfolding divide instructions
  beyond at zero [] p h = none_start p
  beyond at (suc skip) [] p h = none_start p
  beyond at (suc skip) (b ∷ l) p h = beyond (at + 1) skip l p (omega arith)
  beyond at zero (op ∷ l) p h = beyond_op at op l p (omega arith) (λ size. beyond (at + 1) size l p (omega arith)) (width kind op l) refl

  module _ (code : List ℕ) where
    no_start : (p : ℕ) → length code ≤ p → start_at kind code p ≡ false
    unfolding from
    no_start p h = beyond 0 0 (drop 0 code) p (simp length-drop (omega arith))

    module _ (at op : ℕ) (known : op ≡ get_or code at 0) where
      abbrev far : ℕ
      far = get_or code (at + 1) 0 + 256 * get_or code (at + 2) 0

      abbrev is : List Instruction
      is = instructions (from kind code 0 0)

      abbrev verdict : Bool
      verdict = lands is (length code) (instruction_at kind code at)

      far_is : word (take 2 (drop (at + 1) code)) ≡ far
      far_is = word_is (drop (at + 1) code) ∙ rw (get_or_from code (at + 1) 0 (at + 1) (omega arith), get_or_from code (at + 1) 1 (at + 2) (omega arith)) refl

      pub no_jump : (Op.JUMP ≤ op → op ≤ Op.LOOP → ⊥) → true ≡ verdict
      unfolding instruction_at lands form_of
      no_jump n =
          rw (← known)
          (other_lands is (length code) at (operands_of op) _
          (λ (e : form_of op ≡ Some variant.Ahead). let a = ahead_only op e in n a.0 (omega (arith, a.1)))
          (λ (e : form_of op ≡ Some variant.Back). let a = back_only op e in n (omega arith) (omega arith)))

      six : (g : ℕ) → form_of g ≡ Some variant.Ahead → width kind g (drop (at + 1) code) ≡ 3
      unfolding computes width
      six g e = rw e refl

      seven : (g : ℕ) → form_of g ≡ Some variant.Back → width kind g (drop (at + 1) code) ≡ 3
      unfolding computes width
      seven g e = rw e refl

      ahead_at : Op.JUMP ≤ op → op < Op.LOOP → form_of (get_or code at 0) ≡ Some variant.Ahead
      ahead_at l h = rw (← known) (ahead_form op l h)

      back_at : op ≡ Op.LOOP → form_of (get_or code at 0) ≡ Some variant.Back
      back_at e = rw (← known) (back_form op e)

      ahead_is : form_of (get_or code at 0) ≡ Some variant.Ahead → verdict ≡ (is_start is (at + 3 + far) || eqb (at + 3 + far) (length code))
      unfolding computes instruction_at lands lands_by
      ahead_is g = rw (six (get_or code at 0) g, g, far_is) refl

      back_is : form_of (get_or code at 0) ≡ Some variant.Back → verdict ≡ (leb far (at + 3) && is_start is (at + 3 - far))
      unfolding computes instruction_at lands lands_by
      back_is g = rw (seven (get_or code at 0) g, g, far_is) refl

      pub jump_room : Op.JUMP ≤ op → op ≤ Op.LOOP → at + width kind (get_or code at 0) (drop (at + 1) code) ≤ length code → at + 3 ≤ length code
      jump_room l u fits =
          ⊎_elim (λ (e : op ≡ Op.LOOP). rw (seven (get_or code at 0) (back_at e)) at fits)
          (λ (h : op < Op.LOOP). rw (six (get_or code at 0) (ahead_at l h)) at fits)
          (eq-or-lt_of_le u)

      module _ (d : ℕ) (is-far : d ≡ far) where
        pub ahead_end : Op.JUMP ≤ op → op < Op.LOOP → at + 3 + d ≡ length code → true ≡ verdict
        ahead_end l u h = sym (ahead_is (ahead_at l u) ∙ rw (← is-far, eq-eqb _ _ h) (or_true (is_start is (at + 3 + d))))

        pub ahead_past : Op.JUMP ≤ op → op < Op.LOOP → length code < at + 3 + d → false ≡ verdict
        ahead_past l u h =
            let n : at + 3 + d ≡ length code → ⊥ = λ q. omega arith in
            sym (ahead_is (ahead_at l u) ∙ rw (← is-far, ne_eqb _ _ n, no_start (at + 3 + d) (omega arith)) refl)

        pub ahead_near : (ring : List Bool) → Near kind code ring at → d ≤ 65535 → Op.JUMP ≤ op → op < Op.LOOP → at + 3 + d < length code
            → get_or ring ((at + 3 + d) % window_size) false ≡ verdict
        ahead_near ring near small l u h =
            let n : at + 3 + d ≡ length code → ⊥ = λ q. omega arith in
            sym (ahead_is (ahead_at l u) ∙ rw (← is-far, ne_eqb _ _ n, near.near (at + 3 + d) h (omega arith) (omega arith)) (or_false (start_at kind code (at + 3 + d))))

        pub back_far : op ≡ Op.LOOP → at + 3 < d → false ≡ verdict
        back_far e h = sym (back_is (back_at e) ∙ rw (← is-far, lt-leb _ _ h) refl)

        pub back_past : op ≡ Op.LOOP → d ≤ at + 3 → length code ≤ at + 3 - d → false ≡ verdict
        back_past e l h = sym (back_is (back_at e) ∙ rw (← is-far, le-leb _ _ l, no_start (at + 3 - d) h) refl)

        pub back_near : (ring : List Bool) → Near kind code ring at → d ≤ 65535 → op ≡ Op.LOOP → d ≤ at + 3 → at + 3 - d < length code
            → get_or ring ((at + 3 - d) % window_size) false ≡ verdict
        back_near ring near small e l h =
            sym (back_is (back_at e) ∙ rw (← is-far, le-leb _ _ l, near.near (at + 3 - d) h (omega arith) (omega arith)) refl)
