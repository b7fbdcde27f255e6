-- Laws of the count of CLOSUREs.
use mathlib.Core.Path.{◌≡◌, refl, sym, ◌∙◌, ap}
use mathlib.Core.Bool.{Bool, true, false}
use mathlib.Core.Option.{Option, none, some}
use mathlib.Core.List.{List, []}
use Prim.Native.Nat.{ℕ, suc, ◌+◌, ◌-◌, ◌<◌, ◌≤◌}
use native.Mathlib.Omega.{arith}
use lib.ListN.{length, get_or, take, drop, set, length-set, replicate}
use lib.Dec.{eqb}
use lib.Seq.{get_or-set_same, get_or-set_other}
use borrow.Author.Tests.{eq-eqb, ne_eqb, eqb-true, eqb-false}
use Rattle.rules.specs.Division.{Kind, Instruction, followed_by}
use Rattle.rules.specs.Op as Op
use Rattle.image_code.specs.Forms.{operands_by, form_of, width}
use Rattle.image_code.proofs.Computes.{computes}
use Rattle.rules.specs.Checker.{closes, closures}
use Rattle.image_code.specs.Table.{instruction_at, from, instructions, is_some, kinds_in}
use Rattle.image_closures.specs.Counts.{Closing, Counted}
use Rattle.image_code.proofs.Closing.{zeros}
use Rattle.image_code.proofs.Steps.{passed, ended, within_code, has_width, no_true}
use Rattle.image_code.proofs.Turns.{begins, goes_on, fits_in}
use Rattle.image_code.proofs.Forms.{closure_only, closure_form}
use Rattle.image_code.proofs.Fitting.{has_operand, two_wide, first_is}
use Rattle.image_code.specs.declared.Form.{Form}
use Rattle.image_code.specs.declared.Form.TheVariants as variant
use Rattle.image_code.specs.declared.Kind as element
use Rattle.std.specs.Prelude.{Some, None}
use Rattle.std.specs.declared.option.Option as answer

closings_onto : (i : Instruction) (r : Option (List Instruction)) (place : ℕ) → is_some r ≡ true
    → closures place (instructions (followed_by i r)) ≡ closes place i.operands i.bytes + closures place (instructions r)
unfolding is_some instructions followed_by closures
closings_onto i none place h = absurd (no_true h)
closings_onto i (some is) place h = refl

closes_other : (f : answer.Option Form) (b : List ℕ) (place : ℕ) → (f ≡ Some variant.Closure → ⊥) → closes place (operands_by f) b ≡ 0
unfolding computes closes
closes_other None b place h = refl
closes_other (Some variant.Plain) b place h = refl
closes_other (Some variant.Byte) b place h = refl
closes_other (Some variant.Captured) b place h = refl
closes_other (Some variant.Value) b place h = refl
closes_other (Some variant.Text) b place h = refl
closes_other (Some variant.Invoke) b place h = refl
closes_other (Some variant.Ahead) b place h = refl
closes_other (Some variant.Back) b place h = refl
closes_other (Some variant.Closure) b place h = absurd (h refl)

closes_at : (b : List ℕ) (place : ℕ) → get_or b 0 0 ≡ place → closes place (operands_by (Some variant.Closure)) b ≡ 1
unfolding computes closes
closes_at b place e = rw (eq-eqb _ _ e) refl

closes_not : (b : List ℕ) (place : ℕ) → (get_or b 0 0 ≡ place → ⊥) → closes place (operands_by (Some variant.Closure)) b ≡ 0
unfolding computes closes
closes_not b place e = rw (ne_eqb _ _ e) refl

-- a store of one more: what holds of the place stored and of every other
more : (named : List ℕ) (p q : ℕ) (P : ℕ → Type 0) → p < length named → (q ≡ p → P (get_or named p 0 + 1)) → ((q ≡ p → ⊥) → P (get_or named q 0))
    → (b : Bool) → eqb q p ≡ b → P (get_or (set named p (get_or named p 0 + 1)) q 0)
more named p q P h same other true e =
    let s = eqb-true q p e in rw (s, get_or-set_same named p (get_or named p 0 + 1) 0 h) (same s)
more named p q P h same other false e =
    let n = eqb-false q p e in rw (get_or-set_other named p q (get_or named p 0 + 1) 0 n) (other n)

module _ (table : List element.Kind) (code : List ℕ) where
  abbrev kind : ℕ → Kind
  kind = kinds_in table

  pub closing_skip : (named : List ℕ) (at skip s : ℕ) → Closing kind code named at skip → at < length code → skip ≡ suc s
      → Closing kind code named (at + 1) s
  closing_skip named at skip s c h e =
      let same = passed kind code at skip s h e in
      record {
        size = c.size;
        within = omega arith;
        divides = rw same at c.divides;
        counted = λ p l. c.counted p l ∙ ap (λ (r : Option (List Instruction)). get_or named p 0 + closures p (instructions r)) same;
        below = λ p l. let b = c.below p l in omega arith;
      }

  module _ (named : List ℕ) (at skip w : ℕ) (c : Closing kind code named at skip) (z : skip ≡ 0) (h : at < length code)
      (e : w ≡ width kind (get_or code at 0) (drop (at + 1) code)) where
    abbrev op : ℕ
    op = get_or code at 0

    pub closing_width : 0 < w
    closing_width = has_width kind code at w h e (rw z at c.divides)

    pub closing_fits : at + w ≤ length code
    closing_fits = fits_in kind code at skip w z h e c.divides

    pub closing_two : op ≡ Op.CLOSURE → 2 ≤ w
    unfolding has_operand
    closing_two k =
        let p : 0 < w = closing_width in
        rw (← e) at (two_wide table code at 0 variant.Closure (sym (closure_form op k)) refl (rw e at p))

    on : is_some (from kind code (at + 1) (w - 1)) ≡ true
    on = let p = closing_width in goes_on kind code at skip w (w - 1) z h e (omega arith) c.divides

    abbrev bytes : List ℕ
    bytes = take (width kind (get_or code at 0) (drop (at + 1) code) - 1) (drop (at + 1) code)

    split : (place : ℕ) → closures place (instructions (from kind code at skip)) ≡ closes place (operands_by (form_of op)) bytes + closures place (instructions (from kind code (at + 1) (w - 1)))
    unfolding instruction_at
    split place =
        let p = closing_width in
        ap (λ (r : Option (List Instruction)). closures place (instructions r)) (begins kind code at skip w (w - 1) z h e (omega arith))
        ∙ closings_onto _ _ place on

    pub closing_other : (op ≡ Op.CLOSURE → ⊥) → Closing kind code named (at + 1) (w - 1)
    closing_other n =
        record {
          size = c.size;
          within = omega arith;
          divides = on;
          counted = λ p l. (let a = c.counted p l in let b = split p in let d = closes_other (form_of op) bytes p (λ x. n (closure_only op x)) in omega arith);
          below = λ p l. let b = c.below p l in omega arith;
        }

    pub closing_here : (place : ℕ) → op ≡ Op.CLOSURE → place ≡ get_or code (at + 1) 0 → place < 256
        → Closing kind code (set named place (get_or named place 0 + 1)) (at + 1) (w - 1)
    closing_here place k q l =
        let two = rw e at (closing_two k) in
        let first : get_or bytes 0 0 ≡ place = first_is table code at 0 variant.Closure (sym (closure_form op k)) two ∙ sym q in
        let room : place < length named = omega (arith, c.size) in
        record {
          size = length-set named place _ ∙ c.size;
          within = omega arith;
          divides = on;
          counted =
              λ p m. more named place p
              (λ (v : ℕ). closures p (instructions (from kind code 0 0)) ≡ v + closures p (instructions (from kind code (at + 1) (w - 1)))) room
              (λ (s : p ≡ place).
              let a = c.counted p m in let b = split p in
              let d : closes p (operands_by (form_of op)) bytes ≡ 1 = rw (closure_form op k) (closes_at bytes p (first ∙ sym s)) in
              let t : get_or named p 0 ≡ get_or named place 0 = ap (λ (x : ℕ). get_or named x 0) s in
              omega arith)
              (λ (s : p ≡ place → ⊥).
              let a = c.counted p m in let b = split p in
              let d : closes p (operands_by (form_of op)) bytes ≡ 0 = rw (closure_form op k) (closes_not bytes p (λ (x : get_or bytes 0 0 ≡ p). s (sym x ∙ first))) in
              omega arith)
              (eqb p place) refl;
          below =
              λ p m. more named place p (λ (v : ℕ). v ≤ at + 1) room
              (λ (s : p ≡ place). let b = c.below place l in omega arith)
              (λ (s : p ≡ place → ⊥). let b = c.below p m in omega arith)
              (eqb p place) refl;
        }

  pub closing_done : (named : List ℕ) (at skip : ℕ) → Closing kind code named at skip → length code ≤ at → Counted kind code named
  unfolding instructions closures
  closing_done named at skip c h =
      let f = within_code kind code at skip c.within c.divides in
      let z : skip ≡ 0 = omega arith in
      let q : from kind code at skip ≡ some [] = rw z (ended kind code at (omega (arith, c.within))) in
      record {
        size = c.size;
        counts = λ p l. (let a = rw q at (c.counted p l) in omega arith);
      }

  pub closing_begin : (named : List ℕ) → named ≡ replicate 256 0 → is_some (from kind code 0 0) ≡ true → Closing kind code named 0 0
  closing_begin named e d =
      record {
        size = ap length e ∙ refl;
        within = omega arith;
        divides = d;
        counted = λ p l. (let z : get_or named p 0 ≡ 0 = zero_in p in omega arith);
        below = λ p l. (let z : get_or named p 0 ≡ 0 = zero_in p in omega arith);
      }
    where
      zero_in : (p : ℕ) → get_or named p 0 ≡ 0
      zero_in p = rw e (zeros 256 p)
