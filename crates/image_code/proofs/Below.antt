-- A code of bytes looks for constants below 256 only: kinds that agree there judge it alike. And it has no more instructions than bytes.
use mathlib.Core.Path.{◌≡◌, refl, sym, ◌∙◌, ap}
use mathlib.Core.Bool.{Bool, true, false}
use mathlib.Core.Option.{Option, none, some}
use mathlib.Core.List.{List, ◌∷◌, []}
use Prim.Native.Nat.{ℕ, zero, suc, ◌+◌, ◌<◌, ◌≤◌}
use native.Mathlib.Omega.{arith}
use lib.ListN.{length, get_or, take}
use lib.Dec.{ltb, eqb}
use borrow.Author.Tests.{lt-ltb, ltb-true, ne_eqb}
use Rattle.rules.specs.Base.{all, all_below}
use Rattle.std.specs.Prelude.{if◌then◌else◌}
use Rattle.rules.specs.Op.{Operands, Plain, Byte, Captured, Value, Text, Invoke, Ahead, Back, Closure}
use Rattle.rules.specs.Division.{Kind, Instruction, followed_by, divide, fit, operands_fit, is_function}
use Rattle.rules.specs.Checker.{closes, closures}
use Rattle.image_code.specs.Forms.{form_of, width_by, width}
use Rattle.image_code.specs.Table.{instructions, closed_by, code_right, judged_code}
use Rattle.image_code.proofs.Steps.{divide_none, divide_op, sized_at}
use Rattle.image_code.proofs.Once.{below_same}

-- ## The first operand is a byte

abbrev pub low : Instruction → Bool
low i = ltb (get_or i.bytes 0 0) 256

unfoldable low_all : Option (List Instruction) → Bool
low_all none = true
low_all (some is) = all low is

take_low : (size : ℕ) (l : List ℕ) → ((i : ℕ) → get_or l i 0 < 256) → get_or (take size l) 0 0 < 256
take_low zero l h = omega arith
take_low (suc size) [] h = omega arith
take_low (suc size) (x ∷ l) h = h 0

follow_low : (i : Instruction) (r : Option (List Instruction)) → get_or i.bytes 0 0 < 256 → low_all r ≡ true → low_all (followed_by i r) ≡ true
unfolding low_all followed_by all
follow_low i none h e = refl
follow_low i (some is) h e = rw (lt-ltb _ _ h) e

module _ (kind : ℕ → Kind) where
  low_op : (at op : ℕ) (l : List ℕ) → ((i : ℕ) → get_or l i 0 < 256) → ((size : ℕ) → low_all (divide kind (at + 1) size l) ≡ true)
      → (w : ℕ) → width kind op l ≡ w → low_all (divide kind at 0 (op ∷ l)) ≡ true
  unfolding low_all
  low_op at op l h later zero e = rw (divide_none kind at op l e) refl
  low_op at op l h later (suc size) e = rw (divide_op kind at op size l e) (follow_low _ _ (take_low size l h) (later size))

  low_divide : (at skip : ℕ) (l : List ℕ) → ((i : ℕ) → get_or l i 0 < 256) → low_all (divide kind at skip l) ≡ true
  unfolding divide low_all all
  low_divide at zero [] h = refl
  low_divide at (suc skip) [] h = refl
  low_divide at (suc skip) (b ∷ l) h = low_divide (at + 1) skip l (λ i. h (suc i))
  low_divide at zero (op ∷ l) h = low_op at op l (λ i. h (suc i)) (λ size. low_divide (at + 1) size l (λ i. h (suc i))) (width kind op l) refl

  pub low_in : (code : List ℕ) (is : List Instruction) → ((i : ℕ) → get_or code i 0 < 256) → divide kind 0 0 code ≡ some is → all low is ≡ true
  unfolding low_all
  low_in code is h e = sym (ap low_all e) ∙ low_divide 0 0 code h

  -- ## No more instructions than bytes

  follow_length : (i : Instruction) (r : Option (List Instruction)) (n : ℕ) → length (instructions r) ≤ n → length (instructions (followed_by i r)) ≤ suc n
  unfolding instructions followed_by
  follow_length i none n h = omega arith
  follow_length i (some is) n h = omega arith

  few_op : (at op : ℕ) (l : List ℕ) → ((size : ℕ) → length (instructions (divide kind (at + 1) size l)) ≤ length l)
      → (w : ℕ) → width kind op l ≡ w → length (instructions (divide kind at 0 (op ∷ l))) ≤ suc (length l)
  unfolding instructions
  few_op at op l later zero e = rw (divide_none kind at op l e) (omega arith)
  few_op at op l later (suc size) e = rw (divide_op kind at op size l e) (follow_length _ _ (length l) (later size))

  pub few : (at skip : ℕ) (l : List ℕ) → length (instructions (divide kind at skip l)) ≤ length l
  unfolding divide instructions
  few at zero [] = omega arith
  few at (suc skip) [] = omega arith
  few at (suc skip) (b ∷ l) = let h = few (at + 1) skip l in omega arith
  few at zero (op ∷ l) = few_op at op l (λ size. few (at + 1) size l) (width kind op l) refl

-- ## Kinds that agree below 256

module _ (kind kind' : ℕ → Kind) (same : (p : ℕ) → p < 256 → kind p ≡ kind' p) where
  same_width : (op : ℕ) (l : List ℕ) → get_or l 0 0 < 256 → width kind op l ≡ width kind' op l
  unfolding width
  same_width op l h = ap (width_by (form_of op)) (same (get_or l 0 0) h)

  same_op : (at op : ℕ) (l : List ℕ) → get_or l 0 0 < 256 → ((size : ℕ) → divide kind (at + 1) size l ≡ divide kind' (at + 1) size l)
      → (w : ℕ) → width kind op l ≡ w → divide kind at 0 (op ∷ l) ≡ divide kind' at 0 (op ∷ l)
  same_op at op l h later zero e = divide_none kind at op l e ∙ sym (divide_none kind' at op l (sym (same_width op l h) ∙ e))
  same_op at op l h later (suc size) e =
      divide_op kind at op size l e ∙ ap (followed_by (sized_at op at size l)) (later size) ∙ sym (divide_op kind' at op size l (sym (same_width op l h) ∙ e))

  pub same_divide : (at skip : ℕ) (l : List ℕ) → ((i : ℕ) → get_or l i 0 < 256) → divide kind at skip l ≡ divide kind' at skip l
  unfolding divide
  same_divide at zero [] h = refl
  same_divide at (suc skip) [] h = refl
  same_divide at (suc skip) (b ∷ l) h = same_divide (at + 1) skip l (λ i. h (suc i))
  same_divide at zero (op ∷ l) h = same_op at op l (h 1) (λ size. same_divide (at + 1) size l (λ i. h (suc i))) (width kind op l) refl

  same_fit : (u : ℕ) (o : Operands) (b : List ℕ) → kind (get_or b 0 0) ≡ kind' (get_or b 0 0) → fit kind u o b ≡ fit kind' u o b
  unfolding fit
  same_fit u Plain b e = refl
  same_fit u Byte b e = refl
  same_fit u Captured b e = refl
  same_fit u Value b e = rw e refl
  same_fit u Text b e = rw e refl
  same_fit u Invoke b e = rw e refl
  same_fit u Ahead b e = refl
  same_fit u Back b e = refl
  same_fit u Closure b e = rw e refl

  same_fits_on : (u : ℕ) (i : Instruction) (is : List Instruction) (t : Bool) → low i ≡ t → (if t then all low is else false) ≡ true
      → (all low is ≡ true → all (operands_fit kind u) is ≡ all (operands_fit kind' u) is)
      → (if operands_fit kind u i then all (operands_fit kind u) is else false) ≡ (if operands_fit kind' u i then all (operands_fit kind' u) is else false)
  unfolding operands_fit
  same_fits_on u i is true f e later =
      rw (same_fit u i.operands i.bytes (same (get_or i.bytes 0 0) (ltb-true _ _ f)), later e) refl
  same_fits_on u i is false f e later = absurd (let y : ◌≡◌ {A = ℕ} 0 1 = cc in omega arith)

  pub same_fits : (u : ℕ) (is : List Instruction) → all low is ≡ true → all (operands_fit kind u) is ≡ all (operands_fit kind' u) is
  unfolding all
  same_fits u [] e = refl
  same_fits u (i ∷ is) e = same_fits_on u i is (low i) refl e (λ r. same_fits u is r)

  pub same_closed : (is : List Instruction) → all_below 256 (closed_by kind is) ≡ all_below 256 (closed_by kind' is)
  unfolding closed_by
  same_closed is = below_same 256 _ _ (λ p h. ap (λ (k : Kind). if is_function k then eqb (closures p is) 1 else true) (same p h))

  judged_by : (u n : ℕ) (d : Option (List Instruction)) → low_all d ≡ true → judged_code kind u n d ≡ judged_code kind' u n d
  unfolding judged_code code_right low_all
  judged_by u n none e = refl
  judged_by u n (some is) e = rw (same_fits u is e, same_closed is) refl

  pub same_judged : (u n : ℕ) (code : List ℕ) → ((i : ℕ) → get_or code i 0 < 256)
      → judged_code kind u n (divide kind 0 0 code) ≡ judged_code kind' u n (divide kind' 0 0 code)
  same_judged u n code h =
      judged_by u n (divide kind 0 0 code) (low_divide kind 0 0 code h) ∙ ap (judged_code kind' u n) (same_divide 0 0 code h)

-- ## No CLOSURE names a place from 256 on

high_one : (place : ℕ) (o : Operands) (b : List ℕ) → get_or b 0 0 < 256 → 256 ≤ place → closes place o b ≡ 0
unfolding closes
high_one place Plain b h l = refl
high_one place Byte b h l = refl
high_one place Captured b h l = refl
high_one place Value b h l = refl
high_one place Text b h l = refl
high_one place Invoke b h l = refl
high_one place Ahead b h l = refl
high_one place Back b h l = refl
high_one place Closure b h l = let n : get_or b 0 0 ≡ place → ⊥ = λ q. omega arith in rw (ne_eqb _ _ n) refl

high_on : (place : ℕ) (i : Instruction) (is : List Instruction) (t : Bool) → low i ≡ t → (if t then all low is else false) ≡ true → 256 ≤ place
    → (all low is ≡ true → closures place is ≡ 0) → closes place i.operands i.bytes + closures place is ≡ 0
high_on place i is true f e l later =
    let a = high_one place i.operands i.bytes (ltb-true _ _ f) l in
    let b = later e in
    omega arith
high_on place i is false f e l later = absurd (let y : ◌≡◌ {A = ℕ} 0 1 = cc in omega arith)

pub high_closures : (place : ℕ) (is : List Instruction) → all low is ≡ true → 256 ≤ place → closures place is ≡ 0
unfolding closures all
high_closures place [] e l = refl
high_closures place (i ∷ is) e l = high_on place i is (low i) refl e l (λ r. high_closures place is r l)
