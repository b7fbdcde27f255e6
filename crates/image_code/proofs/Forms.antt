-- Laws of single instructions: forms, widths, kinds.
use mathlib.Core.Path.{◌≡◌, refl, sym, ◌∙◌, ap}
use mathlib.Core.Bool.{Bool, true, false}
use mathlib.Core.Option.{Option, none, some}
use mathlib.Core.List.{List, ◌∷◌, []}
use Prim.Native.Nat.{ℕ, ◌+◌, ◌<◌, ◌≤◌}
use native.Mathlib.Omega.{arith}
use native.Mathlib.Nat.{add-zero, eq-or-lt_of_le}
use mathlib.Core.Logic.{⊎_elim}
use native.Mathlib.Decide.{dec_lt}
use lib.Dec.{T, ltb, leb, eqb, eqb→eq, ltb→lt, leb→le}
use lib.ListN.{length, get_or, drop, get_or-eq_default}
use lib.Seq.{get_or-drop}
use borrow.Author.Tests.{eq-eqb, ne_eqb}
use Rattle.op.proofs.Ranges.{below}
use Rattle.image_code.specs.Forms.{form, form_of, by_form, width_by, width}
use Rattle.image_code.proofs.Computes.{computes}
use Rattle.rules.specs.Base.{all_below, lookup}
use Rattle.std.specs.Prelude.{if◌then◌else◌}
use Rattle.rules.specs.Op.{Operands, Plain, Byte, Captured, Value, Text, Invoke, Ahead, Back, Closure, operands, operands_of}
use Rattle.rules.specs.Op as Op
use Rattle.rules.specs.Division.{Kind}
use Rattle.rules.proofs.Computes as rules
use Rattle.image_code.specs.Table.{kind_of, kinds_in}
use Rattle.image_code.specs.declared.Form.{Form}
use Rattle.image_code.specs.declared.Form.TheVariants as variant
use Rattle.image_code.specs.declared.Kind as element
use Rattle.std.specs.Prelude.{Some, None}
use Rattle.std.specs.declared.option.Option as answer
use Rattle.image_code.specs.declared.Kind.TheVariants as kind

-- the table of the code
unfoldable pub forms : List Form
forms =
    variant.Value ∷ variant.Plain ∷ variant.Plain ∷ variant.Plain ∷ variant.Plain ∷ variant.Byte ∷ variant.Byte ∷ variant.Text ∷ variant.Text ∷ variant.Text ∷
    variant.Captured ∷ variant.Captured ∷ variant.Text ∷ variant.Text ∷ variant.Text ∷ variant.Plain ∷ variant.Plain ∷ variant.Plain ∷ variant.Plain ∷ variant.Plain ∷
    variant.Plain ∷ variant.Plain ∷ variant.Plain ∷ variant.Plain ∷ variant.Plain ∷ variant.Plain ∷ variant.Plain ∷ variant.Plain ∷ variant.Ahead ∷ variant.Ahead ∷
    variant.Back ∷ variant.Byte ∷ variant.Invoke ∷ variant.Invoke ∷ variant.Closure ∷ variant.Plain ∷ variant.Plain ∷ variant.Text ∷ variant.Plain ∷ variant.Text ∷ []

-- ## Forms are told apart by numbers

unfoldable number : answer.Option Form → ℕ
number (Some variant.Plain) = 0
number (Some variant.Byte) = 1
number (Some variant.Captured) = 2
number (Some variant.Value) = 3
number (Some variant.Text) = 4
number (Some variant.Invoke) = 5
number (Some variant.Ahead) = 6
number (Some variant.Back) = 7
number (Some variant.Closure) = 8
number None = 9

unfoldable by_number : ℕ → answer.Option Form
by_number n =
    get_or (Some variant.Plain ∷ Some variant.Byte ∷ Some variant.Captured ∷ Some variant.Value ∷ Some variant.Text ∷ Some variant.Invoke ∷ Some variant.Ahead ∷ Some variant.Back ∷ Some variant.Closure ∷ []) n None

by_number_is : (f : answer.Option Form) → by_number (number f) ≡ f
unfolding by_number number
by_number_is (Some variant.Plain) = refl
by_number_is (Some variant.Byte) = refl
by_number_is (Some variant.Captured) = refl
by_number_is (Some variant.Value) = refl
by_number_is (Some variant.Text) = refl
by_number_is (Some variant.Invoke) = refl
by_number_is (Some variant.Ahead) = refl
by_number_is (Some variant.Back) = refl
by_number_is (Some variant.Closure) = refl
by_number_is None = refl

same_form : (f g : answer.Option Form) → number f ≡ number g → f ≡ g
same_form f g e = sym (by_number_is f) ∙ ap by_number e ∙ by_number_is g

pub form_known : (op : ℕ) → op < 40 → Some (get_or forms op variant.Plain) ≡ form_of op
unfolding rules.op forms form form_of number
form_known op h =
    same_form _ _ (eqb→eq _ _ (below 40 (λ i. eqb (number (Some (get_or forms i variant.Plain))) (number (form_of i))) tt op h))

-- no row of the table has a number from the bound on
unfoldable low : {A : Type 0} → (bound : ℕ) → List (ℕ × A) → Bool
low bound [] = true
low bound (row ∷ rows) = if ltb row.0 bound then low bound rows else false

not_in : {A : Type 0} (bound n : ℕ) (rows : List (ℕ × A)) → T (low bound rows) → bound ≤ n → lookup n rows ≡ none
unfolding low lookup
not_in bound n [] t h = refl
not_in bound n (row ∷ rows) t h =
    let s = split (ltb row.0 bound) t in
    let l : row.0 < bound = ltb→lt _ _ s.0 in
    let e : n ≡ row.0 → ⊥ = λ q. omega arith in
    rw (ne_eqb _ _ e) (not_in bound n rows s.1 h)
  where
    split : (b : Bool) → T (if b then low bound rows else false) → T b × T (low bound rows)
    split true t = (tt, t)
    split false t = absurd t

pub form_unknown : (op : ℕ) → 40 ≤ op → None ≡ form_of op
unfolding form form_of operands_of low operands
form_unknown op h = rw (not_in 40 op operands tt h) refl

-- ## From the rules' operands to a form and back

pub by_form_is : (o : Option Operands) → by_form (form o) ≡ o
unfolding by_form form
by_form_is none = refl
by_form_is (some Plain) = refl
by_form_is (some Byte) = refl
by_form_is (some Captured) = refl
by_form_is (some Value) = refl
by_form_is (some Text) = refl
by_form_is (some Invoke) = refl
by_form_is (some Ahead) = refl
by_form_is (some Back) = refl
by_form_is (some Closure) = refl

-- ## Widths: those of the rules' table, where a CLOSURE finds a function

-- what is so of every opcode of a form, by one test over the table
only : (f : Form) (q : ℕ → Bool) → T (all_below 40 (λ i. if eqb (number (form_of i)) (number (Some f)) then q i else true))
    → (op : ℕ) → form_of op ≡ Some f → T (q op)
only f q t op e = by_place (dec_lt op 40)
  where
    by_place : Dec (op < 40) → T (q op)
    by_place (yes l) =
        let here = below 40 (λ i. if eqb (number (form_of i)) (number (Some f)) then q i else true) t op l in
        rw (eq-eqb (number (form_of op)) (number (Some f)) (ap number e)) at here
    by_place (no l) = absurd (let u : None ≡ form_of op = form_unknown op (omega arith) in cc)

pub closure_only : (op : ℕ) → form_of op ≡ Some variant.Closure → op ≡ Op.CLOSURE
unfolding rules.op form form_of number
closure_only op e = eqb→eq _ _ (only variant.Closure (λ i. eqb i Op.CLOSURE) tt op e)

pub ahead_only : (op : ℕ) → form_of op ≡ Some variant.Ahead → (Op.JUMP ≤ op) × (op < Op.LOOP)
unfolding rules.op form form_of number
ahead_only op e =
    (leb→le _ _ (only variant.Ahead (λ i. leb Op.JUMP i) tt op e), ltb→lt _ _ (only variant.Ahead (λ i. ltb i Op.LOOP) tt op e))

pub back_only : (op : ℕ) → form_of op ≡ Some variant.Back → op ≡ Op.LOOP
unfolding rules.op form form_of number
back_only op e = eqb→eq _ _ (only variant.Back (λ i. eqb i Op.LOOP) tt op e)

pub closure_form : (op : ℕ) → op ≡ Op.CLOSURE → form_of op ≡ Some variant.Closure
unfolding rules.op form form_of
closure_form op e = rw e refl

pub ahead_form : (op : ℕ) → Op.JUMP ≤ op → op < Op.LOOP → form_of op ≡ Some variant.Ahead
unfolding rules.op form form_of
ahead_form op l h =
    ⊎_elim (λ (e : op ≡ Op.JUMP_IF_FALSE). rw e refl) (λ (m : op < Op.JUMP_IF_FALSE). let e : op ≡ Op.JUMP = omega arith in rw e refl)
    (eq-or-lt_of_le (omega arith))

pub back_form : (op : ℕ) → op ≡ Op.LOOP → form_of op ≡ Some variant.Back
unfolding rules.op form form_of
back_form op e = rw e refl

fixed : (o : Option Operands) (k : Kind) → (form o ≡ Some variant.Closure → ⊥) → Op.width_of o 0 ≡ width_by (form o) k
unfolding computes form Op.width_of
fixed none k n = refl
fixed (some Plain) k n = refl
fixed (some Byte) k n = refl
fixed (some Captured) k n = refl
fixed (some Value) k n = refl
fixed (some Text) k n = refl
fixed (some Invoke) k n = refl
fixed (some Ahead) k n = refl
fixed (some Back) k n = refl
fixed (some Closure) k n = absurd (n refl)

missed : (k : element.Kind) → ((n : ℕ) → k ≡ kind.Function n → ⊥) → 0 ≡ width_by (Some variant.Closure) (kind_of k)
unfolding computes kind_of
missed kind.Missing h = refl
missed kind.Number h = refl
missed kind.Text h = refl
missed (kind.Function n) h = absurd (h n refl)

found : (n : ℕ) → Op.width Op.CLOSURE n ≡ width_by (Some variant.Closure) (kind_of (kind.Function n))
unfolding computes rules.op kind_of
found n = omega arith

-- at a place of a code, where its first operand finds `k` in the table
module _ (code : List ℕ) (table : List element.Kind) (at op : ℕ) (is-op : op ≡ get_or code at 0) where
  abbrev its : ℕ
  its = width (kinds_in table) (get_or code at 0) (drop (at + 1) code)

  pub width_fixed : (op ≡ Op.CLOSURE → ⊥) → (r : ℕ) → r ≡ Op.width op 0 → r ≡ its
  unfolding width form_of Op.width
  width_fixed n r e = rw (e, ← is-op) (fixed (operands_of op) _ (λ (c : form_of op ≡ Some variant.Closure). n (closure_only op c)))

  module _ (k : element.Kind) (is-kind : kind_of k ≡ kinds_in table (get_or (drop (at + 1) code) 0 0)) (c : op ≡ Op.CLOSURE) where
    pub width_missed : ((n : ℕ) → k ≡ kind.Function n → ⊥) → 0 ≡ its
    unfolding width
    width_missed h = rw (← is-op, ← is-kind, closure_form op c) (missed k h)

    pub width_found : (n r : ℕ) → k ≡ kind.Function n → r ≡ Op.width op n → r ≡ its
    unfolding width
    width_found n r m e = rw (e, ← is-op, ← is-kind, closure_form op c, c, m) (found n)

pub kind_found : (code : List ℕ) (table : List element.Kind) (at : ℕ)
    → kind_of (get_or table (get_or code (at + 1) 0) kind.Missing) ≡ kinds_in table (get_or (drop (at + 1) code) 0 0)
unfolding kinds_in
kind_found code table at = rw (get_or-drop, add-zero) refl

pub kind_beyond : (code : List ℕ) (table : List element.Kind) (at : ℕ) → length code ≤ at + 1
    → kind_of (get_or table 0 kind.Missing) ≡ kinds_in table (get_or (drop (at + 1) code) 0 0)
unfolding kinds_in
kind_beyond code table at h = rw (get_or-drop, add-zero, get_or-eq_default code 0 h) refl
