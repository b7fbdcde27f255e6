-- The table of widths beside the rules' table of operands: what going through its rows finds, and one test, computed, row beside row.
-- The rows are the code's own: they come with what its loop has and are stated nowhere here.
use mathlib.Core.Path.{◌≡◌, refl, sym, ap, ◌∙◌, subst, subst⁻¹}
use mathlib.Core.Bool.{Bool, true, false}
use mathlib.Core.Option.{Option, none, some}
use mathlib.Core.List.{List, ◌∷◌, []}
use Prim.Native.Nat.{ℕ, zero, suc, ◌+◌, ◌*◌, ◌≤◌, ◌<◌}
use native.Mathlib.Omega.{arith}
use lib.ListN.{get_or, length}
use lib.Dec.{T, eqb, eqb→eq}
use borrow.Author.Tests.{eq-eqb, ne_eqb, eqb-true, eqb-false}
use Rattle.rules.specs.Base.{lookup}
use Rattle.std.specs.Prelude.{if◌then◌else◌}
use Rattle.rules.specs.Op as rules
use Rattle.rules.specs.Op.{Operands, Plain, Byte, Captured, Value, Text, Invoke, Ahead, Back, Closure}
use Rattle.rules.proofs.Computes as computes
use Rattle.op.specs.declared.Row.{Row}

-- ## Going through the rows

-- what is held after the last row, where `bytes` is held before the row at `place`
unfoldable pub from : List Row → (place op bytes : ℕ) → ℕ
from [] place op bytes = bytes
from (r ∷ rows) zero op bytes = from rows zero op (if eqb r.0 op then r.1 else bytes)
from (r ∷ rows) (suc n) op bytes = from rows n op bytes

step : (rows : List Row) (other : Row) (place op bytes : ℕ) → place < length rows →
    from rows place op bytes ≡ from rows (suc place) op (if eqb (get_or rows place other).0 op then (get_or rows place other).1 else bytes)
unfolding from
step [] other place op bytes l = absurd (omega (arith, l))
step (r ∷ rows) other zero op bytes l = refl
step (r ∷ rows) other (suc n) op bytes l = step rows other n op bytes (omega (arith, l))

onward : (rows : List Row) (other : Row) (place op bytes : ℕ) → place < length rows →
    from rows place op bytes ≡ from rows (place + 1) op (if eqb (get_or rows place other).0 op then (get_or rows place other).1 else bytes)
onward rows other place op bytes l =
    let e : suc place ≡ place + 1 = omega arith in
    let s = step rows other place op bytes l in
    rw e at s

through : (rows : List Row) (place op bytes : ℕ) → length rows ≤ place → from rows place op bytes ≡ bytes
unfolding from
through [] place op bytes l = refl
through (r ∷ rows) zero op bytes l = absurd (omega (arith, l))
through (r ∷ rows) (suc n) op bytes l = through rows n op bytes (omega (arith, l))

-- going on from here with what is held finds what going through all rows finds
pub record Held (op : ℕ) (rows : List Row) (bytes place : ℕ) : Type 0 where
  pub same : from rows place op bytes ≡ from rows 0 op 0

module _ {op bytes place next : ℕ} {rows : List Row} (h : Held op rows bytes place) (other : Row) (l : place < length rows) where
  pub taken : (get_or rows place other).0 ≡ op → next ≡ (get_or rows place other).1 → Held op rows next (place + 1)
  taken q e =
      let s = onward rows other place op bytes l in
      record { same = ap (from rows (place + 1) op) e ∙ sym (rw (eq-eqb (get_or rows place other).0 op q) at s) ∙ h.same }

  pub passed : ((get_or rows place other).0 ≡ op → ⊥) → next ≡ bytes → Held op rows next (place + 1)
  passed n e =
      let s = onward rows other place op bytes l in
      record { same = ap (from rows (place + 1) op) e ∙ sym (rw (ne_eqb (get_or rows place other).0 op n) at s) ∙ h.same }

-- ## What the rows say: the rules' table, row beside row

-- the bytes of a row with such operands
abbrev pub says : (mark : ℕ) → Operands → ℕ
says mark Plain = 1
says mark Byte = 2
says mark Captured = 2
says mark Value = 2
says mark Text = 2
says mark Invoke = 3
says mark Ahead = 3
says mark Back = 3
says mark Closure = mark

abbrev told : (mark bytes : ℕ) → Option Operands → ℕ
told mark bytes none = bytes
told mark bytes (some o) = says mark o

-- the rows of both are numbered one after the other from `number` on, and have the bytes of their operands
unfoldable pub beside : (mark number : ℕ) → List Row → List (ℕ × Operands) → Bool
beside mark number [] [] = true
beside mark number [] (o ∷ table) = false
beside mark number (r ∷ rows) [] = false
beside mark number (r ∷ rows) (o ∷ table) =
    if eqb r.0 number
    then if eqb o.0 number then if eqb r.1 (says mark o.1) then beside mark (suc number) rows table else false else false
    else false

both : (b c d e : Bool) → T (if b then if c then if d then e else false else false else false) → T b × T c × T d × T e
both true true true e t = (tt, tt, tt, t)
both true true false e t = absurd t
both true false d e t = absurd t
both false c d e t = absurd t

module _ (mark op : ℕ) where
  -- no later row has a number that is past
  past : (number bytes : ℕ) (rows : List Row) (table : List (ℕ × Operands)) → T (beside mark number rows table) → op < number → from rows 0 op bytes ≡ bytes
  unfolding from beside
  past number bytes [] [] t l = refl
  past number bytes [] (o ∷ table) t l = absurd t
  past number bytes (r ∷ rows) [] t l = absurd t
  past number bytes (r ∷ rows) (o ∷ table) t l =
      let h = both (eqb r.0 number) (eqb o.0 number) (eqb r.1 (says mark o.1)) (beside mark (suc number) rows table) t in
      let e : r.0 ≡ number = eqb→eq r.0 number h.0 in
      rw (ne_eqb r.0 op (λ q. omega (arith, l, e, q))) (past (suc number) bytes rows table h.3 (omega (arith, l)))

  agree : (number bytes : ℕ) (rows : List Row) (table : List (ℕ × Operands)) → T (beside mark number rows table) →
      from rows 0 op bytes ≡ told mark bytes (lookup op table)
  unfolding from beside lookup
  agree number bytes [] [] t = refl
  agree number bytes [] (o ∷ table) t = absurd t
  agree number bytes (r ∷ rows) [] t = absurd t
  agree number bytes (r ∷ rows) (o ∷ table) t =
      let h = both (eqb r.0 number) (eqb o.0 number) (eqb r.1 (says mark o.1)) (beside mark (suc number) rows table) t in
      let e₀ : r.0 ≡ number = eqb→eq r.0 number h.0 in
      let e₁ : o.0 ≡ number = eqb→eq o.0 number h.1 in
      let e₂ : r.1 ≡ says mark o.1 = eqb→eq r.1 (says mark o.1) h.2 in
      by_number h.3 e₀ e₁ e₂ (agree (suc number) bytes rows table h.3) (eqb op number) refl
    where
      by_number : T (beside mark (suc number) rows table) → r.0 ≡ number → o.0 ≡ number → r.1 ≡ says mark o.1 →
          from rows 0 op bytes ≡ told mark bytes (lookup op table) → (b : Bool) → eqb op number ≡ b →
          from rows 0 op (if eqb r.0 op then r.1 else bytes) ≡ told mark bytes (if eqb op o.0 then some o.1 else lookup op table)
      by_number t e₀ e₁ e₂ rest true q =
          let z : op ≡ number = eqb-true op number q in
          rw (eq-eqb r.0 op (e₀ ∙ sym z), eq-eqb op o.0 (z ∙ sym e₁)) (past (suc number) r.1 rows table t (omega (arith, z)) ∙ e₂)
      by_number t e₀ e₁ e₂ rest false q =
          let z : op ≡ number → ⊥ = eqb-false op number q in
          rw (ne_eqb r.0 op (λ p. z (sym p ∙ e₀)), ne_eqb op o.0 (λ p. z (p ∙ e₁))) rest

-- ## Of all operands, CLOSURE's alone need the function

abbrev is_closure : Option Operands → Bool
is_closure none = false
is_closure (some Plain) = false
is_closure (some Byte) = false
is_closure (some Captured) = false
is_closure (some Value) = false
is_closure (some Text) = false
is_closure (some Invoke) = false
is_closure (some Ahead) = false
is_closure (some Back) = false
is_closure (some Closure) = true

-- no row but CLOSURE's has them
unfoldable one_closure : List (ℕ × Operands) → Bool
one_closure [] = true
one_closure (o ∷ table) = if is_closure (some o.1) then if eqb o.0 rules.CLOSURE then one_closure table else false else one_closure table

others : (op : ℕ) (table : List (ℕ × Operands)) → T (one_closure table) → (op ≡ rules.CLOSURE → ⊥) → is_closure (lookup op table) ≡ false
unfolding one_closure lookup
others op [] t n = refl
others op (o ∷ table) t n = by_row (λ t. others op table t n) (is_closure (some o.1)) refl t (eqb op o.0) refl
  where
    by_row : (T (one_closure table) → is_closure (lookup op table) ≡ false) → (b : Bool) → is_closure (some o.1) ≡ b → T (if b then if eqb o.0 rules.CLOSURE then one_closure table else false else one_closure table) →
        (d : Bool) → eqb op o.0 ≡ d → is_closure (if d then some o.1 else lookup op table) ≡ false
    by_row more b e t true q = here b e t (eqb-true op o.0 q)
      where
        here : (b : Bool) → is_closure (some o.1) ≡ b → T (if b then if eqb o.0 rules.CLOSURE then one_closure table else false else one_closure table) →
            op ≡ o.0 → is_closure (some o.1) ≡ false
        here true e t z = absurd (rw (ne_eqb o.0 rules.CLOSURE (λ p. n (z ∙ p))) at t)
        here false e t z = e
    by_row more true e t false q = more (rest (eqb o.0 rules.CLOSURE) t)
      where
        rest : (b : Bool) → T (if b then one_closure table else false) → T (one_closure table)
        rest true t = t
        rest false t = absurd t
    by_row more false e t false q = more t

closure_of : (op : ℕ) → is_closure (rules.operands_of op) ≡ eqb op rules.CLOSURE
unfolding computes.op one_closure
closure_of op = by_test (eqb op rules.CLOSURE) refl
  where
    by_test : (b : Bool) → eqb op rules.CLOSURE ≡ b → is_closure (lookup op rules.operands) ≡ b
    by_test true q = rw (eqb-true op rules.CLOSURE q) refl
    by_test false q = others op rules.operands tt (eqb-false op rules.CLOSURE q)

by_closure : (mark op : ℕ) → told mark 0 (rules.operands_of op) ≡ (if eqb op rules.CLOSURE then mark else rules.width op 0)
unfolding rules.width rules.width_of rules.size_of
by_closure mark op = rw (← closure_of op) (by_operands (rules.operands_of op))
  where
    by_operands : (o : Option Operands) → told mark 0 o ≡ (if is_closure o then mark else rules.width_of o 0)
    by_operands none = refl
    by_operands (some Plain) = refl
    by_operands (some Byte) = refl
    by_operands (some Captured) = refl
    by_operands (some Value) = refl
    by_operands (some Text) = refl
    by_operands (some Invoke) = refl
    by_operands (some Ahead) = refl
    by_operands (some Back) = refl
    by_operands (some Closure) = refl

-- going through all rows finds the rules' width, but the mark of CLOSURE
pub found : {op bytes place : ℕ} {rows : List Row} (mark : ℕ) → Held op rows bytes place → length rows ≤ place → T (beside mark 0 rows rules.operands) →
    bytes ≡ (if eqb op rules.CLOSURE then mark else rules.width op 0)
unfolding rules.operands_of
found {op} {bytes} {place} {rows} mark h l t =
    sym (through rows place op bytes l) ∙ h.same ∙ agree mark op 0 0 rows rules.operands t ∙ by_closure mark op

-- ## The mark and the others

narrow : (o : Option Operands) → rules.width_of o 0 ≤ 3
unfolding rules.width_of rules.size_of
narrow none = omega arith
narrow (some Plain) = omega arith
narrow (some Byte) = omega arith
narrow (some Captured) = omega arith
narrow (some Value) = omega arith
narrow (some Text) = omega arith
narrow (some Invoke) = omega arith
narrow (some Ahead) = omega arith
narrow (some Back) = omega arith
narrow (some Closure) = omega arith

unneeded : (o : Option Operands) (upvalues : ℕ) → is_closure o ≡ false → rules.width_of o 0 ≡ rules.width_of o upvalues
unfolding rules.width_of rules.size_of
unneeded none upvalues e = refl
unneeded (some Plain) upvalues e = refl
unneeded (some Byte) upvalues e = refl
unneeded (some Captured) upvalues e = refl
unneeded (some Value) upvalues e = refl
unneeded (some Text) upvalues e = refl
unneeded (some Invoke) upvalues e = refl
unneeded (some Ahead) upvalues e = refl
unneeded (some Back) upvalues e = refl
unneeded (some Closure) upvalues e = absurd (subst T e tt)

closure_width : (op upvalues : ℕ) → op ≡ rules.CLOSURE → 2 + 2 * upvalues ≡ rules.width op upvalues
unfolding computes.op
closure_width op upvalues e = subst⁻¹ (λ (k : ℕ). 2 + 2 * upvalues ≡ rules.width k upvalues) e (omega arith)

module _ {bytes : ℕ} (mark op upvalues : ℕ) (q : bytes ≡ (if eqb op rules.CLOSURE then mark else rules.width op 0)) where
  pub marked : 3 < mark → bytes ≡ mark → 2 + 2 * upvalues ≡ rules.width op upvalues
  unfolding rules.width
  marked l m = by_test (eqb op rules.CLOSURE) refl q
    where
      by_test : (b : Bool) → eqb op rules.CLOSURE ≡ b → bytes ≡ (if b then mark else rules.width_of (rules.operands_of op) 0) →
          2 + 2 * upvalues ≡ rules.width_of (rules.operands_of op) upvalues
      by_test true e w = closure_width op upvalues (eqb-true op rules.CLOSURE e)
      by_test false e w = absurd (omega (arith, l, m, w, narrow (rules.operands_of op)))

  pub fixed : (bytes ≡ mark → ⊥) → bytes ≡ rules.width op upvalues
  unfolding rules.width
  fixed n = by_test (eqb op rules.CLOSURE) refl q
    where
      by_test : (b : Bool) → eqb op rules.CLOSURE ≡ b → bytes ≡ (if b then mark else rules.width_of (rules.operands_of op) 0) →
          bytes ≡ rules.width_of (rules.operands_of op) upvalues
      by_test true e w = absurd (n w)
      by_test false e w = w ∙ unneeded (rules.operands_of op) upvalues (closure_of op ∙ e)
