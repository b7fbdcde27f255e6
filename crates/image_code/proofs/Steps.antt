-- Laws of the division, byte by byte.
use mathlib.Core.Path.{◌≡◌, refl, sym, ◌∙◌}
use mathlib.Core.Bool.{true, false}
use mathlib.Core.Option.{Option, none, some}
use mathlib.Core.List.{List, ◌∷◌, []}
use Prim.Native.Nat.{ℕ, zero, suc, ◌+◌, ◌-◌, ◌<◌, ◌≤◌}
use native.Mathlib.Omega.{arith}
use native.Mathlib.Numerals.{add-one}
use lib.ListN.{length, get_or, take, drop, length-drop, drop_of_length-le}
use lib.Seq.{drop-cons}
use borrow.Author.Tests.{eq-eqb, ne_eqb}
use Rattle.rules.specs.Division.{Kind, Instruction, size_with, sized, with_operands, instruction, followed_by, divide, is_start}
use Rattle.rules.specs.Op.{Operands, operands_of}
use Rattle.image_code.specs.Forms.{form, form_of, operands_by, with_opcode, width_with, width_by, width}
use Rattle.image_code.proofs.Computes.{computes}
use Rattle.image_code.proofs.Forms.{by_form_is}
use Rattle.image_code.specs.Table.{from, instructions, is_some}

pub rest : (code : List ℕ) (at : ℕ) → at < length code → drop at code ≡ get_or code at 0 ∷ drop (at + 1) code
rest code at h = rw (add-one, drop-cons code at 0 h) refl

pub no_true : false ≡ true → ⊥
no_true e = let z : ◌≡◌ {A = ℕ} 0 1 = cc in omega arith

pub none_start : (p : ℕ) → is_start (instructions none) p ≡ false
unfolding is_start instructions
none_start p = refl

pub onto_other : (i : Instruction) (r : Option (List Instruction)) (p : ℕ) → (i.at ≡ p → ⊥)
    → is_start (instructions (followed_by i r)) p ≡ is_start (instructions r) p
unfolding is_start instructions followed_by
onto_other i none p h = refl
onto_other i (some is) p h = rw (ne_eqb _ _ h) refl

pub onto_start : (i : Instruction) (r : Option (List Instruction)) → is_some r ≡ true → is_start (instructions (followed_by i r)) i.at ≡ true
unfolding is_start instructions followed_by is_some
onto_start i none h = absurd (no_true h)
onto_start i (some is) h = rw (eq-eqb i.at i.at refl) refl

pub onto_some : (i : Instruction) (r : Option (List Instruction)) → is_some (followed_by i r) ≡ is_some r
unfolding followed_by is_some
onto_some i none = refl
onto_some i (some is) = refl

-- ## One instruction

-- an instruction of a known size
abbrev pub sized_at : (op at size : ℕ) → List ℕ → Instruction
sized_at op at size l = record { at = at; opcode = op; operands = operands_by (form_of op); size = size; bytes = take size l }

width_some : (o : Operands) (k : Kind) → width_by (form (some o)) k ≡ with_opcode (size_with o k)
unfolding width_by width_with
width_some o k = rw by_form_is refl

sized_as : (at op size : ℕ) (o : Operands) (l : List ℕ) (s : Option ℕ) → with_opcode s ≡ suc size
    → sized at op o l s ≡ some (record { at = at; opcode = op; operands = o; size = size; bytes = take size l })
unfolding sized with_opcode
sized_as at op size o l none e = absurd (omega arith)
sized_as at op size o l (some n) e = let m : n ≡ size = omega arith in rw m refl

sized_none : (at op : ℕ) (o : Operands) (l : List ℕ) (s : Option ℕ) → with_opcode s ≡ 0 → sized at op o l s ≡ none
unfolding sized with_opcode
sized_none at op o l none e = refl
sized_none at op o l (some n) e = absurd (omega arith)

module _ (kind : ℕ → Kind) (at op : ℕ) (l : List ℕ) where
  known_as : (size : ℕ) (o : Option Operands) → width_by (form o) (kind (get_or l 0 0)) ≡ suc size
      → with_operands kind at op l o ≡ some (record { at = at; opcode = op; operands = operands_by (form o); size = size; bytes = take size l })
  unfolding with_operands form computes
  known_as size none e = absurd (omega arith)
  known_as size (some o) e =
      sized_as at op size o l (size_with o (kind (get_or l 0 0))) (sym (width_some o (kind (get_or l 0 0))) ∙ e) ∙ rw by_form_is refl

  known_none : (o : Option Operands) → width_by (form o) (kind (get_or l 0 0)) ≡ 0 → with_operands kind at op l o ≡ none
  unfolding with_operands
  known_none none e = refl
  known_none (some o) e = sized_none at op o l (size_with o (kind (get_or l 0 0))) (sym (width_some o (kind (get_or l 0 0))) ∙ e)

  its_size : (size : ℕ) → width kind op l ≡ suc size → instruction kind at op l ≡ some (sized_at op at size l)
  unfolding width instruction form_of
  its_size size e = known_as size (operands_of op) e

  no_size : width kind op l ≡ 0 → instruction kind at op l ≡ none
  unfolding width instruction form_of
  no_size e = known_none (operands_of op) e

module _ (kind : ℕ → Kind) where
  pub divide_skip : (at skip s : ℕ) (b : ℕ) (l : List ℕ) → skip ≡ suc s → divide kind at skip (b ∷ l) ≡ divide kind (at + 1) s l
  unfolding divide
  divide_skip at skip s b l e = rw e refl

  pub divide_none : (at op : ℕ) (l : List ℕ) → width kind op l ≡ 0 → divide kind at 0 (op ∷ l) ≡ none
  unfolding divide
  divide_none at op l e = rw (divide, no_size kind at op l e) refl

  pub divide_op : (at op size : ℕ) (l : List ℕ) → width kind op l ≡ suc size
      → divide kind at 0 (op ∷ l) ≡ followed_by (sized_at op at size l) (divide kind (at + 1) size l)
  unfolding divide
  divide_op at op size l e = rw (divide, its_size kind at op l size e) refl

  pub divide_cut : (at skip : ℕ) (l : List ℕ) → length l < skip → divide kind at skip l ≡ none
  unfolding divide
  divide_cut at zero [] h = absurd (omega arith)
  divide_cut at zero (b ∷ l) h = absurd (omega arith)
  divide_cut at (suc skip) [] h = refl
  divide_cut at (suc skip) (b ∷ l) h = divide_cut (at + 1) skip l (omega arith)

  -- no instruction starts in the bytes that are skipped
  fresh_op : (at op : ℕ) (l : List ℕ) (p : ℕ) → p < at
      → ((size : ℕ) → is_start (instructions (divide kind (at + 1) size l)) p ≡ false)
      → (w : ℕ) → width kind op l ≡ w → is_start (instructions (divide kind at 0 (op ∷ l))) p ≡ false
  fresh_op at op l p h later zero e = rw (divide_none at op l e) (none_start p)
  fresh_op at op l p h later (suc size) e = rw (divide_op at op size l e) (onto_other _ _ p (λ q. omega arith) ∙ later size)

  pub fresh : (at skip : ℕ) (l : List ℕ) (p : ℕ) → p < at + skip → is_start (instructions (divide kind at skip l)) p ≡ false
  unfolding divide instructions
  fresh at zero [] p h = none_start p
  fresh at (suc skip) [] p h = none_start p
  fresh at (suc skip) (b ∷ l) p h = fresh (at + 1) skip l p (omega arith)
  fresh at zero (op ∷ l) p h = fresh_op at op l p (omega arith) (λ size. fresh (at + 1) size l p (omega arith)) (width kind op l) refl

  pub some_fits : (at skip : ℕ) (l : List ℕ) → is_some (divide kind at skip l) ≡ true → skip ≤ length l
  unfolding divide is_some
  some_fits at zero l h = omega arith
  some_fits at (suc skip) [] h = absurd (no_true h)
  some_fits at (suc skip) (b ∷ l) h = let i : skip ≤ length l = some_fits (at + 1) skip l h in omega arith

  module _ (code : List ℕ) where
    pub passed : (at skip s : ℕ) → at < length code → skip ≡ suc s → from kind code at skip ≡ from kind code (at + 1) s
    unfolding from
    passed at skip s h e = rw (rest code at h) (divide_skip at skip s _ _ e)

    pub no_instruction : (at : ℕ) → at < length code → 0 ≡ width kind (get_or code at 0) (drop (at + 1) code) → from kind code at 0 ≡ none
    unfolding from
    no_instruction at h e = rw (rest code at h) (divide_none at _ _ (sym e))

    -- what stands at `at`, with its size
    abbrev pub at_size : ℕ → ℕ → Instruction
    at_size at size = sized_at (get_or code at 0) at size (drop (at + 1) code)

    pub here : (at size : ℕ) → at < length code → width kind (get_or code at 0) (drop (at + 1) code) ≡ suc size
        → from kind code at 0 ≡ followed_by (at_size at size) (from kind code (at + 1) size)
    unfolding from
    here at size h e = rw (rest code at h) (divide_op at _ size _ e)

    pub cut : (at skip : ℕ) → at ≤ length code → length code < at + skip → from kind code at skip ≡ none
    unfolding from
    cut at skip h l = divide_cut at skip (drop at code) (simp length-drop (omega arith))

    pub ended : (at : ℕ) → at ≡ length code → from kind code at 0 ≡ some []
    unfolding from divide
    ended at e = let h : length code ≤ at = omega arith in rw (drop_of_length-le code h) refl

    pub fresh_from : (at skip p : ℕ) → p < at + skip → is_start (instructions (from kind code at skip)) p ≡ false
    unfolding from
    fresh_from at skip p h = fresh at skip (drop at code) p h

    pub within_code : (at skip : ℕ) → at ≤ length code → is_some (from kind code at skip) ≡ true → at + skip ≤ length code
    unfolding from
    within_code at skip h e =
        let i : skip ≤ length code - at = simp length-drop at (some_fits at skip (drop at code) e) in
        omega arith

    -- where the code divides, an instruction has a width
    pub has_width : (at w : ℕ) → at < length code → w ≡ width kind (get_or code at 0) (drop (at + 1) code)
        → is_some (from kind code at 0) ≡ true → 0 < w
    unfolding is_some
    has_width at zero h e s = absurd (no_true (rw (no_instruction at h e) at s))
    has_width at (suc w) h e s = omega arith
