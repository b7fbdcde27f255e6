-- Demand 3 of every image that the compiler gives: `Division` divides each function's code into the pieces that `Coded` knows of, and each fits.
use mathlib.Core.Path.{◌≡◌, refl, ap, ◌∙◌, subst, subst⁻¹}
use mathlib.Core.Bool.{◌||◌}
use mathlib.Core.Option.{Option, none, some}
use mathlib.Core.List.{List, ◌∷◌, ◌++◌, append_assoc, append-nil, []}
use Prim.Native.Nat.{ℕ, suc, ◌+◌, ◌-◌, ◌≤◌, ◌<◌}
use native.Mathlib.Omega.{arith}
use native.Mathlib.Decide.{dec_lt}
use lib.ListN.{length, length-append, take, get_or}
use lib.Dec.{T, leb, eqb, le→leb, lt→ltb, eqb_refl}
use Rattle.rules.specs.Base.{all}
use Rattle.rules.specs.Tree.{Stmts}
use Rattle.rules.specs.Op as op
use Rattle.rules.specs.Op.{Operands}
use Rattle.rules.specs.Chunk.{Constant, Run, total, ObjectFunction}
use Rattle.rules.specs.Division as d
use Rattle.rules.specs.Division.{Instruction, word, fits}
use Rattle.rules.specs.Compiler as c
use Rattle.rules.specs.Compiler.{Compiler, Outcome, ok, err}
use Rattle.rules_laws.proofs.Keeps.{After}
use Rattle.rules_laws.proofs.Facts.{All, Form, plain, byte, captured_at, value_at, text_at, invoke, ahead, back, closure, IsValue, a_number, a_string}
use Rattle.rules_laws.proofs.Tests.{both, or_left, or_right, all_cons}
use Rattle.rules_laws.proofs.Pieces.{Piece, bytes, code, Border, end, under, Good, Fine, Lands, lands, waits, border_le}
use Rattle.rules_laws.proofs.Runs.{Counts, Counted, counted}
use Rattle.rules_laws.proofs.Coded.{Formed, Coded, none_known, coded}

take_left : (xs ys : List ℕ) → take (length xs) (xs ++ ys) ≡ xs
take_left [] ys = refl
take_left (x ∷ xs) ys = ap (λ (l : List ℕ). x ∷ l) (take_left xs ys)

-- ## The division

module _ (fs : List ObjectFunction) (cs : List Constant) (n : ℕ) where
  size : {kind : Operands} {bs : List ℕ} → Form fs cs n kind bs → (rest : List ℕ) →
      d.size_with kind (d.kind_at fs cs (get_or (bs ++ rest) 0 0)) ≡ some (length bs)
  unfolding d.size_with d.kind_at d.kind_of d.function_kind op.size_of
  size plain rest = refl
  size (byte b) rest = refl
  size (captured_at h b) rest = refl
  size (value_at e v) rest = refl
  size (text_at e) rest = refl
  size (invoke e b) rest = refl
  size ahead rest = refl
  size back rest = refl
  size (closure {f = f} {pairs = ps} e there s t) rest =
      rw (e, there) (ap {B = Option ℕ} some (omega (arith, s)))

  unfoldable pub instruction_of : ℕ → Operands → Piece → Instruction
  instruction_of at kind p =
      record { at = at; opcode = p.opcode; operands = kind; size = length p.operands; bytes = p.operands }

  one : (at : ℕ) (p : Piece) (h : Formed fs cs n p) (rest : List ℕ) →
      d.instruction (d.kind_at fs cs) at p.opcode (p.operands ++ rest) ≡ some (instruction_of at h.kind p)
  unfolding d.instruction d.with_operands d.sized instruction_of
  one at p h rest = rw (h.known, size h.form rest, take_left p.operands rest)

  skip : (at : ℕ) (bs rest : List ℕ) → d.divide (d.kind_at fs cs) at (length bs) (bs ++ rest) ≡ d.divide (d.kind_at fs cs) (at + length bs) 0 rest
  unfolding d.divide
  skip at [] rest = ap (λ (k : ℕ). d.divide (d.kind_at fs cs) k 0 rest) (omega arith)
  skip at (b ∷ bs) rest = skip (at + 1) bs rest ∙ ap (λ (k : ℕ). d.divide (d.kind_at fs cs) k 0 rest) (omega arith)

  step : (at : ℕ) (p : Piece) (h : Formed fs cs n p) (rest : List ℕ) (is : List Instruction) →
      d.divide (d.kind_at fs cs) (at + length (bytes p)) 0 rest ≡ some is → d.divide (d.kind_at fs cs) at 0 (bytes p ++ rest) ≡ some (instruction_of at h.kind p ∷ is)
  unfolding d.divide d.followed_by instruction_of
  step at p h rest is e =
      let e₁ : at + 1 + length p.operands ≡ at + suc (length p.operands) = omega arith in
      subst⁻¹
      (λ (o : Option Instruction).
      (elim o as (λ _. Option (List Instruction)) [ none ↦ none | some i ↦ d.followed_by i (d.divide (d.kind_at fs cs) (at + 1) i.size (p.operands ++ rest)) ])
      ≡ some (instruction_of at h.kind p ∷ is))
      (one at p h rest)
      (ap (d.followed_by (instruction_of at h.kind p)) (skip (at + 1) p.operands rest ∙ ap (λ (k : ℕ). d.divide (d.kind_at fs cs) k 0 rest) e₁ ∙ e))

  -- the pieces as instructions, the first one first, and then `is`
  unfoldable pub listing : (ps : List Piece) → All (Formed fs cs n) ps → List Instruction → List Instruction
  listing [] h is = is
  listing (p ∷ ps) h is = listing ps h.1 (instruction_of (length (code ps)) h.0.kind p ∷ is)

  divided : (ps : List Piece) (h : All (Formed fs cs n) ps) (rest : List ℕ) (is : List Instruction) →
      d.divide (d.kind_at fs cs) (length (code ps)) 0 rest ≡ some is → d.divide (d.kind_at fs cs) 0 0 (code ps ++ rest) ≡ some (listing ps h is)
  unfolding code listing
  divided [] h rest is e = e
  divided (p ∷ ps) h rest is e =
      rw append_assoc
      (divided ps h.1 (bytes p ++ rest) (instruction_of (length (code ps)) h.0.kind p ∷ is)
      (step (length (code ps)) p h.0 rest is (rw length-append at e)))

  divided_all : (ps : List Piece) (h : All (Formed fs cs n) ps) → d.divide (d.kind_at fs cs) 0 0 (code ps) ≡ some (listing ps h [])
  unfolding d.divide
  divided_all ps h = rw append-nil at (divided ps h [] [] refl)

  -- ## Borders are starts, or the end

  starts_later : (ps : List Piece) (h : All (Formed fs cs n) ps) (is : List Instruction) (t : ℕ) →
      T (d.is_start is t) → T (d.is_start (listing ps h is) t)
  unfolding listing d.is_start instruction_of
  starts_later [] h is t s = s
  starts_later (p ∷ ps) h is t s =
      starts_later ps h.1 (instruction_of (length (code ps)) h.0.kind p ∷ is) t (or_right (eqb (length (code ps)) t) (d.is_start is t) s)

  starts_here : {ps : List Piece} {t : ℕ} → Border ps t → (h : All (Formed fs cs n) ps) (is : List Instruction) → t < length (code ps) →
      T (d.is_start (listing ps h is) t)
  unfolding listing d.is_start code instruction_of
  starts_here (end e) h is l = absurd (omega arith)
  starts_here {t = t} (under {p = p} {ps = ps} b) h is l = by_place (λ l'. starts_here b h.1 (i ∷ is) l') (dec_lt t (length (code ps)))
    where
      i : Instruction
      i = instruction_of (length (code ps)) h.0.kind p

      by_place : (t < length (code ps) → T (d.is_start (listing ps h.1 (i ∷ is)) t)) →
          Dec (t < length (code ps)) → T (d.is_start (listing ps h.1 (i ∷ is)) t)
      by_place earlier (yes l') = earlier l'
      by_place earlier (no l') =
          let e : t ≡ length (code ps) = omega (arith, border_le b) in
          starts_later ps h.1 (i ∷ is) t (or_left (eqb (length (code ps)) t) (d.is_start is t) (rw e (eqb_refl (length (code ps)))))

-- ## Every instruction fits

module _ (fs : List ObjectFunction) (cs : List Constant) (n : ℕ) where
  value_fits : {v : Constant} → IsValue v → T (d.is_value (d.kind_of fs (some v)))
  unfolding d.is_value d.kind_of
  value_fits a_number = tt
  value_fits a_string = tt

  form_fits : {kind : Operands} {bs : List ℕ} → Form fs cs n kind bs → T (d.fit (d.kind_at fs cs) n kind bs)
  unfolding d.fit d.kind_at d.kind_of d.function_kind d.is_text d.is_function
  form_fits plain = tt
  form_fits (byte b) = tt
  form_fits (captured_at {i = i} b m) = lt→ltb i n b
  form_fits (value_at e v) = rw e (value_fits v)
  form_fits (text_at e) = rw e tt
  form_fits (invoke e b) = rw e tt
  form_fits ahead = tt
  form_fits back = tt
  form_fits (closure e there s t) = rw (e, there) t

  operands_all : (ps : List Piece) (h : All (Formed fs cs n) ps) (is : List Instruction) →
      T (all (d.operands_fit (d.kind_at fs cs) n) is) → T (all (d.operands_fit (d.kind_at fs cs) n) (listing fs cs n ps h is))
  unfolding listing instruction_of d.operands_fit
  operands_all [] h is t = t
  operands_all (p ∷ ps) h is t =
      operands_all ps h.1 _
      (all_cons (d.operands_fit (d.kind_at fs cs) n) (instruction_of fs cs n (length (code ps)) h.0.kind p) is (form_fits h.0.form) t)

-- ## Every jump lands

module _ (fs : List ObjectFunction) (cs : List Constant) (n : ℕ) (ps : List Piece) (formed : All (Formed fs cs n) ps) where
  abbrev whole : List Instruction
  whole = listing fs cs n ps formed []

  start_fits : {t : ℕ} → Border ps t → t < length (code ps) → T (d.is_start whole t)
  start_fits b l = starts_here fs cs n b formed [] l

  land_fits : {t : ℕ} → Border ps t → T (d.is_start whole t || eqb t (length (code ps)))
  land_fits {t} b = by_place (dec_lt t (length (code ps)))
    where
      by_place : Dec (t < length (code ps)) → T (d.is_start whole t || eqb t (length (code ps)))
      by_place (yes l) = or_left (d.is_start whole t) (eqb t (length (code ps))) (start_fits b l)
      by_place (no l) =
          let e : t ≡ length (code ps) = omega (arith, border_le b) in
          or_right (d.is_start whole t) (eqb t (length (code ps))) (rw e (eqb_refl (length (code ps))))

  jump_fits : {at t : ℕ} → Lands [] ps at t → T (d.is_start whole t || eqb t (length (code ps)))
  jump_fits (lands b) = land_fits b
  jump_fits {at = at} {t = t} (waits x) = elim x [ ]

  form_lands : {kind : Operands} {bs : List ℕ} → Form fs cs n kind bs → (at : ℕ) → at < length (code ps) → Fine (some kind) [] ps at bs →
      T (d.lands_by whole (length (code ps)) at kind bs)
  unfolding d.lands_by
  form_lands plain at l h = tt
  form_lands (byte b) at l h = tt
  form_lands (captured_at b m) at l h = tt
  form_lands (value_at e v) at l h = tt
  form_lands (text_at e) at l h = tt
  form_lands (invoke e b) at l h = tt
  form_lands ahead at l h = jump_fits h
  form_lands (back {a = a} {b = b}) at l h =
      both (leb (word (a ∷ b ∷ [])) (at + 3)) (d.is_start whole (at + 3 - word (a ∷ b ∷ [])))
      (le→leb (word (a ∷ b ∷ [])) (at + 3) h.reach) (start_fits h.border (omega (arith, h.earlier)))
  form_lands (closure e there s t) at l h = tt

  lands_all : (qs : List Piece) (h : All (Formed fs cs n) qs) (js : List Instruction) → Good [] ps qs → length (code qs) ≤ length (code ps) →
      T (all (d.lands whole (length (code ps))) js) → T (all (d.lands whole (length (code ps))) (listing fs cs n qs h js))
  unfolding listing code instruction_of d.lands
  lands_all [] h js g l t = t
  lands_all (q ∷ qs) h js g l t =
      let l' : length (code qs) < length (code ps) = omega (arith, length-append (code qs) (bytes q)) in
      lands_all qs h.1 _ g.1 (omega arith)
      (all_cons (d.lands whole (length (code ps))) (instruction_of fs cs n (length (code qs)) h.0.kind q) js
      (form_lands h.0.form (length (code qs)) l' (subst (λ (k : Option Operands). Fine k [] ps (length (code qs)) q.operands) h.0.known g.0)) t)

-- ## Runs

runs_all : (runs : List Run) → All Counts runs → T (all d.run_fits runs)
unfolding all d.run_fits
runs_all [] h = tt
runs_all (run ∷ runs) h =
    all_cons d.run_fits run runs
    (both (leb 1 run.count) (leb run.count 255) (le→leb 1 run.count h.0.least) (le→leb run.count 255 h.0.most)) (runs_all runs h.1)

runs_fit : (f : ObjectFunction) → Counted f.chunk → T (d.runs_fit f)
unfolding d.runs_fit
runs_fit f h =
    both (all d.run_fits f.chunk.spans) (eqb (total f.chunk.spans) (length f.chunk.ops)) (runs_all f.chunk.spans h.each)
    (rw h.sum (eqb_refl (length f.chunk.ops)))

-- ## A function

pub divides : (fs : List ObjectFunction) (f : ObjectFunction) (x : Coded none_known [] fs f.upvalue_count f.chunk) →
    d.division fs f ≡ some (listing fs f.chunk.constants f.upvalue_count x.coding.pieces x.coding.formed [])
unfolding d.division
divides fs f x =
    ap (d.divide (d.kind_at fs f.chunk.constants) 0 0) x.coding.is
    ∙ divided_all fs f.chunk.constants f.upvalue_count x.coding.pieces x.coding.formed

code_fits : (fs : List ObjectFunction) (f : ObjectFunction) (x : Coded none_known [] fs f.upvalue_count f.chunk) →
    T (d.code_fits fs f (some (listing fs f.chunk.constants f.upvalue_count x.coding.pieces x.coding.formed [])))
unfolding d.code_fits all
code_fits fs f x =
    both (all (d.operands_fit (d.kind_at fs f.chunk.constants) f.upvalue_count) is) (all (d.lands is (length f.chunk.ops)) is)
    (operands_all fs f.chunk.constants f.upvalue_count x.coding.pieces x.coding.formed [] tt)
    (rw x.coding.is
    (lands_all fs f.chunk.constants f.upvalue_count x.coding.pieces x.coding.formed x.coding.pieces x.coding.formed [] x.coding.good (omega arith) tt))
  where
    is : List Instruction
    is = listing fs f.chunk.constants f.upvalue_count x.coding.pieces x.coding.formed []

function_fits : (fs : List ObjectFunction) (f : ObjectFunction) → Coded none_known [] fs f.upvalue_count f.chunk → Counted f.chunk → T (d.function_fits fs f)
unfolding d.function_fits
function_fits fs f x r =
    both (d.runs_fit f) (d.code_fits fs f (d.division fs f)) (runs_fit f r)
    (subst⁻¹ (λ (is : Option (List Instruction)). T (d.code_fits fs f is)) (divides fs f x) (code_fits fs f x))

functions_fit : (all_of fs : List ObjectFunction) → All (λ (f : ObjectFunction). List ObjectFunction × Coded none_known [] all_of f.upvalue_count f.chunk) fs →
    All (λ (f : ObjectFunction). List ObjectFunction × Counted f.chunk) fs → T (all (d.function_fits all_of) fs)
unfolding all
functions_fit all_of [] h r = tt
functions_fit all_of (f ∷ fs) h r =
    all_cons (d.function_fits all_of) f fs (function_fits all_of f h.0.1 r.0.1) (functions_fit all_of fs h.1 r.1)

-- ## The law

-- demand 3: whatever the statements and the code limit, if the compiler accepts, then what it gives fits
pub demand_3 : (limit : ℕ) (stmts : Stmts) (fs : List ObjectFunction) (s : Compiler) → c.compile_functions limit stmts ≡ ok fs s → T (fits fs)
unfolding fits
demand_3 limit stmts fs s e = of_both (c.compile_functions limit stmts) e (coded limit stmts) (counted limit stmts)
  where
    of_both : (o : Outcome (List ObjectFunction)) → o ≡ ok fs s →
        After (λ gs _. All (λ (f : ObjectFunction). List ObjectFunction × Coded none_known [] gs f.upvalue_count f.chunk) gs) o →
        After (λ gs _. All (λ (f : ObjectFunction). List ObjectFunction × Counted f.chunk) gs) o → T (fits fs)
    of_both (ok gs s') e h r = let z : gs ≡ fs = cc in subst (λ (hs : List ObjectFunction). T (fits hs)) z (functions_fit gs gs h r)
    of_both (err x) e h r = let z : ◌≡◌ {A = ℕ} 0 1 = cc in absurd (omega arith)
