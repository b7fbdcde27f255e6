-- Laws of filling the ring.
use mathlib.Core.Path.{◌≡◌, refl, sym, ◌∙◌, ap}
use mathlib.Core.Bool.{Bool, true, false}
use mathlib.Core.Option.{Option}
use mathlib.Core.List.{List}
use Prim.Native.Nat.{ℕ, suc, ◌+◌, ◌%◌, ◌<◌, ◌≤◌}
use native.Mathlib.Omega.{arith}
use native.Mathlib.Nat.{eq-or-lt_of_le}
use mathlib.Core.Logic.{⊎_elim}
use lib.ListN.{length, get_or, drop, set, length-set}
use lib.Seq.{get_or-set_same, get_or-set_other}
use Rattle.rules.specs.Division.{Kind, Instruction, is_start}
use Rattle.image_code.specs.Forms.{width}
use Rattle.image_code.specs.Table.{from, instructions, is_some, window_size, Wide}
use Rattle.image_code.proofs.Steps.{passed, here, within_code, has_width, fresh_from, onto_some, onto_start, onto_other}
use Rattle.image_jumps.specs.Ring.{start_at, Filled}

module _ (kind : ℕ → Kind) (code : List ℕ) (ring : List Bool) where
  window_more : (at : ℕ) (v : Bool) → at % window_size < length ring → start_at kind code at ≡ v
      → ((p : ℕ) → p < at → at ≤ p + window_size → get_or ring (p % window_size) false ≡ start_at kind code p)
      → (p : ℕ) → p < at + 1 → at + 1 ≤ p + window_size → get_or (set ring (at % window_size) v) (p % window_size) false ≡ start_at kind code p
  window_more at v inside e window p l u =
      ⊎_elim (λ (q : p ≡ at). rw (q, get_or-set_same ring (at % window_size) v false inside) (sym e))
      (λ (q : p < at). get_or-set_other ring (at % window_size) (p % window_size) v false (λ m. omega arith) ∙ window p q (omega arith))
      (eq-or-lt_of_le (omega arith))

  set_room : (at : ℕ) (v : Bool) → Wide (length code) (length ring) → Wide (length code) (length (set ring (at % window_size) v))
  set_room at v room p h = rw (length-set ring (at % window_size) v) (room p h)

  pub fill_skip : (at skip s : ℕ) → Filled kind code ring at skip → at < length code → skip ≡ suc s
      → Filled kind code (set ring (at % window_size) false) (at + 1) s
  fill_skip at skip s f h e =
      let same = passed kind code at skip s h e in
      record {
        room = set_room at _ f.room;
        divides = rw same at f.divides;
        ahead = λ p l. f.ahead p (omega arith) ∙ ap (λ (r : Option (List Instruction)). is_start (instructions r) p) same;
        window = window_more at false (f.room at h) (f.ahead at (omega arith) ∙ fresh_from kind code at skip at (omega arith)) f.window;
        within = omega (arith, f.within);
      }

  fill_start_0 : (at size : ℕ) → Filled kind code ring at 0 → at < length code
      → width kind (get_or code at 0) (drop (at + 1) code) ≡ suc size
      → Filled kind code (set ring (at % window_size) true) (at + 1) size
  fill_start_0 at size f h e =
      let same = here kind code at size h e in
      let some_rest : is_some (from kind code (at + 1) size) ≡ true = sym (onto_some _ _) ∙ ap is_some (sym same) ∙ f.divides in
      record {
        room = set_room at _ f.room;
        divides = some_rest;
        ahead = λ p l. f.ahead p (omega arith) ∙ ap (λ (r : Option (List Instruction)). is_start (instructions r) p) same ∙ onto_other _ _ p (λ q. omega arith);
        window = window_more at true (f.room at h) (
            (f.ahead at (omega arith) ∙ ap (λ (r : Option (List Instruction)). is_start (instructions r) at) same ∙ onto_start _ _ some_rest)) f.window;
        within = within_code kind code (at + 1) size (omega arith) some_rest;
      }

  pub fill_start : (at skip w size : ℕ) → skip ≡ 0 → Filled kind code ring at skip → at < length code
      → w ≡ width kind (get_or code at 0) (drop (at + 1) code) → w ≡ suc size
      → Filled kind code (set ring (at % window_size) true) (at + 1) size
  fill_start at skip w size z f h e s = fill_start_0 at size (rw z at f) h (sym e ∙ s)

  pub fill_width : (at skip w : ℕ) → skip ≡ 0 → Filled kind code ring at skip → at < length code
      → w ≡ width kind (get_or code at 0) (drop (at + 1) code) → 0 < w
  fill_width at skip w z f h e = has_width kind code at w h e (rw z at f.divides)

  pub filled_to : (at skip want : ℕ) → at ≡ want → Filled kind code ring at skip → (want ≡ want) × Filled kind code ring want skip
  filled_to at skip want e f = (refl, rw e at f)
