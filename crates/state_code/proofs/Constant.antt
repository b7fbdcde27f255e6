-- The ways out of write_constant, as facts of lists.
use Prim.Native.Nat.{ℕ, ◌+◌, ◌*◌, ◌-◌, ◌^◌, ◌≤◌, ◌<◌}
use native.Mathlib.Omega.{arith}
use mathlib.Core.Path.{◌≡◌, refl, sym, ap, ap₂, ◌∙◌, subst}
use mathlib.Core.Logic.{⊎_elim}
use mathlib.Core.List.{List, ◌∷◌, ◌++◌, []}
use mathlib.Core.Bool.{Bool, true, false}
use mathlib.Core.Option.{Option, some}
use mathlib.Core.Option.{none as nothing}
use lib.ListN.{length, get_or, set}
use lib.Dec.{ltb}
use borrow.Author.Tests.{eq-eqb, ne_eqb, lt-ltb, le-ltb}
use Rattle.rules.specs.Base.{position}
use Rattle.rules.specs.Chunk.{Constant, CN, CS, CF, same_constant, written, write_constant, at_place}
use Rattle.state.specs.Layout.{levels, constant_of, level_constants, chunk_at, Wf, constants_place, constant_count_place, depth_place, level_words}
use Rattle.state.specs.Meaning.{Kept, First, Constants}
use Rattle.state.specs.declared.Full.{Full}
use Rattle.std.specs.Prelude.{Some, None, Ok, Err, slice_range}
use Rattle.state_scan.proofs.Scan.{first_none, first_some}
use Rattle.state.proofs.Laws.{length_row, position_at, position_none, push_vec, kept_set, kept_same, kept_then, if_true, if_false, lt_or_le, chunk_paths, wf_count, wf_plain}
use Rattle.state.proofs.Words as words

same_self : (c : Constant) → same_constant c c ≡ true
unfolding same_constant
same_self (CN a) = eq-eqb a a refl
same_self (CS a) = eq-eqb a a refl
same_self (CF a) = eq-eqb a a refl

-- a name's word, and a function's
pub name_word : (name : ℕ) → name < 2 ^ 32 → constant_of (2 ^ 63 + name) ≡ CS name
name_word name h = words.string_word (2 ^ 63 + name) (omega arith) (omega arith) ∙ ap CS (omega arith)

pub function_word : (number : ℕ) → constant_of (2 ^ 63 + 2 ^ 32 + number) ≡ CF number
function_word number = words.function_word (2 ^ 63 + 2 ^ 32 + number) (omega arith) ∙ ap CF (omega arith)

-- a word is one of three, for any statement about it
by_kind : (P : Constant → Type 0) (w : ℕ) → (w < 2 ^ 63 → P (CN w)) → (2 ^ 63 ≤ w → w < 2 ^ 63 + 2 ^ 32 → P (CS (w - 2 ^ 63))) →
    (2 ^ 63 + 2 ^ 32 ≤ w → P (CF (w - (2 ^ 63 + 2 ^ 32)))) → P (constant_of w)
by_kind P w a b c =
    ⊎_elim (λ (h : w < 2 ^ 63). subst P (sym (words.number_word w h)) (a h))
    (λ (h : 2 ^ 63 ≤ w). ⊎_elim (λ (g : w < 2 ^ 63 + 2 ^ 32). subst P (sym (words.string_word w h g)) (b h g))
    (λ (g : 2 ^ 63 + 2 ^ 32 ≤ w). subst P (sym (words.function_word w g)) (c g)) (lt_or_le w (2 ^ 63 + 2 ^ 32)))
    (lt_or_le w (2 ^ 63))

-- two words of one constant are one word
apart : (v w : ℕ) → (w ≡ v → ⊥) → same_constant (constant_of v) (constant_of w) ≡ false
unfolding same_constant
apart v w ne =
    by_kind (λ (c : Constant). same_constant c (constant_of w) ≡ false) v
    (λ hv. by_kind (λ (d : Constant). same_constant (CN v) d ≡ false) w (λ hw. ne_eqb v w (λ e. ne (sym e))) (λ h g. refl) (λ g. refl))
    (λ hv gv. by_kind (λ (d : Constant). same_constant (CS (v - 2 ^ 63)) d ≡ false) w (λ hw. refl)
    (λ h g. ne_eqb (v - 2 ^ 63) (w - 2 ^ 63) (λ (e : v - 2 ^ 63 ≡ w - 2 ^ 63). ne (omega arith))) (λ g. refl))
    (λ gv. by_kind (λ (d : Constant). same_constant (CF (v - (2 ^ 63 + 2 ^ 32))) d ≡ false) w (λ hw. refl) (λ h g. refl)
    (λ g. ne_eqb (v - (2 ^ 63 + 2 ^ 32)) (w - (2 ^ 63 + 2 ^ 32)) (λ (e : v - (2 ^ 63 + 2 ^ 32) ≡ w - (2 ^ 63 + 2 ^ 32)). ne (omega arith))))

module _ (t : List ℕ) (l w : ℕ) (low : l < levels) (wf : Wf t) where
  abbrev scanned : List ℕ
  scanned = slice_range t (l * level_words + constants_place) (l * level_words + constants_place + get_or t (l * level_words + constant_count_place) 0)

  room : l * level_words + constants_place + get_or t (l * level_words + constant_count_place) 0 ≤ length t
  room = omega (arith, wf.size, wf.few_constants l low)

  by_place : (o : Option ℕ) → position (same_constant (constant_of w)) (level_constants t l) ≡ o → (code spans : List ℕ) (ce re : ℕ) → write_constant
      (chunk_at t code spans l ce re) (constant_of w) ≡ written o (chunk_at t code spans l ce re) (constant_of w)
  unfolding write_constant chunk_at
  by_place o e code spans ce re = ap (λ (x : Option ℕ). written x (chunk_at t code spans l ce re) (constant_of w)) e

  pub there : (r : ℕ) → First scanned w (Some r) → Constants t t l w (Ok r)
  unfolding written
  there r f =
      let found = first_some t _ _ room _ r f in
      let e : position (same_constant (constant_of w)) (level_constants t l) ≡ some r = position_at _ _ r _ found.0 (λ j g. apart w _ (found.1 j g))
      (ap (λ (x : ℕ). same_constant (constant_of w) (constant_of x)) found.2 ∙ same_self (constant_of w)) in
      record { does = λ code spans ce re. sym (by_place (some r) e code spans ce re); kept = kept_same _ _ t; wf = wf }

  module _ (f : First scanned w None) where
    none : position (same_constant (constant_of w)) (level_constants t l) ≡ nothing
    none = position_none _ _ _ (λ j g. apart w _ (first_none t _ _ room _ f j g))

    counted : (b : Bool) → ltb (get_or t (l * level_words + constant_count_place) 0) 256 ≡ b → ltb (length (level_constants t l)) 256 ≡ b
    counted b e = ap (λ (k : ℕ). ltb k 256) (length_row _ _) ∙ e

    pub full : (e : Full) → 256 ≤ get_or t (l * level_words + constant_count_place) 0 → Constants t t l w (Err e)
    unfolding written chunk_at
    full e m = record {
      does = λ code spans ce re. sym (by_place nothing none code spans ce re ∙ if_false _ _ _ (counted false (le-ltb _ _ m)));
      kept = kept_same _ _ t;
      wf = wf;
    }

    pub pushed : get_or t (l * level_words + constant_count_place) 0 < 256 → Constants t
        (set (set t (l * level_words + constants_place + get_or t (l * level_words + constant_count_place) 0) w) (l * level_words + constant_count_place)
        (get_or t (l * level_words + constant_count_place) 0 + 1)) l w (Ok (get_or t (l * level_words + constant_count_place) 0))
    unfolding written chunk_at
    pushed m =
        let n : ℕ = get_or t (l * level_words + constant_count_place) 0 in
        let t₁ : List ℕ = set t (l * level_words + constants_place + n) w in
        let t' : List ℕ = set t₁ (l * level_words + constant_count_place) (n + 1) in
        let cs : level_constants t' l ≡ level_constants t l ++ (constant_of w ∷ []) = push_vec constant_of t (l * level_words + constants_place)
        (l * level_words + constant_count_place) w (omega arith) (omega (arith, wf.size)) in
        let e : l * level_words + (constants_place + n) ≡ l * level_words + constants_place + n = omega arith in
        let kp : Kept (l * level_words + constants_place) (l * level_words + depth_place) t t' = kept_then _ _ t t₁ _ _ (kept_set _ _ t _ _ (omega arith) (omega arith)) (omega arith) (omega arith) in
        let len : length (level_constants t l) ≡ n = length_row _ _ in
        record {
          does = λ code spans ce re.
              ap₂ at_place (sym len) (chunk_paths t code spans t' code spans l ce re ce re _ cs (kp.above _ (omega arith)) (kp.above _ (omega arith)) _ refl _ refl)
              ∙ sym (by_place nothing none code spans ce re ∙ if_true _ _ _ (counted true (lt-ltb _ _ m)));
          kept = kp;
          wf = wf_count t₁ l constant_count_place (n + 1) (omega arith) (λ z. omega arith) (omega arith)
              (subst (λ (j : ℕ). Wf (set t j w)) e (wf_plain t l (constants_place + n) _ (omega arith) (λ a b. omega arith) (λ z. omega arith) (λ z. omega arith) wf));
        }
