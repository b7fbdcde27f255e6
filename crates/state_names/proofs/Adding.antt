-- The ways out of add_upvalue, as facts of lists.
use Prim.Native.Nat.{ℕ, ◌+◌, ◌*◌, ◌/◌, ◌%◌, ◌≤◌, ◌<◌}
use native.Mathlib.Omega.{arith}
use mathlib.Core.Path.{◌≡◌, refl, sym, ap, ap₂, ◌∙◌, subst}
use mathlib.Core.Logic.{⊎_elim}
use mathlib.Core.List.{List, ◌∷◌, ◌++◌, []}
use mathlib.Core.Bool.{Bool, true, false, ◌&&◌}
use mathlib.Core.Option.{Option, some}
use mathlib.Core.Option.{none as nothing}
use lib.ListN.{length, get_or, set}
use lib.Seq.{get_or-set_same}
use lib.Dec.{eqb, ltb}
use mir.Val.{bool_byte}
use lib.Arith.{digits_div, digits_mod}
use borrow.Author.Tests.{eq-eqb, eqb-true, eqb-false, lt-ltb, le-ltb}
use Rattle.rules.specs.Base.{position}
use Rattle.std.specs.Prelude.{if◌then◌else◌, Some, None, Ok, Err, slice_range}
use Rattle.rules.specs.declared.Span.{Span}
use Rattle.rules.specs.Compiler.{Upvalue, CompilerCtx, captured, with_upvalues, same_upvalue, added, add_upvalue}
use Rattle.state.specs.Layout.{levels, upvalue_of, upvalues_of, ctx_at, Wf, upvalues_place, upvalue_count_place, constants_place, depth_place, level_words}
use Rattle.state.specs.Meaning.{Kept, First, Added}
use Rattle.state.specs.declared.Uncaptured.TheVariants as uncaptured
use Rattle.state_scan.proofs.Scan.{first_none, first_some}
use Rattle.state.proofs.Laws.{length_row, position_at, position_none, push_vec, kept_set, kept_same, kept_off, kept_then, if_true, if_false, locals_same, chunk_same, ctx_paths, lt_or_le}
use Rattle.state.proofs.Laws.{few_set, wf_upvalues, wf_entry}

abbrev alike : Bool → Bool → Bool
alike x y = if x then y else if y then false else true

alike_self : (x : Bool) → alike x x ≡ true
alike_self true = refl
alike_self false = refl

and_false : (x y : Bool) → (x ≡ true → y ≡ true → ⊥) → (x && y) ≡ false
and_false true true never = absurd (never refl refl)
and_false true false never = refl
and_false false y never = refl

alike_same : (x y : Bool) → alike x y ≡ true → x ≡ y
alike_same true true e = refl
alike_same false false e = refl
alike_same true false e = let z : ◌≡◌ {A = ℕ} 0 1 = cc in absurd (omega arith)
alike_same false true e = let z : ◌≡◌ {A = ℕ} 0 1 = cc in absurd (omega arith)

-- two yes-or-no numbers that read alike are one
one_bit : (a b : ℕ) → a < 2 → b < 2 → eqb a 1 ≡ eqb b 1 → a ≡ b
one_bit a b h g e = bit (eqb b 1) e refl
  where
    bit : (y : Bool) → eqb a 1 ≡ y → eqb b 1 ≡ y → a ≡ b
    bit true p q = eqb-true _ _ p ∙ sym (eqb-true _ _ q)
    bit false p q = let x : a ≡ 1 → ⊥ = eqb-false _ _ p in let y : b ≡ 1 → ⊥ = eqb-false _ _ q in omega (arith, off a h x, off b g y)
      where
        off : (n : ℕ) → n < 2 → (n ≡ 1 → ⊥) → n ≡ 0
        off n k ne = omega arith

bit_below : (y : Bool) → bool_byte y < 2
bit_below true = omega arith
bit_below false = omega arith

bit_is : (y : Bool) → eqb (bool_byte y) 1 ≡ y
bit_is true = refl
bit_is false = refl

module _ (t : List ℕ) (l : ℕ) (y : Bool) (b : ℕ) (small : b < 256) (low : l < levels) (wf : Wf t) where
  abbrev u : Upvalue
  u = record { idx = b; is_local = y }

  -- the bit that the word has of it
  abbrev a : ℕ
  a = bool_byte y

  here : (w : ℕ) → w ≡ a * 256 + b → same_upvalue u (upvalue_of w) ≡ true
  unfolding same_upvalue
  here w e =
      let x : w / 256 ≡ a = ap (λ (k : ℕ). k / 256) e ∙ digits_div a small in
      let z : w % 256 ≡ b = ap (λ (k : ℕ). k % 256) e ∙ digits_mod a small in
      ap₂ ◌&&◌ (eq-eqb _ _ (sym z)) (ap (λ (k : ℕ). alike y (eqb k 1)) x ∙ ap (alike y) (bit_is y) ∙ alike_self y)

  other : (w : ℕ) → w < 512 → (w ≡ a * 256 + b → ⊥) → same_upvalue u (upvalue_of w) ≡ false
  unfolding same_upvalue
  other w half ne = and_false _ _ (λ x e. let q : b ≡ w % 256 = eqb-true _ _ x in let p : a ≡ w / 256 = one_bit a (w / 256) (bit_below y) (omega arith)
      (bit_is y ∙ alike_same y (eqb (w / 256) 1) e) in ne (omega arith))

  -- an upvalue that stands there is one of two kinds
  half : (j : ℕ) → j < get_or t (l * level_words + upvalue_count_place) 0 → get_or t (l * level_words + upvalues_place + j) 0 < 512
  half j h = let q : l * level_words + (upvalues_place + j) ≡ l * level_words + upvalues_place + j = omega arith in subst (λ (k : ℕ). get_or t k 0 < 512) q
      (wf.pairs l (upvalues_place + j) low (omega arith) (omega arith))

  abbrev words : List ℕ
  words = slice_range t (l * level_words + upvalues_place) (l * level_words + upvalues_place + get_or t (l * level_words + upvalue_count_place) 0)

  room_for : l * level_words + upvalues_place + get_or t (l * level_words + upvalue_count_place) 0 ≤ length t
  room_for = omega (arith, wf.size, wf.few_upvalues l low)

  module _ where
    by_place : (o : Option ℕ) → position (same_upvalue u) (upvalues_of t l) ≡ o → (span : Span) (code spans : List ℕ) (ce re : ℕ) (above : List CompilerCtx) →
        add_upvalue u span (ctx_at t code spans l ce re) above ≡ added o u span (ctx_at t code spans l ce re) above
    unfolding add_upvalue ctx_at
    by_place o e span code spans ce re above = ap (λ (x : Option ℕ). added x u span (ctx_at t code spans l ce re) above) e

    pub there : (r : ℕ) → First words (a * 256 + b) (Some r) → Added t t l u (Ok (Some r))
    unfolding added
    there r f =
        let found = first_some t _ _ room_for _ r f in
        let e : position (same_upvalue u) (upvalues_of t l) ≡ some r = position_at _ _ r _ found.0 (λ j g. other _ (half j (omega (arith, found.0))) (found.1 j g)) (here _ found.2) in
        record {
          does = λ span nm code spans ce re above. sym (by_place (some r) e span code spans ce re above);
          some = λ e. let z : ◌≡◌ {A = ℕ} 0 1 = cc in omega arith;
          kept = kept_same _ _ t;
          wf = wf;
        }

    module _ (f : First words (a * 256 + b) None) where
      none : position (same_upvalue u) (upvalues_of t l) ≡ nothing
      none = position_none _ _ _ (λ j g. other _ (half j g) (first_none t _ _ room_for _ f j g))

      counted : (b : Bool) → ltb (get_or t (l * level_words + upvalue_count_place) 0) 256 ≡ b → ltb (length (upvalues_of t l)) 256 ≡ b
      counted b e = ap (λ (k : ℕ). ltb k 256) (length_row _ _) ∙ e

      pub full : 256 ≤ get_or t (l * level_words + upvalue_count_place) 0 → Added t t l u (Err uncaptured.Full)
      unfolding added ctx_at
      full m = record {
        does = λ span nm code spans ce re above. sym (by_place nothing none span code spans ce re above ∙ if_false _ _ _ (counted false (le-ltb _ _ m)));
        some = λ e. let z : ◌≡◌ {A = ℕ} 0 1 = cc in omega arith;
        kept = kept_same _ _ t;
        wf = wf;
      }

      pub pushed : get_or t (l * level_words + upvalue_count_place) 0 < 256 → Added t
          (set (set t (l * level_words + upvalues_place + get_or t (l * level_words + upvalue_count_place) 0) (a * 256 + b))
          (l * level_words + upvalue_count_place) (get_or t (l * level_words + upvalue_count_place) 0 + 1)) l u (Ok (Some (get_or t (l * level_words + upvalue_count_place) 0)))
      unfolding added ctx_at
      pushed m =
          let c : ℕ = l * level_words + upvalue_count_place in
          let k : ℕ = get_or t c 0 in
          let t₁ : List ℕ = set t (l * level_words + upvalues_place + k) (a * 256 + b) in
          let t' : List ℕ = set t₁ c (k + 1) in
          let room : c < length t = omega (arith, wf.size) in
          let kp : Kept (l * level_words + upvalues_place) (l * level_words + constants_place) t t' = kept_then _ _ t t₁ _ _
          (kept_set _ _ t _ _ (omega arith) (omega arith)) (omega arith) (omega arith) in
          let at : (o : ℕ) → (upvalues_place ≤ o → o < constants_place → ⊥) → get_or t' (l * level_words + o) 0 ≡ get_or t (l * level_words + o) 0 = λ o off.
          kept_off _ _ t t' _ kp (λ x y. off (omega arith) (omega arith)) in
          let w : upvalue_of (a * 256 + b) ≡ u = λ i. record { idx = digits_mod a small i; is_local = (ap (λ (k : ℕ). eqb k 1) (digits_div a small) ∙ bit_is y) i } in
          let us : upvalues_of t' l ≡ upvalues_of t l ++ (u ∷ []) = push_vec upvalue_of t _ c (a * 256 + b) (omega arith) room ∙ ap (λ (x : Upvalue). upvalues_of t l ++ (x ∷ [])) w in
          let bit : a < 2 = bit_below y in
          let half' : (o : ℕ) → upvalues_place ≤ o → o < upvalues_place + (k + 1) → get_or t₁ (l * level_words + o) 0 < 512 = λ o x z.
          ⊎_elim (λ (g : o < upvalues_place + k). omega (
            arith,
            few_set 511 t (l * level_words + upvalues_place + k) (a * 256 + b) (l * level_words + o)
                (omega (arith, bit)) (omega (arith, wf.pairs l o low x g)),
          ))
          (λ (g : upvalues_place + k ≤ o). let e : l * level_words + upvalues_place + k ≡ l * level_words + o = omega arith in subst
          (λ (j : ℕ). get_or t₁ j 0 < 512) e (omega (arith, get_or-set_same t (l * level_words + upvalues_place + k) (a * 256 + b) 0 (omega arith), bit)))
          (lt_or_le o (upvalues_place + k)) in
          let len : length (upvalues_of t l) ≡ k = length_row _ _ in
          let ctx : (code spans : List ℕ) (ce re : ℕ) → ctx_at t' code spans l ce re ≡ with_upvalues (ctx_at t code spans l ce re) (upvalues_of t l ++ (u ∷ [])) = λ code spans ce re.
          ctx_paths t code spans t' code spans l ce re ce re (λ o x y. at o (λ p q. omega arith))
          (chunk_same t code spans t' code spans l ce re (wf.few_constants l low) (λ o x y z. at o (λ p q. omega arith)) (λ i h. refl) (λ i h. refl))
          (locals_same t t' l (wf.few_locals l low) (λ o x. at o (λ p q. omega arith)))
          us (at depth_place (λ p q. omega arith)) in
          record {
            does = λ span nm code spans ce re above. ap₂ (λ (n : ℕ) (x : CompilerCtx). captured n x above) (sym len) (ctx code spans ce re) ∙ sym
                (by_place nothing none span code spans ce re above ∙ if_true _ _ _ (counted true (lt-ltb _ _ m)));
            some = λ e. let z : ◌≡◌ {A = ℕ} 0 1 = cc in omega arith;
            kept = kp;
            wf = wf_upvalues t₁ l (k + 1) low (omega arith) half'
                (subst (λ (j : ℕ). Wf (set t j (a * 256 + b))) (omega arith)
                (wf_entry t l (upvalues_place + k) _ (omega arith) (λ p q. omega arith) (λ e. omega arith) (λ e. omega arith) (λ e. omega arith) (λ e. omega arith) wf));
          }
