-- The ways out of resolve_local, as facts of lists.
use Prim.Native.Nat.{ℕ, suc, ◌+◌, ◌*◌, ◌/◌, ◌%◌, ◌≤◌, ◌<◌}
use native.Mathlib.Omega.{arith}
use mathlib.Core.Path.{◌≡◌, refl, sym, ap, ◌∙◌}
use mathlib.Core.List.{List}
use mathlib.Core.Bool.{Bool, true, false}
use Rattle.std.specs.Prelude.{Some, None, Ok, Err, slice_range}
use lib.ListN.{length, get_or, set}
use lib.Dec.{eqb, lit<}
use lib.Arith.{digits_div, digits_mod}
use native.Mathlib.Nat.{add-mod_right, add-div_right}
use lib.Seq.{get_or-set_same, get_or-set_other}
use borrow.Author.Tests.{eq-eqb, ne_eqb}
use Rattle.rules.specs.Compiler.{at_slot, uninitialized, no_local, find_local}
use Rattle.state.specs.Layout.{levels, stack, local_of, locals_of, Wf, level_words, local_count_place}
use Rattle.state.specs.Meaning.{Topmost, Looked}
use Rattle.state.specs.declared.Unready.{Unready}
use Rattle.state_scan.proofs.Scan.{topmost_none, topmost_some}
use Rattle.state.proofs.Laws.{find_up, find_at, caught, capture_up, capture_at, kept_set, kept_same, if_true, if_false, wf_plain}

-- the word of local i
abbrev word : List ℕ → ℕ → ℕ → ℕ
word t l i = get_or t (l * level_words + i) 0

mark_local : (w : ℕ) → w / 65536 / 2 % 2 ≡ 0 → local_of (w + 131072) ≡ caught (local_of w)
mark_local w z =
    let a : (w + 131072) % 65536 ≡ w % 65536 = omega arith in
    let x : (w + 131072) / 65536 ≡ w / 65536 + 2 = omega arith in
    let r : (w + 131072) / 65536 % 2 ≡ w / 65536 % 2 = ap (λ (n : ℕ). n % 2) x ∙ add-mod_right (w / 65536) 2 in
    let y : (w + 131072) / 65536 / 2 ≡ w / 65536 / 2 + 1 = ap (λ (n : ℕ). n / 2) x ∙ add-div_right (w / 65536) (lit< tt) in
    let y' : (w + 131072) / 65536 / 2 ≡ w / 65536 / 2 / 2 * 2 + 1 = omega arith in
    let q : (w + 131072) / 65536 / 2 % 2 ≡ 1 = ap (λ (n : ℕ). n % 2) y' ∙ digits_mod (w / 65536 / 2 / 2) (lit< tt) in
    let b : (w + 131072) / 65536 / 2 / 2 ≡ w / 65536 / 2 / 2 = ap (λ (n : ℕ). n / 2) y' ∙ digits_div (w / 65536 / 2 / 2) (lit< tt) in
    λ i. record { name = a i; depth = b i; is_initialized = eqb (r i) 1; is_captured = eq-eqb _ _ q i }

marked_local : (w : ℕ) → (w / 65536 / 2 % 2 ≡ 0 → ⊥) → local_of w ≡ caught (local_of w)
marked_local w z =
    let q : w / 65536 / 2 % 2 ≡ 1 = omega arith in
    λ i. record { name = w % 65536; depth = w / 65536 / 2 / 2; is_initialized = eqb (w / 65536 % 2) 1; is_captured = eq-eqb _ _ q i }

module _ (t : List ℕ) (l nm : ℕ) (low : l < levels) (wf : Wf t) where
  abbrev locals : List ℕ
  locals = slice_range t (l * level_words) (l * level_words + word t l local_count_place)

  room : l * level_words + word t l local_count_place ≤ length t
  room = omega (arith, wf.size, wf.few_locals l low)

  pub nothing : (mark : Bool) → Topmost locals nm None → Looked t t l nm mark (Ok None)
  unfolding find_local stack
  nothing mark top = made mark (sym (find_up _ nm 0 _ (omega arith) (topmost_none t _ _ room nm top)))
    where
      made : (mark : Bool) → no_local ≡ find_local nm (locals_of t l) → Looked t t l nm mark (Ok None)
      made true a = record { answer = a; locals = refl; quiet = λ e. refl; unmarked = λ e. refl; kept = kept_same _ _ t; wf = wf }
      made false a = record { answer = a; locals = refl; quiet = λ e. refl; unmarked = λ e. refl; kept = kept_same _ _ t; wf = wf }

  module _ (j : ℕ) (found_at : Topmost locals nm (Some j)) where
    top : (j < word t l local_count_place) × ((k : ℕ) → j < k → k < word t l local_count_place → word t l k % 65536 ≡ nm → ⊥) × (word t l j % 65536 ≡ nm)
    top = topmost_some t _ _ room nm j found_at

    within : suc j ≤ word t l local_count_place
    within = omega (arith, top.0)

    none : (k : ℕ) → suc j ≤ k → k < word t l local_count_place → word t l k % 65536 ≡ nm → ⊥
    none k a b = top.1 k (omega arith) b

    pub unready : (mark : Bool) (e : Unready) → word t l j / 65536 % 2 ≡ 0 → Looked t t l nm mark (Err e)
    unready mark e z =
        let no : eqb (word t l j / 65536 % 2) 1 ≡ false = ne_eqb _ _ (λ (e : word t l j / 65536 % 2 ≡ 1). omega arith) in
        let a = sym (find_up _ nm (suc j) _ within none ∙ find_at _ nm j top.2 ∙ if_false _ _ _ no) in
        made mark a
      where
        made : (mark : Bool) → uninitialized ≡ find_local nm (locals_of t l) → Looked t t l nm mark (Err e)
        made true a = record { answer = a; locals = refl; quiet = λ e. refl; unmarked = λ e. refl; kept = kept_same _ _ t; wf = wf }
        made false a = record { answer = a; locals = refl; quiet = λ e. refl; unmarked = λ e. refl; kept = kept_same _ _ t; wf = wf }

    module _ (z : (word t l j / 65536 % 2 ≡ 0) → ⊥) where
      yes' : eqb (word t l j / 65536 % 2) 1 ≡ true
      yes' = eq-eqb (word t l j / 65536 % 2) 1 (omega arith)

      found : at_slot j ≡ find_local nm (locals_of t l)
      found = sym (find_up _ nm (suc j) _ within none ∙ find_at _ nm j top.2 ∙ if_true _ _ _ yes')

      pub plain : Looked t t l nm false (Ok (Some j))
      plain = record { answer = found; locals = refl; quiet = λ e. refl; unmarked = λ e. refl; kept = kept_same _ _ t; wf = wf }

      pub again : (word t l j / 65536 / 2 % 2 ≡ 0 → ⊥) → Looked t t l nm true (Ok (Some j))
      again b = record {
        answer = found;
        locals = sym (capture_up _ _ nm (suc j) _ within none (λ j a b. refl) (capture_at _ _ nm j top.2 (marked_local _ b) (λ i a. refl)));
        quiet = λ e. refl;
        unmarked = λ e. refl;
        kept = kept_same _ _ t;
        wf = wf;
      }

      pub marked : word t l j / 65536 / 2 % 2 ≡ 0 → Looked t (set t (l * level_words + j) (word t l j + 131072)) l nm true (Ok (Some j))
      marked b =
          let few : word t l local_count_place ≤ 256 = wf.few_locals l low in
          let inside : j < 256 = omega (arith, top.0) in
          let t' : List ℕ = set t (l * level_words + j) (word t l j + 131072) in
          let other : (i : ℕ) → (i ≡ j → ⊥) → word t' l i ≡ word t l i = λ i ne. get_or-set_other t (l * level_words + j) (l * level_words + i) _ 0 (λ e. ne (omega arith)) in
          let count : word t' l local_count_place ≡ word t l local_count_place = other local_count_place (λ e. omega arith) in
          let same : local_of (word t' l j) ≡ caught (local_of (word t l j)) = ap local_of (get_or-set_same t _ _ 0 (omega (arith, wf.size))) ∙ mark_local (word t l j) b in
          record {
            answer = found;
            locals = ap (stack _) count ∙ sym (capture_up _ _ nm (suc j) _ within none
                (λ i a b. ap local_of (other i (λ e. omega arith)))
                (capture_at _ _ nm j top.2 same (λ i a. ap local_of (other i (λ e. omega arith)))));
            unmarked = λ e. let z : ◌≡◌ {A = ℕ} 0 1 = cc in absurd (omega arith);
            quiet = λ e. let z : ◌≡◌ {A = ℕ} 0 1 = cc in absurd (omega arith);
            kept = kept_set _ _ t _ _ (omega arith) (omega arith);
            wf = wf_plain t l j _ (omega arith) (λ a b. omega arith) (λ e. omega arith) (λ e. omega arith) wf;
          }
