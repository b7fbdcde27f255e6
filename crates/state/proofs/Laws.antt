-- Laws on rows, stacks and the table that the proofs share.
use Prim.Native.Nat.{ℕ, zero, suc, ◌+◌, ◌*◌, ◌-◌, ◌≤◌, ◌<◌}
use native.Mathlib.Omega.{arith}
use native.Mathlib.Numerals.{add-one}
use native.Mathlib.Nat.{eq-or-lt_of_le, not-suc-le-zero}
use mathlib.Core.Path.{◌≡◌, refl, sym, ap, ap₂, ◌∙◌, subst}
use mathlib.Core.Logic.{◌⊎◌, inl, inr, ⊎_elim}
use mathlib.Core.List.{List, ◌∷◌, ◌++◌, []}
use mathlib.Core.Bool.{Bool, true, false}
use lib.ListN.{length, get_or, set, length-set}
use lib.Seq.{get_or-set_same, get_or-set_other, set_out}
use borrow.Author.Tests.{eq-eqb, ne_eqb}
use mathlib.Core.Option.{some}
use mathlib.Core.Option.{none as nothing}
use Rattle.rules.specs.Base.{position, one_on}
use Rattle.std.specs.Prelude.{if◌then◌else◌}
use Rattle.rules.specs.Chunk.{Chunk, Run, Constant}
use Rattle.rules.specs.Compiler.{Local, Upvalue, at_slot, uninitialized, find_local, capture}
use Rattle.state.specs.Layout.{levels, deepest, row, stack, vec, pile, local_of, upvalue_of, constant_of, type_of, run_at, locals_of, upvalues_of, level_constants, start_of_code, start_of_runs, chunk_at, ctx_at, parents_of, Wf, upvalues_place, upvalue_count_place, constants_place, constant_count_place, depth_place, code_from_place, runs_from_place, name_place, arity_place, type_place, level_words, local_count_place, level_used}
use Rattle.state.specs.Meaning.{Kept}

pub lt_or_le : (a b : ℕ) → (a < b) ⊎ (b ≤ a)
lt_or_le a zero = inr (omega arith)
lt_or_le zero (suc b) = inl (omega arith)
lt_or_le (suc a) (suc b) = ⊎_elim (λ (p : a < b). inl (omega arith)) (λ (q : b ≤ a). inr (omega arith)) (lt_or_le a b)

module _ {A : Type 0} where
  pub if_true : (b : Bool) (x y : A) → b ≡ true → (if b then x else y) ≡ x
  if_true b x y e = ap (λ (b : Bool). (if b then x else y)) e

  pub if_false : (b : Bool) (x y : A) → b ≡ false → (if b then x else y) ≡ y
  if_false b x y e = ap (λ (b : Bool). (if b then x else y)) e

module _ {A : Type 0} where
  pub stack_cong : (f g : ℕ → A) (n : ℕ) → ((i : ℕ) → i < n → f i ≡ g i) → stack f n ≡ stack g n
  unfolding stack
  stack_cong f g zero h = refl
  stack_cong f g (suc n) h = ap₂ ◌∷◌ (h n (omega arith)) (stack_cong f g n (λ i l. h i (omega arith)))

  pub length_stack : (f : ℕ → A) (n : ℕ) → length (stack f n) ≡ n
  unfolding stack
  length_stack f zero = refl
  length_stack f (suc n) = ap suc (length_stack f n)

  pub row_cong : (f g : ℕ → A) (n : ℕ) → ((i : ℕ) → i < n → f i ≡ g i) → row f n ≡ row g n
  unfolding row
  row_cong f g zero h = refl
  row_cong f g (suc n) h = ap₂ ◌∷◌ (h 0 (omega arith)) (row_cong (λ i. f (suc i)) (λ i. g (suc i)) n (λ i l. h (suc i) (omega arith)))

  pub length_row : (f : ℕ → A) (n : ℕ) → length (row f n) ≡ n
  unfolding row
  length_row f zero = refl
  length_row f (suc n) = ap suc (length_row (λ i. f (suc i)) n)

  -- one more entry stands at the end
  pub row_snoc : (f : ℕ → A) (n : ℕ) → row f (suc n) ≡ row f n ++ (f n ∷ [])
  unfolding row
  row_snoc f zero = refl
  row_snoc f (suc n) = ap (λ (xs : List A). f 0 ∷ xs) (row_snoc (λ i. f (suc i)) n)

  -- a search over a row, from what a scan found
  pub position_at : (p : A → Bool) (f : ℕ → A) (r n : ℕ) → r < n → ((j : ℕ) → j < r → p (f j) ≡ false) → p (f r) ≡ true → position p (row f n) ≡ some r
  unfolding row position one_on
  position_at p f r zero l none here = absurd (not-suc-le-zero l)
  position_at p f zero (suc n) l none here = if_true _ _ _ here
  position_at p f (suc r) (suc n) l none here = if_false _ _ _ (none 0 (omega arith)) ∙ ap one_on (position_at p (λ i. f (suc i)) r n (omega arith) (λ j h. none (suc j) (omega arith)) here)

  pub position_none : (p : A → Bool) (f : ℕ → A) (n : ℕ) → ((j : ℕ) → j < n → p (f j) ≡ false) → position p (row f n) ≡ nothing
  unfolding row position one_on
  position_none p f zero none = refl
  position_none p f (suc n) none = if_false _ _ _ (none 0 (omega arith)) ∙ ap one_on (position_none p (λ i. f (suc i)) n (λ j h. none (suc j) (omega arith)))

-- the names above r are others: the answer is decided at r
pub find_up : (f : ℕ → Local) (nm r n : ℕ) → r ≤ n → ((j : ℕ) → r ≤ j → j < n → (f j).name ≡ nm → ⊥) → find_local nm (stack f n) ≡ find_local nm (stack f r)
unfolding stack find_local
find_up f nm r zero l none = let z : 0 ≡ r = omega arith in ap (λ (k : ℕ). find_local nm (stack f k)) z
find_up f nm r (suc n) l none =
    ⊎_elim (λ (e : r ≡ suc n). ap (λ (k : ℕ). find_local nm (stack f k)) (sym e))
    (λ (lt : r < suc n). rw (ne_eqb (f n).name nm (none n (omega arith) (omega arith))) (find_up f nm r n (omega arith) (λ j a b. none j a (omega arith))))
    (eq-or-lt_of_le l)

pub find_at : (f : ℕ → Local) (nm j : ℕ) → (f j).name ≡ nm → find_local nm (stack f (suc j)) ≡ (if (f j).is_initialized then at_slot j else uninitialized)
unfolding stack find_local
find_at f nm j e = rw (eq-eqb (f j).name nm e, length_stack f j)

abbrev pub caught : Local → Local
caught x = record { name = x.name; depth = x.depth; is_initialized = x.is_initialized; is_captured = true }

pub capture_up : (f g : ℕ → Local) (nm r n : ℕ) → r ≤ n → ((j : ℕ) → r ≤ j → j < n → (f j).name ≡ nm → ⊥) → ((j : ℕ) → r ≤ j → j < n → g j ≡ f j) → capture nm
    (stack f r) ≡ stack g r → capture nm (stack f n) ≡ stack g n
unfolding stack capture
capture_up f g nm r zero l none same e = let z : r ≡ 0 = omega arith in subst (λ (k : ℕ). capture nm (stack f k) ≡ stack g k) z e
capture_up f g nm r (suc n) l none same e =
    ⊎_elim (λ (q : r ≡ suc n). subst (λ (k : ℕ). capture nm (stack f k) ≡ stack g k) q e)
    (λ (lt : r < suc n). rw (ne_eqb (f n).name nm (none n (omega arith) (omega arith)))
    (ap₂ ◌∷◌ (sym (same n (omega arith) (omega arith))) (capture_up f g nm r n (omega arith) (λ j a b. none j a (omega arith)) (λ j a b. same j a (omega arith)) e)))
    (eq-or-lt_of_le l)

-- marked: the word of the local changes to its captured one
pub capture_at : (f g : ℕ → Local) (nm j : ℕ) → (f j).name ≡ nm → g j ≡ caught (f j) → ((i : ℕ) → i < j → g i ≡ f i) → capture nm (stack f (suc j)) ≡ stack g (suc j)
unfolding stack capture
capture_at f g nm j e q same = if_true _ _ _ (eq-eqb (f j).name nm e) ∙ (ap₂ ◌∷◌ (sym q) (stack_cong f g j (λ i l. sym (same i l))))

-- one store, inside
pub kept_set : (lo hi : ℕ) (t : List ℕ) (j v : ℕ) → lo ≤ j → j < hi → Kept lo hi t (set t j v)
kept_set lo hi t j v a b = record {
  below = λ i l. get_or-set_other t j i v 0 (omega arith);
  above = λ i l. get_or-set_other t j i v 0 (omega arith);
}

pub kept_same : (lo hi : ℕ) (t : List ℕ) → Kept lo hi t t
kept_same lo hi t = record { below = λ i l. refl; above = λ i l. refl }

pub kept_off : (lo hi : ℕ) (t t' : List ℕ) (i : ℕ) → Kept lo hi t t' → (lo ≤ i → i < hi → ⊥) → get_or t' i 0 ≡ get_or t i 0
kept_off lo hi t t' i k out =
    ⊎_elim (λ (l : i < lo). k.below i l)
    (λ (l : lo ≤ i). ⊎_elim (λ (m : i < hi). absurd (out l m)) (λ (m : hi ≤ i). k.above i m) (lt_or_le i hi))
    (lt_or_le i lo)

-- entries that a change keeps off are the same
module _ {A : Type 0} (g : ℕ → A) (lo hi : ℕ) (t t' : List ℕ) (b c : ℕ) (k : Kept lo hi t t') (fits : b + get_or t c 0 ≤ c) (off : (i : ℕ) → b ≤ i → i ≤ c → lo ≤ i → i < hi → ⊥) where
  count_kept : get_or t' c 0 ≡ get_or t c 0
  count_kept = kept_off lo hi t t' c k (λ x y. off c (omega arith) (omega arith) x y)

  entry_kept : (i : ℕ) → i < get_or t c 0 → g (get_or t' (b + i) 0) ≡ g (get_or t (b + i) 0)
  entry_kept i h = ap g (kept_off lo hi t t' (b + i) k (λ x y. off (b + i) (omega arith) (omega arith) x y))

pub kept_then : (lo hi : ℕ) (t t' : List ℕ) (j v : ℕ) → Kept lo hi t t' → lo ≤ j → j < hi → Kept lo hi t (set t' j v)
kept_then lo hi t t' j v k a b = record {
  below = λ i l. get_or-set_other t' j i v 0 (omega arith) ∙ k.below i l;
  above = λ i l. get_or-set_other t' j i v 0 (omega arith) ∙ k.above i l;
}

-- one more entry: the store of its word, then of the count
module _ {A : Type 0} (g : ℕ → A) (t : List ℕ) (b c w : ℕ) (fits : b + get_or t c 0 < c) (room : c < length t) where
  new_count : get_or (set (set t (b + get_or t c 0) w) c (get_or t c 0 + 1)) c 0 ≡ suc (get_or t c 0)
  new_count = get_or-set_same (set t (b + get_or t c 0) w) c (get_or t c 0 + 1) 0 (rw length-set room) ∙ add-one _

  new_entry : g (get_or (set (set t (b + get_or t c 0) w) c (get_or t c 0 + 1)) (b + get_or t c 0) 0) ≡ g w
  new_entry = ap g (get_or-set_other (set t (b + get_or t c 0) w) c (b + get_or t c 0) (get_or t c 0 + 1) 0 (omega arith) ∙ get_or-set_same t (b + get_or t c 0) w 0 (omega arith))

  old_entry : (i : ℕ) → i < get_or t c 0 → g (get_or (set (set t (b + get_or t c 0) w) c (get_or t c 0 + 1)) (b + i) 0) ≡ g (get_or t (b + i) 0)
  old_entry i h = ap g (get_or-set_other (set t (b + get_or t c 0) w) c (b + i) (get_or t c 0 + 1) 0 (omega arith) ∙ get_or-set_other t (b + get_or t c 0) (b + i) w 0 (omega arith))

  pub push_vec : vec g (set (set t (b + get_or t c 0) w) c (get_or t c 0 + 1)) b c ≡ vec g t b c ++ (g w ∷ [])
  push_vec = ap (row _) new_count ∙ row_snoc _ _ ∙ ap₂ ◌++◌ (row_cong _ _ _ old_entry) (ap (λ (x : A). x ∷ []) new_entry)

  pub push_pile : pile g (set (set t (b + get_or t c 0) w) c (get_or t c 0 + 1)) b c ≡ g w ∷ pile g t b c
  unfolding stack
  push_pile = ap (stack _) new_count ∙ ap₂ ◌∷◌ new_entry (stack_cong _ _ _ old_entry)

pub few_set : (top : ℕ) (t : List ℕ) (c v i : ℕ) → v ≤ top → get_or t i 0 ≤ top → get_or (set t c v) i 0 ≤ top
few_set top t c v i hv hi =
    ⊎_elim (λ (m : c < length t). ⊎_elim (λ (l : i < c). subst (λ (n : ℕ). n ≤ top) (sym (get_or-set_other t c i v 0 (omega arith))) hi)
    (λ (l : c ≤ i). ⊎_elim (λ (e : c ≡ i). subst (λ (k : ℕ). get_or (set t c v) k 0 ≤ top) e (subst (λ (n : ℕ). n ≤ top) (sym (get_or-set_same t c v 0 m)) hv))
    (λ (x : c < i). subst (λ (n : ℕ). n ≤ top) (sym (get_or-set_other t c i v 0 (omega arith))) hi) (eq-or-lt_of_le l)) (lt_or_le i c))
    (λ (m : length t ≤ c). rw (set_out t c v m) hi)
    (lt_or_le c (length t))

-- a store elsewhere keeps how many upvalues there are
upvalue_count : (t : List ℕ) (l o v k : ℕ) → o < level_words → (o ≡ upvalue_count_place → ⊥) → get_or (set t (l * level_words + o) v)
    (k * level_words + upvalue_count_place) 0 ≡ get_or t (k * level_words + upvalue_count_place) 0
upvalue_count t l o v k h ne = get_or-set_other t (l * level_words + o) (k * level_words + upvalue_count_place) v 0 (λ e. ne (omega arith))

-- the store of a count, but for that of the upvalues
pub wf_count : (t : List ℕ) (l o v : ℕ) → o < level_words → (o ≡ upvalue_count_place → ⊥) → v ≤ 256 → Wf t → Wf (set t (l * level_words + o) v)
wf_count t l o v near ne h wf = record {
  size = length-set t _ v ∙ wf.size;
  few_locals = λ k m. few_set 256 t _ v _ h (wf.few_locals k m);
  few_upvalues = λ k m. few_set 256 t _ v _ h (wf.few_upvalues k m);
  few_constants = λ k m. few_set 256 t _ v _ h (wf.few_constants k m);
  shallow = λ k m. few_set deepest t _ v _ (omega arith) (wf.shallow k m);
  pairs = λ k i m a b.
      let below : i < upvalues_place + get_or t (k * level_words + upvalue_count_place) 0 = omega (arith, b, upvalue_count t l o v k near ne) in
      omega (arith, few_set 511 t (l * level_words + o) v (k * level_words + i) (omega arith) (omega (arith, wf.pairs k i m a below)));
}

-- the store of a level's count of upvalues: what it counts are upvalues
module _ (t : List ℕ) (l v : ℕ) (low : l < levels) (h : v ≤ 256) (all : (o : ℕ) → upvalues_place ≤ o → o < upvalues_place + v → get_or t (l * level_words + o) 0 < 512) (wf : Wf t) where
  beside : (k o : ℕ) → o < upvalue_count_place → get_or (set t (l * level_words + upvalue_count_place) v) (k * level_words + o) 0 ≡ get_or t (k * level_words + o) 0
  beside k o near = get_or-set_other t (l * level_words + upvalue_count_place) (k * level_words + o) v 0 (λ e. omega arith)

  counted_here : (o : ℕ) → upvalues_place ≤ o → o < upvalues_place + get_or (set t (l * level_words + upvalue_count_place) v)
      (l * level_words + upvalue_count_place) 0 → get_or (set t (l * level_words + upvalue_count_place) v) (l * level_words + o) 0 < 512
  counted_here o a b =
      let below : o < upvalues_place + v = omega (arith, b, get_or-set_same t (l * level_words + upvalue_count_place) v 0 (omega (arith, wf.size))) in
      omega (arith, beside l o (omega arith), all o a below)

  counted_off : (k o : ℕ) → k < levels → (k ≡ l → ⊥) → upvalues_place ≤ o → o < upvalues_place + get_or (set t (l * level_words + upvalue_count_place) v)
      (k * level_words + upvalue_count_place) 0 → get_or (set t (l * level_words + upvalue_count_place) v) (k * level_words + o) 0 < 512
  counted_off k o m ne a b =
      let below : o < upvalues_place + get_or t (k * level_words + upvalue_count_place) 0 = omega
      (arith, b, get_or-set_other t (l * level_words + upvalue_count_place) (k * level_words + upvalue_count_place) v 0 (λ e. ne (omega arith))) in
      omega (arith, beside k o (omega (arith, wf.few_upvalues k m)), wf.pairs k o m a below)

  pub wf_upvalues : Wf (set t (l * level_words + upvalue_count_place) v)
  wf_upvalues = record {
    size = length-set t _ v ∙ wf.size;
    few_locals = λ k m. few_set 256 t _ v _ h (wf.few_locals k m);
    few_upvalues = λ k m. few_set 256 t _ v _ h (wf.few_upvalues k m);
    few_constants = λ k m. few_set 256 t _ v _ h (wf.few_constants k m);
    shallow = λ k m. few_set deepest t _ v _ (omega arith) (wf.shallow k m);
    pairs = λ k o m a.
        ⊎_elim (λ (x : k < l). counted_off k o m (λ e. omega arith) a)
        (λ (x : l ≤ k). ⊎_elim (λ (e : l ≡ k). subst (λ (k : ℕ). o < upvalues_place + get_or (set t (l * level_words + upvalue_count_place) v)
        (k * level_words + upvalue_count_place) 0 → get_or (set t (l * level_words + upvalue_count_place) v) (k * level_words + o) 0 < 512) e (counted_here o a))
        (λ (y : l < k). counted_off k o m (λ e. omega arith) a) (eq-or-lt_of_le x))
        (lt_or_le k l);
  }

-- the store of any word where no count stands
module _ (t : List ℕ) (l o v : ℕ) (h : o < level_words) (fits : upvalues_place ≤ o → o < upvalue_count_place → v < 512) where
  pair_kept : (k i : ℕ) → upvalues_place ≤ i → i < upvalue_count_place → get_or t (k * level_words + i) 0 < 512 → get_or (set t (l * level_words + o) v) (k * level_words + i) 0 < 512
  pair_kept k i a b g =
      ⊎_elim (λ (m : o < upvalues_place). omega (arith, get_or-set_other t (l * level_words + o) (k * level_words + i) v 0 (λ z. omega arith)))
      (λ (m : upvalues_place ≤ o). ⊎_elim (λ (n : o < upvalue_count_place). let p : v < 512 = fits m n in omega
      (arith, few_set 511 t (l * level_words + o) v (k * level_words + i) (omega arith) (omega arith)))
      (λ (n : upvalue_count_place ≤ o). omega (arith, get_or-set_other t (l * level_words + o) (k * level_words + i) v 0 (λ z. omega arith))) (lt_or_le o upvalue_count_place))
      (lt_or_le o upvalues_place)

  pub wf_entry : (o ≡ local_count_place → ⊥) → (o ≡ upvalue_count_place → ⊥) → (o ≡ constant_count_place → ⊥) → (o ≡ depth_place → ⊥) → Wf t → Wf (set t (l * level_words + o) v)
  wf_entry a b c d wf = record {
    size = length-set t _ v ∙ wf.size;
    few_locals = λ k m. subst (λ (n : ℕ). n ≤ 256) (sym (get_or-set_other t _ _ v 0 (λ e. a (omega arith)))) (wf.few_locals k m);
    few_upvalues = λ k m. subst (λ (n : ℕ). n ≤ 256) (sym (get_or-set_other t _ _ v 0 (λ e. b (omega arith)))) (wf.few_upvalues k m);
    few_constants = λ k m. subst (λ (n : ℕ). n ≤ 256) (sym (get_or-set_other t _ _ v 0 (λ e. c (omega arith)))) (wf.few_constants k m);
    shallow = λ k m. subst (λ (n : ℕ). n ≤ deepest) (sym (get_or-set_other t _ _ v 0 (λ e. d (omega arith)))) (wf.shallow k m);
    pairs = λ k i m p q.
        let below : i < upvalues_place + get_or t (k * level_words + upvalue_count_place) 0 = omega (arith, q, upvalue_count t l o v k h b) in
        pair_kept k i p (omega (arith, wf.few_upvalues k m)) (wf.pairs k i m p below);
  }

-- the store of a word that is neither a count, a depth nor an upvalue, by where it is in its level
pub wf_plain : (t : List ℕ) (l o v : ℕ) → o < level_words → (local_count_place ≤ o → o < constants_place → ⊥) → (o ≡ constant_count_place → ⊥) →
    (o ≡ depth_place → ⊥) → Wf t → Wf (set t (l * level_words + o) v)
wf_plain t l o v h a c d wf = wf_entry t l o v h (λ p q. absurd (a (omega arith) (omega arith))) (λ e. a (omega arith) (omega arith)) (λ e. a (omega arith) (omega arith)) c d wf

-- the store of a level's depth
pub wf_depth : (t : List ℕ) (l v : ℕ) → v ≤ deepest → Wf t → Wf (set t (l * level_words + depth_place) v)
wf_depth t l v h wf = record {
  size = length-set t _ v ∙ wf.size;
  few_locals = λ k m. subst (λ (n : ℕ). n ≤ 256) (sym (get_or-set_other t _ _ v 0 (λ e. omega arith))) (wf.few_locals k m);
  few_upvalues = λ k m. subst (λ (n : ℕ). n ≤ 256) (sym (get_or-set_other t _ _ v 0 (λ e. omega arith))) (wf.few_upvalues k m);
  few_constants = λ k m. subst (λ (n : ℕ). n ≤ 256) (sym (get_or-set_other t _ _ v 0 (λ e. omega arith))) (wf.few_constants k m);
  shallow = λ k m. few_set deepest t _ v _ h (wf.shallow k m);
  pairs = λ k i m p q.
      let below : i < upvalues_place + get_or t (k * level_words + upvalue_count_place) 0 = omega (arith, q, upvalue_count t l depth_place v k (omega arith) (λ e. omega arith)) in
      pair_kept t l depth_place v (omega arith) (λ a b. omega arith) k i p (omega (arith, wf.few_upvalues k m)) (wf.pairs k i m p below);
}

-- ## A context, by its parts

pub locals_same : (t t' : List ℕ) (l : ℕ) → get_or t (l * level_words + local_count_place) 0 ≤ 256 →
    ((o : ℕ) → o ≤ 256 → get_or t' (l * level_words + o) 0 ≡ get_or t (l * level_words + o) 0) → locals_of t' l ≡ locals_of t l
locals_same t t' l few same = ap (stack (λ i. local_of (get_or t' (l * level_words + i) 0))) (same local_count_place (omega arith)) ∙ stack_cong _ _ _ (λ i g. ap local_of (same i (omega arith)))

vec_same : {A : Type 0} (g : ℕ → A) (t t' : List ℕ) (l b c : ℕ) → b + get_or t (l * level_words + c) 0 ≤ c →
    ((o : ℕ) → b ≤ o → o ≤ c → get_or t' (l * level_words + o) 0 ≡ get_or t (l * level_words + o) 0) → vec g t' (l * level_words + b) (l * level_words + c) ≡ vec g
    t (l * level_words + b) (l * level_words + c)
vec_same g t t' l b c few same =
    let one : (i : ℕ) → i < get_or t (l * level_words + c) 0 → get_or t' (l * level_words + b + i) 0 ≡ get_or t (l * level_words + b + i) 0 = λ i h.
    let q : l * level_words + (b + i) ≡ l * level_words + b + i = omega arith in subst (λ (k : ℕ). get_or t' k 0 ≡ get_or t k 0) q (same (b + i) (omega arith) (omega arith)) in
    ap (row (λ i. g (get_or t' (l * level_words + b + i) 0))) (same c (omega arith) (omega arith)) ∙ row_cong _ _ _ (λ i h. ap g (one i h))

pub upvalues_same : (t t' : List ℕ) (l : ℕ) → get_or t (l * level_words + upvalue_count_place) 0 ≤ 256 →
    ((o : ℕ) → upvalues_place ≤ o → o ≤ upvalue_count_place → get_or t' (l * level_words + o) 0 ≡ get_or t (l * level_words + o) 0) → upvalues_of t' l ≡ upvalues_of t l
upvalues_same t t' l few same = vec_same upvalue_of t t' l upvalues_place upvalue_count_place (omega arith) same

pub constants_same : (t t' : List ℕ) (l : ℕ) → get_or t (l * level_words + constant_count_place) 0 ≤ 256 →
    ((o : ℕ) → constants_place ≤ o → o ≤ constant_count_place → get_or t' (l * level_words + o) 0 ≡ get_or t (l * level_words + o) 0) → level_constants t' l ≡ level_constants t l
constants_same t t' l few same = vec_same constant_of t t' l constants_place constant_count_place (omega arith) same

-- a run is the same where its words are
pub run_same : (spans spans' : List ℕ) (i : ℕ) → get_or spans' (i * 3) 0 ≡ get_or spans (i * 3) 0 → get_or spans' (i * 3 + 1) 0 ≡ get_or spans (i * 3 + 1) 0 → get_or
    spans' (i * 3 + 2) 0 ≡ get_or spans (i * 3 + 2) 0 → run_at spans' i ≡ run_at spans i
run_same spans spans' i a b c = λ j. record { span = record { start = a j; end = b j }; count = c j }

module _ (t code spans t' code' spans' : List ℕ) (l : ℕ) where
  pub chunk_paths : (ce re ce' re' : ℕ) (ks : List Constant) → level_constants t' l ≡ ks → start_of_code t' l ≡ start_of_code t l → start_of_runs t' l ≡ start_of_runs t l
      → (ops : List ℕ) → row (λ i. get_or code' (start_of_code t l + i) 0) (ce' - start_of_code t l) ≡ ops
      → (runs : List Run) → row (λ i. run_at spans' (start_of_runs t l + i)) (re' - start_of_runs t l) ≡ runs
      → chunk_at t' code' spans' l ce' re' ≡ record { ops = ops; constants = ks; spans = runs }
  unfolding chunk_at
  chunk_paths ce re ce' re' ks k f g ops a runs b =
      let a' = ap (λ (k : ℕ). row (λ i. get_or code' (k + i) 0) (ce' - k)) f ∙ a in
      let b' = ap (λ (k : ℕ). row (λ i. run_at spans' (k + i)) (re' - k)) g ∙ b in
      λ i. record { ops = a' i; constants = k i; spans = b' i }

  pub chunk_same : (ce re : ℕ) → get_or t (l * level_words + constant_count_place) 0 ≤ 256 →
      ((o : ℕ) → constants_place ≤ o → o ≤ runs_from_place → (o ≡ depth_place → ⊥) → get_or t' (l * level_words + o) 0 ≡ get_or t (l * level_words + o) 0)
      → ((i : ℕ) → i < ce → get_or code' i 0 ≡ get_or code i 0) → ((i : ℕ) → i < re * 3 → get_or spans' i 0 ≡ get_or spans i 0) → chunk_at t' code' spans' l ce re ≡ chunk_at t code spans l ce re
  unfolding chunk_at
  chunk_same ce re few same sc ss =
      chunk_paths ce re ce re _ (constants_same t t' l few (λ o a b. same o a (omega arith) (λ z. omega arith)))
      (same code_from_place (omega arith) (omega arith) (λ z. omega arith)) (same runs_from_place (omega arith) (omega arith) (λ z. omega arith))
      _ (row_cong _ _ _ (λ i h. sc (start_of_code t l + i) (omega arith)))
      _ (row_cong _ _ _ (λ i h. run_same spans spans' (start_of_runs t l + i) (ss _ (omega arith)) (ss _ (omega arith)) (ss _ (omega arith))))

  pub ctx_paths : (ce re ce' re' : ℕ) → ((o : ℕ) → name_place ≤ o → o ≤ type_place → get_or t' (l * level_words + o) 0 ≡ get_or t (l * level_words + o) 0)
      → {c : Chunk} → chunk_at t' code' spans' l ce' re' ≡ c → {ls : List Local} → locals_of t' l ≡ ls → {us : List Upvalue} → upvalues_of t' l ≡ us → {d : ℕ} →
      get_or t' (l * level_words + depth_place) 0 ≡ d
      → ctx_at t' code' spans' l ce' re' ≡ record {
        name = get_or t (l * level_words + name_place) 0;
        arity = get_or t (l * level_words + arity_place) 0;
        type =
            type_of (get_or t (l * level_words + type_place) 0);
        chunk = c;
        locals = ls;
        upvalues = us;
        scope_depth = d;
      }
  unfolding ctx_at
  ctx_paths ce re ce' re' head c ls us d =
      let n = head name_place (omega arith) (omega arith) in
      let a = head arity_place (omega arith) (omega arith) in
      let y = head type_place (omega arith) (omega arith) in
      λ i. record { name = n i; arity = a i; type = type_of (y i); chunk = c i; locals = ls i; upvalues = us i; scope_depth = d i }

  -- a context is the same where its words, its code and its runs are
  pub ctx_same : (ce re : ℕ) → Wf t → l < levels → ((o : ℕ) → o < level_used → get_or t' (l * level_words + o) 0 ≡ get_or t (l * level_words + o) 0)
      → ((i : ℕ) → i < ce → get_or code' i 0 ≡ get_or code i 0) → ((i : ℕ) → i < re * 3 → get_or spans' i 0 ≡ get_or spans i 0) → ctx_at t' code' spans' l ce re ≡ ctx_at t code spans l ce re
  unfolding ctx_at
  ctx_same ce re wf low same sc ss =
      ctx_paths ce re ce re (λ o a b. same o (omega arith))
      (chunk_same ce re (wf.few_constants l low) (λ o a b n. same o (omega arith)) sc ss)
      (locals_same t t' l (wf.few_locals l low) (λ o a. same o (omega arith)))
      (upvalues_same t t' l (wf.few_upvalues l low) (λ o a b. same o (omega arith)))
      (same depth_place (omega arith))

-- the contexts around level l, after a change above them
pub parents_same : (t code spans t' code' spans' : List ℕ) (l : ℕ) → Wf t → l < levels
    → ((k o : ℕ) → k < l → o < level_used → get_or t' (k * level_words + o) 0 ≡ get_or t (k * level_words + o) 0) → start_of_code t' l ≡ start_of_code t l → start_of_runs t' l ≡ start_of_runs t l
    → ((k : ℕ) → k < l → start_of_code t k ≤ start_of_code t (suc k)) → ((k : ℕ) → k < l → start_of_runs t k ≤ start_of_runs t (suc k))
    → ((i : ℕ) → i < start_of_code t l → get_or code' i 0 ≡ get_or code i 0) → ((i : ℕ) → i < start_of_runs t l * 3 → get_or spans' i 0 ≡ get_or spans i 0)
    → parents_of t' code' spans' l ≡ parents_of t code spans l
unfolding parents_of
parents_same t code spans t' code' spans' zero wf low same f g oc or sc ss = refl
parents_same t code spans t' code' spans' (suc l) wf low same f g oc or sc ss =
    ap₂ ◌∷◌
    (ap₂ (ctx_at t' code' spans' l) f g ∙ ctx_same t code spans t' code' spans' l (start_of_code t (suc l)) (start_of_runs t (suc l)) wf (omega arith) (λ o h. same l o (omega arith) h) sc ss)
    (parents_same t code spans t' code' spans' l wf (omega arith) (λ k o a b. same k o (omega arith) b) (same l code_from_place (omega arith) (omega arith))
    (same l runs_from_place (omega arith) (omega arith)) (λ k h. oc k (omega arith)) (λ k h. or k (omega arith))
    (λ i h. sc i (omega (arith, oc l (omega arith)))) (λ i h. ss i (omega (arith, or l (omega arith)))))

-- the same where code and runs stay: no order is needed
pub parents_named : (t t' : List ℕ) (l : ℕ) → Wf t → l < levels
    → ((k o : ℕ) → k < l → o < level_used → get_or t' (k * level_words + o) 0 ≡ get_or t (k * level_words + o) 0) → start_of_code t' l ≡ start_of_code t l → start_of_runs t' l ≡ start_of_runs t l
    → (code spans : List ℕ) → parents_of t' code spans l ≡ parents_of t code spans l
unfolding parents_of
parents_named t t' zero wf low same f g code spans = refl
parents_named t t' (suc l) wf low same f g code spans =
    ap₂ ◌∷◌
    (ap₂ (ctx_at t' code spans l) f g ∙ ctx_same t code spans t' code spans l (start_of_code t (suc l)) (start_of_runs t (suc l)) wf (omega arith) (λ o h. same l o (omega arith) h) (λ i h. refl) (λ i h. refl))
    (parents_named t t' l wf (omega arith) (λ k o a b. same k o (omega arith) b) (same l code_from_place (omega arith) (omega arith)) (same l runs_from_place (omega arith) (omega arith)) code spans)
