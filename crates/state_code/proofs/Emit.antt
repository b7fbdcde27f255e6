-- The ways out of emit_u8, as facts of lists.
use Prim.Native.Nat.{ℕ, zero, suc, ◌+◌, ◌*◌, ◌-◌, ◌≤◌, ◌<◌}
use native.Mathlib.Omega.{arith}
use mathlib.Core.Path.{◌≡◌, refl, sym, ap, ap₂, ◌∙◌}
use mathlib.Core.List.{List, ◌∷◌, ◌++◌, []}
use mathlib.Core.Bool.{Bool, true, false, ◌&&◌}
use lib.ListN.{length, get_or, set, length-set}
use lib.Dec.{eqb, ltb}
use lib.Seq.{get_or-set_same, get_or-set_other}
use borrow.Author.Tests.{lt-ltb, le-ltb, ltb-true, eq-eqb, ne_eqb}
use Rattle.rules.specs.declared.Span.{Span}
use Rattle.rules.specs.Chunk.{Run, same_span, push_span, write_u8}
use Rattle.state.specs.Layout.{levels, code_end_at, runs_end_at, image_at, row, start_of_code, start_of_runs, end_of_code, end_of_runs, run_at, chunk_at, Wf, Coded, code_from_place, runs_from_place, level_words}
use Rattle.state.specs.Meaning.{Kept, grows, last_grows, top_chunk, Wrote}
use Rattle.state.specs.declared.Full.{Full}
use Rattle.std.specs.Prelude.{Ok, Err}
use Rattle.state.proofs.Laws.{row_cong, row_snoc, run_same, kept_set, kept_same, kept_off, kept_then, if_true, if_false, constants_same, chunk_paths, wf_plain}
use Rattle.state.proofs.Words.{and_left, and_right}

-- ## The last run

-- the newest run is the last
push_last : (xs : List Run) (r : Run) (span : Span) → push_span (xs ++ (r ∷ [])) span ≡ xs ++ push_span (r ∷ []) span
unfolding push_span
push_last [] r span = refl
push_last (x ∷ []) r span = refl
push_last (x ∷ y ∷ xs) r span = ap (λ (l : List Run). x ∷ l) (push_last (y ∷ xs) r span)

two_more : (xs : List Run) (a b : Run) → xs ++ (a ∷ b ∷ []) ≡ (xs ++ (a ∷ [])) ++ (b ∷ [])
two_more [] a b = refl
two_more (x ∷ xs) a b = ap (λ (l : List Run). x ∷ l) (two_more xs a b)

push_grow : (xs : List Run) (r : Run) (span : Span) → grows span r ≡ true → push_span (xs ++ (r ∷ [])) span ≡ xs ++ (record { span = r.span; count = r.count + 1 } ∷ [])
unfolding push_span
push_grow xs r span g = push_last xs r span ∙ ap (λ (l : List Run). xs ++ l) (if_true _ _ _ g)

push_fresh : (xs : List Run) (r : Run) (span : Span) → grows span r ≡ false → push_span (xs ++ (r ∷ [])) span ≡ (xs ++ (r ∷ [])) ++ (record { span = span; count = 1 } ∷ [])
unfolding push_span
push_fresh xs r span g = push_last xs r span ∙ ap (λ (l : List Run). xs ++ l) (if_false _ _ _ g) ∙ two_more xs r _

and_not : (x y : Bool) → x ≡ true → (x && y) ≡ false → y ≡ false
and_not true y e h = h
and_not false y e h = let z : ◌≡◌ {A = ℕ} 0 1 = cc in absurd (omega arith)

pub grew : (spans : List ℕ) (first m : ℕ) (span : Span) → last_grows spans first m span ≡ true → first < m
grew spans first m span h = ltb-true _ _ (and_left (ltb first m) (grows span (run_at spans (m - 1))) h)

-- a run that grows counts less than 255
pub small : (spans : List ℕ) (first m : ℕ) (span : Span) → last_grows spans first m span ≡ true → get_or spans ((m - 1) * 3 + 2) 0 < 255
small spans first m span h = ltb-true _ _ (and_right (same_span (run_at spans (m - 1)).span span) _ (and_right (ltb first m) (grows span (run_at spans (m - 1))) h))

-- ## can_grow's ways out

pub no_run : (spans : List ℕ) (first m : ℕ) (span : Span) → m ≤ first → false ≡ last_grows spans first m span
no_run spans first m span h = sym (ap (λ (b : Bool). b && grows span (run_at spans (m - 1))) (le-ltb _ _ h))

module _ (spans : List ℕ) (first m : ℕ) (span : Span) (h : first < m) where
  some_run : last_grows spans first m span ≡ grows span (run_at spans (m - 1))
  some_run = ap (λ (b : Bool). b && grows span (run_at spans (m - 1))) (lt-ltb _ _ h)

  pub other_start : (get_or spans ((m - 1) * 3) 0 ≡ span.start → ⊥) → false ≡ last_grows spans first m span
  unfolding same_span
  other_start ne = sym (some_run ∙ ap (λ (b : Bool). (b && eqb (get_or spans ((m - 1) * 3 + 1) 0) span.end) && ltb (get_or spans ((m - 1) * 3 + 2) 0) 255) (ne_eqb _ _ ne))

  module _ (e : get_or spans ((m - 1) * 3) 0 ≡ span.start) where
    same_start : last_grows spans first m span ≡ (eqb (get_or spans ((m - 1) * 3 + 1) 0) span.end && ltb (get_or spans ((m - 1) * 3 + 2) 0) 255)
    unfolding same_span
    same_start = some_run ∙ ap (λ (b : Bool). (b && eqb (get_or spans ((m - 1) * 3 + 1) 0) span.end) && ltb (get_or spans ((m - 1) * 3 + 2) 0) 255) (eq-eqb _ _ e)

    pub other_end : (get_or spans ((m - 1) * 3 + 1) 0 ≡ span.end → ⊥) → false ≡ last_grows spans first m span
    other_end ne = sym (same_start ∙ ap (λ (b : Bool). b && ltb (get_or spans ((m - 1) * 3 + 2) 0) 255) (ne_eqb _ _ ne))

    pub by_count : get_or spans ((m - 1) * 3 + 1) 0 ≡ span.end → ltb (get_or spans ((m - 1) * 3 + 2) 0) 255 ≡ last_grows spans first m span
    by_count q = sym (same_start ∙ ap (λ (b : Bool). b && ltb (get_or spans ((m - 1) * 3 + 2) 0) 255) (eq-eqb _ _ q))

-- ## Rows

-- a byte more
code_more : (code : List ℕ) (cs n byte : ℕ) → cs ≤ n → n < length code → row (λ i. get_or (set code n byte) (cs + i) 0) (n + 1 - cs) ≡ row (λ i. get_or code (cs + i) 0) (n - cs) ++ (byte ∷ [])
code_more code cs n byte h r =
    let a : n + 1 - cs ≡ suc (n - cs) = omega arith in
    let b : cs + (n - cs) ≡ n = omega arith in
    let last : get_or (set code n byte) (cs + (n - cs)) 0 ≡ byte = ap (λ (k : ℕ). get_or (set code n byte) k 0) b ∙ get_or-set_same code n byte 0 r in
    ap (row _) a ∙ row_snoc _ _ ∙ ap₂ ◌++◌ (row_cong _ _ _ (λ i l. get_or-set_other code n (cs + i) byte 0 (omega arith))) (ap (λ (x : ℕ). x ∷ []) last)

-- a row's last
row_last : {A : Type 0} (f : ℕ → A) (n k : ℕ) → n ≡ suc k → row f n ≡ row f k ++ (f k ∷ [])
row_last f n k e = ap (row f) e ∙ row_snoc f k

-- the last run grows
runs_grow : (spans : List ℕ) (rs m : ℕ) (span : Span) → rs < m → m * 3 ≤ length spans → grows span (run_at spans (m - 1)) ≡ true → row
    (λ i. run_at (set spans ((m - 1) * 3 + 2) (get_or spans ((m - 1) * 3 + 2) 0 + 1)) (rs + i)) (m - rs) ≡ push_span (row (λ i. run_at spans (rs + i)) (m - rs)) span
runs_grow spans rs m span h r g =
    let a : m - rs ≡ suc (m - 1 - rs) = omega arith in
    let b : rs + (m - 1 - rs) ≡ m - 1 = omega arith in
    let v : ℕ = get_or spans ((m - 1) * 3 + 2) 0 + 1 in
    let sp : List ℕ = set spans ((m - 1) * 3 + 2) v in
    let c₀ : get_or sp ((m - 1) * 3) 0 ≡ get_or spans ((m - 1) * 3) 0 = get_or-set_other spans ((m - 1) * 3 + 2) ((m - 1) * 3) v 0 (omega arith) in
    let c₁ : get_or sp ((m - 1) * 3 + 1) 0 ≡ get_or spans ((m - 1) * 3 + 1) 0 = get_or-set_other spans ((m - 1) * 3 + 2) ((m - 1) * 3 + 1) v 0 (omega arith) in
    let c₂ : get_or sp ((m - 1) * 3 + 2) 0 ≡ get_or spans ((m - 1) * 3 + 2) 0 + 1 = get_or-set_same spans ((m - 1) * 3 + 2) v 0 (omega arith) in
    let new : run_at sp (rs + (m - 1 - rs)) ≡ record { span = (run_at spans (m - 1)).span; count = get_or spans ((m - 1) * 3 + 2) 0 + 1 } = ap (run_at sp) b ∙
    (λ i. record { span = record { start = c₀ i; end = c₁ i }; count = c₂ i }) in
    let old : row (λ i. run_at sp (rs + i)) (m - 1 - rs) ≡ row (λ i. run_at spans (rs + i)) (m - 1 - rs) = row_cong _ _ _ (λ i (l : i < m - 1 - rs). run_same spans sp (rs + i)
    (get_or-set_other spans ((m - 1) * 3 + 2) ((rs + i) * 3) v 0 (omega arith))
    (get_or-set_other spans ((m - 1) * 3 + 2) ((rs + i) * 3 + 1) v 0 (omega arith))
    (get_or-set_other spans ((m - 1) * 3 + 2) ((rs + i) * 3 + 2) v 0 (omega arith))) in
    row_last (λ i. run_at sp (rs + i)) (m - rs) (m - 1 - rs) a ∙ ap₂ (λ (xs : List Run) (x : Run). xs ++ (x ∷ [])) old new
    ∙ sym (push_grow (row (λ i. run_at spans (rs + i)) (m - 1 - rs)) (run_at spans (m - 1)) span g)
    ∙ ap (λ (k : ℕ). push_span (row (λ i. run_at spans (rs + i)) (m - 1 - rs) ++ (run_at spans k ∷ [])) span) (sym b)
    ∙ ap (λ (xs : List Run). push_span xs span) (sym (row_last (λ i. run_at spans (rs + i)) (m - rs) (m - 1 - rs) a))

-- a run more
fresh_after : (spans : List ℕ) (rs m k : ℕ) (span : Span) → m - rs ≡ k → last_grows spans rs m span ≡ false → push_span (row (λ i. run_at spans (rs + i)) k) span
    ≡ row (λ i. run_at spans (rs + i)) k ++ (record { span = span; count = 1 } ∷ [])
unfolding row push_span
fresh_after spans rs m zero span q g = refl
fresh_after spans rs m (suc k) span q g =
    let b : m - 1 ≡ rs + k = omega arith in
    let h : rs < m = omega arith in
    let g' : grows span (run_at spans (rs + k)) ≡ false = ap (λ (x : ℕ). grows span (run_at spans x)) (sym b) ∙ and_not (ltb rs m) _ (lt-ltb _ _ h) g in
    let e = row_snoc (λ i. run_at spans (rs + i)) k in
    ap (λ (xs : List Run). push_span xs span) e ∙ push_fresh (row (λ i. run_at spans (rs + i)) k) (run_at spans (rs + k)) span g' ∙ ap
    (λ (xs : List Run). xs ++ (record { span = span; count = 1 } ∷ [])) (sym e)

runs_fresh : (spans : List ℕ) (rs m : ℕ) (span : Span) → rs ≤ m → m * 3 + 3 ≤ length spans → last_grows spans rs m span ≡ false → row
    (λ i. run_at (set (set (set spans (m * 3) span.start) (m * 3 + 1) span.end) (m * 3 + 2) 1) (rs + i)) (m + 1 - rs) ≡ push_span (row (λ i. run_at spans (rs + i)) (m - rs)) span
runs_fresh spans rs m span h r g =
    let s : ℕ = span.start in
    let e : ℕ = span.end in
    let a : m + 1 - rs ≡ suc (m - rs) = omega arith in
    let b : rs + (m - rs) ≡ m = omega arith in
    let s₁ : List ℕ = set spans (m * 3) s in
    let s₂ : List ℕ = set s₁ (m * 3 + 1) e in
    let s₃ : List ℕ = set s₂ (m * 3 + 2) 1 in
    let n₁ : length s₁ ≡ length spans = length-set spans (m * 3) s in
    let n₂ : length s₂ ≡ length spans = length-set s₁ (m * 3 + 1) e ∙ n₁ in
    let off : (i : ℕ) → i < m * 3 → get_or s₃ i 0 ≡ get_or spans i 0 = λ i l. get_or-set_other s₂ (m * 3 + 2) i 1 0 (omega arith) ∙ get_or-set_other s₁ (m * 3 + 1) i e
    0 (omega arith) ∙ get_or-set_other spans (m * 3) i s 0 (omega arith) in
    let c₀ : get_or s₃ (m * 3) 0 ≡ s = get_or-set_other s₂ (m * 3 + 2) (m * 3) 1 0 (omega arith) ∙ get_or-set_other s₁ (m * 3 + 1) (m * 3) e 0 (omega arith) ∙
    get_or-set_same spans (m * 3) s 0 (omega arith) in
    let c₁ : get_or s₃ (m * 3 + 1) 0 ≡ e = get_or-set_other s₂ (m * 3 + 2) (m * 3 + 1) 1 0 (omega arith) ∙ get_or-set_same s₁ (m * 3 + 1) e 0 (omega arith) in
    let c₂ : get_or s₃ (m * 3 + 2) 0 ≡ 1 = get_or-set_same s₂ (m * 3 + 2) 1 0 (omega arith) in
    let new : run_at s₃ (rs + (m - rs)) ≡ record { span = span; count = 1 } = ap (run_at s₃) b ∙ (λ i. record { span = record { start = c₀ i; end = c₁ i }; count = c₂ i }) in
    let old : row (λ i. run_at s₃ (rs + i)) (m - rs) ≡ row (λ i. run_at spans (rs + i)) (m - rs) = row_cong _ _ _
    (λ i (l : i < m - rs). run_same spans s₃ (rs + i) (off ((rs + i) * 3) (omega arith)) (off ((rs + i) * 3 + 1) (omega arith)) (off ((rs + i) * 3 + 2) (omega arith))) in
    row_last (λ i. run_at s₃ (rs + i)) (m + 1 - rs) (m - rs) a ∙ ap₂ (λ (xs : List Run) (x : Run). xs ++ (x ∷ [])) old new ∙ sym (fresh_after spans rs m (m - rs) span refl g)

-- ## emit_u8's ways out

module _ (t code spans : List ℕ) (l limit byte : ℕ) (span : Span) (low : l < levels) (wf : Wf t) (ok : Coded t code spans l limit) where
  pub full : (e : Full) → limit ≤ end_of_code t → Wrote t code spans t code spans l limit byte span (Err e)
  full e h = record {
    does = h;
    code_kept = λ i z. refl;
    runs_kept = λ i z. refl;
    kept = kept_same _ _ t;
    coded = ok;
    wf = wf;
  }

  module _ (h : end_of_code t < limit) where
    -- whatever becomes of the runs
    changed : (t' spans' : List ℕ) (re' : ℕ) → Kept code_end_at image_at t t' → row (λ i. run_at spans' (start_of_runs t l + i)) (re' - start_of_runs t l) ≡ push_span
        (row (λ i. run_at spans (start_of_runs t l + i)) (end_of_runs t - start_of_runs t l)) span → end_of_code t' ≡ end_of_code t + 1 → end_of_runs t' ≡ re' → top_chunk t'
        (set code (end_of_code t) byte) spans' l ≡ write_u8 (top_chunk t code spans l) byte span
    unfolding chunk_at write_u8
    changed t' spans' re' kp runs ce re =
        let at : (o : ℕ) → o < level_words → get_or t' (l * level_words + o) 0 ≡ get_or t (l * level_words + o) 0 = λ o b. kept_off _ _ t t' _ kp (λ x y. omega arith) in
        ap₂ (chunk_at t' (set code (end_of_code t) byte) spans' l) ce re
        ∙ chunk_paths t code spans t' (set code (end_of_code t) byte) spans' l (end_of_code t) (end_of_runs t) (end_of_code t + 1) re' _
        (constants_same t t' l (wf.few_constants l low) (λ o a b. at o (omega arith))) (at code_from_place (omega arith)) (at runs_from_place (omega arith))
        _ (code_more code (start_of_code t l) (end_of_code t) byte ok.top (omega (arith, ok.room_code))) _ runs

    -- the invariant, after
    kept_coded : (t' spans' : List ℕ) (re' : ℕ) → Kept code_end_at image_at t t' → length spans' ≡ length spans → end_of_code t' ≡ end_of_code t + 1 → end_of_runs t' ≡ re'
        → end_of_runs t ≤ re' → re' ≤ end_of_code t + 1 → Coded t' (set code (end_of_code t) byte) spans' l limit
    kept_coded t' spans' re' kp ns ce re ge le =
        let at : (k o : ℕ) → k < levels → o < level_words → get_or t' (k * level_words + o) 0 ≡ get_or t (k * level_words + o) 0 = λ k o a b. kept_off _ _ t t' _ kp (λ x y. omega arith) in
        let f = at l code_from_place low (omega arith) in
        let g = at l runs_from_place low (omega arith) in
        record {
          room_code = omega (arith, length-set code (end_of_code t) byte, ok.room_code);
          room_runs = omega (arith, ok.room_runs);
          within = omega arith;
          fewer = omega arith;
          fewer_at = λ k z. omega (arith, at k code_from_place (omega arith) (omega arith), at k runs_from_place (omega arith) (omega arith), ok.fewer_at k z);
          from_zero = at 0 code_from_place (omega arith) (omega arith) ∙ ok.from_zero;
          top = omega (arith, ok.top);
          top_runs = omega (arith, ok.top_runs);
          order = λ k z. omega (arith, at k code_from_place (omega arith) (omega arith), at (suc k) code_from_place (omega arith) (omega arith), ok.order k z);
          order_runs = λ k z. omega (arith, at k runs_from_place (omega arith) (omega arith), at (suc k) runs_from_place (omega arith) (omega arith), ok.order_runs k z);
        }

    pub grown : last_grows spans (start_of_runs t l) (end_of_runs t) span ≡ true → Wrote t code spans (set t code_end_at (end_of_code t + 1)) (set code (end_of_code t) byte)
        (set spans ((end_of_runs t - 1) * 3 + 2) (get_or spans ((end_of_runs t - 1) * 3 + 2) 0 + 1)) l limit byte span (Ok tt)
    grown g =
        let t' : List ℕ = set t code_end_at (end_of_code t + 1) in
        let v : ℕ = get_or spans ((end_of_runs t - 1) * 3 + 2) 0 + 1 in
        let spans' : List ℕ = set spans ((end_of_runs t - 1) * 3 + 2) v in
        let kp : Kept code_end_at image_at t t' = kept_set _ _ t _ _ (omega arith) (omega arith) in
        let ce : end_of_code t' ≡ end_of_code t + 1 = get_or-set_same t code_end_at (end_of_code t + 1) 0 (omega (arith, wf.size)) in
        let re : end_of_runs t' ≡ end_of_runs t = get_or-set_other t code_end_at runs_end_at (end_of_code t + 1) 0 (omega arith) in
        let lt : start_of_runs t l < end_of_runs t = grew spans (start_of_runs t l) (end_of_runs t) span g in
        let gr : grows span (run_at spans (end_of_runs t - 1)) ≡ true = and_right (ltb (start_of_runs t l) (end_of_runs t)) _ g in
        let room : end_of_runs t * 3 ≤ length spans = omega (arith, ok.room_runs, ok.fewer) in
        record {
          does = (h, changed t' spans' (end_of_runs t) kp (runs_grow spans (start_of_runs t l) (end_of_runs t) span lt room gr) ce re);
          code_kept = λ i z. get_or-set_other code (end_of_code t) i byte 0 (omega arith);
          runs_kept = λ i z. get_or-set_other spans ((end_of_runs t - 1) * 3 + 2) i v 0 (omega arith);
          kept = kp;
          coded = kept_coded t' spans' (end_of_runs t) kp (length-set spans _ _) ce re (omega arith) (omega (arith, ok.fewer));
          wf = wf_plain t levels 0 _ (omega arith) (λ a b. omega arith) (λ z. omega arith) (λ z. omega arith) wf;
        }

    pub fresh : last_grows spans (start_of_runs t l) (end_of_runs t) span ≡ false → Wrote t code spans
        (set (set t code_end_at (end_of_code t + 1)) runs_end_at (end_of_runs t + 1)) (set code (end_of_code t) byte)
        (set (set (set spans (end_of_runs t * 3) span.start) (end_of_runs t * 3 + 1) span.end) (end_of_runs t * 3 + 2) 1) l limit byte span (Ok tt)
    fresh g =
        let m : ℕ = end_of_runs t in
        let t₂ : List ℕ = set t code_end_at (end_of_code t + 1) in
        let t' : List ℕ = set t₂ runs_end_at (m + 1) in
        let s₁ : List ℕ = set spans (m * 3) span.start in
        let s₂ : List ℕ = set s₁ (m * 3 + 1) span.end in
        let spans' : List ℕ = set s₂ (m * 3 + 2) 1 in
        let ns : length spans' ≡ length spans = length-set s₂ _ _ ∙ length-set s₁ _ _ ∙ length-set spans _ _ in
        let kp : Kept code_end_at image_at t t' = kept_then _ _ t t₂ _ _ (kept_set _ _ t _ _ (omega arith) (omega arith)) (omega arith) (omega arith) in
        let ce : end_of_code t' ≡ end_of_code t + 1 = get_or-set_other t₂ runs_end_at code_end_at (m + 1) 0 (omega arith) ∙ get_or-set_same t code_end_at (end_of_code t + 1) 0 (omega (arith, wf.size)) in
        let re : end_of_runs t' ≡ m + 1 = get_or-set_same t₂ runs_end_at (m + 1) 0 (omega (arith, wf.size, length-set t code_end_at (end_of_code t + 1))) in
        let room : m * 3 + 3 ≤ length spans = omega (arith, ok.room_runs, ok.fewer) in
        record {
          does = (h, changed t' spans' (m + 1) kp (runs_fresh spans (start_of_runs t l) m span ok.top_runs room g) ce re);
          code_kept = λ i z. get_or-set_other code (end_of_code t) i byte 0 (omega arith);
          runs_kept = λ i z. get_or-set_other s₂ (m * 3 + 2) i 1 0 (omega (arith, ok.top_runs)) ∙ get_or-set_other s₁ (m * 3 + 1) i span.end 0
              (omega (arith, ok.top_runs)) ∙ get_or-set_other spans (m * 3) i span.start 0 (omega (arith, ok.top_runs));
          kept = kp;
          coded = kept_coded t' spans' (m + 1) kp ns ce re (omega arith) (omega (arith, ok.fewer));
          wf = wf_plain t₂ levels 1 _ (omega arith) (λ a b. omega arith) (λ z. omega arith) (λ z. omega arith)
              (wf_plain t levels 0 _ (omega arith) (λ a b. omega arith) (λ z. omega arith) (λ z. omega arith) wf);
        }
