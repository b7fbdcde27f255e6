-- The pairs of a closure: one upvalue after the other.
use Prim.Native.Nat.{ℕ, zero, suc, ◌+◌, ◌*◌, ◌-◌, ◌/◌, ◌%◌, ◌≤◌, ◌<◌}
use native.Mathlib.Omega.{arith}
use mathlib.Core.Path.{◌≡◌, refl, sym, ap, ap₂, subst, ◌∙◌}
use mathlib.Core.List.{List, ◌∷◌}
use lib.ListN.{get_or}
use lib.Dec.{eqb}
use Rattle.std.specs.Prelude.{if◌then◌else◌}
use Rattle.rules.specs.declared.Span.{Span}
use Rattle.rules.specs.Compiler.{Upvalue, Compiler, ◌>>◌, done, return, emit_u8, emit_op, emit_upvalues}
use Rattle.state.specs.Layout.{levels, row, upvalue_of, upvalues_of, upvalues_place, upvalue_count_place, level_words}
use Rattle.state.proofs.Laws.{row_cong}
use Rattle.steps.specs.View.{Mem, mem, t_of, Rest, view, Fit, steady, Did, Turning, PairedAs, PairedAt}
use Rattle.steps.specs.Why.{Step}
use Rattle.std.specs.Prelude.{Ok, Err}
use Rattle.steps.proofs.Steps.{went, stuck, next, stop, ahead_then, seq_ok, seq_err}
use Rattle.steps.proofs.Jumps.{ahead_none}
use Rattle.steps.specs.declared.Why.{Why}

bit : (k : ℕ) → k < 2 → k ≡ (if eqb k 1 then 1 else 0)
bit zero h = refl
bit (suc zero) h = refl
bit (suc (suc k)) h = absurd (omega arith)

module _ (limit l w : ℕ) (span : Span) (half : w < 512) where
  pair_is : (us : List Upvalue) (x : Compiler) → emit_upvalues limit (upvalue_of w ∷ us) span x ≡ (emit_u8 limit (w / 256) span >> (emit_u8 limit (w % 256) span >> emit_upvalues limit us span)) x
  unfolding emit_upvalues
  pair_is us x = ap (λ (b : ℕ). (emit_u8 limit b span >> (emit_u8 limit (w % 256) span >> emit_upvalues limit us span)) x) (sym (bit (w / 256) (omega arith)))

  pub pair_first : {before now : Mem} {r : Step} {x : Why} → ((class : ℕ) → Did class limit l 0 steady (emit_op limit (w / 256) span) before now r) → r ≡
      Err x → PairedAt limit l w span before now r
  unfolding emit_op
  pair_first {before} {now} {r} {x} d q = record {
    does = subst (λ (s : Step). PairedAs limit l w span before now s) (sym q) (λ us class. record {
      refuses = λ rest h. pair_is us (view before l rest) ∙ seq_err (emit_u8 limit (w / 256) span) (view before l rest) _ ((stuck (d class) q).refuses rest h);
    });
  }

  module _ {v : ℕ} {before mid : Mem} {r : Step} (d : (class : ℕ) → Did class limit l 0 steady (emit_op limit (w / 256) span) before mid r) (q : r ≡ Ok v) where
    pair_as : {now : Mem} (s : Step) → ((class : ℕ) → Did class limit l 0 steady (emit_op limit (w % 256) span) mid now s) → PairedAs limit l w span before now s
    unfolding emit_op
    pair_as (Ok k) e = λ us. record {
      same = λ {class} rest h.
          let g = went (d class) q in
          pair_is us (view before l rest) ∙ seq_ok (emit_u8 limit (w / 256) span) (view before l rest) _ (g.comes rest h)
          ∙ seq_ok (emit_u8 limit (w % 256) span) (view mid l rest) _ ((e class).does.0.comes rest (g.agrees rest h));
      agrees = λ {class} rest h. (e class).does.0.agrees rest ((went (d class) q).agrees rest h);
      ahead = ahead_then (went (d 0) q).ahead (e 0).does.0.ahead;
    }
    pair_as (Err x) e = λ us class. record {
      refuses = λ rest h.
          let g = went (d class) q in
          pair_is us (view before l rest) ∙ seq_ok (emit_u8 limit (w / 256) span) (view before l rest) _ (g.comes rest h)
          ∙ seq_err (emit_u8 limit (w % 256) span) (view mid l rest) _ ((e class).does.refuses rest (g.agrees rest h));
    }

    pub pair_then : {now : Mem} {s : Step} → ((class : ℕ) → Did class limit l 0 steady (emit_op limit (w % 256) span) mid now s) → PairedAt limit l w span before now s
    pair_then {s = s} e = record { does = pair_as s e }

-- ## One after the other

-- those from i on
abbrev pub from : List ℕ → (l i n : ℕ) → List Upvalue
from t l i n = row (λ j. upvalue_of (get_or t ((l + 1) * level_words + (upvalues_place + (i + j))) 0)) (n - i)

abbrev pub Going : (limit l : ℕ) → Span → (t₀ code₀ spans₀ : List ℕ) → (i n : ℕ) → Mem → Type 0
Going limit l span t₀ code₀ spans₀ i n now = Turning limit l (emit_upvalues limit (upvalues_of t₀ (l + 1)) span) (emit_upvalues limit (from t₀ l i n) span) (mem t₀ code₀ spans₀) now

pub going_start : (limit l : ℕ) (span : Span) (t code spans : List ℕ) → Fit (mem t code spans) l limit → Going limit l span t code spans 0
    (get_or t ((l + 1) * level_words + upvalue_count_place) 0) (mem t code spans)
going_start limit l span t code spans fit =
    let n : ℕ = get_or t ((l + 1) * level_words + upvalue_count_place) 0 in
    let z : n ≡ n - 0 = omega arith in
    let one : (j : ℕ) → j < n → upvalue_of (get_or t ((l + 1) * level_words + upvalues_place + j) 0) ≡ upvalue_of (get_or t ((l + 1) * level_words + (upvalues_place + (0 + j))) 0) = λ j h.
    let q : (l + 1) * level_words + upvalues_place + j ≡ (l + 1) * level_words + (upvalues_place + (0 + j)) = omega arith in ap (λ (k : ℕ). upvalue_of (get_or t k 0)) q in
    let e : upvalues_of t (l + 1) ≡ from t l 0 (get_or t ((l + 1) * level_words + upvalue_count_place) 0) = row_cong _ _ n one ∙ ap
    (row (λ j. upvalue_of (get_or t ((l + 1) * level_words + (upvalues_place + (0 + j))) 0))) z in
    record { same = λ rest h. ap (λ (us : List Upvalue). emit_upvalues limit us span (view (mem t code spans) l rest)) e; agrees = λ rest h. h; ahead = ahead_none fit }

split : (t : List ℕ) (l i n : ℕ) → i < n → from t l i n ≡ upvalue_of (get_or t ((l + 1) * level_words + (upvalues_place + i)) 0) ∷ from t l (i + 1) n
unfolding row
split t l i n h =
    let e : n - i ≡ suc (n - (i + 1)) = omega arith in
    let a : (l + 1) * level_words + (upvalues_place + (i + 0)) ≡ (l + 1) * level_words + (upvalues_place + i) = omega arith in
    let one : (j : ℕ) → j < n - (i + 1) → upvalue_of (get_or t ((l + 1) * level_words + (upvalues_place + (i + suc j))) 0) ≡ upvalue_of
    (get_or t ((l + 1) * level_words + (upvalues_place + (i + 1 + j))) 0) = λ j g.
    let q : (l + 1) * level_words + (upvalues_place + (i + suc j)) ≡ (l + 1) * level_words + (upvalues_place + (i + 1 + j)) = omega arith in ap (λ (k : ℕ). upvalue_of (get_or t k 0)) q in
    ap (row (λ j. upvalue_of (get_or t ((l + 1) * level_words + (upvalues_place + (i + j))) 0))) e
    ∙ ap₂ ◌∷◌ (ap (λ (k : ℕ). upvalue_of (get_or t k 0)) a) (row_cong (λ j. upvalue_of (get_or t ((l + 1) * level_words + (upvalues_place + (i + suc j))) 0))
    (λ j. upvalue_of (get_or t ((l + 1) * level_words + (upvalues_place + (i + 1 + j))) 0)) (n - (i + 1)) one)

module _ (limit l : ℕ) (span : Span) (t₀ code₀ spans₀ : List ℕ) (i n : ℕ) (mid : Mem) (g : Going limit l span t₀ code₀ spans₀ i n mid) where
  -- the words of the level above are as they were
  pub word_kept : (o : ℕ) → l + 1 < levels → o < level_words → get_or (t_of mid) ((l + 1) * level_words + o) 0 ≡ get_or t₀ ((l + 1) * level_words + o) 0
  word_kept o low h = g.ahead.over refl _ (omega arith) (omega arith)

  module _ (more : i < n) (w : ℕ) (is : w ≡ get_or t₀ ((l + 1) * level_words + (upvalues_place + i)) 0) {now : Mem} {r : Step} (p : PairedAt limit l w span mid now r) where
    here : (rest : Rest) → emit_upvalues limit (from t₀ l i n) span (view mid l rest) ≡ emit_upvalues limit (upvalue_of w ∷ from t₀ l (i + 1) n) span (view mid l rest)
    here rest = ap (λ (us : List Upvalue). emit_upvalues limit us span (view mid l rest)) (split t₀ l i n more ∙ ap (λ (k : ℕ). upvalue_of k ∷ from t₀ l (i + 1) n) (sym is))

    pub going_on : {v : ℕ} → r ≡ Ok v → Going limit l span t₀ code₀ spans₀ (i + 1) n now
    going_on {v} q =
        let x : PairedAs limit l w span mid now (Ok v) = subst (λ (s : Step). PairedAs limit l w span mid now s) q p.does in
        let y = x (from t₀ l (i + 1) n) in
        record {
          same = λ rest h. g.same rest h ∙ here rest ∙ y.same rest (g.agrees rest h);
          agrees = λ rest h. y.agrees rest (g.agrees rest h);
          ahead = ahead_then g.ahead y.ahead;
        }

    pub going_stop : {class k : ℕ} {x : Why} → r ≡ Err x → Did class limit l k steady (emit_upvalues limit (upvalues_of t₀ (l + 1)) span) (mem t₀ code₀ spans₀) now r
    going_stop {class} {k} {x} q =
        let y : PairedAs limit l w span mid now (Err x) = subst (λ (s : Step). PairedAs limit l w span mid now s) q p.does in
        subst (λ (s : Step). Did class limit l k steady (emit_upvalues limit (upvalues_of t₀ (l + 1)) span) (mem t₀ code₀ spans₀) now s) (sym q)
        (stop now (record { refuses = λ rest h. g.same rest h ∙ here rest ∙ (y (from t₀ l (i + 1) n) class).refuses rest (g.agrees rest h) }))

  pub gone : {class k : ℕ} → n ≤ i → Did class limit l k steady (emit_upvalues limit (upvalues_of t₀ (l + 1)) span) (mem t₀ code₀ spans₀) mid (Ok k)
  unfolding row emit_upvalues done return
  gone h =
      let e : n - i ≡ 0 = omega arith in
      next (record {
        comes = λ rest a. g.same rest a ∙ ap (λ (k : ℕ). emit_upvalues limit (row (λ j. upvalue_of (get_or t₀ ((l + 1) * level_words + (upvalues_place + (i + j))) 0)) k) span (view mid l rest)) e;
        agrees = λ rest a. g.agrees rest a;
        ahead = g.ahead;
      })
