-- Jumps: the length of the code, an operand that is left open, and one that is set.
use mathlib.Core.Path.{◌≡◌, refl, sym, ap, ap₂, ◌∙◌}
use mathlib.Core.List.{List, ◌∷◌}
use Prim.Native.Nat.{ℕ, zero, suc, ◌+◌, ◌-◌, ◌/◌, ◌%◌, ◌≤◌, ◌<◌}
use native.Mathlib.Omega.{arith}
use native.Mathlib.Nat.{not-suc-le-zero, le_refl}
use lib.ListN.{length, get_or, set, length-set}
use lib.Seq.{get_or-set_same, get_or-set_other}
use Rattle.rules.specs.declared.Span.{Span}
use Rattle.steps.specs.Why.{jump_too_large, refusal_of, told}
use Rattle.rules.specs.Compiler.{ok, go_on, ◌>>=◌, the, return, code_length, set_u16, patch_jump}
use Rattle.rules.proofs.Slips.{with_operand, near_ahead, too_far_ahead}
use Rattle.state.specs.Layout.{row, level_constants, start_of_code, end_of_code, end_of_runs, chunk_at, ctx_at, parents_of}
use Rattle.state.proofs.Laws.{row_cong, chunk_paths, ctx_paths, parents_same}
use Rattle.steps.specs.View.{Mem, mem, Rest, view, Fit, code_len, depth_at, steady, Ahead, Gave, Refused, Opened, Told, Measured}
use Rattle.std.specs.Prelude.{Ok}
use Rattle.steps.proofs.Views.{view_len}
use Rattle.steps.proofs.Steps.{refuses_in}

-- ## How much code there is

pub told_length : {class l : ℕ} {m : Mem} (n : ℕ) → n ≡ code_len m l → Told class l code_length n m
unfolding code_length the
told_length {l = l} {m = m} n e = record { says = λ rest q. ap (λ (k : ℕ). ok k (view m l rest)) (view_len m l rest ∙ sym e) }

pub measured : (t : List ℕ) (l n : ℕ) → n ≡ end_of_code t - start_of_code t l → Measured t l n
unfolding code_len
measured t l n e = record { is = λ code spans. e; says = λ class code spans. told_length n e }

-- the areas as they are
pub ahead_none : {l limit : ℕ} {m : Mem} → Fit m l limit → Ahead l limit steady m m
ahead_none fit = record { fit = fit; up = le_refl _; deep = refl; head = λ o a b. refl; under = λ k o h a b. refl; over = λ q i h g. refl; beyond = λ q i h. refl }

-- the place of the operand that was just left open
pub open_place : {class limit l : ℕ} {m : Mem} (k : ℕ) → Fit m l limit → k ≡ code_len m l → 2 ≤ k → Opened class limit l steady (code_length >>= λ end. return (end - 2)) m m (Ok (k - 2))
unfolding code_length ◌>>=◌ the go_on return
open_place {l = l} {m = m} k fit e h = record {
  does = (
    record {
      comes = λ rest q. ap (λ (j : ℕ). ok (j - 2) (view m l rest)) (view_len m l rest ∙ sym e);
      agrees = λ rest q. q;
      ahead = ahead_none fit;
    },
    omega arith,
  );
}

-- ## An operand is set

row_set : (f g : ℕ → ℕ) (p v n : ℕ) → p < n → g p ≡ v → ((i : ℕ) → i < n → (i ≡ p → ⊥) → g i ≡ f i) → row g n ≡ set (row f n) p v
unfolding row
row_set f g p v zero h e other = absurd (not-suc-le-zero h)
row_set f g zero v (suc n) h e other = ap₂ ◌∷◌ e (row_cong (λ i. g (suc i)) (λ i. f (suc i)) n (λ i (l : i < n). other (suc i) (omega arith) (λ z. omega arith)))
row_set f g (suc p) v (suc n) h e other =
    ap₂ ◌∷◌ (other 0 (omega arith) (λ z. omega arith)) (row_set (λ i. f (suc i)) (λ i. g (suc i)) p v n (omega arith) e
    (λ i (l : i < n) ne. other (suc i) (omega arith) (λ (z : suc i ≡ suc p). ne (omega arith))))

row_at : (code : List ℕ) (from n p v : ℕ) → p < n → from + p < length code → row (λ i. get_or (set code (from + p) v) (from + i) 0) n ≡ set (row (λ i. get_or code (from + i) 0) n) p v
row_at code from n p v h g = row_set _ _ p v n h (get_or-set_same code (from + p) v 0 g) (λ i l ne. get_or-set_other code (from + p) (from + i) v 0 (λ z. ne (omega arith)))

rows_set : (code : List ℕ) (from n p d : ℕ) → p + 2 ≤ n → from + n ≤ length code → row
    (λ i. get_or (set (set code (from + p) (d % 256)) (from + p + 1) (d / 256)) (from + i) 0) n ≡ set_u16 (row (λ i. get_or code (from + i) 0) n) p d
unfolding set_u16
rows_set code from n p d h g =
    let q : from + p + 1 ≡ from + (p + 1) = omega arith in
    let l = length-set code (from + p) (d % 256) in
    ap (λ (k : ℕ). row (λ i. get_or (set (set code (from + p) (d % 256)) k (d / 256)) (from + i) 0) n) q
    ∙ row_at (set code (from + p) (d % 256)) from n (p + 1) (d / 256) (omega arith) (omega arith)
    ∙ ap (λ (xs : List ℕ). set xs (p + 1) (d / 256)) (row_at code from n p (d % 256) (omega arith) (omega arith))

module _ {limit : ℕ} (l place d : ℕ) (span : Span) (t code spans : List ℕ) (fit : Fit (mem t code spans) l limit)
    (inside : place + 2 ≤ code_len (mem t code spans) l) (is : end_of_code t - start_of_code t l - 2 - place ≡ d) where
  abbrev code' : List ℕ
  code' = set (set code (start_of_code t l + place) (d % 256)) (start_of_code t l + place + 1) (d / 256)

  len : (rest : Rest) → length (view (mem t code spans) l rest).ctx.chunk.ops - 2 - place ≡ d
  unfolding code_len
  len rest = ap (λ (k : ℕ). k - 2 - place) (view_len (mem t code spans) l rest) ∙ is

  view_after : (rest : Rest) → with_operand (view (mem t code spans) l rest) place d ≡ view (mem t code' spans) l rest
  unfolding view ctx_at chunk_at code_len
  view_after rest =
      let ok' = fit.coded in
      let rs = rows_set code (start_of_code t l) (end_of_code t - start_of_code t l) place d inside (omega (arith, ok'.room_code, ok'.within, ok'.top)) in
      let c : chunk_at t code' spans l (end_of_code t) (end_of_runs t) ≡ record
      { ops = set_u16 (chunk_at t code spans l (end_of_code t) (end_of_runs t)).ops place d; constants = level_constants t l; spans = (chunk_at t code spans l (end_of_code t) (end_of_runs t)).spans } =
      chunk_paths t code spans t code' spans l (end_of_code t) (end_of_runs t) (end_of_code t) (end_of_runs t) _ refl refl refl _ rs _ refl in
      let x = ctx_paths t code spans t code' spans l (end_of_code t) (end_of_runs t) (end_of_code t) (end_of_runs t) (λ o a b. refl) c refl refl refl in
      let ps : parents_of t code' spans l ≡ parents_of t code spans l = parents_same t code spans t code' spans l fit.wf fit.low (λ k o a b. refl) refl refl ok'.order ok'.order_runs
      (λ i h. get_or-set_other (set code (start_of_code t l + place) (d % 256)) (start_of_code t l + place + 1) i (d / 256) 0 (λ z. omega arith) ∙ get_or-set_other code
      (start_of_code t l + place) i (d % 256) 0 (λ z. omega arith)) (λ i h. refl) in
      sym (λ i. record { ctx = x i; parents = ps i; class_ctx = rest.classes; functions = rest.functions })

  pub patched : {class : ℕ} → d ≤ 65535 → Gave class limit l steady (patch_jump place span) tt (mem t code spans) (mem t code' spans)
  unfolding code_len depth_at
  patched h =
      let ok' = fit.coded in
      record {
        comes = λ rest q. near_ahead place span (view (mem t code spans) l rest) (omega (arith, len rest)) ∙ ap
            (λ (d : ℕ). ok tt (with_operand (view (mem t code spans) l rest) place d)) (len rest) ∙ ap (ok tt) (view_after rest);
        agrees = λ rest q. record { innermost = q.innermost; made = q.made };
        ahead = record {
          fit = record {
            low = fit.low;
            wf = fit.wf;
            coded = record {
              room_code = omega (arith, ok'.room_code, length-set code (start_of_code t l + place) (d % 256), length-set (set code (start_of_code t l + place) (d % 256)) (start_of_code t l + place + 1) (d / 256));
              room_runs = ok'.room_runs;
              within = ok'.within;
              fewer = ok'.fewer;
              fewer_at = ok'.fewer_at;
              from_zero = ok'.from_zero;
              top = ok'.top;
              top_runs = ok'.top_runs;
              order = ok'.order;
              order_runs = ok'.order_runs;
            };
          };
          up = le_refl _;
          deep = refl;
          head = λ o a b. refl;
          under = λ k o h a b. refl;
          over = λ q i h g. refl;
          beyond = λ q i h. refl;
        };
      }

  pub far : {class : ℕ} → 65535 < d → Refused class l (patch_jump place span) (mem t code spans) (told t (jump_too_large l span))
  unfolding refusal_of
  far h = refuses_in (jump_too_large l span) refl t refl (λ rest _. too_far_ahead place span (view (mem t code spans) l rest) (omega (arith, len rest)))
