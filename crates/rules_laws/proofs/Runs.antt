-- In every image that the compiler gives, each function's span runs have counts 1 to 255, these add up to its code's length, and neighbours share
-- a span only after a count of 255.
use mathlib.Core.Path.{◌≡◌, refl}
use mathlib.Core.Bool.{Bool, true, false, ◌&&◌}
use mathlib.Core.List.{List, ◌∷◌, []}
use Prim.Native.Nat.{ℕ, suc, ◌+◌, ◌≤◌}
use native.Mathlib.Omega.{arith}
use lib.ListN.{length, length-append, length-set}
use lib.Dec.{T, ltb, eqb, ltb→lt, nltb→le}
use Rattle.std.specs.Prelude.{if◌then◌else◌}
use Rattle.rules.specs.declared.Span.{Span}
use Rattle.rules.specs.Tree.{Stmts}
use Rattle.rules.specs.Op as op
use Rattle.rules.specs.Chunk.{Chunk, Run, total, push_span, same_span, write_u8, ObjectFunction}
use Rattle.rules.specs.Checker.{runs_apart}
use Rattle.rules.specs.Compiler as c
use Rattle.rules_laws.proofs.Keeps.{After}
use Rattle.rules_laws.proofs.Layer as layer
use Rattle.rules_laws.proofs.Tests.{both, left, right}
use Rattle.rules_laws.proofs.Facts.{ChunkLaws, write_all, with_constants, with_ops, jump_bytes, loop_bytes, no_code, All}

push_total : (runs : List Run) (span : Span) → total (push_span runs span) ≡ suc (total runs)
unfolding total push_span
push_total [] span = refl
push_total (run ∷ []) span = by_test (same_span run.span span && ltb run.count 255)
  where
    by_test : (b : Bool) →
        total (if b then (record { span = run.span; count = run.count + 1 } ∷ []) else (run ∷ record { span = span; count = 1 } ∷ []))
        ≡ suc (run.count + 0)
    by_test true = omega arith
    by_test false = omega arith
push_total (run ∷ next ∷ runs) span = omega (arith, push_total (next ∷ runs) span)

-- 1 to 255
pub record Counts (run : Run) : Type 0 where
  pub least : 1 ≤ run.count
  pub most : run.count ≤ 255

push_counts : (runs : List Run) (span : Span) → All Counts runs → All Counts (push_span runs span)
unfolding push_span
push_counts [] span h = (record { least = omega arith; most = omega arith }, tt)
push_counts (run ∷ []) span h = by_test (same_span run.span span) (ltb run.count 255) refl
  where
    one : Counts (record { span = span; count = 1 })
    one = record { least = omega arith; most = omega arith }

    more : T (ltb run.count 255) → Counts (record { span = run.span; count = run.count + 1 })
    more t = record { least = omega arith; most = omega (arith, ltb→lt run.count 255 t) }

    by_test : (a b : Bool) → ltb run.count 255 ≡ b →
        All Counts (if a && b then (record { span = run.span; count = run.count + 1 } ∷ []) else (run ∷ record { span = span; count = 1 } ∷ []))
    by_test true true e = (more (rw e tt), tt)
    by_test true false e = (h.0, (one, tt))
    by_test false b e = (h.0, (one, tt))
push_counts (run ∷ next ∷ runs) span h = (h.0, push_counts (next ∷ runs) span h.1)

-- the first run keeps its span
push_apart : (runs : List Run) (span : Span) → All Counts runs → T (runs_apart runs) → T (runs_apart (push_span runs span))
unfolding push_span runs_apart
push_apart [] span h t = tt
push_apart (run ∷ []) span h t = by_test (same_span run.span span) refl (ltb run.count 255) refl
  where
    by_test : (a : Bool) → same_span run.span span ≡ a → (b : Bool) → ltb run.count 255 ≡ b →
        T (runs_apart (if a && b then (record { span = run.span; count = run.count + 1 } ∷ []) else (run ∷ record { span = span; count = 1 } ∷ [])))
    by_test true e₁ true e = tt
    by_test true e₁ false e =
        let full : run.count ≡ 255 = omega (arith, nltb→le run.count 255 (rw e tt), h.0.most) in
        rw (e₁, full) tt
    by_test false e₁ b e = rw e₁ tt
push_apart (run ∷ next ∷ []) span h t = by_test (same_span next.span span) refl (ltb next.count 255) refl (push_apart (next ∷ []) span h.1 tt)
  where
    gap : Bool
    gap = if same_span run.span next.span then eqb run.count 255 else true

    by_test : (a : Bool) → same_span next.span span ≡ a → (b : Bool) → ltb next.count 255 ≡ b →
        T (runs_apart (if a && b then (record { span = next.span; count = next.count + 1 } ∷ []) else (next ∷ record { span = span; count = 1 } ∷ []))) →
        T (runs_apart (run ∷ (if a && b then (record { span = next.span; count = next.count + 1 } ∷ []) else (next ∷ record { span = span; count = 1 } ∷ []))))
    by_test true e₁ true e r = t
    by_test true e₁ false e r =
        both gap (runs_apart (next ∷ record { span = span; count = 1 } ∷ [])) (left gap true t) r
    by_test false e₁ b e r =
        both gap (runs_apart (next ∷ record { span = span; count = 1 } ∷ [])) (left gap true t) r
push_apart (run ∷ next ∷ third ∷ runs) span h t =
    both (if same_span run.span next.span then eqb run.count 255 else true) (runs_apart (push_span (next ∷ third ∷ runs) span))
    (left (if same_span run.span next.span then eqb run.count 255 else true) (runs_apart (next ∷ third ∷ runs)) t)
    (push_apart (next ∷ third ∷ runs) span h.1 (right (if same_span run.span next.span then eqb run.count 255 else true) (runs_apart (next ∷ third ∷ runs)) t))

pub record Counted (ch : Chunk) : Type 0 where
  pub apart : T (runs_apart ch.spans)
  pub each : All Counts ch.spans
  pub sum : total ch.spans ≡ length ch.ops

written : (ch : Chunk) (b : ℕ) (span : Span) → Counted ch → Counted (write_u8 ch b span)
unfolding write_u8
written ch b span h =
    record {
      apart = push_apart ch.spans span h.each h.apart;
      each = push_counts ch.spans span h.each;
      sum = omega
          (arith, push_total ch.spans span, h.sum, length-append ch.ops (b ∷ []));
    }

all_written : (ch : Chunk) (bs : List ℕ) (span : Span) → Counted ch → Counted (write_all ch bs span)
all_written ch [] span h = h
all_written ch (b ∷ bs) span h = all_written (write_u8 ch b span) bs span (written ch b span h)

patched : (ch : Chunk) (at n : ℕ) → Counted ch → Counted (with_ops ch (c.set_u16 ch.ops at n))
unfolding c.set_u16
patched ch at n h = record { apart = h.apart; each = h.each; sum = simp length-set h.sum }

none_yet : Counted no_code
unfolding total runs_apart
none_yet = record { apart = tt; each = tt; sum = refl }

laws : (limit : ℕ) → ChunkLaws limit (Unit {0}) (λ _ _ _ _ ch. Counted ch) tt (λ _ k. k) (λ _ k. k)
laws limit =
    record {
      empty = λ fs. none_yet;
      captures = λ k opened fs m n ch l b h. h;
      writes = λ kind st k opened fs n ch cs b bs span e g f r h. all_written (with_constants ch cs) (b ∷ bs) span (record { apart = h.apart; each = h.each; sum = h.sum });
      closes =
          λ k opened fs gs f n ch place cs ps span w e t b r i h. all_written (with_constants ch cs) (op.CLOSURE ∷ place ∷ ps) span (record { apart = h.apart; each = h.each; sum = h.sum });
      jumps = λ k opened fs n ch b span e r h. all_written ch (jump_bytes b) span h;
      patches = λ k opened fs n ch at l h. patched ch at _ h;
      marks = λ k opened fs n ch h. h;
      loops = λ k opened fs n ch at span l r h. all_written ch (loop_bytes (length ch.ops) at) span h;
      swap_waits = λ i j k opened fs n ch h. h;
      swap_backs = λ i j k opened fs n ch h. h;
    }

-- every function of the image
pub counted : (limit : ℕ) (stmts : Stmts) → After (λ fs _. All (λ (f : ObjectFunction). List ObjectFunction × Counted f.chunk) fs) (c.compile_functions limit stmts)
counted limit stmts = layer.functions (Unit {0}) (λ _ _ _ _ ch. Counted ch) tt (λ _ k. k) (λ _ k. k) limit (laws limit) (λ opened fs gs n ch h. h) stmts
