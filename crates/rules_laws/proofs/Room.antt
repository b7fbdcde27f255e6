-- Memory: after a refusal the output has only zeros; if one room gives an answer other than 1, 30 and 31, every room at least as large in each size
-- gives the same answer and the same image, and the output is longer only by zeros; and so do two rooms of which neither is the larger, if both give
-- such an answer. For all limits, trees, options and lent sizes; the same is asked for in both rooms. The same answer is one with the same fields, the
-- function that an error is in among them.
use mathlib.Core.Path.{◌≡◌, refl, sym, ap, subst, subst⁻¹, ◌∙◌}
use mathlib.Core.Logic.{◌≢◌}
use mathlib.Core.Bool.{Bool, true, false}
use mathlib.Core.List.{List, ◌++◌, append_assoc, []}
use Prim.Native.Nat.{ℕ, ◌+◌, ◌-◌, ◌*◌, ◌≤◌}
use native.Mathlib.Omega.{arith}
use lib.ListN.{length, replicate, replicate-append-replicate}
use lib.Dec.{T, leb, leb→le, le→leb, nleb→lt}
use Rattle.std.specs.Prelude.{if◌then◌else◌}
use Rattle.rules.specs.Limits.{Limits, first_limits, max_tree}
use Rattle.rules.specs.declared.Answer.{Answer}
use Rattle.rules.specs.declared.Refusal.TheVariants.{WorkShort, TreeTooLong, CodeFull}
use Rattle.rules.specs.Answer.{refusal, outside, refusal_in}
use Rattle.rules.specs.Tree.{Stmts}
use Rattle.rules.specs.Reader.{Read, got, bad}
use Rattle.rules.specs.TreeFile.{read_tree}
use Rattle.rules.specs.Chunk.{ObjectFunction}
use Rattle.rules.specs.Compiler.{Outcome, ok, err}
use Rattle.rules.specs.Image.{image_with}
use Rattle.rules.specs.Entry as entry
use Rattle.rules.specs.Entry.{Lent, Left, asks_directory, code_limit, Compiled, functions_are, refused, compile_tree, compile_lent, compile_within, compile}
use Rattle.rules_laws.proofs.Checks.{image_for, room}
use Rattle.rules_laws.proofs.Refusals.{RefusedBy, number_of, no_length}
use Rattle.rules_laws.proofs.Agrees as agreeing
use Rattle.rules_laws.proofs.Agrees.{Under, agrees}

-- at least as large in each size, and the same is asked for
pub record Larger (lent lent' : Lent) : Type 0 where
  pub options : lent.options ≡ lent'.options
  pub table_words : lent.table_words ≤ lent'.table_words
  pub code_bytes : lent.code_bytes ≤ lent'.code_bytes
  pub span_words : lent.span_words ≤ lent'.span_words
  pub output_bytes : lent.output_bytes ≤ lent'.output_bytes

pub larger_limit : (lent lent' : Lent) → Larger lent lent' → code_limit lent ≤ code_limit lent'
unfolding code_limit
larger_limit lent lent' l = omega (arith, l.code_bytes, l.span_words)

-- ## What the compiler comes to under two limits

-- 30, in whatever function
abbrev pub Met : Compiled → Type 0
Met (functions_are fs) = ⊥
Met (refused y) = y.what ≡ CodeFull

pub data UnderCompiled (x x' : Compiled) : Type 0 where
  full : Met x → UnderCompiled x x'
  same : x ≡ x' → UnderCompiled x x'

met : (o : Outcome (List ObjectFunction)) → RefusedBy CodeFull o → Met (entry.from_outcome o)
unfolding entry.from_outcome
met (ok fs s) h = h
met (err x) h = h

from_outcome : {o o' : Outcome (List ObjectFunction)} → Under o o' → UnderCompiled (entry.from_outcome o) (entry.from_outcome o')
from_outcome {o} (agreeing.full h) = full (met o h)
from_outcome (agreeing.same e) = same (ap entry.from_outcome e)

from_read : (r : Read Stmts) (limit limit' : ℕ) → limit ≤ limit' → UnderCompiled (entry.from_read r limit) (entry.from_read r limit')
unfolding entry.from_read
from_read (got stmts next) limit limit' l = from_outcome (agrees limit limit' l stmts)
from_read (bad r) limit limit' l = same refl

module _ (limits : Limits) (tree : List ℕ) where
  pub tree_agrees : (limit limit' : ℕ) → limit ≤ limit' → UnderCompiled (compile_tree limits tree limit) (compile_tree limits tree limit')
  unfolding compile_tree
  tree_agrees limit limit' l = by_length (leb (length tree) max_tree)
    where
      read : Read Stmts
      read = read_tree tree limits.depth limits.funs

      by_length : (b : Bool) →
          UnderCompiled (if b then entry.from_read read limit else refused (outside TreeTooLong))
          (if b then entry.from_read read limit' else refused (outside TreeTooLong))
      by_length true = from_read read limit limit' l
      by_length false = same refl

-- ## What is written

-- "after a refusal, only zeros"; that the work areas are all zero whatever the answer is Slips `work_areas_zero`
pub refused_leaves_zeros : (limits : Limits) (tree : List ℕ) (lent : Lent) → (compile_within limits tree lent).answer.number ≢ 0 →
    (compile_within limits tree lent).output ≡ replicate lent.output_bytes 0
unfolding compile_within entry.write_out entry.write_image entry.leaves
refused_leaves_zeros limits tree lent n = by_compiled (compile_lent limits tree lent) n
  where
    by_room : (image : List ℕ) (b : Bool) → (room lent image b).answer.number ≢ 0 → (room lent image b).output ≡ replicate lent.output_bytes 0
    by_room image true n = absurd (n refl)
    by_room image false n = refl

    by_compiled : (x : Compiled) → (entry.write_out lent x).answer.number ≢ 0 → (entry.write_out lent x).output ≡ replicate lent.output_bytes 0
    by_compiled (refused y) n = refl
    by_compiled (functions_are fs) n = by_room (image_for lent fs) (leb (length (image_for lent fs)) lent.output_bytes) n

met_is_30 : (lent : Lent) (x : Compiled) → Met x → (entry.write_out lent x).answer.number ≡ 30
unfolding entry.write_out entry.leaves refusal refusal_in
met_is_30 lent (refused y) h = ap number_of h
met_is_30 lent (functions_are fs) h = absurd h

-- neither 1, 30 nor 31
abbrev pub Enough : Answer → Type 0
Enough a = (a.number ≢ 1) × (a.number ≢ 30) × (a.number ≢ 31)

-- ## A room at least as large

-- the same answer, and an output that is longer only by zeros
pub record Same (lent lent' : Lent) (r r' : Left) : Type 0 where
  pub answer : r'.answer ≡ r.answer
  pub output : r'.output ≡ r.output ++ replicate (lent'.output_bytes - lent.output_bytes) 0

zeros : (n m k : ℕ) → m + k ≡ n → replicate {A = ℕ} n 0 ≡ replicate m 0 ++ replicate k 0
zeros n m k e = rw (replicate-append-replicate {A = ℕ} m k 0, e)

module _ (lent lent' : Lent) (larger : Larger lent lent') where
  image_same : (image : List ℕ) → (entry.write_image lent image).answer.number ≢ 31 →
      Same lent lent' (entry.write_image lent image) (entry.write_image lent' image)
  unfolding entry.write_image entry.leaves refusal
  image_same image n = by_room (leb (length image) lent.output_bytes) refl n
    where
      padded : length image ≤ lent.output_bytes →
          image ++ replicate (lent'.output_bytes - length image) 0 ≡ (image ++ replicate (lent.output_bytes - length image) 0) ++ replicate
          (lent'.output_bytes - lent.output_bytes) 0
      padded l =
          rw (zeros (lent'.output_bytes - length image) (lent.output_bytes - length image) (lent'.output_bytes - lent.output_bytes)
          (omega (arith, larger.output_bytes)))
          (sym (append_assoc image (replicate (lent.output_bytes - length image) 0) (replicate (lent'.output_bytes - lent.output_bytes) 0)))

      by_larger : length image ≤ lent.output_bytes → (b : Bool) → T b → Same lent lent' (room lent image true) (room lent' image b)
      by_larger l true t = record { answer = refl; output = padded l }
      by_larger l false t = absurd t

      by_room : (b : Bool) → leb (length image) lent.output_bytes ≡ b → (room lent image b).answer.number ≢ 31 →
          Same lent lent' (room lent image b) (room lent' image (leb (length image) lent'.output_bytes))
      by_room true e n =
          let l : length image ≤ lent.output_bytes = leb→le (length image) lent.output_bytes (rw e tt) in
          by_larger l (leb (length image) lent'.output_bytes) (le→leb (length image) lent'.output_bytes (omega (arith, larger.output_bytes)))
      by_room false e n = absurd (n refl)

  out_same : (x : Compiled) → (entry.write_out lent x).answer.number ≢ 31 → Same lent lent' (entry.write_out lent x) (entry.write_out lent' x)
  unfolding entry.write_out entry.leaves
  out_same (refused y) n =
      record {
        answer = refl;
        output = zeros lent'.output_bytes lent.output_bytes (lent'.output_bytes - lent.output_bytes)
            (omega (arith, larger.output_bytes));
      }
  out_same (functions_are fs) n =
      subst (λ (o : ℕ). Same lent lent' (entry.write_image lent (image_for lent fs)) (entry.write_image lent' (image_with (asks_directory o) fs)))
      larger.options (image_same (image_for lent fs) n)

  out_agrees : (x x' : Compiled) → UnderCompiled x x' → Enough (entry.write_out lent x).answer →
      Same lent lent' (entry.write_out lent x) (entry.write_out lent' x')
  out_agrees x x' (full h) n = absurd (n.1 (met_is_30 lent x h))
  out_agrees x x' (same e) n = subst (λ (x' : Compiled). Same lent lent' (entry.write_out lent x) (entry.write_out lent' x')) e (out_same x n.2)

  -- room enough is room enough where there is more
  pub more_room_within : (limits : Limits) (tree : List ℕ) → Enough (compile_within limits tree lent).answer →
      Same lent lent' (compile_within limits tree lent) (compile_within limits tree lent')
  unfolding compile_within compile_lent entry.write_out entry.leaves refusal refusal_in
  more_room_within limits tree n = by_table (leb limits.table_bytes (8 * lent.table_words)) refl n
    where
      table : Lent → Bool → Compiled
      table lent b = if b then compile_tree limits tree (code_limit lent) else refused (outside WorkShort)

      by_larger : (b : Bool) → T b → Enough (entry.write_out lent (table lent true)).answer →
          Same lent lent' (entry.write_out lent (table lent true)) (entry.write_out lent' (table lent' b))
      by_larger true t n = out_agrees (compile_tree limits tree (code_limit lent)) (compile_tree limits tree (code_limit lent'))
          (tree_agrees limits tree (code_limit lent) (code_limit lent') (larger_limit lent lent' larger)) n
      by_larger false t n = absurd t

      by_table : (b : Bool) → leb limits.table_bytes (8 * lent.table_words) ≡ b → Enough (entry.write_out lent (table lent b)).answer →
          Same lent lent' (entry.write_out lent (table lent b))
          (entry.write_out lent' (table lent' (leb limits.table_bytes (8 * lent'.table_words))))
      by_table true e n =
          by_larger (leb limits.table_bytes (8 * lent'.table_words))
          (le→leb limits.table_bytes (8 * lent'.table_words)
          (omega (arith, larger.table_words, leb→le limits.table_bytes (8 * lent.table_words) (rw e tt)))) n
      by_table false e n = absurd (n.0 refl)

  pub more_room : (tree : List ℕ) → Enough (compile tree lent).answer → Same lent lent' (compile tree lent) (compile tree lent')
  more_room tree n = more_room_within first_limits tree n

-- ## Two rooms of which neither need be the larger

-- The rooms that a server lends one after the other need not be comparable: of those in include/puffbramble.h, for a tree file of 35 bytes the first
-- has 75 code bytes and the one that is enough for every file 35.

-- the output is the image and then zeros, and the answer has the image's length: 0 where there is none
pub record Padded (image : List ℕ) (lent : Lent) (r : Left) : Type 0 where
  pub says : r.answer.length ≡ length image
  pub fits : length image ≤ lent.output_bytes
  pub output : r.output ≡ image ++ replicate (lent.output_bytes - length image) 0

-- the same answer and the same image
pub record Alike (lent lent' : Lent) (r r' : Left) : Type 0 where
  pub answer : r.answer ≡ r'.answer
  pub image : List ℕ
  pub here : Padded image lent r
  pub there : Padded image lent' r'

module _ (lent lent' : Lent) where
  image_alike : (image : List ℕ) → (entry.write_image lent image).answer.number ≢ 31 → (entry.write_image lent' image).answer.number ≢ 31 →
      Alike lent lent' (entry.write_image lent image) (entry.write_image lent' image)
  unfolding entry.write_image entry.leaves refusal
  image_alike image n n' = by_room (leb (length image) lent.output_bytes) (leb (length image) lent'.output_bytes) refl refl n n'
    where
      padded : (lent : Lent) → leb (length image) lent.output_bytes ≡ true → Padded image lent (room lent image true)
      padded lent e = record { says = refl; fits = leb→le (length image) lent.output_bytes (rw e tt); output = refl }

      by_room : (b b' : Bool) → leb (length image) lent.output_bytes ≡ b → leb (length image) lent'.output_bytes ≡ b' →
          (room lent image b).answer.number ≢ 31 → (room lent' image b').answer.number ≢ 31 → Alike lent lent' (room lent image b) (room lent' image b')
      by_room true true e e' n n' = record { answer = refl; image = image; here = padded lent e; there = padded lent' e' }
      by_room false b' e e' n n' = absurd (n refl)
      by_room true false e e' n n' = absurd (n' refl)

  out_alike : lent.options ≡ lent'.options → (x : Compiled) → (entry.write_out lent x).answer.number ≢ 31 →
      (entry.write_out lent' x).answer.number ≢ 31 → Alike lent lent' (entry.write_out lent x) (entry.write_out lent' x)
  unfolding entry.write_out entry.leaves refusal_in
  out_alike o (refused y) n n' =
      record {
        answer = refl;
        image = [];
        here = record { says = no_length y.what n; fits = omega arith; output = all_zeros lent.output_bytes };
        there = record { says = no_length y.what n; fits = omega arith; output = all_zeros lent'.output_bytes };
      }
    where
      all_zeros : (n : ℕ) → replicate {A = ℕ} n 0 ≡ replicate (n - 0) 0
      all_zeros n = let e : n ≡ n - 0 = omega arith in ap (λ (n : ℕ). replicate {A = ℕ} n 0) e
  out_alike o (functions_are fs) n n' =
      subst (λ (image : List ℕ). Alike lent lent' (entry.write_image lent (image_for lent fs)) (entry.write_image lent' image)) e
      (image_alike (image_for lent fs) n (subst⁻¹ (λ (image : List ℕ). (entry.write_image lent' image).answer.number ≢ 31) e n'))
    where
      e : image_for lent fs ≡ image_for lent' fs
      e = ap (λ (options : ℕ). image_with (asks_directory options) fs) o

module _ (limits : Limits) (tree : List ℕ) where
  -- past 1, what comes back is what the compiler comes to under the room's code limit
  pub has_table : (lent : Lent) → (compile_within limits tree lent).answer.number ≢ 1 →
      compile_within limits tree lent ≡ entry.write_out lent (compile_tree limits tree (code_limit lent))
  unfolding compile_within compile_lent entry.write_out entry.leaves refusal refusal_in
  has_table lent n = by_table (leb limits.table_bytes (8 * lent.table_words)) n
    where
      table : Bool → Left
      table b = entry.write_out lent (if b then compile_tree limits tree (code_limit lent) else refused (outside WorkShort))

      by_table : (b : Bool) → (table b).answer.number ≢ 1 → table b ≡ table true
      by_table true n = refl
      by_table false n = absurd (n refl)

  -- of two limits that are not met, what comes back is the same
  neither_full : (limit limit' : ℕ) → (Met (compile_tree limits tree limit) → ⊥) → (Met (compile_tree limits tree limit') → ⊥) →
      compile_tree limits tree limit ≡ compile_tree limits tree limit'
  neither_full limit limit' n n' = by_order (leb limit limit') refl
    where
      of_under : {x x' : Compiled} → (Met x → ⊥) → UnderCompiled x x' → x ≡ x'
      of_under n (full h) = absurd (n h)
      of_under n (same e) = e

      by_order : (b : Bool) → leb limit limit' ≡ b → compile_tree limits tree limit ≡ compile_tree limits tree limit'
      by_order true e = of_under n (tree_agrees limits tree limit limit' (leb→le limit limit' (rw e tt)))
      by_order false e = sym (of_under n' (tree_agrees limits tree limit' limit (omega (arith, nleb→lt limit limit' (rw e tt)))))

  full_is_30 : (lent : Lent) → (compile_within limits tree lent).answer.number ≢ 1 → (compile_within limits tree lent).answer.number ≢ 30 →
      Met (compile_tree limits tree (code_limit lent)) → ⊥
  full_is_30 lent n₁ n₃₀ h =
      n₃₀ (ap (λ (r : Left). r.answer.number) (has_table lent n₁) ∙ met_is_30 lent (compile_tree limits tree (code_limit lent)) h)

  -- if both rooms are enough, what the compiler comes to is the same, whatever is asked for
  pub one_in_both : (lent lent' : Lent) → Enough (compile_within limits tree lent).answer → Enough (compile_within limits tree lent').answer →
      (x : Compiled) × (compile_within limits tree lent ≡ entry.write_out lent x) × (compile_within limits tree lent' ≡ entry.write_out lent' x)
  one_in_both lent lent' n n' = (
    compile_tree limits tree (code_limit lent),
    has_table lent n.0,
    has_table lent' n'.0
        ∙ ap (entry.write_out lent')
        (sym (neither_full (code_limit lent) (code_limit lent') (full_is_30 lent n.0 n.1) (full_is_30 lent' n'.0 n'.1))),
  )

  -- and both give the same
  pub enough_in_both : (lent lent' : Lent) → lent.options ≡ lent'.options →
      Enough (compile_within limits tree lent).answer → Enough (compile_within limits tree lent').answer →
      Alike lent lent' (compile_within limits tree lent) (compile_within limits tree lent')
  enough_in_both lent lent' o n n' =
      let (x, e, e') = one_in_both lent lent' n n' in
      subst (λ (r : Left). Alike lent lent' r (compile_within limits tree lent')) (sym e)
      (subst (λ (r' : Left). Alike lent lent' (entry.write_out lent x) r') (sym e')
      (out_alike lent lent' o x (subst (λ (r : Left). r.answer.number ≢ 31) e n.2) (subst (λ (r : Left). r.answer.number ≢ 31) e' n'.2)))
