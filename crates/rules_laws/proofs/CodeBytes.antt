-- In every image that the compiler gives, each byte of code is below 256, and each function has at most 256 constants, at most 256 captured variables
-- and at most as many bytes of code as the limit says. So each byte of the image is below 256, and of its directory.
use mathlib.Core.Path.{◌≡◌, refl}
use mathlib.Core.Bool.{Bool, true, false}
use mathlib.Core.Option.{some}
use mathlib.Core.List.{List, ◌∷◌, ◌++◌, []}
use Prim.Native.Nat.{ℕ, zero, suc, ◌+◌, ◌-◌, ◌/◌, ◌%◌, ◌≤◌, ◌<◌}
use native.Mathlib.Omega.{arith}
use lib.ListN.{length, length-append, get_elem?, set, length-set, replicate}
use lib.Dec.{T, ltb, eqb, eqb→eq, ltb→lt}
use Rattle.rules.specs.Base.{all, lookup, le}
use Rattle.std.specs.Prelude.{if◌then◌else◌}
use Rattle.rules.specs.declared.Span.{Span}
use Rattle.rules.specs.Tree.{Stmts}
use Rattle.rules.specs.Op as op
use Rattle.rules.specs.Op.{Operands, Ahead, operands_of}
use Rattle.rules.specs.Chunk.{Chunk, Constant, CN, CS, CF, Run, write_u8, ObjectFunction}
use Rattle.rules.specs.Compiler as c
use Rattle.rules.specs.Image as image
use Rattle.rules_laws.proofs.Keeps.{After}
use Rattle.rules_laws.proofs.Layer as layer
use Rattle.rules_laws.proofs.Coded.{write_constants}
use Rattle.rules_laws.proofs.Facts.{Fact, All, all_map, all_end, ChunkLaws, Form, plain, byte, captured_at, value_at, text_at, invoke, ahead, back, closure, Still, Grown, as_before, one_more, IsValue, write_all, with_constants, with_ops, jump_bytes, loop_bytes, Bytes}
use Rattle.rules.proofs.Computes as computes

-- what a table has is under one of its numbers
key_small : {A : Type 0} (rows : List (ℕ × A)) (n : ℕ) (x : A) → T (all (λ (row : ℕ × A). ltb row.0 256) rows) → lookup n rows ≡ some x → n < 256
unfolding lookup all
key_small [] n x t e = let z : ◌≡◌ {A = ℕ} 0 1 = cc in absurd (omega arith)
key_small {A} (row ∷ rows) n x t e = by_test (ltb row.0 256) refl (eqb n row.0) refl t e (λ t e. key_small rows n x t e)
  where
    by_test : (a : Bool) → ltb row.0 256 ≡ a → (b : Bool) → eqb n row.0 ≡ b → T (if a then all (λ (row : ℕ × A). ltb row.0 256) rows else false) →
        (if b then some row.1 else lookup n rows) ≡ some x →
        (T (all (λ (row : ℕ × A). ltb row.0 256) rows) → lookup n rows ≡ some x → n < 256) → n < 256
    by_test false e₁ b e₂ t e ih = absurd t
    by_test true e₁ true e₂ t e ih = omega (arith, eqb→eq n row.0 (rw e₂ tt), ltb→lt row.0 256 (rw e₁ tt))
    by_test true e₁ false e₂ t e ih = ih t e

opcode_small : (b : ℕ) (kind : Operands) → operands_of b ≡ some kind → b < 256
unfolding computes.op
opcode_small b kind e = key_small op.operands b kind tt e

at_inside : {A : Type 0} (xs : List A) (i : ℕ) (x : A) → get_elem? xs i ≡ some x → i < length xs
at_inside [] i x e = let z : ◌≡◌ {A = ℕ} 0 1 = cc in absurd (omega arith)
at_inside (y ∷ xs) zero x e = omega arith
at_inside (y ∷ xs) (suc i) x e = omega (arith, at_inside xs i x e)

form_bytes : {fs : List ObjectFunction} {cs : List Constant} {n : ℕ} {kind : Operands} {bs : List ℕ} → Still kind → length cs ≤ 256 → Form fs cs n kind bs → Bytes bs
form_bytes st l plain = tt
form_bytes st l (byte b) = (b, tt)
form_bytes st l (captured_at i b) = (b, tt)
form_bytes {cs = cs} st l (value_at {place = p} {v = v} e q) = (omega (arith, at_inside cs p v e), tt)
form_bytes {cs = cs} st l (text_at {place = p} e) = (omega (arith, at_inside cs p _ e), tt)
form_bytes {cs = cs} st l (invoke {place = p} e b) = (omega (arith, at_inside cs p _ e), (b, tt))
form_bytes {fs = fs} {cs = cs} {n = n} st l (ahead {a = a} {b = b}) = elim st [ ]
form_bytes {fs = fs} {cs = cs} {n = n} st l (back {a = a} {b = b}) = elim st [ ]
form_bytes {fs = fs} {cs = cs} {n = n} st l (closure {place = place} {number = number} {f = f} {pairs = pairs} _ _ _ _) = elim st [ ]

set_bytes : (bs : List ℕ) (i v : ℕ) → v < 256 → Bytes bs → Bytes (set bs i v)
set_bytes [] i v l h = tt
set_bytes (b ∷ bs) zero v l h = (l, h.1)
set_bytes (b ∷ bs) (suc i) v l h = (h.0, set_bytes bs i v l h.1)

grown_few : {Q : Constant → Type 0} {cs ds : List Constant} → Grown Q cs ds → length cs ≤ 256 → length ds ≤ 256
grown_few as_before h = h
grown_few {cs = cs} (one_more v q e l) h = omega (arith, length-append cs (v ∷ []))

unchanged : {cs : List Constant} → Grown IsValue cs cs
unchanged = as_before

pub record Sound (limit n : ℕ) (ch : Chunk) : Type 0 where
  pub bytes : Bytes ch.ops
  pub room : length ch.ops ≤ limit
  pub few : length ch.constants ≤ 256
  pub count : n ≤ 256

write_bytes : (ch : Chunk) (bs : List ℕ) (span : Span) → Bytes bs → Bytes ch.ops → Bytes (write_all ch bs span).ops
unfolding write_u8
write_bytes ch [] span b h = h
write_bytes ch (x ∷ bs) span b h = write_bytes (write_u8 ch x span) bs span b.1 (all_end (λ (b : ℕ). b < 256) ch.ops x h b.0)

writes : (limit n : ℕ) (ch : Chunk) {Q : Constant → Type 0} {cs : List Constant} (bs : List ℕ) (span : Span) → Bytes bs → Grown Q ch.constants cs →
    length (write_all (with_constants ch cs) bs span).ops ≤ limit → Sound limit n ch → Sound limit n (write_all (with_constants ch cs) bs span)
writes limit n ch {cs = cs} bs span b g r h =
    record {
      bytes = write_bytes (with_constants ch cs) bs span b h.bytes;
      room = r;
      few = rw (write_constants (with_constants ch cs) bs span) (grown_few g h.few);
      count = h.count;
    }

patched : (limit n : ℕ) (ch : Chunk) (at m : ℕ) → m ≤ 65_535 → Sound limit n ch → Sound limit n (with_ops ch (c.set_u16 ch.ops at m))
unfolding c.set_u16
patched limit n ch at m l h =
    record {
      bytes = set_bytes (set ch.ops at (m % 256)) (at + 1) (m / 256) (omega arith) (set_bytes ch.ops at (m % 256) (omega arith) h.bytes);
      room = simp length-set h.room;
      few = h.few;
      count = h.count;
    }

abbrev P : ℕ → Unit {0} → Fact
P limit k opened fs n ch = Sound limit n ch

laws : (limit : ℕ) → ChunkLaws limit (Unit {0}) (P limit) tt (λ _ k. k) (λ _ k. k)
unfolding computes.op
laws limit =
    record {
      empty = λ fs. record { bytes = tt; room = omega arith; few = omega arith; count = omega arith };
      captures = λ k opened fs m n ch l b h. record { bytes = h.bytes; room = h.room; few = h.few; count = b };
      writes = λ kind st k opened fs n ch cs b bs span e g f r h. writes limit n ch (b ∷ bs) span (opcode_small b kind e, form_bytes st (grown_few g h.few) f) g r h;
      closes =
          λ k opened fs gs f n ch place cs ps span w e t b r i h. writes limit n ch (op.CLOSURE ∷ place ∷ ps) span
          (omega arith, (omega (arith, at_inside cs place (CF (length (fs ++ gs))) w.there, grown_few w.grown h.few), b)) w.grown r h;
      jumps = λ k opened fs n ch b span e r h. writes limit n ch (jump_bytes b) span (opcode_small b Ahead e, (omega arith, (omega arith, tt))) unchanged r h;
      patches = λ k opened fs n ch at l h. patched limit n ch at (length ch.ops - 2 - at) l h;
      marks = λ k opened fs n ch h. h;
      loops = λ k opened fs n ch at span l r h. writes limit n ch (loop_bytes (length ch.ops) at) span (omega arith, (omega arith, (omega arith, tt))) unchanged r h;
      swap_waits = λ i j k opened fs n ch h. h;
      swap_backs = λ i j k opened fs n ch h. h;
    }

abbrev pub AllSound : ℕ → List ObjectFunction → Type 0
AllSound limit fs = All (λ (f : ObjectFunction). List ObjectFunction × Sound limit f.upvalue_count f.chunk) fs

-- every function of the image
pub sound : (limit : ℕ) (stmts : Stmts) → After (λ fs _. AllSound limit fs) (c.compile_functions limit stmts)
sound limit stmts = layer.functions (Unit {0}) (P limit) tt (λ _ k. k) (λ _ k. k) limit (laws limit) (λ opened fs gs n ch h. h) stmts

-- ## The image's bytes

-- the same, for the check to read the list off
pub record ByteList (bs : List ℕ) : Type 0 where
  pub each : Bytes bs

infixl 65 ◌⊕◌
◌⊕◌ : {xs ys : List ℕ} → ByteList xs → ByteList ys → ByteList (xs ++ ys)
◌⊕◌ {xs} {ys} h k = record { each = append xs h.each }
  where
    append : (zs : List ℕ) → Bytes zs → Bytes (zs ++ ys)
    append [] h = k.each
    append (z ∷ zs) h = (h.0, append zs h.1)

marked : {bs : List ℕ} (a b : ℕ) → a < 256 → b < 256 → ByteList bs → ByteList (a ∷ b ∷ bs)
marked a b l m h = record { each = (l, (m, h.each)) }

number : (count n : ℕ) → ByteList (le count n)
unfolding le
number zero n = record { each = tt }
number (suc count) n = record { each = (omega arith, (number count (n / 256)).each) }

joined : {A : Type 0} (f : A → List ℕ) (xs : List A) → All (λ (x : A). ByteList (f x)) xs → ByteList (image.join f xs)
unfolding image.join
joined f [] h = record { each = tt }
joined f (x ∷ xs) h = h.0 ⊕ joined f xs h.1

every : {A : Type 0} (Q : A → Type 0) → ((x : A) → Q x) → (xs : List A) → All Q xs
every Q f [] = tt
every Q f (x ∷ xs) = (f x, every Q f xs)

constant_bytes : (v : Constant) → ByteList (image.constant_bytes v)
unfolding image.constant_bytes
constant_bytes (CN bits) = marked _ _ (omega arith) (omega arith) (number 8 bits)
constant_bytes (CS name) = marked _ _ (omega arith) (omega arith) (number 2 name)
constant_bytes (CF n) = marked _ _ (omega arith) (omega arith) (number 4 n)

run_bytes : (run : Run) → ByteList (image.run_bytes run)
unfolding image.run_bytes
run_bytes run = marked 0x52 0x55 (omega arith) (omega arith) (number 4 run.span.start) ⊕ number 4 run.span.end ⊕ number 1 run.count

function_bytes : (f : ObjectFunction) → Bytes f.chunk.ops → ByteList (image.function_bytes f)
unfolding image.function_bytes
function_bytes f h =
    marked 0x46 0x4E (omega arith) (omega arith) (number 2 f.name) ⊕ number 1 f.arity ⊕ number 2 f.upvalue_count
    ⊕ number 2 (length f.chunk.constants) ⊕ number 4 (length f.chunk.spans) ⊕ number 4 (length f.chunk.ops)
    ⊕ joined image.constant_bytes f.chunk.constants (every (λ (v : Constant). ByteList (image.constant_bytes v)) constant_bytes f.chunk.constants)
    ⊕ joined image.run_bytes f.chunk.spans (every (λ (run : Run). ByteList (image.run_bytes run)) run_bytes f.chunk.spans)
    ⊕ marked 0x43 0x44 (omega arith) (omega arith) (record { each = h })

image_bytes : (limit : ℕ) (fs : List ObjectFunction) → AllSound limit fs → ByteList (image.image_bytes fs)
unfolding image.image_bytes
image_bytes limit fs h =
    marked 0x49 0x4D (omega arith) (omega arith) (number 4 (length fs))
    ⊕ joined image.function_bytes fs
    (all_map (λ (f : ObjectFunction). List ObjectFunction × Sound limit f.upvalue_count f.chunk) (λ (f : ObjectFunction). ByteList (image.function_bytes f))
    (λ f x. function_bytes f x.1.bytes) fs h)

directory_bytes : (fs : List ObjectFunction) → ByteList (image.directory_bytes fs)
unfolding image.directory_bytes
directory_bytes fs =
    marked 0x44 0x58 (omega arith) (omega arith) (number 4 (length fs))
    ⊕ joined (le 4) (image.places 6 fs) (every (λ (place : ℕ). ByteList (le 4 place)) (number 4) (image.places 6 fs))

pub image_with : (directory : Bool) (limit : ℕ) (fs : List ObjectFunction) → AllSound limit fs → ByteList (image.image_with directory fs)
unfolding image.image_with
image_with true limit fs h = image_bytes limit fs h ⊕ directory_bytes fs
image_with false limit fs h = image_bytes limit fs h

pub zeros_after : {bs : List ℕ} (n : ℕ) → ByteList bs → ByteList (bs ++ replicate n 0)
zeros_after n h = h ⊕ record { each = zeros n }
  where
    zeros : (n : ℕ) → Bytes (replicate n 0)
    zeros zero = tt
    zeros (suc n) = (omega arith, zeros n)
