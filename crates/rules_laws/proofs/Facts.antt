-- What is to be shown of one function's chunk, so that it holds of every image: `ChunkLaws`. And what the laws may rest on: what the bytes after an
-- opcode are, how constants grow, what a closure's pairs are.
-- `P k opened fs n ch` is a fact of an open function: `ch` is its chunk, `n` how many variables it has captured so far, `fs` the functions finished
-- so far, `opened` those that were finished when it was opened, and `k` says which jumps wait and which places may be gone back to.
use mathlib.Core.Path.{◌≡◌, refl, ap, subst}
use mathlib.Core.Bool.{Bool, true, false}
use mathlib.Core.Option.{Option, none, some}
use mathlib.Core.List.{List, ◌∷◌, ◌++◌, []}
use Prim.Native.Nat.{ℕ, zero, suc, ◌+◌, ◌-◌, ◌*◌, ◌/◌, ◌%◌, ◌≤◌, ◌<◌}
use native.Mathlib.Omega.{arith}
use lib.ListN.{length, get_or, get_elem?}
use lib.Dec.{T, ltb, eqb, eqb→eq, lt→ltb}
use Rattle.rules.specs.Base.{position, one_on}
use Rattle.std.specs.Prelude.{if◌then◌else◌}
use Rattle.rules.specs.declared.Span.{Span}
use Rattle.rules.specs.Op as op
use Rattle.rules.specs.Op.{Operands, Plain, Byte, Captured, Value, Text, Invoke, Ahead, Back, Closure, operands_of}
use Rattle.rules.specs.Chunk.{Chunk, Constant, CN, CS, CF, empty_chunk, write_u8, ObjectFunction, same_constant}
use Rattle.rules.specs.Division.{pairs_fit}
use Rattle.rules.specs.Compiler as c
use Rattle.rules.specs.Compiler.{CompilerCtx, at_slot, uninitialized, Upvalue, Local}
use Rattle.rules_laws.proofs.Tests.{both}

-- ## Lists

abbrev pub All : {A : Type 0} → (A → Type 0) → List A → Type 0
All P [] = Unit {0}
All P (x ∷ xs) = P x × All P xs

pub all_map : {A : Type 0} (P Q : A → Type 0) → ((x : A) → P x → Q x) → (xs : List A) → All P xs → All Q xs
all_map P Q f [] h = tt
all_map P Q f (x ∷ xs) h = (f x h.0, all_map P Q f xs h.1)

pub all_end : {A : Type 0} (P : A → Type 0) (xs : List A) (x : A) → All P xs → P x → All P (xs ++ (x ∷ []))
all_end P [] x h p = (p, tt)
all_end P (y ∷ ys) x h p = (h.0, all_end P ys x h.1 p)

-- what stands at a place still does behind which more is put
pub at_left : {A : Type 0} (xs ys : List A) (i : ℕ) (x : A) → get_elem? xs i ≡ some x → get_elem? (xs ++ ys) i ≡ some x
at_left [] ys i x e = let z : ◌≡◌ {A = ℕ} 0 1 = cc in absurd (omega arith)
at_left (y ∷ xs) ys zero x e = e
at_left (y ∷ xs) ys (suc i) x e = at_left xs ys i x e

pub at_end : {A : Type 0} (xs : List A) (x : A) → get_elem? (xs ++ (x ∷ [])) (length xs) ≡ some x
at_end [] x = refl
at_end (y ∷ xs) x = at_end xs x

pub all_at : {A : Type 0} (P : A → Type 0) (xs : List A) (i : ℕ) (x : A) → All P xs → get_elem? xs i ≡ some x → P x
all_at P [] i x h e = let z : ◌≡◌ {A = ℕ} 0 1 = cc in absurd (omega arith)
all_at {A} P (y ∷ xs) zero x h e = let z : y ≡ x = cc in subst P z h.0
all_at P (y ∷ xs) (suc i) x h e = all_at P xs i x h.1 e

-- where a search stops: the place is there, and what stands there passes the test
pub record Stopped {A : Type 0} (p : A → Bool) (xs : List A) (i : ℕ) : Type 0 where
  pub what : A
  pub there : get_elem? xs i ≡ some what
  pub passes : p what ≡ true
  pub inside : i < length xs

pub further : {A : Type 0} (p : A → Bool) (x : A) (xs : List A) (i : ℕ) → Stopped p xs i → Stopped p (x ∷ xs) (suc i)
further p x xs i h = record { what = h.what; there = h.there; passes = h.passes; inside = omega (arith, h.inside) }

pub stopped : {A : Type 0} (p : A → Bool) (xs : List A) (i : ℕ) → position p xs ≡ some i → Stopped p xs i
unfolding position one_on
stopped p [] i e = let z : ◌≡◌ {A = ℕ} 0 1 = cc in absurd (omega arith)
stopped {A} p (x ∷ xs) i e = by_test (p x) refl (position p xs) refl (λ j e'. stopped p xs j e') e
  where
    by_test : (b : Bool) → p x ≡ b → (r : Option ℕ) → position p xs ≡ r → ((j : ℕ) → position p xs ≡ some j → Stopped p xs j) →
        (if b then some 0 else one_on r) ≡ some i → Stopped p (x ∷ xs) i
    by_test true t r e₁ ih e₂ =
        let z : 0 ≡ i = cc in
        subst (λ (j : ℕ). Stopped p (x ∷ xs) j) z (record { what = x; there = refl; passes = t; inside = omega arith })
    by_test false t none e₁ ih e₂ = let z : ◌≡◌ {A = ℕ} 0 1 = cc in absurd (omega arith)
    by_test false t (some j) e₁ ih e₂ =
        let z : suc j ≡ i = cc in
        subst (λ (j : ℕ). Stopped p (x ∷ xs) j) z (further p x xs j (ih j e₁))

pub eqb_eq : (m n : ℕ) → eqb m n ≡ true → m ≡ n
eqb_eq m n e = eqb→eq m n (rw e tt)

-- constants that pass the test are equal
pub same_eq : (a b : Constant) → same_constant a b ≡ true → a ≡ b
unfolding same_constant
same_eq (CN a) (CN b) e = ap CN (eqb_eq a b e)
same_eq (CN a) (CS b) e = let z : ◌≡◌ {A = ℕ} 0 1 = cc in absurd (omega arith)
same_eq (CN a) (CF b) e = let z : ◌≡◌ {A = ℕ} 0 1 = cc in absurd (omega arith)
same_eq (CS a) (CN b) e = let z : ◌≡◌ {A = ℕ} 0 1 = cc in absurd (omega arith)
same_eq (CS a) (CS b) e = ap CS (eqb_eq a b e)
same_eq (CS a) (CF b) e = let z : ◌≡◌ {A = ℕ} 0 1 = cc in absurd (omega arith)
same_eq (CF a) (CN b) e = let z : ◌≡◌ {A = ℕ} 0 1 = cc in absurd (omega arith)
same_eq (CF a) (CS b) e = let z : ◌≡◌ {A = ℕ} 0 1 = cc in absurd (omega arith)
same_eq (CF a) (CF b) e = ap CF (eqb_eq a b e)

-- ## Chunks

abbrev pub with_constants : Chunk → List Constant → Chunk
with_constants ch cs = record { ops = ch.ops; constants = cs; spans = ch.spans }

abbrev pub no_code : Chunk
no_code = empty_chunk

abbrev pub with_ops : Chunk → List ℕ → Chunk
with_ops ch ops = record { ops = ops; constants = ch.constants; spans = ch.spans }

abbrev pub write_all : Chunk → List ℕ → Span → Chunk
write_all ch [] span = ch
write_all ch (b ∷ bs) span = write_all (write_u8 ch b span) bs span

pub data IsValue : Constant → Type 0 where
  a_number : {bits : ℕ} → IsValue (CN bits)
  a_string : {name : ℕ} → IsValue (CS name)

-- the constants as they were, or one more, which is equal to none of them
pub data Grown (Q : Constant → Type 0) (cs : List Constant) : List Constant → Type 0 where
  as_before : Grown Q cs cs
  one_more : (value : Constant) → Q value → position (same_constant value) cs ≡ none → length cs < 256 → Grown Q cs (cs ++ (value ∷ []))

pub grown_map : {Q R : Constant → Type 0} {cs ds : List Constant} → ((v : Constant) → Q v → R v) → Grown Q cs ds → Grown R cs ds
grown_map f as_before = as_before
grown_map f (one_more v h e l) = one_more v (f v h) e l

pub record Wrote (cs : List Constant) (value : Constant) (place : ℕ) (cs' : List Constant) : Type 0 where
  pub grown : Grown (λ v. v ≡ value) cs cs'
  pub there : get_elem? cs' place ≡ some value

-- ## What the bytes after an opcode are, by its kind; where a jump lands is not said here

pub data Form (fs : List ObjectFunction) (cs : List Constant) (n : ℕ) : Operands → List ℕ → Type 0 where
  plain : Form fs cs n Plain []
  byte : {b : ℕ} → b < 256 → Form fs cs n Byte (b ∷ [])
  captured_at : {i : ℕ} → i < n → i < 256 → Form fs cs n Captured (i ∷ [])
  value_at : {place : ℕ} {v : Constant} → get_elem? cs place ≡ some v → IsValue v → Form fs cs n Value (place ∷ [])
  text_at : {place name : ℕ} → get_elem? cs place ≡ some (CS name) → Form fs cs n Text (place ∷ [])
  invoke : {place name count : ℕ} → get_elem? cs place ≡ some (CS name) → count < 256 → Form fs cs n Invoke (place ∷ count ∷ [])
  ahead : {a b : ℕ} → Form fs cs n Ahead (a ∷ b ∷ [])
  back : {a b : ℕ} → Form fs cs n Back (a ∷ b ∷ [])
  closure : {place number : ℕ} {f : ObjectFunction} {pairs : List ℕ} → get_elem? cs place ≡ some (CF number) → get_elem? fs number ≡ some f →
      length pairs ≡ 2 * f.upvalue_count → T (pairs_fit n pairs) → Form fs cs n Closure (place ∷ pairs)

-- a kind that neither jumps nor makes a closure
pub data Still : Operands → Type 0 where
  still_plain : Still Plain
  still_byte : Still Byte
  still_captured : Still Captured
  still_value : Still Value
  still_text : Still Text
  still_invoke : Still Invoke

-- ## Captured variables, and the pairs of a closure

-- what a function may capture where the one around it has captured `n` variables
abbrev pub WithinIf : ℕ → Bool → ℕ → Type 0
WithinIf n true idx = Unit {0}
WithinIf n false idx = idx < n

abbrev pub Within : ℕ → Upvalue → Type 0
Within n u = WithinIf n u.is_local u.idx

pub within_more : (m n : ℕ) → m ≤ n → (u : Upvalue) → Within m u → Within n u
within_more m n l u h = by_local u.is_local h
  where
    by_local : (b : Bool) → WithinIf m b u.idx → WithinIf n b u.idx
    by_local true h = tt
    by_local false h = omega arith

abbrev pub pairs : List Upvalue → List ℕ
pairs [] = []
pairs (u ∷ us) = (if u.is_local then 1 else 0) ∷ u.idx ∷ pairs us

pub length_pairs : (us : List Upvalue) → length (pairs us) ≡ 2 * length us
length_pairs [] = refl
length_pairs (u ∷ us) = omega (arith, length_pairs us)

pub pairs_within : (n : ℕ) (us : List Upvalue) → All (Within n) us → T (pairs_fit n (pairs us))
unfolding pairs_fit
pairs_within n [] h = tt
pairs_within n (u ∷ us) h = by_local u.is_local h.0 (pairs_within n us h.1)
  where
    by_local : (b : Bool) → WithinIf n b u.idx → T (pairs_fit n (pairs us)) → T (pairs_fit n ((if b then 1 else 0) ∷ u.idx ∷ pairs us))
    by_local true w t = t
    by_local false w t = both (ltb u.idx n) (pairs_fit n (pairs us)) (lt→ltb u.idx n w) t

-- all a byte can say
abbrev pub Bytes : List ℕ → Type 0
Bytes bs = All (λ (b : ℕ). b < 256) bs

-- 0 stands past the end
pub get_or_small : (bs : List ℕ) (at : ℕ) → Bytes bs → get_or bs at 0 < 256
get_or_small [] at h = omega arith
get_or_small (b ∷ bs) zero h = h.0
get_or_small (b ∷ bs) (suc at) h = get_or_small bs at h.1

pub pairs_bytes : (us : List Upvalue) → All (λ (u : Upvalue). u.idx < 256) us → Bytes (pairs us)
pairs_bytes [] h = tt
pairs_bytes (u ∷ us) h = (by_local u.is_local, (h.0, pairs_bytes us h.1))
  where
    by_local : (b : Bool) → (if b then 1 else 0) < 256
    by_local true = omega arith
    by_local false = omega arith

-- slots and places of captured variables are bytes
pub record Small (x : CompilerCtx) : Type 0 where
  pub locals : length x.locals ≤ 256
  pub upvalues : length x.upvalues ≤ 256
  pub idxs : All (λ (u : Upvalue). u.idx < 256) x.upvalues

pub slot_inside : (name : ℕ) (ls : List Local) (slot : ℕ) → c.find_local name ls ≡ at_slot slot → slot < length ls
unfolding c.find_local
slot_inside name [] slot e = let z : ◌≡◌ {A = ℕ} 0 1 = cc in absurd (omega arith)
slot_inside name (x ∷ xs) slot e = by_name (eqb x.name name) x.is_initialized (λ e'. slot_inside name xs slot e') e
  where
    by_name : (a b : Bool) → (c.find_local name xs ≡ at_slot slot → slot < length xs) →
        (if a then (if b then at_slot (length xs) else uninitialized) else c.find_local name xs) ≡ at_slot slot → slot < suc (length xs)
    by_name true true ih e = let z : length xs ≡ slot = cc in omega arith
    by_name true false ih e = let z : ◌≡◌ {A = ℕ} 0 1 = cc in absurd (omega arith)
    by_name false b ih e = omega (arith, ih e)

pub capture_length : (name : ℕ) (ls : List Local) → length (c.capture name ls) ≡ length ls
unfolding c.capture
capture_length name [] = refl
capture_length name (x ∷ xs) = by_name (eqb x.name name) (capture_length name xs)
  where
    by_name : (a : Bool) → length (c.capture name xs) ≡ length xs →
        length (if a then (record { name = x.name; depth = x.depth; is_initialized = x.is_initialized; is_captured = true } ∷ xs) else (x ∷ c.capture name xs))
        ≡ suc (length xs)
    by_name true ih = refl
    by_name false ih = ap suc ih

pub initialize_length : (ls : List Local) → length (c.initialize ls) ≡ length ls
unfolding c.initialize
initialize_length [] = refl
initialize_length (x ∷ xs) = refl

-- each open function's captured variables against the function around it
abbrev pub Nested : List Upvalue → List CompilerCtx → Type 0
Nested us [] = Unit {0}
Nested us (p ∷ ps) = All (Within (length p.upvalues)) us × Nested p.upvalues ps

-- ## The laws to be shown of one function's chunk

-- a jump that waits, and a loop from the code's end `size` to `at`
abbrev pub jump_bytes : ℕ → List ℕ
jump_bytes b = b ∷ 255 ∷ 255 ∷ []

abbrev pub loop_bytes : (size at : ℕ) → List ℕ
loop_bytes size at = op.LOOP ∷ (size + 3 - at) % 256 ∷ (size + 3 - at) / 256 ∷ []

abbrev pub Fact : Type 1
Fact = (opened fs : List ObjectFunction) → ℕ → Chunk → Type 0

pub record ChunkLaws (limit : ℕ) (K : Type 0) (P : K → Fact) (start : K) (waits backs : ℕ → K → K) : Type 0 where
  pub empty : (fs : List ObjectFunction) → P start fs fs 0 empty_chunk
  pub captures : (k : K) (opened fs : List ObjectFunction) (m n : ℕ) (ch : Chunk) → m ≤ n → n ≤ 256 → P k opened fs m ch → P k opened fs n ch
  -- a whole instruction that neither jumps nor makes a closure, with the constant that it may have added
  pub writes : (kind : Operands) → Still kind →
      (k : K) (opened fs : List ObjectFunction) (n : ℕ) (ch : Chunk) (cs : List Constant) (b : ℕ) (bs : List ℕ) (span : Span) →
      operands_of b ≡ some kind → Grown IsValue ch.constants cs → Form fs cs n kind bs → length (write_all (with_constants ch cs) (b ∷ bs) span).ops ≤ limit →
      P k opened fs n ch → P k opened fs n (write_all (with_constants ch cs) (b ∷ bs) span)
  -- `f` was opened when `fs` were finished, and is finished now, after `gs`: the function around it makes a closure of it
  pub closes : (k : K) (opened fs gs : List ObjectFunction) (f : ObjectFunction) (n : ℕ) (ch : Chunk) (place : ℕ) (cs : List Constant) (ps : List ℕ) (span : Span) →
      Wrote ch.constants (CF (length (fs ++ gs))) place cs → length ps ≡ 2 * f.upvalue_count → T (pairs_fit n ps) → Bytes ps →
      length (write_all (with_constants ch cs) (op.CLOSURE ∷ place ∷ ps) span).ops ≤ limit →
      P start fs (fs ++ gs) f.upvalue_count f.chunk → P k opened fs n ch →
      P k opened ((fs ++ gs) ++ (f ∷ [])) n (write_all (with_constants ch cs) (op.CLOSURE ∷ place ∷ ps) span)
  pub jumps : (k : K) (opened fs : List ObjectFunction) (n : ℕ) (ch : Chunk) (b : ℕ) (span : Span) → operands_of b ≡ some Ahead → length (write_all ch (jump_bytes b) span).ops ≤ limit →
      P k opened fs n ch → P (waits (length ch.ops + 1) k) opened fs n (write_all ch (jump_bytes b) span)
  pub patches : (k : K) (opened fs : List ObjectFunction) (n : ℕ) (ch : Chunk) (at : ℕ) → length ch.ops - 2 - at ≤ 65_535 →
      P (waits at k) opened fs n ch → P k opened fs n (with_ops ch (c.set_u16 ch.ops at (length ch.ops - 2 - at)))
  pub marks : (k : K) (opened fs : List ObjectFunction) (n : ℕ) (ch : Chunk) → P k opened fs n ch → P (backs (length ch.ops) k) opened fs n ch
  pub loops : (k : K) (opened fs : List ObjectFunction) (n : ℕ) (ch : Chunk) (at : ℕ) (span : Span) → length ch.ops + 3 - at ≤ 65_535 →
      length (write_all ch (loop_bytes (length ch.ops) at) span).ops ≤ limit → P (backs at k) opened fs n ch → P k opened fs n (write_all ch (loop_bytes (length ch.ops) at) span)
  pub swap_waits : (i j : ℕ) (k : K) (opened fs : List ObjectFunction) (n : ℕ) (ch : Chunk) →
      P (waits i (waits j k)) opened fs n ch → P (waits j (waits i k)) opened fs n ch
  pub swap_backs : (i j : ℕ) (k : K) (opened fs : List ObjectFunction) (n : ℕ) (ch : Chunk) →
      P (waits i (backs j k)) opened fs n ch → P (backs j (waits i k)) opened fs n ch
