-- Where the bytes of a record stand, the walk goes to their end.
use mathlib.Core.Path.{◌≡◌, refl, sym, ap, ap₂, ◌∙◌, subst}
use mathlib.Core.List.{List, ◌∷◌, ◌++◌, append_assoc, []}
use Prim.Native.Nat.{ℕ, ◌+◌, ◌*◌, ◌/◌, ◌%◌, ◌≤◌, ◌<◌}
use native.Mathlib.Omega.{arith}
use lib.ListN.{length, get_or, drop, length-append, length-drop}
use lib.Seq.{get_or-drop, drop-drop, drop_at}
use Rattle.rules.specs.Base.{le}
use Rattle.rules.specs.Chunk.{Constant, CN, CS, CF, Run, ObjectFunction}
use Rattle.rules.specs.Image.{join, constant_bytes, run_bytes, function_bytes}
use Rattle.fields.specs.Words.{word16, word32, letters}
use Rattle.writer.specs.Put.{Counted}
use Rattle.writer.proofs.Padding.{length_run}
use Rattle.writer_directory.specs.Walk.{constant_size, constant_end, constants_end, record_end}
use Rattle.writer_directory.proofs.Ends.{constant_there, record_there}

-- these bytes stand there
pub record Stands (s : List ℕ) (at : ℕ) (bs : List ℕ) : Type 0 where
  pub rest : List ℕ
  pub is : drop at s ≡ bs ++ rest

module _ {s : List ℕ} {at : ℕ} where
  inside : {bs : List ℕ} → Stands s at bs → 0 < length bs → at + length bs ≤ length s
  inside {bs} h l = omega (arith, ap length h.is, length-append bs h.rest, length-drop at s)

  first : (a b : List ℕ) → Stands s at (a ++ b) → Stands s at a
  first a b h = record { rest = b ++ h.rest; is = h.is ∙ append_assoc a b h.rest }

  behind : (a b : List ℕ) → Stands s at (a ++ b) → (next : ℕ) → next ≡ at + length a → Stands s next b
  behind a b h next e = record {
    rest = h.rest;
    is = ap (λ (k : ℕ). drop k s) e ∙ sym (drop-drop (length a) at s) ∙ ap (drop (length a)) (h.is ∙ append_assoc a b h.rest)
        ∙ drop_at a (b ++ h.rest) (length a) refl;
  }

  byte : {bs : List ℕ} (h : Stands s at bs) (i : ℕ) → get_or s (at + i) 0 ≡ get_or (bs ++ h.rest) i 0
  byte h i = sym (get_or-drop at s i 0) ∙ ap (λ (l : List ℕ). get_or l i 0) h.is

  -- ## Fields

  first_byte : {a : ℕ} {bs : List ℕ} → Stands s at (a ∷ bs) → get_or s at 0 ≡ a
  first_byte h = ap (λ (k : ℕ). get_or s k 0) (none at) ∙ byte h 0
    where
      none : (k : ℕ) → k ≡ k + 0
      none k = omega arith

  letters_are : {a b : ℕ} {bs : List ℕ} → Stands s at (a ∷ b ∷ bs) → letters s at ≡ 256 * a + b
  unfolding letters
  letters_are h = ap₂ (λ (x y : ℕ). 256 * x + y) (first_byte h) (byte h 1)

  word16_is : (n : ℕ) (bs : List ℕ) → Stands s at (le 2 n ++ bs) → n < 65_536 → word16 s at ≡ n
  unfolding word16 le
  word16_is n bs h l = two n _ _ (first_byte h) (byte h 1) l
    where
      two : (n a b : ℕ) → a ≡ n % 256 → b ≡ n / 256 % 256 → n < 65_536 → a + 256 * b ≡ n
      two n a b p q l = omega arith

  word32_is : (n : ℕ) (bs : List ℕ) → Stands s at (le 4 n ++ bs) → n < 4_294_967_296 → word32 s at ≡ n
  unfolding word32 word16 le
  word32_is n bs h l = four n _ _ _ _ (first_byte h) (byte h 1) (byte h 2) (ap (λ (k : ℕ). get_or s k 0) (on at) ∙ byte h 3) l
    where
      on : (k : ℕ) → k + 2 + 1 ≡ k + 3
      on k = omega arith

      four : (n a b c d : ℕ) → a ≡ n % 256 → b ≡ n / 256 % 256 → c ≡ n / 256 / 256 % 256 → d ≡ n / 256 / 256 / 256 % 256 → n < 4_294_967_296
          → a + 256 * b + 65_536 * (c + 256 * d) ≡ n
      four n a b c d p q r t l = omega arith

-- ## Records

module _ {s : List ℕ} where
  marked : (a b : ℕ) {bs : List ℕ} {at : ℕ} → Stands s at (a ∷ b ∷ bs) → at + constant_size (256 * a + b) ≡ constant_end s at
  marked a b {bs} {at} h = ap (λ (mark : ℕ). at + constant_size mark) (sym (letters_are h)) ∙ constant_there s at (omega (arith, inside h (omega arith)))

  constant_ends : (value : Constant) {at : ℕ} → Stands s at (constant_bytes value) → constant_end s at ≡ at + length (constant_bytes value)
  unfolding constant_bytes le constant_size
  constant_ends (CN bits) h = sym (marked 0x43 0x4E h)
  constant_ends (CS name) h = sym (marked 0x43 0x53 h)
  constant_ends (CF number) h = sym (marked 0x43 0x46 h)

  constants_ends : (values : List Constant) {at : ℕ} → Stands s at (join constant_bytes values)
      → constants_end s (length values) at ≡ at + length (join constant_bytes values)
  unfolding join constants_end
  constants_ends [] {at} h = none at
    where
      none : (k : ℕ) → k ≡ k + 0
      none k = omega arith
  constants_ends (value ∷ values) {at} h =
      let e = constant_ends value (first (constant_bytes value) (join constant_bytes values) h) in
      let r = constants_ends values (behind (constant_bytes value) (join constant_bytes values) h (constant_end s at) e) in
      omega (arith, length-append (constant_bytes value) (join constant_bytes values))

runs_long : (runs : List Run) → length (join run_bytes runs) ≡ 11 * length runs
unfolding join
runs_long [] = omega arith
runs_long (run ∷ runs) = omega (arith, length-append (run_bytes run) (join run_bytes runs), length_run run, runs_long runs)

module _ (f : ObjectFunction) where
  abbrev constants : List ℕ
  constants = join constant_bytes f.chunk.constants

  abbrev runs : List ℕ
  runs = join run_bytes f.chunk.spans

  abbrev coded : List ℕ
  coded = 0x43 ∷ 0x44 ∷ f.chunk.ops

  -- what stands before the counts, and from each of them on
  opening : List ℕ
  opening = 0x46 ∷ 0x4E ∷ le 2 f.name ++ le 1 f.arity ++ le 2 f.upvalue_count

  abbrev from_code : List ℕ
  from_code = le 4 (length f.chunk.ops) ++ (constants ++ (runs ++ coded))

  abbrev from_runs : List ℕ
  from_runs = le 4 (length f.chunk.spans) ++ from_code

  abbrev from_constants : List ℕ
  from_constants = le 2 (length f.chunk.constants) ++ from_runs

  parts : function_bytes f ≡ opening ++ from_constants
  unfolding function_bytes le opening
  parts = rw (append_assoc constants runs coded)

  long : length (function_bytes f) ≡ 17 + (length constants + (length runs + (2 + length f.chunk.ops)))
  unfolding le opening
  long = ap length parts ∙ omega (arith, length-append constants (runs ++ coded), length-append runs coded)

  module _ {s : List ℕ} {at : ℕ} (counted : Counted f) (h : Stands s at (function_bytes f)) where
    at_constants : Stands s (at + 7) from_constants
    unfolding opening le
    at_constants = behind opening from_constants (subst (Stands s at) parts h) (at + 7) refl

    at_runs : Stands s (at + 9) from_runs
    unfolding le
    at_runs = behind (le 2 (length f.chunk.constants)) from_runs at_constants (at + 9) (omega arith)

    at_code : Stands s (at + 13) from_code
    unfolding le
    at_code = behind (le 4 (length f.chunk.spans)) from_code at_runs (at + 13) (omega arith)

    at_first : Stands s (at + 17) constants
    unfolding le
    at_first = first constants (runs ++ coded) (behind (le 4 (length f.chunk.ops)) (constants ++ (runs ++ coded)) at_code (at + 17) (omega arith))

    pub record_ends : record_end s at ≡ at + length (function_bytes f)
    record_ends =
        let c = word16_is _ _ at_constants counted.constants in
        let r = word32_is _ _ at_runs counted.runs in
        let b = word32_is _ _ at_code counted.code in
        let e = ap (λ (k : ℕ). constants_end s k (at + 17)) c ∙ constants_ends f.chunk.constants at_first in
        sym (record_there s at (omega (arith, inside h (omega (arith, long)), long))) ∙ omega (arith, c, r, b, e, long, runs_long f.chunk.spans)
