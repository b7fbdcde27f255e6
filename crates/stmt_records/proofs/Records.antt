-- A function's record: how long it is at most, and that it is put behind the others and counted.
use mathlib.Core.Path.{◌≡◌, sym, ap, ap₂, ◌∙◌}
use mathlib.Core.List.{List, ◌∷◌, ◌++◌, append_assoc, append-nil, []}
use Prim.Native.Nat.{ℕ, suc, ◌+◌, ◌*◌, ◌-◌, ◌≤◌}
use native.Mathlib.Omega.{arith}
use native.Mathlib.Nat.{suc-mul}
use lib.ListN.{length, get_or, set, length-append, length-set, replicate}
use lib.Seq.{get_or-set_same, get_or-set_other}
use Rattle.rules.specs.Base.{le}
use Rattle.rules.specs.Limits.{max_code}
use Rattle.rules.specs.Chunk.{Run, ObjectFunction}
use Rattle.rules.specs.Image.{join, constant_bytes, run_bytes, function_bytes}
use Rattle.rules.specs.Compiler.{finish}
use Rattle.state.specs.Layout.{levels, image_at, constant_of, run_at, start_of_code, start_of_runs, end_of_code, end_of_runs, chunk_at, ctx_at, constants_place, constant_count_place, level_words}
use Rattle.state.proofs.Laws.{length_row, wf_plain}
use Rattle.writer.specs.Put.{padded, Put, Closed, Counted, AllCounted}
use Rattle.writer.proofs.Padding.{length_run, constant_short}
use Rattle.stmt_output_laws.specs.Output.{largest, Holds}
use Rattle.stmt_records.specs.Filed.{function_at, Filed}

-- ## How long

join_most : {A : Type 0} (f : A → List ℕ) (k : ℕ) → ((x : A) → length (f x) ≤ k) → (xs : List A) → length (join f xs) ≤ length xs * k
unfolding join
join_most f k h [] = omega arith
join_most f k h (x ∷ xs) = omega (arith, length-append (f x) (join f xs), h x, join_most f k h xs, suc-mul (length xs) k)

join_last : {A : Type 0} (f : A → List ℕ) (xs : List A) (x : A) → join f (xs ++ (x ∷ [])) ≡ join f xs ++ f x
unfolding join
join_last f [] x = append-nil (f x)
join_last f (y ∷ xs) x = ap (λ (l : List ℕ). f y ++ l) (join_last f xs x) ∙ sym (append_assoc (f y) (join f xs) (f x))

run_short : (run : Run) → length (run_bytes run) ≤ 11
run_short run = omega (arith, length_run run)

-- a record is 17 bytes, then constants and runs, and two bytes before the code
record_long : (f : ObjectFunction) → length (function_bytes f) ≡ 17 + length ((join constant_bytes f.chunk.constants ++ join run_bytes f.chunk.spans) ++ (0x43 ∷ 0x44 ∷ f.chunk.ops))
unfolding function_bytes le
record_long f = omega arith

in_all : (n c r b a s : ℕ) → n ≡ 17 + s → s ≡ a + (2 + b) → a ≡ c + r → c ≤ 256 * 10 → r ≤ max_code * 11 → b ≤ max_code → n ≤ largest
in_all n c r b a s e f g x y z = omega arith

pub record_short : (f : ObjectFunction) → length f.chunk.constants ≤ 256 → length f.chunk.spans ≤ max_code → length f.chunk.ops ≤ max_code → length (function_bytes f) ≤ largest
record_short f c r b =
    let jc = join constant_bytes f.chunk.constants in
    let jr = join run_bytes f.chunk.spans in
    in_all (length (function_bytes f)) (length jc) (length jr) (length f.chunk.ops) (length (jc ++ jr)) (length ((jc ++ jr) ++ (0x43 ∷ 0x44 ∷ f.chunk.ops)))
    (record_long f) (length-append (jc ++ jr) (0x43 ∷ 0x44 ∷ f.chunk.ops) ∙ ap (λ (k : ℕ). length (jc ++ jr) + k) (two (length f.chunk.ops))) (length-append jc jr)
    (omega (arith, join_most constant_bytes 10 constant_short f.chunk.constants)) (omega (arith, join_most run_bytes 11 run_short f.chunk.spans)) b
  where
    two : (n : ℕ) → suc (suc n) ≡ 2 + n
    two n = omega arith

-- what a level's function can have
parts_most : (t code spans : List ℕ) (l : ℕ) → Closed t code spans l → (length (function_at t code spans l).chunk.constants ≤ 256) ×
    (length (function_at t code spans l).chunk.spans ≤ max_code) × (length (function_at t code spans l).chunk.ops ≤ max_code)
unfolding function_at finish ctx_at chunk_at
parts_most t code spans l c = (
  omega (arith, length_row (λ i. constant_of (get_or t (l * level_words + constants_place + i) 0)) (get_or t (l * level_words + constant_count_place) 0), c.wf.few_constants l c.low),
  omega (arith, length_row (λ i. run_at spans (start_of_runs t l + i)) (end_of_runs t - start_of_runs t l), c.runs_few, c.code_small),
  omega (arith, length_row (λ i. get_or code (start_of_code t l + i) 0) (end_of_code t - start_of_code t l), c.code_small),
)

pub function_short : (t code spans : List ℕ) (l : ℕ) → Closed t code spans l → length (function_bytes (function_at t code spans l)) ≤ largest
function_short t code spans l c = let p = parts_most t code spans l c in record_short (function_at t code spans l) p.0 p.1 p.2

function_counted : (t code spans : List ℕ) (l : ℕ) → Closed t code spans l → Counted (function_at t code spans l)
function_counted t code spans l c = let p = parts_most t code spans l c in record { constants = omega arith; runs = omega arith; code = omega arith }

one_more : (fs : List ObjectFunction) {f : ObjectFunction} → AllCounted fs → Counted f → AllCounted (fs ++ (f ∷ []))
one_more [] h c = (c, tt)
one_more (g ∷ fs) h c = (h.0, one_more fs h.1 c)

-- ## It is put, and counted

six : (w n : ℕ) → w ≡ n → suc (suc (suc (suc (suc (suc n))))) ≡ 6 + w
six w n e = omega arith

less_six : (r w n : ℕ) → r ≡ 6 + w + n → r - 6 ≡ w + n
less_six r w n e = omega arith

module _ (l : ℕ) (t code spans out out' : List ℕ) (r : ℕ) (c : Closed t code spans l)
    (p : Put out out' (6 + get_or t (image_at + 1) 0) (function_bytes (finish (ctx_at t code spans l (end_of_code t) (end_of_runs t)))) r) where
  abbrev longer : List ℕ
  longer = set t (image_at + 1) (r - 6)

  abbrev counted : List ℕ
  counted = set longer image_at (get_or longer image_at 0 + 1)

  abbrev bytes : List ℕ
  bytes = function_bytes (function_at t code spans l)

  word_long : get_or counted (image_at + 1) 0 ≡ get_or t (image_at + 1) 0 + length bytes
  unfolding function_at
  word_long =
      get_or-set_other longer image_at (image_at + 1) (get_or longer image_at 0 + 1) 0 (omega arith) ∙ get_or-set_same t (image_at + 1) (r - 6) 0 (omega (arith, c.wf.size))
      ∙ less_six r (get_or t (image_at + 1) 0) (length bytes) p.next

  word_count : get_or counted image_at 0 ≡ get_or t image_at 0 + 1
  word_count =
      get_or-set_same longer image_at (get_or longer image_at 0 + 1) 0 (omega (arith, c.wf.size, length-set t (image_at + 1) (r - 6)))
      ∙ ap (λ (k : ℕ). k + 1) (get_or-set_other t (image_at + 1) image_at (r - 6) 0 (omega arith))

  put_behind : (functions : List ObjectFunction) → Holds t out functions → Holds counted out' (functions ++ (function_at t code spans l ∷ []))
  unfolding function_at
  put_behind functions h =
      let js : List ℕ = join function_bytes functions in
      let e : js ++ bytes ≡ join function_bytes (functions ++ (function_at t code spans l ∷ [])) = sym (join_last function_bytes functions (function_at t code spans l)) in
      record {
        bytes = p.holds (replicate 6 0 ++ js) (six (get_or t (image_at + 1) 0) (length js) h.long) h.bytes
            ∙ ap₂ padded (sym p.size) (append_assoc (replicate 6 0) js bytes ∙ ap (λ (x : List ℕ). replicate 6 0 ++ x) e);
        long = word_long ∙ ap (λ (k : ℕ). k + length bytes) h.long ∙ sym (length-append js bytes) ∙ ap length e;
        counted = one_more functions h.counted (function_counted t code spans l c);
      }

  pub filed : Filed l t code spans out counted out'
  filed = record {
    put = put_behind;
    count = word_count;
    bytes = omega (arith, word_long, function_short t code spans l c);
    kept = λ i h. get_or-set_other longer image_at i (get_or longer image_at 0 + 1) 0 (omega arith) ∙ get_or-set_other t (image_at + 1) i (r - 6) 0 (omega arith);
    wf = wf_plain longer levels 2 _ (omega arith) (λ a b. omega arith) (λ z. omega arith) (λ z. omega arith)
        (wf_plain t levels 3 _ (omega arith) (λ a b. omega arith) (λ z. omega arith) (λ z. omega arith) c.wf);
  }
