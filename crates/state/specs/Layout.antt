-- How the compiler's state lies in the lent areas: a table of words, code bytes, and three words for each run of a span.
-- The table has a level for each open function, the script's being level 0: its locals, upvalues and constants, a word each and their count behind
-- them, and a few words more. After the levels come the ends of code and runs, and two words of the image writer, which nothing here reads or changes.
use Rattle.std.specs.Prelude.{◌≡◌, List, ◌∷◌, ℕ, zero, suc, ◌+◌, ◌*◌, ◌-◌, ◌/◌, ◌%◌, ◌^◌, ◌≤◌, ◌<◌, length, get_or, eqb, ltb, if◌then◌else◌, []}
use Rattle.rules.specs.Chunk.{Chunk, Run, Constant, CN, CS, CF}
use Rattle.rules.specs.Compiler.{Local, Upvalue, CompilerCtx, FunctionType, Function, Initializer, Method, Script}

-- ## How large

-- the script, and the functions that may be open in one another: src/lib.rt has the same number in `Table`
abbrev pub levels : ℕ
levels = 17

-- no scope lies deeper
abbrev pub deepest : ℕ
deepest = 4096

-- the words of a level; src/lib.rt has this and the next as constants of `Table`. The locals start at 0
abbrev pub level_words : ℕ
level_words = 1024

abbrev pub local_count_place : ℕ
local_count_place = 256

abbrev pub upvalues_place : ℕ
upvalues_place = 257

abbrev pub upvalue_count_place : ℕ
upvalue_count_place = 513

abbrev pub constants_place : ℕ
constants_place = 514

abbrev pub constant_count_place : ℕ
constant_count_place = 770

-- the scope depth
abbrev pub depth_place : ℕ
depth_place = 771

-- where its code and its runs start
abbrev pub code_from_place : ℕ
code_from_place = 772

abbrev pub runs_from_place : ℕ
runs_from_place = 773

-- the function's own
abbrev pub name_place : ℕ
name_place = 774

abbrev pub arity_place : ℕ
arity_place = 775

abbrev pub type_place : ℕ
type_place = 776

-- the words of a level that have a meaning
abbrev pub level_used : ℕ
level_used = type_place + 1

-- the words after the levels: the end of the code, the end of the runs, and from there on the image writer's
abbrev pub code_end_at : ℕ
code_end_at = levels * level_words

abbrev pub runs_end_at : ℕ
runs_end_at = levels * level_words + 1

abbrev pub image_at : ℕ
image_at = levels * level_words + 2

abbrev pub table_words : ℕ
table_words = levels * level_words + 4

-- ## Lists of entries

module _ {A : Type 0} where
  -- f 0, .. , f (n - 1)
  unfoldable pub row : (ℕ → A) → ℕ → List A
  row f zero = []
  row f (suc n) = f 0 ∷ row (λ i. f (suc i)) n

  -- f (n - 1), .. , f 0
  unfoldable pub stack : (ℕ → A) → ℕ → List A
  stack f zero = []
  stack f (suc n) = f n ∷ stack f n

  -- the entries from word b on, as many as word c says, oldest first; newest first
  abbrev pub vec : (ℕ → A) → List ℕ → ℕ → ℕ → List A
  vec g t b c = row (λ i. g (get_or t (b + i) 0)) (get_or t c 0)

  abbrev pub pile : (ℕ → A) → List ℕ → ℕ → ℕ → List A
  pile g t b c = stack (λ i. g (get_or t (b + i) 0)) (get_or t c 0)

-- ## One entry is one word

-- a local: name, whether initialized, whether captured, depth
abbrev pub local_of : ℕ → Local
local_of w =
    record {
      name = w % 65536;
      depth = w / 65536 / 2 / 2;
      is_initialized = eqb (w / 65536 % 2) 1;
      is_captured = eqb (w / 65536 / 2 % 2) 1;
    }

abbrev pub upvalue_of : ℕ → Upvalue
upvalue_of w = record { idx = w % 256; is_local = eqb (w / 256) 1 }

-- a number's bits are below 2 ^ 63, then come names, then functions: two words are one constant where they are one word
abbrev pub constant_of : ℕ → Constant
constant_of w =
    if ltb w (2 ^ 63) then CN w
    else if ltb w (2 ^ 63 + 2 ^ 32) then CS (w - 2 ^ 63)
    else CF (w - (2 ^ 63 + 2 ^ 32))

unfoldable pub type_of : ℕ → FunctionType
type_of zero = Script
type_of (suc zero) = Function
type_of (suc (suc zero)) = Method
type_of (suc (suc (suc _))) = Initializer

-- a run is three words of the span area
abbrev pub run_at : List ℕ → ℕ → Run
run_at spans i =
    record {
      span = record { start = get_or spans (i * 3) 0; end = get_or spans (i * 3 + 1) 0 };
      count = get_or spans (i * 3 + 2) 0;
    }

-- ## A level

abbrev pub word : List ℕ → (level o : ℕ) → ℕ
word t l o = get_or t (l * level_words + o) 0

abbrev pub locals_of : List ℕ → ℕ → List Local
locals_of t l = pile local_of t (l * level_words) (l * level_words + local_count_place)

abbrev pub upvalues_of : List ℕ → ℕ → List Upvalue
upvalues_of t l = vec upvalue_of t (l * level_words + upvalues_place) (l * level_words + upvalue_count_place)

abbrev pub level_constants : List ℕ → ℕ → List Constant
level_constants t l = vec constant_of t (l * level_words + constants_place) (l * level_words + constant_count_place)

abbrev pub start_of_code : List ℕ → ℕ → ℕ
start_of_code t l = get_or t (l * level_words + code_from_place) 0

abbrev pub start_of_runs : List ℕ → ℕ → ℕ
start_of_runs t l = get_or t (l * level_words + runs_from_place) 0

abbrev pub end_of_code : List ℕ → ℕ
end_of_code t = get_or t code_end_at 0

abbrev pub end_of_runs : List ℕ → ℕ
end_of_runs t = get_or t runs_end_at 0

-- a level's code and runs, which end at `ce` and `re`
unfoldable pub chunk_at : (t code spans : List ℕ) → (level ce re : ℕ) → Chunk
chunk_at t code spans l ce re =
    record {
      ops = row (λ i. get_or code (start_of_code t l + i) 0) (ce - start_of_code t l);
      constants = level_constants t l;
      spans = row (λ i. run_at spans (start_of_runs t l + i)) (re - start_of_runs t l);
    }

unfoldable pub ctx_at : (t code spans : List ℕ) → (level ce re : ℕ) → CompilerCtx
ctx_at t code spans l ce re =
    record {
      name = get_or t (l * level_words + name_place) 0;
      arity = get_or t (l * level_words + arity_place) 0;
      type = type_of (get_or t (l * level_words + type_place) 0);
      chunk = chunk_at t code spans l ce re;
      locals = locals_of t l;
      upvalues = upvalues_of t l;
      scope_depth = get_or t (l * level_words + depth_place) 0;
    }

-- the contexts around a level: each one's code and runs end where those of the next begin
unfoldable pub parents_of : (t code spans : List ℕ) → (level : ℕ) → List CompilerCtx
parents_of t code spans zero = []
parents_of t code spans (suc l) = ctx_at t code spans l (start_of_code t (suc l)) (start_of_runs t (suc l)) ∷ parents_of t code spans l

-- ## What holds at all times

pub record Wf (t : List ℕ) : Type 0 where
  pub size : length t ≡ table_words
  pub few_locals : (k : ℕ) → k < levels → get_or t (k * level_words + local_count_place) 0 ≤ 256
  pub few_upvalues : (k : ℕ) → k < levels → get_or t (k * level_words + upvalue_count_place) 0 ≤ 256
  pub few_constants : (k : ℕ) → k < levels → get_or t (k * level_words + constant_count_place) 0 ≤ 256
  pub shallow : (k : ℕ) → k < levels → get_or t (k * level_words + depth_place) 0 ≤ deepest
  -- an upvalue's word is an index, and 256 more of it where it is a local of the function around
  pub pairs : (k o : ℕ) → k < levels → upvalues_place ≤ o → o < upvalues_place + get_or t (k * level_words + upvalue_count_place) 0 → get_or t (k * level_words + o) 0 < 512

-- the code and the runs of the open functions lie one after the other, within the limit
pub record Coded (t code spans : List ℕ) (l limit : ℕ) : Type 0 where
  pub room_code : limit ≤ length code
  pub room_runs : limit * 3 ≤ length spans
  pub within : end_of_code t ≤ limit
  pub fewer : end_of_runs t ≤ end_of_code t
  pub fewer_at : (k : ℕ) → k ≤ l → start_of_runs t k ≤ start_of_code t k
  pub from_zero : start_of_code t 0 ≡ 0
  pub top : start_of_code t l ≤ end_of_code t
  pub top_runs : start_of_runs t l ≤ end_of_runs t
  pub order : (k : ℕ) → k < l → start_of_code t k ≤ start_of_code t (suc k)
  pub order_runs : (k : ℕ) → k < l → start_of_runs t k ≤ start_of_runs t (suc k)
