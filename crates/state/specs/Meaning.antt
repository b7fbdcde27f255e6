-- What each function of src/ answers and leaves, in the rules' own terms. Each record says which words it may have changed: every other is as it was,
-- the image writer's among them.
use Rattle.std.specs.Prelude.{◌≡◌, Bool, true, false, ◌&&◌, List, ◌∷◌, ℕ, suc, ◌+◌, ◌*◌, ◌-◌, ◌%◌, ◌≤◌, ◌<◌, length, get_or, ltb, Option, Some, None, Result, Ok, Err, ⊤}
use Rattle.rules.specs.declared.Span.{Span}
use Rattle.rules.specs.declared.Refusal.TheVariants.{AccessInsideInitializer, TooManyUpvalues}
use Rattle.rules.specs.Chunk.{Chunk, Run, same_span, write_u8, write_constant, Written, at_place, no_room}
use Rattle.rules.specs.Compiler.{Local, Upvalue, CompilerCtx, new_ctx, Found, at_slot, uninitialized, no_local, find_local, capture, Resolved, captured, nowhere, failed, add_upvalue, resolve_upvalue, declared_here, initialize}
use Rattle.state.specs.Layout.{levels, code_end_at, image_at, start_of_code, locals_of, constant_of, start_of_runs, end_of_code, end_of_runs, run_at, chunk_at, ctx_at, parents_of, type_of, Wf, Coded, upvalues_place, upvalue_count_place, constants_place, constant_count_place, depth_place, code_from_place, level_words, local_count_place}
use Rattle.state.specs.declared.Unready.{Unready}
use Rattle.state.specs.declared.Uncaptured.{Uncaptured}
use Rattle.state.specs.declared.Uncaptured.TheVariants as uncaptured
use Rattle.state.specs.declared.Full.{Full}
use Rattle.state.specs.declared.Undeclared.{Undeclared}
use Rattle.state.specs.declared.Undeclared.TheVariants as undeclared

-- t' is t but for the words from lo up to hi
pub record Kept (lo hi : ℕ) (t t' : List ℕ) : Type 0 where
  pub below : (i : ℕ) → i < lo → get_or t' i 0 ≡ get_or t i 0
  pub above : (i : ℕ) → hi ≤ i → get_or t' i 0 ≡ get_or t i 0

-- ## Scans

-- the scan for the topmost local of a name: its place
abbrev pub Topmost : (locals : List ℕ) → (nm : ℕ) → Option ℕ → Type 0
Topmost xs nm None = (j : ℕ) → j < length xs → get_or xs j 0 % 65536 ≡ nm → ⊥
Topmost xs nm (Some i) = (i < length xs) × ((j : ℕ) → i < j → j < length xs → get_or xs j 0 % 65536 ≡ nm → ⊥) × (get_or xs i 0 % 65536 ≡ nm)

-- none of the n words from base on is w
abbrev pub Without : List ℕ → (base n w : ℕ) → Type 0
Without t base n w = (j : ℕ) → j < n → get_or t (base + j) 0 ≡ w → ⊥

-- the scan for a word: the place of the first
abbrev pub First : (words : List ℕ) → (w : ℕ) → Option ℕ → Type 0
First xs w None = Without xs 0 (length xs) w
First xs w (Some i) = (i < length xs) × Without xs 0 i w × (get_or xs i 0 ≡ w)

-- ## Names

abbrev pub found : Result (Option ℕ) Unready → Found
found (Ok (Some i)) = at_slot i
found (Ok None) = no_local
found (Err _) = uninitialized

-- what resolving leaves of the locals: a mark, where one was asked for and a local is found
abbrev pub marked : Bool → Result (Option ℕ) Unready → ℕ → List Local → List Local
marked true (Ok (Some i)) nm ls = capture nm ls
marked true (Ok None) nm ls = ls
marked true (Err _) nm ls = ls
marked false r nm ls = ls

pub record Looked (t t' : List ℕ) (l nm : ℕ) (mark : Bool) (r : Result (Option ℕ) Unready) : Type 0 where
  pub answer : found r ≡ find_local nm (locals_of t l)
  pub locals : locals_of t' l ≡ marked mark r nm (locals_of t l)
  pub quiet : r ≡ Ok None → t' ≡ t
  pub unmarked : mark ≡ false → t' ≡ t
  pub kept : Kept (l * level_words) (l * level_words + local_count_place) t t'
  pub wf : Wf t'

-- an answer on upvalues, as the rules have it
abbrev pub up_of : Span → ℕ → Result (Option ℕ) Uncaptured → CompilerCtx → List CompilerCtx → Resolved
up_of span nm (Ok (Some i)) ctx parents = captured i ctx parents
up_of span nm (Ok None) ctx parents = nowhere
up_of span nm (Err uncaptured.Unready) ctx parents = failed (AccessInsideInitializer span nm)
up_of span nm (Err uncaptured.Full) ctx parents = failed (TooManyUpvalues span)

-- whatever the code is, and what is around
pub record Added (t t' : List ℕ) (l : ℕ) (u : Upvalue) (r : Result (Option ℕ) Uncaptured) : Type 0 where
  pub does : (span : Span) (nm : ℕ) (code spans : List ℕ) (ce re : ℕ) (above : List CompilerCtx) → up_of span nm r (ctx_at t' code spans l ce re) above ≡
      add_upvalue u span (ctx_at t code spans l ce re) above
  pub some : r ≡ Ok None → ⊥
  pub kept : Kept (l * level_words + upvalues_place) (l * level_words + constants_place) t t'
  pub wf : Wf t'

-- of the level and those around it only locals' marks and upvalues change
pub record Captured (t t' : List ℕ) (l nm : ℕ) (r : Result (Option ℕ) Uncaptured) : Type 0 where
  pub does : (span : Span) (code spans : List ℕ) (ce re : ℕ) → up_of span nm r (ctx_at t' code spans l ce re) (parents_of t' code spans l) ≡ resolve_upvalue nm
      span (ctx_at t code spans l ce re) (parents_of t code spans l)
  pub quiet : r ≡ Ok None → t' ≡ t
  pub kept : Kept 0 (l * level_words + constants_place) t t'
  pub rest : (k i : ℕ) → k ≤ l → constants_place ≤ i → i < level_words → get_or t' (k * level_words + i) 0 ≡ get_or t (k * level_words + i) 0
  pub wf : Wf t'

-- ## Code

-- the last run of those from `first` up to m grows by a byte of this span
abbrev pub grows : Span → Run → Bool
grows span run = same_span run.span span && ltb run.count 255

abbrev pub last_grows : (spans : List ℕ) → (first m : ℕ) → Span → Bool
last_grows spans first m span = ltb first m && grows span (run_at spans (m - 1))

-- the innermost function's chunk
abbrev pub top_chunk : (t code spans : List ℕ) → ℕ → Chunk
top_chunk t code spans l = chunk_at t code spans l (end_of_code t) (end_of_runs t)

abbrev pub WroteAs : (t code spans t' code' spans' : List ℕ) → (l limit byte : ℕ) → Span → Result ⊤ Full → Type 0
WroteAs t code spans t' code' spans' l limit byte span (Ok _) = (end_of_code t < limit) × (top_chunk t' code' spans' l ≡ write_u8 (top_chunk t code spans l) byte span)
WroteAs t code spans t' code' spans' l limit byte span (Err _) = limit ≤ end_of_code t

pub record Wrote (t code spans t' code' spans' : List ℕ) (l limit byte : ℕ) (span : Span) (r : Result ⊤ Full) : Type 0 where
  pub does : WroteAs t code spans t' code' spans' l limit byte span r
  pub code_kept : (i : ℕ) → i < end_of_code t → get_or code' i 0 ≡ get_or code i 0
  pub runs_kept : (i : ℕ) → i < start_of_runs t l * 3 → get_or spans' i 0 ≡ get_or spans i 0
  pub kept : Kept code_end_at image_at t t'
  pub coded : Coded t' code' spans' l limit
  pub wf : Wf t'

abbrev pub written_as : Result ℕ Full → Chunk → Written
written_as (Ok i) c = at_place i c
written_as (Err _) c = no_room

pub record Constants (t t' : List ℕ) (l w : ℕ) (r : Result ℕ Full) : Type 0 where
  pub does : (code spans : List ℕ) (ce re : ℕ) → written_as r (chunk_at t' code spans l ce re) ≡ write_constant (chunk_at t code spans l ce re) (constant_of w)
  pub kept : Kept (l * level_words + constants_place) (l * level_words + depth_place) t t'
  pub wf : Wf t'

-- ## Locals

abbrev pub DeclaredAs : (t t' : List ℕ) → (l nm : ℕ) → Result ⊤ Undeclared → Type 0
DeclaredAs t t' l nm (Err undeclared.Already) = declared_here (get_or t (l * level_words + depth_place) 0) nm (locals_of t l) ≡ true
DeclaredAs t t' l nm (Err undeclared.Full) = (declared_here (get_or t (l * level_words + depth_place) 0) nm (locals_of t l) ≡ false) × (256 ≤ length (locals_of t l))
DeclaredAs t t' l nm (Ok _) =
    (declared_here (get_or t (l * level_words + depth_place) 0) nm (locals_of t l) ≡ false)
    × (length (locals_of t l) < 256)
    × (locals_of t' l ≡ record { name = nm; depth = get_or t (l * level_words + depth_place) 0; is_initialized = false; is_captured = false } ∷ locals_of t l)

pub record DeclaredAt (t t' : List ℕ) (l nm : ℕ) (r : Result ⊤ Undeclared) : Type 0 where
  pub does : DeclaredAs t t' l nm r
  pub kept : Kept (l * level_words) (l * level_words + upvalues_place) t t'
  pub wf : Wf t'

pub record DefinedAt (t t' : List ℕ) (l : ℕ) : Type 0 where
  pub does : locals_of t' l ≡ initialize (locals_of t l)
  pub kept : Kept (l * level_words) (l * level_words + local_count_place) t t'
  pub wf : Wf t'

-- the newest local is gone
pub record Dropped (t t' : List ℕ) (l : ℕ) (newest : Local) : Type 0 where
  pub does : locals_of t l ≡ newest ∷ locals_of t' l
  pub kept : Kept (l * level_words + local_count_place) (l * level_words + upvalues_place) t t'
  pub fewer : get_or t' (l * level_words + local_count_place) 0 < get_or t (l * level_words + local_count_place) 0
  pub wf : Wf t'

-- ## Scopes and contexts

-- the scope depth is another
pub record Moved (t t' : List ℕ) (l depth : ℕ) : Type 0 where
  pub does : get_or t' (l * level_words + depth_place) 0 ≡ depth
  pub kept : Kept (l * level_words + depth_place) (l * level_words + code_from_place) t t'
  pub wf : Wf t'

-- code and runs end where the level's begin
pub record Closed (t t' : List ℕ) (l : ℕ) : Type 0 where
  pub code : end_of_code t' ≡ start_of_code t l
  pub runs : end_of_runs t' ≡ start_of_runs t l
  pub kept : Kept code_end_at image_at t t'
  pub wf : Wf t'

-- the context above level l, whatever the code and the runs are
pub record Began (t t' : List ℕ) (l name arity type : ℕ) : Type 0 where
  pub fresh : (code spans : List ℕ) → ctx_at t' code spans (suc l) (end_of_code t') (end_of_runs t') ≡ new_ctx name arity (type_of type) (get_or t (l * level_words + depth_place) 0 + 1)
  pub around : (code spans : List ℕ) → parents_of t' code spans (suc l) ≡ ctx_at t code spans l (end_of_code t) (end_of_runs t) ∷ parents_of t code spans l
  pub coded : (code spans : List ℕ) (limit : ℕ) → Coded t code spans l limit → Coded t' code spans (suc l) limit
  pub kept : Kept (suc l * level_words) (suc l * level_words + level_words) t t'
  pub wf : Wf t'

-- ## The start, whatever the table holds

-- a level with no locals, no upvalues and no constants, in no scope
pub record Empty (t : List ℕ) (l : ℕ) : Type 0 where
  pub locals : get_or t (l * level_words + local_count_place) 0 ≡ 0
  pub upvalues : get_or t (l * level_words + upvalue_count_place) 0 ≡ 0
  pub constants : get_or t (l * level_words + constant_count_place) 0 ≡ 0
  pub depth : get_or t (l * level_words + depth_place) 0 ≡ 0

pub record Emptied (t t' : List ℕ) (l : ℕ) : Type 0 where
  pub empty : Empty t' l
  pub kept : Kept (l * level_words) (l * level_words + level_words) t t'

-- no level has anything in it
pub record Blank (t : List ℕ) : Type 0 where
  pub empty : (k : ℕ) → k < levels → Empty t k
  pub wf : Wf t
