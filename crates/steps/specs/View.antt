-- How the lent areas stand for the compiler's state of the rules, and what it is for a function over them to do what a step of the rules does.
use Rattle.std.specs.Prelude.{◌≡◌, Bool, true, false, ◌&&◌, List, ◌∷◌, ◌++◌, ℕ, suc, ◌+◌, ◌*◌, ◌-◌, ◌≤◌, ◌<◌, length, get_or, [], Result, Ok, Err}
use Rattle.rules.specs.declared.Span.{Span}
use Rattle.rules.specs.declared.Stopped.{Stopped}
use Rattle.rules.specs.Chunk.{ObjectFunction}
use Rattle.rules.specs.Compiler.{Upvalue as Captured}
use Rattle.rules.specs.Compiler.{emit_upvalues, Compiler, new, new_ctx, finish, end_ctx, ends_in_return, ok, err, Compile, ◌>>=◌, the, local_at, upvalue_at, global_named, resolve, code_length, begin_ctx, pop_locals}
use Rattle.state.specs.Layout.{levels, image_at, start_of_code, end_of_code, end_of_runs, ctx_at, parents_of, type_of, Wf, Coded, code_end_at, upvalue_of, upvalues_of, depth_place, code_from_place, type_place, level_words, local_count_place}
use Rattle.state.specs.Meaning.{Kept}
use Rattle.steps.specs.Why.{Step, code_full, told}
use Rattle.steps.specs.declared.Why.{Why}
use Rattle.steps.specs.declared.Work.{Work}
use Rattle.steps.specs.declared.Place.{Place}
use Rattle.steps.specs.declared.Place.TheVariants.{Local, Upvalue, Global}

-- ## The state

-- the three lent areas
pub data Mem : Type 0 where
  mem : (t code spans : List ℕ) → Mem

abbrev pub t_of : Mem → List ℕ
t_of (mem t code spans) = t

abbrev pub code_of : Mem → List ℕ
code_of (mem t code spans) = code

abbrev pub spans_of : Mem → List ℕ
spans_of (mem t code spans) = spans

-- what the lent areas hold
abbrev pub areas : Work → Mem
areas w = mem w.table.now w.code.now w.spans.now

-- the areas are still those that were lent, and as long, also where a step stops
abbrev pub SameAreas : (before now : Work) → Type 0
SameAreas before now = (now.table.ghost_name ≡ before.table.ghost_name) × (now.code.ghost_name ≡ before.code.ghost_name) × (now.spans.ghost_name ≡ before.spans.ghost_name)
    × (length now.table.now ≡ length before.table.now) × (length now.code.now ≡ length before.code.now) × (length now.spans.now ≡ length before.spans.now)

-- what no lent area holds word for word: the classes around the place, and the finished functions
pub record Rest : Type 0 where
  pub classes : List Bool
  pub functions : List ObjectFunction

unfoldable pub view : Mem → (level : ℕ) → Rest → Compiler
view (mem t code spans) l rest =
    record {
      ctx = ctx_at t code spans l (end_of_code t) (end_of_runs t);
      parents = parents_of t code spans l;
      class_ctx = rest.classes;
      functions = rest.functions;
    }

-- the innermost class as the code has it: none, without a superclass, with one
abbrev pub top_class : List Bool → ℕ
top_class [] = 0
top_class (false ∷ _) = 1
top_class (true ∷ _) = 2

-- what the code knows of the rest: the innermost class, and how many functions are finished
pub record Agrees (class : ℕ) (m : Mem) (rest : Rest) : Type 0 where
  pub innermost : top_class rest.classes ≡ class
  pub made : length rest.functions ≡ get_or (t_of m) image_at 0

-- ## What holds at all times

pub record Fit (m : Mem) (l limit : ℕ) : Type 0 where
  pub low : l < levels
  pub wf : Wf (t_of m)
  pub coded : Coded (t_of m) (code_of m) (spans_of m) l limit

-- how much code a level has where it is the innermost
unfoldable pub code_len : Mem → ℕ → ℕ
code_len (mem t code spans) l = end_of_code t - start_of_code t l

unfoldable pub depth_at : Mem → ℕ → ℕ
depth_at (mem t code spans) l = get_or t (l * level_words + depth_place) 0

-- ## A step

-- what a step makes of the scope depth, of the innermost class and of the rest, and whether it leaves the levels above and the image writer's words
-- alone, as all do that open no function. All steps but a few leave the three as they were
pub record Turn : Type 0 where
  pub depth : ℕ → ℕ
  pub class : ℕ → ℕ
  pub rest : Rest → Rest
  pub aloof : Bool

abbrev pub steady : Turn
steady = record { depth = λ d. d; class = λ c. c; rest = λ r. r; aloof = true }

abbrev pub deeper : Turn
deeper = record { depth = λ d. d + 1; class = λ c. c; rest = λ r. r; aloof = true }

abbrev pub shallower : Turn
shallower = record { depth = λ d. d - 1; class = λ c. c; rest = λ r. r; aloof = true }

infixl 6 ◌⨾◌
abbrev pub ◌⨾◌ : Turn → Turn → Turn
a ⨾ b = record { depth = λ d. b.depth (a.depth d); class = λ c. b.class (a.class c); rest = λ r. b.rest (a.rest r); aloof = a.aloof && b.aloof }

-- the areas after a step: they fit, no code is lost, and of the words that a later step needs none has changed
pub record Ahead (l limit : ℕ) (e : Turn) (before now : Mem) : Type 0 where
  pub fit : Fit now l limit
  pub up : code_len before l ≤ code_len now l
  pub deep : depth_at now l ≡ e.depth (depth_at before l)
  -- starts of code and runs, name, arity and type
  pub head : (o : ℕ) → code_from_place ≤ o → o ≤ type_place → get_or (t_of now) (l * level_words + o) 0 ≡ get_or (t_of before) (l * level_words + o) 0
  pub under : (k o : ℕ) → k < l → depth_place ≤ o → o ≤ type_place → get_or (t_of now) (k * level_words + o) 0 ≡ get_or (t_of before) (k * level_words + o) 0
  pub over : e.aloof ≡ true → (i : ℕ) → suc l * level_words ≤ i → i < code_end_at → get_or (t_of now) i 0 ≡ get_or (t_of before) i 0
  -- the image writer's words
  pub beyond : e.aloof ≡ true → (i : ℕ) → image_at ≤ i → get_or (t_of now) i 0 ≡ get_or (t_of before) i 0

-- m gave v
pub record Gave {A : Type 0} (class limit l : ℕ) (e : Turn) (m : Compile A) (v : A) (before now : Mem) : Type 0 where
  pub comes : (rest : Rest) → Agrees class before rest → m (view before l rest) ≡ ok v (view now l (e.rest rest))
  pub agrees : (rest : Rest) → Agrees class before rest → Agrees (e.class class) now (e.rest rest)
  pub ahead : Ahead l limit e before now

-- m refused
pub record Refused {A : Type 0} (class l : ℕ) (m : Compile A) (before : Mem) (x : Stopped) : Type 0 where
  pub refuses : (rest : Rest) → Agrees class before rest → m (view before l rest) ≡ err x

-- ## The contracts

-- a step did what m does. Where it went on its answer's value is n; where it stopped the table that it leaves has the function's name
abbrev pub DidAs : (class limit l n : ℕ) → Turn → Compile Unit → (before now : Mem) → Step → Type 0
DidAs class limit l n e m before now (Ok v) = Gave class limit l e m tt before now × (v ≡ n)
DidAs class limit l n e m before now (Err x) = Refused class l m before (told (t_of now) x)

pub record Did (class limit l n : ℕ) (e : Turn) (m : Compile Unit) (before now : Mem) (r : Step) : Type 0 where
  pub does : DidAs class limit l n e m before now r

-- the same of a step whose value is the place of an operand that is left open
abbrev pub OpenedAs : (class limit l : ℕ) → Turn → Compile ℕ → (before now : Mem) → Step → Type 0
OpenedAs class limit l e m before now (Ok v) = Gave class limit l e m v before now × (v + 2 ≤ code_len now l)
OpenedAs class limit l e m before now (Err x) = Refused class l m before (told (t_of now) x)

pub record Opened (class limit l : ℕ) (e : Turn) (m : Compile ℕ) (before now : Mem) (r : Step) : Type 0 where
  pub does : OpenedAs class limit l e m before now r

-- a question to the state: the areas stay
pub record Told {A : Type 0} (class l : ℕ) (m : Compile A) (v : A) (now : Mem) : Type 0 where
  pub says : (rest : Rest) → Agrees class now rest → m (view now l rest) ≡ ok v (view now l rest)

-- the length of a level's code, whatever the code is
pub record Measured (t : List ℕ) (l r : ℕ) : Type 0 where
  pub is : (code spans : List ℕ) → r ≡ code_len (mem t code spans) l
  pub says : (class : ℕ) (code spans : List ℕ) → Told class l code_length r (mem t code spans)

-- ## What a function over the table alone does: the code and the runs may be any that fit

pub record Changed (l : ℕ) (e : Turn) (m : Compile Unit) (t t' : List ℕ) : Type 0 where
  pub gives : {class limit : ℕ} (code spans : List ℕ) → Fit (mem t code spans) l limit → Gave class limit l e m tt (mem t code spans) (mem t' code spans)

pub record Tried (l n : ℕ) (e : Turn) (m : Compile Unit) (t t' : List ℕ) (r : Step) : Type 0 where
  pub gives : {class limit : ℕ} (code spans : List ℕ) → Fit (mem t code spans) l limit → Did class limit l n e m (mem t code spans) (mem t' code spans) r

pub record Asked {A : Type 0} (l : ℕ) (m : Compile A) (v : A) (t : List ℕ) : Type 0 where
  pub says : {class : ℕ} (code spans : List ℕ) → Told class l m v (mem t code spans)

-- where a name is found
abbrev pub PlacedAs : (l nm : ℕ) → Span → (t t' : List ℕ) → (class limit : ℕ) → (code spans : List ℕ) → Result Place Why → Type 0
PlacedAs l nm span t t' class limit code spans (Ok (Local i)) = Gave class limit l steady (resolve nm span) (local_at i) (mem t code spans) (mem t' code spans)
PlacedAs l nm span t t' class limit code spans (Ok (Upvalue i)) = Gave class limit l steady (resolve nm span) (upvalue_at i) (mem t code spans) (mem t' code spans)
PlacedAs l nm span t t' class limit code spans (Ok Global) = Gave class limit l steady (resolve nm span) global_named (mem t code spans) (mem t' code spans)
PlacedAs l nm span t t' class limit code spans (Err x) = Refused class l (resolve nm span) (mem t code spans) (told t' x)

pub record Placed (l nm : ℕ) (span : Span) (t t' : List ℕ) (r : Result Place Why) : Type 0 where
  pub gives : (class limit : ℕ) (code spans : List ℕ) → Fit (mem t code spans) l limit → PlacedAs l nm span t t' class limit code spans r

-- ## The end of a scope

-- what is left of it once the depth is less
abbrev pub pops : (limit : ℕ) → Span → Compile Unit
pops limit span = the (λ s. s.ctx.locals) >>= λ locals. pop_locals limit locals span

-- p is still to be done, and comes to the same from either state
pub record Passing (limit l : ℕ) (p : Compile Unit) (before now : Mem) : Type 0 where
  pub same : {class : ℕ} (rest : Rest) → Agrees class before rest → p (view before l rest) ≡ p (view now l rest)
  pub agrees : {class : ℕ} (rest : Rest) → Agrees class before rest → Agrees class now rest
  pub ahead : Ahead l limit steady before now

-- the newest local is gone, and one more may follow; or none was to go
abbrev pub PoppedAs : (limit l : ℕ) → Span → (before now : Mem) → Result Bool Why → Type 0
PoppedAs limit l span before now (Ok true) = Passing limit l (pops limit span) before now ×
    (get_or (t_of now) (l * level_words + local_count_place) 0 < get_or (t_of before) (l * level_words + local_count_place) 0)
PoppedAs limit l span before now (Ok false) = (class : ℕ) → Gave class limit l steady (pops limit span) tt before now
PoppedAs limit l span before now (Err x) = ((class : ℕ) → Refused class l (pops limit span) before (told (t_of now) x)) × (x ≡ code_full l)

pub record PoppedAt (limit l : ℕ) (span : Span) (before now : Mem) (r : Result Bool Why) : Type 0 where
  pub does : PoppedAs limit l span before now r

-- ## A context is begun: the level above is the innermost now

pub record Entered (l name arity kind : ℕ) (t t' : List ℕ) : Type 0 where
  pub fit : {limit : ℕ} (code spans : List ℕ) → Fit (mem t code spans) l limit → Fit (mem t' code spans) (suc l) limit
  pub comes : (code spans : List ℕ) (rest : Rest) → begin_ctx (new_ctx name arity (type_of kind) (depth_at (mem t code spans) l + 1))
      (view (mem t code spans) l rest) ≡ ok tt (view (mem t' code spans) (suc l) rest)
  pub deep : (code spans : List ℕ) → depth_at (mem t' code spans) (suc l) ≡ depth_at (mem t code spans) l + 1
  -- nothing of the levels below is changed, nor what lies after the levels
  pub kept : Kept (suc l * level_words) (suc l * level_words + level_words) t t'

-- ## What asks for no area

-- a test of the class alone
pub record Judged (class l n : ℕ) (m : Compile Unit) (r : Step) : Type 0 where
  pub gives : {limit : ℕ} (now : Mem) → Fit now l limit → Did class limit l n steady m now now r

-- whether the code ends in the byte of RETURN, whatever the runs are
pub record Ending (t code : List ℕ) (l : ℕ) (r : Bool) : Type 0 where
  pub is : (spans : List ℕ) (rest : Rest) → ends_in_return (view (mem t code spans) l rest).ctx.chunk.ops ≡ r

-- ## The start: the script's context, and nothing in it

pub record Started (t : List ℕ) : Type 0 where
  pub fit : (code spans : List ℕ) (limit : ℕ) → limit ≤ length code → limit * 3 ≤ length spans → Fit (mem t code spans) 0 limit
  pub is : (code spans : List ℕ) → view (mem t code spans) 0 (record { classes = []; functions = [] }) ≡ new
  pub image : (i : ℕ) → image_at ≤ i → get_or t i 0 ≡ 0

-- ## A context is left: the level below is the innermost again

-- the rest, with the level's function finished
abbrev pub finished : Mem → (level : ℕ) → Rest → Rest
finished m l rest = record { classes = rest.classes; functions = rest.functions ++ (finish (view m l rest).ctx ∷ []) }

pub record Left (l : ℕ) (t t' : List ℕ) : Type 0 where
  pub fit : {limit : ℕ} (code spans : List ℕ) → Fit (mem t code spans) l limit → Fit (mem t' code spans) (l - 1) limit
  pub comes : (code spans : List ℕ) (rest : Rest) → end_ctx (view (mem t code spans) l rest) ≡ ok (length rest.functions, upvalues_of t l)
      (view (mem t' code spans) (l - 1) (finished (mem t code spans) l rest))
  -- only the ends of code and runs are changed
  pub kept : Kept code_end_at image_at t t'

-- ## The pairs of a closure

-- p is to be done before, and q now
pub record Turning (limit l : ℕ) (p q : Compile Unit) (before now : Mem) : Type 0 where
  pub same : {class : ℕ} (rest : Rest) → Agrees class before rest → p (view before l rest) ≡ q (view now l rest)
  pub agrees : {class : ℕ} (rest : Rest) → Agrees class before rest → Agrees class now rest
  pub ahead : Ahead l limit steady before now

abbrev pub PairedAs : (limit l w : ℕ) → Span → (before now : Mem) → Step → Type 0
PairedAs limit l w span before now (Ok v) = (us : List Captured) → Turning limit l (emit_upvalues limit (upvalue_of w ∷ us) span) (emit_upvalues limit us span) before now
PairedAs limit l w span before now (Err x) = (us : List Captured) (class : ℕ) → Refused class l (emit_upvalues limit (upvalue_of w ∷ us) span) before (told (t_of now) x)

-- the first of the upvalues that are left is emitted
pub record PairedAt (limit l w : ℕ) (span : Span) (before now : Mem) (r : Step) : Type 0 where
  pub does : PairedAs limit l w span before now r
