-- What it is to finish a function: it is put into the output, its level is left, and the function around makes a closure of it. What it is to begin
-- one, and to put it, is passed on.
pub use Rattle.stmt_opening.specs.Opening.{FunHead, Inside, FunctionOpenedAs, FunctionOpened}
unfoldable pub use Rattle.stmt_records.specs.Filed.{function_at}
pub use Rattle.stmt_records.specs.Filed.{Filed}
use Rattle.std.specs.Prelude.{◌≡◌, List, ◌∷◌, ◌++◌, ℕ, suc, ◌+◌, ◌*◌, ◌≤◌, get_or, [], Ok, Err}
use Rattle.rules.specs.declared.Span.{Span}
use Rattle.rules.specs.Chunk.{ObjectFunction}
use Rattle.rules.specs.Compiler.{ok, err}
use Rattle.state.specs.Layout.{image_at, start_of_code, end_of_code, depth_place, type_place, level_words}
use Rattle.steps.specs.View.{Mem, t_of, Rest, view, Agrees, Fit}
use Rattle.stmt_output_laws.specs.Parts.{close_function}
use Rattle.stmt_output_laws.specs.Output.{largest, Holds, more}
use Rattle.steps.specs.Why.{told, Step}

pub record Finished (class limit l : ℕ) (span : Span) (before : Mem) (out : List ℕ) (now : Mem) (out' : List ℕ) : Type 0 where
  pub function : ObjectFunction
  pub comes : (rest : Rest) → Agrees class before rest → close_function limit span (view before (suc l) rest) ≡ ok tt (view now l (more (function ∷ []) rest))
  pub agrees : (rest : Rest) → Agrees class before rest → Agrees class now (more (function ∷ []) rest)
  pub fit : Fit now l limit
  pub up : start_of_code (t_of before) (suc l) ≤ end_of_code (t_of now)
  pub under : (k o : ℕ) → k ≤ l → depth_place ≤ o → o ≤ type_place → get_or (t_of now) (k * level_words + o) 0 ≡ get_or (t_of before) (k * level_words + o) 0
  pub put : (functions : List ObjectFunction) → Holds (t_of before) out functions → Holds (t_of now) out' (functions ++ (function ∷ []))
  pub count : get_or (t_of now) image_at 0 ≡ get_or (t_of before) image_at 0 + 1
  pub bytes : get_or (t_of now) (image_at + 1) 0 ≤ get_or (t_of before) (image_at + 1) 0 + largest

abbrev pub FunctionClosedAs : (class limit l n : ℕ) → Span → (before : Mem) → (out : List ℕ) → (now : Mem) → (out' : List ℕ) → Step → Type 0
FunctionClosedAs class limit l n span before out now out' (Ok v) = Finished class limit l span before out now out' × (v ≡ n)
FunctionClosedAs class limit l n span before out now out' (Err x) = (rest : Rest) → Agrees class before rest → close_function limit span (view before (suc l) rest) ≡ err (told (t_of now) x)

pub record FunctionClosed (class limit l n : ℕ) (span : Span) (before : Mem) (out : List ℕ) (now : Mem) (out' : List ℕ) (r : Step) : Type 0 where
  pub does : FunctionClosedAs class limit l n span before out now out' r
