-- What it is to put a function into the output.
use Rattle.std.specs.Prelude.{◌≡◌, List, ◌∷◌, ◌++◌, ℕ, ◌+◌, ◌≤◌, ◌<◌, get_or, []}
use Rattle.rules.specs.Chunk.{ObjectFunction}
use Rattle.rules.specs.Compiler.{finish}
use Rattle.state.specs.Layout.{image_at, end_of_code, end_of_runs, ctx_at, Wf}
use Rattle.stmt_output_laws.specs.Output.{largest, Holds}

-- the function that stands at a level
unfoldable pub function_at : (t code spans : List ℕ) → (level : ℕ) → ObjectFunction
function_at t code spans l = finish (ctx_at t code spans l (end_of_code t) (end_of_runs t))

-- it is put behind the others, and counted
pub record Filed (l : ℕ) (t code spans out t' out' : List ℕ) : Type 0 where
  pub put : (functions : List ObjectFunction) → Holds t out functions → Holds t' out' (functions ++ (function_at t code spans l ∷ []))
  pub count : get_or t' image_at 0 ≡ get_or t image_at 0 + 1
  pub bytes : get_or t' (image_at + 1) 0 ≤ get_or t (image_at + 1) 0 + largest
  pub kept : (i : ℕ) → i < image_at → get_or t' i 0 ≡ get_or t i 0
  pub wf : Wf t'
