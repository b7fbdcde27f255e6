-- The whole, cut in parts: the script's statements, the output without its header, the header, and what is answered.
use Rattle.std.specs.Prelude.{◌≡◌, List, ℕ, ◌+◌, ◌*◌, ◌/◌, ◌≤◌, min, length, get_or, replicate, Result, Ok, Err}
use Rattle.rules.specs.Limits.{first_limits, max_tree, max_code}
use Rattle.rules.specs.Answer.{NO_SPAN}
use Rattle.rules.specs.Tree.{Stmts}
use Rattle.rules.specs.Reader.{Read, got}
use Rattle.rules.specs.Chunk.{ObjectFunction}
use Rattle.rules.specs.Op as op
use Rattle.rules.specs.Compiler.{Compile, ◌>>◌, emit_op, compile_functions}
use Rattle.rules.specs.Entry.{Lent, Compiled, functions_are, refused, from_outcome, leaves, write_out}
use Rattle.state.specs.Layout.{image_at}
use Rattle.steps.specs.View.{Started}
use Rattle.steps.specs.Why.{told, Step}
use Rattle.entry_parts.specs.Ends.{answer_of, output_of}
use Rattle.rules.specs.declared.Stopped.{Stopped}
use Rattle.stmt_output_laws.specs.Output.{stmts_at, Holds}

-- ## What is lent

-- the least of the code bytes, a third of the span words, and 262,144
abbrev pub limit_of : (code spans : List ℕ) → ℕ
limit_of code spans = min (min (length code) (length spans / 3)) max_code

-- ## The script

abbrev pub rows_at : (tree : List ℕ) → (count at : ℕ) → Read Stmts
rows_at tree count at = stmts_at tree count first_limits.depth 0 at

-- its statements are a row that ends where the file does
pub record Rows (tree : List ℕ) (count at : ℕ) : Type 0 where
  pub short : length tree ≤ max_tree
  pub stmts : Stmts
  pub is : rows_at tree count at ≡ got stmts (length tree)

-- the areas before it is compiled
pub record Clean (t code spans out : List ℕ) (limit : ℕ) : Type 0 where
  pub started : Started t
  pub code_room : limit ≤ length code
  pub runs_room : limit * 3 ≤ length spans
  pub small : limit ≤ max_code
  pub clear : out ≡ replicate (length out) 0

-- what it ends with
abbrev pub script_end : (limit : ℕ) → Compile Unit
script_end limit = emit_op limit op.NIL NO_SPAN >> emit_op limit op.RETURN NO_SPAN

-- The functions' records are in the output as far as there is room, and only the header is missing; n is how long the image is
pub record Recorded (made : Compiled) (t out : List ℕ) (n : ℕ) : Type 0 where
  pub functions : List ObjectFunction
  pub is : made ≡ functions_are functions
  pub holds : Holds t out functions
  pub count : get_or t image_at 0 ≡ length functions
  pub long : n ≡ 6 + get_or t (image_at + 1) 0
  -- no sum is too large, with a directory behind it
  pub small : n + 6 + 4 * get_or t image_at 0 ≤ 1152921504606846976

abbrev pub ScriptedAs : Compiled → (t out : List ℕ) → Step → Type 0
ScriptedAs made t out (Ok n) = Recorded made t out n
ScriptedAs made t out (Err x) = made ≡ refused (told t x)

pub record Scripted (limit : ℕ) (rows : Read Stmts) (end : ℕ) (t out : List ℕ) (r : Step) : Type 0 where
  pub did : (stmts : Stmts) → rows ≡ got stmts end → ScriptedAs (from_outcome (compile_functions limit stmts)) t out r

-- ## What is answered, and what the output holds in the end: after a refusal it is still to be cleared

pub record Written (options : ℕ) (made : Compiled) (out : List ℕ) (r : Result ℕ Stopped) : Type 0 where
  pub is : (lent : Lent) → lent.options ≡ options → lent.output_bytes ≡ length out → write_out lent made ≡ leaves lent (answer_of r) (output_of out r)
