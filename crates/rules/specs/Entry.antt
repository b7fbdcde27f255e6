-- The whole: from a tree file's bytes and the sizes of what is lent to the answer and what every lent area then holds.
use Rattle.std.specs.Prelude.{Bool, List, ◌++◌, ℕ, ◌-◌, ◌*◌, ◌/◌, ◌%◌, min, length, replicate, leb, eqb, if◌then◌else◌}
use Rattle.rules.specs.Limits.{Limits, first_limits, max_tree, max_code}
use Rattle.rules.specs.declared.Answer.{Answer}
use Rattle.rules.specs.declared.Stopped.{Stopped}
use Rattle.rules.specs.declared.Refusal.TheVariants.{WorkShort, TreeTooLong, OutFull}
use Rattle.rules.specs.Answer.{refusal, accepted, outside, refusal_in}
use Rattle.rules.specs.Chunk.{ObjectFunction}
use Rattle.rules.specs.Tree.{Stmts}
use Rattle.rules.specs.Reader.{Read, got, bad}
use Rattle.rules.specs.TreeFile.{read_tree}
use Rattle.rules.specs.Compiler.{Outcome, ok, err, compile_functions}
use Rattle.rules.specs.Image.{image_with}

-- what the caller says beside the tree: what is asked for, and how much is lent
pub record Lent : Type 0 where
  pub options : ℕ
  pub table_words : ℕ  -- of eight bytes
  pub code_bytes : ℕ
  pub span_words : ℕ  -- of four bytes
  pub output_bytes : ℕ

-- what a call leaves. That the tree is as it was is said by the code's type, which only lends it to read
pub record Left : Type 0 where
  pub answer : Answer
  pub output : List ℕ
  pub table : List ℕ
  pub code : List ℕ
  pub spans : List ℕ

-- the bits of `options`, of which the others say nothing: 2, the image ends in a directory
unfoldable pub asks_directory : (options : ℕ) → Bool
asks_directory options = eqb (options / 2 % 2) 1

-- the least of the code bytes, a third of the span words rounded down, and 262,144
unfoldable pub code_limit : Lent → ℕ
code_limit lent = min (min lent.code_bytes (lent.span_words / 3)) max_code

pub data Compiled : Type 0 where
  functions_are : List ObjectFunction → Compiled
  refused : Stopped → Compiled

-- 10 to 30, in the Rust's own order of work
unfoldable pub from_outcome : Outcome (List ObjectFunction) → Compiled
from_outcome (ok functions _) = functions_are functions
from_outcome (err x) = refused x

-- 3, 4 and 5 over the whole file come first
unfoldable pub from_read : Read Stmts → (limit : ℕ) → Compiled
from_read (got stmts _) limit = from_outcome (compile_functions limit stmts)
from_read (bad r) limit = refused (outside r)

-- whatever the answer, the work areas end all zero
unfoldable pub leaves : Lent → Answer → (output : List ℕ) → Left
leaves lent answer output =
    record {
      answer = answer;
      output = output;
      table = replicate lent.table_words 0;
      code = replicate lent.code_bytes 0;
      spans = replicate lent.span_words 0;
    }

unfoldable pub write_image : Lent → (image : List ℕ) → Left
write_image lent image =
    if leb (length image) lent.output_bytes
    then leaves lent (accepted (length image)) (image ++ replicate (lent.output_bytes - length image) 0)
    else leaves lent (refusal (OutFull (length image))) (replicate lent.output_bytes 0)

-- the image and then zeros, or after a refusal only zeros; 31 where all else is accepted
unfoldable pub write_out : Lent → Compiled → Left
write_out lent (refused x) = leaves lent (refusal_in x) (replicate lent.output_bytes 0)
write_out lent (functions_are functions) = write_image lent (image_with (asks_directory lent.options) functions)

module _ (limits : Limits) where
  -- 2, and what comes after it
  unfoldable pub compile_tree : (tree : List ℕ) → (limit : ℕ) → Compiled
  compile_tree tree limit =
      if leb (length tree) max_tree
      then from_read (read_tree tree limits.depth limits.funs) limit
      else refused (outside TreeTooLong)

  -- 1, and what comes after it
  unfoldable pub compile_lent : (tree : List ℕ) → Lent → Compiled
  compile_lent tree lent =
      if leb limits.table_bytes (8 * lent.table_words)
      then compile_tree tree (code_limit lent)
      else refused (outside WorkShort)

  unfoldable pub compile_within : (tree : List ℕ) → Lent → Left
  compile_within tree lent = write_out lent (compile_lent tree lent)

abbrev pub compile : (tree : List ℕ) → Lent → Left
compile = compile_within first_limits
