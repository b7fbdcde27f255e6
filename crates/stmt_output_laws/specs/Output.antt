-- Functions are finished while statements are compiled, and put into the output: what the output holds, and what it is for a function over the lent
-- areas and the output to do what a step of the rules does.
use Rattle.std.specs.Prelude.{◌≡◌, false, List, ◌++◌, ℕ, suc, ◌+◌, ◌*◌, ◌-◌, ◌≤◌, length, get_or, replicate, Ok, Err}
use Rattle.rules.specs.Limits.{max_tree, max_code}
use Rattle.rules.specs.declared.Refusal.TheVariants.{TreeForm}
use Rattle.rules.specs.declared.Span.{Span}
use Rattle.rules.specs.Tree.{Stmt, Stmts, Fun, Methods}
use Rattle.rules.specs.Reader.{Read, got}
use Rattle.rules.specs.TreeFile.{read_stmt, read_stmts, read_method, read_methods, fun_fields}
use Rattle.rules.specs.Chunk.{ObjectFunction}
use Rattle.rules.specs.Image.{join, function_bytes}
use Rattle.rules.specs.Compiler.{Compile}
use Rattle.fields.specs.Words.{word16}
use Rattle.state.specs.Layout.{levels, deepest, image_at}
use Rattle.steps.specs.Why.{told, Step}
use Rattle.steps.specs.View.{Mem, t_of, Rest, depth_at, Fit, Turn, Gave, Refused}
use Rattle.writer.specs.Put.{padded, AllCounted}

-- ## What is read: the file's second field is how many names it has

-- how many functions more may be open inside a level
unfoldable pub funs_left : (level : ℕ) → ℕ
funs_left level = levels - suc level

abbrev pub stmt_at : (tree : List ℕ) → (left level at : ℕ) → Read Stmt
stmt_at tree left level at = read_stmt tree (word16 tree 2) left (funs_left level) at

abbrev pub stmts_at : (tree : List ℕ) → (count left level at : ℕ) → Read Stmts
stmts_at tree count left level at = read_stmts count (read_stmt tree (word16 tree 2) left (funs_left level)) at

abbrev pub method_at : (tree : List ℕ) → (left level at : ℕ) → Read (Span × Fun)
method_at tree left level at = read_method tree (word16 tree 2) left (funs_left level) at

abbrev pub methods_at : (tree : List ℕ) → (count left level at : ℕ) → Read Methods
methods_at tree count left level at = read_methods count (read_method tree (word16 tree 2) left (funs_left level)) at

-- the function whose record starts at `at`; its statements are read with `left` levels left
abbrev pub fun_at : (tree : List ℕ) → (left level at : ℕ) → Read Fun
fun_at tree left level at = fun_fields tree (word16 tree 2) (read_stmt tree (word16 tree 2) left (funs_left (suc level))) (TreeForm at) (at + 10)

-- ## The output

-- no function's record is as long
abbrev pub largest : ℕ
largest = 4_194_304

-- The output has six bytes for the header, which is written last, and then the functions' records as far as there is room. The image writer's second
-- word is how long the records are
pub record Holds (t out : List ℕ) (functions : List ObjectFunction) : Type 0 where
  pub bytes : out ≡ padded (length out) (replicate 6 0 ++ join function_bytes functions)
  pub long : get_or t (image_at + 1) 0 ≡ length (join function_bytes functions)
  pub counted : AllCounted functions

-- These functions were put behind the others, while the tree was read from `at` to n: no more of them than bytes read, so that no count is too large
pub record Added (at n : ℕ) (made : List ObjectFunction) (t out t' out' : List ℕ) : Type 0 where
  pub put : (functions : List ObjectFunction) → Holds t out functions → Holds t' out' (functions ++ made)
  pub few : get_or t' image_at 0 + at ≤ get_or t image_at 0 + n
  pub little : get_or t' (image_at + 1) 0 + at * largest ≤ get_or t (image_at + 1) 0 + n * largest

-- ## A step that finishes functions

abbrev pub more : List ObjectFunction → Rest → Rest
more made rest = record { classes = rest.classes; functions = rest.functions ++ made }

abbrev pub grow : List ObjectFunction → Turn
grow made = record { depth = λ d. d; class = λ c. c; rest = more made; aloof = false }

pub record Grew (class limit l at n : ℕ) (m : Compile Unit) (before : Mem) (out : List ℕ) (now : Mem) (out' : List ℕ) : Type 0 where
  pub made : List ObjectFunction
  pub gave : Gave class limit l (grow made) m tt before now
  pub added : Added at n made (t_of before) out (t_of now) out'

abbrev pub WorkedAs : (class limit l at n : ℕ) → Compile Unit → (before : Mem) → (out : List ℕ) → (now : Mem) → (out' : List ℕ) → Step → Type 0
WorkedAs class limit l at n m before out now out' (Ok v) = Grew class limit l at n m before out now out' × (v ≡ n)
WorkedAs class limit l at n m before out now out' (Err x) = Refused class l m before (told (t_of now) x)

-- what m does, the tree being read from `at` to n
pub record Worked (class limit l at n : ℕ) (m : Compile Unit) (before : Mem) (out : List ℕ) (now : Mem) (out' : List ℕ) (r : Step) : Type 0 where
  pub does : WorkedAs class limit l at n m before out now out' r

-- what was read at `at` is compiled by f
pub record Walked {A : Type 0} (class limit l at : ℕ) (read : Read A) (f : A → Compile Unit) (before : Mem) (out : List ℕ) (now : Mem) (out' : List ℕ) (r : Step) : Type 0 where
  pub did : (a : A) (n : ℕ) → read ≡ got a n → Worked class limit l at n (f a) before out now out' r

-- ## What must hold where a statement is compiled, with `left` levels of records left

pub record Ready (tree : List ℕ) (m : Mem) (at left l limit : ℕ) : Type 0 where
  pub fit : Fit m l limit
  pub small : limit ≤ max_code
  pub short : length tree ≤ max_tree
  -- a level of records opens two scopes at most
  pub shallow : depth_at m l + 2 * left ≤ deepest
  pub few : get_or (t_of m) image_at 0 ≤ at
  pub little : get_or (t_of m) (image_at + 1) 0 ≤ at * largest
