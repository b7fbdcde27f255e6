-- What it is to begin a function: it is at the level above, which is the innermost then.
use Rattle.std.specs.Prelude.{◌≡◌, List, ℕ, suc, ◌+◌, ◌*◌, ◌≤◌, length, Ok, Err}
use Rattle.rules.specs.declared.Span.{Span}
use Rattle.rules.specs.declared.Refusal.{Refusal}
use Rattle.rules.specs.declared.Refusal.TheVariants.{TreeForm}
use Rattle.rules.specs.Reader.{Read, got, many}
use Rattle.rules.specs.TreeFile.{name}
use Rattle.rules.specs.Compiler.{Compile, ok, err, ◌>>◌, declare_local, define_local, declare_params}
use Rattle.fields.specs.Words.{word16}
use Rattle.state.specs.Layout.{start_of_code, start_of_runs, end_of_code, end_of_runs, type_of, Wf, upvalues_place, level_words}
use Rattle.state.specs.Meaning.{Kept}
use Rattle.steps.specs.View.{mem, Rest, view, Fit, depth_at}
use Rattle.stmt_output_laws.specs.Parts.{open_function}
use Rattle.steps.specs.Why.{told, Step}

-- ## What was read

-- names in a row, the file's second field being how many names it has; x is what a wrong one is refused with
abbrev pub names_at : (tree : List ℕ) → Refusal → (count at : ℕ) → Read (List ℕ)
names_at tree x count at = many count (name tree (word16 tree 2) x) at

pub record NamesThere (tree : List ℕ) (count at : ℕ) : Type 0 where
  pub fault : Refusal
  pub names : List ℕ
  pub next : ℕ
  pub is : names_at tree fault count at ≡ got names next

-- of a function's record that starts at `at`: its name is at at + 10, the number of its parameters at at + 12, and they follow
pub record FunHead (tree : List ℕ) (at : ℕ) : Type 0 where
  pub bound : at + 14 ≤ length tree
  pub params : List ℕ
  pub mid : ℕ
  pub row_is : many (word16 tree (at + 12)) (name tree (word16 tree 2) (TreeForm at)) (at + 14) ≡ got params mid

-- ## Locals, whatever the code, the runs and the rest are

-- a local that has its value at once
abbrev pub declare_named : (name : ℕ) → Span → Compile Unit
declare_named name span = declare_local name span >> define_local

-- m is done by a change of a level's locals
pub record Locally (l : ℕ) (m : Compile Unit) (t t' : List ℕ) : Type 0 where
  pub comes : (code spans : List ℕ) (rest : Rest) → m (view (mem t code spans) l rest) ≡ ok tt (view (mem t' code spans) l rest)
  pub kept : Kept (l * level_words) (l * level_words + upvalues_place) t t'
  pub wf : Wf t'

abbrev pub NamedAs : (l n : ℕ) → Compile Unit → (t t' : List ℕ) → Step → Type 0
NamedAs l n m t t' (Ok v) = Locally l m t t' × (v ≡ n)
NamedAs l n m t t' (Err x) = (code spans : List ℕ) (rest : Rest) → m (view (mem t code spans) l rest) ≡ err (told t' x)

pub record Named (l n : ℕ) (m : Compile Unit) (t t' : List ℕ) (r : Step) : Type 0 where
  pub does : NamedAs l n m t t' r

pub record ParamsDeclared (l : ℕ) (tree : List ℕ) (count at : ℕ) (span : Span) (t t' : List ℕ) (r : Step) : Type 0 where
  pub did : (x : Refusal) (params : List ℕ) (n : ℕ) → names_at tree x count at ≡ got params n → Named l n (declare_params params span) t t' r

-- ## A function is begun

-- the level above is the innermost now
pub record Inside (l : ℕ) (m : Compile Unit) (t t' : List ℕ) : Type 0 where
  pub fit : {limit : ℕ} (code spans : List ℕ) → Fit (mem t code spans) l limit → Fit (mem t' code spans) (suc l) limit
  pub comes : (code spans : List ℕ) (rest : Rest) → m (view (mem t code spans) l rest) ≡ ok tt (view (mem t' code spans) (suc l) rest)
  pub deep : (code spans : List ℕ) → depth_at (mem t' code spans) (suc l) ≡ depth_at (mem t code spans) l + 1
  pub kept : Kept (suc l * level_words) (suc l * level_words + level_words) t t'
  -- its code and its runs start no earlier than those of the function around end
  pub from : end_of_code t ≤ start_of_code t' (suc l)
  pub runs_from : end_of_runs t ≤ start_of_runs t' (suc l)

abbrev pub FunctionOpenedAs : (l n : ℕ) → Compile Unit → (t t' : List ℕ) → Step → Type 0
FunctionOpenedAs l n m t t' (Ok v) = Inside l m t t' × (v ≡ n)
FunctionOpenedAs l n m t t' (Err x) = (code spans : List ℕ) (rest : Rest) → m (view (mem t code spans) l rest) ≡ err (told t' x)

pub record FunctionOpened (l kind : ℕ) (tree : List ℕ) (at : ℕ) (span : Span) (t t' : List ℕ) (r : Step) : Type 0 where
  pub did : (params : List ℕ) (mid : ℕ) → many (word16 tree (at + 12)) (name tree (word16 tree 2) (TreeForm at)) (at + 14) ≡ got params mid
      → FunctionOpenedAs l mid (open_function (type_of kind) (word16 tree (at + 10)) params span) t t' r
