-- What the functions around a class's methods say: what stands before them opens the class, what stands after them closes it. Between the two the class
-- is the innermost one, and where it has a superclass the scope of `super` is open.
use Rattle.steps.specs.Why.{Step}
use Rattle.std.specs.Prelude.{◌≡◌, Bool, true, List, ◌∷◌, ℕ, ◌+◌, ◌-◌, ◌≤◌, length, ltb, if◌then◌else◌}
use Rattle.std.proofs.Math.Option.{Option, some}
use Rattle.rules.specs.Base.{lookup}
use Rattle.rules.specs.declared.Span.{Span}
use Rattle.rules.specs.Tree.{Superclass}
use Rattle.rules.specs.Reader.{got}
use Rattle.rules.specs.TreeFile.{flags, maybe, read_superclass}
use Rattle.rules.specs.Compiler.{is_some, compile_superclass}
use Rattle.fields.specs.Words.{word8, word16, span_of}
use Rattle.steps.specs.View.{Mem, Turn, Did}
use Rattle.stmt_output_laws.specs.Parts.{open_class, close_class}

-- ## Turns. b says whether there is a superclass

-- the innermost class as the code has it
abbrev pub inner : Bool → ℕ
inner b = if b then 2 else 1

-- the class is the innermost one; no code says so
abbrev pub entering : Bool → Turn
entering b = record { depth = λ d. d; class = λ _. inner b; rest = λ r. record { classes = b ∷ r.classes; functions = r.functions }; aloof = true }

-- the scope of `super` is begun
abbrev pub scoping : Bool → Turn
scoping b = record { depth = λ d. if b then d + 1 else d; class = λ c. c; rest = λ r. r; aloof = true }

abbrev pub opening : Bool → Turn
opening b = record { depth = λ d. if b then d + 1 else d; class = λ _. inner b; rest = λ r. record { classes = b ∷ r.classes; functions = r.functions }; aloof = true }

abbrev pub closing : Bool → Turn
closing b = record { depth = λ d. if b then d - 1 else d; class = λ c. c; rest = λ r. r; aloof = true }

-- ## What was read

-- the class whose record starts at `at`: its flag, and its superclass
pub record ClassHead (tree : List ℕ) (at : ℕ) : Type 0 where
  pub bound : at + 15 ≤ length tree
  pub depth : ℕ
  pub has : Bool
  pub look : lookup (word8 tree (at + 12)) flags ≡ some has
  pub super : Option Superclass
  pub mid : ℕ
  pub one : maybe has (read_superclass tree (word16 tree 2) depth) (at + 15) ≡ got super mid

-- the superclass, where the record has one
abbrev pub superclass_of : (tree : List ℕ) → (at : ℕ) → Superclass
superclass_of tree at = record { span = span_of tree (at + 17); name = word16 tree (at + 25) }

-- ## The contracts. Whatever is read there is opened, and closed

-- the class that the methods are in
pub record InnerClass (tree : List ℕ) (at r : ℕ) : Type 0 where
  pub is : (d : ℕ) (has : Bool) (super : Option Superclass) (mid : ℕ) → lookup (word8 tree (at + 12)) flags ≡ some has → maybe has (read_superclass tree (word16 tree 2) d) (at + 15) ≡ got super mid
      → r ≡ inner (is_some super)

-- the superclass, once the class is the innermost one
pub record SuperOpened (limit l name : ℕ) (tree : List ℕ) (at : ℕ) (span : Span) (before now : Mem) (r : Step) : Type 0 where
  pub did : (d : ℕ) (has : Bool) (super : Option Superclass) (mid : ℕ) → lookup (word8 tree (at + 12)) flags ≡ some has → maybe has (read_superclass tree (word16 tree 2) d) (at + 15) ≡ got super mid
      → Did (inner (is_some super)) limit l mid (scoping (is_some super)) (compile_superclass limit name super span) before now r

pub record ClassOpened (class limit l : ℕ) (tree : List ℕ) (at : ℕ) (span : Span) (before now : Mem) (r : Step) : Type 0 where
  pub did : (d : ℕ) (has : Bool) (super : Option Superclass) (mid : ℕ) → lookup (word8 tree (at + 12)) flags ≡ some has → maybe has (read_superclass tree (word16 tree 2) d) (at + 15) ≡ got super mid
      → Did class limit l mid (opening (is_some super)) (open_class limit (word16 tree (at + 10)) super (ltb 0 (word16 tree (at + 13))) span) before now r

pub record ClassClosed (class limit l : ℕ) (tree : List ℕ) (at next : ℕ) (span : Span) (before now : Mem) (r : Step) : Type 0 where
  pub did : (d : ℕ) (has : Bool) (super : Option Superclass) (mid : ℕ) → lookup (word8 tree (at + 12)) flags ≡ some has → maybe has (read_superclass tree (word16 tree 2) d) (at + 15) ≡ got super mid
      → Did class limit l next (closing (is_some super)) (close_class limit super (ltb 0 (word16 tree (at + 13))) span) before now r
