-- The condition and the increment of a `for`: either may be missing, and a byte of the record says which of them are there. What was read is compiled
-- by the rules' `for_cond` and `for_incr`.
use Rattle.std.specs.Prelude.{◌≡◌, List, ℕ, ◌+◌, ◌/◌, ◌%◌, ◌≤◌, eqb, Result, Ok, Err, IfSome}
use Rattle.std.proofs.Math.Option.{Option}
use Rattle.rules.specs.declared.Span.{Span}
use Rattle.rules.specs.Tree.{Expr}
use Rattle.rules.specs.Reader.{Read, got}
use Rattle.rules.specs.TreeFile.{maybe, read_expr}
use Rattle.rules.specs.Compiler.{for_cond, for_incr}
use Rattle.fields.specs.Words.{word16}
use Rattle.steps.specs.Why.{told, Step}
use Rattle.steps.specs.View.{Mem, t_of, code_len, steady, Gave, Refused, Did}
use Rattle.expr_laws.specs.Exprs.{There}
use Rattle.steps.specs.declared.Why.{Why}
use Rattle.stmt_jumps.specs.Jumps.{place_of}
use Rattle.stmt_loops.specs.declared.Cond.{Cond}

-- ## What is read: the byte has 2 for a condition and 4 for an increment

abbrev pub cond_at : (tree : List ℕ) → (parts left at : ℕ) → Read (Option Expr)
cond_at tree parts left at = maybe (eqb (parts / 2 % 2) 1) (read_expr tree (word16 tree 2) left) at

abbrev pub incr_at : (tree : List ℕ) → (parts left at : ℕ) → Read (Option Expr)
incr_at tree parts left at = maybe (eqb (parts / 4) 1) (read_expr tree (word16 tree 2) left) at

-- with some levels left
pub record CondThere (tree : List ℕ) (parts at : ℕ) : Type 0 where
  pub left : ℕ
  pub there : There (cond_at tree parts left at)

pub record IncrThere (tree : List ℕ) (parts at : ℕ) : Type 0 where
  pub left : ℕ
  pub there : There (incr_at tree parts left at)

-- ## What is done

-- the answer's value says where to read on, which is n, and has the place of the operand of the jump past the loop, where there is a jump
abbrev pub ConditionedAs : (class limit l n : ℕ) → Option Expr → Span → (before now : Mem) → Result Cond Why → Type 0
ConditionedAs class limit l n cond span before now (Ok c) = Gave class limit l steady (for_cond limit cond span) (place_of c.exit) before now × (c.next ≡ n) ×
    (IfSome c.exit (λ place. place + 2 ≤ code_len now l))
ConditionedAs class limit l n cond span before now (Err x) = Refused class l (for_cond limit cond span) before (told (t_of now) x)

pub record Conditioned (class limit l : ℕ) (read : Read (Option Expr)) (span : Span) (before now : Mem) (r : Result Cond Why) : Type 0 where
  pub did : (cond : Option Expr) (n : ℕ) → read ≡ got cond n → ConditionedAs class limit l n cond span before now r

pub record Incremented (class limit l : ℕ) (read : Read (Option Expr)) (span : Span) (before now : Mem) (r : Step) : Type 0 where
  pub did : (incr : Option Expr) (n : ℕ) → read ≡ got incr n → Did class limit l n steady (for_incr limit incr span) before now r
