-- Expressions: what a record's own fields announce, and where the record ends.
use Rattle.std.specs.Prelude.{Result, Ok, Err, List, ◌≡◌, ℕ, ◌+◌, ◌-◌, ◌<◌, leb}
use Rattle.std.proofs.Math.Option.{some}
use Rattle.rules.specs.Base.{lookup}
use Rattle.rules.specs.Limits.{max_bits}
use Rattle.rules.specs.declared.Span.{Span}
use Rattle.rules.specs.declared.Refusal.{Refusal}
use Rattle.rules.specs.declared.Refusal.TheVariants.{TreeForm}
use Rattle.rules.specs.Tree.{Expr}
use Rattle.rules.specs.Reader.{Read, got, bad, Reader, return, need, u64, ◌>>=◌, ◌>>◌}
use Rattle.rules.specs.TreeFile.{ExprMark, expr_marks, expr_fields, read_expr}
use Rattle.tree_small.specs.Places.{place, row}

-- a number's bits
unfoldable pub number : (tree : List ℕ) → (fault : Refusal) → Reader ℕ
number tree fault = do
  bits ← u64 tree fault
  need (leb bits max_bits) fault
  return bits

-- fields that end there, and `kids` expressions
unfoldable pub announced : Result ℕ Refusal → (kids : ℕ) → Result (ℕ × ℕ) Refusal
announced (Ok next) kids = Ok (next, kids)
announced (Err r) kids = Err r

-- the callee and the arguments
unfoldable pub with_callee : Read ℕ → Result (ℕ × ℕ) Refusal
with_callee (got count next) = Ok (next, count + 1)
with_callee (bad r) = Err r

-- the place after the announced expressions, each of which `one` reads
unfoldable pub follow : (one : ℕ → Result ℕ Refusal) → Result (ℕ × ℕ) Refusal → Result ℕ Refusal
follow one (Ok (from, count)) = row one count from
follow one (Err r) = Err r

-- of a record with that mark: by whatever its expressions are read, the answer announces them
pub record Announces (tree : List ℕ) (names mark start : ℕ) (answer : Result (ℕ × ℕ) Refusal) : Type 0 where
  pub whole : (kind : ExprMark) → lookup mark expr_marks ≡ some kind → (expr : Reader Expr) (s : Span)
      → place (expr_fields tree names expr (TreeForm start) kind s (start + 10)) ≡ follow (λ n. place (expr n)) answer

pub record Opens (tree : List ℕ) (names depth start : ℕ) (answer : Result (ℕ × ℕ) Refusal) : Type 0 where
  pub whole : place (read_expr tree names depth start) ≡ follow (λ n. place (read_expr tree names (depth - 1) n)) answer
  pub room : (from count : ℕ) → answer ≡ Ok (from, count) → 0 < depth
