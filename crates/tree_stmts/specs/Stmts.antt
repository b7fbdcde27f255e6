-- Statements and methods: what a record's own fields announce, and where the record ends.
use Rattle.std.specs.Prelude.{Option, Result, Ok, Err, IsOk, Bool, true, false, List, ◌∷◌, ◌≡◌, ℕ, ◌+◌, ◌-◌, ◌<◌, if◌then◌else◌, []}
use Rattle.std.proofs.Math.Option.{some}
use Rattle.rules.specs.Base.{lookup}
use Rattle.rules.specs.declared.Span.{Span}
use Rattle.rules.specs.declared.Refusal.{Refusal}
use Rattle.rules.specs.declared.Refusal.TheVariants.{TreeForm}
use Rattle.rules.specs.Reader.{Read, got, bad, ◌>>=◌}
use Rattle.rules.specs.TreeFile.{StmtMark, SF, stmt_marks, Children, read_expr, read_superclass, read_stmt, read_method, stmt_fields}
use Rattle.rules.specs.TreeFile.{flag, maybe, class_fields, fun_fields, if_fields, for_fields, var_stmt_fields}
use Rattle.tree_small.specs.Places.{place, and_then, row, known_mark}
use Rattle.tree_stmts.specs.declared.Plan.{Plan}
use Rattle.tree_stmts.specs.declared.Head.{Head}
use Rattle.fields.specs.Marks as marks

-- a method is an `SF` and nothing else
unfoldable pub method_marks : List (ℕ × StmtMark)
method_marks = (marks.SF, SF) ∷ []

unfoldable pub known_stmt : (method : Bool) → (tree : List ℕ) → (at : ℕ) → Option ℕ
known_stmt method tree at = known_mark (if method then method_marks else stmt_marks) tree at

unfoldable pub plain : (at cond body funs : ℕ) → (methods : Bool) → Head
plain at cond body funs methods =
    Head.Kids (record { at = at; init = 0; cond = cond; body = body; incr = 0; funs = funs; methods = methods })

-- the statements of a block or of a function's body, after their number
unfoldable pub body_from : Read ℕ → (funs : ℕ) → Result Head Refusal
body_from (got count next) funs = Ok (plain next 0 count funs false)
body_from (bad r) funs = Err r

module _ (tree : List ℕ) (names : ℕ) where
  -- where the statement at a place ends, or the method
  unfoldable pub stmt_place : (depth funs : ℕ) → (method : Bool) → (at : ℕ) → Result ℕ Refusal
  stmt_place depth funs false at = place (read_stmt tree names depth funs at)
  stmt_place depth funs true at = place (read_method tree names depth funs at)

  -- where the announced records end
  unfoldable pub kids_place : (depth : ℕ) → Plan → Result ℕ Refusal
  kids_place depth plan =
      and_then (row (stmt_place depth plan.funs false) plan.init plan.at) λ n.
      and_then (row (λ at. place (read_expr tree names depth at)) plan.cond n) λ n.
      and_then (row (stmt_place depth plan.funs plan.methods) plan.body n) λ n.
      row (λ at. place (read_expr tree names depth at)) plan.incr n

  unfoldable pub follow_head : (depth : ℕ) → Result Head Refusal → Result ℕ Refusal
  follow_head depth (Ok (Head.Kids plan)) = kids_place depth plan
  follow_head depth (Ok (Head.Exprs from count)) = row (λ at. place (read_expr tree names depth at)) count from
  follow_head depth (Err r) = Err r

  -- what reads the children of a statement
  unfoldable pub children : (depth funs : ℕ) → Children
  children depth funs =
      record {
        expr = read_expr tree names depth;
        superclass = read_superclass tree names depth;
        stmt = read_stmt tree names depth funs;
        inner = read_stmt tree names depth (funs - 1);
        one_method = read_method tree names depth funs;
      }

-- ## What each kind's answer announces

pub record ClassKids (tree : List ℕ) (names depth start funs : ℕ) (answer : Result Head Refusal) : Type 0 where
  pub whole : (s : Span)
      → place (class_fields tree names (read_superclass tree names depth) (read_method tree names depth funs) (TreeForm start) s (start + 10)) ≡ follow_head tree names depth answer

pub record FunKids (tree : List ℕ) (names start funs : ℕ) (answer : Result Head Refusal) : Type 0 where
  pub whole : (depth : ℕ) → place (fun_fields tree names (read_stmt tree names depth funs) (TreeForm start) (start + 10)) ≡ follow_head tree names depth answer

pub record IfKids (tree : List ℕ) (start funs : ℕ) (answer : Result Head Refusal) : Type 0 where
  pub whole : (names depth : ℕ) (s : Span)
      → place (if_fields tree names (read_expr tree names depth) (read_stmt tree names depth funs) (TreeForm start) s (start + 10)) ≡ follow_head tree names depth answer

pub record ForKids (tree : List ℕ) (start funs : ℕ) (answer : Result Head Refusal) : Type 0 where
  pub whole : (names depth : ℕ) (s : Span)
      → place (for_fields tree names (read_expr tree names depth) (read_stmt tree names depth funs) (TreeForm start) s (start + 10)) ≡ follow_head tree names depth answer

-- of a flag and the expression that it announces
pub record ValueKids (tree : List ℕ) (start at : ℕ) (answer : Result Head Refusal) : Type 0 where
  pub whole : (names depth : ℕ) → place ((flag tree (TreeForm start) >>= λ has. maybe has (read_expr tree names depth)) at) ≡ follow_head tree names depth answer

pub record VarKids (tree : List ℕ) (names start : ℕ) (answer : Result Head Refusal) : Type 0 where
  pub whole : (depth : ℕ) (s : Span)
      → place (var_stmt_fields tree names (read_expr tree names depth) (TreeForm start) s (start + 10)) ≡ follow_head tree names depth answer

-- of a record with that mark: the answer announces its children
pub record StmtKids (tree : List ℕ) (names depth funs mark start : ℕ) (answer : Result Head Refusal) : Type 0 where
  pub whole : (kind : StmtMark) → lookup mark stmt_marks ≡ some kind → (s : Span)
      → place (stmt_fields tree names (children tree names depth funs) (TreeForm start) kind s (start + 10)) ≡ follow_head tree names depth answer

pub record StmtOpens (tree : List ℕ) (names depth funs : ℕ) (method : Bool) (start : ℕ) (answer : Result Head Refusal) : Type 0 where
  pub whole : stmt_place tree names depth funs method start ≡ follow_head tree names (depth - 1) answer
  pub room : IsOk answer → 0 < depth
