-- The rules' `compile_function` is its parts in turn: up to the statements, the statements, after them.
use mathlib.Core.Path.{◌≡◌, refl, sym}
use mathlib.Core.List.{List}
use Prim.Native.Nat.{ℕ, ◌+◌}
use lib.ListN.{length}
use lib.Dec.{leb}
use Rattle.rules.specs.declared.Span.{Span}
use Rattle.rules.specs.declared.Refusal.TheVariants.{TooManyParams}
use Rattle.rules.specs.Tree.{Stmts, fun}
use Rattle.rules.specs.Compiler.{FunctionType, Compiler, Outcome, ok, err, Compile, go_on, ◌>>=◌, ◌>>◌, need, the, new_ctx, slot_zero, begin_ctx, declare_local, define_local, declare_params}
use Rattle.rules.specs.Compiler.{implicit_return, end_function, compile_function_with, compile_function, compile_stmts}
use Rattle.steps.proofs.Monad.{regroup}
use Rattle.stmt_output_laws.specs.Parts.{open_function, close_function}

-- what follows the last of some steps follows them all
module _ (k : Compile Unit) where
  after_two : (r : Outcome Unit) (a b : Compile Unit) → go_on r (λ _. a >> (b >> k)) ≡ go_on (go_on r (λ _. a >> b)) (λ _. k)
  unfolding go_on ◌>>◌
  after_two (ok u s) a b = sym (regroup (a s) (λ _. b) (λ _. k))
  after_two (err x) a b = refl

  after_three : (r : Outcome Unit) (a b c : Compile Unit) → go_on r (λ _. a >> (b >> (c >> k))) ≡ go_on (go_on r (λ _. a >> (b >> c))) (λ _. k)
  unfolding go_on ◌>>◌
  after_three (ok u s) a b c = after_two (a s) b c
  after_three (err x) a b c = refl

  after_all : (r : Outcome Unit) (d : Compile ℕ) (f : ℕ → Compile Unit) (a b c : Compile Unit)
      → go_on r (λ _. d >>= λ j. f j >> (a >> (b >> (c >> k)))) ≡ go_on (go_on r (λ _. d >>= λ j. f j >> (a >> (b >> c)))) (λ _. k)
  unfolding go_on ◌>>◌ ◌>>=◌
  after_all (ok u s) d f a b c = at_depth (d s)
    where
      at_depth : (q : Outcome ℕ) → go_on q (λ j s. go_on (f j s) (λ _. a >> (b >> (c >> k)))) ≡ go_on (go_on q (λ j s. go_on (f j s) (λ _. a >> (b >> c)))) (λ _. k)
      at_depth (ok j s) = after_three (f j s) a b c
      at_depth (err x) = refl
  after_all (err x) d f a b c = refl

pub function_cut : (limit name : ℕ) (params : List ℕ) (body : Stmts) (type : FunctionType) (span : Span) (s : Compiler)
    → compile_function limit (fun name params body) type span s ≡ (open_function type name params span >> (compile_stmts limit body >> close_function limit span)) s
unfolding compile_function compile_function_with open_function close_function ◌>>◌
function_cut limit name params body type span s =
    after_all (compile_stmts limit body >> (implicit_return limit >> end_function limit span)) (need (leb (length params) 255) (TooManyParams span) s)
    (the λ s. s.ctx.scope_depth) (λ depth. begin_ctx (new_ctx name (length params) type (depth + 1)))
    (declare_local (slot_zero type name) span) define_local (declare_params params span)
