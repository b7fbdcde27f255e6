-- The parts of a statement make the whole: each cut says that the rules' step comes to the parts one after the other, from every state.
use mathlib.Core.Path.{◌≡◌, refl, sym, ◌∙◌}
use mathlib.Core.Option.{Option, some}
use Prim.Native.Nat.{ℕ}
use Rattle.rules.specs.declared.Span.{Span}
use Rattle.rules.specs.Tree.{Expr, Stmt, Stmts, StmtBlock, StmtFor, StmtFun, StmtIf, StmtWhile, ◌∷ˢ◌, Fun, Methods, method, []ˢ, []ᵐ}
use Rattle.rules.specs.Op as op
use Rattle.rules.specs.Chunk.{CS}
use Rattle.rules.specs.Compiler.{Compiler, ok, Compile, ◌>>=◌, ◌>>◌, return, done, Function, begin_scope, start_loop, end_scope}
use Rattle.rules.specs.Compiler.{patch_jump, emit_op, emit_op_constant, emit_jump, emit_loop, for_cond, for_incr, for_end, define_name, fun_name, method_type}
use Rattle.rules.specs.Compiler.{compile_expr, compile_stmt, compile_stmts, compile_function, compile_methods}
use Rattle.stmt_jumps.specs.Jumps.{open_jump, turn_jump}
use Rattle.steps.proofs.Monad.{regroup, later}
use Rattle.stmt_jumps.proofs.Jumps.{open_cut, turn_cut}
use Rattle.stmt_output_laws.specs.Parts.{compile_method}
use Rattle.stmt_jumps.specs.Jumps.{close_loop}

-- ## What follows a step may be another that comes to the same

pub bind_like : {A B : Type 0} (m : Compile A) (f g : A → Compile B) → ((a : A) (s : Compiler) → f a s ≡ g a s) → (s : Compiler) → (m >>= f) s ≡ (m >>= g) s
unfolding ◌>>=◌
bind_like m f g h s = later (m s) h

pub seq_like : {A B : Type 0} (m : Compile A) (f g : Compile B) → ((s : Compiler) → f s ≡ g s) → (s : Compiler) → (m >> f) s ≡ (m >> g) s
unfolding ◌>>◌
seq_like m f g h s = later (m s) (λ a s. h s)

pub grouped : {A B C : Type 0} (m : Compile A) (f : Compile B) (g : Compile C) (s : Compiler) → (m >> (f >> g)) s ≡ ((m >> f) >> g) s
unfolding ◌>>◌
grouped m f g s = sym (regroup (m s) (λ _. f) (λ _. g))

-- ## The statements

module _ (limit : ℕ) where
  pub none_cut : (s : Compiler) → compile_stmts limit []ˢ s ≡ ok tt s
  unfolding compile_stmts done return
  none_cut s = refl

  pub row_cut : (one : Stmt) (others : Stmts) (s : Compiler) → compile_stmts limit (one ∷ˢ others) s ≡ (compile_stmt limit one >> compile_stmts limit others) s
  unfolding compile_stmts
  row_cut one others s = refl

  pub no_methods_cut : (s : Compiler) → compile_methods limit []ᵐ s ≡ ok tt s
  unfolding compile_methods done return
  no_methods_cut s = refl

  pub methods_cut : (span : Span) (f : Fun) (others : Methods) (s : Compiler) → compile_methods limit (method span f others) s ≡ (compile_method limit (span, f) >> compile_methods limit others) s
  unfolding compile_methods compile_method
  methods_cut span f others s = grouped (compile_function limit f (method_type (fun_name f)) span) (emit_op_constant limit op.METHOD (CS (fun_name f)) span) (compile_methods limit others) s

  pub block_cut : (span : Span) (stmts : Stmts) (s : Compiler) → compile_stmt limit (StmtBlock span stmts) s ≡ (begin_scope >> (compile_stmts limit stmts >> end_scope limit span)) s
  unfolding compile_stmt
  block_cut span stmts s = refl

  pub fun_cut : (span : Span) (f : Fun) (s : Compiler) → compile_stmt limit (StmtFun span f) s ≡ (compile_function limit f Function span >> define_name limit (fun_name f) span) s
  unfolding compile_stmt
  fun_cut span f s = refl

  pub if_cut : (span : Span) (cond : Expr) (yes_part : Stmt) (no_part : Stmts) (s : Compiler)
      → compile_stmt limit (StmtIf span cond yes_part no_part) s
      ≡ (compile_expr limit cond >> (open_jump limit span >>= λ j. compile_stmt limit yes_part >> (turn_jump limit j span >>= λ k. compile_stmts limit no_part >> patch_jump k span))) s
  unfolding compile_stmt
  if_cut span cond yes_part no_part s =
      seq_like (compile_expr limit cond) _ _
      (λ s. open_cut
      (λ j. compile_stmt limit yes_part >> (emit_jump limit op.JUMP span >>= λ k. patch_jump j span >> (emit_op limit op.POP span >> (compile_stmts limit no_part >> patch_jump k span)))) limit
      span s
      ∙ bind_like (open_jump limit span) _ _ (λ j. seq_like (compile_stmt limit yes_part) _ _ (turn_cut (λ k. compile_stmts limit no_part >> patch_jump k span) limit j span)) s)
      s

  pub while_cut : (span : Span) (cond : Expr) (body : Stmt) (s : Compiler)
      → compile_stmt limit (StmtWhile span cond body) s
      ≡ (start_loop >>= λ start. compile_expr limit cond >> (open_jump limit span >>= λ j. compile_stmt limit body >> close_loop limit start (some j) span)) s
  unfolding compile_stmt close_loop for_end
  while_cut span cond body s =
      bind_like start_loop _ _ (λ start. seq_like (compile_expr limit cond) _ _
      (open_cut (λ j. compile_stmt limit body >> (emit_loop limit start span >> (patch_jump j span >> emit_op limit op.POP span))) limit span))
      s

  pub for_cut : (span : Span) (init : Stmts) (cond : Option Expr) (body : Stmt) (incr : Option Expr) (s : Compiler)
      → compile_stmt limit (StmtFor span init cond body incr) s
      ≡ (begin_scope >> (compile_stmts limit init >> (start_loop >>= λ start. for_cond limit cond span >>= λ j.
      compile_stmt limit body >> (for_incr limit incr span >> (close_loop limit start j span >> end_scope limit span))))) s
  unfolding compile_stmt close_loop
  for_cut span init cond body incr s =
      seq_like begin_scope _ _ (seq_like (compile_stmts limit init) _ _ (bind_like start_loop _ _ (λ start. bind_like (for_cond limit cond span) _ _ (λ j.
      seq_like (compile_stmt limit body) _ _ (seq_like (for_incr limit incr span) _ _ (grouped (emit_loop limit start span) (for_end limit j span) (end_scope limit span)))))))
      s
