-- What each step of the compiler has, the compiler has: a fact `R from to code image m` of a step `m`, which is given for every code limit, where `from`
-- and `to` are levels of nested functions, and `code` and `image` count the bytes that the step may come to cost: of code, and of the image with its
-- directory. From a law for each small step, the law for every expression and statement whose leaves are as asked, at most 1 and 17 for each byte of
-- its record. Which jumps wait is not followed here: that is what `Keeps` does.
use mathlib.Core.Bool.{Bool, true, false}
use mathlib.Core.Option.{Option, none, some}
use mathlib.Core.List.{List, ◌∷◌, []}
use Prim.Native.Nat.{ℕ, ◌+◌, ◌*◌, ◌≤◌}
use native.Mathlib.Omega.{arith}
use lib.ListN.{length}
use lib.Dec.{T, leb, eqb, leb→le}
use Rattle.std.specs.Prelude.{if◌then◌else◌}
use Rattle.rules.specs.declared.Span.{Span}
use Rattle.rules.specs.declared.Refusal.{Refusal}
use Rattle.rules.specs.Answer.{NO_SPAN}
use Rattle.rules.specs.Tree.{this_name, super_name, init_name, []ᵉ, []ˢ, []ᵐ}
use Rattle.rules.specs.Tree.{Expr, Exprs, ExprAssign, ExprCall, ExprGet, ExprInfix, Literal, ExprPrefix, ExprSet, ExprSuper, ExprVar, ◌∷ᵉ◌}
use Rattle.rules.specs.Tree.{OpInfix, Add, Subtract, Multiply, Divide, Less, LessEqual, Greater, GreaterEqual, Equal, NotEqual, LogicAnd, LogicOr}
use Rattle.rules.specs.Tree.{ExprLiteral, LitBool, LitNil, LitNumber, LitString, Superclass}
use Rattle.rules.specs.Tree.{Stmt, Stmts, StmtBlock, StmtClass, StmtExpr, StmtFor, StmtFun, StmtIf, StmtPrint, StmtReturn, StmtVar, StmtWhile, ◌∷ˢ◌}
use Rattle.rules.specs.Tree.{Fun, fun, Methods, method}
use Rattle.rules.specs.Chunk.{Constant, CN, CS, CF}
use Rattle.rules.specs.Compiler as c
use Rattle.rules.specs.Compiler.{Compiler, Compile, FunctionType, Script, Function, Method, Initializer}
use Rattle.rules_laws.proofs.Refusals.{Rusts}
use Rattle.rules_laws.proofs.Trees.{Leaf, IfSome, OfLiteral, OfExpr, OfExprs, OfSuperclass, OfStmt, OfStmts, OfFun, OfMethods}
use Rattle.rules_laws.proofs.Trees.{option_size, expr_size, exprs_size, stmt_size, stmts_size, fun_size, methods_size}

-- what is asked of a number or a string
abbrev pub OfConstant : Leaf → Constant → Type 0
OfConstant l (CN bits) = l.bits bits
OfConstant l (CS name) = l.name name
OfConstant l (CF number) = ⊥

-- the type of every function but the script
abbrev pub Inner : FunctionType → Type 0
Inner Function = Unit {0}
Inner Initializer = Unit {0}
Inner Method = Unit {0}
Inner Script = ⊥

method_inner : (name : ℕ) → Inner (c.method_type name)
method_inner name = by_test (eqb name init_name)
  where
    by_test : (b : Bool) → Inner (if b then Initializer else Method)
    by_test true = tt
    by_test false = tt

module _ (l : Leaf) (R : (A : Type 0) → (from to : l.level) → (code image : ℕ) → (ℕ → Compile A) → Type 0) where
  pub record Laws : Type 1 where
    -- spans and names that the compiler brings itself
    pub no_span : l.span NO_SPAN
    pub this_named : l.name this_name
    pub super_named : l.name super_name
    -- steps put together
    pub ◌>>=◌ : {A B : Type 0} {g h i : l.level} {n k w v : ℕ} {m : ℕ → Compile A} {f : ℕ → A → Compile B} →
        R _ g h n w m → ((a : A) → R _ h i k v (λ limit. f limit a)) → R _ g i (n + k) (w + v) (λ limit. c.◌>>=◌ (m limit) (f limit))
    pub ◌>>◌ : {A B : Type 0} {g h i : l.level} {n k w v : ℕ} {m : ℕ → Compile A} {p : ℕ → Compile B} →
        R _ g h n w m → R _ h i k v p → R _ g i (n + k) (w + v) (λ limit. c.◌>>◌ (m limit) (p limit))
    pub enough : {A : Type 0} {g h : l.level} {n k w v : ℕ} {m : ℕ → Compile A} → R _ g h n w m → n ≤ k → w ≤ v → R _ g h k v m
    pub needs : {A : Type 0} {g h : l.level} {n w : ℕ} {m : ℕ → Compile A} (b : Bool) (r : Refusal) → Rusts r → (T b → R _ g h n w m) →
        R _ g h n w (λ limit. c.◌>>◌ (c.need b r) (m limit))
    -- steps that write nothing
    pub return : {A : Type 0} {g : l.level} (a : A) → R _ g g 0 0 (λ _. c.return a)
    pub the : {A : Type 0} {g : l.level} (f : Compiler → A) → R _ g g 0 0 (λ _. c.the f)
    pub need : {g : l.level} (b : Bool) (r : Refusal) → Rusts r → R _ g g 0 0 (λ _. c.need b r)
    pub refuse : {A : Type 0} {g h : l.level} (r : Refusal) → Rusts r → R A g h 0 0 (λ _. c.refuse r)
    pub resolve : {g : l.level} (name : ℕ) (span : Span) → R _ g g 2 48 (λ _. c.resolve name span)
    pub patch_jump : {g : l.level} (at : ℕ) (span : Span) → R _ g g 0 0 (λ _. c.patch_jump at span)
    pub declare_local : {g : l.level} (name : ℕ) (span : Span) → R _ g g 1 12 (λ _. c.declare_local name span)
    pub define_local : {g : l.level} → R _ g g 0 0 (λ _. c.define_local)
    pub begin_scope : {g : l.level} → R _ g g 0 0 (λ _. c.begin_scope)
    pub push_class_ctx : {g : l.level} (b : Bool) → R _ g g 0 0 (λ _. c.push_class_ctx b)
    pub pop_class_ctx : {g : l.level} → R _ g g 0 0 (λ _. c.pop_class_ctx)
    pub begin_ctx : {g h : l.level} (name arity depth : ℕ) (type : FunctionType) → Inner type → l.opens g h → l.name name → arity ≤ 255 →
        R _ g h 0 0 (λ _. c.begin_ctx (c.new_ctx name arity type depth))
    -- steps that write: the bytes of a scope's end are paid for where its locals are declared, a closure's pairs where they are captured
    pub emit_u8 : {g : l.level} (b : ℕ) (span : Span) → l.span span → R _ g g 1 12 (λ limit. c.emit_u8 limit b span)
    pub emit_constant : {g : l.level} (v : Constant) (span : Span) → OfConstant l v → l.span span →
        R _ g g 1 22 (λ limit. c.emit_constant limit v span)
    pub end_scope : {g : l.level} (span : Span) → l.span span → R _ g g 0 0 (λ limit. c.end_scope limit span)
    pub end_function : {g h : l.level} (span : Span) → l.opens g h → l.span span →
        R _ h g 3 68 (λ limit. c.end_function limit span)

  module _ (laws : Laws) where
    infixl 10 ◌>>=◌
    infixl 10 ◌>>◌
    open laws use {
      no_span,
      this_named,
      super_named,
      ◌>>=◌,
      ◌>>◌,
      enough,
      needs,
      return,
      the,
      need,
      refuse,
      resolve,
      patch_jump,
      declare_local,
      define_local,
      begin_scope,
      push_class_ctx,
      pop_class_ctx,
      begin_ctx,
      emit_u8,
      emit_constant,
      end_scope,
      end_function,
    }

    -- a step that comes to no value
    abbrev Has : (g h : l.level) → (code image : ℕ) → (ℕ → Compile (Unit {0})) → Type 0
    Has g h code image m = R (Unit {0}) g h code image m

    done : {g : l.level} → R _ g g 0 0 (λ _. c.done)
    unfolding c.done
    done = return tt

    either : {g h : l.level} {n w : ℕ} {m p : ℕ → Compile (Unit {0})} (b : Bool) → R _ g h n w m → R _ g h n w p →
        R _ g h n w (λ limit. if b then m limit else p limit)
    either true hm hp = hm
    either false hm hp = hp

    -- ## Instructions

    emit_op : {g : l.level} (b : ℕ) (span : Span) → l.span span → Has g g 1 12 (λ limit. c.emit_op limit b span)
    unfolding c.emit_op
    emit_op b span s = emit_u8 b span s

    emit_op_u8 : {g : l.level} (b n : ℕ) (span : Span) → l.span span → Has g g 2 24 (λ limit. c.emit_op_u8 limit b n span)
    unfolding c.emit_op_u8
    emit_op_u8 b n span s = do
      emit_u8 _ _ s
      emit_u8 _ _ s

    pub emit_op_constant : {g : l.level} (b : ℕ) (v : Constant) (span : Span) → OfConstant l v → l.span span →
        Has g g 2 34 (λ limit. c.emit_op_constant limit b v span)
    unfolding c.emit_op_constant
    emit_op_constant b v span o s = do
      emit_u8 _ _ s
      emit_constant _ _ o s

    emit_invoke : {g : l.level} (b name n : ℕ) (span : Span) → l.name name → l.span span →
        Has g g 3 46 (λ limit. c.emit_invoke limit b (CS name) n span)
    unfolding c.emit_invoke
    emit_invoke b name n span o s = do
      emit_u8 _ _ s
      emit_constant (CS name) _ o s
      emit_u8 _ _ s

    code_length : {g : l.level} → R _ g g 0 0 (λ _. c.code_length)
    unfolding c.code_length
    code_length = the _

    emit_jump : {g : l.level} (b : ℕ) (span : Span) → l.span span → R _ g g 3 36 (λ limit. c.emit_jump limit b span)
    unfolding c.emit_jump
    emit_jump b span s = do
      emit_u8 _ _ s
      emit_u8 _ _ s
      emit_u8 _ _ s
      size ← code_length
      return _

    emit_loop : {g : l.level} (at : ℕ) (span : Span) → l.span span → Has g g 3 36 (λ limit. c.emit_loop limit at span)
    unfolding c.emit_loop
    emit_loop at span s = do
      size ← code_length
      need _ _ tt
      emit_u8 _ _ s
      emit_u8 _ _ s
      emit_u8 _ _ s

    get_place : {g : l.level} (p : c.Place) (name : ℕ) (span : Span) → l.name name → l.span span →
        Has g g 2 34 (λ limit. c.get_place limit p name span)
    unfolding c.get_place
    get_place (c.local_at slot) name span n s = enough (emit_op_u8 _ _ _ s) (omega arith) (omega arith)
    get_place (c.upvalue_at idx) name span n s = enough (emit_op_u8 _ _ _ s) (omega arith) (omega arith)
    get_place c.global_named name span n s = emit_op_constant _ (CS name) _ n s

    get_variable : {g : l.level} (name : ℕ) (span : Span) → l.name name → l.span span → Has g g 4 82 (λ limit. c.get_variable limit name span)
    unfolding c.get_variable
    get_variable name span n s = do
      classes ← the _
      need _ _ tt
      place ← resolve _ _
      get_place place _ _ n s

    set_place : {g : l.level} (p : c.Place) (name : ℕ) (span : Span) → l.name name → l.span span →
        Has g g 2 34 (λ limit. c.set_place limit p name span)
    unfolding c.set_place
    set_place (c.local_at slot) name span n s = enough (emit_op_u8 _ _ _ s) (omega arith) (omega arith)
    set_place (c.upvalue_at idx) name span n s = enough (emit_op_u8 _ _ _ s) (omega arith) (omega arith)
    set_place c.global_named name span n s = emit_op_constant _ (CS name) _ n s

    set_variable : {g : l.level} (name : ℕ) (span : Span) → l.name name → l.span span → Has g g 4 82 (λ limit. c.set_variable limit name span)
    unfolding c.set_variable
    set_variable name span n s = do
      place ← resolve _ _
      set_place place _ _ n s

    -- ## Expressions

    compile_literal : {g : l.level} (k : ExprLiteral) (span : Span) → OfLiteral l k → l.span span →
        Has g g 2 34 (λ limit. c.compile_literal limit k span)
    unfolding c.compile_literal
    compile_literal (LitBool true) span o s = enough (emit_op _ _ s) (omega arith) (omega arith)
    compile_literal (LitBool false) span o s = enough (emit_op _ _ s) (omega arith) (omega arith)
    compile_literal LitNil span o s = enough (emit_op _ _ s) (omega arith) (omega arith)
    compile_literal (LitNumber bits) span o s = emit_op_constant _ (CN bits) _ o s
    compile_literal (LitString name) span o s = emit_op_constant _ (CS name) _ o s

    -- the right side, and what stands around it
    after : {g : l.level} {n k w v : ℕ} {rt m : ℕ → Compile (Unit {0})} → R _ g g n w rt → R _ g g k v m → k ≤ 7 → v ≤ 84 →
        R _ g g (n + 7) (w + 84) (λ limit. c.◌>>◌ (rt limit) (m limit))
    after hr hm b b' = enough (hr >> hm) (omega arith) (omega arith)

    compile_infix : {g : l.level} {n w : ℕ} (o : OpInfix) (rt : ℕ → Compile (Unit {0})) (span : Span) → R _ g g n w rt → l.span span →
        R _ g g (n + 7) (w + 84) (λ limit. c.compile_infix limit o (rt limit) span)
    unfolding c.compile_infix
    compile_infix Add rt span h s = after h (emit_op _ _ s) (omega arith) (omega arith)
    compile_infix Subtract rt span h s = after h (emit_op _ _ s) (omega arith) (omega arith)
    compile_infix Multiply rt span h s = after h (emit_op _ _ s) (omega arith) (omega arith)
    compile_infix Divide rt span h s = after h (emit_op _ _ s) (omega arith) (omega arith)
    compile_infix Less rt span h s = after h (emit_op _ _ s) (omega arith) (omega arith)
    compile_infix LessEqual rt span h s = after h (emit_op _ _ s) (omega arith) (omega arith)
    compile_infix Greater rt span h s = after h (emit_op _ _ s) (omega arith) (omega arith)
    compile_infix GreaterEqual rt span h s = after h (emit_op _ _ s) (omega arith) (omega arith)
    compile_infix Equal rt span h s = after h (emit_op _ _ s) (omega arith) (omega arith)
    compile_infix NotEqual rt span h s = after h (emit_op _ _ s) (omega arith) (omega arith)
    compile_infix LogicAnd rt span h s =
        enough
        (do
          jump-to-end ← emit_jump _ _ s
          emit_op _ _ s
          h
          patch_jump _ _)
        (omega arith) (omega arith)
    compile_infix LogicOr rt span h s =
        enough
        (do
          jump-to-right-expr ← emit_jump _ _ s
          jump-to-end ← emit_jump _ _ s
          patch_jump _ _
          emit_op _ _ s
          h
          patch_jump _ _)
        (omega arith) (omega arith)

    innermost_has_super : {g : l.level} (classes : List Bool) (span : Span) →
        R _ g g 0 0 (λ _. c.innermost_has_super classes span)
    unfolding c.innermost_has_super
    innermost_has_super [] span = refuse _ tt
    innermost_has_super (b ∷ _) span = need b _ tt

    need_super : {g : l.level} (span : Span) → R _ g g 0 0 (λ _. c.need_super span)
    unfolding c.need_super
    need_super span = do
      classes ← the _
      innermost_has_super classes _

    compile_super : {g : l.level} (name : ℕ) (span : Span) → l.name name → l.span span →
        Has g g 10 198 (λ limit. c.compile_super limit name span)
    unfolding c.compile_super
    compile_super name span n s = do
      need_super _
      get_variable _ _ this_named s
      get_variable _ _ super_named s
      emit_op_constant _ (CS name) _ n s

    call_method : {g : l.level} {n k w v : ℕ} {object args : ℕ → Compile (Unit {0})} (name count : ℕ) (span : Span) →
        R _ g g n w object → R _ g g k v args → l.name name → l.span span →
        R _ g g (n + k + 3) (w + v + 46) (λ limit. c.call_method limit (object limit) (args limit) name count span)
    unfolding c.call_method
    call_method name count span ho ha n s =
        enough
        (do
          ho
          ha
          emit_invoke _ name _ _ n s)
        (omega arith) (omega arith)

    call_super : {g : l.level} {k v : ℕ} {args : ℕ → Compile (Unit {0})} (name count : ℕ) (span : Span) → R _ g g k v args → l.name name →
        l.span span →
        R _ g g (k + 11) (v + 210) (λ limit. c.call_super limit (args limit) name count span)
    unfolding c.call_super
    call_super name count span ha n s =
        enough
        (do
          need_super _
          get_variable _ _ this_named s
          ha
          get_variable _ _ super_named s
          emit_invoke _ name _ _ n s)
        (omega arith) (omega arith)

    call_value : {g : l.level} {n k w v : ℕ} {callee args : ℕ → Compile (Unit {0})} (count : ℕ) (span : Span) →
        R _ g g n w callee →
        R _ g g k v args → l.span span →
        R _ g g (n + k + 12) (w + v + 204) (λ limit. c.call_value limit (callee limit) (args limit) count span)
    unfolding c.call_value
    call_value count span hc ha s =
        enough
        (do
          hc
          ha
          emit_op_u8 _ _ _ s)
        (omega arith) (omega arith)

    mutual
      unfolding c.compile_expr

      pub compile_expr : (e : Expr) {g : l.level} → OfExpr l e → Has g g (expr_size e) (17 * expr_size e) (λ limit. c.compile_expr limit e)
      compile_expr (ExprAssign span name value) o =
          enough
          (do
            compile_expr value o.2
            set_variable _ _ o.1 o.0)
          (omega arith) (omega arith)
      compile_expr (ExprCall span callee args) o =
          enough
          (do
            need _ _ tt
            compile_call callee _ _ (compile_expr callee o.1) (compile_exprs args o.2) o.1 o.0)
          (omega arith) (omega arith)
      compile_expr (ExprGet span name object) o =
          enough
          (do
            compile_expr object o.2
            emit_op_constant _ (CS name) _ o.1 o.0)
          (omega arith) (omega arith)
      compile_expr (ExprInfix span op lt rt) o =
          enough
          (do
            compile_expr lt o.1
            compile_infix op _ _ (compile_expr rt o.2) o.0)
          (omega arith) (omega arith)
      compile_expr (Literal span k) o = enough (compile_literal k span o.1 o.0) (omega arith) (omega arith)
      compile_expr (ExprPrefix span op rt) o =
          enough
          (do
            compile_expr rt o.1
            emit_op _ _ o.0)
          (omega arith) (omega arith)
      compile_expr (ExprSet span name value object) o =
          enough
          (do
            compile_expr value o.2
            compile_expr object o.3
            emit_op_constant _ (CS name) _ o.1 o.0)
          (omega arith) (omega arith)
      compile_expr (ExprSuper span name) o = enough (compile_super name span o.1 o.0) (omega arith) (omega arith)
      compile_expr (ExprVar span name) o = enough (get_variable name span o.1 o.0) (omega arith) (omega arith)

      pub compile_call : (e : Expr) (n : ℕ) (span : Span) {g : l.level} {k v : ℕ} {callee args : ℕ → Compile (Unit {0})} →
          R _ g g (expr_size e) (17 * expr_size e) callee → R _ g g k v args →
          OfExpr l e → l.span span → R _ g g (expr_size e + k + 12) (17 * expr_size e + v + 204) (λ limit. c.compile_call limit e (callee limit) (args limit) n span)
      compile_call (ExprGet _ name object) n span hc ha o s =
          enough (call_method name n span (compile_expr object o.2) ha o.1 s) (omega arith) (omega arith)
      compile_call (ExprSuper _ name) n span hc ha o s = enough (call_super name n span ha o.1 s) (omega arith) (omega arith)
      compile_call (ExprAssign _ _ _) n span hc ha o s = call_value n span hc ha s
      compile_call (ExprCall _ _ _) n span hc ha o s = call_value n span hc ha s
      compile_call (ExprInfix _ _ _ _) n span hc ha o s = call_value n span hc ha s
      compile_call (Literal _ _) n span hc ha o s = call_value n span hc ha s
      compile_call (ExprPrefix _ _ _) n span hc ha o s = call_value n span hc ha s
      compile_call (ExprSet _ _ _ _) n span hc ha o s = call_value n span hc ha s
      compile_call (ExprVar _ _) n span hc ha o s = call_value n span hc ha s

      pub compile_exprs : (es : Exprs) {g : l.level} → OfExprs l es →
          Has g g (exprs_size es) (17 * exprs_size es) (λ limit. c.compile_exprs limit es)
      compile_exprs []ᵉ o = done
      compile_exprs (e ∷ᵉ es) o =
          enough
          (do
            compile_expr e o.0
            compile_exprs es o.1)
          (omega arith) (omega arith)

    -- ## Statements

    compile_value : {g : l.level} (v : Option Expr) (span : Span) → IfSome (OfExpr l) v → l.span span →
        Has g g (option_size expr_size v + 1) (17 * option_size expr_size v + 12) (λ limit. c.compile_value limit v span)
    unfolding c.compile_value
    compile_value none span o s = emit_op _ _ s
    compile_value (some value) span o s = enough (compile_expr value o) (omega arith) (omega arith)

    return_value : {g : l.level} (t : FunctionType) (v : Option Expr) (span : Span) → IfSome (OfExpr l) v → l.span span →
        Has g g (option_size expr_size v + 2) (17 * option_size expr_size v + 24) (λ limit. c.return_value limit t v span)
    unfolding c.return_value
    return_value Script v span o s = enough (refuse _ tt) (omega arith) (omega arith)
    return_value Initializer (some value) span o s = enough (refuse _ tt) (omega arith) (omega arith)
    return_value Initializer none span o s = emit_op_u8 _ _ _ s
    return_value Function v span o s = enough (compile_value v span o s) (omega arith) (omega arith)
    return_value Method v span o s = enough (compile_value v span o s) (omega arith) (omega arith)

    compile_return : {g : l.level} (v : Option Expr) (span : Span) → IfSome (OfExpr l) v → l.span span →
        Has g g (option_size expr_size v + 3) (17 * option_size expr_size v + 36) (λ limit. c.compile_return limit v span)
    unfolding c.compile_return
    compile_return v span o s =
        enough
        (do
          type ← the _
          return_value type v _ o s
          emit_op _ _ s)
        (omega arith) (omega arith)

    is_global : {g : l.level} → R _ g g 0 0 (λ _. c.is_global)
    unfolding c.is_global
    is_global = the _

    define_global : {g : l.level} (name : ℕ) (span : Span) → l.name name → l.span span → Has g g 2 34 (λ limit. c.define_global limit name span)
    unfolding c.define_global
    define_global name span n s = emit_op_constant _ (CS name) _ n s

    compile_var : {g : l.level} (name : ℕ) (v : Option Expr) (span : Span) → IfSome (OfExpr l) v → l.name name → l.span span →
        Has g g (option_size expr_size v + 3) (17 * option_size expr_size v + 46) (λ limit. c.compile_var limit name v span)
    unfolding c.compile_var
    compile_var name v span o n s =
        enough
        (do
          global ← is_global
          either global
              (do
                compile_value v _ o s
                define_global _ _ n s)
              (enough
              (do
                declare_local _ _
                compile_value v _ o s
                define_local)
              (omega arith) (omega arith)))
        (omega arith) (omega arith)

    pub define_name : {g : l.level} (name : ℕ) (span : Span) → l.name name → l.span span → Has g g 2 34 (λ limit. c.define_name limit name span)
    unfolding c.define_name
    define_name name span n s = do
      global ← is_global
      either global (define_global _ _ n s) (enough (declare_local _ _ >> define_local) (omega arith) (omega arith))

    compile_superclass : {g : l.level} (class : ℕ) (sup : Option Superclass) (span : Span) → IfSome (OfSuperclass l) sup → l.name class →
        l.span span →
        Has g g (option_size (λ _. 12) sup) (17 * option_size (λ _. 12) sup) (λ limit. c.compile_superclass limit class sup span)
    unfolding c.compile_superclass
    compile_superclass class none span o n s = done
    compile_superclass class (some sup) span o n s =
        enough
        (do
          need _ _ tt
          begin_scope
          declare_local _ _
          define_local
          get_variable _ _ o.name o.span
          get_variable _ _ n s
          emit_op _ _ s)
        (omega arith) (omega arith)

    end_superclass : {g : l.level} (sup : Option Superclass) → Has g g 0 0 (λ limit. c.end_superclass limit sup)
    unfolding c.end_superclass
    end_superclass none = done
    end_superclass (some sup) = end_scope _ no_span

    for_cond : {g : l.level} (cond : Option Expr) (span : Span) → IfSome (OfExpr l) cond → l.span span →
        R _ g g (option_size expr_size cond + 4) (17 * option_size expr_size cond + 48) (λ limit. c.for_cond limit cond span)
    unfolding c.for_cond
    for_cond none span o s = enough (return none) (omega arith) (omega arith)
    for_cond (some cond) span o s =
        enough
        (do
          compile_expr cond o
          j ← emit_jump _ _ s
          emit_op _ _ s
          return (some j))
        (omega arith) (omega arith)

    for_incr : {g : l.level} (incr : Option Expr) (span : Span) → IfSome (OfExpr l) incr → l.span span →
        Has g g (option_size expr_size incr + 1) (17 * option_size expr_size incr + 12) (λ limit. c.for_incr limit incr span)
    unfolding c.for_incr
    for_incr none span o s = enough done (omega arith) (omega arith)
    for_incr (some incr) span o s =
        enough
        (do
          compile_expr incr o
          emit_op _ _ s)
        (omega arith) (omega arith)

    for_end : {g : l.level} (j : Option ℕ) (span : Span) → l.span span → Has g g 1 12 (λ limit. c.for_end limit j span)
    unfolding c.for_end
    for_end none span s = enough done (omega arith) (omega arith)
    for_end (some j) span s = do
      patch_jump _ _
      emit_op _ _ s

    pub declare_params : {g : l.level} (ps : List ℕ) (span : Span) →
        R _ g g (length ps) (12 * length ps) (λ _. c.declare_params ps span)
    unfolding c.declare_params
    declare_params [] span = done
    declare_params (p ∷ ps) span =
        enough
        (do
          declare_local _ _
          define_local
          declare_params ps span)
        (omega arith) (omega arith)

    pub implicit_return : {g : l.level} → Has g g 3 36 (λ limit. c.implicit_return limit)
    unfolding c.implicit_return
    implicit_return = do
      ops ← the _
      either (c.ends_in_return ops) (enough done (omega arith) (omega arith)) (compile_return none NO_SPAN tt no_span)

    compile_function_with : {g h : l.level} {n w : ℕ} (type : FunctionType) (name : ℕ) (params : List ℕ) {body : ℕ → Compile (Unit {0})}
        (span : Span) → Inner type → l.opens g h → R _ h h n w body →
        l.name name → l.span span →
        R _ g g (length params + n + 7) (12 * length params + w + 116) (λ limit. c.compile_function_with limit type name params (body limit) span)
    unfolding c.compile_function_with
    compile_function_with type name params span inner up hb n s =
        needs (leb (length params) 255) _ tt
        (λ t. enough
        (do
          depth ← the _
          begin_ctx _ _ _ _ inner up n (leb→le (length params) 255 t)
          declare_local _ _
          define_local
          declare_params params _
          hb
          implicit_return
          end_function _ up s)
        (omega arith) (omega arith))

    fun_name_of : (f : Fun) (h : l.level) → OfFun l f h → l.name (c.fun_name f)
    unfolding c.fun_name
    fun_name_of (fun name params body) h o = o.0

    mutual
      unfolding c.compile_stmt

      pub compile_stmt : (t : Stmt) (g : l.level) → OfStmt l t g → Has g g (stmt_size t) (17 * stmt_size t) (λ limit. c.compile_stmt limit t)
      compile_stmt (StmtBlock span stmts) g o =
          enough
          (do
            begin_scope
            compile_stmts stmts g o.1
            end_scope _ o.0)
          (omega arith) (omega arith)
      compile_stmt (StmtClass span name sup methods) g o =
          enough
          (do
            emit_op_constant _ (CS name) _ o.1 o.0
            define_name _ _ o.1 o.0
            push_class_ctx _
            compile_superclass _ sup _ o.2 o.1 o.0
            either (c.some_methods methods)
                (do
                  get_variable _ _ o.1 o.0
                  compile_methods methods g o.3
                  emit_op _ _ o.0)
                (enough done (omega arith) (omega arith))
            end_superclass sup
            pop_class_ctx)
          (omega arith) (omega arith)
      compile_stmt (StmtExpr span value) g o =
          enough
          (do
            compile_expr value o.1
            emit_op _ _ o.0)
          (omega arith) (omega arith)
      compile_stmt (StmtFor span init cond body incr) g o =
          enough
          (do
            begin_scope
            compile_stmts init g o.1
            at ← code_length
            j ← for_cond cond _ o.2 o.0
            compile_stmt body g o.3
            for_incr incr _ o.4 o.0
            emit_loop at _ o.0
            for_end j _ o.0
            end_scope _ o.0)
          (omega arith) (omega arith)
      compile_stmt (StmtFun span f) g o =
          enough
          (do
            compile_function f o.1 g Function _ tt o.3 o.2 o.0
            define_name _ _ (fun_name_of f o.1 o.3) o.0)
          (omega arith) (omega arith)
      compile_stmt (StmtIf span cond yes_part no_part) g o =
          enough
          (do
            compile_expr cond o.1
            j ← emit_jump _ _ o.0
            emit_op _ _ o.0
            compile_stmt yes_part g o.2
            e ← emit_jump _ _ o.0
            patch_jump j _
            emit_op _ _ o.0
            compile_stmts no_part g o.3
            patch_jump e _)
          (omega arith) (omega arith)
      compile_stmt (StmtPrint span value) g o =
          enough
          (do
            compile_expr value o.1
            emit_op _ _ o.0)
          (omega arith) (omega arith)
      compile_stmt (StmtReturn span value) g o = enough (compile_return value span o.1 o.0) (omega arith) (omega arith)
      compile_stmt (StmtVar span name value) g o = enough (compile_var name value span o.2 o.1 o.0) (omega arith) (omega arith)
      compile_stmt (StmtWhile span cond body) g o =
          enough
          (do
            at ← code_length
            compile_expr cond o.1
            j ← emit_jump _ _ o.0
            emit_op _ _ o.0
            compile_stmt body g o.2
            emit_loop at _ o.0
            patch_jump j _
            emit_op _ _ o.0)
          (omega arith) (omega arith)

      pub compile_stmts : (ts : Stmts) (g : l.level) → OfStmts l ts g →
          Has g g (stmts_size ts) (17 * stmts_size ts) (λ limit. c.compile_stmts limit ts)
      compile_stmts []ˢ g o = done
      compile_stmts (t ∷ˢ ts) g o =
          enough
          (do
            compile_stmt t g o.0
            compile_stmts ts g o.1)
          (omega arith) (omega arith)

      pub compile_function : (f : Fun) (h g : l.level) (type : FunctionType) (span : Span) → Inner type → OfFun l f h → l.opens g h → l.span span →
          Has g g (fun_size f + 1) (17 * fun_size f + 14) (λ limit. c.compile_function limit f type span)
      compile_function (fun name params body) h g type span inner o up s =
          enough (compile_function_with type name params span inner up (compile_stmts body h o.2) o.0 s) (omega arith) (omega arith)

      pub compile_methods : (ms : Methods) (g : l.level) → OfMethods l ms g →
          Has g g (methods_size ms) (17 * methods_size ms) (λ limit. c.compile_methods limit ms)
      compile_methods []ᵐ g o = done
      compile_methods (method span f ms) g o =
          enough
          (do
            compile_function f o.1 g _ _ (method_inner (c.fun_name f)) o.3 o.2 o.0
            emit_op_constant _ (CS (c.fun_name f)) _ (fun_name_of f o.1 o.3) o.0
            compile_methods ms g o.4)
          (omega arith) (omega arith)

    pub compile_script : (ts : Stmts) (g : l.level) → OfStmts l ts g →
        Has g g (stmts_size ts + 2) (17 * stmts_size ts + 24) (λ limit. c.compile_script limit ts)
    unfolding c.compile_script
    compile_script ts g o =
        enough
        (do
          compile_stmts ts g o
          emit_op _ _ no_span
          emit_op _ _ no_span)
        (omega arith) (omega arith)
