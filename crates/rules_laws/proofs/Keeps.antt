-- What the instructions keep, the compiler keeps. `I g` is a fact of the state, where `g` says which jumps wait for their target and which
-- places may be gone back to. From a law for each instruction and each small step, the law for every expression and statement.
use mathlib.Core.Path.{◌≡◌, refl}
use mathlib.Core.Bool.{Bool, true, false}
use mathlib.Core.Option.{Option, none, some}
use mathlib.Core.List.{List, ◌∷◌, []}
use Prim.Native.Nat.{ℕ, ◌<◌}
use native.Mathlib.Omega.{arith}
use lib.Dec.{T, leb, leb→le}
use Rattle.std.specs.Prelude.{if◌then◌else◌}
use Rattle.rules.specs.declared.Span.{Span}
use Rattle.rules.specs.declared.Refusal.{Refusal}
use Rattle.rules.specs.Answer.{NO_SPAN}
use Rattle.rules.specs.Tree.{Expr, Exprs, ExprAssign, ExprCall, ExprGet, ExprInfix, Literal, ExprPrefix, ExprSet, ExprSuper, ExprVar, ◌∷ᵉ◌, count_exprs, []ᵉ, []ˢ, []ᵐ}
use Rattle.rules.specs.Tree.{OpInfix, Add, Subtract, Multiply, Divide, Less, LessEqual, Greater, GreaterEqual, Equal, NotEqual, LogicAnd, LogicOr}
use Rattle.rules.specs.Tree.{OpPrefix, Negate, Not, ExprLiteral, LitBool, LitNil, LitNumber, LitString, Superclass}
use Rattle.rules.specs.Tree.{Stmt, Stmts, StmtBlock, StmtClass, StmtExpr, StmtFor, StmtFun, StmtIf, StmtPrint, StmtReturn, StmtVar, StmtWhile, ◌∷ˢ◌}
use Rattle.rules.specs.Tree.{Fun, fun, Methods, method}
use Rattle.rules.specs.Op as op
use Rattle.rules.specs.Op.{operands_of, Plain, Byte, Text, Invoke, Ahead}
use Rattle.rules.specs.Chunk.{CN, CS}
use Rattle.rules.specs.Compiler as c
use Rattle.rules.specs.Compiler.{Compiler, Compile, Outcome, ok, err, go_on, FunctionType, Script, Function, Method, Initializer}
use Rattle.rules.proofs.Computes as computes

abbrev pub After : {A : Type 0} → (A → Compiler → Type 0) → Outcome A → Type 0
After Q (ok a s) = Q a s
After Q (err x) = Unit {0}

-- from a state with `P`, the step refuses or comes to a value and a state with `Q`
pub record Triple {A : Type 0} (P : Compiler → Type 0) (m : Compile A) (Q : A → Compiler → Type 0) : Type 0 where
  pub run : (s : Compiler) → P s → After Q (m s)

after : {A B : Type 0} {Q : A → Compiler → Type 0} {R : B → Compiler → Type 0} (o : Outcome A) (f : A → Compile B) →
    After Q o → ((a : A) → Triple (Q a) (f a) R) → After R (go_on o f)
unfolding go_on
after (ok a s) f q hf = (hf a).run s q
after (err x) f q hf = tt

infixl 10 ◌>>=◌
pub ◌>>=◌ : {A B : Type 0} {P : Compiler → Type 0} {m : Compile A} {Q : A → Compiler → Type 0} {f : A → Compile B} {R : B → Compiler → Type 0} →
    Triple P m Q → ((a : A) → Triple (Q a) (f a) R) → Triple P (c.◌>>=◌ m f) R
unfolding c.◌>>=◌
◌>>=◌ {m = m} {f = f} hm hf = record { run = λ s p. after (m s) f (hm.run s p) hf }

infixl 10 ◌>>◌
pub ◌>>◌ : {A B : Type 0} {P Q : Compiler → Type 0} {m : Compile A} {n : Compile B} {R : B → Compiler → Type 0} →
    Triple P m (λ _. Q) → Triple Q n R → Triple P (c.◌>>◌ m n) R
unfolding c.◌>>◌
◌>>◌ {m = m} {n = n} hm hn = record { run = λ s p. after (m s) (λ _. n) (hm.run s p) (λ _. hn) }

pub return : {A : Type 0} {P : Compiler → Type 0} (a : A) → Triple P (c.return a) (λ _. P)
unfolding c.return
return a = record { run = λ s p. p }

-- what holds of the value holds after
pub gives : {A : Type 0} {Q : A → Compiler → Type 0} (a : A) → Triple (Q a) (c.return a) Q
unfolding c.return
gives a = record { run = λ s p. p }

pub the : {A : Type 0} {P : Compiler → Type 0} (f : Compiler → A) → Triple P (c.the f) (λ _. P)
unfolding c.the
the f = record { run = λ s p. p }

pub need : {P : Compiler → Type 0} (b : Bool) (r : Refusal) → Triple P (c.need b r) (λ _. P)
unfolding c.need
need true r = record { run = λ s p. p }
need false r = record { run = λ s p. tt }

pub refuse : {A : Type 0} {P : Compiler → Type 0} {Q : A → Compiler → Type 0} (r : Refusal) → Triple P (c.refuse r) Q
unfolding c.refuse
refuse r = record { run = λ s p. tt }

pub skip : {P : Compiler → Type 0} → Triple P c.done (λ _. P)
unfolding c.done c.return
skip = record { run = λ s p. p }

pub either : {A : Type 0} {P : Compiler → Type 0} {Q : A → Compiler → Type 0} {m n : Compile A} (b : Bool) →
    Triple P m Q → Triple P n Q → Triple P (if b then m else n) Q
either true hm hn = hm
either false hm hn = hn

-- a weaker fact after, or a stronger one before
pub so : {A : Type 0} {P : Compiler → Type 0} {Q R : A → Compiler → Type 0} {m : Compile A} →
    Triple P m Q → ((a : A) (s : Compiler) → Q a s → R a s) → Triple P m R
so {A} {Q = Q} {R = R} {m = m} hm h = record { run = λ s p. weaker (m s) (hm.run s p) }
  where
    weaker : (o : Outcome A) → After Q o → After R o
    weaker (ok a s) q = h a s q
    weaker (err x) q = tt

pub given : {A : Type 0} {P P' : Compiler → Type 0} {Q : A → Compiler → Type 0} {m : Compile A} →
    ((s : Compiler) → P s → P' s) → Triple P' m Q → Triple P m Q
given h hm = record { run = λ s p. hm.run s (h s p) }

-- what a step gives, said of the state that it found
pub the_told : {A : Type 0} {P : Compiler → Type 0} (f : Compiler → A) → Triple P (c.the f) (λ a s. (a ≡ f s) × P s)
unfolding c.the
the_told f = record { run = λ s p. (refl, p) }

pub need_told : {P : Compiler → Type 0} (b : Bool) (r : Refusal) → Triple P (c.need b r) (λ _ s. T b × P s)
unfolding c.need
need_told true r = record { run = λ s p. (tt, p) }
need_told false r = record { run = λ s p. tt }

-- a fact that says nothing of the state
pub whence : {A F : Type 0} {P : Compiler → Type 0} {Q : A → Compiler → Type 0} {m : Compile A} → (F → Triple P m Q) → Triple (λ s. F × P s) m Q
whence h = record { run = λ s p. (h p.0).run s p.1 }

module _ (G : Type 0) (I : G → Compiler → Type 0) (limit : ℕ) where
  abbrev pub Keeps : {A : Type 0} → Compile A → Type 0
  Keeps m = (g : G) → Triple (I g) m (λ _. I g)

  -- the laws of what expressions are made of; `waits at g` has one more jump that waits for its target, with its operand at `at`
  pub record ExprLaws (waits : ℕ → G → G) : Type 0 where
    pub emit_op : (b : ℕ) (span : Span) → operands_of b ≡ some Plain → Keeps (c.emit_op limit b span)
    pub emit_op_u8 : (b n : ℕ) (span : Span) → operands_of b ≡ some Byte → n < 256 → Keeps (c.emit_op_u8 limit b n span)
    pub emit_number : (bits : ℕ) (span : Span) → Keeps (c.emit_op_constant limit op.CONSTANT (CN bits) span)
    pub emit_string : (name : ℕ) (span : Span) → Keeps (c.emit_op_constant limit op.CONSTANT (CS name) span)
    pub emit_text : (b name : ℕ) (span : Span) → operands_of b ≡ some Text → Keeps (c.emit_op_constant limit b (CS name) span)
    pub emit_invoke : (b name n : ℕ) (span : Span) → operands_of b ≡ some Invoke → n < 256 → Keeps (c.emit_invoke limit b (CS name) n span)
    pub get_variable : (name : ℕ) (span : Span) → Keeps (c.get_variable limit name span)
    pub set_variable : (name : ℕ) (span : Span) → Keeps (c.set_variable limit name span)
    pub emit_jump : (b : ℕ) (span : Span) → operands_of b ≡ some Ahead → (g : G) → Triple (I g) (c.emit_jump limit b span) (λ at. I (waits at g))
    pub patch_jump : (at : ℕ) (span : Span) (g : G) → Triple (I (waits at g)) (c.patch_jump at span) (λ _. I g)
    pub swap_waits : (i j : ℕ) (g : G) (s : Compiler) → I (waits i (waits j g)) s → I (waits j (waits i g)) s

  -- and of the other small steps; `backs at g` has one more place to go back to, `opens g` one more open function, `enters b g` one more class
  -- around the place
  pub record Laws (waits backs : ℕ → G → G) (opens : G → G) (enters : Bool → G → G) : Type 0 where
    pub exprs : ExprLaws waits
    pub code_length : (g : G) → Triple (I g) c.code_length (λ at. I (backs at g))
    pub emit_loop : (at : ℕ) (span : Span) (g : G) → Triple (I (backs at g)) (c.emit_loop limit at span) (λ _. I g)
    pub declare_local : (name : ℕ) (span : Span) → Keeps (c.declare_local name span)
    pub define_local : Keeps c.define_local
    pub begin_scope : Keeps c.begin_scope
    pub end_scope : (span : Span) → Keeps (c.end_scope limit span)
    pub push_class_ctx : (b : Bool) (g : G) → Triple (I g) (c.push_class_ctx b) (λ _. I (enters b g))
    pub pop_class_ctx : (b : Bool) (g : G) → Triple (I (enters b g)) c.pop_class_ctx (λ _. I g)
    pub begin_ctx : (name arity depth : ℕ) (type : FunctionType) (g : G) →
        Triple (I g) (c.begin_ctx (c.new_ctx name arity type depth)) (λ _. I (opens g))
    pub end_function : (span : Span) (g : G) → Triple (I (opens g)) (c.end_function limit span) (λ _. I g)
    pub swap_backs : (i j : ℕ) (g : G) (s : Compiler) → I (waits i (backs j g)) s → I (backs j (waits i g)) s

  module _ (waits : ℕ → G → G) (l : ExprLaws waits) where
    open l use {emit_op, emit_op_u8, emit_number, emit_string, emit_text, emit_invoke, get_variable, set_variable, emit_jump, patch_jump, swap_waits}

    prefix_plain : (o : OpPrefix) → operands_of (c.prefix_op o) ≡ some Plain
    unfolding c.prefix_op computes.op
    prefix_plain Negate = refl
    prefix_plain Not = refl

    compile_literal : (k : ExprLiteral) (span : Span) → Keeps (c.compile_literal limit k span)
    unfolding c.compile_literal computes.op
    compile_literal (LitBool true) span g = emit_op _ _ refl g
    compile_literal (LitBool false) span g = emit_op _ _ refl g
    compile_literal LitNil span g = emit_op _ _ refl g
    compile_literal (LitNumber bits) span g = emit_number _ _ g
    compile_literal (LitString name) span g = emit_string _ _ g

    compile_infix : (o : OpInfix) (rt : Compile Unit) (span : Span) → Keeps rt → Keeps (c.compile_infix limit o rt span)
    unfolding c.compile_infix computes.op
    compile_infix Add rt span h g = h g >> emit_op _ _ refl g
    compile_infix Subtract rt span h g = h g >> emit_op _ _ refl g
    compile_infix Multiply rt span h g = h g >> emit_op _ _ refl g
    compile_infix Divide rt span h g = h g >> emit_op _ _ refl g
    compile_infix Less rt span h g = h g >> emit_op _ _ refl g
    compile_infix LessEqual rt span h g = h g >> emit_op _ _ refl g
    compile_infix Greater rt span h g = h g >> emit_op _ _ refl g
    compile_infix GreaterEqual rt span h g = h g >> emit_op _ _ refl g
    compile_infix Equal rt span h g = h g >> emit_op _ _ refl g
    compile_infix NotEqual rt span h g = h g >> emit_op _ _ refl g
    compile_infix LogicAnd rt span h g = do
      jump-to-end ← emit_jump _ _ refl g
      emit_op _ _ refl _
      h _
      patch_jump _ _ g
    compile_infix LogicOr rt span h g = do
      jump-to-right-expr ← emit_jump _ _ refl g
      jump-to-end ← emit_jump _ _ refl _
      given (swap_waits _ _ g) (patch_jump _ _ _)
      emit_op _ _ refl _
      h _
      patch_jump _ _ g

    innermost_has_super : (classes : List Bool) (span : Span) → Keeps (c.innermost_has_super classes span)
    unfolding c.innermost_has_super
    innermost_has_super [] span g = refuse _
    innermost_has_super (b ∷ _) span g = need b _

    need_super : (span : Span) → Keeps (c.need_super span)
    unfolding c.need_super
    need_super span g = do
      classes ← the _
      innermost_has_super classes _ g

    compile_super : (name : ℕ) (span : Span) → Keeps (c.compile_super limit name span)
    unfolding c.compile_super computes.op
    compile_super name span g = do
      need_super _ g
      get_variable _ _ g
      get_variable _ _ g
      emit_text _ _ _ refl g

    call_method : (object args : Compile Unit) (name count : ℕ) (span : Span) → count < 256 → Keeps object → Keeps args → Keeps (c.call_method limit object args name count span)
    unfolding c.call_method computes.op
    call_method object args name count span l ho ha g = do
      ho g
      ha g
      emit_invoke _ _ _ _ refl l g

    call_super : (args : Compile Unit) (name count : ℕ) (span : Span) → count < 256 → Keeps args → Keeps (c.call_super limit args name count span)
    unfolding c.call_super computes.op
    call_super args name count span l ha g = do
      need_super _ g
      get_variable _ _ g
      ha g
      get_variable _ _ g
      emit_invoke _ _ _ _ refl l g

    call_value : (callee args : Compile Unit) (count : ℕ) (span : Span) → count < 256 → Keeps callee → Keeps args → Keeps (c.call_value limit callee args count span)
    unfolding c.call_value computes.op
    call_value callee args count span l hc ha g = do
      hc g
      ha g
      emit_op_u8 _ _ _ refl l g

    below_256 : (n : ℕ) → T (leb n 255) → n < 256
    below_256 n t = omega (arith, leb→le n 255 t)

    mutual
      unfolding c.compile_expr computes.op

      pub compile_expr : (e : Expr) → Keeps (c.compile_expr limit e)
      compile_expr (ExprAssign span name value) g = do
        compile_expr value g
        set_variable _ _ g
      compile_expr (ExprCall span callee args) g = do
        need_told (leb (count_exprs args) 255) _
        whence (λ t. compile_call callee _ _ _ _ (below_256 _ t) (λ g. compile_expr callee g) (λ g. compile_exprs args g) g)
      compile_expr (ExprGet span name object) g = do
        compile_expr object g
        emit_text _ _ _ refl g
      compile_expr (ExprInfix span o lt rt) g = do
        compile_expr lt g
        compile_infix o _ _ (λ g. compile_expr rt g) g
      compile_expr (Literal span k) g = compile_literal k span g
      compile_expr (ExprPrefix span o rt) g = do
        compile_expr rt g
        emit_op _ _ (prefix_plain o) g
      compile_expr (ExprSet span name value object) g = do
        compile_expr value g
        compile_expr object g
        emit_text _ _ _ refl g
      compile_expr (ExprSuper span name) g = compile_super name span g
      compile_expr (ExprVar span name) g = get_variable name span g

      pub compile_call : (e : Expr) (callee args : Compile Unit) (n : ℕ) (span : Span) → n < 256 → Keeps callee → Keeps args → Keeps (c.compile_call limit e callee args n span)
      compile_call (ExprGet _ name object) callee args n span l hc ha g = call_method _ _ _ _ _ l (λ g. compile_expr object g) ha g
      compile_call (ExprSuper _ name) callee args n span l hc ha g = call_super _ _ _ _ l ha g
      compile_call (ExprAssign _ _ _) callee args n span l hc ha g = call_value _ _ _ _ l hc ha g
      compile_call (ExprCall _ _ _) callee args n span l hc ha g = call_value _ _ _ _ l hc ha g
      compile_call (ExprInfix _ _ _ _) callee args n span l hc ha g = call_value _ _ _ _ l hc ha g
      compile_call (Literal _ _) callee args n span l hc ha g = call_value _ _ _ _ l hc ha g
      compile_call (ExprPrefix _ _ _) callee args n span l hc ha g = call_value _ _ _ _ l hc ha g
      compile_call (ExprSet _ _ _ _) callee args n span l hc ha g = call_value _ _ _ _ l hc ha g
      compile_call (ExprVar _ _) callee args n span l hc ha g = call_value _ _ _ _ l hc ha g

      pub compile_exprs : (es : Exprs) → Keeps (c.compile_exprs limit es)
      compile_exprs []ᵉ g = skip
      compile_exprs (e ∷ᵉ es) g = do
        compile_expr e g
        compile_exprs es g

    pub compile_value : (v : Option Expr) (span : Span) → Keeps (c.compile_value limit v span)
    unfolding c.compile_value computes.op
    compile_value none span g = emit_op _ _ refl g
    compile_value (some value) span g = compile_expr value g

  module _ (waits backs : ℕ → G → G) (opens : G → G) (enters : Bool → G → G) (l : Laws waits backs opens enters) where
    open l.exprs use {emit_op, emit_op_u8, emit_text, get_variable, emit_jump, patch_jump, swap_waits}
    open l use {code_length, emit_loop, declare_local, define_local, begin_scope, end_scope, push_class_ctx, pop_class_ctx, begin_ctx, end_function, swap_backs}

    return_value : (t : FunctionType) (v : Option Expr) (span : Span) → Keeps (c.return_value limit t v span)
    unfolding c.return_value computes.op
    return_value Script v span g = refuse _
    return_value Initializer (some value) span g = refuse _
    return_value Initializer none span g = emit_op_u8 _ _ _ refl (omega arith) g
    return_value Function v span g = compile_value waits l.exprs v span g
    return_value Method v span g = compile_value waits l.exprs v span g

    compile_return : (v : Option Expr) (span : Span) → Keeps (c.compile_return limit v span)
    unfolding c.compile_return computes.op
    compile_return v span g = do
      type ← the _
      return_value type v _ g
      emit_op _ _ refl g

    is_global : Keeps c.is_global
    unfolding c.is_global
    is_global g = the _

    define_global : (name : ℕ) (span : Span) → Keeps (c.define_global limit name span)
    unfolding c.define_global computes.op
    define_global name span g = emit_text _ _ _ refl g

    compile_var : (name : ℕ) (v : Option Expr) (span : Span) → Keeps (c.compile_var limit name v span)
    unfolding c.compile_var
    compile_var name v span g = do
      global ← is_global g
      either global
          (do
            compile_value waits l.exprs v _ g
            define_global _ _ g)
          (do
            declare_local _ _ g
            compile_value waits l.exprs v _ g
            define_local g)

    pub define_name : (name : ℕ) (span : Span) → Keeps (c.define_name limit name span)
    unfolding c.define_name
    define_name name span g = do
      global ← is_global g
      either global (define_global _ _ g) (declare_local _ _ g >> define_local g)

    pub compile_superclass : (class : ℕ) (sup : Option Superclass) (span : Span) → Keeps (c.compile_superclass limit class sup span)
    unfolding c.compile_superclass computes.op
    compile_superclass class none span g = skip
    compile_superclass class (some sup) span g = do
      need _ _
      begin_scope g
      declare_local _ _ g
      define_local g
      get_variable _ _ g
      get_variable _ _ g
      emit_op _ _ refl g

    pub end_superclass : (sup : Option Superclass) → Keeps (c.end_superclass limit sup)
    unfolding c.end_superclass
    end_superclass none g = skip
    end_superclass (some sup) g = end_scope _ g

    -- with a condition, a jump waits for the loop's end
    waits_if : Option ℕ → G → G
    waits_if none g = g
    waits_if (some at) g = waits at g

    for_cond : (cond : Option Expr) (span : Span) (g : G) → Triple (I g) (c.for_cond limit cond span) (λ j. I (waits_if j g))
    unfolding c.for_cond waits_if computes.op
    for_cond none span g = gives none
    for_cond (some cond) span g = do
      compile_expr waits l.exprs cond g
      j ← emit_jump _ _ refl g
      emit_op _ _ refl _
      gives (some j)

    for_incr : (incr : Option Expr) (span : Span) → Keeps (c.for_incr limit incr span)
    unfolding c.for_incr computes.op
    for_incr none span g = skip
    for_incr (some incr) span g = do
      compile_expr waits l.exprs incr g
      emit_op _ _ refl g

    for_end : (j : Option ℕ) (span : Span) (g : G) → Triple (I (waits_if j g)) (c.for_end limit j span) (λ _. I g)
    unfolding c.for_end waits_if computes.op
    for_end none span g = skip
    for_end (some j) span g = do
      patch_jump _ _ g
      emit_op _ _ refl g

    for_loop : (j : Option ℕ) (at : ℕ) (span : Span) (g : G) → Triple (I (waits_if j (backs at g))) (c.emit_loop limit at span) (λ _. I (waits_if j g))
    unfolding waits_if
    for_loop none at span g = emit_loop at span g
    for_loop (some j) at span g = given (swap_backs j at g) (emit_loop at span (waits j g))

    pub declare_params : (ps : List ℕ) (span : Span) → Keeps (c.declare_params ps span)
    unfolding c.declare_params
    declare_params [] span g = skip
    declare_params (p ∷ ps) span g = do
      declare_local _ _ g
      define_local g
      declare_params ps span g

    pub implicit_return : Keeps (c.implicit_return limit)
    unfolding c.implicit_return
    implicit_return g = do
      ops ← the _
      either (c.ends_in_return ops) skip (compile_return none NO_SPAN g)

    compile_function_with : (type : FunctionType) (name : ℕ) (params : List ℕ) (body : Compile Unit) (span : Span) → Keeps body →
        Keeps (c.compile_function_with limit type name params body span)
    unfolding c.compile_function_with
    compile_function_with type name params body span h g = do
      need _ _
      depth ← the _
      begin_ctx _ _ _ _ g
      declare_local _ _ (opens g)
      define_local (opens g)
      declare_params params _ (opens g)
      h (opens g)
      implicit_return (opens g)
      end_function _ g

    mutual
      unfolding c.compile_stmt computes.op

      pub compile_stmt : (t : Stmt) → Keeps (c.compile_stmt limit t)
      compile_stmt (StmtBlock span stmts) g = do
        begin_scope g
        compile_stmts stmts g
        end_scope _ g
      compile_stmt (StmtClass span name sup methods) g = do
        emit_text _ _ _ refl g
        define_name _ _ g
        push_class_ctx _ g
        compile_superclass _ sup _ _
        either (c.some_methods methods)
            (do
              get_variable _ _ _
              compile_methods methods _
              emit_op _ _ refl _)
            skip
        end_superclass sup _
        pop_class_ctx (c.is_some sup) g
      compile_stmt (StmtExpr span value) g = do
        compile_expr waits l.exprs value g
        emit_op _ _ refl g
      compile_stmt (StmtFor span init cond body incr) g = do
        begin_scope g
        compile_stmts init g
        at ← code_length g
        j ← for_cond cond _ _
        compile_stmt body _
        for_incr incr _ _
        for_loop j at _ g
        for_end j _ g
        end_scope _ g
      compile_stmt (StmtFun span f) g = do
        compile_function f _ _ g
        define_name _ _ g
      compile_stmt (StmtIf span cond a b) g = do
        compile_expr waits l.exprs cond g
        j ← emit_jump _ _ refl g
        emit_op _ _ refl _
        compile_stmt a _
        e ← emit_jump _ _ refl _
        given (swap_waits e j g) (patch_jump j _ _)
        emit_op _ _ refl _
        compile_stmts b _
        patch_jump e _ g
      compile_stmt (StmtPrint span value) g = do
        compile_expr waits l.exprs value g
        emit_op _ _ refl g
      compile_stmt (StmtReturn span value) g = compile_return value span g
      compile_stmt (StmtVar span name value) g = compile_var name value span g
      compile_stmt (StmtWhile span cond body) g = do
        at ← code_length g
        compile_expr waits l.exprs cond _
        j ← emit_jump _ _ refl _
        emit_op _ _ refl _
        compile_stmt body _
        given (swap_backs j at g) (emit_loop at _ _)
        patch_jump j _ g
        emit_op _ _ refl g

      pub compile_stmts : (ts : Stmts) → Keeps (c.compile_stmts limit ts)
      compile_stmts []ˢ g = skip
      compile_stmts (t ∷ˢ ts) g = do
        compile_stmt t g
        compile_stmts ts g

      pub compile_function : (f : Fun) (type : FunctionType) (span : Span) → Keeps (c.compile_function limit f type span)
      compile_function (fun name params body) type span g = compile_function_with type name params _ span (λ g. compile_stmts body g) g

      pub compile_methods : (ms : Methods) → Keeps (c.compile_methods limit ms)
      compile_methods []ᵐ g = skip
      compile_methods (method span f ms) g = do
        compile_function f _ _ g
        emit_text _ _ _ refl g
        compile_methods ms g

    pub compile_script : (ts : Stmts) → Keeps (c.compile_script limit ts)
    unfolding c.compile_script computes.op
    compile_script ts g = do
      compile_stmts ts g
      emit_op _ _ refl g
      emit_op _ _ refl g
