-- A statement that is an expression and what is done with its value, and a value that a flag announces: a law for each way out.
use Rattle.steps.specs.Why.{Step}
use Rattle.std.specs.Prelude.{Ok, Err}
use mathlib.Core.Path.{◌≡◌, refl, sym, ap, subst, ◌∙◌}
use mathlib.Core.Bool.{Bool}
use mathlib.Core.Option.{Option, none, some}
use mathlib.Core.Logic.{⊎_elim}
use mathlib.Core.List.{List}
use Prim.Native.Nat.{ℕ, ◌+◌, ◌-◌, ◌≤◌}
use lib.ListN.{length}
use Rattle.rules.specs.Base.{lookup}
use Rattle.rules.specs.declared.Span.{Span}
use Rattle.rules.specs.Tree.{Expr, Stmt, StmtExpr, StmtPrint}
use Rattle.rules.specs.Reader.{got}
use Rattle.rules.specs.TreeFile.{flags, maybe, read_expr}
use Rattle.rules.specs.Op as op
use Rattle.rules.specs.Compiler.{◌>>◌, emit_op, compile_expr, compile_value, compile_stmt}
use Rattle.fields.specs.Words.{word16, letters, span_of}
use Rattle.tree_laws.proofs.Statements.{ValueAt, SomeAt, any_stmt_at, by_mark, expression_at, print_at, maybe_yes, maybe_no, flag_on, flag_off, flag_is}
use Rattle.steps.specs.View.{Mem, steady, Did}
use Rattle.steps.proofs.Steps.{valued, halt, then_on, by_name}
use Rattle.expr_laws.specs.Exprs.{There, Somewhere, expr_at, Ran}
use Rattle.steps.proofs.Monad.{on_to}
use Rattle.stmt_output_laws.specs.Output.{funs_left, stmt_at}
use Rattle.stmt_plain_laws.specs.Plain.{StmtSomewhere, NoOther, Taken, Plainly, Flagged, Announced, ValueRan}
use Rattle.fields.specs.Marks as marks
use Rattle.steps.specs.declared.Why.{Why}

-- ## What is known of any statement

pub bound : {tree : List ℕ} {l at : ℕ} → StmtSomewhere tree l at → at + 10 ≤ length tree
bound {tree} {l} {at} w = (any_stmt_at tree (word16 tree 2) w.left (funs_left l) at w.there.is).bound

-- none of the nine other marks is left
pub last_return : {tree : List ℕ} {l at mark : ℕ} → StmtSomewhere tree l at → NoOther tree at → mark ≡ letters tree at → (mark ≡ marks.SE → ⊥) → (mark ≡ marks.SP → ⊥) → (mark ≡ marks.SV → ⊥)
    → letters tree at ≡ marks.SR
last_return {tree} {l} {at} w o q e p v =
    by_mark tree (word16 tree 2) w.left (funs_left l) at w.there.is (λ h. absurd (o.no_block h)) (λ h. absurd (o.no_class h)) (λ h. absurd (e (q ∙ h))) (λ h. absurd (o.no_fun h))
    (λ h. absurd (o.no_if h)) (λ h. absurd (o.no_for h)) (λ h. absurd (p (q ∙ h))) (λ h. h) (λ h. absurd (v (q ∙ h))) (λ h. absurd (o.no_while h))

-- the statement that was read is this
pub by_stmt : {class limit l n : ℕ} {s s' : Stmt} {before now : Mem} {r : Step} → s ≡ s' → Did class limit l n steady (compile_stmt limit s') before now r
    → Did class limit l n steady (compile_stmt limit s) before now r
by_stmt {class} {limit} {l} {n} {before = before} {now = now} {r = r} q x = subst (λ (z : Stmt). Did class limit l n steady (compile_stmt limit z) before now r) (sym q) x

-- ## An expression, and then an instruction

-- how such a statement is read and compiled, by its constructor and its instruction
pub record One (limit l : ℕ) (tree : List ℕ) (left at : ℕ) (make : Span → Expr → Stmt) (o : ℕ) : Type 0 where
  read : (s : Stmt) (n : ℕ) → stmt_at tree left l at ≡ got s n → ValueAt tree (word16 tree 2) (read_expr tree (word16 tree 2) (left - 1)) make at s n
  comes : (w : Span) (v : Expr) → (compile_expr limit v >> emit_op limit o w) ≡ compile_stmt limit (make w v)

module _ {limit l : ℕ} (tree : List ℕ) (left at : ℕ) where
  pub an_expression : letters tree at ≡ marks.SE → One limit l tree left at StmtExpr op.POP
  unfolding compile_stmt
  an_expression m = record { read = λ s n z. expression_at tree (word16 tree 2) left (funs_left l) at m z; comes = λ w v. refl }

  pub a_print : letters tree at ≡ marks.SP → One limit l tree left at StmtPrint op.PRINT
  unfolding compile_stmt
  a_print m = record { read = λ s n z. print_at tree (word16 tree 2) left (funs_left l) at m z; comes = λ w v. refl }

  -- by the instruction, the constructor
  pub one_of : {o : ℕ} → Taken tree at o → (make : Span → Expr → Stmt) × One limit l tree left at make o
  one_of {o} h = ⊎_elim (λ e. (StmtExpr, subst (One limit l tree left at StmtExpr) (sym e.1) (an_expression e.0)))
      (λ p. (StmtPrint, subst (One limit l tree left at StmtPrint) (sym p.1) (a_print p.0))) h

module _ {limit l left at : ℕ} {tree : List ℕ} {o : ℕ} (one : (make : Span → Expr → Stmt) × One limit l tree left at make o) where
  pub one_there : There (stmt_at tree left l at) → Somewhere tree (at + 10)
  one_there w = let i = one.1.read w.thing w.next w.is in record { depth = left - 1; there = record { thing = i.value; next = w.next; is = i.one } }

  module _ {class : ℕ} {before : Mem} where
    pub one_stop : {now : Mem} {r : Step} {x : Why} → Ran class limit l (expr_at tree (left - 1) (at + 10)) before now r → r ≡ Err x → Plainly class limit l (stmt_at tree left l at) before now r
    one_stop a q = record {
      did = λ s n z.
          let i = one.1.read s n z in
          by_stmt i.is (by_name (one.1.comes (span_of tree (at + 2)) i.value) (halt _ (a.did i.value n i.one) q));
    }

    pub one_done : (sp : Span) → sp ≡ span_of tree (at + 2) → {mid now : Mem} {r r' : Step} {v : ℕ} → Ran class limit l (expr_at tree (left - 1) (at + 10)) before mid r → r ≡ Ok v
        → Did class limit l v steady (emit_op limit o sp) mid now r' → Plainly class limit l (stmt_at tree left l at) before now r'
    one_done sp h a q b = record {
      did = λ s n z.
          let i = one.1.read s n z in
          let c = a.did i.value n i.one in
          by_stmt (i.is ∙ ap (λ (w : Span). one.0 w i.value) (sym h)) (by_name (one.1.comes sp i.value) (then_on _ c q (on_to (valued c q) b)));
    }

-- ## A value that a flag announces, or none

module _ (tree : List ℕ) (left at flag : ℕ) where
  pub flagged_no : {value : Option Expr} {n : ℕ} → flag ≡ 0 → Flagged tree left at flag value n → (value ≡ none) × (n ≡ at)
  flagged_no {value} {n} e i =
      maybe_no (read_expr tree (word16 tree 2) left) at (ap (λ (b : Bool). maybe b (read_expr tree (word16 tree 2) left) at) (sym (flag_off flag i.look e)) ∙ i.one)

  is_one : {b : Bool} → lookup flag flags ≡ some b → (flag ≡ 0 → ⊥) → flag ≡ 1
  is_one h e = ⊎_elim (λ z. absurd (e z)) (λ z. z) (flag_is flag h)

  pub flagged_yes : {value : Option Expr} {n : ℕ} → (flag ≡ 0 → ⊥) → Flagged tree left at flag value n → SomeAt (read_expr tree (word16 tree 2) left) at value n
  flagged_yes e i =
      maybe_yes (read_expr tree (word16 tree 2) left) at (ap (λ (b : Bool). maybe b (read_expr tree (word16 tree 2) left) at) (sym (flag_on flag i.look (is_one i.look e))) ∙ i.one)

  module _ {class limit l : ℕ} (span : Span) {before now : Mem} {r : Step} where
    by_value : {n : ℕ} {o o' : Option Expr} → o ≡ o' → Did class limit l n steady (compile_value limit o' span) before now r → Did class limit l n steady (compile_value limit o span) before now r
    by_value {n} q x = subst (λ (z : Option Expr). Did class limit l n steady (compile_value limit z span) before now r) (sym q) x

    pub value_none : flag ≡ 0 → Did class limit l at steady (emit_op limit op.NIL span) before now r → ValueRan class limit l tree left at flag span before now r
    unfolding compile_value
    value_none e x = record { did = λ o n i. let j = flagged_no e i in on_to (sym j.1) (by_value j.0 x) }

    pub value_some : (flag ≡ 0 → ⊥) → Ran class limit l (expr_at tree left at) before now r → ValueRan class limit l tree left at flag span before now r
    unfolding compile_value
    value_some e x = record { did = λ o n i. let j = flagged_yes e i in by_value j.is (x.did j.thing n j.one_is) }

-- an expression was read where the flag announces one
pub value_there : {tree : List ℕ} {at flag : ℕ} → (flag ≡ 0 → ⊥) → Announced tree at flag → Somewhere tree at
value_there {tree} {at} {flag} e w =
    let i = flagged_yes tree w.left at flag e w.is in
    record { depth = w.left; there = record { thing = i.thing; next = w.next; is = i.one_is } }
