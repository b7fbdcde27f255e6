-- The parts of a class make the whole, and after them the class that was around is the innermost one again.
use mathlib.Core.Path.{◌≡◌, refl, sym, ap, ◌∙◌}
use mathlib.Core.Bool.{Bool, true, false}
use mathlib.Core.Option.{Option}
use mathlib.Core.List.{List, ◌∷◌, ◌++◌}
use Prim.Native.Nat.{ℕ, zero, suc}
use native.Mathlib.Omega.{arith}
use lib.ListN.{length}
use lib.Dec.{ltb}
use borrow.Author.Tests.{lt-ltb}
use Rattle.rules.specs.declared.Span.{Span}
use Rattle.rules.specs.Tree.{Superclass, StmtClass, Fun, Methods, method, []ᵐ}
use Rattle.rules.specs.Reader.{got, Reader}
use Rattle.rules.specs.TreeFile.{read_methods}
use Rattle.rules.specs.Op as op
use Rattle.rules.specs.Chunk.{ObjectFunction, CS}
use Rattle.rules.specs.Compiler.{Compiler, ok, Compile, go_on, ◌>>◌, return, done, is_some, some_methods, push_class_ctx, pop_class_ctx, emit_op, emit_op_constant, get_variable, define_name}
use Rattle.rules.specs.Compiler.{compile_superclass, end_superclass, compile_stmt, compile_methods}
use Rattle.steps.specs.View.{Mem, mem, Rest, view, Turn, Gave}
use Rattle.steps.proofs.Steps.{seq_ok}
use Rattle.tree_laws.proofs.Statements.{no_methods, more_methods}
use Rattle.stmt_output_laws.specs.Parts.{open_class, close_class}
use Rattle.stmt_output_laws.specs.Output.{more, Grew}
use Rattle.stmt_output_laws.proofs.Growing.{turned, Run, Free}
use Rattle.steps.proofs.Monad.{regroup, later}
use Rattle.stmt_heads.specs.Classes.{entering, opening, closing}

-- ## The whole

-- with no methods there is nothing between the parts
cut_bare : (c e p : Compile Unit) (s : Compiler) → (c >> (done >> (e >> p))) s ≡ ((c >> done) >> (done >> ((done >> e) >> p))) s
unfolding ◌>>◌ go_on done return
cut_bare c e p s = sym (regroup (c s) (λ _. done) (λ _. done >> ((done >> e) >> p)))

cut_full : (c v m o e p : Compile Unit) (s : Compiler) → (c >> ((v >> (m >> o)) >> (e >> p))) s ≡ ((c >> v) >> (m >> ((o >> e) >> p))) s
unfolding ◌>>◌
cut_full c v m o e p s =
    later (c s) (λ _ s. regroup (v s) (λ _. m >> o) (λ _. e >> p) ∙ later (v s) (λ _ s. regroup (m s) (λ _. o) (λ _. e >> p) ∙ later (m s) (λ _ s. sym (regroup (o s) (λ _. e) (λ _. p))))) ∙
    sym (regroup (c s) (λ _. v) (λ _. m >> ((o >> e) >> p)))

-- the three steps before them
cut_three : (a b c x y z : Compile Unit) → ((s : Compiler) → z s ≡ (x >> y) s) → (s : Compiler) → (a >> (b >> (c >> z))) s ≡ ((a >> (b >> (c >> x))) >> y) s
unfolding ◌>>◌
cut_three a b c x y z h s =
    later (a s) (λ _ s. later (b s) (λ _ s. later (c s) (λ _ s. h s) ∙ sym (regroup (c s) (λ _. x) (λ _. y))) ∙ sym (regroup (b s) (λ _. c >> x) (λ _. y))) ∙
    sym (regroup (a s) (λ _. b >> (c >> x)) (λ _. y))

pub class_cut : (limit : ℕ) (span : Span) (name : ℕ) (super : Option Superclass) (methods : Methods) (s : Compiler)
    → compile_stmt limit (StmtClass span name super methods) s
    ≡ (open_class limit name super (some_methods methods) span >> (compile_methods limit methods >> (close_class limit super (some_methods methods) span >> pop_class_ctx))) s
unfolding compile_stmt open_class close_class some_methods
class_cut limit span name super []ᵐ s =
    cut_three (emit_op_constant limit op.CLASS (CS name) span) (define_name limit name span) (push_class_ctx (is_some super)) _ _ _
    (cut_bare (compile_superclass limit name super span) (end_superclass limit super) pop_class_ctx) s
class_cut limit span name super (method sp f ms) s =
    cut_three (emit_op_constant limit op.CLASS (CS name) span) (define_name limit name span) (push_class_ctx (is_some super)) _ _ _
    (cut_full (compile_superclass limit name super span) (get_variable limit name span) (compile_methods limit (method sp f ms)) (emit_op limit op.POP span)
    (end_superclass limit super) pop_class_ctx) s

-- the same, grouped as `popped` has it
pub class_then_pop : (limit : ℕ) (span : Span) (name : ℕ) (super : Option Superclass) (methods : Methods) (s : Compiler)
    → compile_stmt limit (StmtClass span name super methods) s
    ≡ ((open_class limit name super (some_methods methods) span >> (compile_methods limit methods >> close_class limit super (some_methods methods) span)) >> pop_class_ctx) s
unfolding ◌>>◌
class_then_pop limit span name super methods s =
    let o = open_class limit name super (some_methods methods) span in
    let m = compile_methods limit methods in
    let c = close_class limit super (some_methods methods) span in
    class_cut limit span name super methods s ∙ later (o s) (λ _ s. sym (regroup (m s) (λ _. c) (λ _. pop_class_ctx))) ∙ sym (regroup (o s) (λ _. m >> c) (λ _. pop_class_ctx))

-- ## The class around

left : (l : ℕ) (b : Bool) (classes : List Bool) (functions : List ObjectFunction) (now : Mem)
    → pop_class_ctx (view now l (record { classes = b ∷ classes; functions = functions })) ≡ ok tt (view now l (record { classes = classes; functions = functions }))
unfolding pop_class_ctx view
left l b classes functions (mem t code spans) = refl

pub popped : {class limit l : ℕ} {e : Turn} {b : Bool} {made : List ObjectFunction} {m : Compile Unit} {before now : Mem} → Gave class limit l e m tt before now
    → ((r : Rest) → e.rest r ≡ record { classes = b ∷ r.classes; functions = r.functions ++ made })
    → Gave class limit l (record { depth = e.depth; class = λ c. c; rest = more made; aloof = e.aloof }) (m >> pop_class_ctx) tt before now
popped {l = l} {b = b} {made = made} {m = m} {before = before} {now = now} g q =
    let a = g.ahead in
    record {
      comes = λ rest h.
          seq_ok m (view before l rest) pop_class_ctx (g.comes rest h ∙ ap (λ (x : Rest). ok tt (view now l x)) (q rest)) ∙ left l b rest.classes (rest.functions ++ made) now;
      agrees = λ rest h. record {
        innermost = h.innermost;
        made = ap (λ (x : Rest). length x.functions) (sym (q rest)) ∙ (g.agrees rest h).made;
      };
      ahead = record { fit = a.fit; up = a.up; deep = a.deep; head = a.head; under = a.under; over = a.over; beyond = a.beyond };
    }

-- the scope of `super` is ended where it was begun
pub closes : (b : Bool) (d : ℕ) → (closing b).depth ((opening b).depth d) ≡ d
closes true d = omega arith
closes false d = refl

pub free_closing : (b : Bool) → Free (closing b)
free_closing b = record { past = λ made rest. refl }

-- a whole class, with the functions that its methods finished
pub class_grown : {class limit l at n : ℕ} {e : Turn} {b : Bool} {m : Compile Unit} {before now : Mem} {out out' : List ℕ} → ((d : ℕ) → e.depth d ≡ d) → ((r : Rest) → e.rest r ≡ (entering b).rest r)
    → Run class limit l at n e m tt before out now out' → Grew class limit l at n (m >> pop_class_ctx) before out now out'
class_grown p s r = record {
  made = r.made;
  gave = turned p (λ c. refl) (λ x. refl) (λ h. let z : ◌≡◌ {A = ℕ} 0 1 = cc in absurd (omega arith)) (popped r.gave (λ x. ap (more r.made) (s x)));
  added = r.added;
}

-- ## There are methods where their number is not 0

pub some_count : (one : Reader (Span × Fun)) (count at : ℕ) {methods : Methods} {n : ℕ} → read_methods count one at ≡ got methods n → some_methods methods ≡ ltb 0 count
unfolding some_methods
some_count one zero at r = ap some_methods (no_methods one at r).0
some_count one (suc count) at r = ap some_methods (more_methods one count at r).is ∙ sym (lt-ltb 0 (suc count) (omega arith))
