-- What the arms need of what was read: bounds, and the same fact by the values that the code has.
use Rattle.steps.specs.Why.{Step}
use Rattle.std.specs.Prelude.{Result}
use mathlib.Core.Path.{◌≡◌, sym, subst}
use mathlib.Core.List.{List}
use Prim.Native.Nat.{ℕ, suc, ◌+◌, ◌-◌, ◌*◌, ◌≤◌, ◌<◌}
use native.Mathlib.Omega.{arith}
use native.Mathlib.Numerals.{add-one}
use lib.ListN.{length, get_or}
use Rattle.rules.specs.declared.Span.{Span}
use Rattle.rules.specs.Compiler.{compile_stmt, compile_stmts}
use Rattle.fields.specs.Words.{word16}
use Rattle.tree_laws.proofs.Statements.{any_stmt_at}
use Rattle.tree_laws.proofs.Later.{later_stmt}
use Rattle.state.specs.Layout.{levels, deepest, depth_place, level_words}
use Rattle.steps.specs.View.{Mem, mem, Fit, depth_at}
use Rattle.expr_laws.specs.Exprs.{There}
use Rattle.stmt_output_laws.specs.Output.{funs_left, stmt_at, stmts_at, Walked, Ready}
use Rattle.stmt_output_laws.proofs.Growing.{plain}
use Rattle.stmt_plain_laws.specs.Plain.{Plainly}
use Rattle.stmt_loops.specs.Loops.{cond_at, Conditioned, incr_at, Incremented}
use Rattle.stmt_loops.specs.declared.Cond.{Cond}
use Rattle.steps.specs.declared.Why.{Why}

-- ## What stands at a place

pub room : (tree : List ℕ) (left l at : ℕ) → There (stmt_at tree left l at) → 0 < left
room tree left l at h = (any_stmt_at tree (word16 tree 2) left (funs_left l) at h.is).room

pub bound : (tree : List ℕ) (left l at : ℕ) → There (stmt_at tree left l at) → at + 10 ≤ length tree
bound tree left l at h = (any_stmt_at tree (word16 tree 2) left (funs_left l) at h.is).bound

-- a scope may be begun
pub scope_room : (t code spans : List ℕ) (l left : ℕ) {tree : List ℕ} {at limit : ℕ} → 0 < left → Ready tree (mem t code spans) at left l limit → get_or t (l * level_words + depth_place) 0 < deepest
unfolding depth_at
scope_room t code spans l left h y = let s = y.shallow in omega arith

pub deep_enough : (t code spans : List ℕ) (l : ℕ) → 0 < depth_at (mem t code spans) l → 0 < get_or t (l * level_words + depth_place) 0
unfolding depth_at
deep_enough t code spans l h = h

-- ## By the values that the code has

pub row_as : (tree : List ℕ) {count k : ℕ} (left l at : ℕ) → count ≡ k → There (stmts_at tree k left l at) → There (stmts_at tree count left l at)
row_as tree left l at q h = subst (λ (n : ℕ). There (stmts_at tree n left l at)) (sym q) h

pub walked_as : (tree : List ℕ) {count k : ℕ} (left l at : ℕ) {class limit : ℕ} {before : Mem} {out : List ℕ} {now : Mem} {out' : List ℕ} {r : Step} → count ≡ k
    → Walked class limit l at (stmts_at tree count left l at) (compile_stmts limit) before out now out' r
    → Walked class limit l at (stmts_at tree k left l at) (compile_stmts limit) before out now out' r
walked_as tree left l at {class} {limit} {before} {out} {now} {out'} {r} q w = subst (λ (n : ℕ). Walked class limit l at (stmts_at tree n left l at) (compile_stmts limit) before out now out' r) q w

pub cond_as : (tree : List ℕ) {p k : ℕ} (left at : ℕ) → p ≡ k → There (cond_at tree k left at) → There (cond_at tree p left at)
cond_as tree left at q h = subst (λ (n : ℕ). There (cond_at tree n left at)) (sym q) h

pub conditioned_as : (tree : List ℕ) {p k : ℕ} (left at : ℕ) {class limit l : ℕ} {span : Span} {before now : Mem} {r : Result Cond Why} → p ≡ k
    → Conditioned class limit l (cond_at tree p left at) span before now r
    → Conditioned class limit l (cond_at tree k left at) span before now r
conditioned_as tree left at {class} {limit} {l} {span} {before} {now} {r} q w = subst (λ (n : ℕ). Conditioned class limit l (cond_at tree n left at) span before now r) q w

pub incr_as : (tree : List ℕ) {p k : ℕ} (left at : ℕ) → p ≡ k → There (incr_at tree k left at) → There (incr_at tree p left at)
incr_as tree left at q h = subst (λ (n : ℕ). There (incr_at tree n left at)) (sym q) h

pub incremented_as : (tree : List ℕ) {p k : ℕ} (left at : ℕ) {class limit l : ℕ} {span : Span} {before now : Mem} {r : Step} → p ≡ k
    → Incremented class limit l (incr_at tree p left at) span before now r
    → Incremented class limit l (incr_at tree k left at) span before now r
incremented_as tree left at {class} {limit} {l} {span} {before} {now} {r} q w = subst (λ (n : ℕ). Incremented class limit l (incr_at tree n left at) span before now r) q w

-- a function's statements have a level less than its record
pub ready_back : {tree : List ℕ} {m : Mem} {at l limit : ℕ} (left : ℕ) → 0 < left → Ready tree m at left l limit → Ready tree m at (left - 1 + 1) l limit
ready_back {tree} {m} {at} {l} {limit} left h y = subst (λ (k : ℕ). Ready tree m at k l limit) (same left h) y
  where
    same : (left : ℕ) → 0 < left → left ≡ left - 1 + 1
    same left h = omega arith

pub some_room : (left : ℕ) → 0 < left + 1
some_room left = omega arith

pub same_on : {a b : ℕ} → b ≡ a → a ≤ b
same_on q = omega arith

pub ten_on : (at : ℕ) {n : ℕ} → at + 10 ≤ n → at ≤ n
ten_on at h = omega arith

pub further : (at k : ℕ) → at ≤ at + k
further at k = omega arith

-- a level higher, by the number that the code has
pub ready_higher : {tree : List ℕ} {m : Mem} {at left limit : ℕ} (l : ℕ) → Ready tree m at left (suc l) limit → Ready tree m at left (l + 1) limit
ready_higher {tree} {m} {at} {left} {limit} l y = subst (λ (k : ℕ). Ready tree m at left k limit) (sym (add-one l)) y

pub row_higher : (tree : List ℕ) {count k : ℕ} (left l at : ℕ) → count ≡ k → There (stmts_at tree k left (suc l) at) → There (stmts_at tree count left (l + 1) at)
row_higher tree {count} left l at q h = subst (λ (j : ℕ). There (stmts_at tree count left j at)) (sym (add-one l)) (row_as tree left (suc l) at q h)

pub walked_higher : (tree : List ℕ) {count k : ℕ} (left l at : ℕ) {class limit : ℕ} {before : Mem} {out : List ℕ} {now : Mem} {out' : List ℕ} {r : Step} → count ≡ k
    → Walked class limit (l + 1) at (stmts_at tree count left (l + 1) at) (compile_stmts limit) before out now out' r
    → Walked class limit (suc l) at (stmts_at tree k left (suc l) at) (compile_stmts limit) before out now out' r
walked_higher tree {count} left l at {class} {limit} {before} {out} {now} {out'} {r} q w =
    walked_as tree left (suc l) at q (subst (λ (j : ℕ). Walked class limit j at (stmts_at tree count left j at) (compile_stmts limit) before out now out' r) (add-one l) w)

pub fit_higher : {m : Mem} {limit : ℕ} (l : ℕ) → Fit m (suc l) limit → Fit m (l + 1) limit
fit_higher {m} {limit} l f = subst (λ (k : ℕ). Fit m k limit) (sym (add-one l)) f

-- a level more, as the code has it
pub higher : (l : ℕ) → l + 1 ≡ suc l
higher l = add-one l

pub lower_than : (l : ℕ) → suc l < levels → l + 1 < levels
lower_than l h = omega arith

pub below_levels : (l : ℕ) → l + 1 < levels → suc l < levels
below_levels l h = omega arith

-- a statement that finishes no function
pub plainly : (tree : List ℕ) (left l at : ℕ) {class limit : ℕ} {before now : Mem} {r : Step} (out : List ℕ) → Plainly class limit l (stmt_at tree left l at) before now r
    → Walked class limit l at (stmt_at tree left l at) (compile_stmt limit) before out now out r
plainly tree left l at out p = record { did = λ s n h. plain out (ten_on at (later_stmt tree (word16 tree 2) left (funs_left l) at h)) (p.did s n h) }
