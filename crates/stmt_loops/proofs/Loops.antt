-- The condition and the increment of a `for`: a law for each way out of the two functions.
use Rattle.std.specs.Prelude.{Some, None, Ok, Err}
use mathlib.Core.Path.{◌≡◌, sym, subst, ◌∙◌}
use mathlib.Core.Bool.{Bool, true, false}
use mathlib.Core.Option.{Option, none, some}
use mathlib.Core.List.{List}
use Prim.Native.Nat.{ℕ, ◌/◌, ◌%◌}
use native.Mathlib.Omega.{arith}
use lib.Dec.{eqb}
use borrow.Author.Tests.{eq-eqb, ne_eqb}
use Rattle.rules.specs.declared.Span.{Span}
use Rattle.rules.specs.Tree.{Expr}
use Rattle.rules.specs.Reader.{got, Reader}
use Rattle.rules.specs.TreeFile.{maybe}
use Rattle.rules.specs.Op as op
use Rattle.rules.specs.Compiler.{Compiler, ◌>>=◌, ◌>>◌, return, emit_op, emit_jump, for_cond, for_incr}
use Rattle.tree_laws.proofs.Statements.{SomeAt, maybe_yes, maybe_no}
use Rattle.steps.specs.View.{Mem, t_of, Fit, steady, Gave, Refused, Did, Opened}
use Rattle.steps.proofs.Steps.{went, valued, stuck, went_to, placed, stuck_to, next_at, halt, then_on, refused_bind, refused_seq, gave_bind, gave_seq, gave_refused_seq}
use Rattle.expr_laws.specs.Exprs.{There, Somewhere, expr_at, Ran}
use Rattle.stmt_jumps.specs.Jumps.{open_jump}
use Rattle.steps.proofs.Monad.{on_to, returned, nothing}
use Rattle.stmt_jumps.proofs.Jumps.{open_cut}
use Rattle.stmt_loops.specs.Loops.{cond_at, incr_at, CondThere, IncrThere, ConditionedAs, Conditioned, Incremented}
use Rattle.steps.specs.Why.{told, Step}
use Rattle.steps.specs.declared.Why.{Why}

-- ## What the flag k announces

module _ {A : Type 0} (one : Reader A) (at k : ℕ) where
  there : {o : Option A} {n : ℕ} → maybe (eqb k 1) one at ≡ got o n → k ≡ 1 → SomeAt one at o n
  there {o} {n} r q = maybe_yes one at (subst (λ (b : Bool). maybe b one at ≡ got o n) (eq-eqb k 1 q) r)

  missing : {o : Option A} {n : ℕ} → maybe (eqb k 1) one at ≡ got o n → (k ≡ 1 → ⊥) → (o ≡ none) × (n ≡ at)
  missing {o} {n} r q = maybe_no one at (subst (λ (b : Bool). maybe b one at ≡ got o n) (ne_eqb k 1 q) r)

  announced : k ≡ 1 → There (maybe (eqb k 1) one at) → There (one at)
  announced q h = let i = there h.is q in record { thing = i.thing; next = h.next; is = i.one_is }

-- where the flag says so, an expression was read
pub cond_expr : {tree : List ℕ} {parts at : ℕ} → CondThere tree parts at → parts / 2 % 2 ≡ 1 → Somewhere tree at
cond_expr h q = record { depth = h.left; there = announced _ _ _ q h.there }

pub incr_expr : {tree : List ℕ} {parts at : ℕ} → IncrThere tree parts at → parts / 4 ≡ 1 → Somewhere tree at
incr_expr h q = record { depth = h.left; there = announced _ _ _ q h.there }

-- ## The jump past the loop: the rules' step gives `some` place, `open_jump` the place

jump_cut : (limit : ℕ) (span : Span) (s : Compiler)
    → (emit_jump limit op.JUMP_IF_FALSE span >>= λ j. emit_op limit op.POP span >> return (some j)) s ≡ (open_jump limit span >>= λ j. return (some j)) s
jump_cut limit span s = open_cut (λ j. return (some j)) limit span s

module _ {class limit l : ℕ} (span : Span) {before now : Mem} {b : Step} (d : Opened class limit l steady (open_jump limit span) before now b) where
  jump_gave : {place : ℕ} → b ≡ Ok place → Gave class limit l steady (emit_jump limit op.JUMP_IF_FALSE span >>= λ j. emit_op limit op.POP span >> return (some j)) (some place) before now
  jump_gave {place} z =
      let g = went_to d z in
      let h = gave_bind g (λ j. return (some j)) (returned (some place) g.ahead.fit) in
      record { comes = λ rest q. jump_cut limit span _ ∙ h.comes rest q; agrees = h.agrees; ahead = h.ahead }

  jump_refused : {x : Why} → b ≡ Err x → Refused class l (emit_jump limit op.JUMP_IF_FALSE span >>= λ j. emit_op limit op.POP span >> return (some j)) before (told (t_of now) x)
  jump_refused z = record { refuses = λ rest q. jump_cut limit span _ ∙ (refused_bind (stuck_to d z) (λ j. return (some j))).refuses rest q }

-- ## The condition

module _ {class limit l : ℕ} {span : Span} (tree : List ℕ) (parts left at : ℕ) {before : Mem} where
  pub cond_none : (parts / 2 % 2 ≡ 1 → ⊥) → Fit before l limit → Conditioned class limit l (cond_at tree parts left at) span before before (Ok (record { next = at; exit = None }))
  unfolding for_cond
  cond_none q fit = record {
    did = λ cond n r.
        let i = missing _ at _ r q in (
          subst (λ (o : Option Expr). Gave class limit l steady (for_cond limit o span) none before before) (sym i.0) (returned none fit),
          sym i.1,
          tt,
        );
  }

  module _ (q : parts / 2 % 2 ≡ 1) where
    -- a refusal on the way
    stopped : {now : Mem} {y : Why} → ((e : Expr) (n : ℕ) → expr_at tree left at ≡ got e n → Refused class l (for_cond limit (some e) span) before (told (t_of now) y))
        → Conditioned class limit l (cond_at tree parts left at) span before now (Err y)
    stopped {now} {y} f = record {
      did = λ cond n r.
          let i = there _ at _ r q in
          subst (λ (o : Option Expr). Refused class l (for_cond limit o span) before (told (t_of now) y)) (sym i.is) (f i.thing n i.one_is);
    }

    module _ {mid : Mem} {a : Step} (x : Ran class limit l (expr_at tree left at) before mid a) where
      pub cond_stop : {y : Why} → a ≡ Err y → Conditioned class limit l (cond_at tree parts left at) span before mid (Err y)
      unfolding for_cond
      cond_stop z = stopped (λ e n r. refused_seq (stuck (x.did e n r) z) _)

      module _ {v : ℕ} (z : a ≡ Ok v) {now : Mem} {b : Step} (d : Opened class limit l steady (open_jump limit span) mid now b) where
        pub cond_stop_2 : {y : Why} → b ≡ Err y → Conditioned class limit l (cond_at tree parts left at) span before now (Err y)
        unfolding for_cond
        cond_stop_2 z' = stopped (λ e n r. gave_refused_seq (went (x.did e n r) z) _ (jump_refused span d z'))

        pub cond_done : {place : ℕ} → b ≡ Ok place → Conditioned class limit l (cond_at tree parts left at) span before now (Ok (record { next = v; exit = Some place }))
        unfolding for_cond
        cond_done {place} z' = record {
          did = λ cond n r.
              let i = there _ at _ r q in
              let c = x.did i.thing n i.one_is in (
                subst (λ (o : Option Expr). Gave class limit l steady (for_cond limit o span) (some place) before now) (sym i.is) (gave_seq (went c z) _ (jump_gave span d z')),
                valued c z,
                placed d z',
              );
        }

-- ## The increment

module _ {class limit l : ℕ} {span : Span} (tree : List ℕ) (parts left at : ℕ) {before : Mem} where
  pub incr_none : (parts / 4 ≡ 1 → ⊥) → Fit before l limit → Incremented class limit l (incr_at tree parts left at) span before before (Ok at)
  unfolding for_incr
  incr_none q fit = record {
    did = λ incr n r.
        let i = missing _ at _ r q in
        subst (λ (o : Option Expr). Did class limit l n steady (for_incr limit o span) before before (Ok at)) (sym i.0) (next_at (nothing fit) (sym i.1));
  }

  module _ (q : parts / 4 ≡ 1) where
    some_incr : {now : Mem} {b : Step} → ((e : Expr) (n : ℕ) → expr_at tree left at ≡ got e n → Did class limit l n steady (for_incr limit (some e) span) before now b)
        → Incremented class limit l (incr_at tree parts left at) span before now b
    some_incr {now} {b} f = record {
      did = λ incr n r.
          let i = there _ at _ r q in
          subst (λ (o : Option Expr). Did class limit l n steady (for_incr limit o span) before now b) (sym i.is) (f i.thing n i.one_is);
    }

    module _ {mid : Mem} {a : Step} (x : Ran class limit l (expr_at tree left at) before mid a) where
      pub incr_stop : {y : Why} → a ≡ Err y → Incremented class limit l (incr_at tree parts left at) span before mid a
      unfolding for_incr
      incr_stop z = some_incr (λ e n r. halt _ (x.did e n r) z)

      pub incr_done : {v : ℕ} {now : Mem} {b : Step} → a ≡ Ok v → Did class limit l v steady (emit_op limit op.POP span) mid now b
          → Incremented class limit l (incr_at tree parts left at) span before now b
      unfolding for_incr
      incr_done z d = some_incr (λ e n r. let c = x.did e n r in then_on _ c z (on_to (valued c z) d))
