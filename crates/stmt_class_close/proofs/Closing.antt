-- A class after its methods: a law for each way out of the functions that close it.
use Rattle.steps.specs.Why.{Step}
use mathlib.Core.Path.{◌≡◌, sym, subst}
use mathlib.Core.Option.{Option}
use mathlib.Core.List.{List}
use Prim.Native.Nat.{ℕ, ◌+◌}
use lib.Dec.{ltb}
use Rattle.std.specs.Prelude.{if◌then◌else◌, Ok, Err}
use Rattle.rules.specs.declared.Span.{Span}
use Rattle.rules.specs.Answer.{NO_SPAN}
use Rattle.rules.specs.Tree.{Superclass}
use Rattle.rules.specs.Op as op
use Rattle.rules.specs.Compiler.{Compile, done, is_some, emit_op, end_scope, end_superclass}
use Rattle.fields.specs.Words.{word8, word16}
use Rattle.steps.specs.View.{Mem, Fit, steady, shallower, Did}
use Rattle.steps.proofs.Steps.{went, next, halt, then_on, chosen, otherwise}
use Rattle.steps.proofs.Monad.{nothing}
use Rattle.stmt_output_laws.specs.Parts.{close_class}
use Rattle.stmt_heads.specs.Classes.{closing, ClassClosed}
use Rattle.stmt_heads.proofs.Heads.{with_super, without_super, no_count, a_count}
use Rattle.steps.specs.declared.Why.{Why}

-- the class goes from the stack
abbrev pub drops : (limit count : ℕ) → Span → Compile Unit
drops limit count span = if ltb 0 count then emit_op limit op.POP span else done

module _ {class limit l next_at : ℕ} (count : ℕ) (span : Span) where
  pub drop_none : {before : Mem} → count ≡ 0 → Fit before l limit → Did class limit l next_at steady (drops limit count span) before before (Ok next_at)
  drop_none h fit = otherwise _ _ _ (no_count count h) (next (nothing fit))

  pub drop_one : {before now : Mem} {r : Step} → (count ≡ 0 → ⊥) → Did class limit l next_at steady (emit_op limit op.POP span) before now r → Did class limit l
      next_at steady (drops limit count span) before now r
  drop_one h d = chosen _ _ _ (a_count count h) d

module _ {class limit l : ℕ} (tree : List ℕ) (at to : ℕ) (span : Span) {n : ℕ} {before : Mem} where
  pub close_stop : {now : Mem} {r : Step} {x : Why} → Did class limit l n steady (drops limit (word16 tree (at + 13)) span) before now r → r ≡ Err x →
      ClassClosed class limit l tree at to span before now r
  unfolding close_class
  close_stop a q = record { did = λ d has o mid look one. halt _ a q }

  pub close_with : {mid now : Mem} {r r' : Step} {v : ℕ} → word8 tree (at + 12) ≡ 1 → Did class limit l n steady (drops limit (word16 tree (at + 13)) span) before mid r → r ≡ Ok v
      → Did class limit l to shallower (end_scope limit NO_SPAN) mid now r' → ClassClosed class limit l tree at to span before now r'
  unfolding close_class end_superclass
  close_with {now = now} {r' = r'} h a q b = record {
    did = λ d has o mid look one.
        subst (λ (o : Option Superclass). Did class limit l to (closing (is_some o)) (close_class limit o (ltb 0 (word16 tree (at + 13))) span) before now r')
        (sym (with_super tree at d look one h).is)
        (then_on _ a q b);
  }

  pub close_without : {now : Mem} {r : Step} {v : ℕ} → (word8 tree (at + 12) ≡ 1 → ⊥) → Did class limit l n steady (drops limit (word16 tree (at + 13)) span) before now r → r ≡ Ok v
      → ClassClosed class limit l tree at to span before now (Ok to)
  unfolding close_class end_superclass
  close_without {now} h a q = record {
    did = λ d has o mid look one.
        subst (λ (o : Option Superclass). Did class limit l to (closing (is_some o)) (close_class limit o (ltb 0 (word16 tree (at + 13))) span) before now
        (Ok to)) (sym (without_super tree at d look one h).is)
        (then_on _ a q (next (nothing (went a q).ahead.fit)));
  }
