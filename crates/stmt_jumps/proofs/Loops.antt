-- The end of a loop: a law for each way out.
use mathlib.Core.Path.{◌≡◌, sym, subst}
use Prim.Native.Nat.{ℕ}
use Rattle.std.specs.Prelude.{Option as Maybe, Some, None, Ok, Err}
use Rattle.rules.specs.declared.Span.{Span}
use Rattle.rules.specs.Op as op
use Rattle.rules.specs.Compiler.{emit_op, emit_loop, patch_jump, for_end}
use Rattle.steps.specs.View.{Mem, steady, Did}
use Rattle.steps.specs.Why.{Step}
use Rattle.steps.proofs.Steps.{went, next, halt, then_on}
use Rattle.steps.proofs.Monad.{nothing}
use Rattle.stmt_jumps.specs.Jumps.{close_loop, place_of}
use Rattle.steps.specs.declared.Why.{Why}

module _ {class limit l n : ℕ} (start : ℕ) (exit : Maybe ℕ) (span : Span) {before : Mem} where
  -- by whether there is a condition
  with_exit : {now : Mem} {r : Step} {e : Maybe ℕ} → exit ≡ e → Did class limit l n steady (close_loop limit start (place_of e) span) before now r
      → Did class limit l n steady (close_loop limit start (place_of exit) span) before now r
  with_exit {now} {r} q d = subst (λ (e : Maybe ℕ). Did class limit l n steady (close_loop limit start (place_of e) span) before now r) (sym q) d

  pub loop_stop : {k : ℕ} {now : Mem} {r : Step} {x : Why} → Did class limit l k steady (emit_loop limit start span) before now r → r ≡ Err x
      → Did class limit l n steady (close_loop limit start (place_of exit) span) before now r
  unfolding close_loop
  loop_stop a q = halt _ a q

  pub loop_plain : {k v : ℕ} {now : Mem} {r : Step} → exit ≡ None → Did class limit l k steady (emit_loop limit start span) before now r → r ≡ Ok v
      → Did class limit l n steady (close_loop limit start (place_of exit) span) before now (Ok n)
  unfolding close_loop for_end
  loop_plain e a q = with_exit e (then_on _ a q (next (nothing (went a q).ahead.fit)))

  module _ {place : ℕ} (e : exit ≡ Some place) {k v : ℕ} {mid : Mem} {r : Step} (a : Did class limit l k steady (emit_loop limit start span) before mid r) (q : r ≡ Ok v) where
    pub loop_patch_stop : {k' : ℕ} {now : Mem} {r' : Step} {x : Why} → Did class limit l k' steady (patch_jump place span) mid now r' → r' ≡ Err x
        → Did class limit l n steady (close_loop limit start (place_of exit) span) before now r'
    unfolding close_loop for_end
    loop_patch_stop b q' = with_exit e (then_on _ a q (halt _ b q'))

    pub loop_done : {k' v' : ℕ} {late now : Mem} {r' r'' : Step} → Did class limit l k' steady (patch_jump place span) mid late r' → r' ≡ Ok v'
        → Did class limit l n steady (emit_op limit op.POP span) late now r''
        → Did class limit l n steady (close_loop limit start (place_of exit) span) before now r''
    unfolding close_loop for_end
    loop_done b q' f = with_exit e (then_on _ a q (then_on _ b q' f))
