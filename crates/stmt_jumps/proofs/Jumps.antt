-- The jumps around the parts of an `if` and a loop: a law for each way out.
use Rattle.std.specs.Prelude.{Ok, Err}
use mathlib.Core.Path.{◌≡◌, sym, subst}
use Prim.Native.Nat.{ℕ, ◌+◌, ◌≤◌}
use native.Mathlib.Nat.{le_trans}
use Rattle.rules.specs.declared.Span.{Span}
use Rattle.rules.specs.Op as op
use Rattle.rules.specs.Compiler.{Compiler, Compile, ◌>>=◌, ◌>>◌, return, emit_op, emit_jump, patch_jump}
use Rattle.steps.specs.View.{Mem, t_of, code_len, steady, Gave, Refused, Did, OpenedAs, Opened}
use Rattle.steps.proofs.Steps.{went, went_to, placed, stuck, stuck_to, still, gave_seq, refused_bind, refused_seq, opened_bind, opened_seq}
use Rattle.stmt_jumps.specs.Jumps.{open_jump, turn_jump}
use Rattle.steps.proofs.Monad.{returned, cut_and, cut_later}
use Rattle.steps.specs.Why.{told, Step}
use Rattle.steps.specs.declared.Why.{Why}

module _ {class limit l : ℕ} where
  stopped_to : {m : Compile ℕ} {before now : Mem} {r : Step} {x : Why} → r ≡ Err x → Refused class l m before (told (t_of now) x) → Opened class limit l steady m before now r
  stopped_to {m} {before} {now} q h = record { does = subst (λ (s : Step). OpenedAs class limit l steady m before now s) (sym q) h }

  -- the last step, and then the place
  place_as : (place : ℕ) {m : Compile Unit} {mid now : Mem} → place + 2 ≤ code_len mid l → (r : Step) → Did class limit l place steady m mid now r
      → OpenedAs class limit l steady (m >> return place) mid now r
  place_as place {m} {mid} {now} h (Ok v) d =
      let g = d.does.0 in (
        subst (λ (k : ℕ). Gave class limit l steady (m >> return place) k mid now) (sym d.does.1) (gave_seq g (return place) (returned place g.ahead.fit)),
        subst (λ (k : ℕ). k + 2 ≤ code_len now l) (sym d.does.1) (le_trans h g.ahead.up),
      )
  place_as place h (Err x) d = refused_seq d.does (return place)

  place_last : (place : ℕ) {m : Compile Unit} {mid now : Mem} {r : Step} → place + 2 ≤ code_len mid l → Did class limit l place steady m mid now r
      → Opened class limit l steady (m >> return place) mid now r
  place_last place {r = r} h d = record { does = place_as place h r d }

  pub open_stop : (span : Span) {before now : Mem} {r : Step} {x : Why} → Opened class limit l steady (emit_jump limit op.JUMP_IF_FALSE span) before now r → r ≡ Err x
      → Opened class limit l steady (open_jump limit span) before now r
  unfolding open_jump
  open_stop span a q = stopped_to q (refused_bind (stuck_to a q) _)

  pub open_done : (span : Span) {before mid now : Mem} {r r' : Step} {j : ℕ} → Opened class limit l steady (emit_jump limit op.JUMP_IF_FALSE span) before mid r → r ≡ Ok j
      → Did class limit l j steady (emit_op limit op.POP span) mid now r' → Opened class limit l steady (open_jump limit span) before now r'
  unfolding open_jump
  open_done span {j = j} a q d = opened_bind (went_to a q) _ (place_last j (placed a q) d)

  module _ (place : ℕ) (span : Span) where
    pub turn_stop : {before now : Mem} {r : Step} {x : Why} → Opened class limit l steady (emit_jump limit op.JUMP span) before now r → r ≡ Err x
        → Opened class limit l steady (turn_jump limit place span) before now r
    unfolding turn_jump
    turn_stop a q = stopped_to q (refused_bind (stuck_to a q) _)

    pub turn_stop_2 : {before mid now : Mem} {r r' : Step} {j k : ℕ} {x : Why} → Opened class limit l steady (emit_jump limit op.JUMP span) before mid r → r ≡ Ok j
        → Did class limit l k steady (patch_jump place span) mid now r' → r' ≡ Err x → Opened class limit l steady (turn_jump limit place span) before now r'
    unfolding turn_jump
    turn_stop_2 a q d q' = opened_bind (went_to a q) _ (stopped_to q' (refused_seq (stuck d q') _))

    pub turn_done : {before mid late now : Mem} {r r' r'' : Step} {j k v : ℕ} → Opened class limit l steady (emit_jump limit op.JUMP span) before mid r → r ≡ Ok j
        → Did class limit l k steady (patch_jump place span) mid late r' → r' ≡ Ok v → Did class limit l j steady (emit_op limit op.POP span) late now r''
        → Opened class limit l steady (turn_jump limit place span) before now r''
    unfolding turn_jump
    turn_done {j = j} a q d q' f = opened_bind (went_to a q) _ (opened_seq (went d q') _ (place_last j (still j (placed a q) (went d q')) f))

-- ## The parts make the whole: what comes after a jump goes on from its place

module _ {B : Type 0} (k : ℕ → Compile B) where
  pub open_cut : (limit : ℕ) (span : Span) (s : Compiler) → (emit_jump limit op.JUMP_IF_FALSE span >>= λ j. emit_op limit op.POP span >> k j) s ≡ (open_jump limit span >>= k) s
  unfolding open_jump ◌>>=◌ ◌>>◌
  open_cut limit span s = cut_and k (emit_jump limit op.JUMP_IF_FALSE span s) (emit_op limit op.POP span)

  pub turn_cut : (limit place : ℕ) (span : Span) (s : Compiler)
      → (emit_jump limit op.JUMP span >>= λ j. patch_jump place span >> (emit_op limit op.POP span >> k j)) s ≡ (turn_jump limit place span >>= k) s
  unfolding turn_jump ◌>>=◌ ◌>>◌
  turn_cut limit place span s = cut_later k (emit_jump limit op.JUMP span s) (patch_jump place span) (emit_op limit op.POP span)
