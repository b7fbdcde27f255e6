-- A closure, step by step: the opcode, the function's number, the captured variables.
use Rattle.steps.specs.Why.{Step}
use Rattle.std.specs.Prelude.{Ok, Err}
use mathlib.Core.Path.{◌≡◌, refl, sym, ap, subst, ◌∙◌}
use mathlib.Core.List.{List}
use Prim.Native.Nat.{ℕ, ◌+◌, ◌<◌}
use native.Mathlib.Omega.{arith}
use Rattle.rules.specs.declared.Span.{Span}
use Rattle.rules.specs.Op as op
use Rattle.rules.specs.Chunk.{Constant, CF}
use Rattle.rules.specs.Compiler.{Upvalue, emit_op, emit_constant, emit_upvalues, emit_closure}
use Rattle.state.specs.Layout.{levels, upvalues_of, constant_of}
use Rattle.state.proofs.Laws.{upvalues_same}
use Rattle.steps.specs.View.{Mem, t_of, Fit, steady, Ahead, Did}
use Rattle.steps.proofs.Steps.{went, halt, then_on, by_name}
use Rattle.steps.specs.declared.Why.{Why}

-- a constant by its word
constant_as : {class limit l n : ℕ} (span : Span) {before now : Mem} {r : Step} {a b : Constant} → a ≡ b → Did class limit l n steady
    (emit_constant limit a span) before now r → Did class limit l n steady (emit_constant limit b span) before now r
constant_as {class} {limit} {l} {n} span {before} {now} {r} q d = subst (λ (k : Constant). Did class limit l n steady (emit_constant limit k span) before now r) q d

-- the upvalues of the level above are as they were after a step
above_same : {l limit : ℕ} {before now : Mem} → l + 1 < levels → Fit before l limit → Ahead l limit steady before now → upvalues_of (t_of now) (l + 1) ≡ upvalues_of (t_of before) (l + 1)
above_same {l} {before = before} {now = now} low fit a =
    upvalues_same (t_of before) (t_of now) (l + 1) (fit.wf.few_upvalues (l + 1) low) (λ o h g. a.over refl _ (omega arith) (omega arith))

module _ (class limit l n number : ℕ) (span : Span) (us : List Upvalue) where
  pub closure_first : {k : ℕ} {before now : Mem} {r : Step} {x : Why} → Did class limit l k steady (emit_op limit op.CLOSURE span) before now r → r ≡ Err x
      → Did class limit l n steady (emit_closure limit number us span) before now r
  unfolding emit_closure emit_op
  closure_first d q = halt _ d q

  module _ {k v : ℕ} {before mid : Mem} {r : Step} (d : Did class limit l k steady (emit_op limit op.CLOSURE span) before mid r) (q : r ≡ Ok v) (w : ℕ) (is : constant_of w ≡ CF number) where
    pub closure_second : {j : ℕ} {now : Mem} {r' : Step} {x : Why} → Did class limit l j steady (emit_constant limit (constant_of w) span) mid now r' → r' ≡
        Err x → Did class limit l n steady (emit_closure limit number us span) before now r'
    unfolding emit_closure emit_op
    closure_second d' q' = then_on _ d q (halt _ (constant_as span is d') q')

    pub closure_last : {j u : ℕ} {late now : Mem} {r' r'' : Step} → l + 1 < levels → Fit before l limit → us ≡ upvalues_of (t_of before) (l + 1)
        → Did class limit l j steady (emit_constant limit (constant_of w) span) mid late r' → r' ≡ Ok u → Did class limit l n steady
        (emit_upvalues limit (upvalues_of (t_of late) (l + 1)) span) late now r''
        → Did class limit l n steady (emit_closure limit number us span) before now r''
    unfolding emit_closure emit_op
    closure_last low fit e d' q' f =
        let a = (went d q).ahead in
        let b = (went d' q').ahead in
        then_on _ d q (then_on _ (constant_as span is d') q' (by_name (ap (λ (z : List Upvalue). emit_upvalues limit z span) (above_same low a.fit b ∙ above_same low fit a ∙ sym e)) f))
