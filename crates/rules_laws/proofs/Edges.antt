-- The Rust's limits on jumps, loops, parameters and locals, from both sides, for every state: a step refuses so exactly when its limit is passed. What
-- it does up to there, and that it refuses past it, in the function of that state, are Slips' laws; here is that no other way leads to that refusal, and
-- what stands at the edge.
use mathlib.Core.Path.{◌≡◌, refl, ap, subst, subst⁻¹, ◌∙◌}
use mathlib.Core.Logic.{◌↔◌}
use mathlib.Core.Bool.{Bool, true, false}
use mathlib.Core.Option.{none}
use mathlib.Core.List.{List, ◌∷◌, []}
use Prim.Native.Nat.{ℕ, ◌+◌, ◌-◌, ◌/◌, ◌%◌, ◌≤◌, ◌<◌}
use native.Mathlib.Omega.{arith}
use lib.ListN.{length, set, length-append}
use lib.Dec.{ltb, leb, ltb→lt, nltb→le, leb→le, nleb→lt}
use Rattle.rules.specs.declared.Span.{Span}
use Rattle.rules.specs.declared.Refusal.{Refusal}
use Rattle.rules.specs.declared.Refusal.TheVariants.{JumpTooLarge, TooManyParams, TooManyLocals, AlreadyDefined, TooManyConstants, ReturnOutsideFunction, CodeFull}
use Rattle.rules.specs.Answer.{NO_SPAN}
use Rattle.rules.specs.Op as op
use Rattle.rules.specs.Chunk.{Written, at_place, no_room, Constant, CF, write_u8, write_constant}
use Rattle.rules.specs.Compiler as c
use Rattle.rules.specs.Compiler.{Compiler, CompilerCtx, Compile, Outcome, ok, err, FunctionType, Function, Initializer, Method, Script, Upvalue, declared_here, open_code}
use Rattle.rules.specs.Compiler.{with_ctx, with_chunk}
use Rattle.rules.proofs.Slips.{near_ahead, too_far_ahead, near_back, too_far_back, with_operand, too_many_params, enough_params, too_many_locals, enough_locals, already_declared}
use Rattle.rules_laws.proofs.Facts.{with_ops, write_all, loop_bytes}
use Rattle.rules_laws.proofs.Refusals.{RefusedBy}
use Rattle.rules_laws.proofs.Sizes.{emitted, byte_fits}
use Rattle.rules_laws.proofs.Spends as spends
use Rattle.rules_laws.proofs.Spends.{Spends, Ends}

-- ## Steps that never refuse with `x`

module _ (x : Refusal) where
  abbrev Other : Refusal → Type 0
  Other r = r ≡ x → ⊥

  -- as `Spends` of a fact that says nothing: its laws put such steps together
  abbrev Nothing : Unit {0} → ℕ → Compiler → Type 0
  Nothing g k s = Unit {0}

  silent : (g : Unit {0}) (k k' : ℕ) (s : Compiler) → k ≤ k' → Nothing g k s → Nothing g k' s
  silent g k k' s l j = tt

  abbrev Never : {A : Type 0} → Compile A → Type 0
  Never m = Spends Nothing Other 0 tt tt 0 m

  never : {A : Type 0} {m : Compile A} → ((s : Compiler) → RefusedBy x (m s) → ⊥) → Never m
  never {A} {m = m} h = spends.free Nothing Other 0 silent (λ s k j. by_outcome k (m s) (h s))
    where
      by_outcome : (k : ℕ) (o : Outcome A) → (RefusedBy x o → ⊥) → Ends Nothing Other 0 tt k o
      by_outcome k (ok a t) h = tt
      by_outcome k (err y) h = h

  says : {A : Type 0} {m : Compile A} → Never m → (s : Compiler) → RefusedBy x (m s) → ⊥
  says {A} {m = m} h s e = by_outcome (m s) (h.run s 0 (omega arith) tt) e
    where
      by_outcome : (o : Outcome A) → Ends Nothing Other 0 tt 0 o → RefusedBy x o → ⊥
      by_outcome (ok a t) h e = e
      by_outcome (err y) h e = h e

  bind : {A B : Type 0} {m : Compile A} {f : A → Compile B} → Never m → ((a : A) → Never (f a)) → Never (c.◌>>=◌ m f)
  bind hm hf = spends.bind Nothing Other 0 silent hm hf

  infixr 10 ◌⟫◌
  ◌⟫◌ : {A B : Type 0} {m : Compile A} {n : Compile B} → Never m → Never n → Never (c.◌>>◌ m n)
  hm ⟫ hn = spends.follow Nothing Other 0 silent hm hn

  the : {A : Type 0} (f : Compiler → A) → Never (c.the f)
  the f = spends.the Nothing Other 0 silent f

  need : (b : Bool) (r : Refusal) → Other r → Never (c.need b r)
  need b r o = spends.need Nothing Other 0 silent b r o

  update : (f : CompilerCtx → CompilerCtx) → Never (c.update_ctx f)
  unfolding c.update_ctx
  update f = spends.free Nothing Other 0 silent (λ s k j. tt)

  -- what writes refuses only with 30 and 15
  module _ (full : Other CodeFull) (many : (span : Span) → Other (TooManyConstants span)) (limit : ℕ) where
    emit_u8 : (byte : ℕ) (span : Span) → Never (c.emit_u8 limit byte span)
    unfolding c.emit_u8
    emit_u8 byte span = bind (the open_code) (λ used. need (ltb used limit) CodeFull full ⟫ update _)

    emit_constant : (value : Constant) (span : Span) → Never (c.emit_constant limit value span)
    unfolding c.emit_constant c.emit_place
    emit_constant value span = bind (the (λ s. s.ctx.chunk)) (λ chunk. put (write_constant chunk value))
      where
        put : (w : Written) → Never (c.emit_place limit w span)
        put (at_place place chunk) = update _ ⟫ emit_u8 place span
        put no_room = spends.refuse Nothing Other 0 silent (TooManyConstants span) (many span)

    emit_upvalues : (us : List Upvalue) (span : Span) → Never (c.emit_upvalues limit us span)
    unfolding c.emit_upvalues
    emit_upvalues [] span = spends.done Nothing Other 0 silent
    emit_upvalues (u ∷ us) span = emit_u8 _ span ⟫ (emit_u8 _ span ⟫ emit_upvalues us span)

    emit_closure : (number : ℕ) (us : List Upvalue) (span : Span) → Never (c.emit_closure limit number us span)
    unfolding c.emit_closure
    emit_closure number us span = emit_u8 op.CLOSURE span ⟫ (emit_constant (CF number) span ⟫ emit_upvalues us span)

    end_function : (span : Span) → Never (c.end_function limit span)
    unfolding c.end_function c.end_ctx c.back_to
    end_function span = bind (bind (the (λ s. s.parents)) back) (λ p. emit_closure p.0 p.1 span)
      where
        back : (parents : List CompilerCtx) → Never (c.back_to parents)
        back [] = spends.free Nothing Other 0 silent (λ s k j. tt)
        back (parent ∷ above) = spends.free Nothing Other 0 silent (λ s k j. tt)

    implicit_return : Other (ReturnOutsideFunction NO_SPAN) → Never (c.implicit_return limit)
    unfolding c.implicit_return c.compile_return c.return_value c.compile_value c.emit_op c.emit_op_u8
    implicit_return outside =
        bind (the (λ s. s.ctx.chunk.ops))
        (λ ops. spends.either Nothing Other 0 silent (c.ends_in_return ops) (spends.done Nothing Other 0 silent)
        (bind (the (λ s. s.ctx.type)) (λ type. by_type type ⟫ emit_u8 op.RETURN NO_SPAN)))
      where
        by_type : (type : FunctionType) → Never (c.return_value limit type none NO_SPAN)
        by_type Script = spends.refuse Nothing Other 0 silent (ReturnOutsideFunction NO_SPAN) outside
        by_type Initializer = emit_u8 op.GET_LOCAL NO_SPAN ⟫ emit_u8 0 NO_SPAN
        by_type Function = emit_u8 op.NIL NO_SPAN
        by_type Method = emit_u8 op.NIL NO_SPAN

  -- what declares refuses only with 10 and 16
  module _ (again : (span : Span) (name : ℕ) → Other (AlreadyDefined span name)) (many : (span : Span) → Other (TooManyLocals span)) where
    declare_local : (name : ℕ) (span : Span) → Never (c.declare_local name span)
    unfolding c.declare_local
    declare_local name span =
        bind (the (λ s. s.ctx)) (λ ctx. need _ (AlreadyDefined span name) (again span name) ⟫ (need _ (TooManyLocals span) (many span) ⟫ update _))

    define_local : Never c.define_local
    unfolding c.define_local
    define_local = update _

    declare_params : (params : List ℕ) (span : Span) → Never (c.declare_params params span)
    unfolding c.declare_params
    declare_params [] span = spends.done Nothing Other 0 silent
    declare_params (param ∷ params) span = declare_local param span ⟫ (define_local ⟫ declare_params params span)

-- ## 13 JumpTooLarge, of JUMP and JUMP_IF_FALSE

abbrev pub ahead : Compiler → (at : ℕ) → ℕ
ahead s at = length s.ctx.chunk.ops - 2 - at

module _ (at : ℕ) (span : Span) (s : Compiler) where
  -- exactly when the way from behind the operand to the end of the code is above 65,535
  pub jump_too_large_exactly : RefusedBy (JumpTooLarge span) (c.patch_jump at span s) ↔ (65_535 < ahead s at)
  jump_too_large_exactly =
      (λ e. by_test (leb (ahead s at) 65_535) refl e, λ l. subst⁻¹ (RefusedBy (JumpTooLarge span)) (too_far_ahead at span s l) refl)
    where
      by_test : (b : Bool) → leb (ahead s at) 65_535 ≡ b → RefusedBy (JumpTooLarge span) (c.patch_jump at span s) → 65_535 < ahead s at
      by_test true t e = absurd (subst (RefusedBy (JumpTooLarge span)) (near_ahead at span s (leb→le (ahead s at) 65_535 (rw t tt))) e)
      by_test false t e = nleb→lt (ahead s at) 65_535 (rw t tt)

  -- the longest: both of its bytes are 255
  pub longest_jump : ahead s at ≡ 65_535 →
      c.patch_jump at span s ≡ ok tt (with_ctx s (with_chunk s.ctx (with_ops s.ctx.chunk (set (set s.ctx.chunk.ops at 0xFF) (at + 1) 0xFF))))
  unfolding c.set_u16
  longest_jump e = near_ahead at span s (omega (arith, e)) ∙ ap (λ (d : ℕ). ok tt (with_operand s at d)) e

-- ## 13 JumpTooLarge, of LOOP

one_more : (s : Compiler) (byte : ℕ) (span : Span) → open_code (emitted s byte span) ≡ open_code s + 1
unfolding open_code write_u8
one_more s byte span = omega (arith, length-append s.ctx.chunk.ops (byte ∷ []))

abbrev pub back : Compiler → (start : ℕ) → ℕ
back s start = length s.ctx.chunk.ops + 3 - start

module _ (limit start : ℕ) (span : Span) (s : Compiler) where
  -- exactly when the way from behind the LOOP to the loop's start is above 65,535, under every code limit
  pub loop_too_large_exactly : RefusedBy (JumpTooLarge span) (c.emit_loop limit start span s) ↔ (65_535 < back s start)
  loop_too_large_exactly =
      (λ e. by_test (leb (back s start) 65_535) refl e, λ l. subst⁻¹ (RefusedBy (JumpTooLarge span)) (too_far_back limit start span s l) refl)
    where
      writes : (byte : ℕ) → Never (JumpTooLarge span) (c.emit_u8 limit byte span)
      writes byte =
          emit_u8 (JumpTooLarge span) (λ e. let z : ◌≡◌ {A = ℕ} 0 1 = cc in omega arith) (λ _ e. let z : ◌≡◌ {A = ℕ} 0 1 = cc in omega arith) limit byte
          span

      by_test : (b : Bool) → leb (back s start) 65_535 ≡ b → RefusedBy (JumpTooLarge span) (c.emit_loop limit start span s) → 65_535 < back s start
      by_test true t e =
          absurd (says (JumpTooLarge span) (◌⟫◌ (JumpTooLarge span) (writes op.LOOP)
          (◌⟫◌ (JumpTooLarge span) (writes (back s start % 256)) (writes (back s start / 256)))) s
          (subst (RefusedBy (JumpTooLarge span)) (near_back limit start span s (leb→le (back s start) 65_535 (rw t tt))) e))
      by_test false t e = nleb→lt (back s start) 65_535 (rw t tt)

  -- and up to there it writes LOOP and how far, where the code limit has room for three bytes
  pub loop_written : back s start ≤ 65_535 → open_code s + 3 ≤ limit →
      c.emit_loop limit start span s ≡ ok tt (with_ctx s (with_chunk s.ctx (write_all s.ctx.chunk (loop_bytes (length s.ctx.chunk.ops) start) span)))
  unfolding c.◌>>◌ c.go_on
  loop_written l room =
      near_back limit start span s l ∙
      rw (byte_fits limit s op.LOOP span (omega arith), byte_fits limit s₁ (back s start % 256) span (omega (arith, one_more s op.LOOP span)))
      (byte_fits limit s₂ (back s start / 256) span (omega (arith, one_more s op.LOOP span, one_more s₁ (back s start % 256) span)))
    where
      s₁ : Compiler
      s₁ = emitted s op.LOOP span

      s₂ : Compiler
      s₂ = emitted s₁ (back s start % 256) span

  -- the longest: both of its bytes are 255
  pub longest_loop : back s start ≡ 65_535 → open_code s + 3 ≤ limit →
      c.emit_loop limit start span s ≡ ok tt (with_ctx s (with_chunk s.ctx (write_all s.ctx.chunk (op.LOOP ∷ 0xFF ∷ 0xFF ∷ []) span)))
  longest_loop e room =
      loop_written (omega (arith, e)) room ∙
      ap (λ (d : ℕ). ok tt (with_ctx s (with_chunk s.ctx (write_all s.ctx.chunk (op.LOOP ∷ d % 256 ∷ d / 256 ∷ []) span)))) e

-- ## 17 TooManyParams

-- exactly when there are more than 255, where the body does not refuse so itself, by a function in it
pub too_many_params_exactly : (limit : ℕ) (type : FunctionType) (name : ℕ) (params : List ℕ) (body : Compile Unit) (span : Span) →
    ((s : Compiler) → RefusedBy (TooManyParams span) (body s) → ⊥) → (s : Compiler) →
    RefusedBy (TooManyParams span) (c.compile_function_with limit type name params body span s) ↔ (255 < length params)
unfolding c.begin_ctx
too_many_params_exactly limit type name params body span own s =
    (λ e. by_test (leb (length params) 255) refl e, λ l. subst⁻¹ (RefusedBy x) (too_many_params limit type name params body span s (omega arith)) refl)
  where
    x : Refusal
    x = TooManyParams span

    full : CodeFull ≡ x → ⊥
    full e = let z : ◌≡◌ {A = ℕ} 0 1 = cc in omega arith

    constants : (span : Span) → TooManyConstants span ≡ x → ⊥
    constants span e = let z : ◌≡◌ {A = ℕ} 0 1 = cc in omega arith

    outside : ReturnOutsideFunction NO_SPAN ≡ x → ⊥
    outside e = let z : ◌≡◌ {A = ℕ} 0 1 = cc in omega arith

    again : (span : Span) (name : ℕ) → AlreadyDefined span name ≡ x → ⊥
    again span name e = let z : ◌≡◌ {A = ℕ} 0 1 = cc in omega arith

    locals : (span : Span) → TooManyLocals span ≡ x → ⊥
    locals span e = let z : ◌≡◌ {A = ℕ} 0 1 = cc in omega arith

    begun : (depth : ℕ) (s : Compiler) → RefusedBy x (c.begin_ctx (c.new_ctx name (length params) type (depth + 1)) s) → ⊥
    begun depth s e = e

    -- every other part of a function refuses otherwise
    by_test : (b : Bool) → leb (length params) 255 ≡ b → RefusedBy x (c.compile_function_with limit type name params body span s) → 255 < length params
    by_test true t e =
        absurd (says x (bind x (the x _) (λ depth. ◌⟫◌ x (never x (begun depth))
        (◌⟫◌ x (declare_local x again locals _ span)
        (◌⟫◌ x (define_local x again locals)
        (◌⟫◌ x (declare_params x again locals params span)
        (◌⟫◌ x (never x own) (◌⟫◌ x (implicit_return x full constants limit outside) (end_function x full constants limit span)))))))) s
        (subst (RefusedBy x) (enough_params limit type name params body span s (leb→le (length params) 255 (rw t tt))) e))
    by_test false t e = nleb→lt (length params) 255 (rw t tt)

-- ## 16 TooManyLocals

module _ (name : ℕ) (span : Span) (s : Compiler) where
  -- exactly when 256 stand already and the scope has none of that name; the 256th is declared: Slips `enough_locals`
  pub too_many_locals_exactly : RefusedBy (TooManyLocals span) (c.declare_local name span s) ↔
      ((declared_here s.ctx.scope_depth name s.ctx.locals ≡ false) × (256 ≤ length s.ctx.locals))
  too_many_locals_exactly = (
    λ e. by_name (declared_here s.ctx.scope_depth name s.ctx.locals) refl e,
    λ p. subst⁻¹ (RefusedBy (TooManyLocals span)) (too_many_locals name span s p.0 p.1) refl,
  )
    where
      by_count : declared_here s.ctx.scope_depth name s.ctx.locals ≡ false → (b : Bool) → ltb (length s.ctx.locals) 256 ≡ b →
          RefusedBy (TooManyLocals span) (c.declare_local name span s) → 256 ≤ length s.ctx.locals
      by_count d true t e =
          absurd (subst (RefusedBy (TooManyLocals span)) (enough_locals name span s d (ltb→lt (length s.ctx.locals) 256 (rw t tt))) e)
      by_count d false t e = nltb→le (length s.ctx.locals) 256 (rw t tt)

      by_name : (b : Bool) → declared_here s.ctx.scope_depth name s.ctx.locals ≡ b → RefusedBy (TooManyLocals span) (c.declare_local name span s) →
          (declared_here s.ctx.scope_depth name s.ctx.locals ≡ false) × (256 ≤ length s.ctx.locals)
      by_name true d e =
          let r : AlreadyDefined span name ≡ TooManyLocals span = subst (RefusedBy (TooManyLocals span)) (already_declared name span s d) e in
          let z : ◌≡◌ {A = ℕ} 0 1 = cc in absurd (omega arith)
      by_name false d e = (d, by_count d (ltb (length s.ctx.locals) 256) refl e)
