-- From the laws of one function's chunk (`ChunkLaws`) to the whole compiler. Contexts, names, captured variables and the code limit are gone through
-- here, once for all facts.
use mathlib.Core.Path.{◌≡◌, refl, sym, ap, ◌∙◌, subst, subst⁻¹}
use mathlib.Core.Bool.{Bool, true, false}
use mathlib.Core.Option.{Option, none, some}
use mathlib.Core.List.{List, ◌∷◌, ◌++◌, append_assoc, append-nil, []}
use Prim.Native.Nat.{ℕ, ◌+◌, ◌-◌, ◌/◌, ◌%◌, ◌≤◌, ◌<◌}
use native.Mathlib.Omega.{arith}
use lib.ListN.{length, length-append, get_elem?}
use lib.Dec.{T, ltb, leb, ltb→lt, leb→le}
use Rattle.rules.specs.Base.{position}
use Rattle.std.specs.Prelude.{if◌then◌else◌}
use Rattle.rules.specs.declared.Span.{Span}
use Rattle.rules.specs.declared.Refusal.{Refusal}
use Rattle.rules.specs.declared.Refusal.TheVariants.{TooManyUpvalues}
use Rattle.rules.specs.Tree.{Stmts}
use Rattle.rules.specs.Op as op
use Rattle.rules.specs.Op.{Operands, Plain, Byte, Captured, Value, Text, Invoke, Ahead, operands_of}
use Rattle.rules.specs.Chunk.{Chunk, Constant, CS, CF, write_u8, Written, at_place, no_room, write_constant, written, ObjectFunction, same_constant}
use Rattle.rules.specs.Compiler as c
use Rattle.rules.specs.Compiler.{Compiler, CompilerCtx, Outcome, ok, err, Found, at_slot, uninitialized, no_local, Resolved, captured, nowhere, failed, Upvalue, Local, FunctionType}
use Rattle.rules_laws.proofs.Keeps as keeps
use Rattle.rules_laws.proofs.Keeps.{After, Triple, ◌>>=◌, ◌>>◌, the, need, refuse, return, gives, given, Laws}
use Rattle.rules_laws.proofs.Facts.{All, all_map, all_end, at_end, stopped, same_eq, with_constants, with_ops, write_all, IsValue, grown_map, Wrote, Form, Still, Within, within_more, pairs, length_pairs, pairs_within, pairs_bytes, Small, slot_inside, capture_length, initialize_length, Nested, jump_bytes, loop_bytes, Fact, ChunkLaws, as_before, one_more, a_number, a_string, plain, byte, captured_at, value_at, text_at, invoke, still_plain, still_byte, still_captured, still_value, still_text, still_invoke}
use Rattle.rules.proofs.Computes as computes

-- ## The state

module _ (K : Type 0) (P : K → Fact) (start : K) where
  -- the functions around, each with what had been finished when it was opened, and when the one in it was: `fs`
  abbrev pub Around : List K → (fs : List ObjectFunction) → List CompilerCtx → Type 0
  Around [] fs [] = fs ≡ []
  Around [] fs (x ∷ xs) = ⊥
  Around (h ∷ hs) fs [] = ⊥
  Around (h ∷ hs) fs (x ∷ xs) =
      (opened : List ObjectFunction) × (since : List ObjectFunction) × (fs ≡ opened ++ since) × P h opened fs (length x.upvalues) x.chunk × Around hs opened xs

  -- each finished function, seen with those that were finished before it
  abbrev pub Finished : List ObjectFunction → List ObjectFunction → Type 0
  Finished before [] = Unit {0}
  Finished before (f ∷ fs) = ((opened : List ObjectFunction) × P start opened before f.upvalue_count f.chunk) × Finished (before ++ (f ∷ [])) fs

  pub record At (X : Fact) (hs : List K) (s : Compiler) : Type 0 where
    pub opened : List ObjectFunction
    pub since : List ObjectFunction
    pub both : s.functions ≡ opened ++ since
    pub open_one : X opened s.functions (length s.ctx.upvalues) s.ctx.chunk
    pub around : Around hs opened s.parents
    pub finished : Finished [] s.functions
    pub nested : Nested s.ctx.upvalues s.parents
    pub small : Small s.ctx
    pub smalls : All Small s.parents

  finished_end : (before fs : List ObjectFunction) (f : ObjectFunction) → Finished before fs → (opened : List ObjectFunction) →
      P start opened (before ++ fs) f.upvalue_count f.chunk → Finished before (fs ++ (f ∷ []))
  finished_end before [] f h opened p = ((opened, rw append-nil at p), tt)
  finished_end before (g ∷ fs) f h opened p = (h.0, finished_end (before ++ (g ∷ [])) fs f h.1 opened (rw append_assoc p))

  -- a change of the current context that keeps its captured variables
  update_ctx : (X Y : Fact) (f : CompilerCtx → CompilerCtx) (hs : List K) →
      ((x : CompilerCtx) → (f x).upvalues ≡ x.upvalues) → ((x : CompilerCtx) → length x.locals ≤ 256 → length (f x).locals ≤ 256) →
      ((opened fs : List ObjectFunction) (x : CompilerCtx) → X opened fs (length x.upvalues) x.chunk → Y opened fs (length x.upvalues) (f x).chunk) →
      Triple (At X hs) (c.update_ctx f) (λ _. At Y hs)
  unfolding c.update_ctx
  update_ctx X Y f hs e l h =
      record {
        run =
            λ s i. record {
              opened = i.opened;
              since = i.since;
              both = i.both;
              open_one =
                  subst⁻¹ (λ (us : List Upvalue). Y i.opened s.functions (length us) (f s.ctx).chunk) (e s.ctx) (h i.opened s.functions s.ctx i.open_one);
              around = i.around;
              finished = i.finished;
              nested = subst⁻¹ (λ (us : List Upvalue). Nested us s.parents) (e s.ctx) i.nested;
              small =
                  record {
                    locals = l s.ctx i.small.locals;
                    upvalues = subst⁻¹ (λ (us : List Upvalue). length us ≤ 256) (e s.ctx) i.small.upvalues;
                    idxs = subst⁻¹ (λ (us : List Upvalue). All (λ (u : Upvalue). u.idx < 256) us) (e s.ctx) i.small.idxs;
                  };
              smalls = i.smalls;
            };
      }

  -- another fact of the current function
  put : (X Y : Fact) (hs : List K) (s : Compiler) (i : At X hs s) → Y i.opened s.functions (length s.ctx.upvalues) s.ctx.chunk → At Y hs s
  put X Y hs s i y =
      record {
        opened = i.opened;
        since = i.since;
        both = i.both;
        open_one = y;
        around = i.around;
        finished = i.finished;
        nested = i.nested;
        small = i.small;
        smalls = i.smalls;
      }

  so : (X Y : Fact) (hs : List K) → ((opened fs : List ObjectFunction) (n : ℕ) (ch : Chunk) → X opened fs n ch → Y opened fs n ch) →
      (s : Compiler) → At X hs s → At Y hs s
  so X Y hs f s i = put X Y hs s i (f _ _ _ _ i.open_one)

  need_told : (X : Fact) (b : Bool) (r : Refusal) (hs : List K) → Triple (At X hs) (c.need b r) (λ _. At (λ opened fs n ch. T b × X opened fs n ch) hs)
  unfolding c.need
  need_told X true r hs = record { run = λ s i. so X (λ opened fs n ch. Unit {0} × X opened fs n ch) hs (λ opened fs n ch x. (tt, x)) s i }
  need_told X false r hs = record { run = λ s i. tt }

  code_length : (X : ℕ → Fact) (hs : List K) → Triple (At (λ opened fs n ch. X (length ch.ops) opened fs n ch) hs) c.code_length (λ m. At (X m) hs)
  unfolding c.code_length c.the
  code_length X hs = record { run = λ s i. put (λ opened fs n ch. X (length ch.ops) opened fs n ch) (X (length s.ctx.chunk.ops)) hs s i i.open_one }

-- what is written for a constant, and where
Placed : Chunk → Constant → Written → Type 0
Placed ch value (at_place place ch') = (cs : List Constant) × (ch' ≡ with_constants ch cs) × Wrote ch.constants value place cs
Placed ch value no_room = Unit {0}

placed : (ch : Chunk) (value : Constant) → Placed ch value (write_constant ch value)
unfolding Placed write_constant written
placed ch value = found (position (same_constant value) ch.constants) refl
  where
    added : (b : Bool) → ltb (length ch.constants) 256 ≡ b → position (same_constant value) ch.constants ≡ none →
        Placed ch value
        (if b then at_place (length ch.constants) (record { ops = ch.ops; constants = ch.constants ++ (value ∷ []); spans = ch.spans })
        else no_room)
    added true t e = (
      ch.constants ++ (value ∷ []),
      refl,
      record { grown = one_more value refl e (ltb→lt (length ch.constants) 256 (rw t tt)); there = at_end ch.constants value },
    )
    added false t e = tt

    found : (p : Option ℕ) → position (same_constant value) ch.constants ≡ p → Placed ch value (written p ch value)
    found (some place) e =
        let st = stopped (same_constant value) ch.constants place e in
        (ch.constants, refl, record { grown = as_before; there = st.there ∙ ap some (sym (same_eq value st.what st.passes)) })
    found none e = added (ltb (length ch.constants) 256) refl e

-- the function that is finished, the last of the finished ones, and the one around it
pub record Ended (P : Fact) (Q : Fact) (number : ℕ) (us : List Upvalue) (opened fs : List ObjectFunction) (n : ℕ) (ch : Chunk) : Type 0 where
  pub before : List ObjectFunction
  pub since : List ObjectFunction
  pub function : ObjectFunction
  pub all_of : fs ≡ (before ++ since) ++ (function ∷ [])
  pub numbered : number ≡ length (before ++ since)
  pub count : function.upvalue_count ≡ length us
  pub within : All (Within n) us
  pub idxs : All (λ (u : Upvalue). u.idx < 256) us
  pub inner : Q before (before ++ since) function.upvalue_count function.chunk
  pub outer : P opened before n ch

abbrev Placeable : ℕ → c.Place → Type 0
Placeable n (c.local_at slot) = slot < 256
Placeable n (c.upvalue_at idx) = (idx < n) × (idx < 256)
Placeable n c.global_named = Unit {0}

pub record Open (K : Type 0) : Type 0 where
  pub now : K
  pub around : List K

module _ (K : Type 0) (P : K → Fact) (start : K) (waits backs : ℕ → K → K) (limit : ℕ) (l : ChunkLaws limit K P start waits backs) where
  abbrev Now : Fact → List K → Compiler → Type 0
  Now X hs = At K P start X hs

  -- ## Instructions

  -- a byte more, and there is room for it
  emit_last : (X : Fact) (b : ℕ) (span : Span) (hs : List K) →
      Triple (Now (λ opened fs n ch. length (write_u8 ch b span).ops ≤ limit → X opened fs n (write_u8 ch b span)) hs) (c.emit_u8 limit b span) (λ _. Now X hs)
  unfolding c.emit_u8 c.open_code c.update_ctx write_u8
  emit_last X b span hs = do
    used ← keeps.the_told _
    keeps.need_told (ltb used limit) _
    keeps.whence (λ t. written used (ltb→lt used limit t))
    where
      Before : Fact
      Before opened fs n ch = length (write_u8 ch b span).ops ≤ limit → X opened fs n (write_u8 ch b span)

      written : (used : ℕ) → used < limit →
          Triple (λ s. (used ≡ c.open_code s) × Now Before hs s) (c.update_ctx (λ x. c.with_chunk x (write_u8 x.chunk b span))) (λ _. Now X hs)
      written used r =
          record {
            run =
                λ s p. (update_ctx K P start (λ opened fs n ch. X opened fs n (write_u8 ch b span)) X (λ x. c.with_chunk x (write_u8 x.chunk b span)) hs
                (λ x. refl) (λ x b. b) (λ opened fs x h. h)).run s
                (put K P start Before (λ opened fs n ch. X opened fs n (write_u8 ch b span)) hs s p.1
                (p.1.open_one (omega (arith, p.0, length-append s.ctx.chunk.ops (b ∷ [])))));
          }

  emit_u8 : (X : Fact) (b : ℕ) (span : Span) (hs : List K) →
      Triple (Now (λ opened fs n ch. X opened fs n (write_u8 ch b span)) hs) (c.emit_u8 limit b span) (λ _. Now X hs)
  emit_u8 X b span hs =
      given (so K P start (λ opened fs n ch. X opened fs n (write_u8 ch b span)) (λ opened fs n ch. length (write_u8 ch b span).ops ≤ limit → X opened fs n (write_u8 ch b span)) hs
      (λ opened fs n ch x r. x))
      (emit_last X b span hs)

  emit_place : (X : Fact) (ch : Chunk) (value : Constant) (w : Written) (span : Span) → Placed ch value w → (hs : List K) →
      Triple (Now (λ opened fs n _. (place : ℕ) (cs : List Constant) → Wrote ch.constants value place cs → length
      (write_u8 (with_constants ch cs) place span).ops ≤ limit → X opened fs n (write_u8 (with_constants ch cs) place span)) hs)
      (c.emit_place limit w span) (λ _. Now X hs)
  unfolding c.emit_place Placed
  emit_place X ch value (at_place place ch') span (cs, e, w) hs = do
    update_ctx K P start
        (λ opened fs n _. (place : ℕ) (cs : List Constant) → Wrote ch.constants value place cs → length (write_u8 (with_constants ch cs) place span).ops ≤
        limit → X opened fs n (write_u8 (with_constants ch cs) place span))
        (λ opened fs n ch₀. length (write_u8 ch₀ place span).ops ≤ limit → X opened fs n (write_u8 ch₀ place span)) _ hs (λ x. refl) (λ x b. b)
        (λ opened fs x h. subst⁻¹ (λ (ch₀ : Chunk). length (write_u8 ch₀ place span).ops ≤ limit → X opened fs (length x.upvalues) (write_u8 ch₀ place span)) e (h place cs w))
    emit_last X place span hs
  emit_place X ch value no_room span p hs = refuse _

  emit_constant : (X : Fact) (value : Constant) (span : Span) (hs : List K) →
      Triple (Now (λ opened fs n ch. (place : ℕ) (cs : List Constant) → Wrote ch.constants value place cs → length
      (write_u8 (with_constants ch cs) place span).ops ≤ limit → X opened fs n (write_u8 (with_constants ch cs) place span)) hs)
      (c.emit_constant limit value span) (λ _. Now X hs)
  unfolding c.emit_constant c.◌>>=◌ c.go_on c.the
  emit_constant X value span hs =
      record {
        run =
            λ s i. (emit_place X s.ctx.chunk value (write_constant s.ctx.chunk value) span (placed s.ctx.chunk value) hs).run s
            (put K P start
            (λ opened fs n ch. (place : ℕ) (cs : List Constant) → Wrote ch.constants value place cs → length
            (write_u8 (with_constants ch cs) place span).ops ≤ limit → X opened fs n (write_u8 (with_constants ch cs) place span))
            (λ opened fs n _. (place : ℕ) (cs : List Constant) → Wrote s.ctx.chunk.constants value place cs → length
            (write_u8 (with_constants s.ctx.chunk cs) place span).ops ≤ limit → X opened fs n (write_u8 (with_constants s.ctx.chunk cs) place span))
            hs s i i.open_one);
      }

  emit_op : (b : ℕ) (span : Span) → operands_of b ≡ some Plain → (k : K) (hs : List K) → Triple (Now (P k) hs) (c.emit_op limit b span) (λ _. Now (P k) hs)
  unfolding c.emit_op
  emit_op b span e k hs =
      given (so K P start (P k) (λ opened fs n ch. length (write_u8 ch b span).ops ≤ limit → P k opened fs n (write_u8 ch b span)) hs
      (λ opened fs n ch p r. l.writes Plain still_plain k opened fs n ch ch.constants b [] span e as_before plain r p))
      (emit_last (P k) b span hs)

  emit_op_u8 : (kind : Operands) → Still kind → (b m : ℕ) (span : Span) → operands_of b ≡ some kind → (k : K) (hs : List K) →
      Triple (Now (λ opened fs n ch. Form fs ch.constants n kind (m ∷ []) × P k opened fs n ch) hs) (c.emit_op_u8 limit b m span) (λ _. Now (P k) hs)
  unfolding c.emit_op_u8
  emit_op_u8 kind st b m span e k hs =
      given (so K P start (λ opened fs n ch. Form fs ch.constants n kind (m ∷ []) × P k opened fs n ch)
      (λ opened fs n ch. length (write_u8 (write_u8 ch b span) m span).ops ≤ limit → P k opened fs n (write_u8 (write_u8 ch b span) m span)) hs
      (λ opened fs n ch p r. l.writes kind st k opened fs n ch ch.constants b (m ∷ []) span e as_before p.0 r p.1))
      (do
        emit_u8 (λ opened fs n ch. length (write_u8 ch m span).ops ≤ limit → P k opened fs n (write_u8 ch m span)) b span hs
        emit_last (P k) m span hs)

  emit_op_constant : (kind : Operands) → Still kind → (b : ℕ) (value : Constant) (span : Span) → operands_of b ≡ some kind → IsValue value →
      ((fs : List ObjectFunction) (n place : ℕ) (cs : List Constant) → get_elem? cs place ≡ some value → Form fs cs n kind (place ∷ [])) →
      (k : K) (hs : List K) → Triple (Now (P k) hs) (c.emit_op_constant limit b value span) (λ _. Now (P k) hs)
  unfolding c.emit_op_constant write_u8
  emit_op_constant kind st b value span e iv form k hs =
      given (so K P start (P k)
      (λ opened fs n ch. (place : ℕ) (cs : List Constant) → Wrote ch.constants value place cs →
      length (write_u8 (with_constants (write_u8 ch b span) cs) place span).ops ≤ limit → P k opened fs n (write_u8 (with_constants (write_u8 ch b span) cs) place span)) hs
      (λ opened fs n ch p place cs w r. l.writes kind st k opened fs n ch cs b (place ∷ []) span e (grown_map (λ v q. subst⁻¹ IsValue q iv) w.grown) (form fs n place cs w.there) r p))
      (do
        emit_u8 (λ opened fs n ch. (place : ℕ) (cs : List Constant) → Wrote ch.constants value place cs →
            length (write_u8 (with_constants ch cs) place span).ops ≤ limit → P k opened fs n (write_u8 (with_constants ch cs) place span)) b span hs
        emit_constant (P k) value span hs)

  emit_invoke : (b name m : ℕ) (span : Span) → operands_of b ≡ some Invoke → m < 256 → (k : K) (hs : List K) →
      Triple (Now (P k) hs) (c.emit_invoke limit b (CS name) m span) (λ _. Now (P k) hs)
  unfolding c.emit_invoke write_u8
  emit_invoke b name m span e bound k hs =
      given (so K P start (P k)
      (λ opened fs n ch. (place : ℕ) (cs : List Constant) → Wrote ch.constants (CS name) place cs →
      length (write_u8 (with_constants (write_u8 ch b span) cs) place span).ops ≤ limit →
      length (write_u8 (write_u8 (with_constants (write_u8 ch b span) cs) place span) m span).ops ≤ limit →
      P k opened fs n (write_u8 (write_u8 (with_constants (write_u8 ch b span) cs) place span) m span)) hs
      (λ opened fs n ch p place cs w r₁ r. l.writes Invoke still_invoke k opened fs n ch cs b (place ∷ m ∷ []) span e
      (grown_map (λ v q. subst⁻¹ IsValue q a_string) w.grown) (invoke w.there bound) r p))
      (do
        emit_u8
            (λ opened fs n ch. (place : ℕ) (cs : List Constant) → Wrote ch.constants (CS name) place cs →
            length (write_u8 (with_constants ch cs) place span).ops ≤ limit → length (write_u8 (write_u8 (with_constants ch cs) place span) m span).ops ≤ limit →
            P k opened fs n (write_u8 (write_u8 (with_constants ch cs) place span) m span))
            b span hs
        emit_constant (λ opened fs n ch. length (write_u8 ch m span).ops ≤ limit → P k opened fs n (write_u8 ch m span)) (CS name) span hs
        emit_last (P k) m span hs)

  emit_jump : (b : ℕ) (span : Span) → operands_of b ≡ some Ahead → (k : K) (hs : List K) →
      Triple (Now (P k) hs) (c.emit_jump limit b span) (λ at. Now (P (waits at k)) hs)
  unfolding c.emit_jump write_u8
  emit_jump b span e k hs =
      given (so K P start (P k) (λ opened fs n ch. length (write_all ch (jump_bytes b) span).ops ≤ limit → Jump opened fs n (write_all ch (jump_bytes b) span)) hs jump)
      (do
        emit_u8 (λ opened fs n ch. length (write_all ch (255 ∷ 255 ∷ []) span).ops ≤ limit → Jump opened fs n (write_all ch (255 ∷ 255 ∷ []) span)) b span hs
        emit_u8 (λ opened fs n ch. length (write_all ch (255 ∷ []) span).ops ≤ limit → Jump opened fs n (write_all ch (255 ∷ []) span)) 255 span hs
        emit_last Jump 255 span hs
        size ← code_length K P start (λ m. P (waits (m - 2) k)) hs
        gives (size - 2))
    where
      Jump : Fact
      Jump opened fs n ch = P (waits (length ch.ops - 2) k) opened fs n ch

      place : (ops : List ℕ) → length (((ops ++ (b ∷ [])) ++ (255 ∷ [])) ++ (255 ∷ [])) - 2 ≡ length ops + 1
      place ops = simp length-append (omega arith)

      jump : (opened fs : List ObjectFunction) (n : ℕ) (ch : Chunk) → P k opened fs n ch → length (write_all ch (jump_bytes b) span).ops ≤ limit → Jump opened fs n (write_all ch (jump_bytes b) span)
      jump opened fs n ch p r =
          subst⁻¹ (λ (at : ℕ). P (waits at k) opened fs n (write_all ch (jump_bytes b) span)) (place ch.ops) (l.jumps k opened fs n ch b span e r p)

  patch_jump : (at : ℕ) (span : Span) (k : K) (hs : List K) → Triple (Now (P (waits at k)) hs) (c.patch_jump at span) (λ _. Now (P k) hs)
  unfolding c.patch_jump
  patch_jump at span k hs =
      given (so K P start (P (waits at k)) (λ opened fs n ch. (length ch.ops ≡ length ch.ops) × P (waits at k) opened fs n ch) hs (λ opened fs n ch x. (refl, x)))
      (do
        size ← code_length K P start (λ m opened fs n ch. (m ≡ length ch.ops) × P (waits at k) opened fs n ch) hs
        need_told K P start (λ opened fs n ch. (size ≡ length ch.ops) × P (waits at k) opened fs n ch) _ _ hs
        update_ctx K P start _ (P k) _ hs (λ x. refl) (λ x b. b) (λ opened fs x p. patched size opened fs (length x.upvalues) x.chunk p.0 p.1.0 p.1.1))
    where
      patched : (size : ℕ) (opened fs : List ObjectFunction) (n : ℕ) (ch : Chunk) → T (leb (size - 2 - at) 65_535) → size ≡ length ch.ops → P (waits at k) opened fs n ch →
          P k opened fs n (with_ops ch (c.set_u16 ch.ops at (size - 2 - at)))
      patched size opened fs n ch t e p =
          subst⁻¹ (λ (m : ℕ). P k opened fs n (with_ops ch (c.set_u16 ch.ops at (m - 2 - at)))) e
          (l.patches k opened fs n ch at (subst (λ (m : ℕ). m - 2 - at ≤ 65_535) e (leb→le _ _ t)) p)

  loop_start : (k : K) (hs : List K) → Triple (Now (P k) hs) c.code_length (λ at. Now (P (backs at k)) hs)
  loop_start k hs =
      given (so K P start (P k) (λ opened fs n ch. P (backs (length ch.ops) k) opened fs n ch) hs (λ opened fs n ch p. l.marks k opened fs n ch p))
      (code_length K P start (λ m. P (backs m k)) hs)

  emit_loop : (at : ℕ) (span : Span) (k : K) (hs : List K) → Triple (Now (P (backs at k)) hs) (c.emit_loop limit at span) (λ _. Now (P k) hs)
  unfolding c.emit_loop
  emit_loop at span k hs =
      given (so K P start (P (backs at k)) (λ opened fs n ch. Loop (length ch.ops) opened fs n ch) hs (λ opened fs n ch p t r. l.loops k opened fs n ch at span (leb→le _ _ t) r p))
      (do
        size ← code_length K P start Loop hs
        given (λ s i. i) (need_told K P start (Loop size) (leb (size + 3 - at) 65_535) _ hs)
        given (so K P start (λ opened fs n ch. T (leb (size + 3 - at) 65_535) × Loop size opened fs n ch)
            (λ opened fs n ch. length (write_all ch (loop_bytes size at) span).ops ≤ limit → P k opened fs n (write_all ch (loop_bytes size at) span)) hs (λ opened fs n ch x. x.1 x.0))
            (emit_u8 (λ opened fs n ch. length (write_all ch ((size + 3 - at) % 256 ∷ (size + 3 - at) / 256 ∷ []) span).ops ≤ limit → P k opened fs n
            (write_all ch ((size + 3 - at) % 256 ∷ (size + 3 - at) / 256 ∷ []) span)) op.LOOP span hs)
        emit_u8 (λ opened fs n ch. length (write_all ch ((size + 3 - at) / 256 ∷ []) span).ops ≤ limit → P k opened fs n
            (write_all ch ((size + 3 - at) / 256 ∷ []) span)) ((size + 3 - at) % 256) span hs
        emit_last (P k) ((size + 3 - at) / 256) span hs)
    where
      Loop : ℕ → Fact
      Loop m opened fs n ch = T (leb (m + 3 - at) 65_535) → length (write_all ch (loop_bytes m at) span).ops ≤ limit → P k opened fs n (write_all ch (loop_bytes m at) span)

  -- bytes still to come, where there is room for what there is
  abbrev Rest : Fact → List ℕ → Span → Fact
  Rest X bs span opened fs n ch = (length ch.ops ≤ limit) × (length (write_all ch bs span).ops ≤ limit → X opened fs n (write_all ch bs span))

  emit_upvalues : (X : Fact) (us : List Upvalue) (span : Span) (hs : List K) →
      Triple (Now (Rest X (pairs us) span) hs) (c.emit_upvalues limit us span) (λ _. Now X hs)
  unfolding c.emit_upvalues
  emit_upvalues X [] span hs = given (so K P start (Rest X [] span) X hs (λ opened fs n ch x. x.1 x.0)) keeps.skip
  emit_upvalues X (u ∷ us) span hs =
      given (so K P start (Rest X (pairs (u ∷ us)) span) (λ opened fs n ch. Then opened fs n (write_u8 ch i span)) hs (λ opened fs n ch x r. (r, x.1)))
      (do
        emit_u8 Then i span hs
        emit_last (Rest X (pairs us) span) u.idx span hs
        emit_upvalues X us span hs)
    where
      i : ℕ
      i = if u.is_local then 1 else 0

      Then : Fact
      Then opened fs n ch = length (write_u8 ch u.idx span).ops ≤ limit → Rest X (pairs us) span opened fs n (write_u8 ch u.idx span)

  emit_closure : (number : ℕ) (us : List Upvalue) (span : Span) (k : K) (hs : List K) →
      Triple (Now (Ended (P k) (P start) number us) hs) (c.emit_closure limit number us span) (λ _. Now (P k) hs)
  unfolding c.emit_closure computes.op write_u8
  emit_closure number us span k hs =
      given (so K P start (Ended (P k) (P start) number us)
      (λ opened fs n ch. (place : ℕ) (cs : List Constant) → Wrote ch.constants (CF number) place cs →
      length (write_u8 (with_constants (write_u8 ch op.CLOSURE span) cs) place span).ops ≤ limit →
      Rest (P k) (pairs us) span opened fs n (write_u8 (with_constants (write_u8 ch op.CLOSURE span) cs) place span)) hs
      (λ opened fs n ch d place cs w r. (r, λ r₂. closed opened fs n ch d place cs w r₂)))
      (do
        emit_u8
            (λ opened fs n ch. (place : ℕ) (cs : List Constant) → Wrote ch.constants (CF number) place cs →
            length (write_u8 (with_constants ch cs) place span).ops ≤ limit → Rest (P k) (pairs us) span opened fs n (write_u8 (with_constants ch cs) place span))
            op.CLOSURE span hs
        emit_constant (Rest (P k) (pairs us) span) (CF number) span hs
        emit_upvalues (P k) us span hs)
    where
      closed : (opened fs : List ObjectFunction) (n : ℕ) (ch : Chunk) → Ended (P k) (P start) number us opened fs n ch →
          (place : ℕ) (cs : List Constant) → Wrote ch.constants (CF number) place cs →
          length (write_all (with_constants ch cs) (op.CLOSURE ∷ place ∷ pairs us) span).ops ≤ limit →
          P k opened fs n (write_all (with_constants ch cs) (op.CLOSURE ∷ place ∷ pairs us) span)
      closed opened fs n ch d place cs w r =
          subst⁻¹ (λ (gs : List ObjectFunction). P k opened gs n (write_all (with_constants ch cs) (op.CLOSURE ∷ place ∷ pairs us) span)) d.all_of
          (l.closes k opened d.before d.since d.function n ch place cs (pairs us) span
          (subst (λ (m : ℕ). Wrote ch.constants (CF m) place cs) d.numbered w)
          (omega (arith, length_pairs us, d.count)) (pairs_within n us d.within) (pairs_bytes us d.idxs) r d.inner d.outer)

  -- ## Names

  -- a captured variable is below the count; the chunk stays, and every count only grows
  record Kept (hs : List K) (fs : List ObjectFunction) (us : List Upvalue) (ch : Chunk) (idx : ℕ) (ctx : CompilerCtx) (parents : List CompilerCtx) : Type 0 where
    same : ctx.chunk ≡ ch
    grew : length us ≤ length ctx.upvalues
    below : idx < length ctx.upvalues
    around : Around K P start hs fs parents
    nested : Nested ctx.upvalues parents
    small : Small ctx
    smalls : All Small parents

  abbrev KeptIf : List K → List ObjectFunction → List Upvalue → Chunk → Resolved → Type 0
  KeptIf hs fs us ch (captured idx ctx parents) = Kept hs fs us ch idx ctx parents
  KeptIf hs fs us ch nowhere = Unit {0}
  KeptIf hs fs us ch (failed r) = Unit {0}

  added : (u : Upvalue) (span : Span) (ctx : CompilerCtx) (q : CompilerCtx) (qs : List CompilerCtx) (hs : List K) (fs : List ObjectFunction) →
      Around K P start hs fs (q ∷ qs) → Nested ctx.upvalues (q ∷ qs) → Within (length q.upvalues) u → u.idx < 256 → Small ctx → All Small (q ∷ qs) →
      (p : Option ℕ) → position (c.same_upvalue u) ctx.upvalues ≡ p →
      KeptIf hs fs ctx.upvalues ctx.chunk (c.added p u span ctx (q ∷ qs))
  unfolding c.added
  added u span ctx q qs hs fs a n w b sm sms (some place) e =
      record {
        same = refl;
        grew = omega arith;
        below = (stopped (c.same_upvalue u) ctx.upvalues place e).inside;
        around = a;
        nested = n;
        small = sm;
        smalls = sms;
      }
  added u span ctx q qs hs fs a n w b sm sms none e = room (ltb (length ctx.upvalues) 256) refl
    where
      more : length (ctx.upvalues ++ (u ∷ [])) ≡ length ctx.upvalues + 1
      more = length-append ctx.upvalues (u ∷ [])

      room : (b : Bool) → ltb (length ctx.upvalues) 256 ≡ b →
          KeptIf hs fs ctx.upvalues ctx.chunk
          (if b then captured (length ctx.upvalues) (c.with_upvalues ctx (ctx.upvalues ++ (u ∷ []))) (q ∷ qs) else failed (TooManyUpvalues span))
      room true t =
          record {
            same = refl;
            grew = omega (arith, more);
            below = omega (arith, more);
            around = a;
            nested = (all_end (Within (length q.upvalues)) ctx.upvalues u n.0 w, n.1);
            small =
                record {
                  locals = sm.locals;
                  upvalues = omega (arith, more, ltb→lt (length ctx.upvalues) 256 (rw t tt));
                  idxs = all_end (λ (v : Upvalue). v.idx < 256) ctx.upvalues u sm.idxs b;
                };
            smalls = sms;
          }
      room false t = tt

  through : (f : Found) (outer : Resolved) (name : ℕ) (span : Span) (ctx parent : CompilerCtx) (above : List CompilerCtx) (h : K) (hs : List K) (fs : List ObjectFunction) →
      c.find_local name parent.locals ≡ f → (a : Around K P start (h ∷ hs) fs (parent ∷ above)) → Nested ctx.upvalues (parent ∷ above) → Small ctx → All Small (parent ∷ above) →
      KeptIf hs a.0 parent.upvalues parent.chunk outer →
      KeptIf (h ∷ hs) fs ctx.upvalues ctx.chunk (c.through f outer name span ctx parent above)
  unfolding c.through c.further_out c.add_upvalue
  through (at_slot slot) outer name span ctx parent above h hs fs e a n sm sms o =
      added (record { idx = slot; is_local = true }) span ctx (c.with_locals parent (c.capture name parent.locals)) above (h ∷ hs) fs a n tt
      (omega (arith, slot_inside name parent.locals slot e, sms.0.locals)) sm
      (record { locals = omega (arith, capture_length name parent.locals, sms.0.locals); upvalues = sms.0.upvalues; idxs = sms.0.idxs }, sms.1) _ refl
  through uninitialized outer name span ctx parent above h hs fs e a n sm sms o = tt
  through no_local (captured idx p ps) name span ctx parent above h hs fs e a n sm sms o =
      added (record { idx = idx; is_local = false }) span ctx p ps (h ∷ hs) fs (
        a.0,
        a.1,
        a.2,
        subst⁻¹ (λ (ch : Chunk). P h a.0 fs (length p.upvalues) ch) o.same
            (l.captures h a.0 fs (length parent.upvalues) (length p.upvalues) parent.chunk o.grew o.small.upvalues a.3),
        o.around,
      )
      (all_map (Within (length parent.upvalues)) (Within (length p.upvalues)) (within_more _ _ o.grew) ctx.upvalues n.0, o.nested)
      o.below (omega (arith, o.below, o.small.upvalues)) sm (o.small, o.smalls) _ refl
  through no_local nowhere name span ctx parent above h hs fs e a n sm sms o = tt
  through no_local (failed r) name span ctx parent above h hs fs e a n sm sms o = tt

  resolve_upvalue : (name : ℕ) (span : Span) (fs : List ObjectFunction) (ctx : CompilerCtx) (parents : List CompilerCtx) (hs : List K) →
      Around K P start hs fs parents → Nested ctx.upvalues parents → Small ctx → All Small parents →
      KeptIf hs fs ctx.upvalues ctx.chunk (c.resolve_upvalue name span ctx parents)
  unfolding c.resolve_upvalue
  resolve_upvalue name span fs ctx [] hs a n sm sms = tt
  resolve_upvalue name span fs ctx (p ∷ ps) [] a n sm sms = absurd a
  resolve_upvalue name span fs ctx (p ∷ ps) (h ∷ hs) a n sm sms =
      through (c.find_local name p.locals) (c.resolve_upvalue name span p ps) name span ctx p ps h hs fs refl a n sm sms
      (resolve_upvalue name span a.0 p ps hs a.4 n.1 sms.0 sms.1)

  abbrev Resolves : K → List K → c.Place → Compiler → Type 0
  Resolves k hs place = Now (λ opened fs n ch. Placeable n place × P k opened fs n ch) hs

  resolved : (k : K) (hs : List K) (name : ℕ) (span : Span) (s : Compiler) (i : Now (P k) hs s) (f : Found) → c.find_local name s.ctx.locals ≡ f → (r : Resolved) →
      KeptIf hs i.opened s.ctx.upvalues s.ctx.chunk r → After (Resolves k hs) (c.resolved f r name span s)
  unfolding c.resolved c.◌>>◌ c.go_on c.put_ctxs c.return c.refuse
  resolved k hs name span s i (at_slot slot) e r h =
      put K P start (P k) (λ opened fs n ch. Placeable n (c.local_at slot) × P k opened fs n ch) hs s i
      (omega (arith, slot_inside name s.ctx.locals slot e, i.small.locals), i.open_one)
  resolved k hs name span s i uninitialized e r h = tt
  resolved k hs name span s i no_local e (captured idx ctx parents) h =
      record {
        opened = i.opened;
        since = i.since;
        both = i.both;
        open_one = (
          (h.below, omega (arith, h.below, h.small.upvalues)),
          subst⁻¹ (λ (ch : Chunk). P k i.opened s.functions (length ctx.upvalues) ch) h.same
              (l.captures k i.opened s.functions (length s.ctx.upvalues) (length ctx.upvalues) s.ctx.chunk h.grew h.small.upvalues i.open_one),
        );
        around = h.around;
        finished = i.finished;
        nested = h.nested;
        small = h.small;
        smalls = h.smalls;
      }
  resolved k hs name span s i no_local e nowhere h =
      put K P start (P k) (λ opened fs n ch. Placeable n c.global_named × P k opened fs n ch) hs s i (tt, i.open_one)
  resolved k hs name span s i no_local e (failed r) h = tt

  resolve : (name : ℕ) (span : Span) (k : K) (hs : List K) → Triple (Now (P k) hs) (c.resolve name span) (Resolves k hs)
  unfolding c.resolve c.◌>>=◌ c.go_on c.get
  resolve name span k hs =
      record {
        run =
            λ s i. resolved k hs name span s i (c.find_local name s.ctx.locals) refl (c.resolve_upvalue name span s.ctx s.parents)
            (resolve_upvalue name span i.opened s.ctx s.parents hs i.around i.nested i.small i.smalls);
      }

  text : (name : ℕ) (fs : List ObjectFunction) (n place : ℕ) (cs : List Constant) → get_elem? cs place ≡ some (CS name) → Form fs cs n Text (place ∷ [])
  text name fs n place cs e = text_at e

  get_place : (p : c.Place) (name : ℕ) (span : Span) (k : K) (hs : List K) → Triple (Resolves k hs p) (c.get_place limit p name span) (λ _. Now (P k) hs)
  unfolding c.get_place computes.op
  get_place (c.local_at slot) name span k hs =
      given (so K P start _ _ hs (λ opened fs n ch x. (byte x.0, x.1))) (emit_op_u8 Byte still_byte _ _ _ refl k hs)
  get_place (c.upvalue_at idx) name span k hs =
      given (so K P start _ _ hs (λ opened fs n ch x. (captured_at x.0.0 x.0.1, x.1))) (emit_op_u8 Captured still_captured _ _ _ refl k hs)
  get_place c.global_named name span k hs =
      given (so K P start _ _ hs (λ opened fs n ch x. x.1)) (emit_op_constant Text still_text _ _ _ refl a_string (text name) k hs)

  set_place : (p : c.Place) (name : ℕ) (span : Span) (k : K) (hs : List K) → Triple (Resolves k hs p) (c.set_place limit p name span) (λ _. Now (P k) hs)
  unfolding c.set_place computes.op
  set_place (c.local_at slot) name span k hs =
      given (so K P start _ _ hs (λ opened fs n ch x. (byte x.0, x.1))) (emit_op_u8 Byte still_byte _ _ _ refl k hs)
  set_place (c.upvalue_at idx) name span k hs =
      given (so K P start _ _ hs (λ opened fs n ch x. (captured_at x.0.0 x.0.1, x.1))) (emit_op_u8 Captured still_captured _ _ _ refl k hs)
  set_place c.global_named name span k hs =
      given (so K P start _ _ hs (λ opened fs n ch x. x.1)) (emit_op_constant Text still_text _ _ _ refl a_string (text name) k hs)

  get_variable : (name : ℕ) (span : Span) (k : K) (hs : List K) → Triple (Now (P k) hs) (c.get_variable limit name span) (λ _. Now (P k) hs)
  unfolding c.get_variable
  get_variable name span k hs = do
    classes ← the _
    need _ _
    place ← resolve _ _ k hs
    get_place place _ _ k hs

  set_variable : (name : ℕ) (span : Span) (k : K) (hs : List K) → Triple (Now (P k) hs) (c.set_variable limit name span) (λ _. Now (P k) hs)
  unfolding c.set_variable
  set_variable name span k hs = do
    place ← resolve _ _ k hs
    set_place place _ _ k hs

  -- ## Scopes and contexts

  declare_local : (name : ℕ) (span : Span) (k : K) (hs : List K) → Triple (Now (P k) hs) (c.declare_local name span) (λ _. Now (P k) hs)
  unfolding c.declare_local c.update_ctx
  declare_local name span k hs = do
    ctx ← keeps.the_told _
    keeps.need _ _
    keeps.need_told (ltb (length ctx.locals) 256) _
    keeps.whence (λ t. declared ctx (ltb→lt (length ctx.locals) 256 t))
    where
      put_local : CompilerCtx → CompilerCtx
      put_local x = c.with_locals x (record { name = name; depth = x.scope_depth; is_initialized = false; is_captured = false } ∷ x.locals)

      declared : (ctx : CompilerCtx) → length ctx.locals < 256 →
          Triple (λ s. (ctx ≡ s.ctx) × Now (P k) hs s) (c.update_ctx put_local) (λ _. Now (P k) hs)
      declared ctx b =
          record {
            run =
                λ s p. record {
                  opened = p.1.opened;
                  since = p.1.since;
                  both = p.1.both;
                  open_one = p.1.open_one;
                  around = p.1.around;
                  finished = p.1.finished;
                  nested = p.1.nested;
                  small =
                      record {
                        locals = omega (arith, b, ap (λ (x : CompilerCtx). length x.locals) p.0);
                        upvalues = p.1.small.upvalues;
                        idxs = p.1.small.idxs;
                      };
                  smalls = p.1.smalls;
                };
          }

  define_local : (k : K) (hs : List K) → Triple (Now (P k) hs) c.define_local (λ _. Now (P k) hs)
  unfolding c.define_local
  define_local k hs = update_ctx K P start (P k) (P k) _ hs (λ x. refl) (λ x b. omega (arith, initialize_length x.locals)) (λ opened fs x h. h)

  begin_scope : (k : K) (hs : List K) → Triple (Now (P k) hs) c.begin_scope (λ _. Now (P k) hs)
  unfolding c.begin_scope
  begin_scope k hs = update_ctx K P start (P k) (P k) _ hs (λ x. refl) (λ x b. b) (λ opened fs x h. h)

  pop_locals : (ls : List Local) → length ls ≤ 256 → (span : Span) (k : K) (hs : List K) → Triple (Now (P k) hs) (c.pop_locals limit ls span) (λ _. Now (P k) hs)
  unfolding c.pop_locals computes.op
  pop_locals [] m span k hs = keeps.skip
  pop_locals (x ∷ xs) m span k hs = do
    depth ← the _
    keeps.either (ltb depth x.depth)
        (do
          emit_op _ _ (by_capture x.is_captured) k hs
          update_ctx K P start (P k) (P k) _ hs (λ x. refl) (λ x b. omega arith) (λ opened fs x h. h)
          pop_locals xs (omega arith) span k hs)
        keeps.skip
    where
      by_capture : (b : Bool) → operands_of (if b then op.CLOSE_UPVALUE else op.POP) ≡ some Plain
      by_capture true = refl
      by_capture false = refl

  end_scope : (span : Span) (k : K) (hs : List K) → Triple (Now (P k) hs) (c.end_scope limit span) (λ _. Now (P k) hs)
  unfolding c.end_scope
  end_scope span k hs = do
    update_ctx K P start (P k) (P k) _ hs (λ x. refl) (λ x b. b) (λ opened fs x h. h)
    locals ← keeps.the_told _
    given {P' = λ s. (length locals ≤ 256) × Now (P k) hs s} (λ s p. (omega (arith, ap length p.0, p.1.small.locals), p.1))
        (keeps.whence (λ m. pop_locals locals m span k hs))

  class_ctx : (k : K) (hs : List K) (s : Compiler) (bs : List Bool) → Now (P k) hs s → Now (P k) hs (c.with_classes s bs)
  class_ctx k hs s bs i =
      record {
        opened = i.opened;
        since = i.since;
        both = i.both;
        open_one = i.open_one;
        around = i.around;
        finished = i.finished;
        nested = i.nested;
        small = i.small;
        smalls = i.smalls;
      }

  push_class_ctx : (b : Bool) (k : K) (hs : List K) → Triple (Now (P k) hs) (c.push_class_ctx b) (λ _. Now (P k) hs)
  unfolding c.push_class_ctx
  push_class_ctx b k hs = record { run = λ s i. class_ctx k hs s _ i }

  pop_class_ctx : (k : K) (hs : List K) → Triple (Now (P k) hs) c.pop_class_ctx (λ _. Now (P k) hs)
  unfolding c.pop_class_ctx
  pop_class_ctx k hs = record { run = λ s i. class_ctx k hs s _ i }

  begin_ctx : (name arity depth : ℕ) (type : FunctionType) (k : K) (hs : List K) →
      Triple (Now (P k) hs) (c.begin_ctx (c.new_ctx name arity type depth)) (λ _. Now (P start) (k ∷ hs))
  unfolding c.begin_ctx
  begin_ctx name arity depth type k hs =
      record {
        run =
            λ s i. record {
              opened = s.functions;
              since = [];
              both = sym (append-nil s.functions);
              open_one = l.empty s.functions;
              around = (i.opened, i.since, i.both, i.open_one, i.around);
              finished = i.finished;
              nested = (tt, i.nested);
              small = record { locals = omega arith; upvalues = omega arith; idxs = tt };
              smalls = (i.small, i.smalls);
            };
      }

  abbrev Ends : K → List K → ℕ × List Upvalue → Compiler → Type 0
  Ends k hs r = Now (Ended (P k) (P start) r.0 r.1) hs

  back_to : (s : Compiler) (k : K) (hs : List K) (i : Now (P start) (k ∷ hs) s) (ps : List CompilerCtx) →
      Around K P start (k ∷ hs) i.opened ps → Nested s.ctx.upvalues ps → All Small ps → After (Ends k hs) (c.back_to ps s)
  unfolding c.back_to c.finish
  back_to s k hs i [] a n sms = absurd a
  back_to s k hs i (p ∷ ps) a n sms =
      record {
        opened = a.0;
        since = (a.1 ++ i.since) ++ (c.finish s.ctx ∷ []);
        both = rw (i.both, a.2) (simp append_assoc);
        open_one =
            record {
              before = i.opened;
              since = i.since;
              function = c.finish s.ctx;
              all_of = ap (λ (fs : List ObjectFunction). fs ++ (c.finish s.ctx ∷ [])) i.both;
              numbered = ap length i.both;
              count = refl;
              within = n.0;
              idxs = i.small.idxs;
              inner = subst (λ (fs : List ObjectFunction). P start i.opened fs (length s.ctx.upvalues) s.ctx.chunk) i.both i.open_one;
              outer = a.3;
            };
        around = a.4;
        finished = finished_end K P start [] s.functions (c.finish s.ctx) i.finished i.opened i.open_one;
        nested = n.1;
        small = sms.0;
        smalls = sms.1;
      }

  end_ctx : (k : K) (hs : List K) → Triple (Now (P start) (k ∷ hs)) c.end_ctx (Ends k hs)
  unfolding c.end_ctx c.◌>>=◌ c.go_on c.the
  end_ctx k hs = record { run = λ s i. back_to s k hs i s.parents i.around i.nested i.smalls }

  end_function : (span : Span) (k : K) (hs : List K) → Triple (Now (P start) (k ∷ hs)) (c.end_function limit span) (λ _. Now (P k) hs)
  unfolding c.end_function
  end_function span k hs = do
    (number, upvalues) ← end_ctx k hs
    emit_closure number upvalues span k hs

  -- ## All of it

  abbrev I : Open K → Compiler → Type 0
  I g = Now (P g.now) g.around

  laws : Laws (Open K) I limit (λ at g. record { now = waits at g.now; around = g.around }) (λ at g. record { now = backs at g.now; around = g.around })
      (λ g. record { now = start; around = g.now ∷ g.around }) (λ _ g. g)
  unfolding computes.op
  laws =
      record {
        exprs =
            record {
              emit_op = λ b span e g. emit_op b span e g.now g.around;
              emit_op_u8 = λ b n span e bound g. given (so K P start _ _ g.around (λ opened fs n ch x. (byte bound, x))) (emit_op_u8 Byte still_byte b n span e g.now g.around);
              emit_number = λ n span g. emit_op_constant Value still_value _ _ span refl a_number (λ fs m place cs e. value_at e a_number) g.now g.around;
              emit_string = λ n span g. emit_op_constant Value still_value _ _ span refl a_string (λ fs m place cs e. value_at e a_string) g.now g.around;
              emit_text = λ b n span e g. emit_op_constant Text still_text b _ span e a_string (text n) g.now g.around;
              emit_invoke = λ b n m span e bound g. emit_invoke b n m span e bound g.now g.around;
              get_variable = λ n span g. get_variable n span g.now g.around;
              set_variable = λ n span g. set_variable n span g.now g.around;
              emit_jump = λ b span e g. emit_jump b span e g.now g.around;
              patch_jump = λ at span g. patch_jump at span g.now g.around;
              swap_waits = λ i j g s a. so K P start _ _ g.around (λ opened fs n ch x. l.swap_waits i j g.now opened fs n ch x) s a;
            };
        code_length = λ g. loop_start g.now g.around;
        emit_loop = λ at span g. emit_loop at span g.now g.around;
        declare_local = λ n span g. declare_local n span g.now g.around;
        define_local = λ g. define_local g.now g.around;
        begin_scope = λ g. begin_scope g.now g.around;
        end_scope = λ span g. end_scope span g.now g.around;
        push_class_ctx = λ b g. push_class_ctx b g.now g.around;
        pop_class_ctx = λ b g. pop_class_ctx g.now g.around;
        begin_ctx = λ n a d t g. begin_ctx n a d t g.now g.around;
        end_function = λ span g. end_function span g.now g.around;
        swap_backs = λ i j g s a. so K P start _ _ g.around (λ opened fs n ch x. l.swap_backs i j g.now opened fs n ch x) s a;
      }

  -- every function of the image has `P`, seen with those that were finished before it, and the script is the last
  pub record Whole (fs : List ObjectFunction) : Type 0 where
    pub before : List ObjectFunction
    pub script : ObjectFunction
    pub is : fs ≡ before ++ (script ∷ [])
    pub finished : Finished K P start [] before
    pub last : P start [] before script.upvalue_count script.chunk

  pub whole : (stmts : Stmts) → After (λ fs _. Whole fs) (c.compile_functions limit stmts)
  unfolding c.compile_functions c.the c.finish
  whole stmts =
      script_then_all.run c.new
      (record {
        opened = [];
        since = [];
        both = refl;
        open_one = l.empty [];
        around = refl;
        finished = tt;
        nested = tt;
        small = record { locals = omega arith; upvalues = omega arith; idxs = tt };
        smalls = tt;
      })
    where
      begin : Open K
      begin = record { now = start; around = [] }

      at_top : (s : Compiler) (opened : List ObjectFunction) (ps : List CompilerCtx) → Around K P start [] opened ps →
          P start opened s.functions (length s.ctx.upvalues) s.ctx.chunk → P start [] s.functions (length s.ctx.upvalues) s.ctx.chunk
      at_top s opened [] e p = subst (λ (o : List ObjectFunction). P start o s.functions (length s.ctx.upvalues) s.ctx.chunk) e p
      at_top s opened (q ∷ qs) e p = absurd e

      all_of : Triple (I begin) (c.the λ s. s.functions ++ (c.finish s.ctx ∷ [])) (λ fs _. Whole fs)
      all_of =
          record {
            run =
                λ s i. record {
                  before = s.functions;
                  script = c.finish s.ctx;
                  is = refl;
                  finished = i.finished;
                  last = at_top s i.opened s.parents i.around i.open_one;
                };
          }

      script_then_all : Triple (I begin) (c.◌>>◌ (c.compile_script limit stmts) (c.the λ s. s.functions ++ (c.finish s.ctx ∷ []))) (λ fs _. Whole fs)
      script_then_all = keeps.compile_script (Open K) I limit _ _ _ _ laws stmts begin >> all_of

  -- where `P` stays as more functions are finished, each has it, seen with all
  finished_all : ((opened fs gs : List ObjectFunction) (n : ℕ) (ch : Chunk) → P start opened fs n ch → P start opened (fs ++ gs) n ch) →
      (before fs : List ObjectFunction) → Finished K P start before fs →
      All (λ (f : ObjectFunction). (opened : List ObjectFunction) × P start opened (before ++ fs) f.upvalue_count f.chunk) fs
  finished_all more before [] h = tt
  finished_all more before (f ∷ fs) h = (
    (h.0.0, more h.0.0 before (f ∷ fs) f.upvalue_count f.chunk h.0.1),
    subst (λ (all : List ObjectFunction). All (λ (f : ObjectFunction). (opened : List ObjectFunction) × P start opened all f.upvalue_count f.chunk) fs)
        (append_assoc before (f ∷ []) fs) (finished_all more (before ++ (f ∷ [])) fs h.1),
  )

  all_finished : (fs : List ObjectFunction) → Whole fs → Finished K P start [] fs
  all_finished fs w = rw w.is (finished_end K P start [] w.before w.script w.finished [] w.last)

  pub functions : ((opened fs gs : List ObjectFunction) (n : ℕ) (ch : Chunk) → P start opened fs n ch → P start opened (fs ++ gs) n ch) → (stmts : Stmts) →
      After (λ fs _. All (λ (f : ObjectFunction). (opened : List ObjectFunction) × P start opened fs f.upvalue_count f.chunk) fs) (c.compile_functions limit stmts)
  functions more stmts = after_map (c.compile_functions limit stmts) (whole stmts)
    where
      after_map : (o : Outcome (List ObjectFunction)) → After (λ fs _. Whole fs) o →
          After (λ fs _. All (λ (f : ObjectFunction). (opened : List ObjectFunction) × P start opened fs f.upvalue_count f.chunk) fs) o
      after_map (ok fs s) w = finished_all more [] fs (all_finished fs w)
      after_map (err x) w = tt

  pub ordered : (stmts : Stmts) → After (λ fs _. Finished K P start [] fs) (c.compile_functions limit stmts)
  ordered stmts = after_map (c.compile_functions limit stmts) (whole stmts)
    where
      after_map : (o : Outcome (List ObjectFunction)) → After (λ fs _. Whole fs) o → After (λ fs _. Finished K P start [] fs) o
      after_map (ok fs s) w = all_finished fs w
      after_map (err x) w = tt
