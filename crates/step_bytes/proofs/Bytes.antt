-- A byte of code, and a constant's place: from the state's contracts to the rules' steps.
use mathlib.Core.Path.{◌≡◌, refl, sym, ap, subst, ◌∙◌}
use mathlib.Core.Bool.{Bool, true, false}
use mathlib.Core.List.{List, ◌∷◌, []}
use Prim.Native.Nat.{ℕ, ◌+◌, ◌*◌, ◌≤◌, ◌<◌}
use native.Mathlib.Omega.{arith}
use lib.ListN.{length, get_or, length-append, replicate, length-replicate}
use lib.Dec.{ltb}
use borrow.Author.Tests.{lt-ltb, le-ltb}
use Rattle.rules.specs.declared.Span.{Span}
use Rattle.rules.specs.declared.Refusal.TheVariants.{CodeFull, TooManyConstants}
use Rattle.rules.specs.Chunk.{Chunk, empty_chunk, ObjectFunction, Constant, write_u8, write_constant, Written, at_place, no_room}
use Rattle.rules.specs.Compiler.{Compiler, Outcome, ok, err, go_on, ◌>>=◌, ◌>>◌, the, need, refuse, update_ctx, with_chunk, with_ctx, open_code, emit_u8, emit_place, emit_constant, emit_op_constant, stopped}
use Rattle.state.specs.Layout.{levels, image_at, constant_of, end_of_code, end_of_runs, chunk_at, ctx_at, parents_of, constants_place, depth_place, code_from_place, runs_from_place, name_place, level_words}
use Rattle.state.specs.Meaning.{top_chunk, Wrote, WroteAs, Constants, written_as}
use Rattle.state.proofs.Laws.{kept_off, ctx_paths, locals_same, upvalues_same, parents_same}
use Rattle.state.specs.declared.Full.{Full}
use Rattle.steps.specs.View.{Mem, mem, t_of, Rest, view, Agrees, Fit, code_len, depth_at, Turn, steady, Ahead, Gave, Refused, DidAs, Did}
use Rattle.steps.specs.Why.{Step}
use Rattle.std.specs.Prelude.{Result, Ok, Err, ⊤}
use Rattle.steps.proofs.Steps.{went, ahead_then, refuses_in}
use Rattle.steps.proofs.Views.{open_is, view_len, still_agrees, ahead_kept, view_chunk}
use Rattle.steps.specs.Why.{code_full, too_many_constants, refusal_of, told}

-- ## A byte

emit_is : (limit byte : ℕ) (span : Span) (x : Compiler) (b : Bool) → ltb (open_code x) limit ≡ b → emit_u8 limit byte span x ≡ go_on (need b CodeFull x)
    (λ _. update_ctx λ c. with_chunk c (write_u8 c.chunk byte span))
unfolding emit_u8 ◌>>=◌ ◌>>◌ the go_on
emit_is limit byte span x b e = ap (λ (b : Bool). go_on (need b CodeFull x) (λ _. update_ctx λ c. with_chunk c (write_u8 c.chunk byte span))) e

emit_ok : (limit byte : ℕ) (span : Span) (x : Compiler) → open_code x < limit → emit_u8 limit byte span x ≡ ok tt (with_ctx x (with_chunk x.ctx (write_u8 x.ctx.chunk byte span)))
unfolding need go_on update_ctx
emit_ok limit byte span x h = emit_is limit byte span x true (lt-ltb _ _ h)

emit_full : (limit byte : ℕ) (span : Span) (x : Compiler) → limit ≤ open_code x → emit_u8 limit byte span x ≡ err (stopped CodeFull x)
unfolding need go_on
emit_full limit byte span x h = emit_is limit byte span x false (le-ltb _ _ h)

module _ (l limit byte : ℕ) (span : Span) (t code spans t' code' spans' : List ℕ) (r : Result ⊤ Full) (fit : Fit (mem t code spans) l limit)
    (w : Wrote t code spans t' code' spans' l limit byte span r) where
  at : (k o : ℕ) → k < levels → o < level_words → get_or t' (k * level_words + o) 0 ≡ get_or t (k * level_words + o) 0
  at k o h g = kept_off _ _ t t' _ w.kept (λ x y. omega arith)

  as_done : {v : ⊤} → r ≡ Ok v → WroteAs t code spans t' code' spans' l limit byte span (Ok v)
  as_done q = subst (λ (e : Result ⊤ Full). WroteAs t code spans t' code' spans' l limit byte span e) q w.does

  as_full : {e : Full} → r ≡ Err e → limit ≤ end_of_code t
  as_full q = subst (λ (e : Result ⊤ Full). WroteAs t code spans t' code' spans' l limit byte span e) q w.does

  view_now : {v : ⊤} → r ≡ Ok v → (rest : Rest) → with_ctx (view (mem t code spans) l rest)
      (with_chunk (view (mem t code spans) l rest).ctx (write_u8 (view (mem t code spans) l rest).ctx.chunk byte span)) ≡ view (mem t' code' spans') l rest
  unfolding view ctx_at
  view_now q rest =
      let low = fit.low in
      let ok' = fit.coded in
      let c : ctx_at t' code' spans' l (end_of_code t') (end_of_runs t') ≡ with_chunk (ctx_at t code spans l (end_of_code t) (end_of_runs t)) (write_u8 (top_chunk t code spans l) byte span) =
      ctx_paths t code spans t' code' spans' l (end_of_code t) (end_of_runs t) (end_of_code t') (end_of_runs t') (λ o a b. at l o low (omega arith)) (as_done q).1
      (locals_same t t' l (fit.wf.few_locals l low) (λ o a. at l o low (omega arith)))
      (upvalues_same t t' l (fit.wf.few_upvalues l low) (λ o a b. at l o low (omega arith))) (at l depth_place low (omega arith)) in
      let ps : parents_of t' code' spans' l ≡ parents_of t code spans l =
      parents_same t code spans t' code' spans' l fit.wf low (λ k o a b. at k o (omega arith) (omega arith)) (at l code_from_place low (omega arith))
      (at l runs_from_place low (omega arith)) ok'.order ok'.order_runs (λ i h. w.code_kept i (omega (arith, ok'.top))) w.runs_kept in
      sym (λ i. record { ctx = c i; parents = ps i; class_ctx = rest.classes; functions = rest.functions })

  ops_more : {v : ⊤} → r ≡ Ok v → code_len (mem t' code' spans') l ≡ code_len (mem t code spans) l + 1
  unfolding write_u8
  ops_more q =
      let nobody : Rest = record { classes = []; functions = [] } in
      let a = view_len (mem t' code' spans') l nobody in
      let b = view_len (mem t code spans) l nobody in
      omega (arith, ap (λ (x : Compiler). length x.ctx.chunk.ops) (view_now q nobody), length-append (view (mem t code spans) l nobody).ctx.chunk.ops (byte ∷ []))

  pub byte_gave : {class : ℕ} {v : ⊤} → r ≡ Ok v → Gave class limit l steady (emit_u8 limit byte span) tt (mem t code spans) (mem t' code' spans')
  unfolding depth_at
  byte_gave q =
      let low = fit.low in
      record {
        comes = λ rest _. emit_ok limit byte span (view (mem t code spans) l rest) (omega (arith, (as_done q).0, open_is t code spans l limit rest fit.coded)) ∙ ap (ok tt) (view_now q rest);
        agrees = λ rest h. still_agrees (w.kept.above _ (omega arith)) h;
        ahead = record {
          fit = record { low = fit.low; wf = w.wf; coded = w.coded };
          up = omega (arith, ops_more q);
          deep = at l depth_place low (omega arith);
          head = λ o a b. at l o low (omega arith);
          under = λ k o h a b. at k o (omega arith) (omega arith);
          over = λ q i h g. w.kept.below i g;
          beyond = λ q i h. w.kept.above i h;
        };
      }

  pub byte_full : {class : ℕ} {e : Full} → r ≡ Err e → Refused class l (emit_u8 limit byte span) (mem t code spans) (told t' (code_full l))
  unfolding refusal_of
  byte_full q = refuses_in (code_full l) refl t' (at l name_place fit.low (omega arith))
      (λ rest _. emit_full limit byte span (view (mem t code spans) l rest) (omega (arith, as_full q, open_is t code spans l limit rest fit.coded)))

-- a byte more is one more
out : (x y : Compiler) → ◌≡◌ {A = Outcome Unit} (ok tt x) (ok tt y) → x ≡ y
out x y p = cc

one_more : (limit byte : ℕ) (span : Span) (s s' : Compiler) (b : Bool) → ltb (open_code s) limit ≡ b → emit_u8 limit byte span s ≡ ok tt s' → length
    s'.ctx.chunk.ops ≡ length s.ctx.chunk.ops + 1
unfolding need go_on update_ctx write_u8
one_more limit byte span s s' true h e =
    let q : with_ctx s (with_chunk s.ctx (write_u8 s.ctx.chunk byte span)) ≡ s' = out _ _ (sym (emit_is limit byte span s true h) ∙ e) in
    ap (λ (x : Compiler). length x.ctx.chunk.ops) (sym q) ∙ length-append s.ctx.chunk.ops (byte ∷ [])
one_more limit byte span s s' false h e = let p : ◌≡◌ {A = Outcome Unit} (err (stopped CodeFull s)) (ok tt s') = sym (emit_is limit byte span s false h) ∙ e in let z : ◌≡◌ {A = ℕ} 0 1 = cc in absurd (omega arith)

-- some rest that agrees, outside of every class
unmade : ObjectFunction
unmade = record { name = 0; arity = 0; upvalue_count = 0; chunk = empty_chunk }

abbrev nobody : Mem → Rest
nobody m = record { classes = []; functions = replicate (get_or (t_of m) image_at 0) unmade }

pub longer : {limit l n v : ℕ} (byte : ℕ) (span : Span) {before now : Mem} {r : Step} → Did 0 limit l n steady (emit_u8 limit byte span) before now r → r ≡ Ok
    v → code_len now l ≡ code_len before l + 1
longer {limit = limit} {l = l} byte span {before = before} {now = now} d e =
    let g = went d e in
    let x : Rest = nobody before in
    omega (
      arith,
      view_len now l x,
      view_len before l x,
      one_more limit byte span (view before l x) (view now l x) _ refl
          (g.comes x (record { innermost = refl; made = length-replicate (get_or (t_of before) image_at 0) unmade })),
    )

-- ## A constant

place_is : (limit : ℕ) (span : Span) (k : Constant) (x : Compiler) (w : Written) → write_constant x.ctx.chunk k ≡ w → emit_constant limit k span x ≡ emit_place limit w span x
unfolding emit_constant ◌>>=◌ the go_on
place_is limit span k x w e = ap (λ (y : Written). emit_place limit y span x) e

place_at : (limit : ℕ) (span : Span) (i : ℕ) (c : Chunk) (x : Compiler) → emit_place limit (at_place i c) span x ≡ emit_u8 limit i span (with_ctx x (with_chunk x.ctx c))
unfolding emit_place ◌>>◌ update_ctx go_on
place_at limit span i c x = refl

place_full : (limit : ℕ) (span : Span) (x : Compiler) → emit_place limit no_room span x ≡ err (stopped (TooManyConstants span) x)
unfolding emit_place refuse
place_full limit span x = refl

module _ (l limit w : ℕ) (span : Span) (t code spans t' : List ℕ) (r : Result ℕ Full) (fit : Fit (mem t code spans) l limit) (c : Constants t t' l w r) where
  constant_ahead : Ahead l limit steady (mem t code spans) (mem t' code spans)
  constant_ahead = ahead_kept t code spans t' l limit constants_place depth_place fit c.wf c.kept (omega arith)

  pub constant_fit : Fit (mem t' code spans) l limit
  constant_fit = constant_ahead.fit

  does_as : (s : Result ℕ Full) → r ≡ s → (rest : Rest) → write_constant (view (mem t code spans) l rest).ctx.chunk (constant_of w) ≡ written_as s (chunk_at t' code spans l (end_of_code t) (end_of_runs t))
  unfolding view ctx_at
  does_as s q rest = sym (c.does code spans (end_of_code t) (end_of_runs t)) ∙ ap (λ (s : Result ℕ Full). written_as s (chunk_at t' code spans l (end_of_code t) (end_of_runs t))) q

  constant_view : (i : ℕ) → r ≡ Ok i → (rest : Rest) → emit_constant limit (constant_of w) span (view (mem t code spans) l rest) ≡ emit_u8 limit i span (view (mem t' code spans) l rest)
  constant_view i q rest =
      place_is limit span (constant_of w) (view (mem t code spans) l rest) _ (does_as (Ok i) q rest)
      ∙ place_at limit span i _ (view (mem t code spans) l rest)
      ∙ ap (emit_u8 limit i span) (sym (view_chunk t code spans t' l _ fit.wf fit.low c.kept refl rest))

  back : {class : ℕ} {rest : Rest} → Agrees class (mem t code spans) rest → Agrees class (mem t' code spans) rest
  back h = let low = fit.low in still_agrees (c.kept.above _ (omega arith)) h

  constant_as : {class n : ℕ} (i : ℕ) {now : Mem} (a : Step) → r ≡ Ok i → Did class limit l n steady (emit_u8 limit i span) (mem t' code spans) now a
      → DidAs class limit l n steady (emit_constant limit (constant_of w) span) (mem t code spans) now a
  constant_as i (Ok v) q d =
      let g = d.does.0 in (
        record {
          comes = λ rest h. constant_view i q rest ∙ g.comes rest (back h);
          agrees = λ rest h. g.agrees rest (back h);
          ahead = ahead_then constant_ahead g.ahead;
        },
        d.does.1,
      )
  constant_as i (Err x) q d = record { refuses = λ rest h. constant_view i q rest ∙ d.does.refuses rest (back h) }

  pub constant_then : {class n : ℕ} (i : ℕ) {now : Mem} {a : Step} → r ≡ Ok i → Did class limit l n steady (emit_u8 limit i span) (mem t' code spans)
      now a → Did class limit l n steady (emit_constant limit (constant_of w) span) (mem t code spans) now a
  constant_then i {a = a} q d = record { does = constant_as i a q d }

  pub constant_full : {class : ℕ} {e : Full} → r ≡ Err e → Refused class l (emit_constant limit (constant_of w) span) (mem t code spans)
      (told t' (too_many_constants l span))
  unfolding refusal_of
  constant_full q = refuses_in (too_many_constants l span) refl t' (c.kept.above _ (omega arith)) (λ rest _.
      place_is limit span (constant_of w) (view (mem t code spans) l rest) _ (does_as (Err _) q rest) ∙
      place_full limit span (view (mem t code spans) l rest))

-- the same constant by another name
pub constant_is : {class limit l n : ℕ} {e : Turn} (span : Span) {k k' : Constant} {before now : Mem} {r : Step} → k ≡ k' → Did class limit l n e
    (emit_constant limit k span) before now r → Did class limit l n e (emit_constant limit k' span) before now r
constant_is {class} {limit} {l} {n} {e} span {before = before} {now = now} {r = r} q d = subst (λ (k : Constant). Did class limit l n e (emit_constant limit k span) before now r) q d

pub op_constant_is : {class limit l n : ℕ} {e : Turn} (op : ℕ) (span : Span) {k k' : Constant} {before now : Mem} {r : Step} → k ≡ k' → Did class limit l n e
    (emit_op_constant limit op k span) before now r → Did class limit l n e (emit_op_constant limit op k' span) before now r
op_constant_is {class} {limit} {l} {n} {e} op span {before = before} {now = now} {r = r} q d = subst (λ (k : Constant). Did class limit l n e (emit_op_constant limit op k span) before now r) q d
