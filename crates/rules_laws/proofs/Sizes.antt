-- How much room suffices: the open functions' code, summed, is at no time more than a byte for each byte of the tree file, however deep they lie in
-- one another. So a code limit of that much is never met.
use mathlib.Core.Path.{◌≡◌, refl, ap, subst, subst⁻¹}
use mathlib.Core.Bool.{Bool, true, false}
use mathlib.Core.Option.{Option, none, some}
use mathlib.Core.List.{List, ◌∷◌, ◌++◌, []}
use Prim.Native.Nat.{ℕ, suc, ◌+◌, ◌-◌, ◌*◌, ◌≤◌, ◌<◌, max}
use native.Mathlib.Omega.{arith}
use lib.ListN.{length, length-append, length-set}
use lib.Dec.{T, ltb, ltb→lt, lt→ltb}
use Rattle.rules.specs.Base.{position}
use Rattle.std.specs.Prelude.{if◌then◌else◌}
use Rattle.rules.specs.declared.Span.{Span}
use Rattle.rules.specs.declared.Refusal.TheVariants.{CodeFull, TooManyUpvalues}
use Rattle.rules.specs.Tree.{Stmts}
use Rattle.rules.specs.Op as op
use Rattle.rules.specs.Chunk.{Chunk, Constant, write_u8, Written, at_place, no_room, write_constant, written, same_constant, ObjectFunction}
use Rattle.rules.specs.Compiler as c
use Rattle.rules.specs.Compiler.{Compiler, CompilerCtx, Compile, Outcome, ok, err, go_on, Found, at_slot, uninitialized, no_local, Resolved, captured, nowhere, failed, Upvalue, Local}
use Rattle.rules_laws.proofs.Facts.{capture_length, initialize_length}
use Rattle.rules_laws.proofs.Trees.{OfStmts, stmts_size}
use Rattle.rules_laws.proofs.Refusals.{Rusts}
use Rattle.rules_laws.proofs.Steps as steps
use Rattle.rules_laws.proofs.Steps.{Laws}
use Rattle.rules_laws.proofs.Held as open-ones
use Rattle.rules_laws.proofs.Held.{sum_of, GrownIf, Holds, Spent, more}
use Rattle.rules_laws.proofs.Spends as spends
use Rattle.rules_laws.proofs.Spends.{Spends, Ends}
use Rattle.rules_laws.proofs.TreeBytes.{fitting}

-- ## 30 at one byte: it would take the open functions' code, summed, past the code limit

-- the state with a byte more
abbrev pub emitted : Compiler → ℕ → Span → Compiler
emitted s b span = c.with_ctx s (c.with_chunk s.ctx (write_u8 s.ctx.chunk b span))

pub byte_fits : (limit : ℕ) (s : Compiler) (b : ℕ) (span : Span) → c.open_code s + 1 ≤ limit →
    c.emit_u8 limit b span s ≡ ok tt (emitted s b span)
unfolding c.emit_u8 c.◌>>=◌ c.◌>>◌ go_on c.the c.need c.update_ctx
byte_fits limit s b span l = by_test (ltb (c.open_code s) limit) (lt→ltb (c.open_code s) limit (omega arith))
  where
    by_test : (t : Bool) → T t →
        go_on (c.need t CodeFull s) (λ _. c.update_ctx (λ x. c.with_chunk x (write_u8 x.chunk b span))) ≡ ok tt
        (emitted s b span)
    by_test true t = refl
    by_test false t = absurd t

pub byte_full : (limit : ℕ) (s : Compiler) (b : ℕ) (span : Span) → limit < c.open_code s + 1 → c.emit_u8 limit b span s ≡ err (c.stopped CodeFull s)
unfolding c.emit_u8 c.◌>>=◌ c.◌>>◌ go_on c.the c.need
byte_full limit s b span l = by_test (ltb (c.open_code s) limit) (λ t. omega (arith, ltb→lt (c.open_code s) limit t))
  where
    by_test : (t : Bool) → (T t → ⊥) →
        go_on (c.need t CodeFull s) (λ _. c.update_ctx (λ x. c.with_chunk x (write_u8 x.chunk b span))) ≡ err (c.stopped CodeFull s)
    by_test true t = absurd (t tt)
    by_test false t = refl

-- ## The most that closings alone can bring

-- A function that is closed gives up its code, and its closure has a pair for each variable that it captured. So what a function and those inside it
-- come to in the function around is the larger of their code and these pairs: `n` is what stands inside.
abbrev carried : ℕ → List CompilerCtx → ℕ
carried n [] = n
carried n (p ∷ ps) = carried (max (length p.chunk.ops + n) (2 * length p.upvalues)) ps

-- with `n` bytes to come in the innermost function; a local has paid for its pop
abbrev reach : ℕ → CompilerCtx → List CompilerCtx → ℕ
reach n x ps =
    sum_of (λ y. length y.locals) (x ∷ ps) + carried (max (length x.chunk.ops + n) (2 * length x.upvalues)) ps

abbrev reached : CompilerCtx → List CompilerCtx → ℕ
reached x ps = reach 0 x ps

carried_more : (n n' d : ℕ) (ps : List CompilerCtx) → n ≤ n' + d → carried n ps ≤ carried n' ps + d
carried_more n n' d [] l = omega arith
carried_more n n' d (p ∷ ps) l =
    carried_more (max (length p.chunk.ops + n) (2 * length p.upvalues))
    (max (length p.chunk.ops + n') (2 * length p.upvalues)) d ps (omega arith)

-- the open functions' code, summed, is part of it
pub open_code_step : (s : Compiler) (x p : CompilerCtx) (ps : List CompilerCtx) →
    c.open_code (c.with_ctxs s x (p ∷ ps)) ≡ length x.chunk.ops + c.open_code (c.with_ctxs s p ps)
unfolding c.open_code
open_code_step s x p ps = refl

open_code_of : (s : Compiler) (x : CompilerCtx) (ps : List CompilerCtx) (n m : ℕ) → length x.chunk.ops + n ≤ m →
    c.open_code (c.with_ctxs s x ps) + n ≤ carried m ps
unfolding c.open_code
open_code_of s x [] n m l = omega arith
open_code_of s x (p ∷ ps) n m l =
    omega (
      arith,
      open_code_step s x p ps,
      open_code_of s p ps (length x.chunk.ops + n) (max (length p.chunk.ops + m) (2 * length p.upvalues)) (omega arith),
    )

open_code_reach : (s : Compiler) (n : ℕ) → c.open_code s + n + length s.ctx.locals ≤ reach n s.ctx s.parents
open_code_reach s n = omega (arith, open_code_of s s.ctx s.parents n (max (length s.ctx.chunk.ops + n) (2 * length s.ctx.upvalues)) (omega arith))

-- ## A name that is looked up: at most one variable more is captured by each function, and all of them are carried as one

pub record Like (x x' : CompilerCtx) : Type 0 where
  pub name : x'.name ≡ x.name
  pub type : x'.type ≡ x.type
  pub ops : length x'.chunk.ops ≡ length x.chunk.ops
  pub locals : length x'.locals ≡ length x.locals
  pub pairs : length x'.upvalues ≤ length x.upvalues + 1

abbrev pub Likes : List CompilerCtx → List CompilerCtx → Type 0
Likes [] [] = Unit {0}
Likes [] (y ∷ ys) = ⊥
Likes (x ∷ xs) [] = ⊥
Likes (x ∷ xs) (y ∷ ys) = Like x y × Likes xs ys

like_self : (x : CompilerCtx) → Like x x
like_self x = record { name = refl; type = refl; ops = refl; locals = refl; pairs = omega arith }

likes_self : (xs : List CompilerCtx) → Likes xs xs
likes_self [] = tt
likes_self (x ∷ xs) = (like_self x, likes_self xs)

pub likes_length : (xs ys : List CompilerCtx) → Likes xs ys → length ys ≡ length xs
likes_length [] [] h = refl
likes_length [] (y ∷ ys) h = absurd h
likes_length (x ∷ xs) [] h = absurd h
likes_length (x ∷ xs) (y ∷ ys) h = ap suc (likes_length xs ys h.1)

likes_locals : (xs ys : List CompilerCtx) → Likes xs ys → sum_of (λ y. length y.locals) ys ≡ sum_of (λ y. length y.locals) xs
likes_locals [] [] h = refl
likes_locals [] (y ∷ ys) h = absurd h
likes_locals (x ∷ xs) [] h = absurd h
likes_locals (x ∷ xs) (y ∷ ys) h = omega (arith, h.0.locals, likes_locals xs ys h.1)

carried_like : (ps qs : List CompilerCtx) → Likes ps qs → (n n' : ℕ) → n ≤ n' + 2 → carried n qs ≤ carried n' ps + 2
carried_like [] [] h n n' l = omega arith
carried_like [] (q ∷ qs) h n n' l = absurd h
carried_like (p ∷ ps) [] h n n' l = absurd h
carried_like (p ∷ ps) (q ∷ qs) h n n' l =
    carried_like ps qs h.1 (max (length q.chunk.ops + n) (2 * length q.upvalues))
    (max (length p.chunk.ops + n') (2 * length p.upvalues)) (omega (arith, h.0.ops, h.0.pairs))

reached_like : (x x' : CompilerCtx) (ps qs : List CompilerCtx) → Like x x' → Likes ps qs → reached x' qs ≤ reached x ps + 2
reached_like x x' ps qs h hs =
    omega (
      arith,
      h.locals,
      likes_locals ps qs hs,
      carried_like ps qs hs (max (length x'.chunk.ops + 0) (2 * length x'.upvalues)) (max (length x.chunk.ops + 0) (2 * length x.upvalues))
          (omega (arith, h.ops, h.pairs)),
    )

abbrev pub RaisedIf : CompilerCtx → List CompilerCtx → Resolved → Type 0
RaisedIf ctx parents (captured idx ctx' parents') = Like ctx ctx' × Likes parents parents'
RaisedIf ctx parents nowhere = Unit {0}
RaisedIf ctx parents (failed r) = Rusts r

added : (p : Option ℕ) (u : Upvalue) (span : Span) (ctx parent : CompilerCtx) (above parents : List CompilerCtx) → Likes (parent ∷ above) parents →
    RaisedIf ctx (parent ∷ above) (c.added p u span ctx parents)
unfolding c.added
added (some place) u span ctx parent above parents h = (like_self ctx, h)
added none u span ctx parent above parents h = by_room (ltb (length ctx.upvalues) 256)
  where
    by_room : (b : Bool) →
        RaisedIf ctx (parent ∷ above)
        (if b then captured (length ctx.upvalues) (c.with_upvalues ctx (ctx.upvalues ++ (u ∷ []))) parents else failed (TooManyUpvalues span))
    by_room true = (record { name = refl; type = refl; ops = refl; locals = refl; pairs = omega (arith, length-append ctx.upvalues (u ∷ [])) }, h)
    by_room false = tt

through : (f : Found) (outer : Resolved) (name : ℕ) (span : Span) (ctx parent : CompilerCtx) (above : List CompilerCtx) →
    RaisedIf parent above outer → RaisedIf ctx (parent ∷ above) (c.through f outer name span ctx parent above)
unfolding c.through c.further_out c.add_upvalue
through (at_slot slot) outer name span ctx parent above o =
    added _ (record { idx = slot; is_local = true }) span ctx parent above (c.with_locals parent (c.capture name parent.locals) ∷ above)
    (record { name = refl; type = refl; ops = refl; locals = capture_length name parent.locals; pairs = omega arith }, likes_self above)
through uninitialized outer name span ctx parent above o = tt
through no_local (captured idx q qs) name span ctx parent above o =
    added _ (record { idx = idx; is_local = false }) span ctx parent above (q ∷ qs) o
through no_local nowhere name span ctx parent above o = tt
through no_local (failed r) name span ctx parent above o = o

pub resolve_upvalue : (name : ℕ) (span : Span) (ctx : CompilerCtx) (parents : List CompilerCtx) →
    RaisedIf ctx parents (c.resolve_upvalue name span ctx parents)
unfolding c.resolve_upvalue
resolve_upvalue name span ctx [] = tt
resolve_upvalue name span ctx (p ∷ ps) =
    through (c.find_local name p.locals) (c.resolve_upvalue name span p ps) name span ctx p ps (resolve_upvalue name span p ps)

raised : (ctx : CompilerCtx) (parents : List CompilerCtx) (r : Resolved) → RaisedIf ctx parents r → GrownIf reached 2 ctx parents r
raised ctx parents (captured idx ctx' parents') h =
    record { levels = likes_length parents parents' h.1; holds = reached_like ctx ctx' parents parents' h.0 h.1 }
raised ctx parents nowhere h = tt
raised ctx parents (failed r) h = h

holds : (most : ℕ) → Holds reached 2 1 most
unfolding c.set_u16
holds most =
    record {
      declares = λ x ps local. omega arith;
      defines = λ x ps. omega (arith, initialize_length x.locals);
      scopes = λ x ps depth. omega arith;
      patches = λ x ps at n. simp length-set (omega arith);
      fresh = λ x ps name arity depth type.
          omega (arith, carried_more (max (length x.chunk.ops + 0) (2 * length x.upvalues)) (max (length x.chunk.ops + 0) (2 * length x.upvalues)) 0 ps (omega arith));
      resolves = λ name span ctx parents l. raised ctx parents (c.resolve_upvalue name span ctx parents) (resolve_upvalue name span ctx parents);
    }

-- ## What writes, by any account of what has been spent that a byte raises by one

-- a chunk with a constant more
unfoldable pub Placed : Chunk → Written → Type 0
Placed ch (at_place place ch') = ch'.ops ≡ ch.ops
Placed ch no_room = Unit {0}

pub placed : (ch : Chunk) (v : Constant) → Placed ch (write_constant ch v)
unfolding Placed write_constant written
placed ch v = found (position (same_constant v) ch.constants)
  where
    added : (b : Bool) →
        Placed ch (if b then at_place (length ch.constants)
        (record { ops = ch.ops; constants = ch.constants ++ (v ∷ []); spans = ch.spans }) else no_room)
    added true = refl
    added false = tt

    found : (p : Option ℕ) → Placed ch (written p ch v)
    found (some place) = refl
    found none = added (ltb (length ch.constants) 256)

pub one_more : (ch : Chunk) (b : ℕ) (span : Span) → length (write_u8 ch b span).ops ≡ length ch.ops + 1
unfolding write_u8
one_more ch b span = length-append ch.ops (b ∷ [])

module _ (limit top : ℕ) (J : ℕ → ℕ → Compiler → Type 0) (more : (g k k' : ℕ) (s : Compiler) → k ≤ k' → J g k s → J g k' s)
    (fits : (g k : ℕ) (s : Compiler) → k + 1 ≤ top → J g k s → c.open_code s + 1 ≤ limit)
    (longer : (g k b : ℕ) (span : Span) (s : Compiler) → k + 1 ≤ top → J g k s → J g (k + 1) (emitted s b span))
    (pooled : (g k : ℕ) (s : Compiler) (ch : Chunk) → ch.ops ≡ s.ctx.chunk.ops → J g k s → J g k (c.with_ctx s (c.with_chunk s.ctx ch))) where
  abbrev Writes : {A : Type 0} → (g n : ℕ) → Compile A → Type 0
  Writes g n m = Spends J Rusts top g g n m

  onward : {A B : Type 0} {g n n' : ℕ} {m : Compile A} {p : Compile B} → Writes g n m → Writes g n' p → Writes g (n + n') (c.◌>>◌ m p)
  onward hm hp = spends.follow J Rusts top more hm hp

  emit_u8 : {g : ℕ} (b : ℕ) (span : Span) → Writes g 1 (c.emit_u8 limit b span)
  emit_u8 {g} b span =
      record {
        run =
            λ s k l i. subst⁻¹ (λ (o : Outcome (Unit {0})). Ends J Rusts top g (k + 1) o) (byte_fits limit s b span (fits g k s l i))
            (longer g k b span s l i);
      }

  emit_place : {g : ℕ} (s : Compiler) (k : ℕ) (w : Written) (span : Span) → J g k s → k + 1 ≤ top → Placed s.ctx.chunk w →
      Ends J Rusts top g (k + 1) (c.emit_place limit w span s)
  unfolding c.emit_place Placed c.◌>>◌ go_on c.update_ctx c.refuse
  emit_place {g} s k (at_place place ch) span i l e =
      (emit_u8 place span).run (c.with_ctx s (c.with_chunk s.ctx ch)) k l (pooled g k s ch e i)
  emit_place s k no_room span i l e = tt

  emit_constant : {g : ℕ} (v : Constant) (span : Span) → Writes g 1 (c.emit_constant limit v span)
  unfolding c.emit_constant c.◌>>=◌ go_on c.the
  emit_constant v span = record { run = λ s k l i. emit_place s k (write_constant s.ctx.chunk v) span i l (placed s.ctx.chunk v) }

  emit_upvalues : {g : ℕ} (us : List Upvalue) (span : Span) → Writes g (2 * length us) (c.emit_upvalues limit us span)
  unfolding c.emit_upvalues
  emit_upvalues [] span = spends.done J Rusts top more
  emit_upvalues (u ∷ us) span =
      spends.enough J Rusts top more
      (onward (emit_u8 _ _) (onward (emit_u8 _ _) (emit_upvalues us span)))
      (omega arith)

  emit_closure : {g : ℕ} (number : ℕ) (us : List Upvalue) (span : Span) → Writes g (2 + 2 * length us) (c.emit_closure limit number us span)
  unfolding c.emit_closure
  emit_closure number us span =
      spends.enough J Rusts top more
      (onward (emit_u8 _ _) (onward (emit_constant _ _) (emit_upvalues us _)))
      (omega arith)

-- ## The steps

-- finished functions do not count
abbrev gone : List ObjectFunction → ℕ
gone fs = 0

-- `top` is all that may be spent, and the code limit is no less
module _ (limit most top : ℕ) (room : top ≤ limit) where
  abbrev J : ℕ → ℕ → Compiler → Type 0
  J g k s = Spent reached gone most g k s

  abbrev Does : {A : Type 0} → (g h n : ℕ) → Compile A → Type 0
  Does g h n m = Spends J Rusts top g h n m

  infixl 10 ◌>>=◌
  ◌>>=◌ : {A B : Type 0} {g h i n n' : ℕ} {m : Compile A} {f : A → Compile B} → Does g h n m → ((a : A) → Does h i n' (f a)) →
      Does g i (n + n') (c.◌>>=◌ m f)
  hm >>= hf = spends.bind J Rusts top (more reached gone most) hm hf

  infixl 10 ◌>>◌
  ◌>>◌ : {A B : Type 0} {g h i n n' : ℕ} {m : Compile A} {p : Compile B} → Does g h n m → Does h i n' p → Does g i (n + n') (c.◌>>◌ m p)
  hm >> hp = spends.follow J Rusts top (more reached gone most) hm hp

  -- ## What writes

  fits : (g k : ℕ) (s : Compiler) → k + 1 ≤ top → J g k s → c.open_code s + 1 ≤ limit
  fits g k s l i = omega (arith, open_code_reach s 0, i.spent)

  longer : (g k b : ℕ) (span : Span) (s : Compiler) → k + 1 ≤ top → J g k s → J g (k + 1) (emitted s b span)
  longer g k b span s l i =
      record {
        levels = i.levels;
        spent =
            omega (
              arith,
              i.spent,
              carried_more (max (length (write_u8 s.ctx.chunk b span).ops + 0) (2 * length s.ctx.upvalues))
                  (max (length s.ctx.chunk.ops + 0) (2 * length s.ctx.upvalues)) 1 s.parents
                  (omega (arith, one_more s.ctx.chunk b span)),
            );
      }

  pooled : (g k : ℕ) (s : Compiler) (ch : Chunk) → ch.ops ≡ s.ctx.chunk.ops → J g k s → J g k (c.with_ctx s (c.with_chunk s.ctx ch))
  pooled g k s ch e i =
      record {
        levels = i.levels;
        spent =
            omega (
              arith,
              i.spent,
              carried_more (max (length ch.ops + 0) (2 * length s.ctx.upvalues)) (max (length s.ctx.chunk.ops + 0) (2 * length s.ctx.upvalues))
                  0 s.parents (omega (arith, ap length e)),
            );
      }

  -- ## Scopes and functions

  -- a byte for each local that goes
  pop_locals : {g : ℕ} (ls : List Local) (span : Span) (s : Compiler) (k : ℕ) → s.ctx.locals ≡ ls → k ≤ top → J g k s →
      Ends J Rusts top g k (c.pop_locals limit ls span s)
  unfolding c.pop_locals c.◌>>=◌ c.◌>>◌ go_on c.the c.done c.return c.emit_op c.update_ctx
  pop_locals [] span s k e l i = i
  pop_locals {g} (x ∷ xs) span s k e l i = by_depth (ltb s.ctx.scope_depth x.depth) (λ t e h. pop_locals xs span t k e l h)
    where
      b : ℕ
      b = if x.is_captured then op.CLOSE_UPVALUE else op.POP

      popped : Compiler
      popped = c.with_ctx s (c.with_locals (emitted s b span).ctx xs)

      paid : J g k popped
      paid =
          record {
            levels = i.levels;
            spent =
                omega (
                  arith,
                  i.spent,
                  ap length e,
                  carried_more (max (length (write_u8 s.ctx.chunk b span).ops + 0) (2 * length s.ctx.upvalues))
                      (max (length s.ctx.chunk.ops + 0) (2 * length s.ctx.upvalues)) 1 s.parents
                      (omega (arith, one_more s.ctx.chunk b span)),
                );
          }

      by_depth : (d : Bool) → ((t : Compiler) → t.ctx.locals ≡ xs → J g k t → Ends J Rusts top g k (c.pop_locals limit xs span t)) →
          Ends J Rusts top g k
          ((if d then c.◌>>◌ (c.emit_op limit b span)
          (c.◌>>◌ (c.update_ctx (λ y. c.with_locals y xs)) (c.pop_locals limit xs span)) else c.done) s)
      by_depth true rest =
          subst⁻¹ (λ (o : Outcome (Unit {0})). Ends J Rusts top g k
          (go_on o (λ _. c.◌>>◌ (c.update_ctx (λ y. c.with_locals y xs)) (c.pop_locals limit xs span))))
          (byte_fits limit s b span (omega (arith, open_code_reach s 0, i.spent, ap length e))) (rest popped refl paid)
      by_depth false rest = i

  end_scope : {g : ℕ} (span : Span) → Does g g 0 (c.end_scope limit span)
  unfolding c.end_scope c.◌>>=◌ c.◌>>◌ go_on c.the c.update_ctx
  end_scope {g} span =
      spends.enough J Rusts top (more reached gone most) {n = 0} (record { run = λ s k l i. ended s k l i }) (omega arith)
    where
      lower : CompilerCtx → CompilerCtx
      lower x = c.with_scope_depth x (x.scope_depth - 1)

      ended : (s : Compiler) (k : ℕ) → k + 0 ≤ top → J g k s →
          Ends J Rusts top g (k + 0) (c.pop_locals limit s.ctx.locals span (c.with_ctx s (lower s.ctx)))
      ended s k l i =
          spends.ends_more J Rusts top (more reached gone most) g k (k + 0)
          (c.pop_locals limit s.ctx.locals span (c.with_ctx s (lower s.ctx)))
          (omega arith)
          (pop_locals s.ctx.locals span (c.with_ctx s (lower s.ctx)) k refl (omega arith) (record { levels = i.levels; spent = i.spent }))

  -- A closure's bytes are looked at together: they come to `all`, and `j` of them are written.
  module _ (k all : ℕ) (within-top : k ≤ top) where
    record Closing (g j : ℕ) (s : Compiler) : Type 0 where
      levels : length s.parents + g ≤ most
      reaches : reach (all - j) s.ctx s.parents ≤ k

    closing_more : (g j j' : ℕ) (s : Compiler) → j ≤ j' → Closing g j s → Closing g j' s
    closing_more g j j' s l i =
        record {
          levels = i.levels;
          reaches =
              omega (
                arith,
                i.reaches,
                carried_more (max (length s.ctx.chunk.ops + (all - j')) (2 * length s.ctx.upvalues))
                    (max (length s.ctx.chunk.ops + (all - j)) (2 * length s.ctx.upvalues)) 0 s.parents (omega arith),
              );
        }

    closing_fits : (g j : ℕ) (s : Compiler) → j + 1 ≤ all → Closing g j s → c.open_code s + 1 ≤ limit
    closing_fits g j s l i = omega (arith, open_code_reach s (all - j), i.reaches)

    closing_longer : (g j b : ℕ) (span : Span) (s : Compiler) → j + 1 ≤ all → Closing g j s → Closing g (j + 1) (emitted s b span)
    closing_longer g j b span s l i =
        record {
          levels = i.levels;
          reaches =
              omega (
                arith,
                i.reaches,
                carried_more (max (length (write_u8 s.ctx.chunk b span).ops + (all - (j + 1))) (2 * length s.ctx.upvalues))
                    (max (length s.ctx.chunk.ops + (all - j)) (2 * length s.ctx.upvalues)) 0 s.parents
                    (omega (arith, one_more s.ctx.chunk b span)),
              );
        }

    closing_pooled : (g j : ℕ) (s : Compiler) (ch : Chunk) → ch.ops ≡ s.ctx.chunk.ops → Closing g j s →
        Closing g j (c.with_ctx s (c.with_chunk s.ctx ch))
    closing_pooled g j s ch e i =
        record {
          levels = i.levels;
          reaches =
              omega (
                arith,
                i.reaches,
                carried_more (max (length ch.ops + (all - j)) (2 * length s.ctx.upvalues))
                    (max (length s.ctx.chunk.ops + (all - j)) (2 * length s.ctx.upvalues)) 0 s.parents (omega (arith, ap length e)),
              );
        }

    -- all are written
    closed : (g : ℕ) (o : Outcome (Unit {0})) → Ends Closing Rusts all g (0 + all) o → Ends J Rusts top g k o
    closed g (ok a s) i =
        record {
          levels = i.levels;
          spent =
              omega (
                arith,
                i.reaches,
                carried_more (max (length s.ctx.chunk.ops + 0) (2 * length s.ctx.upvalues))
                    (max (length s.ctx.chunk.ops + (all - (0 + all))) (2 * length s.ctx.upvalues)) 0 s.parents (omega arith),
              );
        }
    closed g (err x) i = i

  back_to : {h : ℕ} (g : ℕ) (s : Compiler) (k : ℕ) (ps : List CompilerCtx) (span : Span) → s.parents ≡ ps → g ≡ suc h → g ≤ most → k + 3 ≤ top →
      J h k s →
      Ends J Rusts top g (k + 3) (go_on (c.back_to ps s) (λ (r : ℕ × List Upvalue). c.emit_closure limit r.0 r.1 span))
  unfolding c.back_to c.finish go_on
  back_to g s k [] span e up b l i =
      spends.ends_more J Rusts top (more reached gone most) g (k + 2) (k + 3) (c.emit_closure limit 0 [] span s) (omega arith)
      ((emit_closure limit top J (more reached gone most) fits longer pooled 0 [] span).run s k (omega arith)
      (record { levels = omega (arith, ap length e); spent = i.spent }))
  back_to g s k (p ∷ ps) span e up b l i =
      closed (k + 3) all l g (c.emit_closure limit (length s.functions) us span t)
      ((emit_closure limit all (Closing (k + 3) all l) (closing_more (k + 3) all l) (closing_fits (k + 3) all l) (closing_longer (k + 3) all l)
      (closing_pooled (k + 3) all l) (length s.functions) us span).run t 0 (omega arith) ready)
    where
      us : List Upvalue
      us = s.ctx.upvalues

      all : ℕ
      all = 2 + 2 * length us

      t : Compiler
      t = record { ctx = p; parents = ps; class_ctx = s.class_ctx; functions = s.functions ++ (c.finish s.ctx ∷ []) }

      ready : Closing (k + 3) all l g 0 t
      ready =
          record {
            levels = omega (arith, i.levels, ap length e);
            reaches =
                omega (
                  arith,
                  subst (λ (qs : List CompilerCtx). reached s.ctx qs ≤ k) e (omega (arith, i.spent)),
                  carried_more (max (length p.chunk.ops + (all - 0)) (2 * length p.upvalues))
                      (max (length p.chunk.ops + max (length s.ctx.chunk.ops + 0) (2 * length us)) (2 * length p.upvalues)) 2 ps (omega arith),
                );
          }

  end_function : {g h : ℕ} (span : Span) → (g ≡ suc h) × (g ≤ most) → Does h g 3 (c.end_function limit span)
  unfolding c.end_function c.end_ctx c.◌>>=◌ go_on c.the
  end_function {g} span up = record { run = λ s k l i. back_to g s k s.parents span refl up.0 up.1 l i }

  laws : Laws (fitting most) (λ A g h n w m. Does {A = A} g h n (m limit))
  unfolding c.define_local c.begin_scope c.push_class_ctx c.pop_class_ctx
  laws =
      record {
        no_span = record { start = omega arith; end = omega arith };
        this_named = omega arith;
        super_named = omega arith;
        ◌>>=◌ = λ hm hf. hm >>= hf;
        ◌>>◌ = λ hm hp. hm >> hp;
        enough = λ hm b b'. spends.enough J Rusts top (more reached gone most) hm b;
        needs = λ b r o f. spends.needs J Rusts top (more reached gone most) b r o f;
        return = λ a. spends.return J Rusts top (more reached gone most) a;
        the = λ f. spends.the J Rusts top (more reached gone most) f;
        need = λ b r o. spends.need J Rusts top (more reached gone most) b r o;
        refuse = λ r o. spends.refuse J Rusts top (more reached gone most) r o;
        resolve = λ name span. open-ones.resolve reached gone 2 1 most (holds most) Rusts (λ r o. o) top name span;
        patch_jump = λ at span. open-ones.patch_jump reached gone 2 1 most (holds most) Rusts (λ r o. o) top at span;
        declare_local = λ name span. open-ones.declare_local reached gone 2 1 most (holds most) Rusts (λ r o. o) top name span;
        define_local = open-ones.define_local reached gone 2 1 most (holds most) Rusts (λ r o. o) top;
        begin_scope = open-ones.begin_scope reached gone 2 1 most (holds most) Rusts (λ r o. o) top;
        push_class_ctx = λ b. open-ones.push_class_ctx reached gone 2 1 most (holds most) Rusts (λ r o. o) top b;
        pop_class_ctx = open-ones.pop_class_ctx reached gone 2 1 most (holds most) Rusts (λ r o. o) top;
        begin_ctx = λ name arity depth type inner up n a. open-ones.begin_ctx reached gone 2 1 most (holds most) Rusts
            (λ r o. o) top name arity depth type up.0;
        emit_u8 = λ b span n. emit_u8 limit top J (more reached gone most) fits longer pooled b span;
        emit_constant = λ v span o n. emit_constant limit top J (more reached gone most) fits longer pooled v span;
        end_scope = λ span n. end_scope span;
        end_function = λ span up n. end_function span up;
      }

-- ## Every tree

-- with such a code limit the compiler gives functions, or refuses by 10 to 23
abbrev pub Within : Outcome (List ObjectFunction) → Type 0
Within (ok fs s) = Unit {0}
Within (err x) = Rusts x.what

pub within : (limit most : ℕ) (stmts : Stmts) → OfStmts (fitting most) stmts most → stmts_size stmts + 2 ≤ limit →
    Within (c.compile_functions limit stmts)
unfolding c.compile_functions c.◌>>◌ c.the c.finish go_on
within limit most stmts o room = by_outcome (c.compile_script limit stmts c.new) compiled
  where
    top : ℕ
    top = stmts_size stmts + 2

    compiled : Ends (λ g k s. Spent reached gone most g k s) Rusts top most (0 + top) (c.compile_script limit stmts c.new)
    compiled =
        (steps.compile_script (fitting most) (λ A g h n w m. Does limit most top room {A = A} g h n (m limit))
        (laws limit most top room) stmts most o).run c.new 0 (omega arith)
        (record { levels = omega arith; spent = omega arith })

    by_outcome : (r : Outcome (Unit {0})) → Ends (λ g k s. Spent reached gone most g k s) Rusts top most (0 + top) r →
        Within (go_on r (λ _. c.the (λ (s : Compiler). s.functions ++ (c.finish s.ctx ∷ []))))
    by_outcome (ok a s) i = tt
    by_outcome (err x) i = i
