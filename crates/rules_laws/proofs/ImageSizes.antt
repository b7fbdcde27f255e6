-- How long an image can be, its directory counted: at most seventeen bytes for each byte of the tree file. A byte of code costs twelve bytes of image,
-- its own and a run's eleven, but the pairs of one closure share a span, so that they cost few runs.
use mathlib.Core.Path.{◌≡◌, refl, ap, subst⁻¹}
use mathlib.Core.Bool.{Bool, true, false, ◌&&◌}
use mathlib.Core.Option.{Option, none, some}
use mathlib.Core.List.{List, ◌∷◌, ◌++◌, []}
use Prim.Native.Nat.{ℕ, zero, suc, ◌+◌, ◌-◌, ◌*◌, ◌≤◌, ◌<◌}
use native.Mathlib.Omega.{arith}
use native.Mathlib.Nat.{add-mul, mul-le-mul_right}
use lib.ListN.{length, length-append, length-set}
use lib.Dec.{T, ltb, eqb, ltb→lt, nltb→le, eqb_refl}
use Rattle.rules.proofs.Numbers.{le_length}
use Rattle.rules.specs.Base.{position, le}
use Rattle.std.specs.Prelude.{if◌then◌else◌}
use Rattle.rules.specs.declared.Span.{Span}
use Rattle.rules.specs.declared.Refusal.{Refusal}
use Rattle.rules.specs.declared.Refusal.TheVariants.{CodeFull}
use Rattle.rules.specs.Tree.{Stmts}
use Rattle.rules.specs.Op as op
use Rattle.rules.specs.Chunk.{Chunk, Constant, CN, CS, CF, Run, push_span, same_span, write_u8, Written, at_place, no_room, write_constant, written, same_constant, ObjectFunction}
use Rattle.rules.specs.Compiler as c
use Rattle.rules.specs.Compiler.{Compiler, CompilerCtx, Compile, Outcome, ok, err, go_on, Upvalue, Local}
use Rattle.rules.specs.Image as image
use Rattle.rules.specs.Image.{image_bytes, image_with}
use Rattle.rules_laws.proofs.Tests.{both}
use Rattle.rules_laws.proofs.Keeps as keeps
use Rattle.rules_laws.proofs.Keeps.{After, Triple}
use Rattle.rules_laws.proofs.Facts.{capture_length, initialize_length}
use Rattle.rules_laws.proofs.Trees.{OfStmts, stmts_size}
use Rattle.rules_laws.proofs.Steps as steps
use Rattle.rules_laws.proofs.Steps.{Laws}
use Rattle.rules_laws.proofs.Held as open-ones
use Rattle.rules_laws.proofs.Held.{sum_of, summed, times, Measure, sum_holds, Holds, spent, Spent, more}
use Rattle.rules_laws.proofs.Spends as spends
use Rattle.rules_laws.proofs.Spends.{Spends, Ends}
use Rattle.rules_laws.proofs.TreeBytes.{fitting}
use Rattle.rules_laws.proofs.Sizes.{emitted}

-- ## Runs: bytes of one span in a row

-- how far the runs reach, if all but the last were full
abbrev used : List Run → ℕ
used [] = 0
used (run ∷ []) = run.count
used (run ∷ next ∷ runs) = 255 + used (next ∷ runs)

-- the last run has this span
abbrev LastIs : Span → List Run → Type 0
LastIs span [] = ⊥
LastIs span (run ∷ []) = T (same_span run.span span) × (run.count ≤ 255)
LastIs span (run ∷ next ∷ runs) = LastIs span (next ∷ runs)

push_length : (runs : List Run) (span : Span) → length (push_span runs span) ≤ length runs + 1
unfolding push_span
push_length [] span = omega arith
push_length (run ∷ []) span = by_test (same_span run.span span && ltb run.count 255)
  where
    by_test : (b : Bool) →
        length (if b then (record { span = run.span; count = run.count + 1 } ∷ []) else (run ∷ record { span = span; count = 1 } ∷ [])) ≤ 2
    by_test true = omega arith
    by_test false = omega arith
push_length (run ∷ next ∷ runs) span = omega (arith, push_length (next ∷ runs) span)

span_self : (span : Span) → T (same_span span span)
unfolding same_span
span_self span = both (eqb span.start span.start) (eqb span.end span.end) (eqb_refl span.start) (eqb_refl span.end)

-- a push leaves a list of a run or more: its tail is pushed to
push_last : (runs : List Run) (span : Span) → LastIs span (push_span runs span)
unfolding push_span
push_last [] span = (span_self span, omega arith)
push_last (run ∷ []) span = by_test (same_span run.span span) refl (ltb run.count 255) refl
  where
    by_test : (a : Bool) → same_span run.span span ≡ a → (b : Bool) → ltb run.count 255 ≡ b →
        LastIs span (if a && b then (record { span = run.span; count = run.count + 1 } ∷ []) else (run ∷ record { span = span; count = 1 } ∷ []))
    by_test true e true e' = (rw e tt, omega (arith, ltb→lt run.count 255 (rw e' tt)))
    by_test true e false e' = (span_self span, omega arith)
    by_test false e b e' = (span_self span, omega arith)
push_last (run ∷ next ∷ []) span = by_test (same_span next.span span && ltb next.count 255) (push_last (next ∷ []) span)
  where
    by_test : (b : Bool) →
        LastIs span (if b then (record { span = next.span; count = next.count + 1 } ∷ []) else (next ∷ record { span = span; count = 1 } ∷ [])) →
        LastIs span (run ∷ (if b then (record { span = next.span; count = next.count + 1 } ∷ []) else
        (next ∷ record { span = span; count = 1 } ∷ [])))
    by_test true h = h
    by_test false h = h
push_last (run ∷ next ∷ third ∷ runs) span = push_last (next ∷ third ∷ runs) span

-- where the span is the last run's, they reach one further
push_used : (runs : List Run) (span : Span) → LastIs span runs → used (push_span runs span) ≤ used runs + 1
unfolding push_span
push_used [] span h = absurd h
push_used (run ∷ []) span h = by_test (same_span run.span span) h.0 (ltb run.count 255) refl
  where
    by_test : (a : Bool) → T a → (b : Bool) → ltb run.count 255 ≡ b →
        used (if a && b then (record { span = run.span; count = run.count + 1 } ∷ []) else
        (run ∷ record { span = span; count = 1 } ∷ [])) ≤ run.count + 1
    by_test true t true e = omega arith
    by_test true t false e = omega (arith, nltb→le run.count 255 (rw e tt))
    by_test false t b e = absurd t
push_used (run ∷ next ∷ []) span h = by_test (same_span next.span span && ltb next.count 255) (push_used (next ∷ []) span h)
  where
    by_test : (b : Bool) →
        used (if b then (record { span = next.span; count = next.count + 1 } ∷ []) else
        (next ∷ record { span = span; count = 1 } ∷ [])) ≤ next.count + 1 →
        used (run ∷ (if b then (record { span = next.span; count = next.count + 1 } ∷ []) else
        (next ∷ record { span = span; count = 1 } ∷ []))) ≤ 255 + next.count + 1
    by_test true h = omega arith
    by_test false h = omega arith
push_used (run ∷ next ∷ third ∷ runs) span h = omega (arith, push_used (next ∷ third ∷ runs) span h)

used_least : (runs : List Run) → 255 * length runs ≤ used runs + 255
used_least [] = omega arith
used_least (run ∷ []) = omega arith
used_least (run ∷ next ∷ runs) = omega (arith, used_least (next ∷ runs))

used_most : (runs : List Run) (span : Span) → LastIs span runs → used runs ≤ 255 * length runs
used_most [] span h = absurd h
used_most (run ∷ []) span h = omega (arith, h.1)
used_most (run ∷ next ∷ runs) span h = omega (arith, used_most (next ∷ runs) span h)

-- ## What a function comes to in the image

constant_length : (v : Constant) → length (image.constant_bytes v) ≤ 10
unfolding image.constant_bytes
constant_length (CN bits) = omega (arith, le_length 8 bits)
constant_length (CS name) = omega (arith, le_length 2 name)
constant_length (CF number) = omega (arith, le_length 4 number)

run_length : (run : Run) → length (image.run_bytes run) ≡ 11
unfolding image.run_bytes
run_length run = simp (length-append, le_length)

constants_length : List Constant → ℕ
constants_length cs = length (image.join image.constant_bytes cs)

constants_more : (cs : List Constant) (v : Constant) → constants_length (cs ++ (v ∷ [])) ≤ constants_length cs + 10
unfolding constants_length image.join
constants_more [] v = omega (arith, length-append (image.constant_bytes v) [], constant_length v)
constants_more (x ∷ cs) v =
    omega (
      arith,
      constants_more cs v,
      length-append (image.constant_bytes x) (image.join image.constant_bytes (cs ++ (v ∷ []))),
      length-append (image.constant_bytes x) (image.join image.constant_bytes cs),
    )

runs_length : (runs : List Run) → length (image.join image.run_bytes runs) ≡ 11 * length runs
unfolding image.join
runs_length [] = refl
runs_length (run ∷ runs) = omega (arith, run_length run, runs_length runs, length-append (image.run_bytes run) (image.join image.run_bytes runs))

abbrev weighs : Chunk → ℕ
weighs ch = constants_length ch.constants + 11 * length ch.spans + length ch.ops

function_length : (f : ObjectFunction) → length (image.function_bytes f) ≡ 19 + weighs f.chunk
unfolding image.function_bytes constants_length
function_length f = simp (length-append, le_length) (omega (arith, runs_length f.chunk.spans))

-- each with its entry in a directory
abbrev weigh_all : List ObjectFunction → ℕ
weigh_all [] = 0
weigh_all (f ∷ fs) = 23 + weighs f.chunk + weigh_all fs

functions_length : (fs : List ObjectFunction) → length (image.join image.function_bytes fs) + 4 * length fs ≡ weigh_all fs
unfolding image.join
functions_length [] = refl
functions_length (f ∷ fs) =
    omega (arith, function_length f, functions_length fs, length-append (image.function_bytes f) (image.join image.function_bytes fs))

image_length : (fs : List ObjectFunction) → length (image_bytes fs) + 4 * length fs ≡ 6 + weigh_all fs
unfolding image_bytes
image_length fs = omega (arith, functions_length fs, length-append (le 4 (length fs)) (image.join image.function_bytes fs), le_length 4 (length fs))

entries_length : (at : ℕ) (fs : List ObjectFunction) → length (image.join (le 4) (image.places at fs)) ≡ 4 * length fs
unfolding image.join image.places
entries_length at [] = refl
entries_length at (f ∷ fs) =
    omega (
      arith,
      le_length 4 at,
      entries_length (at + length (image.function_bytes f)) fs,
      length-append (le 4 at) (image.join (le 4) (image.places (at + length (image.function_bytes f)) fs)),
    )

pub directory_length : (fs : List ObjectFunction) → length (image.directory_bytes fs) ≡ 6 + 4 * length fs
unfolding image.directory_bytes
directory_length fs =
    omega (arith, entries_length 6 fs, length-append (le 4 (length fs)) (image.join (le 4) (image.places 6 fs)), le_length 4 (length fs))

with_length : (directory : Bool) (fs : List ObjectFunction) → length (image_with directory fs) ≤ 12 + weigh_all fs
unfolding image_with
with_length true fs = omega (arith, image_length fs, directory_length fs, length-append (image_bytes fs) (image.directory_bytes fs))
with_length false fs = omega (arith, image_length fs)

weigh_end : (fs : List ObjectFunction) (f : ObjectFunction) → weigh_all (fs ++ (f ∷ [])) ≡ weigh_all fs + 23 + weighs f.chunk
weigh_end [] f = omega arith
weigh_end (g ∷ fs) f = omega (arith, weigh_end fs f)

-- ## What has been spent: a local has paid for its pop, and a captured variable for its pair

-- Who pays for the pairs, three bytes each: a variable where it is captured, in each function that it passes through, or a function's end, for as many
-- as it can have. The first is cheap where few functions stand in one another, the second is the same however many do.
record Pays (most : ℕ) : Type 0 where
  at_end : ℕ  -- how many pairs a function's end pays for
  pair : ℕ  -- what a captured variable pays in one function
  rate : ℕ  -- how many times what `Steps` has for a step
  captures : (n : ℕ) → n < 256 → 3 * (n + 1 - at_end) ≤ 3 * (n - at_end) + pair
  few : (n : ℕ) → n ≤ most → times pair n ≤ 48
  some : 1 ≤ rate
  ends : 68 + 3 * at_end ≤ 68 * rate

-- any refusal will do
abbrev Any : Refusal → Type 0
Any r = Unit {0}

module _ (limit most top : ℕ) (pays : Pays most) where
  abbrev held : CompilerCtx → ℕ
  held x = weighs x.chunk + 3 * (length x.upvalues - pays.at_end) + 12 * length x.locals

  measure : Measure held pays.pair 12
  unfolding c.set_u16 constants_length image.join
  measure =
      record {
        captures = λ x u l. omega (arith, length-append x.upvalues (u ∷ []), pays.captures (length x.upvalues) l);
        marks = λ x name. omega (arith, capture_length name x.locals);
        declares = λ x local. omega arith;
        defines = λ x. omega (arith, initialize_length x.locals);
        scopes = λ x depth. omega arith;
        patches = λ x at n. simp length-set (omega arith);
        fresh = λ name arity depth type. omega arith;
      }

  abbrev J : ℕ → ℕ → Compiler → Type 0
  J g k s = Spent (summed held) weigh_all most g k s

  abbrev Does : {A : Type 0} → (g h n : ℕ) → Compile A → Type 0
  Does g h n m = Spends J Any top g h n m

  infixl 10 ◌>>=◌
  ◌>>=◌ : {A B : Type 0} {g h i n n' : ℕ} {m : Compile A} {f : A → Compile B} → Does g h n m → ((a : A) → Does h i n' (f a)) →
      Does g i (n + n') (c.◌>>=◌ m f)
  hm >>= hf = spends.bind J Any top (more (summed held) weigh_all most) hm hf

  infixl 10 ◌>>◌
  ◌>>◌ : {A B : Type 0} {g h i n n' : ℕ} {m : Compile A} {p : Compile B} → Does g h n m → Does h i n' p → Does g i (n + n') (c.◌>>◌ m p)
  hm >> hp = spends.follow J Any top (more (summed held) weigh_all most) hm hp

  holds : Holds (summed held) 48 12 most
  holds = sum_holds held pays.pair 12 measure most 48 pays.few

  -- ## What writes

  emits : (s : Compiler) (b : ℕ) (span : Span) → After (λ _ t. t ≡ emitted s b span) (c.emit_u8 limit b span s)
  unfolding c.emit_u8 c.◌>>=◌ c.◌>>◌ go_on c.the c.need c.update_ctx
  emits s b span = by_test (ltb (c.open_code s) limit)
    where
      by_test : (t : Bool) →
          After (λ _ t. t ≡ emitted s b span) (go_on (c.need t CodeFull s) (λ _. c.update_ctx (λ x. c.with_chunk x (write_u8 x.chunk b span))))
      by_test true = refl
      by_test false = tt

  byte_weighs : (ch : Chunk) (b : ℕ) (span : Span) → weighs (write_u8 ch b span) ≤ weighs ch + 12
  unfolding write_u8
  byte_weighs ch b span = omega (arith, length-append ch.ops (b ∷ []), push_length ch.spans span)

  -- the current function's last run has this span
  abbrev Last : Span → Compiler → Type 0
  Last span s = LastIs span s.ctx.chunk.spans

  record Both (span : Span) (g k : ℕ) (s : Compiler) : Type 0 where
    spent : Spent (summed held) weigh_all most g k s
    last : Last span s

  emit_last : {g : ℕ} (k b : ℕ) (span : Span) → Triple (J g k) (c.emit_u8 limit b span) (λ _. Both span g (k + 12))
  unfolding write_u8
  emit_last {g} k b span = record { run = λ s i. by_outcome s i (c.emit_u8 limit b span s) (emits s b span) }
    where
      by_outcome : (s : Compiler) → J g k s → (o : Outcome (Unit {0})) → After (λ _ t. t ≡ emitted s b span) o → After (λ _. Both span g (k + 12)) o
      by_outcome s i (ok a t) e =
          subst⁻¹ (λ (t : Compiler). Both span g (k + 12) t) e
          (record {
            spent = record { levels = i.levels; spent = omega (arith, i.spent, byte_weighs s.ctx.chunk b span) };
            last = push_last s.ctx.chunk.spans span;
          })
      by_outcome s i (err x) e = tt

  -- a triple for each sum that was spent before is a step that spends
  from_triple : {A : Type 0} {g h n : ℕ} {m : Compile A} → ((k : ℕ) → Triple (J g k) m (λ _. J h (k + n))) → Does g h n m
  from_triple {A} {h = h} {n = n} {m = m} f = record { run = λ s k l i. by_outcome k (m s) ((f k).run s i) }
    where
      by_outcome : (k : ℕ) (o : Outcome A) → After (λ _. J h (k + n)) o → Ends J Any top h (k + n) o
      by_outcome k (ok a t) j = j
      by_outcome k (err x) j = tt

  emit_u8 : {g : ℕ} (b : ℕ) (span : Span) → Does g g 12 (c.emit_u8 limit b span)
  emit_u8 b span = from_triple (λ k. keeps.so (emit_last k b span) (λ _ s h. h.spent))

  Placed : Chunk → Written → Type 0
  Placed ch (at_place place ch') = weighs ch' ≤ weighs ch + 10
  Placed ch no_room = Unit {0}

  placed : (ch : Chunk) (v : Constant) → Placed ch (write_constant ch v)
  unfolding Placed write_constant written
  placed ch v = found (position (same_constant v) ch.constants)
    where
      added : (b : Bool) →
          Placed ch (if b then at_place (length ch.constants)
          (record { ops = ch.ops; constants = ch.constants ++ (v ∷ []); spans = ch.spans }) else no_room)
      added true = omega (arith, constants_more ch.constants v)
      added false = tt

      found : (p : Option ℕ) → Placed ch (written p ch v)
      found (some place) = omega arith
      found none = added (ltb (length ch.constants) 256)

  place_last : {g : ℕ} (s : Compiler) (k : ℕ) (w : Written) (span : Span) → J g k s → Placed s.ctx.chunk w →
      After (λ _. Both span g (k + 22)) (c.emit_place limit w span s)
  unfolding c.emit_place Placed c.◌>>◌ go_on c.update_ctx c.refuse
  place_last {g} s k (at_place place ch) span i e =
      widen (c.emit_u8 limit place span (c.with_ctx s (c.with_chunk s.ctx ch)))
      ((emit_last (k + 10) place span).run (c.with_ctx s (c.with_chunk s.ctx ch))
      (record { levels = i.levels; spent = omega (arith, i.spent) }))
    where
      widen : (o : Outcome (Unit {0})) → After (λ _. Both span g (k + 10 + 12)) o → After (λ _. Both span g (k + 22)) o
      widen (ok a t) h = record { spent = more (summed held) weigh_all most g (k + 10 + 12) (k + 22) t (omega arith) h.spent; last = h.last }
      widen (err x) h = tt
  place_last s k no_room span i e = tt

  constant_last : {g : ℕ} (k : ℕ) (v : Constant) (span : Span) → Triple (J g k) (c.emit_constant limit v span) (λ _. Both span g (k + 22))
  unfolding c.emit_constant c.◌>>=◌ go_on c.the
  constant_last k v span = record { run = λ s i. place_last s k (write_constant s.ctx.chunk v) span i (placed s.ctx.chunk v) }

  emit_constant : {g : ℕ} (v : Constant) (span : Span) → Does g g 22 (c.emit_constant limit v span)
  emit_constant v span = from_triple (λ k. keeps.so (constant_last k v span) (λ _ s h. h.spent))

  -- ## A closure's pairs, after bytes of the same span

  -- all that the pairs leave alone
  abbrev other : Compiler → ℕ
  other s = constants_length s.ctx.chunk.constants + 3 * (length s.ctx.upvalues - pays.at_end) + 12 * length s.ctx.locals
      + sum_of held s.parents + weigh_all s.functions

  -- `n` bytes of this span have been written since
  record Since (span : Span) (s : Compiler) (n : ℕ) (t : Compiler) : Type 0 where
    levels : length t.parents ≡ length s.parents
    others : other t ≡ other s
    ops : length t.ctx.chunk.ops ≡ length s.ctx.chunk.ops + n
    reach : used t.ctx.chunk.spans ≤ used s.ctx.chunk.spans + n
    last : Last span t

  since_byte : (span : Span) (s : Compiler) (n b : ℕ) → Triple (Since span s n) (c.emit_u8 limit b span) (λ _. Since span s (n + 1))
  unfolding write_u8
  since_byte span s n b = record { run = λ t i. by_outcome t i (c.emit_u8 limit b span t) (emits t b span) }
    where
      by_outcome : (t : Compiler) → Since span s n t → (o : Outcome (Unit {0})) → After (λ _ u. u ≡ emitted t b span) o →
          After (λ _. Since span s (n + 1)) o
      by_outcome t i (ok a u) e =
          subst⁻¹ (λ (u : Compiler). Since span s (n + 1) u) e
          (record {
            levels = i.levels;
            others = i.others;
            ops = omega (arith, i.ops, length-append t.ctx.chunk.ops (b ∷ []));
            reach = omega (arith, i.reach, push_used t.ctx.chunk.spans span i.last);
            last = push_last t.ctx.chunk.spans span;
          })
      by_outcome t i (err x) e = tt

  since_pairs : (span : Span) (s : Compiler) (us : List Upvalue) (n : ℕ) →
      Triple (Since span s n) (c.emit_upvalues limit us span) (λ _. Since span s (n + 2 * length us))
  unfolding c.emit_upvalues
  since_pairs span s [] n = keeps.so keeps.skip
      (λ _ t i. record { levels = i.levels; others = i.others; ops = omega (arith, i.ops); reach = omega (arith, i.reach); last = i.last })
  since_pairs span s (u ∷ us) n =
      keeps.so
      (keeps.◌>>◌ (since_byte span s n (if u.is_local then 1 else 0))
      (keeps.◌>>◌ (since_byte span s (n + 1) u.idx) (since_pairs span s us (n + 1 + 1))))
      (λ _ t i. record { levels = i.levels; others = i.others; ops = omega (arith, i.ops); reach = omega (arith, i.reach); last = i.last })

  -- three for each pair, and a run
  emit_upvalues : {g : ℕ} (k : ℕ) (us : List Upvalue) (span : Span) →
      Triple (Both span g k) (c.emit_upvalues limit us span) (λ _. J g (k + (11 + 3 * length us)))
  emit_upvalues {g} k us span =
      record {
        run =
            λ s i. by_outcome s i (c.emit_upvalues limit us span s)
            ((since_pairs span s us 0).run s (record { levels = refl; others = refl; ops = omega arith; reach = omega arith; last = i.last }));
      }
    where
      by_outcome : (s : Compiler) → Both span g k s → (o : Outcome (Unit {0})) → After (λ _. Since span s (0 + 2 * length us)) o →
          After (λ _. J g (k + (11 + 3 * length us))) o
      by_outcome s i (ok a t) h =
          record {
            levels = omega (arith, i.spent.levels, h.levels);
            spent =
                omega (
                  arith,
                  i.spent.spent,
                  h.others,
                  h.ops,
                  h.reach,
                  used_least t.ctx.chunk.spans,
                  used_most s.ctx.chunk.spans span i.last,
                );
          }
      by_outcome s i (err x) h = tt

  -- 45 beside the pairs: two bytes, a constant, and a run for the pairs
  emit_closure : {g : ℕ} (k number : ℕ) (us : List Upvalue) (span : Span) →
      Triple (J g k) (c.emit_closure limit number us span) (λ _. J g (k + 12 + 22 + (11 + 3 * length us)))
  unfolding c.emit_closure
  emit_closure k number us span =
      keeps.◌>>◌ (keeps.so (emit_last k op.CLOSURE span) (λ _ s h. h.spent))
      (keeps.◌>>◌ (constant_last (k + 12) (CF number) span) (emit_upvalues (k + 12 + 22) us span))

  -- ## Scopes and functions

  -- a byte for each local that goes
  pop_locals : {g : ℕ} (ls : List Local) (span : Span) (s : Compiler) (k : ℕ) → s.ctx.locals ≡ ls → J g k s →
      Ends J Any top g k (c.pop_locals limit ls span s)
  unfolding c.pop_locals c.◌>>=◌ c.◌>>◌ go_on c.the c.done c.return c.emit_op c.update_ctx
  pop_locals [] span s k e i = i
  pop_locals {g} (x ∷ xs) span s k e i = by_depth (ltb s.ctx.scope_depth x.depth) (λ t e h. pop_locals xs span t k e h)
    where
      b : ℕ
      b = if x.is_captured then op.CLOSE_UPVALUE else op.POP

      popped : Compiler
      popped = c.with_ctx s (c.with_locals (emitted s b span).ctx xs)

      fits : J g k popped
      fits = record { levels = i.levels; spent = omega (arith, i.spent, byte_weighs s.ctx.chunk b span, ap length e) }

      rest : Compile (Unit {0})
      rest = c.◌>>◌ (c.update_ctx (λ y. c.with_locals y xs)) (c.pop_locals limit xs span)

      by_outcome : ((t : Compiler) → t.ctx.locals ≡ xs → J g k t → Ends J Any top g k (c.pop_locals limit xs span t)) → (o : Outcome (Unit {0})) →
          After (λ _ t. t ≡ emitted s b span) o → Ends J Any top g k (go_on o (λ _. rest))
      by_outcome ih (ok a t) e = subst⁻¹ (λ (t : Compiler). Ends J Any top g k (rest t)) e (ih popped refl fits)
      by_outcome ih (err x) e = tt

      by_depth : (d : Bool) → ((t : Compiler) → t.ctx.locals ≡ xs → J g k t → Ends J Any top g k (c.pop_locals limit xs span t)) →
          Ends J Any top g k ((if d then c.◌>>◌ (c.emit_op limit b span) rest else c.done) s)
      by_depth true ih = by_outcome ih (c.emit_u8 limit b span s) (emits s b span)
      by_depth false ih = i

  end_scope : {g : ℕ} (span : Span) → Does g g 0 (c.end_scope limit span)
  unfolding c.end_scope c.◌>>=◌ c.◌>>◌ go_on c.the c.update_ctx
  end_scope {g} span = record { run = λ s k l i. ended s k i }
    where
      lower : CompilerCtx → CompilerCtx
      lower x = c.with_scope_depth x (x.scope_depth - 1)

      ended : (s : Compiler) (k : ℕ) → J g k s → Ends J Any top g (k + 0) (c.pop_locals limit s.ctx.locals span (c.with_ctx s (lower s.ctx)))
      ended s k i =
          spends.ends_more J Any top (more (summed held) weigh_all most) g k (k + 0)
          (c.pop_locals limit s.ctx.locals span (c.with_ctx s (lower s.ctx))) (omega arith)
          (pop_locals s.ctx.locals span (c.with_ctx s (lower s.ctx)) k refl (record { levels = i.levels; spent = i.spent }))

  -- what a closure leaves, where so much is left for it
  closes : {g : ℕ} (k k' number : ℕ) (us : List Upvalue) (span : Span) (t : Compiler) → k + (45 + 3 * length us) ≤ k' → J g k t →
      Ends J Any top g k' (c.emit_closure limit number us span t)
  closes {g} k k' number us span t l i = by_outcome (c.emit_closure limit number us span t) ((emit_closure k number us span).run t i)
    where
      by_outcome : (o : Outcome (Unit {0})) → After (λ _. J g (k + 12 + 22 + (11 + 3 * length us))) o → Ends J Any top g k' o
      by_outcome (ok a u) h = more (summed held) weigh_all most g (k + 12 + 22 + (11 + 3 * length us)) k' u (omega arith) h
      by_outcome (err x) h = tt

  back_to : {h : ℕ} (g : ℕ) (s : Compiler) (k : ℕ) (ps : List CompilerCtx) (span : Span) → s.parents ≡ ps → g ≡ suc h → g ≤ most → J h k s →
      Ends J Any top g (k + (68 + 3 * pays.at_end)) (go_on (c.back_to ps s) (λ (r : ℕ × List Upvalue). c.emit_closure limit r.0 r.1 span))
  unfolding c.back_to c.finish go_on
  back_to g s k [] span e up b i =
      closes k (k + (68 + 3 * pays.at_end)) 0 [] span s (omega arith) (record { levels = omega (arith, ap length e); spent = i.spent })
  back_to g s k (p ∷ ps) span e up b i =
      closes (spent (summed held) weigh_all t) (k + (68 + 3 * pays.at_end)) (length s.functions) us span t
      (omega (arith, i.spent, ap (sum_of held) e, weigh_end s.functions (c.finish s.ctx)))
      (record { levels = omega (arith, i.levels, ap length e); spent = omega arith })
    where
      us : List Upvalue
      us = s.ctx.upvalues

      t : Compiler
      t = record { ctx = p; parents = ps; class_ctx = s.class_ctx; functions = s.functions ++ (c.finish s.ctx ∷ []) }

  end_function : {g h : ℕ} (span : Span) → (g ≡ suc h) × (g ≤ most) → Does h g (68 + 3 * pays.at_end) (c.end_function limit span)
  unfolding c.end_function c.end_ctx c.◌>>=◌ go_on c.the
  end_function {g} span up = record { run = λ s k l i. back_to g s k s.parents span refl up.0 up.1 i }

  -- what a step costs here, against what `Steps` has for it
  scaled : {A : Type 0} {g h n : ℕ} {m : Compile A} (w : ℕ) → n ≤ w * pays.rate → Does g h n m → Does g h (w * pays.rate) m
  scaled w l hm = spends.enough J Any top (more (summed held) weigh_all most) hm l

  laws : Laws (fitting most) (λ A g h n w m. Does {A = A} g h (w * pays.rate) (m limit))
  unfolding c.define_local c.begin_scope c.push_class_ctx c.pop_class_ctx
  laws =
      record {
        no_span = record { start = omega arith; end = omega arith };
        this_named = omega arith;
        super_named = omega arith;
        ◌>>=◌ = λ {w} {v} hm hf. rw (add-mul w v pays.rate) (hm >>= hf);
        ◌>>◌ = λ {w} {v} hm hp. rw (add-mul w v pays.rate) (hm >> hp);
        enough = λ hm b b'. spends.enough J Any top (more (summed held) weigh_all most) hm (mul-le-mul_right pays.rate b');
        needs = λ b r o f. spends.needs J Any top (more (summed held) weigh_all most) b r tt f;
        return = λ a. scaled 0 (omega arith) (spends.return J Any top (more (summed held) weigh_all most) a);
        the = λ f. scaled 0 (omega arith) (spends.the J Any top (more (summed held) weigh_all most) f);
        need = λ b r o. scaled 0 (omega arith) (spends.need J Any top (more (summed held) weigh_all most) b r tt);
        refuse = λ r o. scaled 0 (omega arith) (spends.refuse J Any top (more (summed held) weigh_all most) r tt);
        resolve = λ name span. scaled 48 (omega (arith, pays.some))
            (open-ones.resolve (summed held) weigh_all 48 12 most holds Any (λ r o. tt) top name span);
        patch_jump = λ at span. scaled 0 (omega arith)
            (open-ones.patch_jump (summed held) weigh_all 48 12 most holds Any (λ r o. tt) top at span);
        declare_local = λ name span. scaled 12 (omega (arith, pays.some))
            (open-ones.declare_local (summed held) weigh_all 48 12 most holds Any (λ r o. tt) top name span);
        define_local = scaled 0 (omega arith) (open-ones.define_local (summed held) weigh_all 48 12 most holds Any (λ r o. tt) top);
        begin_scope = scaled 0 (omega arith) (open-ones.begin_scope (summed held) weigh_all 48 12 most holds Any (λ r o. tt) top);
        push_class_ctx = λ b. scaled 0 (omega arith) (open-ones.push_class_ctx (summed held) weigh_all 48 12 most holds Any (λ r o. tt) top b);
        pop_class_ctx = scaled 0 (omega arith) (open-ones.pop_class_ctx (summed held) weigh_all 48 12 most holds Any (λ r o. tt) top);
        begin_ctx = λ name arity depth type inner up n a. scaled 0 (omega arith)
            (open-ones.begin_ctx (summed held) weigh_all 48 12 most holds Any (λ r o. tt) top name arity depth type up.0);
        emit_u8 = λ b span n. scaled 12 (omega (arith, pays.some)) (emit_u8 b span);
        emit_constant = λ v span o n. scaled 22 (omega (arith, pays.some)) (emit_constant v span);
        end_scope = λ span n. scaled 0 (omega arith) (end_scope span);
        end_function = λ span up n. scaled 68 pays.ends (end_function span up);
      }

-- ## Every image

image_most : (limit most : ℕ) (pays : Pays most) (stmts : Stmts) (directory : Bool) (bound : ℕ) → OfStmts (fitting most) stmts most →
    (17 * stmts_size stmts + 24) * pays.rate + 35 ≤ bound →
    After (λ fs _. length (image_with directory fs) ≤ bound) (c.compile_functions limit stmts)
unfolding c.compile_functions c.◌>>◌ c.the c.finish go_on constants_length image.join
image_most limit most pays stmts directory bound o l = by_outcome (c.compile_script limit stmts c.new) compiled
  where
    top : ℕ
    top = (17 * stmts_size stmts + 24) * pays.rate

    compiled : Ends (J limit most top pays) Any top most (0 + top) (c.compile_script limit stmts c.new)
    compiled =
        (steps.compile_script (fitting most) (λ A g h n w m. Does limit most top pays {A = A} g h (w * pays.rate) (m limit))
        (laws limit most top pays) stmts most o).run c.new 0 (omega arith)
        (record { levels = omega arith; spent = omega arith })

    by_outcome : (r : Outcome (Unit {0})) → Ends (J limit most top pays) Any top most (0 + top) r →
        After (λ fs _. length (image_with directory fs) ≤ bound) (go_on r (λ _. c.the (λ (s : Compiler). s.functions ++ (c.finish s.ctx ∷ []))))
    by_outcome (ok a s) i =
        omega (
          arith,
          i.spent,
          weigh_end s.functions (c.finish s.ctx),
          with_length directory (s.functions ++ (c.finish s.ctx ∷ [])),
        )
    by_outcome (err x) i = tt

thrice : (n : ℕ) → times 3 n ≡ 3 * n
thrice zero = refl
thrice (suc n) = omega (arith, thrice n)

-- where at most 16 functions stand in one another
pub image_at_most : (limit most : ℕ) (stmts : Stmts) (directory : Bool) → most ≤ 16 → OfStmts (fitting most) stmts most →
    After (λ fs _. length (image_with directory fs) ≤ 17 * stmts_size stmts + 59) (c.compile_functions limit stmts)
image_at_most limit most stmts directory nested o =
    image_most limit most where_captured stmts directory (17 * stmts_size stmts + 59) o (omega arith)
  where
    where_captured : Pays most
    where_captured =
        record {
          at_end = 0;
          pair = 3;
          rate = 1;
          captures = λ n l. omega arith;
          few = λ n l. omega (arith, thrice n);
          some = omega arith;
          ends = omega arith;
        }

nothing : (n : ℕ) → times 0 n ≡ 0
nothing zero = refl
nothing (suc n) = omega (arith, nothing n)

-- however many do: enough for every offset of a directory to fit its field
pub image_in_all : (limit most : ℕ) (stmts : Stmts) (directory : Bool) → OfStmts (fitting most) stmts most →
    After (λ fs _. length (image_with directory fs) ≤ 221 * stmts_size stmts + 347) (c.compile_functions limit stmts)
image_in_all limit most stmts directory o =
    image_most limit most where_ended stmts directory (221 * stmts_size stmts + 347) o (omega arith)
  where
    where_ended : Pays most
    where_ended =
        record {
          at_end = 256;
          pair = 0;
          rate = 13;
          captures = λ n l. omega arith;
          few = λ n l. omega (arith, nothing n);
          some = omega arith;
          ends = omega arith;
        }
