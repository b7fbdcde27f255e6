-- What the compiler puts into an image from a tree file's bytes fits the image's fields: names, spans and numbers are the tree's own, a function has
-- at most 255 parameters, and there are no more functions than the tree has room for.
use mathlib.Core.Path.{◌≡◌, subst}
use mathlib.Core.Bool.{Bool, true, false, ◌&&◌}
use mathlib.Core.Option.{Option, none, some}
use mathlib.Core.List.{List, ◌∷◌, ◌++◌, []}
use Prim.Native.Nat.{ℕ, ◌+◌, ◌≤◌, ◌<◌}
use native.Mathlib.Omega.{arith}
use lib.ListN.{length, length-append}
use lib.Dec.{ltb}
use Rattle.rules.specs.Base.{position}
use Rattle.std.specs.Prelude.{if◌then◌else◌}
use Rattle.rules.specs.Limits.{max_bits}
use Rattle.rules.specs.declared.Span.{Span}
use Rattle.rules.specs.declared.Refusal.TheVariants.{TooManyUpvalues}
use Rattle.rules.specs.declared.Stopped.{Stopped}
use Rattle.rules.specs.Tree.{Stmts}
use Rattle.rules.specs.Chunk.{Chunk, Constant, CN, CS, CF, Run, push_span, same_span, write_u8, Written, at_place, no_room, write_constant, written, same_constant, ObjectFunction}
use Rattle.rules.specs.Compiler as c
use Rattle.rules.specs.Compiler.{Compiler, CompilerCtx, Compile, Outcome, ok, err, go_on, Found, at_slot, uninitialized, no_local, Resolved, captured, nowhere, failed, Upvalue, Local, FunctionType}
use Rattle.rules_laws.proofs.Keeps.{After}
use Rattle.rules_laws.proofs.Facts.{All, all_end}
use Rattle.rules_laws.proofs.ReadBack.{Narrow}
use Rattle.rules_laws.proofs.Trees.{OfStmts, stmts_size}
use Rattle.rules_laws.proofs.Steps as steps
use Rattle.rules_laws.proofs.Steps.{Laws}
use Rattle.rules_laws.proofs.Refusals.{Compilers, rusts_compilers}
use Rattle.rules_laws.proofs.Spends as spends
use Rattle.rules_laws.proofs.Spends.{Spends, Ends}
use Rattle.rules_laws.proofs.TreeBytes.{fitting}

-- ## One function

-- of a function's number nothing is said here
abbrev pub SmallConstant : Constant → Type 0
SmallConstant (CN bits) = bits ≤ max_bits
SmallConstant (CS name) = name < 65_536
SmallConstant (CF number) = Unit {0}

abbrev pub SmallRun : Run → Type 0
SmallRun run = Narrow run.span

pub record Wide (name arity : ℕ) (ch : Chunk) : Type 0 where
  pub named : name < 65_536
  pub few : arity ≤ 255
  pub constants : All SmallConstant ch.constants
  pub runs : All SmallRun ch.spans

push_runs : (runs : List Run) (span : Span) → Narrow span → All SmallRun runs → All SmallRun (push_span runs span)
unfolding push_span
push_runs [] span n h = (n, tt)
push_runs (run ∷ []) span n h = by_test (same_span run.span span && ltb run.count 255)
  where
    by_test : (b : Bool) →
        All SmallRun (if b then (record { span = run.span; count = run.count + 1 } ∷ []) else (run ∷ record { span = span; count = 1 } ∷ []))
    by_test true = (h.0, tt)
    by_test false = (h.0, (n, tt))
push_runs (run ∷ next ∷ runs) span n h = (h.0, push_runs (next ∷ runs) span n h.1)

abbrev WideCtx : CompilerCtx → Type 0
WideCtx x = Wide x.name x.arity x.chunk

abbrev pub WideFunction : ObjectFunction → Type 0
WideFunction f = Wide f.name f.arity f.chunk

write : (name arity : ℕ) (ch : Chunk) (b : ℕ) (span : Span) → Narrow span → Wide name arity ch → Wide name arity (write_u8 ch b span)
unfolding write_u8
write name arity ch b span n h = record { named = h.named; few = h.few; constants = h.constants; runs = push_runs ch.spans span n h.runs }

-- ## The state

record Fit (g k : ℕ) (s : Compiler) : Type 0 where
  ctx : WideCtx s.ctx
  parents : All WideCtx s.parents
  functions : All WideFunction s.functions
  -- each function that is finished has been paid for
  count : length s.functions ≤ k

more : (g k k' : ℕ) (s : Compiler) → k ≤ k' → Fit g k s → Fit g k' s
more g k k' s l i = record { ctx = i.ctx; parents = i.parents; functions = i.functions; count = omega arith }

module _ (limit top : ℕ) where
  abbrev Does : {A : Type 0} → (g h n : ℕ) → Compile A → Type 0
  Does g h n m = Spends Fit Compilers top g h n m

  infixl 10 ◌>>=◌
  ◌>>=◌ : {A B : Type 0} {g h i n n' : ℕ} {m : Compile A} {f : A → Compile B} → Does g h n m → ((a : A) → Does h i n' (f a)) →
      Does g i (n + n') (c.◌>>=◌ m f)
  hm >>= hf = spends.bind Fit Compilers top more hm hf

  infixl 10 ◌>>◌
  ◌>>◌ : {A B : Type 0} {g h i n n' : ℕ} {m : Compile A} {p : Compile B} → Does g h n m → Does h i n' p → Does g i (n + n') (c.◌>>◌ m p)
  hm >> hp = spends.follow Fit Compilers top more hm hp

  -- a step that writes may cost something; here only a finished function does
  costs : {A : Type 0} {g h : ℕ} {m : Compile A} (n : ℕ) → Does g h 0 m → Does g h n m
  costs n h = spends.enough Fit Compilers top more h (omega arith)

  -- a change of the current context that leaves it wide
  update : {g : ℕ} (f : CompilerCtx → CompilerCtx) → ((x : CompilerCtx) → WideCtx x → WideCtx (f x)) → Does g g 0 (c.update_ctx f)
  unfolding c.update_ctx
  update f h = spends.free Fit Compilers top more
      (λ s k i. record { ctx = h s.ctx i.ctx; parents = i.parents; functions = i.functions; count = i.count })

  emit_u8 : {g : ℕ} (b : ℕ) (span : Span) → Narrow span → Does g g 0 (c.emit_u8 limit b span)
  unfolding c.emit_u8
  emit_u8 b span n = do
    used ← spends.the Fit Compilers top more _
    spends.need Fit Compilers top more _ _ tt
    update _ (λ x h. write x.name x.arity x.chunk b span n h)

  -- what is written for a constant keeps the chunk wide
  Placed : ℕ → ℕ → Written → Type 0
  Placed name arity (at_place place ch) = Wide name arity ch
  Placed name arity no_room = Unit {0}

  placed : (name arity : ℕ) (ch : Chunk) (v : Constant) → SmallConstant v → Wide name arity ch → Placed name arity (write_constant ch v)
  unfolding Placed write_constant written
  placed name arity ch v o h = found (position (same_constant v) ch.constants)
    where
      added : (b : Bool) →
          Placed name arity (if b then at_place (length ch.constants)
          (record { ops = ch.ops; constants = ch.constants ++ (v ∷ []); spans = ch.spans }) else no_room)
      added true = record { named = h.named; few = h.few; constants = all_end SmallConstant ch.constants v h.constants o; runs = h.runs }
      added false = tt

      found : (p : Option ℕ) → Placed name arity (written p ch v)
      found (some place) = h
      found none = added (ltb (length ch.constants) 256)

  emit_place : {g : ℕ} (s : Compiler) (k : ℕ) (w : Written) (span : Span) → Narrow span → Fit g k s → k + 0 ≤ top →
      Placed s.ctx.name s.ctx.arity w →
      Ends Fit Compilers top g (k + 0) (c.emit_place limit w span s)
  unfolding c.emit_place Placed c.◌>>◌ go_on c.update_ctx c.refuse
  emit_place s k (at_place place ch) span n i l h =
      (emit_u8 place span n).run (c.with_ctx s (c.with_chunk s.ctx ch)) k l
      (record { ctx = h; parents = i.parents; functions = i.functions; count = i.count })
  emit_place s k no_room span n i l h = tt

  emit_constant : {g : ℕ} (v : Constant) (span : Span) → SmallConstant v → Narrow span → Does g g 0 (c.emit_constant limit v span)
  unfolding c.emit_constant c.◌>>=◌ go_on c.the
  emit_constant v span o n =
      record {
        run =
            λ s k l i. emit_place s k (write_constant s.ctx.chunk v) span n i l
            (placed s.ctx.name s.ctx.arity s.ctx.chunk v o i.ctx);
      }

  -- ## Scopes and names

  pop_locals : {g : ℕ} (ls : List Local) (span : Span) → Narrow span → Does g g 0 (c.pop_locals limit ls span)
  unfolding c.pop_locals c.emit_op
  pop_locals [] span n = spends.done Fit Compilers top more
  pop_locals (x ∷ xs) span n = do
    depth ← spends.the Fit Compilers top more _
    spends.either Fit Compilers top more (ltb depth x.depth)
        (do
          emit_u8 _ _ n
          update _ (λ x h. h)
          pop_locals xs span n)
        (spends.done Fit Compilers top more)

  end_scope : {g : ℕ} (span : Span) → Narrow span → Does g g 0 (c.end_scope limit span)
  unfolding c.end_scope
  end_scope span n = do
    update _ (λ x h. h)
    locals ← spends.the Fit Compilers top more _
    pop_locals locals span n

  declare_local : {g : ℕ} (name : ℕ) (span : Span) → Does g g 0 (c.declare_local name span)
  unfolding c.declare_local
  declare_local name span = do
    ctx ← spends.the Fit Compilers top more _
    spends.need Fit Compilers top more _ _ tt
    spends.need Fit Compilers top more _ _ tt
    update _ (λ x h. h)

  -- captured variables change neither name nor chunk
  abbrev WideIf : Resolved → Type 0
  WideIf (captured idx ctx parents) = WideCtx ctx × All WideCtx parents
  WideIf nowhere = Unit {0}
  WideIf (failed r) = Compilers r

  added : (p : Option ℕ) (u : Upvalue) (span : Span) (ctx : CompilerCtx) (parents : List CompilerCtx) → WideCtx ctx → All WideCtx parents →
      WideIf (c.added p u span ctx parents)
  unfolding c.added
  added (some place) u span ctx parents h hs = (h, hs)
  added none u span ctx parents h hs = room (ltb (length ctx.upvalues) 256)
    where
      room : (b : Bool) → WideIf
          (if b then captured (length ctx.upvalues) (c.with_upvalues ctx (ctx.upvalues ++ (u ∷ []))) parents else failed (TooManyUpvalues span))
      room true = (h, hs)
      room false = tt

  through : (f : Found) (outer : Resolved) (name : ℕ) (span : Span) (ctx parent : CompilerCtx) (above : List CompilerCtx) → WideCtx ctx →
      WideCtx parent → All WideCtx above → WideIf outer →
      WideIf (c.through f outer name span ctx parent above)
  unfolding c.through c.further_out c.add_upvalue
  through (at_slot slot) outer name span ctx parent above h p ps o =
      added _ (record { idx = slot; is_local = true }) span ctx (c.with_locals parent (c.capture name parent.locals) ∷ above) h (p, ps)
  through uninitialized outer name span ctx parent above h p ps o = tt
  through no_local (captured idx q qs) name span ctx parent above h p ps o = added _ (record { idx = idx; is_local = false }) span ctx (q ∷ qs) h o
  through no_local nowhere name span ctx parent above h p ps o = tt
  through no_local (failed r) name span ctx parent above h p ps o = o

  resolve_upvalue : (name : ℕ) (span : Span) (ctx : CompilerCtx) (parents : List CompilerCtx) → WideCtx ctx → All WideCtx parents →
      WideIf (c.resolve_upvalue name span ctx parents)
  unfolding c.resolve_upvalue
  resolve_upvalue name span ctx [] h hs = tt
  resolve_upvalue name span ctx (p ∷ ps) h hs =
      through (c.find_local name p.locals) (c.resolve_upvalue name span p ps) name span ctx p ps h hs.0 hs.1
      (resolve_upvalue name span p ps hs.0 hs.1)

  resolved : {g : ℕ} (f : Found) (outer : Resolved) (name : ℕ) (span : Span) (s : Compiler) (k : ℕ) → Fit g k s → WideIf outer →
      Ends Fit Compilers top g k (c.resolved f outer name span s)
  unfolding c.resolved c.◌>>◌ go_on c.put_ctxs c.return c.refuse
  resolved (at_slot slot) outer name span s k i o = i
  resolved uninitialized outer name span s k i o = tt
  resolved no_local (captured idx ctx parents) name span s k i o = record { ctx = o.0; parents = o.1; functions = i.functions; count = i.count }
  resolved no_local nowhere name span s k i o = i
  resolved no_local (failed r) name span s k i o = o

  resolve : {g : ℕ} (name : ℕ) (span : Span) → Does g g 0 (c.resolve name span)
  unfolding c.resolve c.◌>>=◌ go_on c.get
  resolve name span =
      spends.free Fit Compilers top more
      (λ s k i. resolved (c.find_local name s.ctx.locals) (c.resolve_upvalue name span s.ctx s.parents) name span s k i
      (resolve_upvalue name span s.ctx s.parents i.ctx i.parents))

  -- ## Functions

  begin_ctx : {g h : ℕ} (name arity depth : ℕ) (type : FunctionType) → name < 65_536 → arity ≤ 255 →
      Does g h 0 (c.begin_ctx (c.new_ctx name arity type depth))
  unfolding c.begin_ctx
  begin_ctx name arity depth type n a =
      spends.free Fit Compilers top more
      (λ s k i. record {
        ctx = record { named = n; few = a; constants = tt; runs = tt };
        parents = (i.ctx, i.parents);
        functions = i.functions;
        count = i.count;
      })

  back_to : {g : ℕ} (h : ℕ) (s : Compiler) (k : ℕ) (ps : List CompilerCtx) → Fit g k s → All WideCtx ps →
      Ends Fit Compilers top h (k + 1) (c.back_to ps s)
  unfolding c.back_to c.finish
  back_to h s k [] i hs = record { ctx = i.ctx; parents = i.parents; functions = i.functions; count = omega (arith, i.count) }
  back_to h s k (p ∷ ps) i hs =
      record {
        ctx = hs.0;
        parents = hs.1;
        functions = all_end WideFunction s.functions (c.finish s.ctx) i.functions i.ctx;
        count = omega (arith, i.count, length-append s.functions (c.finish s.ctx ∷ []));
      }

  end_ctx : {g h : ℕ} → Does g h 1 c.end_ctx
  unfolding c.end_ctx c.◌>>=◌ go_on c.the
  end_ctx {h = h} = record { run = λ s k l i. back_to h s k s.parents i i.parents }

  emit_upvalues : {g : ℕ} (us : List Upvalue) (span : Span) → Narrow span → Does g g 0 (c.emit_upvalues limit us span)
  unfolding c.emit_upvalues
  emit_upvalues [] span n = spends.done Fit Compilers top more
  emit_upvalues (u ∷ us) span n = do
    emit_u8 _ _ n
    emit_u8 _ _ n
    emit_upvalues us span n

  emit_closure : {g : ℕ} (number : ℕ) (us : List Upvalue) (span : Span) → Narrow span → Does g g 0 (c.emit_closure limit number us span)
  unfolding c.emit_closure
  emit_closure number us span n = do
    emit_u8 _ _ n
    emit_constant (CF number) _ tt n
    emit_upvalues us _ n

  end_function : {g h : ℕ} (span : Span) → Narrow span → Does h g 1 (c.end_function limit span)
  unfolding c.end_function
  end_function span n = do
    (number, upvalues) ← end_ctx
    emit_closure number upvalues span n

  constant_small : (most : ℕ) (v : Constant) → steps.OfConstant (fitting most) v → SmallConstant v
  constant_small most (CN bits) o = o
  constant_small most (CS name) o = o
  constant_small most (CF number) o = tt

  patch_jump : {g : ℕ} (at : ℕ) (span : Span) → Does g g 0 (c.patch_jump at span)
  unfolding c.patch_jump c.code_length
  patch_jump at span = do
    size ← spends.the Fit Compilers top more _
    spends.need Fit Compilers top more _ _ tt
    update _ (λ x h. record { named = h.named; few = h.few; constants = h.constants; runs = h.runs })

  laws : (most : ℕ) → Laws (fitting most) (λ A g h n w m. Does {A = A} g h n (m limit))
  unfolding c.define_local c.begin_scope c.push_class_ctx c.pop_class_ctx
  laws most =
      record {
        no_span = record { start = omega arith; end = omega arith };
        this_named = omega arith;
        super_named = omega arith;
        ◌>>=◌ = λ hm hf. hm >>= hf;
        ◌>>◌ = λ hm hp. hm >> hp;
        enough = λ hm b b'. spends.enough Fit Compilers top more hm b;
        needs = λ b r o f. spends.needs Fit Compilers top more b r (rusts_compilers r o) f;
        return = λ a. spends.return Fit Compilers top more a;
        the = λ f. spends.the Fit Compilers top more f;
        need = λ b r o. spends.need Fit Compilers top more b r (rusts_compilers r o);
        refuse = λ r o. spends.refuse Fit Compilers top more r (rusts_compilers r o);
        resolve = λ name span. costs 2 (resolve name span);
        patch_jump = λ at span. patch_jump at span;
        declare_local = λ name span. costs 1 (declare_local name span);
        define_local = update _ (λ x h. h);
        begin_scope = update _ (λ x h. h);
        push_class_ctx = λ b. spends.free Fit Compilers top more
            (λ s k i. record { ctx = i.ctx; parents = i.parents; functions = i.functions; count = i.count });
        pop_class_ctx =
            spends.free Fit Compilers top more (λ s k i. record { ctx = i.ctx; parents = i.parents; functions = i.functions; count = i.count });
        begin_ctx = λ name arity depth type inner up n a. begin_ctx name arity depth type n a;
        emit_u8 = λ b span n. costs 1 (emit_u8 b span n);
        emit_constant = λ v span o n. costs 1 (emit_constant v span (constant_small most v o) n);
        end_scope = λ span n. end_scope span n;
        end_function = λ span up n. spends.enough Fit Compilers top more (end_function span n) (omega arith);
      }

-- ## Every function of the image

pub record Widths (size : ℕ) (fs : List ObjectFunction) : Type 0 where
  pub each : All WideFunction fs
  pub some : 0 < length fs
  pub count : length fs ≤ size + 3

module _ (limit funs : ℕ) (stmts : Stmts) (o : OfStmts (fitting funs) stmts funs) where
  top : ℕ
  top = stmts_size stmts + 2

  compiled : Ends Fit Compilers top funs (0 + top) (c.compile_script limit stmts c.new)
  unfolding top
  compiled =
      (steps.compile_script (fitting funs) (λ A g h n w m. Does limit top {A = A} g h n (m limit))
      (laws limit top funs) stmts funs o).run c.new 0 (omega arith)
      (record {
        ctx =
            record { named = omega arith; few = omega arith; constants = tt; runs = tt };
        parents = tt;
        functions = tt;
        count = omega arith;
      })

  pub widths : After (λ fs _. Widths (stmts_size stmts) fs) (c.compile_functions limit stmts)
  unfolding c.compile_functions c.◌>>◌ c.the c.finish go_on top
  widths = by_outcome (c.compile_script limit stmts c.new) compiled
    where
      by_outcome : (r : Outcome (Unit {0})) → Ends Fit Compilers top funs (0 + top) r →
          After (λ fs _. Widths (stmts_size stmts) fs) (go_on r (λ _. c.the (λ (s : Compiler). s.functions ++ (c.finish s.ctx ∷ []))))
      by_outcome (ok a s) i =
          record {
            each = all_end WideFunction s.functions (c.finish s.ctx) i.functions i.ctx;
            some = omega (arith, length-append s.functions (c.finish s.ctx ∷ []));
            count = omega (arith, i.count, length-append s.functions (c.finish s.ctx ∷ []));
          }
      by_outcome (err x) i = tt

  -- and what it refuses by is 10 to 23 or 30
  pub refuses : (x : Stopped) → c.compile_functions limit stmts ≡ err x → Compilers x.what
  unfolding c.compile_functions c.◌>>◌ c.the go_on
  refuses x e = by_outcome (c.compile_script limit stmts c.new) compiled e
    where
      by_outcome : (o : Outcome (Unit {0})) → Ends Fit Compilers top funs (0 + top) o →
          go_on o (λ _. c.the (λ (s : Compiler). s.functions ++ (c.finish s.ctx ∷ []))) ≡ err x → Compilers x.what
      by_outcome (ok a s) i e = let z : ◌≡◌ {A = ℕ} 0 1 = cc in absurd (omega arith)
      by_outcome (err y) i e = let z : y ≡ x = cc in subst (λ (x : Stopped). Compilers x.what) z i
