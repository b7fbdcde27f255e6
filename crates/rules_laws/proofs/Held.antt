-- What the open functions hold, by whatever measure, and what the steps that write nothing add to it: a local is paid for with what its pop will cost,
-- and a captured variable with what its pairs will. `Measure` is the case of a sum over the open functions: the variable may be new in each of them
-- but the script.
use mathlib.Core.Path.{◌≡◌, refl, ap}
use mathlib.Core.Bool.{Bool, true, false}
use mathlib.Core.Option.{Option, none, some}
use mathlib.Core.List.{List, ◌∷◌, ◌++◌, []}
use Prim.Native.Nat.{ℕ, zero, suc, ◌+◌, ◌-◌, ◌≤◌, ◌<◌}
use native.Mathlib.Omega.{arith}
use lib.ListN.{length}
use lib.Dec.{ltb, ltb→lt}
use Rattle.std.specs.Prelude.{if◌then◌else◌}
use Rattle.rules.specs.declared.Span.{Span}
use Rattle.rules.specs.declared.Refusal.{Refusal}
use Rattle.rules.specs.declared.Refusal.TheVariants.{TooManyUpvalues}
use Rattle.rules.specs.Chunk.{ObjectFunction}
use Rattle.rules.specs.Compiler as c
use Rattle.rules.specs.Compiler.{Compiler, CompilerCtx, Compile, go_on, Found, at_slot, uninitialized, no_local, Resolved, captured, nowhere, failed, Upvalue, Local, FunctionType}
use Rattle.rules_laws.proofs.Facts.{with_ops}
use Rattle.rules_laws.proofs.Refusals.{Rusts}
use Rattle.rules_laws.proofs.Spends as spends
use Rattle.rules_laws.proofs.Spends.{Spends, Ends}

-- ## What is asked of a measure of the open functions, the innermost and those around it

module _ (total : CompilerCtx → List CompilerCtx → ℕ) (cost : ℕ) where
  -- the contexts after a name was looked up, against those before
  pub record Grown (ctx : CompilerCtx) (parents : List CompilerCtx) (ctx' : CompilerCtx) (parents' : List CompilerCtx) : Type 0 where
    pub levels : length parents' ≡ length parents
    pub holds : total ctx' parents' ≤ total ctx parents + cost

  abbrev pub GrownIf : CompilerCtx → List CompilerCtx → Resolved → Type 0
  GrownIf ctx parents (captured idx ctx' parents') = Grown ctx parents ctx' parents'
  GrownIf ctx parents nowhere = Unit {0}
  GrownIf ctx parents (failed r) = Rusts r

  -- a local raises it by `one`, a name that is looked up by `cost`, and nothing else but what is written
  pub record Holds (one most : ℕ) : Type 0 where
    pub declares : (x : CompilerCtx) (ps : List CompilerCtx) (local : Local) → total (c.with_locals x (local ∷ x.locals)) ps ≤ total x ps + one
    pub defines : (x : CompilerCtx) (ps : List CompilerCtx) → total (c.with_locals x (c.initialize x.locals)) ps ≤ total x ps
    pub scopes : (x : CompilerCtx) (ps : List CompilerCtx) (depth : ℕ) → total (c.with_scope_depth x depth) ps ≤ total x ps
    pub patches : (x : CompilerCtx) (ps : List CompilerCtx) (at n : ℕ) →
        total (c.with_chunk x (with_ops x.chunk (c.set_u16 x.chunk.ops at n))) ps ≤ total x ps
    pub fresh : (x : CompilerCtx) (ps : List CompilerCtx) (name arity depth : ℕ) (type : FunctionType) →
        total (c.new_ctx name arity type depth) (x ∷ ps) ≤ total x ps
    pub resolves : (name : ℕ) (span : Span) (ctx : CompilerCtx) (parents : List CompilerCtx) → length parents ≤ most →
        GrownIf ctx parents (c.resolve_upvalue name span ctx parents)

-- ## A sum over the open functions

abbrev pub sum_of : (CompilerCtx → ℕ) → List CompilerCtx → ℕ
sum_of held [] = 0
sum_of held (x ∷ xs) = held x + sum_of held xs

abbrev pub summed : (CompilerCtx → ℕ) → CompilerCtx → List CompilerCtx → ℕ
summed held x ps = held x + sum_of held ps

-- so many times the same
abbrev pub times : ℕ → ℕ → ℕ
times pair zero = 0
times pair (suc n) = pair + times pair n

module _ (held : CompilerCtx → ℕ) (pair : ℕ) where
  -- a measure that a captured variable, of which a function has at most 256, raises by `pair` and a local by `one`, and that nothing else raises but
  -- what is written
  pub record Measure (one : ℕ) : Type 0 where
    pub captures : (x : CompilerCtx) (u : Upvalue) → length x.upvalues < 256 → held (c.with_upvalues x (x.upvalues ++ (u ∷ []))) ≤ held x + pair
    pub marks : (x : CompilerCtx) (name : ℕ) → held (c.with_locals x (c.capture name x.locals)) ≤ held x
    pub declares : (x : CompilerCtx) (local : Local) → held (c.with_locals x (local ∷ x.locals)) ≤ held x + one
    pub defines : (x : CompilerCtx) → held (c.with_locals x (c.initialize x.locals)) ≤ held x
    pub scopes : (x : CompilerCtx) (depth : ℕ) → held (c.with_scope_depth x depth) ≤ held x
    pub patches : (x : CompilerCtx) (at n : ℕ) → held (c.with_chunk x (with_ops x.chunk (c.set_u16 x.chunk.ops at n))) ≤ held x
    pub fresh : (name arity depth : ℕ) (type : FunctionType) → held (c.new_ctx name arity type depth) ≡ 0

  abbrev RaisedIf : CompilerCtx → List CompilerCtx → Resolved → Type 0
  RaisedIf ctx parents r = GrownIf (summed held) (times pair (length parents)) ctx parents r

  module _ (one : ℕ) (measure : Measure one) where
    added : (p : Option ℕ) (u : Upvalue) (span : Span) (ctx parent : CompilerCtx) (above : List CompilerCtx) (parents : List CompilerCtx) →
        length parents ≡ suc (length above) → sum_of held parents ≤ held parent + sum_of held above + times pair (length above) →
        RaisedIf ctx (parent ∷ above) (c.added p u span ctx parents)
    unfolding c.added
    added (some place) u span ctx parent above parents e l = record { levels = e; holds = omega arith }
    added none u span ctx parent above parents e l = by_room (ltb (length ctx.upvalues) 256) refl
      where
        by_room : (b : Bool) → ltb (length ctx.upvalues) 256 ≡ b →
            RaisedIf ctx (parent ∷ above)
            (if b then captured (length ctx.upvalues) (c.with_upvalues ctx (ctx.upvalues ++ (u ∷ []))) parents else failed
            (TooManyUpvalues span))
        by_room true t = record { levels = e; holds = omega (arith, measure.captures ctx u (ltb→lt (length ctx.upvalues) 256 (rw t tt))) }
        by_room false t = tt

    through : (f : Found) (outer : Resolved) (name : ℕ) (span : Span) (ctx parent : CompilerCtx) (above : List CompilerCtx) →
        RaisedIf parent above outer → RaisedIf ctx (parent ∷ above) (c.through f outer name span ctx parent above)
    unfolding c.through c.further_out c.add_upvalue
    through (at_slot slot) outer name span ctx parent above o =
        added _ (record { idx = slot; is_local = true }) span ctx parent above (c.with_locals parent (c.capture name parent.locals) ∷ above) refl
        (omega (arith, measure.marks parent name))
    through uninitialized outer name span ctx parent above o = tt
    through no_local (captured idx q qs) name span ctx parent above o =
        added _ (record { idx = idx; is_local = false }) span ctx parent above (q ∷ qs) (ap suc o.levels) o.holds
    through no_local nowhere name span ctx parent above o = tt
    through no_local (failed r) name span ctx parent above o = o

    resolve_upvalue : (name : ℕ) (span : Span) (ctx : CompilerCtx) (parents : List CompilerCtx) →
        RaisedIf ctx parents (c.resolve_upvalue name span ctx parents)
    unfolding c.resolve_upvalue
    resolve_upvalue name span ctx [] = tt
    resolve_upvalue name span ctx (p ∷ ps) =
        through (c.find_local name p.locals) (c.resolve_upvalue name span p ps) name span ctx p ps (resolve_upvalue name span p ps)

    widen : (cost : ℕ) (ctx : CompilerCtx) (parents : List CompilerCtx) (r : Resolved) → times pair (length parents) ≤ cost →
        RaisedIf ctx parents r → GrownIf (summed held) cost ctx parents r
    widen cost ctx parents (captured idx ctx' parents') l o = record { levels = o.levels; holds = omega (arith, o.holds) }
    widen cost ctx parents nowhere l o = tt
    widen cost ctx parents (failed r) l o = o

    pub sum_holds : (most cost : ℕ) → ((n : ℕ) → n ≤ most → times pair n ≤ cost) → Holds (summed held) cost one most
    sum_holds most cost few =
        record {
          declares = λ x ps local. omega (arith, measure.declares x local);
          defines = λ x ps. omega (arith, measure.defines x);
          scopes = λ x ps depth. omega (arith, measure.scopes x depth);
          patches = λ x ps at n. omega (arith, measure.patches x at n);
          fresh = λ x ps name arity depth type. omega (arith, measure.fresh name arity depth type);
          resolves = λ name span ctx parents l. widen cost ctx parents (c.resolve_upvalue name span ctx parents) (few (length parents) l)
              (resolve_upvalue name span ctx parents);
        }

-- ## The state

-- what the open functions hold, and the finished ones
abbrev pub spent : (CompilerCtx → List CompilerCtx → ℕ) → (List ObjectFunction → ℕ) → Compiler → ℕ
spent total finished s = total s.ctx s.parents + finished s.functions

-- so many functions more may be opened, and no more has been spent
pub record Spent (total : CompilerCtx → List CompilerCtx → ℕ) (finished : List ObjectFunction → ℕ) (most g k : ℕ) (s : Compiler) : Type 0 where
  pub levels : length s.parents + g ≤ most
  pub spent : spent total finished s ≤ k

pub more : (total : CompilerCtx → List CompilerCtx → ℕ) (finished : List ObjectFunction → ℕ) (most g k k' : ℕ) (s : Compiler) → k ≤ k' →
    Spent total finished most g k s →
    Spent total finished most g k' s
more total finished most g k k' s l i = record { levels = i.levels; spent = omega (arith, i.spent) }

module _ (total : CompilerCtx → List CompilerCtx → ℕ) (finished : List ObjectFunction → ℕ) (cost one most : ℕ) (holds : Holds total cost one most)
    (Allowed : Refusal → Type 0) (rusts : (r : Refusal) → Rusts r → Allowed r) (top : ℕ) where
  abbrev J : ℕ → ℕ → Compiler → Type 0
  J g k s = Spent total finished most g k s

  abbrev Does : {A : Type 0} → (g h n : ℕ) → Compile A → Type 0
  Does g h n m = Spends J Allowed top g h n m

  infixl 10 ◌>>=◌
  ◌>>=◌ : {A B : Type 0} {g h i n n' : ℕ} {m : Compile A} {f : A → Compile B} → Does g h n m → ((a : A) → Does h i n' (f a)) →
      Does g i (n + n') (c.◌>>=◌ m f)
  hm >>= hf = spends.bind J Allowed top (more total finished most) hm hf

  infixl 10 ◌>>◌
  ◌>>◌ : {A B : Type 0} {g h i n n' : ℕ} {m : Compile A} {p : Compile B} → Does g h n m → Does h i n' p → Does g i (n + n') (c.◌>>◌ m p)
  hm >> hp = spends.follow J Allowed top (more total finished most) hm hp

  -- a change of the current context that holds so much more
  update : {g : ℕ} (n : ℕ) (f : CompilerCtx → CompilerCtx) → ((x : CompilerCtx) (ps : List CompilerCtx) → total (f x) ps ≤ total x ps + n) →
      Does g g n (c.update_ctx f)
  unfolding c.update_ctx
  update n f h = record { run = λ s k l i. record { levels = i.levels; spent = omega (arith, i.spent, h s.ctx s.parents) } }

  pub declare_local : {g : ℕ} (name : ℕ) (span : Span) → Does g g (0 + (0 + (0 + one))) (c.declare_local name span)
  unfolding c.declare_local
  declare_local name span = do
    ctx ← spends.the J Allowed top (more total finished most) _
    spends.need J Allowed top (more total finished most) _ _ (rusts _ tt)
    spends.need J Allowed top (more total finished most) _ _ (rusts _ tt)
    update one _ (λ x ps. holds.declares x ps _)

  pub define_local : {g : ℕ} → Does g g 0 c.define_local
  unfolding c.define_local
  define_local = update 0 _ (λ x ps. omega (arith, holds.defines x ps))

  pub begin_scope : {g : ℕ} → Does g g 0 c.begin_scope
  unfolding c.begin_scope
  begin_scope = update 0 _ (λ x ps. omega (arith, holds.scopes x ps (x.scope_depth + 1)))

  pub patch_jump : {g : ℕ} (at : ℕ) (span : Span) → Does g g 0 (c.patch_jump at span)
  unfolding c.patch_jump c.code_length
  patch_jump at span = do
    size ← spends.the J Allowed top (more total finished most) _
    spends.need J Allowed top (more total finished most) _ _ (rusts _ tt)
    update 0 _ (λ x ps. omega (arith, holds.patches x ps at (size - 2 - at)))

  pub push_class_ctx : {g : ℕ} (b : Bool) → Does g g 0 (c.push_class_ctx b)
  unfolding c.push_class_ctx
  push_class_ctx b = spends.free J Allowed top (more total finished most) (λ s k i. record { levels = i.levels; spent = i.spent })

  pub pop_class_ctx : {g : ℕ} → Does g g 0 c.pop_class_ctx
  unfolding c.pop_class_ctx
  pop_class_ctx = spends.free J Allowed top (more total finished most) (λ s k i. record { levels = i.levels; spent = i.spent })

  pub begin_ctx : {g h : ℕ} (name arity depth : ℕ) (type : FunctionType) → g ≡ suc h → Does g h 0 (c.begin_ctx (c.new_ctx name arity type depth))
  unfolding c.begin_ctx
  begin_ctx name arity depth type up =
      record {
        run =
            λ s k l i. record { levels = omega (arith, i.levels); spent = omega (arith, i.spent, holds.fresh s.ctx s.parents name arity depth type) };
      }

  resolved : {g : ℕ} (f : Found) (outer : Resolved) (name : ℕ) (span : Span) (s : Compiler) (k : ℕ) → J g k s →
      GrownIf total cost s.ctx s.parents outer → Ends J Allowed top g (k + cost) (c.resolved f outer name span s)
  unfolding c.resolved c.◌>>◌ go_on c.put_ctxs c.return c.refuse
  resolved (at_slot slot) outer name span s k i o = record { levels = i.levels; spent = omega (arith, i.spent) }
  resolved uninitialized outer name span s k i o = rusts _ tt
  resolved no_local (captured idx ctx parents) name span s k i o =
      record {
        levels = omega (arith, i.levels, o.levels);
        spent = omega (arith, i.spent, o.holds);
      }
  resolved no_local nowhere name span s k i o = record { levels = i.levels; spent = omega (arith, i.spent) }
  resolved no_local (failed r) name span s k i o = rusts r o

  pub resolve : {g : ℕ} (name : ℕ) (span : Span) → Does g g cost (c.resolve name span)
  unfolding c.resolve c.◌>>=◌ go_on c.get
  resolve name span =
      record {
        run =
            λ s k l i. resolved (c.find_local name s.ctx.locals) (c.resolve_upvalue name span s.ctx s.parents) name span s k i
            (holds.resolves name span s.ctx s.parents (omega (arith, i.levels)));
      }
