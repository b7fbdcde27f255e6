-- The Rust's `expect`s, shown never to fail: `Impossible` at the end has the laws. The rules have no panic and would go on in silence, so this is said of
-- the states in which their steps are used. A context is ended only where there is one around it, a class left only where it was entered, a local defined
-- only where one was declared: from whatever state the definition starts. And every slot, every place of a captured variable or a constant is a byte, as
-- the open functions of every state that the compiler comes to have at most 256 of each.
use mathlib.Core.Path.{◌≡◌, refl, ap, ◌∙◌, subst}
use mathlib.Core.Bool.{Bool, true, false}
use mathlib.Core.Option.{Option, none, some}
use mathlib.Core.List.{List, ◌∷◌, ◌++◌, []}
use Prim.Native.Nat.{ℕ, suc, ◌-◌, ◌≤◌, ◌<◌}
use native.Mathlib.Omega.{arith}
use lib.ListN.{length, length-append, drop}
use lib.Dec.{ltb, eqb, ltb→lt}
use Rattle.rules.specs.Base.{position}
use Rattle.std.specs.Prelude.{if◌then◌else◌}
use Rattle.rules.specs.declared.Span.{Span}
use Rattle.rules.specs.declared.Refusal.TheVariants.{TooManyUpvalues}
use Rattle.rules.specs.Tree.{Expr, Stmts, Superclass, StmtClass, fun, Methods}
use Rattle.rules.specs.Chunk.{Chunk, Constant, CF, Written, at_place, no_room, write_u8, write_constant, written, same_constant}
use Rattle.rules.specs.Compiler as c
use Rattle.rules.specs.Compiler.{Compiler, CompilerCtx, Compile, Outcome, ok, err, go_on, Found, at_slot, uninitialized, no_local, Resolved, captured, nowhere, failed, Upvalue, Local, FunctionType}
use Rattle.rules_laws.proofs.Keeps as keeps
use Rattle.rules_laws.proofs.Keeps.{After, Triple, ◌>>=◌, ◌>>◌, the, need, refuse, return, so, given, either, skip, ExprLaws, Laws}
use Rattle.rules_laws.proofs.Facts.{All, stopped, slot_inside, capture_length, initialize_length}
use Rattle.rules_laws.proofs.UpTo.{function_up_to_end, class_up_to_pop, var_up_to_define}

-- ## At most 256 of each

pub record Few (x : CompilerCtx) : Type 0 where
  pub locals : length x.locals ≤ 256
  pub upvalues : length x.upvalues ≤ 256
  pub constants : length x.chunk.constants ≤ 256

-- of every open function
pub record Fits (s : Compiler) : Type 0 where
  pub inner : Few s.ctx
  pub outer : All Few s.parents

-- an open function after a step that neither declares a local nor pops one
record Same (x y : CompilerCtx) : Type 0 where
  locals : length y.locals ≡ length x.locals
  few : Few x → Few y

same : {x : CompilerCtx} → Same x x
same = record { locals = refl; few = λ h. h }

abbrev Sames : List CompilerCtx → List CompilerCtx → Type 0
Sames [] [] = Unit {0}
Sames [] (y ∷ ys) = ⊥
Sames (x ∷ xs) [] = ⊥
Sames (x ∷ xs) (y ∷ ys) = Same x y × Sames xs ys

sames : (xs : List CompilerCtx) → Sames xs xs
sames [] = tt
sames (x ∷ xs) = (same, sames xs)

sames_length : (xs ys : List CompilerCtx) → Sames xs ys → length ys ≡ length xs
sames_length [] [] h = refl
sames_length [] (y ∷ ys) h = absurd h
sames_length (x ∷ xs) [] h = absurd h
sames_length (x ∷ xs) (y ∷ ys) h = ap suc (sames_length xs ys h.1)

sames_few : (xs ys : List CompilerCtx) → Sames xs ys → All Few xs → All Few ys
sames_few [] [] h a = tt
sames_few [] (y ∷ ys) h a = absurd h
sames_few (x ∷ xs) [] h a = absurd h
sames_few (x ∷ xs) (y ∷ ys) h a = (h.0.few a.0, sames_few xs ys h.1 a.1)

-- a constant's place, and the constants after it
abbrev Placed : Chunk → Written → Type 0
Placed ch (at_place place ch') = length ch.constants ≤ 256 → (place < 256) × (length ch'.constants ≤ 256)
Placed ch no_room = Unit {0}

placed : (ch : Chunk) (value : Constant) → Placed ch (write_constant ch value)
unfolding write_constant written
placed ch value = found (position (same_constant value) ch.constants) refl
  where
    added : (b : Bool) → ltb (length ch.constants) 256 ≡ b →
        Placed ch
        (if b then at_place (length ch.constants) (record { ops = ch.ops; constants = ch.constants ++ (value ∷ []); spans = ch.spans })
        else no_room)
    added true t =
        let room : length ch.constants < 256 = ltb→lt (length ch.constants) 256 (rw t tt) in
        λ l. (room, omega (arith, length-append ch.constants (value ∷ [])))
    added false t = tt

    found : (p : Option ℕ) → position (same_constant value) ch.constants ≡ p → Placed ch (written p ch value)
    found (some place) e = λ l. (omega (arith, (stopped (same_constant value) ch.constants place e).inside), l)
    found none e = added (ltb (length ch.constants) 256) refl

-- a captured variable's place, and the open functions after it
record Kept (ctx : CompilerCtx) (parents : List CompilerCtx) (idx : ℕ) (ctx' : CompilerCtx) (parents' : List CompilerCtx) : Type 0 where
  byte : Few ctx → idx < 256
  inner : Same ctx ctx'
  outer : Sames parents parents'

abbrev KeptIf : CompilerCtx → List CompilerCtx → Resolved → Type 0
KeptIf ctx parents (captured idx ctx' parents') = Kept ctx parents idx ctx' parents'
KeptIf ctx parents nowhere = Unit {0}
KeptIf ctx parents (failed r) = Unit {0}

added : (u : Upvalue) (span : Span) (ctx : CompilerCtx) (ps qs : List CompilerCtx) → Sames ps qs →
    (p : Option ℕ) → position (c.same_upvalue u) ctx.upvalues ≡ p → KeptIf ctx ps (c.added p u span ctx qs)
unfolding c.added
added u span ctx ps qs o (some place) e =
    record { byte = λ f. omega (arith, (stopped (c.same_upvalue u) ctx.upvalues place e).inside, f.upvalues); inner = same; outer = o }
added u span ctx ps qs o none e = room (ltb (length ctx.upvalues) 256) refl
  where
    room : (b : Bool) → ltb (length ctx.upvalues) 256 ≡ b →
        KeptIf ctx ps
        (if b then captured (length ctx.upvalues) (c.with_upvalues ctx (ctx.upvalues ++ (u ∷ []))) qs else failed (TooManyUpvalues span))
    room true t =
        let below : length ctx.upvalues < 256 = ltb→lt (length ctx.upvalues) 256 (rw t tt) in
        record {
          byte = λ f. below;
          inner =
              record {
                locals = refl;
                few =
                    λ f. record {
                      locals = f.locals;
                      upvalues = omega (arith, length-append ctx.upvalues (u ∷ []));
                      constants = f.constants;
                    };
              };
          outer = o;
        }
    room false t = tt

add_upvalue : (u : Upvalue) (span : Span) (ctx : CompilerCtx) (ps qs : List CompilerCtx) → Sames ps qs → KeptIf ctx ps (c.add_upvalue u span ctx qs)
unfolding c.add_upvalue
add_upvalue u span ctx ps qs o = added u span ctx ps qs o _ refl

through : (f : Found) (outer : Resolved) (name : ℕ) (span : Span) (ctx parent : CompilerCtx) (above : List CompilerCtx) →
    KeptIf parent above outer → KeptIf ctx (parent ∷ above) (c.through f outer name span ctx parent above)
unfolding c.through c.further_out
through (at_slot slot) outer name span ctx parent above o =
    add_upvalue _ span ctx (parent ∷ above) (c.with_locals parent (c.capture name parent.locals) ∷ above) (marked, sames above)
  where
    marked : Same parent (c.with_locals parent (c.capture name parent.locals))
    marked =
        record {
          locals = capture_length name parent.locals;
          few =
              λ f. record {
                locals = omega (arith, f.locals, capture_length name parent.locals);
                upvalues = f.upvalues;
                constants = f.constants;
              };
        }
through uninitialized outer name span ctx parent above o = tt
through no_local (captured idx p ps) name span ctx parent above o = add_upvalue _ span ctx (parent ∷ above) (p ∷ ps) (o.inner, o.outer)
through no_local nowhere name span ctx parent above o = tt
through no_local (failed r) name span ctx parent above o = tt

resolve_upvalue : (name : ℕ) (span : Span) (ctx : CompilerCtx) (parents : List CompilerCtx) → KeptIf ctx parents (c.resolve_upvalue name span ctx parents)
unfolding c.resolve_upvalue
resolve_upvalue name span ctx [] = tt
resolve_upvalue name span ctx (p ∷ ps) =
    through (c.find_local name p.locals) (c.resolve_upvalue name span p ps) name span ctx p ps (resolve_upvalue name span p ps)

-- ## A fact of the state that says nothing of code, and nothing of constants or captured variables but that they are few: what expressions keep

abbrev Moves : (G : Type 0) → (G → Compiler → Type 0) → Type 0
Moves G I =
    (g : G) (s : Compiler) (ctx : CompilerCtx) (parents : List CompilerCtx) → Same s.ctx ctx → Sames s.parents parents → I g s →
    I g (c.with_ctxs s ctx parents)

module _ (G : Type 0) (I : G → Compiler → Type 0) (moves : Moves G I) (limit : ℕ) where
  chunks : (g : G) (s : Compiler) (ch : Chunk) → (length s.ctx.chunk.constants ≤ 256 → length ch.constants ≤ 256) → I g s →
      I g (c.with_ctx s (c.with_chunk s.ctx ch))
  chunks g s ch h i =
      moves g s (c.with_chunk s.ctx ch) s.parents
      (record { locals = refl; few = λ f. record { locals = f.locals; upvalues = f.upvalues; constants = h f.constants } }) (sames s.parents) i

  emit_u8 : (b : ℕ) (span : Span) (g : G) → Triple (I g) (c.emit_u8 limit b span) (λ _. I g)
  unfolding c.emit_u8 c.update_ctx write_u8
  emit_u8 b span g = do
    used ← the _
    need _ _
    record { run = λ s i. chunks g s (write_u8 s.ctx.chunk b span) (λ h. h) i }

  emit_place : (ch : Chunk) (w : Written) (span : Span) (g : G) → Placed ch w →
      Triple (λ s. (ch ≡ s.ctx.chunk) × I g s) (c.emit_place limit w span) (λ _. I g)
  unfolding c.emit_place c.update_ctx
  emit_place ch (at_place place ch') span g p = do
    record { run = λ s i. chunks g s ch' (λ h. (p (rw i.0 h)).1) i.1 }
    emit_u8 place span g
  emit_place ch no_room span g p = refuse _

  emit_constant : (value : Constant) (span : Span) (g : G) → Triple (I g) (c.emit_constant limit value span) (λ _. I g)
  unfolding c.emit_constant
  emit_constant value span g = do
    chunk ← keeps.the_told _
    emit_place chunk (write_constant chunk value) span g (placed chunk value)

  emit_op : (b : ℕ) (span : Span) (g : G) → Triple (I g) (c.emit_op limit b span) (λ _. I g)
  unfolding c.emit_op
  emit_op b span g = emit_u8 b span g

  emit_op_u8 : (b n : ℕ) (span : Span) (g : G) → Triple (I g) (c.emit_op_u8 limit b n span) (λ _. I g)
  unfolding c.emit_op_u8
  emit_op_u8 b n span g = emit_u8 b span g >> emit_u8 n span g

  emit_op_constant : (b : ℕ) (value : Constant) (span : Span) (g : G) → Triple (I g) (c.emit_op_constant limit b value span) (λ _. I g)
  unfolding c.emit_op_constant
  emit_op_constant b value span g = emit_u8 b span g >> emit_constant value span g

  emit_invoke : (b : ℕ) (value : Constant) (n : ℕ) (span : Span) (g : G) → Triple (I g) (c.emit_invoke limit b value n span) (λ _. I g)
  unfolding c.emit_invoke
  emit_invoke b value n span g = do
    emit_u8 b span g
    emit_constant value span g
    emit_u8 n span g

  emit_upvalues : (us : List Upvalue) (span : Span) (g : G) → Triple (I g) (c.emit_upvalues limit us span) (λ _. I g)
  unfolding c.emit_upvalues
  emit_upvalues [] span g = skip
  emit_upvalues (u ∷ us) span g = do
    emit_u8 _ span g
    emit_u8 _ span g
    emit_upvalues us span g

  emit_closure : (number : ℕ) (us : List Upvalue) (span : Span) (g : G) → Triple (I g) (c.emit_closure limit number us span) (λ _. I g)
  unfolding c.emit_closure
  emit_closure number us span g = do
    emit_u8 _ span g
    emit_constant (CF number) span g
    emit_upvalues us span g

  code_length : (g : G) → Triple (I g) c.code_length (λ _. I g)
  unfolding c.code_length
  code_length g = the _

  emit_jump : (b : ℕ) (span : Span) (g : G) → Triple (I g) (c.emit_jump limit b span) (λ _. I g)
  unfolding c.emit_jump
  emit_jump b span g = do
    emit_u8 _ span g
    emit_u8 _ span g
    emit_u8 _ span g
    end ← code_length g
    return (end - 2)

  patch_jump : (at : ℕ) (span : Span) (g : G) → Triple (I g) (c.patch_jump at span) (λ _. I g)
  unfolding c.patch_jump c.update_ctx
  patch_jump at span g = do
    end ← code_length g
    need _ _
    record { run = λ s i. chunks g s _ (λ h. h) i }

  emit_loop : (at : ℕ) (span : Span) (g : G) → Triple (I g) (c.emit_loop limit at span) (λ _. I g)
  unfolding c.emit_loop
  emit_loop at span g = do
    end ← code_length g
    need _ _
    emit_u8 _ span g
    emit_u8 _ span g
    emit_u8 _ span g

  resolved : (f : Found) (r : Resolved) (name : ℕ) (span : Span) (g : G) (s : Compiler) → I g s → KeptIf s.ctx s.parents r →
      After (λ _. I g) (c.resolved f r name span s)
  unfolding c.resolved c.◌>>◌ go_on c.put_ctxs c.return c.refuse
  resolved (at_slot slot) r name span g s i k = i
  resolved uninitialized r name span g s i k = tt
  resolved no_local (captured idx ctx parents) name span g s i k = moves g s ctx parents k.inner k.outer i
  resolved no_local nowhere name span g s i k = i
  resolved no_local (failed r) name span g s i k = tt

  resolve : (name : ℕ) (span : Span) (g : G) → Triple (I g) (c.resolve name span) (λ _. I g)
  unfolding c.resolve c.◌>>=◌ go_on c.get
  resolve name span g = record { run = λ s i. resolved (c.find_local name s.ctx.locals) _ name span g s i (resolve_upvalue name span s.ctx s.parents) }

  get_place : (p : c.Place) (name : ℕ) (span : Span) (g : G) → Triple (I g) (c.get_place limit p name span) (λ _. I g)
  unfolding c.get_place
  get_place (c.local_at slot) name span g = emit_op_u8 _ _ _ g
  get_place (c.upvalue_at idx) name span g = emit_op_u8 _ _ _ g
  get_place c.global_named name span g = emit_op_constant _ _ _ g

  set_place : (p : c.Place) (name : ℕ) (span : Span) (g : G) → Triple (I g) (c.set_place limit p name span) (λ _. I g)
  unfolding c.set_place
  set_place (c.local_at slot) name span g = emit_op_u8 _ _ _ g
  set_place (c.upvalue_at idx) name span g = emit_op_u8 _ _ _ g
  set_place c.global_named name span g = emit_op_constant _ _ _ g

  get_variable : (name : ℕ) (span : Span) (g : G) → Triple (I g) (c.get_variable limit name span) (λ _. I g)
  unfolding c.get_variable
  get_variable name span g = do
    classes ← the _
    need _ _
    place ← resolve _ _ g
    get_place place _ _ g

  set_variable : (name : ℕ) (span : Span) (g : G) → Triple (I g) (c.set_variable limit name span) (λ _. I g)
  unfolding c.set_variable
  set_variable name span g = do
    place ← resolve _ _ g
    set_place place _ _ g

  expr_laws : ExprLaws G I limit (λ _ g. g)
  expr_laws =
      record {
        emit_op = λ b span e g. emit_op b span g;
        emit_op_u8 = λ b n span e l g. emit_op_u8 b n span g;
        emit_number = λ n span g. emit_op_constant _ _ span g;
        emit_string = λ n span g. emit_op_constant _ _ span g;
        emit_text = λ b n span e g. emit_op_constant b _ span g;
        emit_invoke = λ b name n span e l g. emit_invoke b _ n span g;
        get_variable = get_variable;
        set_variable = set_variable;
        emit_jump = λ b span e g. emit_jump b span g;
        patch_jump = patch_jump;
        swap_waits = λ i j g s h. h;
      }

-- ## The same, where locals count as constants do: what statements keep. `Known` says that they are known to be few

record Updates (G : Type 0) (I : G → Compiler → Type 0) (opens : G → G) (enters : Bool → G → G) (Known : Type 0) : Type 0 where
  few : Known → (g : G) (s : Compiler) → I g s → Few s.ctx
  updates : (g : G) (s : Compiler) (x : CompilerCtx) → (Known → Few x) → I g s → I g (c.with_ctx s x)
  push_class_ctx : (b : Bool) (g : G) → Triple (I g) (c.push_class_ctx b) (λ _. I (enters b g))
  pop_class_ctx : (b : Bool) (g : G) → Triple (I (enters b g)) c.pop_class_ctx (λ _. I g)
  begin_ctx : (name arity depth : ℕ) (type : FunctionType) (g : G) → Triple (I g) (c.begin_ctx (c.new_ctx name arity type depth)) (λ _. I (opens g))
  end_ctx : (g : G) → Triple (I (opens g)) c.end_ctx (λ _. I g)

module _ (G : Type 0) (I : G → Compiler → Type 0) (moves : Moves G I) (opens : G → G) (enters : Bool → G → G) (Known : Type 0)
    (u : Updates G I opens enters Known) (limit : ℕ) where
  update : (f : CompilerCtx → CompilerCtx) → (Known → (x : CompilerCtx) → Few x → Few (f x)) → (g : G) → Triple (I g) (c.update_ctx f) (λ _. I g)
  unfolding c.update_ctx
  update f h g = record { run = λ s i. u.updates g s (f s.ctx) (λ k. h k s.ctx (u.few k g s i)) i }

  declare_local : (name : ℕ) (span : Span) (g : G) → Triple (I g) (c.declare_local name span) (λ _. I g)
  unfolding c.declare_local c.update_ctx
  declare_local name span g = do
    ctx ← keeps.the_told _
    need _ _
    keeps.need_told (ltb (length ctx.locals) 256) _
    record {
      run =
          λ s i. u.updates g s _
          (λ k. let f : Few s.ctx = u.few k g s i.1.1 in record {
            locals = omega (arith, ltb→lt (length ctx.locals) 256 i.0, ap (λ (x : CompilerCtx). length x.locals) i.1.0);
            upvalues = f.upvalues;
            constants = f.constants;
          })
          i.1.1;
    }

  define_local : (g : G) → Triple (I g) c.define_local (λ _. I g)
  unfolding c.define_local
  define_local g =
      update _
      (λ k x f. record { locals = omega (arith, f.locals, initialize_length x.locals); upvalues = f.upvalues; constants = f.constants }) g

  begin_scope : (g : G) → Triple (I g) c.begin_scope (λ _. I g)
  unfolding c.begin_scope
  begin_scope g = update _ (λ k x f. record { locals = f.locals; upvalues = f.upvalues; constants = f.constants }) g

  pop_locals : (ls : List Local) → (Known → length ls ≤ 256) → (span : Span) (g : G) → Triple (I g) (c.pop_locals limit ls span) (λ _. I g)
  unfolding c.pop_locals
  pop_locals [] m span g = skip
  pop_locals (x ∷ xs) m span g = do
    depth ← the _
    either (ltb depth x.depth)
        (do
          emit_op G I moves limit _ span g
          update _ (λ k y f. record { locals = omega (arith, m k); upvalues = f.upvalues; constants = f.constants }) g
          pop_locals xs (λ k. omega (arith, m k)) span g)
        skip

  end_scope : (span : Span) (g : G) → Triple (I g) (c.end_scope limit span) (λ _. I g)
  unfolding c.end_scope
  end_scope span g = do
    update _ (λ k x f. record { locals = f.locals; upvalues = f.upvalues; constants = f.constants }) g
    locals ← keeps.the_told _
    given {P' = λ s. (Known → length locals ≤ 256) × I g s} (λ s i. (λ k. omega (arith, ap length i.0, (u.few k g s i.1).locals), i.1))
        (keeps.whence (λ m. pop_locals locals m span g))

  end_function : (span : Span) (g : G) → Triple (I (opens g)) (c.end_function limit span) (λ _. I g)
  unfolding c.end_function
  end_function span g = do
    (number, upvalues) ← u.end_ctx g
    emit_closure G I moves limit number upvalues span g

  laws : Laws G I limit (λ _ g. g) (λ _ g. g) opens enters
  laws =
      record {
        exprs = expr_laws G I moves limit;
        code_length = code_length G I moves limit;
        emit_loop = emit_loop G I moves limit;
        declare_local = declare_local;
        define_local = define_local;
        begin_scope = begin_scope;
        end_scope = end_scope;
        push_class_ctx = u.push_class_ctx;
        pop_class_ctx = u.pop_class_ctx;
        begin_ctx = u.begin_ctx;
        end_function = end_function;
        swap_backs = λ i j g s h. h;
      }

-- ## The three instances

-- how many locals the innermost function has
abbrev Locals : ℕ → Compiler → Type 0
Locals n s = length s.ctx.locals ≡ n

locals_move : Moves ℕ Locals
locals_move n s ctx parents x xs i = x.locals ∙ i

-- how many functions are open around it, and the classes around the place
record Nest : Type 0 where
  levels : ℕ
  classes : List Bool

record At (g : Nest) (s : Compiler) : Type 0 where
  levels : length s.parents ≡ g.levels
  classes : s.class_ctx ≡ g.classes

at_moves : Moves Nest At
at_moves g s ctx parents x xs i = record { levels = sames_length s.parents parents xs ∙ i.levels; classes = i.classes }

abbrev inside : Nest → Nest
inside g = record { levels = suc g.levels; classes = g.classes }

abbrev in_class : Bool → Nest → Nest
in_class b g = record { levels = g.levels; classes = b ∷ g.classes }

at_back : (g : Nest) (s : Compiler) (ps : List CompilerCtx) → length ps ≡ suc g.levels → s.class_ctx ≡ g.classes → After (λ _. At g) (c.back_to ps s)
unfolding c.back_to
at_back g s [] e k = absurd (omega (arith, e))
at_back g s (p ∷ ps) e k = record { levels = omega (arith, e); classes = k }

at_updates : Updates Nest At inside in_class ⊥
unfolding c.push_class_ctx c.pop_class_ctx c.begin_ctx c.end_ctx c.◌>>=◌ go_on c.the
at_updates =
    record {
      few = λ k. absurd k;
      updates = λ g s x h i. record { levels = i.levels; classes = i.classes };
      push_class_ctx = λ b g. record { run = λ s i. record { levels = i.levels; classes = ap (λ (bs : List Bool). b ∷ bs) i.classes } };
      pop_class_ctx = λ b g. record { run = λ s i. record { levels = i.levels; classes = ap (λ (bs : List Bool). drop 1 bs) i.classes } };
      begin_ctx = λ name arity depth type g. record { run = λ s i. record { levels = ap suc i.levels; classes = i.classes } };
      end_ctx = λ g. record { run = λ s i. at_back g s s.parents i.levels i.classes };
    }

at_laws : (limit : ℕ) → Laws Nest At limit (λ _ g. g) (λ _ g. g) inside in_class
at_laws limit = laws Nest At at_moves inside in_class ⊥ at_updates limit

-- every open function has few of each
abbrev Fit : Unit {0} → Compiler → Type 0
Fit _ s = Fits s

fit_moves : Moves (Unit {0}) Fit
fit_moves g s ctx parents x xs i = record { inner = x.few i.inner; outer = sames_few s.parents parents xs i.outer }

fit_back : (s : Compiler) (ps : List CompilerCtx) → Fits s → All Few ps → After (λ _. Fits) (c.back_to ps s)
unfolding c.back_to
fit_back s [] i h = i
fit_back s (p ∷ ps) i h = record { inner = h.0; outer = h.1 }

fit_updates : Updates (Unit {0}) Fit (λ g. g) (λ _ g. g) (Unit {0})
unfolding c.push_class_ctx c.pop_class_ctx c.begin_ctx c.end_ctx c.◌>>=◌ go_on c.the
fit_updates =
    record {
      few = λ k g s i. i.inner;
      updates = λ g s x h i. record { inner = h tt; outer = i.outer };
      push_class_ctx = λ b g. record { run = λ s i. record { inner = i.inner; outer = i.outer } };
      pop_class_ctx = λ b g. record { run = λ s i. record { inner = i.inner; outer = i.outer } };
      begin_ctx =
          λ name arity depth type g. record {
            run = λ s i. record { inner = record { locals = omega arith; upvalues = omega arith; constants = omega arith }; outer = (i.inner, i.outer) };
          };
      end_ctx = λ g. record { run = λ s i. fit_back s s.parents i i.outer };
    }

fit_laws : (limit : ℕ) → Laws (Unit {0}) Fit limit (λ _ g. g) (λ _ g. g) (λ g. g) (λ _ g. g)
fit_laws limit = laws (Unit {0}) Fit fit_moves (λ g. g) (λ _ g. g) (Unit {0}) fit_updates limit

-- ## A definition is its part up to a step, and then the step

record Splits (whole part step : Compile Unit) : Type 0 where
  is : (s : Compiler) → whole s ≡ c.◌>>◌ part step s

regroup : {A : Type 0} (o : Outcome A) (f g : A → Compile Unit) (step : Compile Unit) → ((a : A) (s : Compiler) → f a s ≡ go_on (g a s) (λ _. step)) →
    go_on o f ≡ go_on (go_on o g) (λ _. step)
unfolding go_on
regroup (ok a s) f g step h = h a s
regroup (err x) f g step h = refl

past : {A : Type 0} (m : Compile A) {n p step : Compile Unit} → Splits n p step → Splits (c.◌>>◌ m n) (c.◌>>◌ m p) step
unfolding c.◌>>◌
past m {n = n} {p = p} {step = step} h = record { is = λ s. regroup (m s) (λ _. n) (λ _. p) step (λ a s. h.is s) }

past_value : {A : Type 0} (m : Compile A) {f g : A → Compile Unit} {step : Compile Unit} → ((a : A) → Splits (f a) (g a) step) →
    Splits (c.◌>>=◌ m f) (c.◌>>=◌ m g) step
unfolding c.◌>>=◌ c.◌>>◌
past_value m {f = f} {g = g} {step = step} h = record { is = λ s. regroup (m s) f g step (λ a s. (h a).is s) }

last : {m n : Compile Unit} → Splits (c.◌>>◌ m n) m n
last = record { is = λ s. refl }

module _ (limit : ℕ) where
  function_splits : (type : FunctionType) (name : ℕ) (params : List ℕ) (body : Stmts) (span : Span) →
      Splits (c.compile_function limit (fun name params body) type span) (function_up_to_end limit type name params body span) (c.end_function limit span)
  unfolding c.compile_stmt c.compile_function_with function_up_to_end
  function_splits type name params body span = past _ (past_value _ (λ depth. past _ (past _ (past _ (past _ (past _ last))))))

  class_splits : (span : Span) (name : ℕ) (sup : Option Superclass) (methods : Methods) →
      Splits (c.compile_stmt limit (StmtClass span name sup methods)) (class_up_to_pop limit span name sup methods) c.pop_class_ctx
  unfolding c.compile_stmt class_up_to_pop
  class_splits span name sup methods = past _ (past _ (past _ (past _ (past _ last))))

  var_splits : (name : ℕ) (v : Option Expr) (span : Span) (s : Compiler) → eqb s.ctx.scope_depth 0 ≡ false →
      c.compile_var limit name v span s ≡ c.◌>>◌ (var_up_to_define limit name v span) c.define_local s
  unfolding c.compile_var c.is_global c.the c.◌>>=◌ go_on var_up_to_define
  var_splits name v span s e = rw e ((past _ last).is s)

  -- what holds where the step comes

  function_at : (type : FunctionType) (name : ℕ) (params : List ℕ) (body : Stmts) (span : Span) (g : Nest) →
      Triple (At g) (function_up_to_end limit type name params body span) (λ _. At (inside g))
  unfolding function_up_to_end
  function_at type name params body span g = do
    need _ _
    depth ← the _
    (at_laws limit).begin_ctx _ _ _ _ g
    (at_laws limit).declare_local _ _ _
    (at_laws limit).define_local _
    keeps.declare_params Nest At limit _ _ _ _ (at_laws limit) params _ _
    keeps.compile_stmts Nest At limit _ _ _ _ (at_laws limit) body _
    keeps.implicit_return Nest At limit _ _ _ _ (at_laws limit) _

  class_at : (span : Span) (name : ℕ) (sup : Option Superclass) (methods : Methods) (g : Nest) →
      Triple (At g) (class_up_to_pop limit span name sup methods) (λ _. At (in_class (c.is_some sup) g))
  unfolding class_up_to_pop
  class_at span name sup methods g = do
    emit_op_constant Nest At at_moves limit _ _ _ g
    keeps.define_name Nest At limit _ _ _ _ (at_laws limit) _ _ g
    (at_laws limit).push_class_ctx _ g
    keeps.compile_superclass Nest At limit _ _ _ _ (at_laws limit) _ sup _ _
    either (c.some_methods methods)
        (do
          get_variable Nest At at_moves limit _ _ _
          keeps.compile_methods Nest At limit _ _ _ _ (at_laws limit) methods _
          emit_op Nest At at_moves limit _ _ _)
        skip
    keeps.end_superclass Nest At limit _ _ _ _ (at_laws limit) sup _

  declared_one : (name : ℕ) (span : Span) (n : ℕ) → Triple (Locals n) (c.declare_local name span) (λ _. Locals (suc n))
  unfolding c.declare_local c.update_ctx
  declared_one name span n = do
    ctx ← the _
    need _ _
    need _ _
    record { run = λ s i. ap suc i }

  var_locals : (name : ℕ) (v : Option Expr) (span : Span) (n : ℕ) → Triple (Locals n) (var_up_to_define limit name v span) (λ _. Locals (suc n))
  unfolding var_up_to_define
  var_locals name v span n = declared_one name span n >> keeps.compile_value ℕ Locals limit _ (expr_laws ℕ Locals locals_move limit) v span (suc n)

  -- where the compiler comes to its end, the script alone is open
  pub script_alone : (stmts : Stmts) → After (λ _ t. length t.parents ≡ 0) (c.compile_script limit stmts c.new)
  unfolding c.compile_script
  script_alone stmts = (so at_end (λ _ t i. i.levels)).run c.new (record { levels = refl; classes = refl })
    where
      outside : Nest
      outside = record { levels = 0; classes = [] }

      at_end : Triple (At outside) (c.compile_script limit stmts) (λ _. At outside)
      at_end = do
        keeps.compile_stmts Nest At limit _ _ _ _ (at_laws limit) stmts outside
        emit_op Nest At at_moves limit _ _ outside
        emit_op Nest At at_moves limit _ _ outside

-- ## The laws

pub record Impossible (limit : ℕ) : Type 0 where
  -- a function's context is ended where there is one around it, which was put there when the function was begun
  pub function_is : (type : FunctionType) (name : ℕ) (params : List ℕ) (body : Stmts) (span : Span) (s : Compiler) →
      c.compile_function limit (fun name params body) type span s ≡ c.◌>>◌ (function_up_to_end limit type name params body span) (c.end_function limit span) s
  pub end_ctx_has_parent : (type : FunctionType) (name : ℕ) (params : List ℕ) (body : Stmts) (span : Span) (s : Compiler) →
      After (λ _ t. length t.parents ≡ suc (length s.parents)) (function_up_to_end limit type name params body span s)
  -- a class is left where it was entered
  pub class_is : (span : Span) (name : ℕ) (sup : Option Superclass) (methods : Methods) (s : Compiler) →
      c.compile_stmt limit (StmtClass span name sup methods) s ≡ c.◌>>◌ (class_up_to_pop limit span name sup methods) c.pop_class_ctx s
  pub pop_class_ctx_has_class : (span : Span) (name : ℕ) (sup : Option Superclass) (methods : Methods) (s : Compiler) →
      After (λ _ t. t.class_ctx ≡ c.is_some sup ∷ s.class_ctx) (class_up_to_pop limit span name sup methods s)
  -- `define_local` comes right after `declare_local`, for slot 0, a parameter, `super`, a function's and a class's name; with a value in between for a `var`
  pub declare_local_leaves_local : (name : ℕ) (span : Span) (s : Compiler) →
      After (λ _ t. length t.ctx.locals ≡ suc (length s.ctx.locals)) (c.declare_local name span s)
  pub var_is : (name : ℕ) (value : Option Expr) (span : Span) (s : Compiler) → eqb s.ctx.scope_depth 0 ≡ false →
      c.compile_var limit name value span s ≡ c.◌>>◌ (var_up_to_define limit name value span) c.define_local s
  pub define_local_has_local : (name : ℕ) (value : Option Expr) (span : Span) (s : Compiler) →
      After (λ _ t. length t.ctx.locals ≡ suc (length s.ctx.locals)) (var_up_to_define limit name value span s)
  -- of an open function with at most 256 of each, every index is a byte
  pub slot_is_a_byte : (x : CompilerCtx) (name slot : ℕ) → Few x → c.find_local name x.locals ≡ at_slot slot → slot < 256
  pub upvalue_is_a_byte : (x : CompilerCtx) (around : List CompilerCtx) (u : Upvalue) (span : Span) (idx : ℕ) (x' : CompilerCtx) (around' : List CompilerCtx) →
      Few x → c.add_upvalue u span x around ≡ captured idx x' around' → (idx < 256) × (length x'.upvalues ≤ 256)
  pub constant_is_a_byte : (x : CompilerCtx) (value : Constant) (place : ℕ) (ch : Chunk) → Few x → write_constant x.chunk value ≡ at_place place ch → place < 256
  -- and every open function has: at the start, after every small step (`Laws` lists them; the last two are steps inside of those), and so after every
  -- expression and row of statements
  pub fits_at_start : Fits c.new
  pub fits_after_steps : Laws (Unit {0}) (λ _. Fits) limit (λ _ g. g) (λ _ g. g) (λ g. g) (λ _ g. g)
  pub fits_after_byte : (b : ℕ) (span : Span) → Triple Fits (c.emit_u8 limit b span) (λ _. Fits)
  pub fits_after_end_ctx : Triple Fits c.end_ctx (λ _. Fits)
  pub fits_after_expr : (e : Expr) → Triple Fits (c.compile_expr limit e) (λ _. Fits)
  pub fits_after_stmts : (ts : Stmts) → Triple Fits (c.compile_stmts limit ts) (λ _. Fits)

pub impossible : (limit : ℕ) → Impossible limit
impossible limit =
    record {
      function_is = λ type name params body span s. (function_splits limit type name params body span).is s;
      end_ctx_has_parent =
          λ type name params body span s. (so (function_at limit type name params body span (here s)) (λ _ t i. i.levels)).run s
          (record { levels = refl; classes = refl });
      class_is = λ span name sup methods s. (class_splits limit span name sup methods).is s;
      pop_class_ctx_has_class =
          λ span name sup methods s. (so (class_at limit span name sup methods (here s)) (λ _ t i. i.classes)).run s
          (record { levels = refl; classes = refl });
      declare_local_leaves_local = λ name span s. (declared_one limit name span (length s.ctx.locals)).run s refl;
      var_is = λ name value span s e. var_splits limit name value span s e;
      define_local_has_local = λ name value span s. (var_locals limit name value span (length s.ctx.locals)).run s refl;
      slot_is_a_byte = λ x name slot f e. omega (arith, slot_inside name x.locals slot e, f.locals);
      upvalue_is_a_byte =
          λ x around u span idx x' around' f e. let k : Kept x around idx x' around' = subst (KeptIf x around) e (add_upvalue u span x around around (sames around)) in
          (k.byte f, (k.inner.few f).upvalues);
      constant_is_a_byte = λ x value place ch f e. byte_of x.chunk place ch (subst (Placed x.chunk) e (placed x.chunk value)) f.constants;
      fits_at_start = record { inner = record { locals = omega arith; upvalues = omega arith; constants = omega arith }; outer = tt };
      fits_after_steps = fit_laws limit;
      fits_after_byte = λ b span. emit_u8 (Unit {0}) Fit fit_moves limit b span tt;
      fits_after_end_ctx = fit_updates.end_ctx tt;
      fits_after_expr = λ e. keeps.compile_expr (Unit {0}) Fit limit _ (expr_laws (Unit {0}) Fit fit_moves limit) e tt;
      fits_after_stmts = λ ts. keeps.compile_stmts (Unit {0}) Fit limit _ _ _ _ (fit_laws limit) ts tt;
    }
  where
    here : Compiler → Nest
    here s = record { levels = length s.parents; classes = s.class_ctx }

    byte_of : (ch : Chunk) (place : ℕ) (ch' : Chunk) → Placed ch (at_place place ch') → length ch.constants ≤ 256 → place < 256
    byte_of ch place ch' p l = (p l).0
