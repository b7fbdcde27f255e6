-- Which functions are open where the compiler stops: those that were open where it started, in their order, and over them what was opened since, each of a type
-- other than the script's. `Steps` has what each step of the compiler has; here are the steps.
use mathlib.Core.Path.{◌≡◌, refl, ap, ◌∙◌}
use mathlib.Core.Bool.{Bool, true, false}
use mathlib.Core.List.{List, ◌∷◌, ◌++◌, []}
use Prim.Native.Nat.{ℕ, suc, ◌+◌}
use native.Mathlib.Omega.{arith}
use lib.ListN.{length, length-append, drop}
use lib.Dec.{T, ltb}
use Rattle.std.specs.Prelude.{if◌then◌else◌}
use Rattle.rules.specs.declared.Span.{Span}
use Rattle.rules.specs.declared.Refusal.{Refusal}
use Rattle.rules.specs.declared.Stopped.{Stopped}
use Rattle.rules.specs.Answer.{NO_SPAN}
use Rattle.rules.specs.Tree.{this_name, super_name}
use Rattle.rules.specs.Chunk.{Constant, CF, Written, at_place, no_room, write_constant}
use Rattle.rules.specs.Compiler as c
use Rattle.rules.specs.Compiler.{Compiler, CompilerCtx, Compile, Outcome, ok, err, go_on, Found, at_slot, uninitialized, no_local, Resolved, captured, nowhere, failed}
use Rattle.rules.specs.Compiler.{Upvalue, Local, FunctionType}
use Rattle.rules_laws.proofs.Facts.{All}
use Rattle.rules_laws.proofs.Trees.{Leaf, any_leaf, anything}
use Rattle.rules_laws.proofs.Steps.{Laws, Inner}
use Rattle.rules_laws.proofs.Sizes.{Likes, RaisedIf, resolve_upvalue}
use Rattle.rules_laws.proofs.TreeBytes.{fitting}

-- ## Which functions are open

-- by name and type
abbrev pub Who : Type 0
Who = ℕ × FunctionType

abbrev pub who : CompilerCtx → Who
who x = (x.name, x.type)

abbrev pub whos : List CompilerCtx → List Who
whos [] = []
whos (x ∷ xs) = who x ∷ whos xs

-- the innermost first
abbrev pub open_functions : Compiler → List Who
open_functions s = whos (s.ctx ∷ s.parents)

abbrev pub InnerOne : Who → Type 0
InnerOne w = Inner w.1

-- a name that is looked up changes neither
looked_up : (xs ys : List CompilerCtx) → Likes xs ys → whos ys ≡ whos xs
looked_up [] [] h = refl
looked_up [] (y ∷ ys) h = absurd h
looked_up (x ∷ xs) [] h = absurd h
looked_up (x ∷ xs) (y ∷ ys) h =
    ap (λ (n : ℕ). (n, y.type) ∷ whos ys) h.0.name
    ∙ ap (λ (t : FunctionType). (x.name, t) ∷ whos ys) h.0.type
    ∙ ap (λ (ws : List Who). who x ∷ ws) (looked_up xs ys h.1)

-- what is asked of a tree, and how many functions may have been opened, by the level
pub record Nests (l : Leaf) : Type 1 where
  pub no_span : l.span NO_SPAN
  pub this_named : l.name this_name
  pub super_named : l.name super_name
  pub deep : l.level → ℕ → Type 0
  pub begins : (g h : l.level) (n : ℕ) → l.opens g h → deep g n → deep h (suc n)
  pub ends : (g h : l.level) (n : ℕ) → l.opens g h → deep h (suc n) → deep g n
  -- a function ends only where one was opened
  pub some_open : (g h : l.level) → l.opens g h → deep h 0 → ⊥

module _ (l : Leaf) (nests : Nests l) (b : Who) (bs : List Who) where
  -- what was opened since, over those that were open before
  pub record At (g : l.level) (s : Compiler) : Type 0 where
    pub opened : List Who
    pub inner : All InnerOne opened
    pub are : open_functions s ≡ opened ++ (b ∷ bs)
    pub deep : nests.deep g (length opened)

  pub record Stop (x : Stopped) : Type 0 where
    pub state : Compiler
    pub is : x ≡ c.stopped x.what state
    pub level : l.level
    pub at : At level state

  abbrev pub Ends : {A : Type 0} → l.level → Outcome A → Type 0
  Ends h (ok a t) = At h t
  Ends h (err x) = Stop x

  pub record Goes {A : Type 0} (g h : l.level) (m : Compile A) : Type 0 where
    pub run : (s : Compiler) → At g s → Ends h (m s)

  -- ## Steps put together

  on : {A B : Type 0} {h i : l.level} (o : Outcome A) (f : A → Compile B) → Ends h o → ((a : A) → Goes h i (f a)) → Ends i (go_on o f)
  unfolding go_on
  on (ok a t) f j hf = (hf a).run t j
  on (err x) f j hf = j

  infixl 10 ◌>>=◌
  ◌>>=◌ : {A B : Type 0} {g h i : l.level} {m : Compile A} {f : A → Compile B} → Goes g h m → ((a : A) → Goes h i (f a)) → Goes g i (c.◌>>=◌ m f)
  unfolding c.◌>>=◌
  ◌>>=◌ {m = m} {f = f} hm hf = record { run = λ s j. on (m s) f (hm.run s j) hf }

  infixl 10 ◌>>◌
  pub ◌>>◌ : {A B : Type 0} {g h i : l.level} {m : Compile A} {p : Compile B} → Goes g h m → Goes h i p → Goes g i (c.◌>>◌ m p)
  unfolding c.◌>>◌
  ◌>>◌ {m = m} {p = p} hm hp = record { run = λ s j. on (m s) (λ _. p) (hm.run s j) (λ _. hp) }

  either : {A : Type 0} {g h : l.level} {m p : Compile A} (b : Bool) → Goes g h m → Goes g h p → Goes g h (if b then m else p)
  either true hm hp = hm
  either false hm hp = hp

  -- ## Steps that write nothing

  return : {A : Type 0} {g : l.level} (a : A) → Goes g g (c.return a)
  unfolding c.return
  return a = record { run = λ s j. j }

  done : {g : l.level} → Goes g g c.done
  unfolding c.done
  done = return tt

  the : {A : Type 0} {g : l.level} (f : Compiler → A) → Goes g g (c.the f)
  unfolding c.the
  the f = record { run = λ s j. j }

  stop : {g : l.level} (r : Refusal) (s : Compiler) → At g s → Stop (c.stopped r s)
  stop {g} r s j = record { state = s; is = refl; level = g; at = j }

  need : {g : l.level} (b : Bool) (r : Refusal) → Goes g g (c.need b r)
  unfolding c.need
  need true r = record { run = λ s j. j }
  need false r = record { run = λ s j. stop r s j }

  refuse : {A : Type 0} {g h : l.level} (r : Refusal) → Goes {A = A} g h (c.refuse r)
  unfolding c.refuse
  refuse r = record { run = λ s j. stop r s j }

  needs : {A : Type 0} {g h : l.level} {m : Compile A} (b : Bool) (r : Refusal) → (T b → Goes g h m) → Goes g h (c.◌>>◌ (c.need b r) m)
  unfolding c.◌>>◌ c.need go_on
  needs true r f = record { run = λ s j. (f tt).run s j }
  needs false r f = record { run = λ s j. stop r s j }

  -- the same functions are open
  still : {g : l.level} (s t : Compiler) → open_functions t ≡ open_functions s → At g s → At g t
  still s t e j = record { opened = j.opened; inner = j.inner; are = e ∙ j.are; deep = j.deep }

  -- a change of the current context that leaves its name and its type
  update : {g : l.level} (f : CompilerCtx → CompilerCtx) → ((x : CompilerCtx) → who (f x) ≡ who x) → Goes g g (c.update_ctx f)
  unfolding c.update_ctx
  update f h = record { run = λ s j. still s (c.with_ctx s (f s.ctx)) (ap (λ (w : Who). w ∷ whos s.parents) (h s.ctx)) j }

  declare_local : {g : l.level} (name : ℕ) (span : Span) → Goes g g (c.declare_local name span)
  unfolding c.declare_local
  declare_local name span = do
    ctx ← the _
    need _ _
    need _ _
    update _ (λ x. refl)

  define_local : {g : l.level} → Goes g g c.define_local
  unfolding c.define_local
  define_local = update _ (λ x. refl)

  patch_jump : {g : l.level} (at : ℕ) (span : Span) → Goes g g (c.patch_jump at span)
  unfolding c.patch_jump c.code_length
  patch_jump at span = do
    size ← the _
    need _ _
    update _ (λ x. refl)

  resolved : {g : l.level} (f : Found) (outer : Resolved) (name : ℕ) (span : Span) (s : Compiler) → At g s → RaisedIf s.ctx s.parents outer →
      Ends g (c.resolved f outer name span s)
  unfolding c.resolved c.◌>>◌ go_on c.put_ctxs c.return c.refuse
  resolved (at_slot slot) outer name span s j h = j
  resolved uninitialized outer name span s j h = stop _ s j
  resolved no_local (captured idx ctx parents) name span s j h =
      still s (c.with_ctxs s ctx parents) (looked_up (s.ctx ∷ s.parents) (ctx ∷ parents) h) j
  resolved no_local nowhere name span s j h = j
  resolved no_local (failed r) name span s j h = stop r s j

  resolve : {g : l.level} (name : ℕ) (span : Span) → Goes g g (c.resolve name span)
  unfolding c.resolve c.◌>>=◌ go_on c.get
  resolve name span =
      record {
        run =
            λ s j. resolved (c.find_local name s.ctx.locals) (c.resolve_upvalue name span s.ctx s.parents) name span s j
            (resolve_upvalue name span s.ctx s.parents);
      }

  -- ## Functions

  begin_ctx : {g h : l.level} (name arity depth : ℕ) (type : FunctionType) → Inner type → l.opens g h →
      Goes g h (c.begin_ctx (c.new_ctx name arity type depth))
  unfolding c.begin_ctx
  begin_ctx {g} {h} name arity depth type inner up =
      record {
        run =
            λ s j. record {
              opened = (name, type) ∷ j.opened;
              inner = (inner, j.inner);
              are = ap (λ (ws : List Who). (name, type) ∷ ws) j.are;
              deep = nests.begins g h (length j.opened) up j.deep;
            };
      }

  end_ctx : {g h : l.level} → l.opens g h → Goes h g c.end_ctx
  unfolding c.end_ctx c.◌>>=◌ go_on c.the c.back_to
  end_ctx {g} {h} up = record { run = λ s j. by_opened s s.parents j.opened j.are j.inner j.deep }
    where
      by_opened : (s : Compiler) (ps : List CompilerCtx) (os : List Who) → who s.ctx ∷ whos ps ≡ os ++ (b ∷ bs) → All InnerOne os →
          nests.deep h (length os) → Ends g (c.back_to ps s)
      by_opened s ps [] e is d = absurd (nests.some_open g h up d)
      by_opened s [] (o ∷ os) e is d = absurd (omega (arith, ap length e, length-append os (b ∷ bs)))
      by_opened s (p ∷ ps) (o ∷ os) e is d =
          record { opened = os; inner = is.1; are = ap (λ (ws : List Who). drop 1 ws) e; deep = nests.ends g h (length os) up d }

  -- ## Steps that write, under a code limit

  module _ (limit : ℕ) where
    emit_u8 : {g : l.level} (b : ℕ) (span : Span) → Goes g g (c.emit_u8 limit b span)
    unfolding c.emit_u8
    emit_u8 b span = do
      used ← the _
      need _ _
      update _ (λ x. refl)

    emit_place : {g : l.level} (w : Written) (span : Span) → Goes g g (c.emit_place limit w span)
    unfolding c.emit_place
    emit_place (at_place place ch) span = do
      update _ (λ x. refl)
      emit_u8 place span
    emit_place no_room span = refuse _

    emit_constant : {g : l.level} (v : Constant) (span : Span) → Goes g g (c.emit_constant limit v span)
    unfolding c.emit_constant
    emit_constant v span = do
      chunk ← the _
      emit_place (write_constant chunk v) span

    pop_locals : {g : l.level} (ls : List Local) (span : Span) → Goes g g (c.pop_locals limit ls span)
    unfolding c.pop_locals c.emit_op
    pop_locals [] span = done
    pop_locals (x ∷ xs) span = do
      depth ← the _
      either (ltb depth x.depth)
          (do
            emit_u8 _ _
            update _ (λ x. refl)
            pop_locals xs span)
          done

    end_scope : {g : l.level} (span : Span) → Goes g g (c.end_scope limit span)
    unfolding c.end_scope
    end_scope span = do
      update _ (λ x. refl)
      locals ← the _
      pop_locals locals span

    emit_upvalues : {g : l.level} (us : List Upvalue) (span : Span) → Goes g g (c.emit_upvalues limit us span)
    unfolding c.emit_upvalues
    emit_upvalues [] span = done
    emit_upvalues (u ∷ us) span = do
      emit_u8 _ _
      emit_u8 _ _
      emit_upvalues us span

    pub emit_closure : {g : l.level} (number : ℕ) (us : List Upvalue) (span : Span) → Goes g g (c.emit_closure limit number us span)
    unfolding c.emit_closure
    emit_closure number us span = do
      emit_u8 _ _
      emit_constant (CF number) span
      emit_upvalues us span

    end_function : {g h : l.level} (span : Span) → l.opens g h → Goes h g (c.end_function limit span)
    unfolding c.end_function
    end_function span up = do
      (number, upvalues) ← end_ctx up
      emit_closure number upvalues span

    abbrev pub R : (A : Type 0) → (g h : l.level) → (code image : ℕ) → (ℕ → Compile A) → Type 0
    R A g h code image m = Goes {A = A} g h (m limit)

    pub laws : Laws l R
    unfolding c.begin_scope c.push_class_ctx c.pop_class_ctx
    laws =
        record {
          no_span = nests.no_span;
          this_named = nests.this_named;
          super_named = nests.super_named;
          ◌>>=◌ = λ hm hf. hm >>= hf;
          ◌>>◌ = λ hm hp. hm >> hp;
          enough = λ hm b b'. hm;
          needs = λ b r o f. needs b r f;
          return = λ a. return a;
          the = λ f. the f;
          need = λ b r o. need b r;
          refuse = λ r o. refuse r;
          resolve = λ name span. resolve name span;
          patch_jump = λ at span. patch_jump at span;
          declare_local = λ name span. declare_local name span;
          define_local = define_local;
          begin_scope = update _ (λ x. refl);
          push_class_ctx = λ b. record { run = λ s j. still s _ refl j };
          pop_class_ctx = record { run = λ s j. still s _ refl j };
          begin_ctx = λ name arity depth type inner up n a. begin_ctx name arity depth type inner up;
          emit_u8 = λ b span n. emit_u8 b span;
          emit_constant = λ v span o n. emit_constant v span;
          end_scope = λ span n. end_scope span;
          end_function = λ span up n. end_function span up;
        }

-- ## How many may have been opened

-- no function is opened
abbrev pub flat : Leaf
flat = any_leaf (Unit {0}) (λ _ _. ⊥)

abbrev pub none_opened : Nests flat
none_opened =
    record {
      no_span = tt;
      this_named = tt;
      super_named = tt;
      deep = λ g n. n ≡ 0;
      begins = λ g h n up d. absurd up;
      ends = λ g h n up d. absurd up;
      some_open = λ g h up d. up;
    }

-- as many as the level says
abbrev pub any_opened : Nests anything
any_opened =
    record {
      no_span = tt;
      this_named = tt;
      super_named = tt;
      deep = λ g n. n ≡ g;
      begins = λ g h n up d. omega (arith, up);
      ends = λ g h n up d. omega (arith, up);
      some_open = λ g h up d. omega (arith, up);
    }

-- at most so many, of a tree that was read
abbrev pub few_opened : (most : ℕ) → Nests (fitting most)
few_opened most =
    record {
      no_span = record { start = omega arith; end = omega arith };
      this_named = omega arith;
      super_named = omega arith;
      deep = λ g n. n + g ≡ most;
      begins = λ g h n up d. omega (arith, up);
      ends = λ g h n up d. omega (arith, up);
      some_open = λ g h up d. omega (arith, up);
    }
