-- 30 by the sentence of document 01: "a byte would take the open functions' code, summed, past the code limit". Beside each step stand here what it does
-- where no limit is met, and the states of that run right after each byte. The step under a limit does the same, unless in one of these states the
-- open functions' code, summed, is more than the limit: then it is refused by 30, in the function that is innermost in the first such state. So the limit
-- that a tree needs is the peak of these sums.
use mathlib.Core.Path.{◌≡◌, refl, sym, ap, subst, subst⁻¹, ◌∙◌}
use mathlib.Core.Bool.{Bool, true, false}
use mathlib.Core.List.{List, ◌∷◌, ◌++◌, []}
use Prim.Native.Nat.{ℕ, suc, ◌+◌, ◌≤◌, ◌<◌, max}
use native.Mathlib.Omega.{arith}
use lib.ListN.{length, length-set}
use lib.Dec.{T, ltb, leb, leb→le, nleb→lt}
use Rattle.std.specs.Prelude.{if◌then◌else◌}
use Rattle.rules.specs.declared.Span.{Span}
use Rattle.rules.specs.declared.Refusal.{Refusal}
use Rattle.rules.specs.declared.Refusal.TheVariants.{CodeFull, TooManyConstants}
use Rattle.rules.specs.declared.Stopped.{Stopped}
use Rattle.rules.specs.Tree.{Stmts}
use Rattle.rules.specs.Chunk.{Chunk, Constant, CF, Written, at_place, no_room, write_constant, ObjectFunction}
use Rattle.rules.specs.Compiler as c
use Rattle.rules.specs.Compiler.{Compiler, CompilerCtx, Compile, Outcome, ok, err, go_on, Found, at_slot, uninitialized, no_local, Resolved, captured, nowhere, failed, Upvalue, Local, FunctionType}
use Rattle.rules_laws.proofs.Refusals.{Rusts, RefusedBy}
use Rattle.rules_laws.proofs.Steps as steps
use Rattle.rules_laws.proofs.Steps.{Laws}
use Rattle.rules_laws.proofs.Trees.{anything, stmts_any}
use Rattle.rules_laws.proofs.Sizes.{emitted, byte_fits, byte_full, one_more, Placed, placed, Likes, RaisedIf, open_code_step}
use Rattle.rules_laws.proofs.Sizes as sizes

-- ## The run that meets no limit

-- the lengths of the functions' code: of the open ones, the innermost first, and of the finished ones, in order
abbrev pub Lengths : Type 0
Lengths = List ℕ × List ℕ

abbrev pub of_open : List CompilerCtx → List ℕ
of_open [] = []
of_open (x ∷ xs) = length x.chunk.ops ∷ of_open xs

abbrev pub of_finished : List ObjectFunction → List ℕ
of_finished [] = []
of_finished (f ∷ fs) = length f.chunk.ops ∷ of_finished fs

abbrev pub lengths : Compiler → Lengths
lengths s = (of_open (s.ctx ∷ s.parents), of_finished s.functions)

-- what may happen to them between two bytes: functions are opened, with no code, and the innermost is finished
pub data Still : Lengths → Lengths → Type 0 where
  same : {x : Lengths} → Still x x
  opened : {ls fs : List ℕ} {y : Lengths} → Still (0 ∷ ls, fs) y → Still (ls, fs) y
  ended : {n : ℕ} {ls fs : List ℕ} {y : Lengths} → Still (ls, fs ++ (n ∷ [])) y → Still (n ∷ ls, fs) y

-- a run: the states right after each of its bytes, each of which is one more of the innermost function's code, and what it comes to
pub data Path {A : Type 0} : Lengths → List Compiler → Outcome A → Type 0 where
  comes_to : {x : Lengths} {a : A} {t : Compiler} → Still x (lengths t) → Path x [] (ok a t)
  refuses : {x : Lengths} {y : Stopped} → Rusts y.what → Path x [] (err y)
  byte : {n : ℕ} {x : Lengths} {ls fs : List ℕ} {t : Compiler} {ts : List Compiler} {o : Outcome A} → Still x (n ∷ ls, fs) →
      lengths t ≡ (suc n ∷ ls, fs) →
      Path (lengths t) ts o → Path x (t ∷ ts) o

abbrev pub sum : List ℕ → ℕ
sum [] = 0
sum (n ∷ ns) = n + sum ns

-- the most that the open functions' code comes to, summed, in any of these states
abbrev pub peak : List Compiler → ℕ
peak [] = 0
peak (t ∷ ts) = max (c.open_code t) (peak ts)

-- the first of these states in which it is more than the limit
pub data FirstAbove (limit : ℕ) : List Compiler → Compiler → Type 0 where
  here : {t : Compiler} {ts : List Compiler} → limit < c.open_code t → FirstAbove limit (t ∷ ts) t
  later : {t u : Compiler} {ts : List Compiler} → c.open_code t ≤ limit → FirstAbove limit ts u → FirstAbove limit (t ∷ ts) u

-- 30, in the function whose byte came to that state
pub record Full {A : Type 0} (limit : ℕ) (ts : List Compiler) (o : Outcome A) : Type 0 where
  pub moment : Compiler
  pub first : FirstAbove limit ts moment
  pub is : o ≡ err (c.stopped CodeFull moment)

pub full_by_30 : {A : Type 0} {limit : ℕ} {ts : List Compiler} {o : Outcome A} → Full limit ts o → RefusedBy CodeFull o
full_by_30 h = subst⁻¹ (RefusedBy CodeFull) h.is refl

-- a step, given for every limit
pub record Counted {A : Type 0} (m : ℕ → Compile A) : Type 0 where
  -- what it does where no limit is met, and the states right after each of its bytes, to its end or its first refusal
  pub freely : Compile A
  pub moments : Compiler → List Compiler
  pub path : (s : Compiler) → Path (lengths s) (moments s) (freely s)
  -- under a limit the same, or 30
  pub fits : (limit : ℕ) (s : Compiler) → peak (moments s) ≤ limit → m limit s ≡ freely s
  pub full : (limit : ℕ) (s : Compiler) → limit < peak (moments s) → Full limit (moments s) (m limit s)

-- ## Steps put together

peak_both : (ts us : List Compiler) → peak (ts ++ us) ≡ max (peak ts) (peak us)
peak_both [] us = omega arith
peak_both (t ∷ ts) us = omega (arith, peak_both ts us)

first_left : {limit : ℕ} {ts : List Compiler} {t : Compiler} (us : List Compiler) → FirstAbove limit ts t → FirstAbove limit (ts ++ us) t
first_left us (here l) = here l
first_left us (later l h) = later l (first_left us h)

first_right : {limit : ℕ} (ts : List Compiler) {us : List Compiler} {t : Compiler} → peak ts ≤ limit → FirstAbove limit us t → FirstAbove limit (ts ++ us) t
first_right [] l h = h
first_right (t ∷ ts) l h = later {t = t} (omega arith) (first_right ts (omega arith) h)

still_both : {x y z : Lengths} → Still x y → Still y z → Still x z
still_both same h = h
still_both (opened g) h = opened (still_both g h)
still_both (ended g) h = ended (still_both g h)

-- what comes after a step, if it comes to something
abbrev after : {A : Type 0} → Outcome A → (A → Compiler → List Compiler) → List Compiler
after (ok a t) f = f a t
after (err x) f = []

start : {A : Type 0} {x y : Lengths} {ts : List Compiler} {o : Outcome A} → Still x y → Path y ts o → Path x ts o
start h (comes_to g) = comes_to (still_both h g)
start h (refuses a) = refuses a
start h (byte g e p) = byte (still_both h g) e p

path_both : {A B : Type 0} {x : Lengths} {ts : List Compiler} {o : Outcome A} (f : A → Compile B) (g : A → Compiler → List Compiler) →
    ((a : A) (t : Compiler) → Path (lengths t) (g a t) (f a t)) → Path x ts o → Path x (ts ++ after o g) (go_on o f)
unfolding go_on
path_both f g h (comes_to {a = a} {t = t} st) = start st (h a t)
path_both f g h (refuses a) = refuses a
path_both f g h (byte st e p) = byte st e (path_both f g h p)

module _ {A B : Type 0} {m : ℕ → Compile A} {f : ℕ → A → Compile B} (hm : Counted m) (hf : (a : A) → Counted (λ limit. f limit a)) where
  both_fit : (limit : ℕ) (o o' : Outcome A) → o ≡ o' → peak (after o' (λ a. (hf a).moments)) ≤ limit → go_on o (f limit) ≡ go_on o' (λ a. (hf a).freely)
  unfolding go_on
  both_fit limit o (ok a t) e l = ap (λ (o : Outcome A). go_on o (f limit)) e ∙ (hf a).fits limit t l
  both_fit limit o (err x) e l = ap (λ (o : Outcome A). go_on o (f limit)) e

  later_full : (limit : ℕ) (ts : List Compiler) (o o' : Outcome A) → o ≡ o' → peak ts ≤ limit → limit < peak (after o' (λ a. (hf a).moments)) →
      Full limit (ts ++ after o' (λ a. (hf a).moments)) (go_on o (f limit))
  unfolding go_on
  later_full limit ts o (ok a t) e b l =
      let h = (hf a).full limit t l in
      record { moment = h.moment; first = first_right ts b h.first; is = ap (λ (o : Outcome A). go_on o (f limit)) e ∙ h.is }
  later_full limit ts o (err x) e b l = absurd (omega arith)

  full_by : (limit : ℕ) (s : Compiler) (b : Bool) → leb (peak (hm.moments s)) limit ≡ b →
      limit < peak (hm.moments s ++ after (hm.freely s) (λ a. (hf a).moments)) →
      Full limit (hm.moments s ++ after (hm.freely s) (λ a. (hf a).moments)) (go_on (m limit s) (f limit))
  unfolding go_on
  full_by limit s true e l =
      later_full limit (hm.moments s) (m limit s) (hm.freely s) (hm.fits limit s (leb→le (peak (hm.moments s)) limit (rw e tt)))
      (leb→le (peak (hm.moments s)) limit (rw e tt))
      (omega (
        arith,
        l,
        peak_both (hm.moments s) (after (hm.freely s) (λ a. (hf a).moments)),
        leb→le (peak (hm.moments s)) limit (rw e tt),
      ))
  full_by limit s false e l =
      let h = hm.full limit s (nleb→lt (peak (hm.moments s)) limit (rw e tt)) in
      record { moment = h.moment; first = first_left _ h.first; is = ap (λ (o : Outcome A). go_on o (f limit)) h.is }

  bind : Counted (λ limit. c.◌>>=◌ (m limit) (f limit))
  unfolding c.◌>>=◌
  bind =
      record {
        freely = c.◌>>=◌ hm.freely (λ a. (hf a).freely);
        moments = λ s. hm.moments s ++ after (hm.freely s) (λ a. (hf a).moments);
        path = λ s. path_both (λ a. (hf a).freely) (λ a. (hf a).moments) (λ a t. (hf a).path t) (hm.path s);
        fits = λ limit s l.
            both_fit limit (m limit s) (hm.freely s)
            (hm.fits limit s (omega (arith, l, peak_both (hm.moments s) (after (hm.freely s) (λ a. (hf a).moments)))))
            (omega (arith, l, peak_both (hm.moments s) (after (hm.freely s) (λ a. (hf a).moments))));
        full = λ limit s l. full_by limit s (leb (peak (hm.moments s)) limit) refl l;
      }

infixl 10 ◌>>=◌
◌>>=◌ : {A B : Type 0} {m : ℕ → Compile A} {f : ℕ → A → Compile B} → Counted m → ((a : A) → Counted (λ limit. f limit a)) →
    Counted (λ limit. c.◌>>=◌ (m limit) (f limit))
hm >>= hf = bind hm hf

infixl 10 ◌>>◌
◌>>◌ : {A B : Type 0} {m : ℕ → Compile A} {p : ℕ → Compile B} → Counted m → Counted p → Counted (λ limit. c.◌>>◌ (m limit) (p limit))
unfolding c.◌>>◌ c.◌>>=◌
◌>>◌ {p = p} hm hp = bind {f = λ limit _. p limit} hm (λ _. hp)

needs : {A : Type 0} {m : ℕ → Compile A} (b : Bool) (r : Refusal) → Rusts r → (T b → Counted m) → Counted (λ limit. c.◌>>◌ (c.need b r) (m limit))
unfolding c.◌>>◌ c.need go_on
needs true r a h =
    record {
      freely = (h tt).freely;
      moments = (h tt).moments;
      path = λ s. (h tt).path s;
      fits = λ limit s l. (h tt).fits limit s l;
      full = λ limit s l. (h tt).full limit s l;
    }
needs false r a h =
    record {
      freely = λ s. err (c.stopped r s);
      moments = λ s. [];
      path = λ s. refuses a;
      fits = λ limit s l. refl;
      full = λ limit s l. absurd (omega arith);
    }

either : {A : Type 0} {m p : ℕ → Compile A} (b : Bool) → Counted m → Counted p → Counted (λ limit. if b then m limit else p limit)
either true hm hp = hm
either false hm hp = hp

-- ## Steps that write nothing

abbrev Rests : {A : Type 0} → Compiler → Outcome A → Type 0
Rests s (ok a t) = Still (lengths s) (lengths t)
Rests s (err x) = Rusts x.what

rested : {A : Type 0} (s : Compiler) (o : Outcome A) → Rests s o → Path (lengths s) [] o
rested s (ok a t) h = comes_to h
rested s (err x) h = refuses h

-- a step that does not know the limit and leaves the lengths, or opens or ends a function
quiet : {A : Type 0} (m : Compile A) → ((s : Compiler) → Rests s (m s)) → Counted (λ _. m)
quiet m h =
    record {
      freely = m;
      moments = λ s. [];
      path = λ s. rested s (m s) (h s);
      fits = λ limit s l. refl;
      full = λ limit s l. absurd (omega arith);
    }

return : {A : Type 0} (a : A) → Counted (λ _. c.return a)
unfolding c.return
return a = quiet (c.return a) (λ s. same)

done : Counted (λ _. c.done)
unfolding c.done
done = return tt

the : {A : Type 0} (f : Compiler → A) → Counted (λ _. c.the f)
unfolding c.the
the f = quiet (c.the f) (λ s. same)

need : (b : Bool) (r : Refusal) → Rusts r → Counted (λ _. c.need b r)
unfolding c.need
need true r a = quiet (c.need true r) (λ s. same)
need false r a = quiet (c.need false r) (λ s. a)

refuse : {A : Type 0} (r : Refusal) → Rusts r → Counted {A = A} (λ _. c.refuse r)
unfolding c.refuse
refuse r a = quiet (c.refuse r) (λ s. a)

still_eq : {x y : Lengths} → y ≡ x → Still x y
still_eq {x} e = subst⁻¹ (λ (y : Lengths). Still x y) e same

-- a change of the current context that leaves its code as long
update : (f : CompilerCtx → CompilerCtx) → ((x : CompilerCtx) → length (f x).chunk.ops ≡ length x.chunk.ops) → Counted (λ _. c.update_ctx f)
unfolding c.update_ctx
update f h = quiet (c.update_ctx f) (λ s. still_eq (ap (λ (n : ℕ). (n ∷ of_open s.parents, of_finished s.functions)) (h s.ctx)))

declare_local : (name : ℕ) (span : Span) → Counted (λ _. c.declare_local name span)
unfolding c.declare_local
declare_local name span = do
  ctx ← the _
  need _ _ tt
  need _ _ tt
  update _ (λ x. refl)

define_local : Counted (λ _. c.define_local)
unfolding c.define_local
define_local = update _ (λ x. refl)

begin_scope : Counted (λ _. c.begin_scope)
unfolding c.begin_scope
begin_scope = update _ (λ x. refl)

patch_jump : (at : ℕ) (span : Span) → Counted (λ _. c.patch_jump at span)
unfolding c.patch_jump c.code_length c.set_u16
patch_jump at span = do
  size ← the _
  need _ _ tt
  update _ (λ x. simp length-set refl)

push_class_ctx : (b : Bool) → Counted (λ _. c.push_class_ctx b)
unfolding c.push_class_ctx
push_class_ctx b = quiet (c.push_class_ctx b) (λ s. same)

pop_class_ctx : Counted (λ _. c.pop_class_ctx)
unfolding c.pop_class_ctx
pop_class_ctx = quiet c.pop_class_ctx (λ s. same)

begin_ctx : (name arity depth : ℕ) (type : FunctionType) → Counted (λ _. c.begin_ctx (c.new_ctx name arity type depth))
unfolding c.begin_ctx
begin_ctx name arity depth type = quiet (c.begin_ctx (c.new_ctx name arity type depth)) (λ s. opened same)

pub finished_both : (fs gs : List ObjectFunction) → of_finished (fs ++ gs) ≡ of_finished fs ++ of_finished gs
finished_both [] gs = refl
finished_both (f ∷ fs) gs = ap (λ (ns : List ℕ). length f.chunk.ops ∷ ns) (finished_both fs gs)

end_ctx : Counted (λ _. c.end_ctx)
unfolding c.end_ctx c.◌>>=◌ go_on c.the c.back_to c.finish
end_ctx = quiet c.end_ctx (λ s. by_parents s s.parents refl)
  where
    by_parents : (s : Compiler) (ps : List CompilerCtx) → s.parents ≡ ps → Rests s (c.back_to ps s)
    by_parents s [] e = same
    by_parents s (p ∷ ps) e =
        ended (still_eq (ap (λ (ns : List ℕ). (of_open (p ∷ ps), ns)) (finished_both s.functions (c.finish s.ctx ∷ []))
        ∙ ap (λ (qs : List CompilerCtx). (of_open qs, of_finished s.functions ++ (length s.ctx.chunk.ops ∷ []))) (sym e)))

-- a name that is looked up: contexts change, and their code does not
likes_lengths : (xs ys : List CompilerCtx) → Likes xs ys → of_open ys ≡ of_open xs
likes_lengths [] [] h = refl
likes_lengths [] (y ∷ ys) h = absurd h
likes_lengths (x ∷ xs) [] h = absurd h
likes_lengths (x ∷ xs) (y ∷ ys) h =
    ap (λ (n : ℕ). n ∷ of_open ys) h.0.ops ∙ ap (λ (ls : List ℕ). length x.chunk.ops ∷ ls) (likes_lengths xs ys h.1)

resolved : (f : Found) (outer : Resolved) (name : ℕ) (span : Span) (s : Compiler) → RaisedIf s.ctx s.parents outer →
    Rests s (c.resolved f outer name span s)
unfolding c.resolved c.◌>>◌ go_on c.put_ctxs c.return c.refuse
resolved (at_slot slot) outer name span s h = same
resolved uninitialized outer name span s h = tt
resolved no_local (captured idx ctx parents) name span s h = still_eq (ap (λ (ls : List ℕ). (ls, of_finished s.functions)) (likes_lengths (s.ctx ∷ s.parents) (ctx ∷ parents) h))
resolved no_local nowhere name span s h = same
resolved no_local (failed r) name span s h = h

resolve : (name : ℕ) (span : Span) → Counted (λ _. c.resolve name span)
unfolding c.resolve c.◌>>=◌ go_on c.get
resolve name span =
    quiet (c.resolve name span)
    (λ s. resolved (c.find_local name s.ctx.locals) (c.resolve_upvalue name span s.ctx s.parents) name span s
    (sizes.resolve_upvalue name span s.ctx s.parents))

-- ## Steps that write

open_code_emitted : (s : Compiler) (b : ℕ) (span : Span) → c.open_code (emitted s b span) ≡ c.open_code s + 1
unfolding c.open_code
open_code_emitted s b span = omega (arith, one_more s.ctx.chunk b span)

emit_u8 : (b : ℕ) (span : Span) → Counted (λ limit. c.emit_u8 limit b span)
emit_u8 b span =
    record {
      freely = λ s. ok tt (emitted s b span);
      moments = λ s. emitted s b span ∷ [];
      path = λ s. byte same (longer s) (comes_to same);
      fits = λ limit s l. byte_fits limit s b span (omega (arith, l, open_code_emitted s b span));
      full = λ limit s l. record {
        moment = emitted s b span;
        first = here {t = emitted s b span} (omega (arith, l));
        is = byte_full limit s b span (omega (arith, l, open_code_emitted s b span));
      };
    }
  where
    longer : (s : Compiler) → lengths (emitted s b span) ≡ (suc (length s.ctx.chunk.ops) ∷ of_open s.parents, of_finished s.functions)
    longer s =
        let e : length (emitted s b span).ctx.chunk.ops ≡ suc (length s.ctx.chunk.ops) = omega (arith, one_more s.ctx.chunk b span) in
        ap (λ (n : ℕ). (n ∷ of_open s.parents, of_finished s.functions)) e

-- the current context with a constant more, and then the byte that says where it stands; or no room for the constant
abbrev pooled : Compiler → Chunk → Compiler
pooled s ch = c.with_ctx s (c.with_chunk s.ctx ch)

abbrev place_freely : Written → Span → Compile Unit
place_freely (at_place place ch) span s = (emit_u8 place span).freely (pooled s ch)
place_freely no_room span s = err (c.stopped (TooManyConstants span) s)

abbrev place_moments : Written → Span → Compiler → List Compiler
place_moments (at_place place ch) span s = (emit_u8 place span).moments (pooled s ch)
place_moments no_room span s = []

place_path : (w : Written) (span : Span) (s : Compiler) → Placed s.ctx.chunk w → Path (lengths s) (place_moments w span s) (place_freely w span s)
unfolding Placed
place_path (at_place place ch) span s e =
    start (still_eq (ap (λ (ops : List ℕ). (length ops ∷ of_open s.parents, of_finished s.functions)) e)) ((emit_u8 place span).path (pooled s ch))
place_path no_room span s e = refuses tt

place_fits : (w : Written) (span : Span) (limit : ℕ) (s : Compiler) → peak (place_moments w span s) ≤ limit →
    c.emit_place limit w span s ≡ place_freely w span s
unfolding c.emit_place c.◌>>◌ go_on c.update_ctx c.refuse
place_fits (at_place place ch) span limit s l = (emit_u8 place span).fits limit (pooled s ch) l
place_fits no_room span limit s l = refl

place_full : (w : Written) (span : Span) (limit : ℕ) (s : Compiler) → limit < peak (place_moments w span s) →
    Full limit (place_moments w span s) (c.emit_place limit w span s)
unfolding c.emit_place c.◌>>◌ go_on c.update_ctx c.refuse
place_full (at_place place ch) span limit s l = (emit_u8 place span).full limit (pooled s ch) l
place_full no_room span limit s l = absurd (omega arith)

emit_constant : (v : Constant) (span : Span) → Counted (λ limit. c.emit_constant limit v span)
unfolding c.emit_constant c.◌>>=◌ go_on c.the
emit_constant v span =
    record {
      freely = λ s. place_freely (write_constant s.ctx.chunk v) span s;
      moments = λ s. place_moments (write_constant s.ctx.chunk v) span s;
      path = λ s. place_path (write_constant s.ctx.chunk v) span s (placed s.ctx.chunk v);
      fits = λ limit s l. place_fits (write_constant s.ctx.chunk v) span limit s l;
      full = λ limit s l. place_full (write_constant s.ctx.chunk v) span limit s l;
    }

pop_locals : (ls : List Local) (span : Span) → Counted (λ limit. c.pop_locals limit ls span)
unfolding c.pop_locals c.emit_op
pop_locals [] span = done
pop_locals (x ∷ xs) span = do
  depth ← the _
  either (ltb depth x.depth)
      (do
        emit_u8 _ _
        update _ (λ x. refl)
        pop_locals xs span)
      done

end_scope : (span : Span) → Counted (λ limit. c.end_scope limit span)
unfolding c.end_scope
end_scope span = do
  update _ (λ x. refl)
  locals ← the _
  pop_locals locals span

emit_upvalues : (us : List Upvalue) (span : Span) → Counted (λ limit. c.emit_upvalues limit us span)
unfolding c.emit_upvalues
emit_upvalues [] span = done
emit_upvalues (u ∷ us) span = do
  emit_u8 _ _
  emit_u8 _ _
  emit_upvalues us span

end_function : (span : Span) → Counted (λ limit. c.end_function limit span)
unfolding c.end_function c.emit_closure
end_function span = do
  (number, upvalues) ← end_ctx
  emit_u8 _ _
  emit_constant (CF number) span
  emit_upvalues upvalues span

laws : Laws anything (λ A g h n w m. Counted {A = A} m)
laws =
    record {
      no_span = tt;
      this_named = tt;
      super_named = tt;
      ◌>>=◌ = λ hm hf. hm >>= hf;
      ◌>>◌ = λ hm hp. hm >> hp;
      enough = λ hm b b'. hm;
      needs = λ b r o f. needs b r o f;
      return = λ a. return a;
      the = λ f. the f;
      need = λ b r o. need b r o;
      refuse = λ r o. refuse r o;
      resolve = λ name span. resolve name span;
      patch_jump = λ at span. patch_jump at span;
      declare_local = λ name span. declare_local name span;
      define_local = define_local;
      begin_scope = begin_scope;
      push_class_ctx = λ b. push_class_ctx b;
      pop_class_ctx = pop_class_ctx;
      begin_ctx = λ name arity depth type inner up n a. begin_ctx name arity depth type;
      emit_u8 = λ b span n. emit_u8 b span;
      emit_constant = λ v span o n. emit_constant v span;
      end_scope = λ span n. end_scope span;
      end_function = λ span up n. end_function span;
    }

-- ## The whole

-- `compile_functions`, up to where it starts
whole : (stmts : Stmts) →
    Counted (λ limit. c.◌>>◌ (c.compile_script limit stmts) (c.the (λ (s : Compiler). s.functions ++ (c.finish s.ctx ∷ []))))
whole stmts = steps.compile_script anything (λ A g h n w m. Counted {A = A} m) laws stmts 0 (stmts_any stmts 0) >> the _

module _ (stmts : Stmts) where
  -- what the compiler comes to where no limit is met, and the states right after each byte, to the end or the first refusal
  pub free_run : Outcome (List ObjectFunction)
  free_run = (whole stmts).freely c.new

  pub moments_of : List Compiler
  moments_of = (whole stmts).moments c.new

  -- it starts with the script open, which has no code, and no function finished
  pub run_path : Path (0 ∷ [], []) moments_of free_run
  unfolding free_run moments_of
  run_path = (whole stmts).path c.new

  -- the same under every limit that is not below the peak, and 30 under every other, in the function whose byte is the first to pass it
  pub peak_fits : (limit : ℕ) → peak moments_of ≤ limit → c.compile_functions limit stmts ≡ free_run
  unfolding c.compile_functions free_run moments_of
  peak_fits limit l = (whole stmts).fits limit c.new l

  pub peak_full : (limit : ℕ) → limit < peak moments_of → Full limit moments_of (c.compile_functions limit stmts)
  unfolding c.compile_functions free_run moments_of
  peak_full limit l = (whole stmts).full limit c.new l

  -- 30 is no answer of the run that meets no limit
  pub free_run_not_full : RefusedBy CodeFull free_run → ⊥
  free_run_not_full e = by_path run_path e
    where
      by_path : {x : Lengths} {ts : List Compiler} {o : Outcome (List ObjectFunction)} → Path x ts o → RefusedBy CodeFull o → ⊥
      by_path (comes_to h) e = e
      by_path (refuses a) e = subst Rusts e a
      by_path (byte h d p) e = by_path p e

-- ## What is counted

-- the rules' own sum is that of the open functions' lengths
pub open_code_is : (s : Compiler) → c.open_code s ≡ sum (lengths s).0
unfolding c.open_code
open_code_is s = by_parents s.ctx s.parents
  where
    by_parents : (x : CompilerCtx) (ps : List CompilerCtx) → c.open_code (c.with_ctxs s x ps) ≡ sum (of_open (x ∷ ps))
    by_parents x [] = refl
    by_parents x (p ∷ ps) = omega (arith, open_code_step s x p ps, by_parents p ps)

abbrev pub all_of : Lengths → ℕ
all_of x = sum x.0 + sum x.1

pub sum_both : (ms ns : List ℕ) → sum (ms ++ ns) ≡ sum ms + sum ns
sum_both [] ns = omega arith
sum_both (m ∷ ms) ns = omega (arith, sum_both ms ns)

still_all : {x y : Lengths} → Still x y → all_of y ≡ all_of x
still_all same = refl
still_all (opened h) = omega (arith, still_all h)
still_all (ended {n} {ls} {fs} h) = omega (arith, still_all h, sum_both fs (n ∷ []))

-- a byte adds one to the code of all functions, and nothing else changes how much that is
abbrev pub AddsUp : {A : Type 0} → Lengths → List Compiler → Outcome A → Type 0
AddsUp x ts (ok a t) = all_of (lengths t) ≡ all_of x + length ts
AddsUp x ts (err y) = Unit {0}

pub adds_up : {A : Type 0} {x : Lengths} {ts : List Compiler} {o : Outcome A} → Path x ts o → AddsUp x ts o
adds_up (comes_to h) = omega (arith, still_all h)
adds_up (refuses a) = tt
adds_up {A} {x = x} (byte {n = n} {ls = ls} {fs = fs} {t = t} {ts = ts} {o = o} h e p) = onward o (adds_up p)
  where
    onward : (o : Outcome A) → AddsUp (lengths t) ts o → AddsUp x (t ∷ ts) o
    onward (ok a u) k = omega (arith, k, still_all h, ap all_of e)
    onward (err y) k = tt
