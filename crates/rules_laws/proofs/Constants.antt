-- In every image that the compiler gives, no function has two equal constants, and each function but the last is named by one constant in all.
use mathlib.Core.Path.{◌≡◌, refl, sym, ap, ◌∙◌, subst}
use mathlib.Core.Bool.{Bool, true, false, not}
use mathlib.Core.Option.{Option, none, some}
use mathlib.Core.List.{List, ◌∷◌, ◌++◌, append_assoc, append-nil, []}
use Prim.Native.Nat.{ℕ, zero, suc, ◌+◌, ◌≤◌, ◌<◌}
use native.Mathlib.Omega.{arith}
use native.Mathlib.Decide.{dec_lt}
use lib.ListN.{length, length-append, get_elem?}
use lib.Dec.{T, ltb, eqb, eqb→eq, eqb_refl, lt→ltb, ltb→lt}
use Rattle.rules.specs.Base.{all, position, one_on}
use Rattle.std.specs.Prelude.{if◌then◌else◌}
use Rattle.rules.specs.Tree.{Stmts}
use Rattle.rules.specs.Op as op
use Rattle.rules.specs.Chunk.{Constant, CF, same_constant, ObjectFunction}
use Rattle.rules.specs.Checker.{distinct, names, names_in_all}
use Rattle.rules.specs.Compiler as c
use Rattle.rules.specs.Compiler.{Outcome, ok, err}
use Rattle.rules_laws.proofs.Keeps.{After}
use Rattle.rules_laws.proofs.Layer as layer
use Rattle.rules_laws.proofs.Facts.{Fact, ChunkLaws, Grown, as_before, one_more, IsValue, with_constants, jump_bytes, loop_bytes, same_eq}
use Rattle.rules_laws.proofs.Tests.{both, left, right, all_cons, all_snoc}
use Rattle.rules_laws.proofs.Coded.{names_end, names_grown, write_constants}

-- ## No two are equal

none_cons : {A : Type 0} (p : A → Bool) (x : A) (xs : List A) → position p (x ∷ xs) ≡ none → (p x ≡ false) × (position p xs ≡ none)
unfolding position one_on
none_cons p x xs e = by_test (p x) refl (position p xs) refl e
  where
    by_test : (b : Bool) → p x ≡ b → (r : Option ℕ) → position p xs ≡ r → (if b then some 0 else one_on r) ≡ none → (p x ≡ false) × (position p xs ≡ none)
    by_test true t r e₁ e₂ = let z : ◌≡◌ {A = ℕ} 0 1 = cc in absurd (omega arith)
    by_test false t none e₁ e₂ = (t, e₁)
    by_test false t (some i) e₁ e₂ = let z : ◌≡◌ {A = ℕ} 0 1 = cc in absurd (omega arith)

unequal : (x v : Constant) → same_constant v x ≡ false → T (not (same_constant x v))
unequal x v e = by_test (same_constant x v) refl
  where
    by_test : (b : Bool) → same_constant x v ≡ b → T (not b)
    by_test true t =
        let same : x ≡ v = same_eq x v t in
        let t' : same_constant v x ≡ true = subst (λ (a : Constant). same_constant v a ≡ true) (sym same) (subst (λ (a : Constant). same_constant a v ≡ true) same t) in
        let z : ◌≡◌ {A = ℕ} 0 1 = cc in absurd (omega arith)
    by_test false t = tt

distinct_end : (cs : List Constant) (v : Constant) → position (same_constant v) cs ≡ none → T (distinct cs) → T (distinct (cs ++ (v ∷ [])))
unfolding distinct all
distinct_end [] v e t = tt
distinct_end (x ∷ cs) v e t =
    let n = none_cons (same_constant v) x cs e in
    both (all (λ other. not (same_constant x other)) (cs ++ (v ∷ []))) (distinct (cs ++ (v ∷ [])))
    (all_snoc (λ other. not (same_constant x other)) cs v (left (all (λ other. not (same_constant x other)) cs) (distinct cs) t) (unequal x v n.0))
    (distinct_end cs v n.1 (right (all (λ other. not (same_constant x other)) cs) (distinct cs) t))

-- ## Each finished function is named once

pub below : ℕ → ℕ → ℕ
below m number = if ltb number m then 1 else 0

below_yes : (m number : ℕ) → number < m → below m number ≡ 1
unfolding below
below_yes m number l = by_test (ltb number m) (lt→ltb number m l)
  where
    by_test : (b : Bool) → T b → ◌≡◌ {A = ℕ} (if b then 1 else 0) 1
    by_test true t = refl
    by_test false t = absurd t

below_no : (m number : ℕ) → m ≤ number → below m number ≡ 0
unfolding below
below_no m number l = by_test (ltb number m) refl
  where
    by_test : (b : Bool) → ltb number m ≡ b → ◌≡◌ {A = ℕ} (if b then 1 else 0) 0
    by_test true e = absurd (omega (arith, ltb→lt number m (rw e tt)))
    by_test false e = refl

same_yes : (m : ℕ) → names m (CF m ∷ []) ≡ 1
unfolding names same_constant
same_yes m = by_test (eqb m m) (eqb_refl m)
  where
    by_test : (b : Bool) → T b → (if b then 1 else 0) + 0 ≡ 1
    by_test true t = refl
    by_test false t = absurd t

same_no : (m number : ℕ) → ¬ (number ≡ m) → names number (CF m ∷ []) ≡ 0
unfolding names same_constant
same_no m number n = by_test (eqb number m) refl
  where
    by_test : (b : Bool) → eqb number m ≡ b → (if b then 1 else 0) + 0 ≡ 0
    by_test true e = absurd (n (eqb→eq number m (rw e tt)))
    by_test false e = refl

-- the function with the next number
next_one : (m number : ℕ) → names number (CF m ∷ []) + below m number ≡ below (m + 1) number
next_one m number = by_order (dec_lt number m) (dec_lt m number)
  where
    by_order : Dec (number < m) → Dec (m < number) → names number (CF m ∷ []) + below m number ≡ below (m + 1) number
    by_order (yes l) d = omega (arith, same_no m number (λ e. omega arith), below_yes m number l, below_yes (m + 1) number (omega arith))
    by_order (no l) (yes g) = omega (arith, same_no m number (λ e. omega arith), below_no m number (omega arith), below_no (m + 1) number (omega arith))
    by_order (no l) (no g) =
        let e : number ≡ m = omega arith in
        rw e (omega (arith, same_yes m, below_no m m (omega arith), below_yes (m + 1) m (omega arith)))

pub names_at : (cs : List Constant) (place number : ℕ) → get_elem? cs place ≡ some (CF number) → 1 ≤ names number cs
unfolding names
names_at [] place number e = let z : ◌≡◌ {A = ℕ} 0 1 = cc in absurd (omega arith)
names_at (x ∷ cs) zero number e =
    let z : x ≡ CF number = cc in
    let one : names number (x ∷ []) ≡ 1 = rw z (same_yes number) in
    omega (arith, one)
names_at (x ∷ cs) (suc place) number e = omega (arith, names_at cs place number e)

in_all_append : (number : ℕ) (fs gs : List ObjectFunction) → names_in_all number (fs ++ gs) ≡ names_in_all number fs + names_in_all number gs
unfolding names_in_all
in_all_append number [] gs = omega arith
in_all_append number (f ∷ fs) gs = omega (arith, in_all_append number fs gs)

-- of the functions finished since this one was opened, each is named once, by one of them or by this one
pub record Census (opened fs : List ObjectFunction) (cs : List Constant) : Type 0 where
  pub few : length cs ≤ 256
  pub unlike : T (distinct cs)
  pub since : List ObjectFunction
  pub all_of : fs ≡ opened ++ since
  pub once : (number : ℕ) → names_in_all number since + names number cs + below (length opened) number ≡ below (length fs) number

none_yet : (fs : List ObjectFunction) → Census fs fs []
unfolding distinct names_in_all names
none_yet fs = record { few = omega arith; unlike = tt; since = []; all_of = sym (append-nil fs); once = λ number. omega arith }

grows : {opened fs : List ObjectFunction} {cs ds : List Constant} → Grown IsValue cs ds → Census opened fs cs → Census opened fs ds
grows as_before h = h
grows {opened} {fs} {cs} (one_more v q e l) h =
    record {
      few = omega (arith, length-append cs (v ∷ []));
      unlike = distinct_end cs v e h.unlike;
      since = h.since;
      all_of = h.all_of;
      once = λ number. omega (arith, h.once number, names_grown number (one_more v q e l));
    }

closes : (opened fs gs : List ObjectFunction) (f : ObjectFunction) (cs ds : List Constant) (place : ℕ) → Grown (λ v. v ≡ CF (length (fs ++ gs))) cs ds →
    get_elem? ds place ≡ some (CF (length (fs ++ gs))) → Census fs (fs ++ gs) f.chunk.constants → Census opened fs cs → Census opened ((fs ++ gs) ++ (f ∷ [])) ds
unfolding names_in_all
closes opened fs gs f cs ds place as_before e q p =
    absurd (omega (arith, length-append fs gs, p.once (length (fs ++ gs)), names_at cs place (length (fs ++ gs)) e, below_no (length fs) (length (fs ++ gs)) (omega (arith, length-append fs gs))))
closes opened fs gs f cs ds place (one_more v is e l) there q p =
    record {
      few = omega (arith, length-append cs (v ∷ []));
      unlike = distinct_end cs v e p.unlike;
      since = (p.since ++ q.since) ++ (f ∷ []);
      all_of = all_of;
      once =
          λ number. omega (
            arith,
            p.once number,
            q.once number,
            in_all_append number (p.since ++ q.since) (f ∷ []),
            in_all_append number p.since
                q.since,
            names_end number cs v,
            named number,
            next number,
          );
    }
  where
    m : ℕ
    m = length (fs ++ gs)

    all_of : (fs ++ gs) ++ (f ∷ []) ≡ opened ++ ((p.since ++ q.since) ++ (f ∷ []))
    all_of = rw q.all_of (ap (λ (l : List ObjectFunction). (l ++ q.since) ++ (f ∷ [])) p.all_of ∙ simp append_assoc)

    named : (number : ℕ) → names number (v ∷ []) ≡ names number (CF m ∷ [])
    named number = ap (λ (w : Constant). names number (w ∷ [])) is

    next : (number : ℕ) → names number (CF m ∷ []) + below m number ≡ below (length ((fs ++ gs) ++ (f ∷ []))) number
    next number = rw (length-append (fs ++ gs) (f ∷ [])) (next_one m number)

abbrev P : Unit {0} → Fact
P k opened fs n ch = Census opened fs ch.constants

laws : (limit : ℕ) → ChunkLaws limit (Unit {0}) P tt (λ _ k. k) (λ _ k. k)
laws limit =
    record {
      empty = λ fs. none_yet fs;
      captures = λ k opened fs m n ch l b h. h;
      writes = λ kind st k opened fs n ch cs b bs span e g f r h. rw (write_constants (with_constants ch cs) (b ∷ bs) span) (grows g h);
      closes =
          λ k opened fs gs f n ch place cs ps span w e t b r i h. rw (write_constants (with_constants ch cs) (op.CLOSURE ∷ place ∷ ps) span)
          (closes opened fs gs f ch.constants cs place w.grown w.there i h);
      jumps = λ k opened fs n ch b span e r h. rw (write_constants ch (jump_bytes b) span) h;
      patches = λ k opened fs n ch at l h. h;
      marks = λ k opened fs n ch h. h;
      loops = λ k opened fs n ch at span l r h. rw (write_constants ch (loop_bytes (length ch.ops) at) span) h;
      swap_waits = λ i j k opened fs n ch h. h;
      swap_backs = λ i j k opened fs n ch h. h;
    }

-- of the functions of an image
pub record Named (fs : List ObjectFunction) : Type 0 where
  pub unlike : T (all (λ (f : ObjectFunction). distinct f.chunk.constants) fs)
  pub once : (number : ℕ) → number + 1 < length fs → names_in_all number fs ≡ 1

finished_unlike : (before fs : List ObjectFunction) → layer.Finished (Unit {0}) P tt before fs → T (all (λ (f : ObjectFunction). distinct f.chunk.constants) fs)
unfolding all
finished_unlike before [] h = tt
finished_unlike before (f ∷ fs) h =
    all_cons (λ (f : ObjectFunction). distinct f.chunk.constants) f fs h.0.1.unlike (finished_unlike (before ++ (f ∷ [])) fs h.1)

whole_named : (limit : ℕ) (fs : List ObjectFunction) → layer.Whole (Unit {0}) P tt (λ _ k. k) (λ _ k. k) limit (laws limit) fs → Named fs
unfolding names_in_all
whole_named limit fs w = rw w.is (record { unlike = unlike; once = once })
  where
    script : ObjectFunction
    script = w.script

    unlike : T (all (λ (f : ObjectFunction). distinct f.chunk.constants) (w.before ++ (script ∷ [])))
    unlike = all_snoc (λ (f : ObjectFunction). distinct f.chunk.constants) w.before script (finished_unlike [] w.before w.finished) w.last.unlike

    once : (number : ℕ) → number + 1 < length (w.before ++ (script ∷ [])) → names_in_all number (w.before ++ (script ∷ [])) ≡ 1
    once number l =
        let b : number < length w.before = omega (arith, length-append w.before (script ∷ [])) in
        let same : names_in_all number w.before ≡ names_in_all number w.last.since = ap (names_in_all number) w.last.all_of in
        omega (arith, same, w.last.once number, below_yes (length w.before) number b, below_no 0 number (omega arith), in_all_append number w.before (script ∷ []))

pub named : (limit : ℕ) (stmts : Stmts) → After (λ fs _. Named fs) (c.compile_functions limit stmts)
named limit stmts = after_map (c.compile_functions limit stmts) (layer.whole (Unit {0}) P tt (λ _ k. k) (λ _ k. k) limit (laws limit) stmts)
  where
    after_map : (o : Outcome (List ObjectFunction)) → After (λ fs _. layer.Whole (Unit {0}) P tt (λ _ k. k) (λ _ k. k) limit (laws limit) fs) o → After (λ fs _. Named fs) o
    after_map (ok fs s) w = whole_named limit fs w
    after_map (err x) w = tt
