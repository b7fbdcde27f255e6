-- A fact of the state that may grow by what a step costs: `J g k s` holds of a state at level `g` where `k` has been spent. From `J` before and
-- enough left below `top`, a step comes to `J` with its cost added, or refuses in an allowed way. The steps of `Steps` that only put others together
-- have this for every `J`; what is left to show of one `J` are the steps that change the state.
use mathlib.Core.Bool.{Bool, true, false}
use Prim.Native.Nat.{ℕ, ◌+◌, ◌≤◌}
use native.Mathlib.Omega.{arith}
use lib.Dec.{T}
use Rattle.std.specs.Prelude.{if◌then◌else◌}
use Rattle.rules.specs.declared.Refusal.{Refusal}
use Rattle.rules.specs.Compiler as c
use Rattle.rules.specs.Compiler.{Compiler, Compile, Outcome, ok, err, go_on}

module _ {level : Type 0} (J : level → ℕ → Compiler → Type 0) (Allowed : Refusal → Type 0) (top : ℕ) where
  abbrev pub Ends : {A : Type 0} → level → ℕ → Outcome A → Type 0
  Ends g k (ok a s) = J g k s
  Ends g k (err x) = Allowed x.what

  pub record Spends {A : Type 0} (g h : level) (n : ℕ) (m : Compile A) : Type 0 where
    pub run : (s : Compiler) (k : ℕ) → k + n ≤ top → J g k s → Ends h (k + n) (m s)

  module _ (more : (g : level) (k k' : ℕ) (s : Compiler) → k ≤ k' → J g k s → J g k' s) where
    pub ends_more : {A : Type 0} (g : level) (k k' : ℕ) (o : Outcome A) → k ≤ k' → Ends g k o → Ends g k' o
    ends_more g k k' (ok a s) l h = more g k k' s l h
    ends_more g k k' (err x) l h = h

    on : {A B : Type 0} (h i : level) (n n' k : ℕ) (o : Outcome A) (f : A → Compile B) → k + (n + n') ≤ top → Ends h (k + n) o →
        ((a : A) → Spends h i n' (f a)) → Ends i (k + (n + n')) (go_on o f)
    unfolding go_on
    on h i n n' k (ok a t) f l e hf = ends_more i (k + n + n') (k + (n + n')) (f a t) (omega arith) ((hf a).run t (k + n) (omega arith) e)
    on h i n n' k (err x) f l e hf = e

    pub bind : {A B : Type 0} {g h i : level} {n n' : ℕ} {m : Compile A} {f : A → Compile B} → Spends g h n m → ((a : A) → Spends h i n' (f a)) →
        Spends g i (n + n') (c.◌>>=◌ m f)
    unfolding c.◌>>=◌
    bind {h = h} {i = i} {n = n} {n' = n'} {m = m} {f = f} hm hf =
        record { run = λ s k l j. on h i n n' k (m s) f l (hm.run s k (omega arith) j) hf }

    pub follow : {A B : Type 0} {g h i : level} {n n' : ℕ} {m : Compile A} {p : Compile B} → Spends g h n m → Spends h i n' p →
        Spends g i (n + n') (c.◌>>◌ m p)
    unfolding c.◌>>◌
    follow {h = h} {i = i} {n = n} {n' = n'} {m = m} {p = p} hm hp =
        record { run = λ s k l j. on h i n n' k (m s) (λ _. p) l (hm.run s k (omega arith) j) (λ _. hp) }

    pub enough : {A : Type 0} {g h : level} {n n' : ℕ} {m : Compile A} → Spends g h n m → n ≤ n' → Spends g h n' m
    enough {h = h} {n = n} {n' = n'} {m = m} hm b =
        record { run = λ s k l j. ends_more h (k + n) (k + n') (m s) (omega arith) (hm.run s k (omega arith) j) }

    -- a step that spends nothing, and one that spends
    pub free : {A : Type 0} {g h : level} {m : Compile A} → ((s : Compiler) (k : ℕ) → J g k s → Ends h k (m s)) → Spends g h 0 m
    free {h = h} {m = m} f = record { run = λ s k l j. ends_more h k (k + 0) (m s) (omega arith) (f s k j) }

    pub return : {A : Type 0} {g : level} (a : A) → Spends g g 0 (c.return a)
    unfolding c.return
    return a = free (λ s k j. j)

    pub the : {A : Type 0} {g : level} (f : Compiler → A) → Spends g g 0 (c.the f)
    unfolding c.the
    the f = free (λ s k j. j)

    pub need : {g : level} (b : Bool) (r : Refusal) → Allowed r → Spends g g 0 (c.need b r)
    unfolding c.need
    need true r a = free (λ s k j. j)
    need false r a = free (λ s k j. a)

    pub refuse : {A : Type 0} {g h : level} (r : Refusal) → Allowed r → Spends {A = A} g h 0 (c.refuse r)
    unfolding c.refuse
    refuse r a = free (λ s k j. a)

    pub needs : {A : Type 0} {g h : level} {n : ℕ} {m : Compile A} (b : Bool) (r : Refusal) → Allowed r → (T b → Spends g h n m) →
        Spends g h n (c.◌>>◌ (c.need b r) m)
    unfolding c.◌>>◌ c.need go_on
    needs true r a f = record { run = λ s k l j. (f tt).run s k l j }
    needs false r a f = record { run = λ s k l j. a }

    pub done : {g : level} → Spends g g 0 c.done
    unfolding c.done
    done = return tt

    pub either : {A : Type 0} {g h : level} {n : ℕ} {m p : Compile A} (b : Bool) → Spends g h n m → Spends g h n p →
        Spends g h n (if b then m else p)
    either true hm hp = hm
    either false hm hp = hp
