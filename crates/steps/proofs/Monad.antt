-- Steps one after the other, however they are grouped, and steps that do nothing.
use mathlib.Core.Path.{◌≡◌, refl, subst, ◌∙◌}
use Prim.Native.Nat.{ℕ}
use Rattle.rules.specs.Compiler.{Compiler, Outcome, ok, err, Compile, go_on, return, done}
use Rattle.steps.specs.View.{Mem, Fit, Turn, steady, Gave, DidAs, Did}
use Rattle.steps.specs.Why.{Step}
use Rattle.std.specs.Prelude.{Ok, Err}
use Rattle.steps.proofs.Jumps.{ahead_none}

-- ## Grouping

pub regroup : {A B C : Type 0} (r : Outcome A) (f : A → Compile B) (g : B → Compile C) → go_on (go_on r f) g ≡ go_on r (λ a s. go_on (f a s) g)
unfolding go_on
regroup (ok a s) f g = refl
regroup (err x) f g = refl

-- steps that come to the same from every state come to the same later on
pub later : {A B : Type 0} (r : Outcome A) {f g : A → Compile B} → ((a : A) (s : Compiler) → f a s ≡ g a s) → go_on r f ≡ go_on r g
unfolding go_on
later (ok a s) h = h a s
later (err x) h = refl

-- a step that comes to another from every state
module _ {class limit l n : ℕ} {e : Turn} {m m' : Compile Unit} {before now : Mem} (h : (s : Compiler) → m' s ≡ m s) where
  like_as : (r : Step) → Did class limit l n e m before now r → DidAs class limit l n e m' before now r
  like_as (Ok v) d = (record { comes = λ rest q. h _ ∙ d.does.0.comes rest q; agrees = d.does.0.agrees; ahead = d.does.0.ahead }, d.does.1)
  like_as (Err x) d = record { refuses = λ rest q. h _ ∙ d.does.refuses rest q }

  pub like : {r : Step} → Did class limit l n e m before now r → Did class limit l n e m' before now r
  like {r} d = record { does = like_as r d }

-- the place to read on by another name
pub on_to : {class limit l k n : ℕ} {e : Turn} {m : Compile Unit} {before now : Mem} {r : Step} → k ≡ n → Did class limit l k e m before now r → Did class limit l n e m before now r
on_to {class} {limit} {l} {e = e} {m = m} {before = before} {now = now} {r = r} q d = subst (λ (j : ℕ). Did class limit l j e m before now r) q d

-- ## Nothing is done

pub returned : {A : Type 0} {class limit l : ℕ} (v : A) {m : Mem} → Fit m l limit → Gave class limit l steady (return v) v m m
unfolding return
returned v fit = record { comes = λ rest q. refl; agrees = λ rest q. q; ahead = ahead_none fit }

pub nothing : {class limit l : ℕ} {m : Mem} → Fit m l limit → Gave class limit l steady done tt m m
unfolding done
nothing fit = returned tt fit

-- ## A place is handed on: steps that end in it, and what goes on from it

module _ {B : Type 0} (k : ℕ → Compile B) where
  cut_one : (q : Outcome Unit) (j : ℕ) → go_on q (λ _. k j) ≡ go_on (go_on q (λ _. return j)) k
  unfolding go_on return
  cut_one (ok u s) j = refl
  cut_one (err x) j = refl

  cut_two : (q : Outcome Unit) (p : Compile Unit) (j : ℕ) → go_on q (λ _ s. go_on (p s) (λ _. k j)) ≡ go_on (go_on q (λ _ s. go_on (p s) (λ _. return j))) k
  unfolding go_on
  cut_two (ok u s) p j = cut_one (p s) j
  cut_two (err x) p j = refl

  pub cut_and : (r : Outcome ℕ) (p : Compile Unit) → go_on r (λ j s. go_on (p s) (λ _. k j)) ≡ go_on (go_on r (λ j s. go_on (p s) (λ _. return j))) k
  unfolding go_on
  cut_and (ok j s) p = cut_one (p s) j
  cut_and (err x) p = refl

  pub cut_later : (r : Outcome ℕ) (q p : Compile Unit) → go_on r (λ j s. go_on (q s) (λ _ s. go_on (p s) (λ _. k j))) ≡ go_on (go_on r (λ j s. go_on (q s) (λ _ s. go_on (p s) (λ _. return j)))) k
  unfolding go_on
  cut_later (ok j s) q p = cut_two (q s) p j
  cut_later (err x) q p = refl

  pub cut_or : (r : Outcome ℕ) (b : Compile ℕ) (q : ℕ → Compile Unit) (p : Compile Unit)
      → go_on r (λ i s. go_on (b s) (λ j s. go_on (q i s) (λ _ s. go_on (p s) (λ _. k j)))) ≡ go_on (go_on r (λ i s. go_on (b s) (λ j s. go_on (q i s) (λ _ s. go_on (p s) (λ _. return j))))) k
  unfolding go_on
  cut_or (ok i s) b q p = cut_later (b s) (q i) p
  cut_or (err x) b q p = refl
