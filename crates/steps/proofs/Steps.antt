-- The laws of one step: what follows where a step stopped, and what where it went on. They match the rules' `do` blocks line by line.
use mathlib.Core.Path.{◌≡◌, refl, sym, ap, subst, ◌∙◌}
use mathlib.Core.Bool.{Bool, true, false}
use Prim.Native.Nat.{ℕ, ◌+◌, ◌-◌, ◌≤◌}
use native.Mathlib.Omega.{arith}
use native.Mathlib.Nat.{le_trans}
use Rattle.std.specs.Prelude.{if◌then◌else◌, Ok, Err}
use mathlib.Core.List.{List}
use Rattle.rules.specs.declared.Refusal.{Refusal}
use Rattle.rules.specs.declared.Stopped.{Stopped}
use Rattle.steps.specs.declared.Why.{Why}
use Rattle.steps.specs.Why.{Step, refusal_of, told}
use Rattle.rules.specs.Compiler.{Compiler, Outcome, ok, err, Compile, go_on, ◌>>=◌, ◌>>◌, need}
use Rattle.rules.specs.Compiler.{stopped as in-state}
use Rattle.steps.specs.View.{Mem, mem, t_of, Rest, view, Agrees, code_len, depth_at, Turn, ◌⨾◌, Ahead, Gave, Refused, DidAs, Did, OpenedAs, Opened, Told}
use Rattle.state.specs.Layout.{word, name_place}
use Rattle.state.proofs.Words.{and_left, and_right}
use Rattle.steps.proofs.Views.{stopped_in}

-- ## After a step

pub went : {class limit l n v : ℕ} {e : Turn} {m : Compile Unit} {before now : Mem} {r : Step} → Did class limit l n e m before now r → r ≡ Ok v → Gave class limit l e m tt before now
went {class} {limit} {l} {n} {v} {e} {m} {before} {now} d q = (subst (λ (s : Step). DidAs class limit l n e m before now s) q d.does).0

-- where to read on
pub valued : {class limit l n v : ℕ} {e : Turn} {m : Compile Unit} {before now : Mem} {r : Step} → Did class limit l n e m before now r → r ≡ Ok v → v ≡ n
valued {class} {limit} {l} {n} {v} {e} {m} {before} {now} d q = (subst (λ (s : Step). DidAs class limit l n e m before now s) q d.does).1

pub stuck : {class limit l n : ℕ} {e : Turn} {m : Compile Unit} {before now : Mem} {r : Step} {x : Why} → Did class limit l n e m before now r → r ≡ Err x → Refused class l m before (told (t_of now) x)
stuck {class} {limit} {l} {n} {e} {m} {before} {now} d q = subst (λ (s : Step). DidAs class limit l n e m before now s) q d.does

pub went_to : {class limit l v : ℕ} {e : Turn} {m : Compile ℕ} {before now : Mem} {r : Step} → Opened class limit l e m before now r → r ≡ Ok v → Gave class limit l e m v before now
went_to {class} {limit} {l} {v} {e} {m} {before} {now} d q = (subst (λ (s : Step). OpenedAs class limit l e m before now s) q d.does).0

pub placed : {class limit l v : ℕ} {e : Turn} {m : Compile ℕ} {before now : Mem} {r : Step} → Opened class limit l e m before now r → r ≡ Ok v → v + 2 ≤ code_len now l
placed {class} {limit} {l} {v} {e} {m} {before} {now} d q = (subst (λ (s : Step). OpenedAs class limit l e m before now s) q d.does).1

pub stuck_to : {class limit l : ℕ} {e : Turn} {m : Compile ℕ} {before now : Mem} {r : Step} {x : Why} → Opened class limit l e m before now r → r ≡ Err x → Refused class l m before (told (t_of now) x)
stuck_to {class} {limit} {l} {e} {m} {before} {now} d q = subst (λ (s : Step). OpenedAs class limit l e m before now s) q d.does

-- a place stays a place while the code grows
pub still : {class limit l : ℕ} (place : ℕ) {A : Type 0} {e : Turn} {m : Compile A} {v : A} {before now : Mem} → place + 2 ≤ code_len before l → Gave class
    limit l e m v before now → place + 2 ≤ code_len now l
still place h g = le_trans h g.ahead.up

-- ## An answer

pub next : {class limit l n : ℕ} {e : Turn} {m : Compile Unit} {before now : Mem} → Gave class limit l e m tt before now → Did class limit l n e m before now (Ok n)
next g = record { does = (g, refl) }

pub next_at : {class limit l v n : ℕ} {e : Turn} {m : Compile Unit} {before now : Mem} → Gave class limit l e m tt before now → v ≡ n → Did class limit l n e m before now (Ok v)
next_at g q = record { does = (g, q) }

-- the answer of a step that went on, made anew
pub anew : {class limit l n v : ℕ} {e : Turn} {m : Compile Unit} {before now : Mem} {r : Step} → Did class limit l n e m before now r → r ≡ Ok v → Did class limit l n e m before now (Ok n)
anew d q = next (went d q)

pub stop : {class limit l n : ℕ} {e : Turn} {m : Compile Unit} {before : Mem} {x : Why} (now : Mem) → Refused class l m before (told (t_of now) x) → Did class limit l n e m before now (Err x)
stop now h = record { does = h }

-- a step that stopped, whatever its answer's value was to be
stopped : {class limit l n : ℕ} {e : Turn} {m : Compile Unit} {before now : Mem} {r : Step} {x : Why} → r ≡ Err x → Refused class l m before (told (t_of now) x) → Did class limit l n e m before now r
stopped {class} {limit} {l} {n} {e} {m} {before} {now} q h = record { does = subst (λ (s : Step). DidAs class limit l n e m before now s) (sym q) h }

stopped_to : {class limit l : ℕ} {e : Turn} {m : Compile ℕ} {before now : Mem} {r : Step} {x : Why} → r ≡ Err x → Refused class l m before (told (t_of now) x) → Opened class limit l e m before now r
stopped_to {class} {limit} {l} {e} {m} {before} {now} q h = record { does = subst (λ (s : Step). OpenedAs class limit l e m before now s) (sym q) h }

-- ## One step and then another

module _ {class l : ℕ} {A B : Type 0} {m : Compile A} {before : Mem} {x : Stopped} (h : Refused class l m before x) where
  pub refused_bind : (f : A → Compile B) → Refused class l (m >>= f) before x
  unfolding ◌>>=◌ go_on
  refused_bind f = record { refuses = λ rest q. ap (λ (o : Outcome A). go_on o f) (h.refuses rest q) }

  pub refused_seq : (f : Compile B) → Refused class l (m >> f) before x
  unfolding ◌>>◌ go_on
  refused_seq f = record { refuses = λ rest q. ap (λ (o : Outcome A). go_on o (λ _. f)) (h.refuses rest q) }

pub ahead_then : {l limit : ℕ} {e f : Turn} {before mid now : Mem} → Ahead l limit e before mid → Ahead l limit f mid now → Ahead l limit (e ⨾ f) before now
ahead_then {e = e} {f = f} a b = record {
  fit = b.fit;
  up = le_trans a.up b.up;
  deep = b.deep ∙ ap f.depth a.deep;
  head = λ o h g. b.head o h g ∙ a.head o h g;
  under = λ k o h g i. b.under k o h g i ∙ a.under k o h g i;
  over = λ q i h g. b.over (and_right e.aloof f.aloof q) i h g ∙ a.over (and_left e.aloof f.aloof q) i h g;
  beyond = λ q i h. b.beyond (and_right e.aloof f.aloof q) i h ∙ a.beyond (and_left e.aloof f.aloof q) i h;
}

module _ {class limit l : ℕ} {e : Turn} {A B : Type 0} {m : Compile A} {v : A} {before mid : Mem} (g : Gave class limit l e m v before mid) where
  pub gave_bind : (next : A → Compile B) {f : Turn} {w : B} {now : Mem} → Gave (e.class class) limit l f (next v) w mid now → Gave class limit l (e ⨾ f) (m >>= next) w before now
  unfolding ◌>>=◌ go_on
  gave_bind next h = record {
    comes = λ rest q. ap (λ (o : Outcome A). go_on o next) (g.comes rest q) ∙ h.comes (e.rest rest) (g.agrees rest q);
    agrees = λ rest q. h.agrees (e.rest rest) (g.agrees rest q);
    ahead = ahead_then g.ahead h.ahead;
  }

  pub gave_seq : (next : Compile B) {f : Turn} {w : B} {now : Mem} → Gave (e.class class) limit l f next w mid now → Gave class limit l (e ⨾ f) (m >> next) w before now
  unfolding ◌>>◌ go_on
  gave_seq next h = record {
    comes = λ rest q. ap (λ (o : Outcome A). go_on o (λ _. next)) (g.comes rest q) ∙ h.comes (e.rest rest) (g.agrees rest q);
    agrees = λ rest q. h.agrees (e.rest rest) (g.agrees rest q);
    ahead = ahead_then g.ahead h.ahead;
  }

  pub gave_refused : (next : A → Compile B) {x : Stopped} → Refused (e.class class) l (next v) mid x → Refused class l (m >>= next) before x
  unfolding ◌>>=◌ go_on
  gave_refused next h = record { refuses = λ rest q. ap (λ (o : Outcome A). go_on o next) (g.comes rest q) ∙ h.refuses (e.rest rest) (g.agrees rest q) }

  pub gave_refused_seq : (next : Compile B) {x : Stopped} → Refused (e.class class) l next mid x → Refused class l (m >> next) before x
  unfolding ◌>>◌ go_on
  gave_refused_seq next h = record { refuses = λ rest q. ap (λ (o : Outcome A). go_on o (λ _. next)) (g.comes rest q) ∙ h.refuses (e.rest rest) (g.agrees rest q) }

-- a value and then a step
module _ {class limit l : ℕ} {e : Turn} {A : Type 0} {m : Compile A} {v : A} {before mid : Mem} (g : Gave class limit l e m v before mid) where
  did_bind_as : {f : Turn} (next : A → Compile Unit) {k : ℕ} {now : Mem} (r : Step) → Did (e.class class) limit l k f (next v) mid now r → DidAs class limit l k (e ⨾ f) (m >>= next) before now r
  did_bind_as next (Ok w) d = (gave_bind g next d.does.0, d.does.1)
  did_bind_as next (Err x) d = gave_refused g next d.does

  did_seq_as : {f : Turn} (next : Compile Unit) {k : ℕ} {now : Mem} (r : Step) → Did (e.class class) limit l k f next mid now r → DidAs class limit l k (e ⨾ f) (m >> next) before now r
  did_seq_as next (Ok w) d = (gave_seq g next d.does.0, d.does.1)
  did_seq_as next (Err x) d = gave_refused_seq g next d.does

  opened_bind_as : {f : Turn} (next : A → Compile ℕ) {now : Mem} (r : Step) → Opened (e.class class) limit l f (next v) mid now r → OpenedAs class limit l (e ⨾ f) (m >>= next) before now r
  opened_bind_as next (Ok w) d = (gave_bind g next d.does.0, d.does.1)
  opened_bind_as next (Err x) d = gave_refused g next d.does

  opened_seq_as : {f : Turn} (next : Compile ℕ) {now : Mem} (r : Step) → Opened (e.class class) limit l f next mid now r → OpenedAs class limit l (e ⨾ f) (m >> next) before now r
  opened_seq_as next (Ok w) d = (gave_seq g next d.does.0, d.does.1)
  opened_seq_as next (Err x) d = gave_refused_seq g next d.does

  pub did_bind : {f : Turn} (next : A → Compile Unit) {k : ℕ} {now : Mem} {r : Step} → Did (e.class class) limit l k f (next v) mid now r → Did class limit l k (e ⨾ f) (m >>= next) before now r
  did_bind next {r = r} d = record { does = did_bind_as next r d }

  pub did_seq : {f : Turn} (next : Compile Unit) {k : ℕ} {now : Mem} {r : Step} → Did (e.class class) limit l k f next mid now r → Did class limit l k (e ⨾ f) (m >> next) before now r
  did_seq next {r = r} d = record { does = did_seq_as next r d }

  pub opened_bind : {f : Turn} (next : A → Compile ℕ) {now : Mem} {r : Step} → Opened (e.class class) limit l f (next v) mid now r → Opened class limit l (e ⨾ f) (m >>= next) before now r
  opened_bind next {r = r} d = record { does = opened_bind_as next r d }

  pub opened_seq : {f : Turn} (next : Compile ℕ) {now : Mem} {r : Step} → Opened (e.class class) limit l f next mid now r → Opened class limit l (e ⨾ f) (m >> next) before now r
  opened_seq next {r = r} d = record { does = opened_seq_as next r d }

-- ## The lines of a `do` block. What stands after `>>` or `>>=` is the first argument, written `_` where it is known

-- a step that stopped is what a longer one comes to
pub halt : {class limit l n k : ℕ} {e f : Turn} {m : Compile Unit} (next : Compile Unit) {before now : Mem} {r : Step} {x : Why} → Did class limit l n e m
    before now r → r ≡ Err x → Did class limit l k f (m >> next) before now r
halt next d q = stopped q (refused_seq (stuck d q) next)

pub then_on : {class limit l n k v : ℕ} {e f : Turn} {m : Compile Unit} (next : Compile Unit) {before mid now : Mem} {r r' : Step} → Did class limit l n e m
    before mid r → r ≡ Ok v → Did (e.class class) limit l k f next mid now r' → Did class limit l k (e ⨾ f) (m >> next) before now r'
then_on next d q d' = did_seq (went d q) next d'

-- towards a place
pub halt_to : {class limit l n : ℕ} {e f : Turn} {m : Compile Unit} (next : Compile ℕ) {before now : Mem} {r : Step} {x : Why} → Did class limit l n e m
    before now r → r ≡ Err x → Opened class limit l f (m >> next) before now r
halt_to next d q = stopped_to q (refused_seq (stuck d q) next)

pub then_to : {class limit l n v : ℕ} {e f : Turn} {m : Compile Unit} (next : Compile ℕ) {before mid now : Mem} {r r' : Step} → Did class limit l n e m before
    mid r → r ≡ Ok v → Opened (e.class class) limit l f next mid now r' → Opened class limit l (e ⨾ f) (m >> next) before now r'
then_to next d q d' = opened_seq (went d q) next d'

-- a question first
module _ {class l : ℕ} {A : Type 0} {m : Compile A} {v : A} {before : Mem} (w : Told class l m v before) where
  ask_as : {limit k : ℕ} {e : Turn} (next : A → Compile Unit) {now : Mem} (r : Step) → Did class limit l k e (next v) before now r → DidAs class limit l k e (m >>= next) before now r
  unfolding ◌>>=◌ go_on
  ask_as next (Ok x) d = (
    record {
      comes = λ rest q. ap (λ (o : Outcome A). go_on o next) (w.says rest q) ∙ d.does.0.comes rest q;
      agrees =
          d.does.0.agrees;
      ahead = d.does.0.ahead;
    },
    d.does.1,
  )
  ask_as next (Err x) d = record { refuses = λ rest q. ap (λ (o : Outcome A). go_on o next) (w.says rest q) ∙ d.does.refuses rest q }

  pub ask : {limit k : ℕ} {e : Turn} (next : A → Compile Unit) {now : Mem} {r : Step} → Did class limit l k e (next v) before now r → Did class limit l k e (m >>= next) before now r
  ask next {r = r} d = record { does = ask_as next r d }

  pub ask_refused : {B : Type 0} (next : A → Compile B) {x : Stopped} → Refused class l (next v) before x → Refused class l (m >>= next) before x
  unfolding ◌>>=◌ go_on
  ask_refused next h = record { refuses = λ rest q. ap (λ (o : Outcome A). go_on o next) (w.says rest q) ∙ h.refuses rest q }

-- a question whose answer is thrown away
module _ {class l : ℕ} {A : Type 0} {m : Compile A} {v : A} {before : Mem} (w : Told class l m v before) where
  ask_seq_as : {limit k : ℕ} {e : Turn} (next : Compile Unit) {now : Mem} (r : Step) → Did class limit l k e next before now r → DidAs class limit l k e (m >> next) before now r
  unfolding ◌>>◌ go_on
  ask_seq_as next (Ok x) d = (
    record {
      comes = λ rest q. ap (λ (o : Outcome A). go_on o (λ _. next)) (w.says rest q) ∙ d.does.0.comes rest q;
      agrees =
          d.does.0.agrees;
      ahead = d.does.0.ahead;
    },
    d.does.1,
  )
  ask_seq_as next (Err x) d = record { refuses = λ rest q. ap (λ (o : Outcome A). go_on o (λ _. next)) (w.says rest q) ∙ d.does.refuses rest q }

  pub ask_seq : {limit k : ℕ} {e : Turn} (next : Compile Unit) {now : Mem} {r : Step} → Did class limit l k e next before now r → Did class limit l k e (m >> next) before now r
  ask_seq next {r = r} d = record { does = ask_seq_as next r d }

-- a test that is passed, and one that is not
pub passed : {class l : ℕ} (b : Bool) (x : Refusal) {m : Mem} → b ≡ true → Told class l (need b x) tt m
unfolding need
passed {l = l} b x {m = m} q = record { says = λ rest _. ap (λ (b : Bool). need b x (view m l rest)) q }

-- a refusal as the code names it, by a table that has the function's name still
pub refuses_in : {A : Type 0} {class l : ℕ} {m : Compile A} {before : Mem} (x : Why) → x.around ≡ l → (t' : List ℕ) →
    word t' l name_place ≡ word (t_of before) l name_place →
    ((rest : Rest) → Agrees class before rest → m (view before l rest) ≡ err (in-state (refusal_of x) (view before l rest))) →
    Refused class l m before (told t' x)
refuses_in {before = mem t code spans} x q t' e h = record {
  refuses = λ rest a.
      h rest a ∙ ap err (stopped_in t code spans rest (refusal_of x) e)
      ∙ λ i. err (record { what = refusal_of x; function = word t' (sym q i) name_place; around = sym q i });
}

pub failed : {class l : ℕ} (b : Bool) (x : Why) → x.around ≡ l → {m : Mem} → b ≡ false → Refused class l (need b (refusal_of x)) m (told (t_of m) x)
unfolding need
failed {l = l} b x a {m = m} q = refuses_in x a (t_of m) refl (λ rest _. ap (λ (b : Bool). need b (refusal_of x) (view m l rest)) q)

-- ## The same as equations, where the level or the classes change within a block

module _ {A B : Type 0} (m : Compile A) (x : Compiler) where
  pub seq_ok : {v : A} {y : Compiler} (next : Compile B) → m x ≡ ok v y → (m >> next) x ≡ next y
  unfolding ◌>>◌ go_on
  seq_ok next e = ap (λ (o : Outcome A). go_on o (λ _. next)) e

  pub bind_ok : {v : A} {y : Compiler} (next : A → Compile B) → m x ≡ ok v y → (m >>= next) x ≡ next v y
  unfolding ◌>>=◌ go_on
  bind_ok next e = ap (λ (o : Outcome A). go_on o next) e

  pub seq_err : {r : Stopped} (next : Compile B) → m x ≡ err r → (m >> next) x ≡ err r
  unfolding ◌>>◌ go_on
  seq_err next e = ap (λ (o : Outcome A). go_on o (λ _. next)) e

-- ## A choice, another name, another turn

pub chosen : {class limit l n : ℕ} {e : Turn} (m m' : Compile Unit) {before now : Mem} {r : Step} (b : Bool) → b ≡ true → Did class limit l n e m before now r →
    Did class limit l n e (if b then m else m') before now r
chosen {class} {limit} {l} {n} {e} m m' {before} {now} {r} b q d = subst (λ (b : Bool). Did class limit l n e (if b then m else m') before now r) (sym q) d

pub otherwise : {class limit l n : ℕ} {e : Turn} (m m' : Compile Unit) {before now : Mem} {r : Step} (b : Bool) → b ≡ false → Did class limit l n e m' before
    now r → Did class limit l n e (if b then m else m') before now r
otherwise {class} {limit} {l} {n} {e} m m' {before} {now} {r} b q d = subst (λ (b : Bool). Did class limit l n e (if b then m else m') before now r) (sym q) d

pub by_name : {class limit l n : ℕ} {e : Turn} {m m' : Compile Unit} {before now : Mem} {r : Step} → m ≡ m' → Did class limit l n e m before now r → Did class limit l n e m' before now r
by_name {class} {limit} {l} {n} {e} {before = before} {now = now} {r = r} q d = subst (λ (m : Compile Unit). Did class limit l n e m before now r) q d

module _ {e f : Turn} (p : (d : ℕ) → e.depth d ≡ f.depth d) (q : (c : ℕ) → e.class c ≡ f.class c) (s : (x : Rest) → e.rest x ≡ f.rest x) (o : f.aloof ≡ true → e.aloof ≡ true) where
  turn_as : {class limit l n : ℕ} {m : Compile Unit} {before now : Mem} (r : Step) → Did class limit l n e m before now r → DidAs class limit l n f m before now r
  turn_as {class} {limit} {l} {n} {m} {before} {now} (Ok v) d =
      let g = d.does.0 in
      let a = g.ahead in (
        record {
          comes = λ rest h. g.comes rest h ∙ ap (λ (x : Rest). ok tt (view now l x)) (s rest);
          agrees = λ rest h. subst (λ (c : ℕ). Agrees c now (f.rest rest)) (q class) (subst (λ (x : Rest). Agrees (e.class class) now x) (s rest) (g.agrees rest h));
          ahead = record { fit = a.fit; up = a.up; deep = a.deep ∙ p (depth_at before l); head = a.head; under = a.under; over = λ h. a.over (o h); beyond = λ h. a.beyond (o h) };
        },
        d.does.1,
      )
  turn_as (Err x) d = d.does

  -- a turn that comes to another, as a scope that is begun and ended comes to none
  pub turn : {class limit l n : ℕ} {m : Compile Unit} {before now : Mem} {r : Step} → Did class limit l n e m before now r → Did class limit l n f m before now r
  turn {r = r} d = record { does = turn_as r d }

pub one_up_one_down : (d : ℕ) → d + 1 - 1 ≡ d
one_up_one_down d = omega arith
