-- Steps that may finish functions, one after the other: what they add to the output adds up, and whatever else they do is done in turn.
use Rattle.std.specs.Prelude.{Ok, Err}
use mathlib.Core.Path.{◌≡◌, refl, sym, ap, subst, ◌∙◌}
use mathlib.Core.Bool.{Bool, true, false, ◌&&◌}
use mathlib.Core.List.{List, ◌++◌, append_assoc, append-nil, []}
use Prim.Native.Nat.{ℕ, ◌+◌, ◌*◌, ◌-◌, ◌≤◌}
use native.Mathlib.Omega.{arith}
use native.Mathlib.Nat.{le_refl}
use lib.ListN.{get_or}
use Rattle.rules.specs.Chunk.{ObjectFunction}
use Rattle.rules.specs.Compiler.{Compiler, Outcome, ok, Compile, go_on, ◌>>=◌, ◌>>◌}
use Rattle.state.specs.Layout.{deepest, image_at}
use Rattle.steps.specs.View.{Mem, t_of, Rest, view, Agrees, Fit, depth_at, Turn, steady, ◌⨾◌, Ahead, Gave, Refused, Did, Told}
use Rattle.steps.proofs.Steps.{gave_bind, gave_seq, gave_refused, gave_refused_seq, ahead_then}
use Rattle.steps.proofs.Jumps.{ahead_none}
use Rattle.stmt_output_laws.specs.Output.{Holds, Added, more, grow, Grew, WorkedAs, Worked, Ready}
use Rattle.steps.specs.Why.{told, Step}
use Rattle.steps.specs.declared.Why.{Why}
use Rattle.rules.specs.declared.Stopped.{Stopped}

-- ## Another turn

and_second : (x : Bool) {A : Type 0} → (x && false) ≡ true → A
and_second true h = let z : ◌≡◌ {A = ℕ} 0 1 = cc in absurd (omega arith)
and_second false h = let z : ◌≡◌ {A = ℕ} 0 1 = cc in absurd (omega arith)

module _ {e f : Turn} (p : (d : ℕ) → e.depth d ≡ f.depth d) (q : (c : ℕ) → e.class c ≡ f.class c) (s : (x : Rest) → e.rest x ≡ f.rest x) (o : f.aloof ≡ true → e.aloof ≡ true) where
  pub turned : {class limit l : ℕ} {A : Type 0} {m : Compile A} {v : A} {before now : Mem} → Gave class limit l e m v before now → Gave class limit l f m v before now
  turned {class} {limit} {l} {A} {m} {v} {before} {now} g =
      let a = g.ahead in
      record {
        comes = λ rest h. g.comes rest h ∙ ap (λ (x : Rest). ok v (view now l x)) (s rest);
        agrees = λ rest h. subst (λ (c : ℕ). Agrees c now (f.rest rest)) (q class) (subst (λ (x : Rest). Agrees (e.class class) now x) (s rest) (g.agrees rest h));
        ahead = record { fit = a.fit; up = a.up; deep = a.deep ∙ p (depth_at before l); head = a.head; under = a.under; over = λ h. a.over (o h); beyond = λ h. a.beyond (o h) };
      }

-- ## What is added

pub added_none : {at n : ℕ} {t t' : List ℕ} (out : List ℕ) → at ≤ n → ((i : ℕ) → image_at ≤ i → get_or t' i 0 ≡ get_or t i 0) → Added at n [] t out t' out
added_none {at} {n} {t} {t'} out h k =
    let p = k image_at (le_refl image_at) in
    let q = k (image_at + 1) (omega arith) in
    record {
      put = λ functions g.
          subst (λ (fs : List ObjectFunction). Holds t' out fs) (sym (append-nil functions)) (record { bytes = g.bytes; long = q ∙ g.long; counted = g.counted });
      few = omega arith;
      little = omega arith;
    }

pub added_then : {at mid n : ℕ} {a b : List ObjectFunction} {t out t' out' t'' out'' : List ℕ} → Added at mid a t out t' out' → Added mid n b t' out' t'' out'' → Added at n (a ++ b) t out t'' out''
added_then {a = a} {b = b} {t'' = t''} {out'' = out''} x y =
    record {
      put = λ functions g. subst (λ (fs : List ObjectFunction). Holds t'' out'' fs) (append_assoc functions a b) (y.put (functions ++ a) (x.put functions g));
      few = let f = x.few in let g = y.few in omega arith;
      little = let f = x.little in let g = y.little in omega arith;
    }

-- steps that finish functions, one after the other
pub ahead_same : {l limit : ℕ} {a b c : List ObjectFunction} {before now : Mem} → Ahead l limit (grow a ⨾ (steady ⨾ grow b)) before now → Ahead l limit (grow c) before now
ahead_same a = record { fit = a.fit; up = a.up; deep = a.deep; head = a.head; under = a.under; over = λ h. and_second false h; beyond = λ h. and_second false h }

grown_none : {l limit : ℕ} {before now : Mem} {c : List ObjectFunction} → Ahead l limit steady before now → Ahead l limit (grow c) before now
grown_none a = record { fit = a.fit; up = a.up; deep = a.deep; head = a.head; under = a.under; over = λ h. and_second false h; beyond = λ h. and_second false h }

-- ## A run: steps whose turn is e, but for the functions that are finished on the way

pub record Run {A : Type 0} (class limit l at n : ℕ) (e : Turn) (m : Compile A) (v : A) (before : Mem) (out : List ℕ) (now : Mem) (out' : List ℕ) : Type 0 where
  pub made : List ObjectFunction
  pub gave : Gave class limit l (e ⨾ grow made) m v before now
  pub added : Added at n made (t_of before) out (t_of now) out'

-- what a turn makes of the rest it makes whatever functions are finished
pub record Free (e : Turn) : Type 0 where
  pub past : (made : List ObjectFunction) (rest : Rest) → e.rest (more made rest) ≡ more made (e.rest rest)

pub free_steady : Free steady
free_steady = record { past = λ made rest. refl }

pub more_more : (a b : List ObjectFunction) (rest : Rest) → more b (more a rest) ≡ more (a ++ b) rest
more_more a b rest = ap (λ (fs : List ObjectFunction). record { classes = rest.classes; functions = fs }) (append_assoc rest.functions a b)

more_none : (rest : Rest) → rest ≡ more [] rest
more_none rest = ap (λ (fs : List ObjectFunction). record { classes = rest.classes; functions = fs }) (sym (append-nil rest.functions))

module _ {class limit l : ℕ} {before now : Mem} where
  -- a step that finishes none
  pub of_gave : {at n : ℕ} {e : Turn} {A : Type 0} {m : Compile A} {v : A} (out : List ℕ) → e.aloof ≡ true → at ≤ n → Gave class limit l e m v before now → Run
      class limit l at n e m v before out now out
  of_gave {e = e} out a h g =
      record {
        made = [];
        gave = turned {e = e} {f = e ⨾ grow []} (λ d. refl) (λ c. refl) (λ x. more_none (e.rest x)) (and_second e.aloof) g;
        added = added_none out h (g.ahead.beyond a);
      }

  pub of_grew : {at n : ℕ} {m : Compile Unit} {out out' : List ℕ} → Grew class limit l at n m before out now out' → Run class limit l at n steady m tt before out now out'
  of_grew g = record { made = g.made; gave = g.gave; added = g.added }

  -- the turn comes to none
  pub to_grew : {at n : ℕ} {e : Turn} {m : Compile Unit} {out out' : List ℕ} → ((d : ℕ) → e.depth d ≡ d) → e.class class ≡ class → ((x : Rest) → e.rest x ≡ x)
      → Run class limit l at n e m tt before out now out' → Grew class limit l at n m before out now out'
  to_grew {e = e} p q s r =
      let g = r.gave in
      let a = g.ahead in
      record {
        made = r.made;
        gave = record {
          comes = λ rest h. g.comes rest h ∙ ap (λ (x : Rest). ok tt (view now l (more r.made x))) (s rest);
          agrees = λ rest h. subst (λ (c : ℕ). Agrees c now (more r.made rest)) q (subst (λ (x : Rest). Agrees (e.class class) now (more r.made x)) (s rest) (g.agrees rest h));
          ahead = record { fit = a.fit; up = a.up; deep = a.deep ∙ p (depth_at before l); head = a.head; under = a.under; over = λ h. and_second false h; beyond = λ h. and_second false h };
        };
        added = r.added;
      }

-- ## One after the other

joined : {class limit l : ℕ} (e f : Turn) (free : Free f) {B : Type 0} {w : B} {before now : Mem} {x : Compile B} (a b : List ObjectFunction) → Gave class limit
    l ((e ⨾ grow a) ⨾ (f ⨾ grow b)) x w before now
    → Gave class limit l ((e ⨾ f) ⨾ grow (a ++ b)) x w before now
joined e f free a b g =
    turned {e = (e ⨾ grow a) ⨾ (f ⨾ grow b)} {f = (e ⨾ f) ⨾ grow (a ++ b)} (λ d. refl) (λ c. refl)
    (λ x. ap (more b) (free.past a (e.rest x)) ∙ more_more a b (f.rest (e.rest x)))
    (and_second (e.aloof && f.aloof)) g

module _ {class limit l at mid n : ℕ} {e f : Turn} (free : Free f) {A B : Type 0} {m : Compile A} {v : A} {w : B} {before : Mem} {out : List ℕ} {between : Mem}
    {out' : List ℕ} {now : Mem} {out'' : List ℕ} where
  pub run_bind : (next : A → Compile B) → Run class limit l at mid e m v before out between out' → Run (e.class class) limit l mid n f (next v) w between out' now out''
      → Run class limit l at n (e ⨾ f) (m >>= next) w before out now out''
  run_bind next r s = record { made = r.made ++ s.made; gave = joined e f free r.made s.made (gave_bind r.gave next s.gave); added = added_then r.added s.added }

  pub run_seq : (next : Compile B) → Run class limit l at mid e m v before out between out' → Run (e.class class) limit l mid n f next w between out' now out''
      → Run class limit l at n (e ⨾ f) (m >> next) w before out now out''
  run_seq next r s = record { made = r.made ++ s.made; gave = joined e f free r.made s.made (gave_seq r.gave next s.gave); added = added_then r.added s.added }

-- a refusal after a run
module _ {class limit l at n : ℕ} {e : Turn} {A B : Type 0} {m : Compile A} {v : A} {before : Mem} {out : List ℕ} {now : Mem} {out' : List ℕ}
    (r : Run class limit l at n e m v before out now out') where
  pub run_refused : (next : A → Compile B) {x : Stopped} → Refused (e.class class) l (next v) now x → Refused class l (m >>= next) before x
  run_refused next h = gave_refused r.gave next h

  pub run_refused_seq : (next : Compile B) {x : Stopped} → Refused (e.class class) l next now x → Refused class l (m >> next) before x
  run_refused_seq next h = gave_refused_seq r.gave next h

-- ## Answers

module _ {class limit l at n : ℕ} {m : Compile Unit} {before : Mem} {out : List ℕ} {now : Mem} {out' : List ℕ} {r : Step} where
  pub grown : {v : ℕ} → Worked class limit l at n m before out now out' r → r ≡ Ok v → Grew class limit l at n m before out now out'
  grown d q = (subst (λ (s : Step). WorkedAs class limit l at n m before out now out' s) q d.does).0

  pub reached : {v : ℕ} → Worked class limit l at n m before out now out' r → r ≡ Ok v → v ≡ n
  reached d q = (subst (λ (s : Step). WorkedAs class limit l at n m before out now out' s) q d.does).1

  pub refused : {x : Why} → Worked class limit l at n m before out now out' r → r ≡ Err x → Refused class l m before (told (t_of now) x)
  refused d q = subst (λ (s : Step). WorkedAs class limit l at n m before out now out' s) q d.does

  pub worked : {v : ℕ} → r ≡ Ok v → v ≡ n → Grew class limit l at n m before out now out' → Worked class limit l at n m before out now out' r
  worked q h g = record { does = subst (λ (s : Step). WorkedAs class limit l at n m before out now out' s) (sym q) (g, h) }

  pub stopped : {x : Why} → r ≡ Err x → Refused class l m before (told (t_of now) x) → Worked class limit l at n m before out now out' r
  stopped q h = record { does = subst (λ (s : Step). WorkedAs class limit l at n m before out now out' s) (sym q) h }

-- a statement that finishes no function
module _ {class limit l at n : ℕ} {m : Compile Unit} {before : Mem} (out : List ℕ) {now : Mem} (h : at ≤ n) where
  plain_as : (r : Step) → Did class limit l n steady m before now r → WorkedAs class limit l at n m before out now out r
  plain_as (Ok v) d = (to_grew (λ d. refl) refl (λ x. refl) (of_gave out refl h d.does.0), d.does.1)
  plain_as (Err x) d = d.does

  pub plain : {r : Step} → Did class limit l n steady m before now r → Worked class limit l at n m before out now out r
  plain {r} d = record { does = plain_as r d }

-- ## What the next statement may rely on

pub ready_after : {class limit l at n left left' : ℕ} {e : Turn} {tree : List ℕ} {A : Type 0} {m : Compile A} {v : A} {before : Mem} {out : List ℕ} {now : Mem} {out' : List ℕ}
    → Ready tree before at left l limit → Run class limit l at n e m v before out now out' → e.depth (depth_at before l) + 2 * left' ≤ deepest → Ready tree now n left' l limit
ready_after {l = l} {left' = left'} y r h =
    record {
      fit = r.gave.ahead.fit;
      small = y.small;
      short = y.short;
      shallow = subst (λ (d : ℕ). d + 2 * left' ≤ deepest) (sym r.gave.ahead.deep) h;
      few = let f = r.added.few in let g = y.few in omega arith;
      little = let f = r.added.little in let g = y.little in omega arith;
    }

-- ## The last of several steps: by its answer

module _ {class limit l at n : ℕ} {m : Compile Unit} {before : Mem} {out : List ℕ} {now : Mem} {out' : List ℕ} where
  module _ {inner k : ℕ} {f : Turn} {last : Compile Unit} {mid : Mem} (g : Gave inner limit k f last tt mid now → Grew class limit l at n m before out now out')
      (h : (x : Stopped) → Refused inner k last mid x → Refused class l m before x) where
    conclude_as : (r : Step) → Did inner limit k n f last mid now r → WorkedAs class limit l at n m before out now out' r
    conclude_as (Ok v) d = (g d.does.0, d.does.1)
    conclude_as (Err x) d = h (told (t_of now) x) d.does

    pub conclude : {r : Step} → Did inner limit k n f last mid now r → Worked class limit l at n m before out now out' r
    conclude {r} d = record { does = conclude_as r d }

-- a step that comes to another from every state
module _ {class limit l at n : ℕ} {m m' : Compile Unit} {before : Mem} {out : List ℕ} {now : Mem} {out' : List ℕ} (h : (s : Compiler) → m' s ≡ m s) where
  like_as : (r : Step) → Worked class limit l at n m before out now out' r → WorkedAs class limit l at n m' before out now out' r
  like_as (Ok v) d =
      let w = d.does.0 in (
        record {
          made = w.made;
          gave = record { comes = λ rest q. h _ ∙ w.gave.comes rest q; agrees = w.gave.agrees; ahead = w.gave.ahead };
          added = w.added;
        },
        d.does.1,
      )
  like_as (Err x) d = record { refuses = λ rest q. h _ ∙ d.does.refuses rest q }

  pub worked_like : {r : Step} → Worked class limit l at n m before out now out' r → Worked class limit l at n m' before out now out' r
  worked_like {r} d = record { does = like_as r d }

-- a question to the state
pub told_run : {class limit l at n : ℕ} {A : Type 0} {m : Compile A} {v : A} {now : Mem} (out : List ℕ) → Fit now l limit → at ≤ n → Told class l m v now → Run
    class limit l at n steady m v now out now out
told_run out fit h w = of_gave out refl h (record { comes = w.says; agrees = λ rest q. q; ahead = ahead_none fit })

-- ## A walk over a row: from `before`, p comes to what q comes to from `now`, and functions were finished on the way

pub record Onward (class limit l at next : ℕ) (p q : Compile Unit) (before : Mem) (out : List ℕ) (now : Mem) (out' : List ℕ) : Type 0 where
  pub made : List ObjectFunction
  pub same : (rest : Rest) → Agrees class before rest → p (view before l rest) ≡ q (view now l (more made rest))
  pub agrees : (rest : Rest) → Agrees class before rest → Agrees class now (more made rest)
  pub ahead : Ahead l limit (grow made) before now
  pub added : Added at next made (t_of before) out (t_of now) out'

module _ {class limit l at : ℕ} {p : Compile Unit} {before : Mem} {out : List ℕ} where
  pub onward_start : Fit before l limit → Onward class limit l at at p p before out before out
  onward_start fit =
      record {
        made = [];
        same = λ rest q. ap (λ (x : Rest). p (view before l x)) (more_none rest);
        agrees = λ rest q. subst (λ (x : Rest). Agrees class before x) (more_none rest) q;
        ahead = grown_none (ahead_none fit);
        added = added_none out (le_refl at) (λ i h. refl);
      }

  module _ {next : ℕ} {q : Compile Unit} {now : Mem} {out' : List ℕ} (w : Onward class limit l at next p q before out now out') where
    pub onward_refused : {x : Stopped} → Refused class l q now x → Refused class l p before x
    onward_refused h = record { refuses = λ rest g. w.same rest g ∙ h.refuses (more w.made rest) (w.agrees rest g) }

    -- one more is done, and q' is left
    pub onward_step : {n : ℕ} (m q' : Compile Unit) {now' : Mem} {out'' : List ℕ} → ((s : Compiler) → q s ≡ (m >> q') s) → Run class limit l next n steady m tt now out' now' out''
        → Onward class limit l at n p q' before out now' out''
    unfolding ◌>>◌ go_on
    onward_step {n} m q' {now'} {out''} c r =
        record {
          made = w.made ++ r.made;
          same = λ rest g.
              w.same rest g ∙ c _ ∙ ap (λ (o : Outcome Unit). go_on o (λ _. q')) (r.gave.comes (more w.made rest) (w.agrees rest g))
              ∙ ap (λ (x : Rest). q' (view now' l x)) (more_more w.made r.made rest);
          agrees = λ rest g. subst (λ (x : Rest). Agrees class now' x) (more_more w.made r.made rest) (r.gave.agrees (more w.made rest) (w.agrees rest g));
          ahead = ahead_same (ahead_then w.ahead r.gave.ahead);
          added = added_then w.added r.added;
        }

    -- nothing is left
    pub onward_done : ((s : Compiler) → q s ≡ ok tt s) → Grew class limit l at next p before out now out'
    onward_done h = record { made = w.made; gave = record { comes = λ rest g. w.same rest g ∙ h _; agrees = w.agrees; ahead = w.ahead }; added = w.added }
