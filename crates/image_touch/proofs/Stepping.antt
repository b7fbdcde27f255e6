-- Laws of one function of an image that was checked: what each stage told is there, and the walk over its code finds what the rules find.
use mathlib.Core.Path.{◌≡◌, refl, sym, ap, ◌∙◌}
use mathlib.Core.Bool.{Bool, true, false, ◌&&◌}
use mathlib.Core.Option.{Option, none, some}
use mathlib.Core.List.{List, ◌∷◌, []}
use Prim.Native.Nat.{ℕ, ◌+◌, ◌-◌, ◌<◌, ◌≤◌}
use native.Mathlib.Omega.{arith}
use lib.ListN.{length, get_or, take, drop, length-take, length-drop, get_or-eq_default}
use lib.Seq.{get_or-drop, get_or-take}
use lib.Dec.{ltb, eqb}
use borrow.Author.Tests.{ltb-true, ltb-false}
use Rattle.rules.specs.Base.{all}
use Rattle.rules.specs.Reader.{Read, got, bad, many}
use Rattle.rules.specs.Chunk.{Constant, total, ObjectFunction}
use Rattle.rules.specs.Division.{Kind, Instruction, divide, division, kind_at, run_fits}
use Rattle.rules.specs.ImageFile.{read_constant, read_run, read_function}
use Rattle.rules.specs.Checker.{runs_apart, distinct}
use Rattle.rules.specs.Touch.{names_global, is_string, touches}
use Rattle.image_code.specs.Table.{kinds_in, from, instructions, is_some}
use Rattle.image_code.proofs.Steps.{no_true}
use Rattle.image_code.proofs.Below.{low, low_in, same_divide}
use Rattle.std.proofs.Common.{Some, None}
use Rattle.std.proofs.Common.{Option as Told}
use Rattle.image_code.specs.declared.Kind as table
use Rattle.image_records.specs.declared.Header.{Header}
use Rattle.image_records.specs.Told.{place_told, head_at, code_told}
use Rattle.image_records.proofs.Many.{got_bad, same_got}
use Rattle.image_records.proofs.Records.{Headed, headed, head_fails, Body, body_of, Coded, coded, at_code, whole_function}
use Rattle.image_records.proofs.Forward.{forward_many, forward_constant, forward_run}
use Rattle.image_constants.specs.Words.{constants_of}
use Rattle.image_constants.specs.Earlier.{earlier, kinds_right}
use Rattle.image_functions.specs.Judged.{constants_fine, code_fine, right}
use Rattle.image_touch.specs.declared.Found.{Found}
use Rattle.image_touch.specs.Walked.{of_function, walked, Known, ConstantsKnown, is_right, step_of, Stepped}
use Rattle.image_touch.proofs.Knowing.{elem_in, both}

and_of : (a b : Bool) → (a && b) ≡ true → (a ≡ true) × (b ≡ true)
and_of true b e = (refl, e)
and_of false b e = absurd (no_true e)

-- ## What is right of a function

pub record RightIs (before : List ObjectFunction) (r : Read ObjectFunction) : Type 0 where
  pub f : ObjectFunction
  pub next : ℕ
  pub is : r ≡ got f next
  pub fine : right before f ≡ true

pub right_is : (before : List ObjectFunction) (r : Read ObjectFunction) → is_right before r ≡ true → RightIs before r
unfolding is_right
right_is before (bad fault) e = absurd (no_true e)
right_is before (got f next) e = record { f = f; next = next; is = refl; fine = e }

pub kinds_fine : (before : List ObjectFunction) (f : ObjectFunction) → right before f ≡ true → kinds_right (length before) f.chunk.constants ≡ true
unfolding right constants_fine
kinds_fine before f e = (and_of (distinct f.chunk.constants) _ (and_of _ _ e).0).1

fine_some : (kind : ℕ → Kind) (u size : ℕ) (d : Option (List Instruction)) → code_fine kind u size d ≡ true → is_some d ≡ true
unfolding code_fine is_some
fine_some kind u size none e = absurd (no_true e)
fine_some kind u size (some is) e = refl

pub divides_it : (before : List ObjectFunction) (f : ObjectFunction) → right before f ≡ true → is_some (division before f) ≡ true
unfolding right
divides_it before f e =
    fine_some (kind_at before f.chunk.constants) f.upvalue_count (length f.chunk.ops) (division before f)
    (and_of (eqb (total f.chunk.spans) (length f.chunk.ops)) _
    (and_of (all run_fits f.chunk.spans && runs_apart f.chunk.spans) _ (and_of (constants_fine (length before) f.chunk.constants) _ e).1).1).1

-- ## Operands name the first 256 constants only

module _ (name : ℕ) (cs : List Constant) where
  touches_low : (i : Instruction) → low i ≡ true → touches name (of_function (take 256 cs) i) ≡ touches name (of_function cs i)
  unfolding touches
  touches_low i e = ap (λ (o : Option Constant). names_global i.opcode && is_string name o) (elem_in 256 cs (get_or i.bytes 0 0) (ltb-true _ _ e))

  pub walked_low : (read : ℕ) (is : List Instruction) → all low is ≡ true → walked name read (take 256 cs) is ≡ walked name read cs is
  unfolding all walked
  walked_low read [] e = refl
  walked_low read (i ∷ is) e =
      let b = both (low i) (all low is) e in
      rw (touches_low i b.0, walked_low (read + 1) is b.1) refl

-- a part of bytes
part_bytes : (s : List ℕ) → ((i : ℕ) → get_or s i 0 < 256) → (size start i : ℕ) → get_or (take size (drop start s)) i 0 < 256
part_bytes s bytes size start i = by (ltb i size) refl
  where
    by : (t : Bool) → ltb i size ≡ t → get_or (take size (drop start s)) i 0 < 256
    by true e =
        let l : i < size = ltb-true _ _ e in
        rw (get_or-take size (drop start s) i 0 l, get_or-drop start s i 0) (bytes (start + i))
    by false e =
        let l : size ≤ i = ltb-false _ _ e in
        let m : length (take size (drop start s)) ≤ i = simp length-take (omega arith) in
        rw (get_or-eq_default (take size (drop start s)) 0 m) (omega arith)

some_is : (d : Option (List Instruction)) → is_some d ≡ true → d ≡ some (instructions d)
unfolding is_some instructions
some_is none e = absurd (no_true e)
some_is (some is) e = refl

-- ## The code, once it is placed

-- the code of function `k`, which begins at `at`, is `size` bytes from `start` on
pub record Placed (s : List ℕ) (k at first : ℕ) (words : List ℕ) (kinds : List table.Kind) (start size : ℕ) : Type 0 where
  pub f : ObjectFunction
  pub next : ℕ
  pub is : read_function s at ≡ got f next
  pub fine : right (earlier s k) f ≡ true
  pub known : Known s k f.chunk.constants first words kinds
  pub ops : f.chunk.ops ≡ take size (drop start s)
  pub ends : next ≡ start + size
  pub within : start + size ≤ length s
  pub far : at + 17 ≤ start

module _ (s : List ℕ) (k at first : ℕ) (words : List ℕ) (kinds : List table.Kind) (start size : ℕ) (d : Placed s k at first words kinds start size)
    (bytes : (i : ℕ) → get_or s i 0 < 256) (end : ℕ) (is-end : end ≡ start + size) (part : List ℕ) (is-part : part ≡ take (end - start) (drop start s)) where
  abbrev cs : List Constant
  cs = d.f.chunk.constants

  abbrev division_of : Option (List Instruction)
  division_of = division (earlier s k) d.f

  part_is : part ≡ take size (drop start s)
  part_is = let e : end - start ≡ size = omega arith in is-part ∙ ap (λ (x : ℕ). take x (drop start s)) e

  pub part_length : length part ≡ size
  part_length = let w = d.within in ap length part_is ∙ simp (length-take, length-drop) (omega arith)

  ops_bytes : (i : ℕ) → get_or d.f.chunk.ops i 0 < 256
  ops_bytes i = rw d.ops (part_bytes s bytes size start i)

  same_division : from (kinds_in kinds) part 0 0 ≡ division_of
  unfolding from division
  same_division =
      ap (λ (l : List ℕ). divide (kinds_in kinds) 0 0 l) (part_is ∙ sym d.ops) ∙
      same_divide (kinds_in kinds) (kind_at (earlier s k) cs) d.known.table 0 0 d.f.chunk.ops ops_bytes

  pub divides : is_some (from (kinds_in kinds) part 0 0) ≡ true
  divides = ap is_some same_division ∙ divides_it (earlier s k) d.f d.fine

  all_low : all low (instructions division_of) ≡ true
  unfolding division
  all_low =
      low_in (kind_at (earlier s k) cs) d.f.chunk.ops (instructions division_of) ops_bytes
      (some_is division_of (divides_it (earlier s k) d.f d.fine))

  module _ (name before : ℕ) (found : Found)
      (is_found : found ≡ walked name before (constants_of first words) (instructions (from (kinds_in kinds) part 0 0)))
      (few : (found.read ≤ before + length part) × ((place : ℕ) → found.at ≡ Some place → place ≤ length part)) where
    found_is : found ≡ walked name before cs (instructions division_of)
    found_is =
        is_found ∙ ap (λ (x : Option (List Instruction)). walked name before (constants_of first words) (instructions x)) same_division ∙
        ap (λ (l : List Constant). walked name before l (instructions division_of)) d.known.are ∙
        walked_low name cs before (instructions division_of) all_low

    pub stepped : Stepped name before s k at (Some (found, end))
    unfolding step_of
    stepped =
        record {
          told =
              ap (λ (x : Found). Some (x, end)) found_is ∙ ap (λ (m : ℕ). Some (walked name before cs (instructions division_of), m)) (is-end ∙ sym d.ends) ∙
              sym (ap (step_of name before (earlier s k)) d.is);
          grows =
              λ g next z. (
              let p : (found, end) ≡ (g, next) = cc in
              let a : found ≡ g = ap (λ (x : Found × ℕ). x.0) p in
              let b : end ≡ next = ap (λ (x : Found × ℕ). x.1) p in
              let l = part_length in
              let w = d.within in
              let t = d.far in
              let u : found.read ≡ g.read = ap (λ (x : Found). x.read) a in
              (omega arith, ((λ place q. (let v = few.1 place (ap (λ (x : Found). x.at) a ∙ q) in omega arith)), omega arith))
              );
        }

-- ## The stages

no_place : (next : ℕ) → ◌≡◌ {A = Told ℕ} None (Some next) → ⊥
no_place next e = let z : ◌≡◌ {A = ℕ} 0 1 = cc in omega arith

module _ (s : List ℕ) (k at : ℕ) (number_of_lem : length (earlier s k) ≡ k) (y : is_right (earlier s k) (read_function s at) ≡ true) where
  abbrev d : RightIs (earlier s k) (read_function s at)
  d = right_is (earlier s k) (read_function s at) y

  pub headless : None ≡ head_at s at → ⊥
  headless e = got_bad (head_fails s at e) d.is

  module _ (h : Header) (is-head : Some h ≡ head_at s at) where
    abbrev b : Headed s at h
    b = headed s at h is-head

    pub head_within : at + 17 ≤ length s
    head_within = b.whole

    abbrev o : Body s b.name b.arity h.upvalues h.constants h.runs h.code (at + 17) d.f d.next
    o = body_of s b.name b.arity h.upvalues h.constants h.runs h.code (at + 17) d.f d.next (sym b.is ∙ d.is)

    constants_are : d.f.chunk.constants ≡ o.cs
    constants_are = ap (λ (x : ObjectFunction). x.chunk.constants) o.is

    constants_right : kinds_right k o.cs ≡ true
    constants_right =
        sym (ap (λ (m : ℕ). kinds_right m d.f.chunk.constants) number_of_lem ∙ ap (kinds_right k) constants_are) ∙ kinds_fine (earlier s k) d.f d.fine

    module _ (first : ℕ) (r : Told ℕ) (words : List ℕ) (kinds : List table.Kind) (c : ConstantsKnown s k (at + 17) h.constants first r words kinds) where
      abbrev told : (r ≡ Some o.runs_at) × Known s k o.cs first words kinds
      told = c.told o.cs o.runs_at o.constants_are constants_right

      pub constants_lost : r ≡ None → ⊥
      constants_lost e = no_place _ (sym e ∙ told.0)

      module _ (runs_at : ℕ) (is-runs : r ≡ Some runs_at) (p : Told ℕ)
          (p-told : p ≡ place_told (many h.runs (read_run s) runs_at)) where
        same_runs : runs_at ≡ o.runs_at
        same_runs = let z : ◌≡◌ {A = Told ℕ} (Some runs_at) (Some o.runs_at) = sym is-runs ∙ told.0 in cc

        p_is : p ≡ Some o.code_at
        unfolding place_told
        p_is =
            p-told ∙
            ap (λ (x : ℕ). place_told (many h.runs (read_run s) x)) same_runs ∙ ap place_told o.runs_are

        pub runs_lost : p ≡ None → ⊥
        runs_lost e = no_place _ (sym e ∙ p_is)

        module _ (mark-at : ℕ) (is-mark : p ≡ Some mark-at) (q : Told ℕ) (q-told : q ≡ code_told s h.code mark-at) where
          q_is : q ≡ code_told s h.code o.code_at
          q_is =
              let z : ◌≡◌ {A = Told ℕ} (Some mark-at) (Some o.code_at) = sym is-mark ∙ p_is in
              let w : mark-at ≡ o.code_at = cc in
              q-told ∙ ap (code_told s h.code) w

          pub code_lost : q ≡ None → ⊥
          code_lost e = got_bad (at_code s at h b o.cs o.runs_at o.constants_are o.rs o.code_at o.runs_are (sym e ∙ q_is)) d.is

          module _ (start : ℕ) (is_start : q ≡ Some start) where
            code_there : Coded s h.code o.code_at start
            code_there = coded s h.code o.code_at start (sym is_start ∙ q_is)

            start_far : at + 17 ≤ start
            start_far =
                let x = forward_many (read_constant s) (forward_constant s) h.constants (at + 17) o.runs_at o.cs o.constants_are in
                let z = forward_many (read_run s) (forward_run s) h.runs o.runs_at o.code_at o.rs o.runs_are in
                let w = code_there.on in
                omega arith

            pub placed : Placed s k at first words kinds start h.code
            placed =
                let w = whole_function s at h b o.cs o.runs_at o.constants_are o.rs o.code_at o.runs_are start code_there in
                let g = same_got d.is w in
                record {
                  f = d.f;
                  next = d.next;
                  is = d.is;
                  fine = d.fine;
                  known = rw constants_are told.1;
                  ops = ap (λ (x : ObjectFunction). x.chunk.ops) g.0;
                  ends = g.1;
                  within = code_there.within;
                  far = start_far;
                }
