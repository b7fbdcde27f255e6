-- Laws of the walks that count namings.
use mathlib.Core.Path.{◌≡◌, refl, sym, ap, ◌∙◌}
use mathlib.Core.Bool.{Bool, true, false}
use mathlib.Core.List.{List, ◌∷◌, ◌++◌, []}
use Prim.Native.Nat.{ℕ, zero, suc, ◌+◌, ◌-◌, ◌<◌, ◌≤◌}
use native.Mathlib.Omega.{arith}
use native.Mathlib.Numerals.{add-one}
use lib.ListN.{length, get_or}
use lib.Dec.{eqb}
use Rattle.rules.specs.Base.{all_below}
use Rattle.std.specs.Prelude.{if◌then◌else◌}
use Rattle.rules.specs.Reader.{got, many}
use Rattle.rules.specs.Chunk.{Constant, ObjectFunction}
use Rattle.rules.specs.ImageFile.{read_constant, read_function}
use Rattle.rules.specs.Checker.{names, names_in_all, named_once}
use Rattle.image_code.proofs.Once.{below_false, below_same}
use Rattle.std.proofs.Common.{Option, Some, None}
use Rattle.image_records.specs.declared.Header.{Header}
use Rattle.image_records.specs.Told.{place_told, head_at}
use Rattle.image_records.proofs.Many.{Fails, got_bad, same_got, fails_bad, place_bad, place_at, many_none, many_more, passed_none, skip_stops, skip_goes, skip_none, Nth, nth_of}
use Rattle.image_records.proofs.Records.{ConstantIs, Headed, headed, head_fails, body_of, at_constants}
use Rattle.image_constants.specs.Words.{constant_of}
use Rattle.image_constants.specs.Earlier.{functions_in, is_got, earlier}
use Rattle.image_constants.proofs.Words.{constant_back}
use Rattle.image_constants.proofs.Kinding.{earlier_are, earlier_number}
use Rattle.image_functions.proofs.All.{one_more, earlier_more}
use Rattle.image_naming.specs.Noted.{cap, Capped, Noted, names_one, ConstantsNoted, FunctionNoted}
use Rattle.image_naming.proofs.Counting.{noted_capped, noted_then, noted_none, names_more, all_more, cap_one}

-- ## Constants

pub record Noting (s : List ℕ) (begin n base : ℕ) (first seen : List ℕ) (at i : ℕ) : Type 0 where
  pub within : i ≤ n
  pub cs : List Constant
  pub done : many i (read_constant s) begin ≡ got cs at
  pub noted : Noted base (λ number. names number cs) first seen
  pub left : place_told (many n (read_constant s) begin) ≡ place_told (many (n - i) (read_constant s) at)

module _ (s : List ℕ) (begin n base : ℕ) (first : List ℕ) where
  pub noting_begin : Capped first → Noting s begin n base first first begin 0
  unfolding names
  noting_begin c =
      record {
        within = omega arith;
        cs = [];
        done = many_none (read_constant s) 0 begin refl;
        noted = noted_none base _ first c (λ x. refl);
        left = ap place_told (passed_none (read_constant s) n begin);
      }

  module _ (seen : List ℕ) (at i : ℕ) (g : Noting s begin n base first seen at i) where
    pub noting_stop : i < n → Fails (read_constant s at) → ConstantsNoted s begin n base None first seen
    noting_stop h f =
        record {
          told = skip_stops (read_constant s) n i at h f ∙ sym g.left;
          noted =
              λ cs next e. absurd
              (got_bad (place_bad (many n (read_constant s) begin) (skip_stops (read_constant s) n i at h f ∙ sym g.left)) e);
        }

    pub noting_on : (w next : ℕ) → i < n → ConstantIs (read_constant s at) w next → (after : List ℕ) → Noted base (names_one (constant_of w)) seen after
        → Noting s begin n base first after next (i + 1)
    noting_on w next h c after q =
        let e : constant_of w ≡ c.value = ap constant_of c.coded ∙ constant_back c.value in
        record {
          within = omega arith;
          cs = g.cs ++ (constant_of w ∷ []);
          done =
              rw add-one (many_more (read_constant s) c.value at next c.is i begin g.cs g.done ∙ ap (λ (v : Constant). got (g.cs ++ (v ∷ [])) next) (sym e));
          noted =
              noted_then base (λ x. names x g.cs) (names_one (constant_of w)) (λ x. names x (g.cs ++ (constant_of w ∷ []))) first seen after g.noted q
              (λ x. names_more x g.cs (constant_of w));
          left = g.left ∙ skip_goes (read_constant s) n i at next c.value h c.is;
        }

    pub noting_done : n ≤ i → ConstantsNoted s begin n base (Some at) first seen
    noting_done h =
        let q : i ≡ n = omega (arith, g.within) in
        record {
          told = skip_none (read_constant s) n i at h ∙ sym g.left;
          noted =
              λ cs next e. (let z : g.cs ≡ cs = (same_got g.done (ap (λ (m : ℕ). many m (read_constant s) begin) q ∙ e)).0 in
              rw z at g.noted);
        }

    pub noting_capped : Capped seen
    noting_capped = noted_capped first seen g.noted

-- ## A function

module _ (s : List ℕ) (at base : ℕ) (first : List ℕ) where
  function_none : (seen : List ℕ) → Fails (read_function s at) → FunctionNoted s at base None first seen
  function_none seen f = record { told = fails_bad f; noted = λ g next e. absurd (got_bad f e) }

  pub function_headless : (seen : List ℕ) → None ≡ head_at s at → FunctionNoted s at base None first seen
  function_headless seen b = function_none seen (head_fails s at b)

  module _ (h : Header) (b : Some h ≡ head_at s at) (seen : List ℕ) (r : Option ℕ) (c : ConstantsNoted s (at + 17) h.constants base r first seen) where
    abbrev d : Headed s at h
    d = headed s at h b

    pub function_cut : r ≡ None → FunctionNoted s at base None first seen
    function_cut e =
        function_none seen (at_constants s at h d (place_bad (many h.constants (read_constant s) (at + 17)) (sym e ∙ c.told)))

    pub function_done : (p : Option ℕ) → p ≡ place_told (read_function s at) → FunctionNoted s at base p first seen
    function_done p e =
        record {
          told = e;
          noted =
              λ f next g. (let o = body_of s d.name d.arity h.upvalues h.constants h.runs h.code (at + 17) f next (sym d.is ∙ g) in
              let z : o.cs ≡ f.chunk.constants = ap (λ (x : ObjectFunction). x.chunk.constants) (sym o.is) in
              as_of f.chunk.constants (c.noted o.cs o.runs_at o.constants_are) z);
        }
      where
        as_of : {l : List Constant} (m : List Constant) → Noted base (λ x. names x l) first seen → l ≡ m → Noted base (λ x. names x m) first seen
        as_of m w e = rw (← e) w

-- ## All functions

pub record NotingAll (s : List ℕ) (count base : ℕ) (first seen : List ℕ) (at i : ℕ) : Type 0 where
  pub within : i ≤ count
  pub place : many i (read_function s) 6 ≡ got (earlier s i) at
  pub noted : Noted base (λ number. names_in_all number (earlier s i)) first seen

module _ (s : List ℕ) (count base : ℕ) (first : List ℕ) (all-got : is_got (many count (read_function s) 6) ≡ true) where
  pub all_begin_with : Capped first → NotingAll s count base first first 6 0
  unfolding earlier functions_in names_in_all
  all_begin_with c =
      let z = many_none (read_function s) 0 6 refl in
      let e : earlier s 0 ≡ [] = ap functions_in z in
      record {
        within = omega arith;
        place = z ∙ ap (λ (l : List ObjectFunction). got l 6) (sym e);
        noted = noted_none base _ first c (λ x. ap (names_in_all x) e);
      }

  module _ (seen : List ℕ) (at i : ℕ) (g : NotingAll s count base first seen at i) where
    pub all_capped : Capped seen
    all_capped = noted_capped first seen g.noted

    module _ (h : i < count) where
      abbrev nth : Nth (read_function s) count i 6 (earlier s count)
      nth = nth_of (read_function s) count i 6 (earlier_are s count all-got).at (earlier s count) (earlier_are s count all-got).are h

      here : read_function s at ≡ got nth.value nth.next
      here = ap (read_function s) (same_got g.place nth.before).1 ∙ nth.is

      pub all_lost : {A : Type 0} (after : List ℕ) → FunctionNoted s at base None seen after → A
      all_lost after f = absurd (got_bad (place_bad (read_function s at) f.told) here)

      pub all_on : (next : ℕ) (r : Option ℕ) → r ≡ Some next → (after : List ℕ) → FunctionNoted s at base r seen after → NotingAll s count base first after next (i + 1)
      all_on next r q after f =
          let p = place_at (read_function s at) next (sym q ∙ f.told) in
          let e : nth.next ≡ next = (same_got here p.is).1 in
          let is : read_function s at ≡ got nth.value next = here ∙ ap (got nth.value) e in
          let m = earlier_more s i at next nth.value g.place is in
          record {
            within = omega arith;
            place = one_more s i at next nth.value g.place is ∙ ap (λ (l : List ObjectFunction). got l next) (sym m);
            noted =
                noted_then base (λ x. names_in_all x (earlier s i)) (λ x. names x nth.value.chunk.constants) (λ x. names_in_all x (earlier s (i + 1))) first seen after g.noted
                (f.noted nth.value next is) (λ x. ap (names_in_all x) m ∙ all_more x (earlier s i) nth.value);
          }

    pub all_done : count ≤ i → Noted base (λ number. names_in_all number (earlier s count)) first seen
    all_done h = let q : i ≡ count = omega (arith, g.within) in rw q at g.noted

-- ## Blocks

module _ (first : List ℕ) (blank : (i : ℕ) → get_or first i 0 ≡ 0) where
  pub zeros_capped : Capped first
  zeros_capped = record { low = λ i h. (let z = blank i in omega arith) }

  pub block_is : (base most : ℕ) (more : ℕ → ℕ) (seen : List ℕ) → most ≤ length first → Noted base more first seen
      → all_below most (λ (i : ℕ). eqb (get_or seen i 0) 1) ≡ all_below most (λ (i : ℕ). eqb (more (base + i)) 1)
  block_is base most more seen h n =
      below_same most _ _ (λ i l. let z = blank i in
      let e : get_or first i 0 + more (base + i) ≡ more (base + i) = omega arith in
      ap (λ (x : ℕ). eqb x 1) (n.counts i (omega arith) ∙ ap cap e) ∙ cap_one (more (base + i)))

module _ (p : ℕ → Bool) where
  -- a block that passes, and one that does not
  on_by : (most base : ℕ) (t : Bool) → p (base + most) ≡ t → (if t then all_below most (λ (i : ℕ). p (base + i)) else false) ≡ true
      → (all_below most (λ (i : ℕ). p (base + i)) ≡ true → all_below (base + most) p ≡ true) → (if p (base + most) then all_below (base + most) p else false) ≡ true
  on_by most base true f b later = rw f (later b)
  on_by most base false f b later = absurd (let y : ◌≡◌ {A = ℕ} 0 1 = cc in omega arith)

  pub blocks_on : (base most : ℕ) → all_below base p ≡ true → all_below most (λ (i : ℕ). p (base + i)) ≡ true → all_below (base + most) p ≡ true
  unfolding all_below
  blocks_on base zero a b = let e : base + 0 ≡ base = omega arith in rw e a
  blocks_on base (suc most) a b =
      let e : base + suc most ≡ suc (base + most) = omega arith in
      rw e (on_by most base (p (base + most)) refl b (λ q. blocks_on base most a q))

  off_by : (most base last : ℕ) (t : Bool) → p (base + most) ≡ t → (if t then all_below most (λ (i : ℕ). p (base + i)) else false) ≡ false → base + suc most ≤ last
      → (all_below most (λ (i : ℕ). p (base + i)) ≡ false → all_below last p ≡ false) → all_below last p ≡ false
  off_by most base last true f b h later = later b
  off_by most base last false f b h later = below_false last (base + most) p (omega arith) f

  pub blocks_off : (base most last : ℕ) → all_below most (λ (i : ℕ). p (base + i)) ≡ false → base + most ≤ last → all_below last p ≡ false
  unfolding all_below
  blocks_off base zero last b h = absurd (let y : ◌≡◌ {A = ℕ} 0 1 = cc in omega arith)
  blocks_off base (suc most) last b h = off_by most base last (p (base + most)) refl b h (λ q. blocks_off base most last q (omega arith))

-- the whole
module _ (s : List ℕ) (count last : ℕ) (is_last : last ≡ count - 1) (all-got : is_got (many count (read_function s) 6) ≡ true) where
  abbrev pub once : ℕ → Bool
  once number = eqb (names_in_all number (earlier s count)) 1

  named_is : named_once (earlier s count) ≡ all_below last once
  unfolding named_once
  named_is = let e : length (earlier s count) - 1 ≡ last = (let z = earlier_number s count all-got in omega arith) in rw e refl

  pub named_no : (base most : ℕ) → false ≡ all_below most (λ (i : ℕ). once (base + i)) → base + most ≤ last → false ≡ named_once (earlier s count)
  named_no base most b h = sym (named_is ∙ blocks_off once base most last (sym b) h)

  pub named_yes : (base : ℕ) → all_below base once ≡ true → base ≡ last → true ≡ named_once (earlier s count)
  named_yes base a e = sym (named_is ∙ rw e at a)
