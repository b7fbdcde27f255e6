-- Laws of the search over all functions of an image that was checked.
use mathlib.Core.Path.{◌≡◌, refl, sym, ap, ◌∙◌}
use mathlib.Core.Bool.{Bool, true, false}
use mathlib.Core.Option.{Option, none, some}
use mathlib.Core.List.{List, ◌∷◌, ◌++◌, append_assoc, []}
use Prim.Native.Nat.{ℕ, ◌+◌, ◌-◌, ◌<◌, ◌≤◌}
use native.Mathlib.Omega.{arith}
use lib.ListN.{length, get_or, get_elem?}
use Rattle.std.specs.Prelude.{if◌then◌else◌}
use Rattle.rules.specs.declared.Answer.{Answer}
use Rattle.rules.specs.Answer.{refusal, accepted}
use Rattle.rules.specs.Reader.{Read, got, bad, many}
use Rattle.rules.specs.Chunk.{Constant, ObjectFunction}
use Rattle.rules.specs.Division.{Instruction, division}
use Rattle.rules.specs.ImageFile.{read_function, read_image}
use Rattle.rules.specs.Checker.{named_once, sound, checked, image_of, verdict, check}
use Rattle.rules.specs.Touch.{Standing, touches, standing, standing_in, all_standing, search, touch_verdict, touch}
use Rattle.fields.specs.Words.{word32}
use Rattle.image_code.specs.Table.{instructions, is_some}
use Rattle.image_code.proofs.Steps.{no_true}
use Rattle.image_records.proofs.Many.{none_some, First, many_none, many_first, left_none, passed_none, same_got}
use Rattle.image_constants.specs.Earlier.{functions_in, is_got, earlier, Counts}
use Rattle.image_functions.specs.Judged.{right, NextIs, right_all}
use Rattle.image_functions.proofs.All.{read_is, earlier_more, one_more}
use Rattle.image.specs.Counted.{counted_in}
use Rattle.image.proofs.Sound.{and_of, sound_is, one_from, same_division}
use Rattle.image.proofs.Whole.{bytes_of}
use Rattle.image.proofs.Lookup.{Accepted, accepted_is}
use Rattle.image_touch.specs.declared.Found.{Found}
use Rattle.std.proofs.Common.{Some, None}
use Rattle.std.proofs.Common.{Option as Told}
use Rattle.image_touch.specs.Walked.{of_function, walked, is_right, step_of, Sound}
use Rattle.image_touch.proofs.Knowing.{both}
use Rattle.image_touch.proofs.Stepping.{divides_it}

-- a step, of what it found and where it ends
abbrev to : (found : Found) (next : ℕ) → Told (Found × ℕ)
to found next = Some (found, next)

-- ## One function's instructions, and those behind it

abbrev pub hit_in : (at read k : ℕ) → Answer
hit_in at read k = record { number = 0; at = at; end = at + 2; name = k; length = read; function = 0; around = 0 }

module _ (name k : ℕ) (cs : List Constant) (more : List Standing) where
  found_hit : (place read : ℕ) (is : List Instruction) → (walked name read cs is).at ≡ Some place
      → search name read (standing k cs is ++ more) ≡ hit_in place (walked name read cs is).read k
  unfolding walked standing search touches
  found_hit place read [] e = absurd (none_some e)
  found_hit place read (i ∷ is) e = by (touches name (of_function cs i)) e (λ f. found_hit place (read + 1) is f)
    where
      by : (t : Bool) → (if t then (record { at = Some i.at; read = read + 1 }) else walked name (read + 1) cs is).at ≡ Some place
          → ((walked name (read + 1) cs is).at ≡ Some place → search name (read + 1) (standing k cs is ++ more) ≡ hit_in place (walked name (read + 1) cs is).read k)
          → (if t then (record { number = 0; at = i.at; end = i.at + 2; name = k; length = read + 1; function = 0; around = 0 }) else search name (read + 1) (standing k cs is ++ more))
          ≡ hit_in place (if t then (record { at = Some i.at; read = read + 1 }) else walked name (read + 1) cs is).read k
      by true e later = let q : i.at ≡ place = cc in rw q refl
      by false e later = later e

  found_none : (read : ℕ) (is : List Instruction) → (walked name read cs is).at ≡ None
      → search name read (standing k cs is ++ more) ≡ search name (walked name read cs is).read more
  unfolding walked standing search touches
  found_none read [] e = refl
  found_none read (i ∷ is) e = by (touches name (of_function cs i)) e (λ f. found_none (read + 1) is f)
    where
      by : (t : Bool) → (if t then (record { at = Some i.at; read = read + 1 }) else walked name (read + 1) cs is).at ≡ None
          → ((walked name (read + 1) cs is).at ≡ None
          → search name (read + 1) (standing k cs is ++ more) ≡ search name (walked name (read + 1) cs is).read more)
          → (if t then (record { number = 0; at = i.at; end = i.at + 2; name = k; length = read + 1; function = 0; around = 0 }) else search name (read + 1) (standing k cs is ++ more))
          ≡ search name (if t then (record { at = Some i.at; read = read + 1 }) else walked name (read + 1) cs is).read more
      by true e later = absurd (none_some (sym e))
      by false e later = later e

standing_is : (k : ℕ) (f : ObjectFunction) (d : Option (List Instruction)) → is_some d ≡ true
    → standing_in k f d ≡ standing k f.chunk.constants (instructions d)
unfolding is_some standing_in instructions
standing_is k f none e = absurd (no_true e)
standing_is k f (some is) e = refl

-- ## The loop

-- `k` functions were passed, and `rest` are left from `at` on
pub record Searching (s : List ℕ) (count name : ℕ) (counts : List ℕ) (at k read : ℕ) : Type 0 where
  pub within : k ≤ count
  pub counts_are : Counts s k counts
  pub place : many k (read_function s) 6 ≡ got (earlier s k) at
  pub low : read ≤ at
  pub inside : at ≤ length s
  pub rest : List ObjectFunction
  pub end : ℕ
  pub rest_are : many (count - k) (read_function s) at ≡ got rest end
  pub whole : earlier s k ++ rest ≡ earlier s count
  pub fine : right_all (earlier s k) rest ≡ true
  pub left : touch s name ≡ search name read (all_standing (earlier s count) k rest)

module _ (s : List ℕ) (count name : ℕ) (o : Sound s count) where
  pub search_begin : (counts : List ℕ) → Searching s count name counts 6 0 0
  unfolding earlier functions_in is_got touch touch_verdict
  search_begin counts =
      let z = many_none (read_function s) 0 6 refl in
      let e : earlier s 0 ≡ [] = ap functions_in z in
      let r = read_is (many count (read_function s) 6) o.read in
      record {
        within = omega arith;
        counts_are = record { there = ap is_got z; known = λ j h l. absurd (omega arith) };
        place = z ∙ ap (λ (l : List ObjectFunction). got l 6) (sym e);
        low = omega arith;
        inside = o.room;
        rest = earlier s count;
        end = r.next;
        rest_are = sym (passed_none (read_function s) count 6) ∙ r.is ∙ ap (λ (l : List ObjectFunction). got l r.next) (sym (ap functions_in r.is));
        whole = ap (λ (l : List ObjectFunction). l ++ earlier s count) e;
        fine = ap (λ (l : List ObjectFunction). right_all l (earlier s count)) e ∙ o.fine;
        left = ap (touch_verdict name) o.is;
      }

  module _ (counts : List ℕ) (at k read : ℕ) (g : Searching s count name counts at k read) where
    module _ (h : k < count) where
      abbrev t : First (read_function s) (count - (k + 1)) at g.end g.rest
      t =
          many_first (read_function s) (count - (k + 1)) at g.end g.rest
          (ap (λ (m : ℕ). many m (read_function s) at) (omega arith) ∙ g.rest_are)

      abbrev f : ObjectFunction
      f = t.value

      rights : (right (earlier s k) f ≡ true) × (right_all (earlier s k ++ (f ∷ [])) t.others ≡ true)
      unfolding right_all
      rights = both (right (earlier s k) f) (right_all (earlier s k ++ (f ∷ [])) t.others) (sym (ap (right_all (earlier s k)) t.all) ∙ g.fine)

      pub function_right : is_right (earlier s k) (read_function s at) ≡ true
      unfolding is_right
      function_right = ap (is_right (earlier s k)) t.is ∙ rights.0

      pub next_is : NextIs s k at
      unfolding is_got
      next_is = record { place = g.place; there = ap is_got t.is }

      pub not_lost : None ≡ step_of name read (earlier s k) (read_function s at) → ⊥
      unfolding step_of
      not_lost e =
          none_some (e ∙ ap (step_of name read (earlier s k)) t.is)

      module _ (bytes : (i : ℕ) → get_or s i 0 < 256) (found : Found) (next : ℕ) (e : to found next ≡ step_of name read (earlier s k) (read_function s at)) where
        told : to found next ≡ to (walked name read f.chunk.constants (instructions (division (earlier s k) f))) t.next
        unfolding step_of
        told = e ∙ ap (step_of name read (earlier s k)) t.is

        found_is : found ≡ walked name read f.chunk.constants (instructions (division (earlier s k) f))
        found_is =
            let z = told in
            let p : ◌≡◌ {A = Found × ℕ} (found, next) (walked name read f.chunk.constants (instructions (division (earlier s k) f)), t.next) = cc in
            ap (λ (x : Found × ℕ). x.0) p

        same_next : next ≡ t.next
        same_next =
            let z = told in
            let p : ◌≡◌ {A = Found × ℕ} (found, next) (walked name read f.chunk.constants (instructions (division (earlier s k) f)), t.next) = cc in
            ap (λ (x : Found × ℕ). x.1) p

        -- the functions before are enough
        divisions : division (earlier s k) f ≡ division (earlier s count) f
        divisions =
            let b = bytes_of s bytes (count - k) at g.end g.rest g.rest_are in
            let own : (i : ℕ) → get_or f.chunk.ops i 0 < 256 = λ i. b 0 f (ap (λ (l : List ObjectFunction). get_elem? l 0) t.all) i in
            same_division (earlier s k) g.rest f own (one_from (earlier s k) g.rest f own rights.0).earlier_it ∙
            ap (λ (l : List ObjectFunction). division l f) g.whole

        abbrev is : List Instruction
        is = instructions (division (earlier s k) f)

        abbrev more : List Standing
        more = all_standing (earlier s count) (k + 1) t.others

        here : all_standing (earlier s count) k g.rest ≡ standing k f.chunk.constants is ++ more
        unfolding all_standing
        here =
            ap (all_standing (earlier s count) k) t.all ∙ ap (λ (x : Option (List Instruction)). standing_in k f x ++ more) (sym divisions) ∙
            ap (λ (l : List Standing). l ++ more) (standing_is k f (division (earlier s k) f) (divides_it (earlier s k) f rights.0))

        pub search_hit : (place : ℕ) → found.at ≡ Some place → hit_in place found.read k ≡ touch s name
        search_hit place q =
            sym
            (g.left ∙ ap (search name read) here ∙ found_hit name k f.chunk.constants more place read is (ap (λ (x : Found). x.at) (sym found_is) ∙ q) ∙
            ap (λ (x : Found). hit_in place x.read k) (sym found_is))

        pub search_on : found.at ≡ None → (at + found.read ≤ next + read) × (((place : ℕ) → found.at ≡ Some place → place ≤ next) × (next ≤ length s))
            → (counts' : List ℕ) → Counts s (k + 1) counts' → Searching s count name counts' next (k + 1) found.read
        search_on q grows counts' c =
            let a : read_function s at ≡ got f next = t.is ∙ ap (got f) (sym same_next) in
            let m = earlier_more s k at next f g.place a in
            record {
              within = omega arith;
              counts_are = c;
              place = one_more s k at next f g.place a ∙ ap (λ (l : List ObjectFunction). got l next) (sym m);
              low = omega (arith, grows.0, g.low);
              inside = grows.1.1;
              rest = t.others;
              end = g.end;
              rest_are = ap (many (count - (k + 1)) (read_function s)) same_next ∙ t.then;
              whole =
                  ap (λ (l : List ObjectFunction). l ++ t.others) m ∙ append_assoc (earlier s k) (f ∷ []) t.others ∙
                  ap (λ (l : List ObjectFunction). earlier s k ++ l) (sym t.all) ∙ g.whole;
              fine = ap (λ (l : List ObjectFunction). right_all l t.others) m ∙ rights.1;
              left =
                  g.left ∙ ap (search name read) here ∙
                  found_none name k f.chunk.constants more read is (ap (λ (x : Found). x.at) (sym found_is) ∙ q) ∙
                  ap (λ (x : Found). search name x.read more) (sym found_is);
            }

    pub search_done : count ≤ k → accepted read ≡ touch s name
    unfolding all_standing search
    search_done h =
        let q = same_got (left_none (read_function s) count k at h) g.rest_are in
        sym (g.left ∙ ap (λ (l : List ObjectFunction). search name read (all_standing (earlier s count) k l)) (sym q.0))

-- ## An image that was checked

refused_by : (name : ℕ) (r : Option (List ObjectFunction)) → ((verdict r).number ≡ 0 → ⊥) → verdict r ≡ touch_verdict name r
unfolding verdict touch_verdict
refused_by name none n = refl
refused_by name (some fs) n = absurd (n refl)

accepted_by : (r : Option (List ObjectFunction)) → (verdict r).number ≡ 0 → (fs : List ObjectFunction) × (r ≡ some fs)
unfolding verdict refusal
accepted_by none e = absurd (omega arith)
accepted_by (some fs) e = (fs, refl)

sound_by : (r : Read (List ObjectFunction)) (fs : List ObjectFunction) → checked r ≡ some fs → sound fs ≡ true
unfolding checked
sound_by (bad fault) fs e = absurd (let z : ◌≡◌ {A = ℕ} 0 1 = cc in omega arith)
sound_by (got gs end) fs e = by (sound gs) refl e
  where
    by : (t : Bool) → sound gs ≡ t → (if t then some gs else none) ≡ some fs → sound fs ≡ true
    by true q e = let z : gs ≡ fs = cc in ap sound (sym z) ∙ q
    by false q e = absurd (let z : ◌≡◌ {A = ℕ} 0 1 = cc in omega arith)

module _ (s : List ℕ) where
  pub not_image : (name : ℕ) (r : Answer) → r ≡ check s → (r.number ≡ 0 → ⊥) → r ≡ touch s name
  unfolding check touch
  not_image name r e n = e ∙ refused_by name (image_of s) (λ q. n (ap (λ (x : Answer). x.number) e ∙ q))

  module _ (r : Answer) (e : r ≡ check s) (z : r.number ≡ 0) where
    some_image : (fs : List ObjectFunction) × (image_of s ≡ some fs)
    unfolding check
    some_image = accepted_by (image_of s) (sym (ap (λ (x : Answer). x.number) e) ∙ z)

    accepted_image : Accepted s
    unfolding counted_in
    accepted_image = accepted_is s _ _ (sym (ap counted_in some_image.1))

    pub image_room : 6 ≤ length s
    image_room = accepted_image.room

    pub image_sound : (bytes : (i : ℕ) → get_or s i 0 < 256) (count : ℕ) → count ≡ word32 s 2 → count < 4294967296 → Sound s count
    unfolding earlier functions_in is_got image_of
    image_sound bytes count q l =
        let a = accepted_image in
        let are : many count (read_function s) 6 ≡ got a.fs a.end = ap (λ (m : ℕ). many m (read_function s) 6) q ∙ a.are in
        let those : earlier s count ≡ a.fs = ap functions_in are in
        let all-bytes = bytes_of s bytes count 6 a.end a.fs are in
        let right : right_all [] a.fs ≡ true =
        (and_of (right_all [] a.fs) (named_once a.fs) (sym (sound_is a.fs all-bytes) ∙ sound_by (read_image s) a.fs a.is)).0 in
        record {
          small = l;
          room = a.room;
          read = ap is_got are;
          fine = ap (right_all []) those ∙ right;
          is = a.is ∙ ap some (sym those);
        }
