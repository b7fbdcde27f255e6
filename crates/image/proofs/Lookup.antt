-- Laws of the lookup of a function's code.
use mathlib.Core.Path.{◌≡◌, refl, sym, ap, ◌∙◌}
use mathlib.Core.Bool.{Bool, true, false}
use mathlib.Core.Option.{Option, none, some}
use mathlib.Core.List.{List, []}
use Prim.Native.Nat.{ℕ, zero, suc, ◌+◌, ◌-◌, ◌<◌, ◌≤◌}
use native.Mathlib.Omega.{arith}
use lib.ListN.{length, get_elem?, take, drop, length-take, length-drop}
use lib.Dec.{eqb, ltb, leb}
use borrow.Author.Tests.{lt-ltb, le-ltb, eq-eqb, ne_eqb, eqb-true, eqb-false, leb-true, leb-false}
use Rattle.std.specs.Prelude.{if◌then◌else◌, Some, None}
use Rattle.std.specs.declared.option.Option as answer
use Rattle.rules.specs.declared.Answer.{Answer}
use Rattle.rules.specs.declared.Refusal.TheVariants.{ImageRefused, NoSuchFunction}
use Rattle.rules.specs.Answer.{refusal, accepted, at_offset}
use Rattle.rules.specs.Reader.{Read, got, bad, go_on, ◌>>◌, many}
use Rattle.rules.specs.Chunk.{ObjectFunction}
use Rattle.rules.specs.Image.{image_bytes}
use Rattle.rules.specs.ImageFile.{read_function}
use Rattle.rules.specs.Checker.{sound, image_of, function_numbered, code_in, code_of, code_before, place_in, code_place, code_verdict, code_answer}
use Rattle.rules.specs.Checker.{code_part, directory_verdict, directory_of, record_part}
use Rattle.fields.specs.Words.{word32, letters}
use Rattle.image_records.specs.Told.{place_told, head_at, code_told}
use Rattle.image_records.proofs.Many.{got_bad, same_got, many_length, Nth, nth_of, place_bad, place_at}
use Rattle.image_records.specs.declared.Header.{Header}
use Rattle.image_records.proofs.Records.{Headed, headed, head_fails, Body, body_of, coded, at_code, whole_function}
use Rattle.image_directory.specs.Behind.{behind_right}
use Rattle.image_functions.proofs.One.{done, done_same}
use Rattle.image.specs.Counted.{counted_in, Lies}
use Rattle.image.proofs.Sound.{elem_none}
use Rattle.image.proofs.Whole.{after, image_is, no_room, no_mark, no_functions}

-- what is told of a lookup is so
pub record Told (image : List ℕ) (k : ℕ) (r : Answer) : Type 0 where
  pub is : r ≡ code_part image k
  pub lies : Lies image k

-- where a lookup is refused
pub record Refused (image : List ℕ) (k : ℕ) : Type 0 where
  pub content : [] ≡ code_of image k
  pub place : 0 ≡ code_place image k

-- where the code begins, and how long it is
pub record Stands (image : List ℕ) (k start size : ℕ) : Type 0 where
  pub within : start + size ≤ length image
  pub content : take size (drop start image) ≡ code_of image k
  pub place : start ≡ code_place image k
  pub number : accepted 0 ≡ code_answer image k

-- ## An image that is accepted

pub record Accepted (s : List ℕ) : Type 0 where
  pub fs : List ObjectFunction
  pub end : ℕ
  pub room : 6 ≤ length s
  pub are : many (word32 s 2) (read_function s) 6 ≡ got fs end
  pub is : image_of s ≡ some fs

module _ (s : List ℕ) (n end : ℕ) where
  not_bad : done n end ≡ counted_in (image_of s) → None ≡ counted_in (image_of s) → ⊥
  not_bad e f = let z : done n end ≡ None = e ∙ sym f in cc

  read_by : (r : Read (List ObjectFunction)) → many (word32 s 2) (read_function s) 6 ≡ r → image_of s ≡ after s r
      → done n end ≡ counted_in (image_of s) → 6 ≤ length s → Accepted s
  unfolding after counted_in
  read_by (bad fault) e i y h = absurd (not_bad y (sym (ap counted_in i)))
  read_by (got fs last) e i y h = by (behind_right s (got fs last)) (sound fs) i
    where
      by : (t u : Bool) → image_of s ≡ (if t then (if u then some fs else none) else none) → Accepted s
      by true true i = record { fs = fs; end = last; room = h; are = e; is = i }
      by true false i = absurd (not_bad y (sym (ap counted_in i)))
      by false u i = absurd (not_bad y (sym (ap counted_in i)))

  count_by : (k : ℕ) → k ≡ word32 s 2 → 6 ≤ length s → letters s 0 ≡ 0x494D → done n end ≡ counted_in (image_of s) → Accepted s
  count_by zero q h m y = absurd (not_bad y (no_functions s h m 0 q refl))
  count_by (suc k) q h m y = read_by (many (word32 s 2) (read_function s) 6) refl (image_is s h m (word32 s 2) refl (omega arith)) y h

  accepted_by : (t u : Bool) → leb 6 (length s) ≡ t → eqb (letters s 0) 0x494D ≡ u → done n end ≡ counted_in (image_of s) → Accepted s
  accepted_by true true e f y = count_by (word32 s 2) refl (leb-true _ _ e) (eqb-true _ _ f) y
  accepted_by true false e f y = absurd (not_bad y (no_mark s (leb-true _ _ e) (eqb-false _ _ f)))
  accepted_by false u e f y = absurd (not_bad y (no_room s (leb-false _ _ e)))

  pub accepted_is : done n end ≡ counted_in (image_of s) → Accepted s
  accepted_is y = accepted_by _ _ refl refl y

none_by : (o : Option (List ObjectFunction)) → None ≡ counted_in o → o ≡ none
unfolding counted_in
none_by none e = refl
none_by (some fs) e = absurd (cc)

-- ## A function's code, behind its record's other parts

pub record CodeAt (s : List ℕ) (f : ObjectFunction) (next : ℕ) : Type 0 where
  pub start : ℕ
  pub within : start + length f.chunk.ops ≤ length s
  pub ends : next ≡ start + length f.chunk.ops
  pub content : take (length f.chunk.ops) (drop start s) ≡ f.chunk.ops

module _ (s : List ℕ) (at next : ℕ) (f : ObjectFunction) (e : read_function s at ≡ got f next) where
  code_in_part : (start size : ℕ) → start + size ≤ length s → next ≡ start + size → f.chunk.ops ≡ take size (drop start s) → CodeAt s f next
  code_in_part start size w n o =
      let l : length f.chunk.ops ≡ size = ap length o ∙ simp (length-take, length-drop) (omega arith) in
      record { start = start; within = omega arith; ends = omega arith; content = rw l (sym o) }

  module _ (h : Header) (is-head : Some h ≡ head_at s at) where
    abbrev b : Headed s at h
    b = headed s at h is-head

    abbrev o : Body s b.name b.arity h.upvalues h.constants h.runs h.code (at + 17) f next
    o = body_of s b.name b.arity h.upvalues h.constants h.runs h.code (at + 17) f next (sym b.is ∙ e)

    code_by : (p : answer.Option ℕ) → p ≡ code_told s h.code o.code_at → CodeAt s f next
    code_by None c = absurd (got_bad (at_code s at h b o.cs o.runs_at o.constants_are o.rs o.code_at o.runs_are c) e)
    code_by (Some start) c =
        let d = coded s h.code o.code_at start c in
        let w = whole_function s at h b o.cs o.runs_at o.constants_are o.rs o.code_at o.runs_are start d in
        let q = same_got e w in
        code_in_part start h.code d.within q.1 (ap (λ (g : ObjectFunction). g.chunk.ops) q.0)

  head_by : (hd : answer.Option Header) → hd ≡ head_at s at → CodeAt s f next
  head_by None c = absurd (got_bad (head_fails s at c) e)
  head_by (Some h) c = code_by h c (code_told s h.code (o h c).code_at) refl

  pub code_stands : CodeAt s f next
  code_stands = head_by (head_at s at) refl

module _ (s : List ℕ) (k : ℕ) where
  -- where the code of a checked image begins
  abbrev begins : ℕ
  begins = code_before ((many k (read_function s) >> read_function s) 6)

  refused_by : function_numbered k (image_of s) ≡ none → Refused s k
  unfolding code_of code_in code_place place_in
  refused_by e = record { content = sym (ap code_in e); place = sym (ap (λ (o : Option ObjectFunction). place_in o begins) e) }

  pub no_image : None ≡ counted_in (image_of s) → Refused s k
  unfolding function_numbered
  no_image e = refused_by (ap (function_numbered k) (none_by (image_of s) e))

  pub answer_none : None ≡ counted_in (image_of s) → refusal ImageRefused ≡ code_answer s k
  unfolding code_answer code_verdict
  answer_none e = sym (ap (code_verdict k) (none_by (image_of s) e))

  module _ (a : Accepted s) where
    number_of : length a.fs ≡ word32 s 2
    number_of = many_length (read_function s) (word32 s 2) 6 a.end a.fs a.are

    numbered : function_numbered k (image_of s) ≡ get_elem? a.fs k
    unfolding function_numbered
    numbered = ap (function_numbered k) a.is

    pub no_function : word32 s 2 ≤ k → Refused s k
    no_function h = refused_by (numbered ∙ elem_none a.fs k (omega (arith, number_of)))

    pub answer_past : word32 s 2 ≤ k → refusal NoSuchFunction ≡ code_answer s k
    unfolding code_answer code_verdict
    answer_past h = sym (ap (code_verdict k) a.is ∙ rw (le-ltb k (length a.fs) (omega (arith, number_of))) refl)

    pub answer_there : k < word32 s 2 → accepted 0 ≡ code_answer s k
    unfolding code_answer code_verdict
    answer_there h = sym (ap (code_verdict k) a.is ∙ rw (lt-ltb k (length a.fs) (omega (arith, number_of))) refl)

    module _ (h : k < word32 s 2) where
      abbrev nth : Nth (read_function s) (word32 s 2) k 6 a.fs
      nth = nth_of (read_function s) (word32 s 2) k 6 a.end a.fs a.are h

      pub lost : {A : Type 0} → None ≡ place_told (many k (read_function s) 6) → A
      lost e = absurd (got_bad (place_bad _ e) nth.before)

      module _ (at : ℕ) (is_at : Some at ≡ place_told (many k (read_function s) 6)) where
        here : read_function s at ≡ got nth.value nth.next
        here = ap (read_function s) (same_got (place_at _ at is_at).is nth.before).1 ∙ nth.is

        start_is : begins ≡ nth.next - length nth.value.chunk.ops
        unfolding code_before go_on ◌>>◌
        start_is =
            ap (λ (r : Read (List ObjectFunction)). code_before (go_on r (λ _. read_function s))) nth.before ∙ ap code_before nth.is

        stands : Stands s k (nth.next - length nth.value.chunk.ops) (length nth.value.chunk.ops)
        unfolding code_of code_in code_place place_in
        stands =
            let c = code_stands s at nth.next nth.value here in
            let p : nth.next - length nth.value.chunk.ops ≡ c.start = omega (arith, c.ends) in
            let f = numbered ∙ nth.there in
            record {
              within = omega (arith, c.within, c.ends);
              content = rw p (c.content ∙ sym (ap code_in f));
              place = sym (ap (λ (x : Option ObjectFunction). place_in x begins) f ∙ start_is);
              number = answer_there h;
            }

-- ## The answer

answer_by : (b : Bool) → (a : Answer) → a ≡ (if b then accepted 0 else refusal NoSuchFunction) → at_offset a.number 0 ≡ a
unfolding refusal
answer_by true a e = rw e refl
answer_by false a e = rw e refl

-- of the lookup's answer only the number is not 0
pub only_number : (s : List ℕ) (k : ℕ) → at_offset (code_answer s k).number 0 ≡ code_answer s k
unfolding code_answer code_verdict refusal
only_number s k = by (image_of s)
  where
    by : (o : Option (List ObjectFunction)) → at_offset (code_verdict k o).number 0 ≡ code_verdict k o
    by none = refl
    by (some fs) = answer_by (ltb k (length fs)) _ refl

module _ (s : List ℕ) (k : ℕ) where
  pub told_refused : (a : Answer) → a ≡ code_answer s k → Refused s k → Told s k a
  unfolding code_part
  told_refused a e r =
      record {
        is = e ∙ sym (only_number s k) ∙ rw (← r.place, ← r.content) refl;
        lies = record { within = rw (← r.place, ← r.content) (omega arith); content = rw (← r.content) refl };
      }

  pub told_stands : (start size end : ℕ) → Stands s k start size → end ≡ start + size
      → Told s k (record { number = 0; at = start; end = end; name = 0; length = size; function = 0; around = 0 })
  unfolding code_part
  told_stands start size end t e =
      let w = t.within in
      let l : length (code_of s k) ≡ size = ap length (sym t.content) ∙ simp (length-take, length-drop) (omega arith) in
      record {
        is = rw (← t.number, l, ← t.place, e) refl;
        lies = record { within = rw (l, ← t.place) w; content = rw (l, ← t.place) t.content };
      }

-- what is told of the record that the walk ends at
module _ (s : List ℕ) (k : ℕ) (a : Accepted s) (h : k < word32 s 2) (at : ℕ) (is_at : Some at ≡ place_told (many k (read_function s) 6)) where
  pub told_record : (r : Answer) → r ≡ record_part s (read_function s at) → Told s k r
  unfolding record_part
  told_record r e =
      let n = nth s k a h in
      let c = code_stands s at n.next n.value (here s k a h at is_at) in
      let t = told_stands s k (n.next - length n.value.chunk.ops) (length n.value.chunk.ops) n.next (stands s k a h at is_at)
      (omega (arith, c.ends)) in
      record { is = e ∙ ap (record_part s) (here s k a h at is_at) ∙ t.is; lies = t.lies }

-- what is told, as the ends of a part of the image
module _ (s : List ℕ) (k : ℕ) (a : Answer) (e : a ≡ code_part s k) (l : Lies s k) where
  pub place_of : a.at ≡ code_place s k
  unfolding code_part
  place_of = ap (λ (r : Answer). r.at) e

  pub end_of : a.end ≡ a.at + length (code_of s k)
  unfolding code_part
  end_of = rw e refl

  pub ends_within : a.end ≤ length s
  ends_within = let p = place_of in let q = end_of in omega (arith, l.within)

  pub part_is : (first end : ℕ) → first ≡ a.at → end ≡ a.end → take (end - first) (drop first s) ≡ code_of s k
  part_is first end p q =
      let n = end_of in
      let m : end - first ≡ length (code_of s k) = omega arith in
      let f : first ≡ code_place s k = p ∙ place_of in
      rw (m, f) l.content

-- ## The directory

module _ (s : List ℕ) where
  pub no_directory : None ≡ counted_in (image_of s) → refusal ImageRefused ≡ directory_of s
  unfolding directory_of directory_verdict
  no_directory e = sym (ap (directory_verdict (length s)) (none_by (image_of s) e))

  module _ (n end : ℕ) (y : done n end ≡ counted_in (image_of s)) where
    abbrev a : Accepted s
    a = accepted_is s n end y

    end_is : end ≡ length (image_bytes a.fs)
    unfolding counted_in
    end_is = (done_same n end _ _ (y ∙ ap counted_in a.is)).1

    pub nothing_behind : end ≡ length s → accepted 0 ≡ directory_of s
    unfolding directory_of directory_verdict
    nothing_behind e = sym (ap (directory_verdict (length s)) a.is ∙ rw (eq-eqb _ _ (sym end_is ∙ e)) refl)

    pub directory_told : (end ≡ length s → ⊥) → (at last count : ℕ) → at ≡ end → last ≡ length s → count ≡ word32 s 2
        → record { number = 0; at = at; end = last; name = 0; length = count; function = 0; around = 0 } ≡ directory_of s
    unfolding directory_of directory_verdict
    directory_told e at last count p q r =
        let c : count ≡ length a.fs = r ∙ sym (many_length (read_function s) (word32 s 2) 6 a.end a.fs a.are) in
        let l : at ≡ length (image_bytes a.fs) = p ∙ end_is in
        rw (l, q, c) (sym (ap (directory_verdict (length s)) a.is ∙ rw (ne_eqb _ _ (λ x. e (end_is ∙ x))) refl))
