-- Laws of all functions, one after the other.
use mathlib.Core.Path.{◌≡◌, refl, sym, ap, ◌∙◌}
use mathlib.Core.Bool.{Bool, true, false}
use mathlib.Core.Option.{some}
use mathlib.Core.List.{List, ◌∷◌, ◌++◌, []}
use mathlib.Core.Logic.{⊎_elim}
use Prim.Native.Nat.{ℕ, zero, suc, ◌+◌, ◌-◌, ◌<◌, ◌≤◌}
use native.Mathlib.Omega.{arith}
use native.Mathlib.Nat.{eq-or-lt_of_le}
use native.Mathlib.Numerals.{add-one}
use lib.ListN.{length, get_or, set, length-set, get_elem?}
use lib.Seq.{get_or-set_same, get_or-set_other}
use Rattle.std.specs.Prelude.{if◌then◌else◌, Some, None}
use Rattle.rules.specs.Reader.{Read, got, bad, many}
use Rattle.rules.specs.Chunk.{ObjectFunction}
use Rattle.rules.specs.Division.{division}
use Rattle.rules.specs.ImageFile.{read_function}
use Rattle.rules.specs.Checker.{instructions}
use Rattle.image_records.specs.declared.Header.{Header}
use Rattle.image_records.specs.Told.{head_at}
use Rattle.image_records.proofs.Many.{onto, many_none, many_more, left_goes, left_stops, left_none, passed_none}
use Rattle.image_records.proofs.Records.{headed, head_fails, upvalues_headed}
use Rattle.image_constants.specs.Earlier.{functions_in, is_got, earlier, upvalues_in, upvalues_at, Counts}
use Rattle.image_constants.proofs.Kinding.{earlier_number}
use Rattle.image_functions.proofs.One.{done, done_same}
use Rattle.image_functions.specs.Judged.{right, function_done, NextIs, right_all, count_all, functions_done}

no_true : false ≡ true → ⊥
no_true e = cc

pub elem_before : {A : Type 0} (l m : List A) (j : ℕ) → j < length l → get_elem? (l ++ m) j ≡ get_elem? l j
elem_before [] m j h = absurd (omega arith)
elem_before (x ∷ l) m zero h = refl
elem_before (x ∷ l) m (suc j) h = elem_before l m j (omega arith)

pub elem_at : {A : Type 0} (l : List A) (x : A) (m : List A) (j : ℕ) → j ≡ length l → get_elem? (l ++ (x ∷ m)) j ≡ some x
elem_at [] x m zero e = refl
elem_at [] x m (suc j) e = absurd (omega arith)
elem_at (y ∷ l) x m zero e = absurd (omega arith)
elem_at (y ∷ l) x m (suc j) e = elem_at l x m j (omega arith)

-- ## One more function

pub record ReadIs {A : Type 0} (r : Read A) : Type 0 where
  pub value : A
  pub next : ℕ
  pub is : r ≡ got value next

pub read_is : {A : Type 0} (r : Read A) → is_got r ≡ true → ReadIs r
unfolding is_got
read_is (got a n) e = record { value = a; next = n; is = refl }
read_is (bad fault) e = absurd (no_true e)

module _ (s : List ℕ) (k at next : ℕ) (f : ObjectFunction) (p : many k (read_function s) 6 ≡ got (earlier s k) at) (e : read_function s at ≡ got f next) where
  pub one_more : many (k + 1) (read_function s) 6 ≡ got (earlier s k ++ (f ∷ [])) next
  one_more = rw add-one (many_more (read_function s) f at next e k 6 (earlier s k) p)

  pub earlier_more : earlier s (k + 1) ≡ earlier s k ++ (f ∷ [])
  unfolding earlier functions_in
  earlier_more = ap functions_in one_more

  pub got_more : is_got (many (k + 1) (read_function s) 6) ≡ true
  unfolding is_got
  got_more = ap is_got one_more

  module _ (counts : List ℕ) (c : Counts s k counts) where
    number_of : length (earlier s k) ≡ k
    number_of = earlier_number s k c.there

    before_is : (j : ℕ) → j < k → upvalues_at (earlier s (k + 1)) j ≡ upvalues_at (earlier s k) j
    unfolding upvalues_at
    before_is j h =
        ap (λ (l : List ObjectFunction). upvalues_in (get_elem? l j)) earlier_more ∙ ap upvalues_in (elem_before (earlier s k) (f ∷ []) j (omega (arith, number_of)))

    last_is : (j : ℕ) → j ≡ k → upvalues_at (earlier s (k + 1)) j ≡ f.upvalue_count
    unfolding upvalues_at upvalues_in
    last_is j h =
        ap (λ (l : List ObjectFunction). upvalues_in (get_elem? l j)) earlier_more ∙ ap upvalues_in (elem_at (earlier s k) f [] j (h ∙ sym number_of))

    counts_set : (u : ℕ) → u ≡ f.upvalue_count → k < length counts → Counts s (k + 1) (set counts k u)
    counts_set u q small =
        record {
          there = got_more;
          known =
              λ j h l. let l' : j < length counts = (let e = length-set counts k u in omega arith) in ⊎_elim
              (λ (x : j ≡ k). ap (λ (m : ℕ). get_or (set counts k u) m 0) x ∙ get_or-set_same counts k u 0 small ∙ q ∙ sym (last_is j x))
              (λ (x : j < k). get_or-set_other counts k j u 0 (λ y. omega arith) ∙ c.known j x l' ∙ sym (before_is j x)) (eq-or-lt_of_le (omega arith));
        }

    counts_past : length counts ≤ k → Counts s (k + 1) counts
    counts_past large =
        record { there = got_more; known = λ j h l. c.known j (omega arith) l ∙ sym (before_is j (omega arith)) }

-- what `note_count` does
module _ (s : List ℕ) (k at : ℕ) (counts : List ℕ) (c : Counts s k counts) (n : NextIs s k at) where
  abbrev r : ReadIs (read_function s at)
  r = read_is (read_function s at) n.there

  pub note_headless : None ≡ head_at s at → Counts s (k + 1) counts
  note_headless b =
      let f = head_fails s at b in
      absurd (let z : ◌≡◌ {A = Read ObjectFunction} (bad f.fault) (got r.value r.next) = sym f.is ∙ r.is in cc)

  pub note_set : (h : Header) → Some h ≡ head_at s at → k < length counts → Counts s (k + 1) (set counts k h.upvalues)
  note_set h b small =
      counts_set s k at r.next r.value n.place r.is counts c h.upvalues (sym (upvalues_headed s at h r.value r.next (headed s at h b) r.is)) small

  pub note_past : length counts ≤ k → Counts s (k + 1) counts
  note_past large = counts_past s k at r.next r.value n.place r.is counts c large

-- ## The loop

pub record Going (s : List ℕ) (count counts-room stamps-room ring-room : ℕ) (counts stamps : List ℕ) (ring : List Bool) (at k total : ℕ) : Type 0 where
  pub within : k ≤ count
  pub counts_are : Counts s k counts
  pub place : many k (read_function s) 6 ≡ got (earlier s k) at
  pub low : total ≤ at
  pub inside : at ≤ length s
  pub left : functions_done 0 [] (many count (read_function s) 6) ≡ functions_done total (earlier s k) (many (count - k) (read_function s) at)
  pub counts_size : length counts ≡ counts-room
  pub stamps_size : length stamps ≡ stamps-room
  pub ring_size : length ring ≡ ring-room

module _ (n : ℕ) (before : List ObjectFunction) (f : ObjectFunction) where
  wrong_on : (r : Read (List ObjectFunction)) → right before f ≡ false → functions_done n before (onto f r) ≡ None
  unfolding functions_done onto right_all
  wrong_on (bad fault) e = refl
  wrong_on (got fs end) e = rw e refl

  right_on : (r : Read (List ObjectFunction)) → right before f ≡ true
      → functions_done n before (onto f r) ≡ functions_done (n + instructions (division before f)) (before ++ (f ∷ [])) r
  unfolding functions_done onto right_all count_all
  right_on (bad fault) e = refl
  right_on (got fs end) e =
      let m : n + (instructions (division before f) + count_all (before ++ (f ∷ [])) fs) ≡ n + instructions (division before f) + count_all (before ++ (f ∷ [])) fs = omega arith in
      rw (e, m) refl

pub record DoneIs (before : List ObjectFunction) (r : Read ObjectFunction) (n next : ℕ) : Type 0 where
  pub value : ObjectFunction
  pub is : r ≡ got value next
  pub fine : right before value ≡ true
  pub number : n ≡ instructions (division before value)

done_is : (before : List ObjectFunction) (r : Read ObjectFunction) (n next : ℕ) → Some (n, next) ≡ function_done before r → DoneIs before r n next
unfolding function_done
done_is before (bad fault) n next e = absurd (cc)
done_is before (got f m) n next e = by (right before f) refl e
  where
    by : (t : Bool) → right before f ≡ t → done n next ≡ (if t then done (instructions (division before f)) m else None) → DoneIs before (got f m) n next
    by true g e = let z = done_same n next (instructions (division before f)) m e in record { value = f; is = ap (got f) (sym z.1); fine = g; number = z.0 }
    by false g e = absurd (cc)

module _ (s : List ℕ) (count : ℕ) where
  pub going_begin : (counts stamps : List ℕ) (ring : List Bool) → 6 ≤ length s
      → Going s count (length counts) (length stamps) (length ring) counts stamps ring 6 0 0
  unfolding earlier functions_in is_got
  going_begin counts stamps ring room =
      let z = many_none (read_function s) 0 6 refl in
      let e : earlier s 0 ≡ [] = ap functions_in z in
      record {
        within = omega arith;
        counts_are = record { there = ap is_got z; known = λ j h l. absurd (omega arith) };
        place = z ∙ ap (λ (l : List ObjectFunction). got l 6) (sym e);
        low = omega arith;
        inside = room;
        left =
            ap (functions_done 0 []) (passed_none (read_function s) count 6) ∙
            ap (λ (l : List ObjectFunction). functions_done 0 l (many (count - 0) (read_function s) 6)) (sym e);
        counts_size = refl;
        stamps_size = refl;
        ring_size = refl;
      }

  module _ (size stamps-room ring-room : ℕ) (counts stamps : List ℕ) (ring : List Bool) (at k total : ℕ)
      (g : Going s count size stamps-room ring-room counts stamps ring at k total) where
    stop_by : k < count → (r : Read ObjectFunction) → read_function s at ≡ r → None ≡ function_done (earlier s k) r
        → functions_done total (earlier s k) (many (count - k) (read_function s) at) ≡ None
    unfolding function_done functions_done
    stop_by h (bad fault) e b =
        ap (functions_done total (earlier s k)) (left_stops (read_function s) count k at h (record { fault = fault; is = e })).is
    stop_by h (got f next) e b =
        ap (functions_done total (earlier s k)) (left_goes (read_function s) count k at next f h e) ∙ wrong_on total (earlier s k) f _ (by (right (earlier s k) f) b)
      where
        by : (t : Bool) → None ≡ (if t then done (instructions (division (earlier s k) f)) next else None) → t ≡ false
        by true b = absurd (cc)
        by false b = refl

    pub going_stop : k < count → None ≡ function_done (earlier s k) (read_function s at)
        → None ≡ functions_done 0 [] (many count (read_function s) 6)
    going_stop h b = sym (g.left ∙ stop_by h (read_function s at) refl b)

    module _ (n next : ℕ) (e : Some (n, next) ≡ function_done (earlier s k) (read_function s at)) where
      abbrev d : DoneIs (earlier s k) (read_function s at) n next
      d = done_is (earlier s k) (read_function s at) n next e

      pub next_is : NextIs s k at
      unfolding is_got
      next_is = record { place = g.place; there = ap is_got d.is }

      pub going_on : k < count → (at + n ≤ next) × (next ≤ length s) → (counts' stamps' : List ℕ) (ring' : List Bool) → Counts s (k + 1) counts'
          → length counts' ≡ size → length stamps' ≡ stamps-room → length ring' ≡ ring-room
          → Going s count size stamps-room ring-room counts' stamps' ring' next (k + 1) (total + n)
      going_on h grows counts' stamps' ring' c z t o =
          let m = earlier_more s k at next d.value g.place d.is in
          record {
            within = omega arith;
            counts_are = c;
            place = one_more s k at next d.value g.place d.is ∙ ap (λ (l : List ObjectFunction). got l next) (sym m);
            low = omega (arith, g.low);
            inside = grows.1;
            left =
                g.left ∙ ap (functions_done total (earlier s k)) (left_goes (read_function s) count k at next d.value h d.is) ∙
                right_on total (earlier s k) d.value _ d.fine ∙
                ap (λ (x : ℕ). functions_done (total + x) (earlier s k ++ (d.value ∷ [])) (many (count - (k + 1)) (read_function s) next)) (sym d.number) ∙
                ap (λ (l : List ObjectFunction). functions_done (total + n) l (many (count - (k + 1)) (read_function s) next)) (sym m);
            counts_size = z;
            stamps_size = t;
            ring_size = o;
          }

    pub going_done : count ≤ k → Some (total, at) ≡ functions_done 0 [] (many count (read_function s) 6)
    unfolding functions_done right_all count_all
    going_done h =
        let z : total + 0 ≡ total = omega arith in
        sym (g.left ∙ ap (functions_done total (earlier s k)) (left_none (read_function s) count k at h) ∙ rw z refl)
