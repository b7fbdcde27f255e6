-- The lookups: the span of a code byte is what the runs say when written out byte by byte, and 42 comes back exactly from their sum on; the code of a
-- function is that very stretch of the image, from `code_place` on.
use mathlib.Core.Path.{◌≡◌, refl, ap, subst, subst⁻¹}
use mathlib.Core.Logic.{◌↔◌}
use mathlib.Core.Bool.{Bool, true, false}
use mathlib.Core.Option.{Option, none, some}
use mathlib.Core.List.{List, ◌∷◌, ◌++◌, []}
use Prim.Native.Nat.{ℕ, zero, suc, ◌+◌, ◌-◌, ◌≤◌, ◌<◌}
use native.Mathlib.Omega.{arith}
use lib.ListN.{length, get_or, get_elem?, take, drop, replicate}
use lib.Seq.{drop-cons}
use lib.Dec.{T, ltb, ltb→lt, nltb→le}
use Rattle.std.specs.Prelude.{if◌then◌else◌}
use Rattle.rules.specs.declared.Span.{Span}
use Rattle.rules.specs.declared.Answer.{Answer}
use Rattle.rules.specs.declared.Refusal.{Refusal}
use Rattle.rules.specs.declared.Refusal.TheVariants.{ImageRefused, NoSuchFunction, NoSuchByte}
use Rattle.rules.specs.Answer.{refusal, accepted, at_span}
use Rattle.rules.specs.Reader as r
use Rattle.rules.specs.Reader.{Read, Reader, got, bad}
use Rattle.rules.specs.Chunk.{Run, total, ObjectFunction}
use Rattle.rules.specs.ImageFile as file
use Rattle.rules.specs.Checker as checker
use Rattle.rules.specs.Checker.{check, image_of, code_of, code_place, code_answer, span_of}

-- ## The span of a byte

-- the span of each byte, in order
abbrev pub spans_of : List Run → List Span
spans_of [] = []
spans_of (run ∷ runs) = replicate run.count run.span ++ spans_of runs

abbrev pub span_found : Option Span → Answer
span_found none = refusal NoSuchByte
span_found (some span) = at_span 0 span 0

nth_inside : {A : Type 0} (n : ℕ) (a : A) (xs : List A) (i : ℕ) → i < n → get_elem? (replicate n a ++ xs) i ≡ some a
nth_inside zero a xs i l = absurd (omega arith)
nth_inside (suc n) a xs zero l = refl
nth_inside (suc n) a xs (suc i) l = nth_inside n a xs i (omega arith)

nth_past : {A : Type 0} (n : ℕ) (a : A) (xs : List A) (i : ℕ) → n ≤ i → get_elem? (replicate n a ++ xs) i ≡ get_elem? xs (i - n)
nth_past zero a xs i l = let e : i - 0 ≡ i = omega arith in rw e
nth_past (suc n) a xs zero l = absurd (omega arith)
nth_past (suc n) a xs (suc i) l = let e : suc i - suc n ≡ i - n = omega arith in rw e (nth_past n a xs i (omega arith))

pub span_is : (runs : List Run) (offset : ℕ) → span_of runs offset ≡ span_found (get_elem? (spans_of runs) offset)
unfolding span_of
span_is [] offset = refl
span_is (run ∷ runs) offset = by_test (ltb offset run.count) refl (span_is runs (offset - run.count))
  where
    by_test : (b : Bool) → ltb offset run.count ≡ b →
        span_of runs (offset - run.count) ≡ span_found (get_elem? (spans_of runs) (offset - run.count)) →
        (if b then at_span 0 run.span 0 else span_of runs (offset - run.count)) ≡ span_found
        (get_elem? (replicate run.count run.span ++ spans_of runs) offset)
    by_test true e ih = rw (nth_inside run.count run.span (spans_of runs) offset (ltb→lt offset run.count (rw e tt)))
    by_test false e ih = rw (nth_past run.count run.span (spans_of runs) offset (nltb→le offset run.count (rw e tt))) ih

past_only : (runs : List Run) (offset : ℕ) → (span_of runs offset).number ≡ 42 → total runs ≤ offset
unfolding span_of total
past_only [] offset e = omega arith
past_only (run ∷ runs) offset e = by_test (ltb offset run.count) refl e (λ e. past_only runs (offset - run.count) e)
  where
    by_test : (b : Bool) → ltb offset run.count ≡ b → (if b then at_span 0 run.span 0 else span_of runs (offset - run.count)).number ≡ 42 →
        ((span_of runs (offset - run.count)).number ≡ 42 → total runs ≤ offset - run.count) → run.count + total runs ≤ offset
    by_test true t e ih = absurd (omega arith)
    by_test false t e ih = omega (arith, ih e, nltb→le offset run.count (rw t tt))

past_then : (runs : List Run) (offset : ℕ) → total runs ≤ offset → (span_of runs offset).number ≡ 42
unfolding span_of total refusal
past_then [] offset l = refl
past_then (run ∷ runs) offset l = by_test (ltb offset run.count) refl (past_then runs (offset - run.count) (omega arith))
  where
    by_test : (b : Bool) → ltb offset run.count ≡ b → (span_of runs (offset - run.count)).number ≡ 42 →
        (if b then at_span 0 run.span 0 else span_of runs (offset - run.count)).number ≡ 42
    by_test true t ih = absurd (omega (arith, ltb→lt offset run.count (rw t tt)))
    by_test false t ih = ih

-- 42 NoSuchByte: the offset is not below the sum of run counts
pub no_such_byte_exactly : (runs : List Run) (offset : ℕ) → ((span_of runs offset).number ≡ 42) ↔ (total runs ≤ offset)
no_such_byte_exactly runs offset = (past_only runs offset, past_then runs offset)

-- ## The code of a function

-- at this place, what the reader gives has `Q`
pub record Makes {A : Type 0} (m : Reader A) (at : ℕ) (Q : A → ℕ → Type 0) : Type 0 where
  pub run : (a : A) (next : ℕ) → m at ≡ got a next → Q a next

pub first : {A B : Type 0} (m : Reader A) {at : ℕ} {f : A → Reader B} {S : B → ℕ → Type 0} → ((a : A) (i : ℕ) → m at ≡ got a i → Makes (f a) i S) →
    Makes (r.◌>>=◌ m f) at S
unfolding r.◌>>=◌ r.go_on
first {A} {B = B} m {at = at} {f = f} {S = S} h = record { run = λ b next e. by_outcome (m at) refl b next e }
  where
    by_outcome : (o : Read A) → m at ≡ o → (b : B) (next : ℕ) → r.go_on o f ≡ got b next → S b next
    by_outcome (got a i) e b next e' = (h a i e).run b next e'
    by_outcome (bad fault) e b next e' = let z : ◌≡◌ {A = ℕ} 0 1 = cc in absurd (omega arith)

pub next : {A B : Type 0} (m : Reader A) {at : ℕ} {n : Reader B} {S : B → ℕ → Type 0} → ((a : A) (i : ℕ) → m at ≡ got a i → Makes n i S) →
    Makes (r.◌>>◌ m n) at S
unfolding r.◌>>◌ r.go_on
next {A} {B = B} m {at = at} {n = n} {S = S} h = record { run = λ b next e. by_outcome (m at) refl b next e }
  where
    by_outcome : (o : Read A) → m at ≡ o → (b : B) (next : ℕ) → r.go_on o (λ _. n) ≡ got b next → S b next
    by_outcome (got a i) e b next e' = (h a i e).run b next e'
    by_outcome (bad fault) e b next e' = let z : ◌≡◌ {A = ℕ} 0 1 = cc in absurd (omega arith)

pub return : {A : Type 0} {at : ℕ} {Q : A → ℕ → Type 0} (a : A) → Q a at → Makes (r.return a) at Q
unfolding r.return
return {A} {at = at} {Q = Q} a q = record { run = λ b next e. same b next e }
  where
    same : (b : A) (next : ℕ) → got a at ≡ got b next → Q b next
    same b next e =
        let z : a ≡ b = cc in
        let y : at ≡ next = cc in
        subst (λ (i : ℕ). Q b i) y (subst (λ (b : A). Q b at) z q)

pub need_so : (b : Bool) (fault : Refusal) (at : ℕ) → Makes (r.need b fault) at (λ _ next. T b × (next ≡ at))
unfolding r.need r.return
need_so true fault at = return tt (tt, refl)
need_so false fault at = record { run = λ a next e. let z : ◌≡◌ {A = ℕ} 0 1 = cc in absurd (omega arith) }

-- bytes in a row are that stretch
record Stretch (image : List ℕ) (at : ℕ) (bs : List ℕ) (next : ℕ) : Type 0 where
  content : bs ≡ take (length bs) (drop at image)
  end : next ≡ at + length bs

module _ (image : List ℕ) where
  pub byte_at : (fault : Refusal) (at b next : ℕ) → r.u8 image fault at ≡ got b next → (at < length image) × (b ≡ get_or image at 0) × (next ≡ at + 1)
  unfolding r.u8
  byte_at fault at b next e = by_test (ltb at (length image)) refl e
    where
      by_test : (t : Bool) → ltb at (length image) ≡ t → (if t then got (get_or image at 0) (at + 1) else bad fault) ≡ got b next →
          (at < length image) × (b ≡ get_or image at 0) × (next ≡ at + 1)
      by_test true t e = (ltb→lt at (length image) (rw t tt), cc, cc)
      by_test false t e = let z : ◌≡◌ {A = ℕ} 0 1 = cc in absurd (omega arith)

  bytes_at : (fault : Refusal) (count at : ℕ) → Makes (r.many count (r.u8 image fault)) at (Stretch image at)
  unfolding r.many
  bytes_at fault zero at = return [] (record { content = refl; end = omega arith })
  bytes_at fault (suc count) at =
      first _ (λ b i e. first _ (λ bs j e'. return (b ∷ bs) (more b i bs j (byte_at fault at b i e) ((bytes_at fault count i).run bs j e'))))
    where
      more : (b i : ℕ) (bs : List ℕ) (j : ℕ) → (at < length image) × (b ≡ get_or image at 0) × (i ≡ at + 1) → Stretch image i bs j →
          Stretch image at (b ∷ bs) j
      more b i bs j h k =
          let w : i ≡ suc at = omega arith in
          let u : bs ≡ take (length bs) (drop (suc at) image) = subst (λ (i : ℕ). bs ≡ take (length bs) (drop i image)) w k.content in
          record { content = rw (drop-cons image at 0 h.0, h.1) (ap (λ (ds : List ℕ). get_or image at 0 ∷ ds) u); end = omega (arith, k.end) }

  -- a function's code is its record's end
  abbrev CodeEnds : List ℕ → ℕ → Type 0
  CodeEnds ops next = (length ops ≤ next) × (ops ≡ take (length ops) (drop (next - length ops) image))

  code_ends : (ops : List ℕ) (at next : ℕ) → Stretch image at ops next → CodeEnds ops next
  code_ends ops at next s =
      let e : next - length ops ≡ at = omega (arith, s.end) in
      (omega (arith, s.end), subst⁻¹ (λ (i : ℕ). ops ≡ take (length ops) (drop i image)) e s.content)

  function_ends : (at : ℕ) → Makes (file.read_function image) at (λ (f : ObjectFunction) next. CodeEnds f.chunk.ops next)
  unfolding file.read_function
  function_ends at =
      next _ (λ _ _ _. first _
      (λ name _ _. first _ (λ arity _ _. first _ (λ upvalue_count _ _. first _ (λ constant-count _ _. first _ (λ run-count _ _.
      first _ (λ code_length _ _. first _ (λ constants _ _. first _ (λ spans _ _. next _ (λ _ at _.
      first _ (λ ops i e. return _ (code_ends ops at i ((bytes_at ImageRefused code_length at).run ops i e)))))))))))))

  -- ## The function with a number, among those that are read in a row

  record Nth {A : Type 0} (one : Reader A) (k at : ℕ) (x : A) : Type 0 where
    passed : List A
    place : ℕ
    after : ℕ
    before : r.many k one at ≡ got passed place
    here : one place ≡ got x after

  later : {A : Type 0} (one : Reader A) (k at i : ℕ) (a x : A) → one at ≡ got a i → Nth one k i x → Nth one (suc k) at x
  unfolding r.many r.◌>>=◌ r.go_on r.return
  later one k at i a x e n = record { passed = a ∷ n.passed; place = n.place; after = n.after; before = rw (e, n.before); here = n.here }

  none_read : {A : Type 0} (one : Reader A) (at : ℕ) → r.many zero one at ≡ got [] at
  unfolding r.many r.return
  none_read one at = refl

  nth_read : {A : Type 0} (one : Reader A) (count k at : ℕ) (x : A) → Makes (r.many count one) at (λ xs _. get_elem? xs k ≡ some x → Nth one k at x)
  unfolding r.many
  nth_read one zero k at x = return [] (λ e. let z : ◌≡◌ {A = ℕ} 0 1 = cc in absurd (omega arith))
  nth_read {A} one (suc count) zero at x = first _ (λ a i e. first _ (λ bs j e'. return (a ∷ bs) (λ h. now a i e h)))
    where
      now : (a : A) (i : ℕ) → one at ≡ got a i → some a ≡ some x → Nth one zero at x
      now a i e h = let z : a ≡ x =
          cc in record { passed = []; place = at; after = i; before = none_read one at; here = subst (λ (x : A). one at ≡ got x i) z e }
  nth_read one (suc count) (suc k) at x =
      first _ (λ a i e. first _ (λ bs j e'. return (a ∷ bs) (λ h. later one k at i a x e ((nth_read one count k i x).run bs j e' h))))

  -- the functions begin behind the image's mark and count
  byte_next : (fault : Refusal) (at : ℕ) → Makes (r.u8 image fault) at (λ _ next. next ≡ at + 1)
  byte_next fault at = record { run = λ b next e. (byte_at fault at b next e).2 }

  wider : {m : Reader ℕ} (size : ℕ) (f : ℕ → ℕ → ℕ) → ((at : ℕ) → Makes m at (λ _ next. next ≡ at + size)) → (at : ℕ) →
      Makes (r.◌>>=◌ m (λ a. r.◌>>=◌ m (λ b. r.return (f a b)))) at (λ _ next. next ≡ at + (size + size))
  wider size f h at = first _ (λ a i e. first _ (λ b j e'. return (f a b) (omega (arith, (h at).run a i e, (h i).run b j e'))))

  u32_next : (at : ℕ) → Makes (r.u32 image ImageRefused) at (λ _ next. next ≡ at + 4)
  unfolding r.u32 r.u16
  u32_next at = wider 2 _ (wider 1 _ (byte_next ImageRefused)) at

  mark_next : (letters at : ℕ) → Makes (r.mark_is image ImageRefused letters) at (λ _ next. next ≡ at + 2)
  unfolding r.mark_is r.mark
  mark_next letters at =
      first _ (λ m i e. record {
        run =
            λ t j e'. omega (arith, (wider 1 _ (byte_next ImageRefused) at).run m i e, ((need_so _ ImageRefused i).run t j e').1);
      })

  record InARow (fs : List ObjectFunction) : Type 0 where
    count : ℕ
    end : ℕ
    read : r.many count (file.read_function image) 6 ≡ got fs end

  functions_read : Makes (file.read_functions image) 0 (λ fs _. InARow fs)
  unfolding file.read_functions
  functions_read =
      next _ (λ t i e.
      first _ (λ count j e₁.
      next _ (λ t' k e₂.
      first _ (λ fs m e₃.
      next _ (λ _ _ _.
      first _ (λ end _ _.
      next _ (λ _ _ _. return fs (record { count = count; end = m; read = from_6 count fs m i j k t t' e e₁ e₂ e₃ }))))))))
    where
      from_6 : (count : ℕ) (fs : List ObjectFunction) (m i j k : ℕ) (t t' : Unit {0}) → r.mark_is image ImageRefused 0x494D 0 ≡ got t i →
          r.u32 image ImageRefused i ≡ got count j → r.need (ltb 0 count) ImageRefused j ≡ got t' k →
          r.many count (file.read_function image) k ≡ got fs m → r.many count (file.read_function image) 6 ≡ got fs m
      from_6 count fs m i j k t t' e e₁ e₂ e₃ =
          let z : k ≡ 6 =
          omega (arith, (mark_next 0x494D 0).run t i e, (u32_next i).run count j e₁, ((need_so (ltb 0 count) ImageRefused j).run t' k e₂).1) in
          subst (λ (k : ℕ). r.many count (file.read_function image) k ≡ got fs m) z e₃

  -- the code of function k is the stretch of the image from `code_place` on
  abbrev start : (k : ℕ) → ℕ
  start k = checker.code_before ((r.◌>>◌ (r.many k (file.read_function image)) (file.read_function image)) 6)

  start_of : (k : ℕ) (f : ObjectFunction) (n : Nth (file.read_function image) k 6 f) → start k ≡ n.after - length f.chunk.ops
  unfolding checker.code_before r.◌>>◌ r.go_on
  start_of k f n = rw (n.before, n.here)

  stretch_of : (fs : List ObjectFunction) (k : ℕ) (f : ObjectFunction) → InARow fs → get_elem? fs k ≡ some f →
      f.chunk.ops ≡ take (length f.chunk.ops) (drop (start k) image)
  stretch_of fs k f row e =
      let n = (nth_read (file.read_function image) row.count k 6 f).run fs row.end row.read e in
      subst⁻¹ (λ (i : ℕ). f.chunk.ops ≡ take (length f.chunk.ops) (drop i image)) (start_of k f n)
      ((function_ends n.place).run f n.after n.here).1

  in_a_row : (fs : List ObjectFunction) → image_of image ≡ some fs → InARow fs
  unfolding image_of checker.checked file.read_image
  in_a_row fs e = by_read (file.read_functions image 0) refl e
    where
      by_sound : (b : Bool) (gs : List ObjectFunction) → (if b then some gs else none) ≡ some fs → gs ≡ fs
      by_sound true gs e = cc
      by_sound false gs e = let z : ◌≡◌ {A = ℕ} 0 1 = cc in absurd (omega arith)

      by_read : (o : Read (List ObjectFunction)) → file.read_functions image 0 ≡ o → checker.checked o ≡ some fs → InARow fs
      by_read (got gs next) e₁ e₂ = subst InARow (by_sound (checker.sound gs) gs e₂) (functions_read.run gs next e₁)
      by_read (bad fault) e₁ e₂ = let z : ◌≡◌ {A = ℕ} 0 1 = cc in absurd (omega arith)

  pub code_stretch : (k : ℕ) → code_of image k ≡ take (length (code_of image k)) (drop (code_place image k) image)
  unfolding code_of code_place checker.code_in checker.place_in checker.function_numbered
  code_stretch k = by_image (image_of image) refl
    where
      by_function : (fs : List ObjectFunction) → image_of image ≡ some fs → (o : Option ObjectFunction) → get_elem? fs k ≡ o →
          checker.code_in o ≡ take (length (checker.code_in o)) (drop (checker.place_in o (start k)) image)
      by_function fs e none e' = refl
      by_function fs e (some f) e' = stretch_of fs k f (in_a_row fs e) e'

      by_image : (o : Option (List ObjectFunction)) → image_of image ≡ o →
          checker.code_in (checker.function_numbered k o) ≡ take (length (checker.code_in (checker.function_numbered k o)))
          (drop (checker.place_in (checker.function_numbered k o) (start k)) image)
      by_image none e = refl
      by_image (some fs) e = by_function fs e (get_elem? fs k) refl

  -- 40 ImageRefused: the image checker says no, of a lookup as of the checker itself
  pub image_refused_exactly : (k : ℕ) → ((code_answer image k).number ≡ 40) ↔ ((check image).number ≡ 40)
  unfolding code_answer check checker.code_verdict checker.verdict refusal
  image_refused_exactly k = by_image (image_of image)
    where
      by_count : (fs : List ObjectFunction) (b : Bool) →
          ((if b then accepted 0 else refusal NoSuchFunction).number ≡ 40) ↔ ((accepted (checker.instruction_count fs fs)).number ≡ 40)
      by_count fs true = (λ e. absurd (omega arith), λ e. absurd (omega arith))
      by_count fs false = (λ e. absurd (omega arith), λ e. absurd (omega arith))

      by_image : (o : Option (List ObjectFunction)) → ((checker.code_verdict k o).number ≡ 40) ↔ ((checker.verdict o).number ≡ 40)
      by_image none = (λ e. refl, λ e. refl)
      by_image (some fs) = by_count fs (ltb k (length fs))

  -- 41 NoSuchFunction: checked image, number not below its count
  pub no_such_function_exactly : (k : ℕ) →
      ((code_answer image k).number ≡ 41) ↔ ((fs : List ObjectFunction) × (image_of image ≡ some fs) × (length fs ≤ k))
  unfolding code_answer checker.code_verdict refusal
  no_such_function_exactly k = by_image (image_of image) refl
    where
      by_count : (fs : List ObjectFunction) → image_of image ≡ some fs → (b : Bool) → ltb k (length fs) ≡ b →
          ((if b then accepted 0 else refusal NoSuchFunction).number ≡ 41) ↔
          ((fs : List ObjectFunction) × (image_of image ≡ some fs) × (length fs ≤ k))
      by_count fs e true t = (λ n. absurd (omega arith), λ p. absurd (other p.0 p.1 p.2))
        where
          other : (gs : List ObjectFunction) → image_of image ≡ some gs → length gs ≤ k → ⊥
          other gs e' l = let z : gs ≡ fs = cc in omega (arith, ltb→lt k (length fs) (rw t tt), ap length z)
      by_count fs e false t = (λ n. (fs, e, nltb→le k (length fs) (rw t tt)), λ p. refl)

      by_image : (o : Option (List ObjectFunction)) → image_of image ≡ o →
          ((checker.code_verdict k o).number ≡ 41) ↔ ((fs : List ObjectFunction) × (image_of image ≡ some fs) × (length fs ≤ k))
      by_image none e = (λ n. absurd (omega arith), λ p. absurd (other p.0 p.1))
        where
          other : (gs : List ObjectFunction) → image_of image ≡ some gs → ⊥
          other gs e' = let z : ◌≡◌ {A = ℕ} 0 1 = cc in omega arith
      by_image (some fs) e = by_count fs e (ltb k (length fs)) refl
