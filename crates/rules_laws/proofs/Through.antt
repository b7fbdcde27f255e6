-- Through the directory: where an accepted image has one, it stands behind the functions' bytes, and the lookup by it is the lookup by the walk, for
-- every number. Bytes that are no image are refused alike by both.
use mathlib.Core.Path.{◌≡◌, refl, sym, ap, ◌∙◌, subst}
use mathlib.Core.Logic.{◌↔◌, ◌≢◌}
use mathlib.Core.Bool.{Bool, true, false}
use mathlib.Core.Option.{Option, none, some}
use mathlib.Core.List.{List, ◌∷◌, ◌++◌, append_assoc, []}
use Prim.Native.Nat.{ℕ, zero, suc, ◌+◌, ◌-◌, ◌*◌, ◌≤◌, ◌<◌}
use native.Mathlib.Omega.{arith}
use lib.ListN.{length, get_elem?, length-append}
use lib.Dec.{ltb}
use borrow.Author.Tests.{lt-ltb, le-ltb, eq-eqb, ne_eqb}
use Rattle.rules.proofs.Numbers.{le_length}
use Rattle.rules.specs.Base.{le}
use Rattle.std.specs.Prelude.{if◌then◌else◌}
use Rattle.rules.specs.declared.Refusal.TheVariants.{ImageRefused, NoSuchFunction}
use Rattle.rules.specs.Answer.{refusal}
use Rattle.rules.specs.Reader as r
use Rattle.rules.specs.Reader.{Read, Reader, got, bad}
use Rattle.rules.specs.Chunk.{CN, CS, CF, ObjectFunction}
use Rattle.rules.specs.Image.{join, constant_bytes, run_bytes, function_bytes, image_bytes, places, directory_bytes, image_with}
use Rattle.rules.specs.ImageFile as file
use Rattle.rules.specs.ImageFile.{read_function, read_image, ConstantMark, number_mark, string_mark, function_mark}
use Rattle.rules.specs.Checker as checker
use Rattle.rules.specs.Checker.{check, image_of, directory_of, code_part, code_through}
use Rattle.rules_laws.proofs.Facts.{All, all_map, Bytes}
use Rattle.rules_laws.proofs.ReadBack as back
use Rattle.rules_laws.proofs.ReadBack.{FitsForm, FitsImage, Placed, image_length, Left, Comes, left_place, past}
use Rattle.rules_laws.proofs.Lookups.{Makes, first, next, return, need_so, byte_at}
use Rattle.rules_laws.proofs.WrittenAgain.{Again, form_both_ways}

-- ## How long a record is, whatever its bytes

function_size : (f : ObjectFunction) → length (function_bytes f) ≡
    19 + length (join constant_bytes f.chunk.constants) + length (join run_bytes f.chunk.spans) + length f.chunk.ops
unfolding function_bytes
function_size f = simp (length-append, le_length) (omega arith)

module _ (image : List ℕ) where
  -- the reader takes as many bytes as the value says
  abbrev Takes : {A : Type 0} → Reader A → (A → ℕ) → Type 0
  Takes m size = (at : ℕ) → Makes m at (λ a next. next ≡ at + size a)

  u8 : Takes (r.u8 image ImageRefused) (λ _. 1)
  u8 at = record { run = λ b next e. (byte_at image ImageRefused at b next e).2 }

  -- a number in two halves
  twice : {m : Reader ℕ} (size : ℕ) (f : ℕ → ℕ → ℕ) → Takes m (λ _. size) → Takes (r.◌>>=◌ m (λ a. r.◌>>=◌ m (λ b. r.return (f a b)))) (λ _. size + size)
  twice size f h at = first _ (λ a i e. first _ (λ b j e'. return (f a b) (omega (arith, (h at).run a i e, (h i).run b j e'))))

  u16 : Takes (r.u16 image ImageRefused) (λ _. 2)
  unfolding r.u16
  u16 = twice 1 _ u8

  u32 : Takes (r.u32 image ImageRefused) (λ _. 4)
  unfolding r.u32
  u32 = twice 2 _ u16

  u64 : Takes (r.u64 image ImageRefused) (λ _. 8)
  unfolding r.u64
  u64 = twice 4 _ u32

  mark : Takes (r.mark image ImageRefused) (λ _. 2)
  unfolding r.mark
  mark = twice 1 _ u8

  mark_is : (letters : ℕ) → Takes (r.mark_is image ImageRefused letters) (λ _. 2)
  unfolding r.mark_is
  mark_is letters at = first _ (λ m i e. record { run = λ t j e'. omega (arith, (mark at).run m i e, ((need_so _ ImageRefused i).run t j e').1) })

  many : {A : Type 0} (one : Reader A) (f : A → List ℕ) → Takes one (λ a. length (f a)) → (count : ℕ) →
      Takes (r.many count one) (λ vs. length (join f vs))
  unfolding r.many join
  many one f h zero at = return [] (omega arith)
  many one f h (suc count) at =
      first _ (λ v i e. first _ (λ vs j e'. return (v ∷ vs)
      (omega (arith, (h at).run v i e, (many one f h count i).run vs j e', length-append (f v) (join f vs)))))

  bytes : (count : ℕ) → Takes (r.many count (r.u8 image ImageRefused)) length
  unfolding r.many
  bytes zero at = return [] (omega arith)
  bytes (suc count) at = first _ (λ b i e. first _ (λ bs j e'. return (b ∷ bs) (omega (arith, (u8 at).run b i e, (bytes count i).run bs j e'))))

  known : {A : Type 0} (o : Option A) → Takes (r.known ImageRefused o) (λ _. 0)
  unfolding r.known r.refuse
  known none at = record { run = λ a next e. let z : ◌≡◌ {A = ℕ} 0 1 = cc in absurd (omega arith) }
  known (some a) at = return a (omega arith)

  -- behind the mark's two bytes
  fields : (kind : ConstantMark) (at : ℕ) → Makes (file.constant_fields image kind) at (λ v next. next + 2 ≡ at + length (constant_bytes v))
  unfolding file.constant_fields constant_bytes le
  fields number_mark at =
      first _ (λ bits i e. next _ (λ t j e'. return (CN bits) (omega (arith, (u64 at).run bits i e, ((need_so _ ImageRefused i).run t j e').1))))
  fields string_mark at = first _ (λ name i e. return (CS name) (omega (arith, (u16 at).run name i e)))
  fields function_mark at = first _ (λ number i e. return (CF number) (omega (arith, (u32 at).run number i e)))

  constant : Takes (file.read_constant image) (λ v. length (constant_bytes v))
  unfolding file.read_constant r.one_of
  constant at =
      first _ (λ kind i e. record { run = λ v j e'. omega (arith, (mark_kind at).run kind i e, (fields kind i).run v j e') })
    where
      mark_kind : Takes (r.◌>>=◌ (r.mark image ImageRefused) (r.one_of ImageRefused file.constant_marks)) (λ _. 2)
      mark_kind at = first _ (λ m i e. record { run = λ kind j e'. omega (arith, (mark at).run m i e, (known _ i).run kind j e') })

  span : Takes (r.span image ImageRefused) (λ _. 8)
  unfolding r.span
  span at = first _ (λ a i e. first _ (λ b j e'. return _ (omega (arith, (u32 at).run a i e, (u32 i).run b j e'))))

  a_run : Takes (file.read_run image) (λ run. length (run_bytes run))
  unfolding file.read_run run_bytes le
  a_run at =
      next _ (λ t i e. first _ (λ s j e₁. first _ (λ count k e₂. return _
      (omega (arith, (mark_is 0x5255 at).run t i e, (span i).run s j e₁, (u8 j).run count k e₂)))))

  function : Takes (read_function image) (λ f. length (function_bytes f))
  unfolding read_function
  function at =
      next _ (λ t i₀ e₀. first _ (λ name i₁ e₁. first _ (λ arity i₂ e₂. first _ (λ upvalue_count i₃ e₃.
      first _ (λ constant-count i₄ e₄. first _ (λ run-count i₅ e₅. first _ (λ code_length i₆ e₆.
      first _ (λ constants i₇ e₇. first _ (λ spans i₈ e₈. next _ (λ t' i₉ e₉. first _ (λ ops i e. return _
      (rw function_size (omega (
        arith,
        (mark_is 0x464E at).run t i₀ e₀,
        (u16 i₀).run name i₁ e₁,
        (u8 i₁).run arity i₂ e₂,
        (u16 i₂).run upvalue_count i₃ e₃,
        (u16 i₃).run constant-count i₄ e₄,
        (u32 i₄).run run-count i₅ e₅,
        (u32 i₅).run code_length i₆ e₆,
        (many (file.read_constant image) constant_bytes constant constant-count i₆).run constants i₇ e₇,
        (many (file.read_run image) run_bytes a_run run-count i₇).run spans i₈ e₈,
        (mark_is 0x4344 i₈).run t' i₉ e₉,
        (bytes code_length i₉).run ops i e,
      ))))))))))))))

  pub read_function_length : (at : ℕ) (f : ObjectFunction) (next : ℕ) → read_function image at ≡ got f next → next ≡ at + length (function_bytes f)
  read_function_length at f next e = (function at).run f next e

-- ## Where the directory stands

-- the functions of an image are those that were read
read_of : (image : List ℕ) (fs : List ObjectFunction) → image_of image ≡ some fs → (next : ℕ) × (read_image image ≡ got fs next)
unfolding image_of checker.checked
read_of image fs e = by_read (read_image image) refl e
  where
    by_sound : (b : Bool) (gs : List ObjectFunction) → (if b then some gs else none) ≡ some fs → gs ≡ fs
    by_sound true gs e = cc
    by_sound false gs e = let z : ◌≡◌ {A = ℕ} 0 1 = cc in absurd (omega arith)

    by_read : (o : Read (List ObjectFunction)) → read_image image ≡ o → checker.checked o ≡ some fs → (next : ℕ) × (read_image image ≡ got fs next)
    by_read (got gs next) e₁ e₂ = (next, e₁ ∙ ap (λ (fs : List ObjectFunction). got fs next) (by_sound (checker.sound gs) gs e₂))
    by_read (bad fault) e₁ e₂ = let z : ◌≡◌ {A = ℕ} 0 1 = cc in absurd (omega arith)

-- and written again they are its bytes
again : (image : List ℕ) → Bytes image → (fs : List ObjectFunction) → image_of image ≡ some fs → (next : ℕ) × Again image fs next
again image small fs e = let read = read_of image fs e in (read.0, form_both_ways image small fs read.0 read.1)

head_size : (fs : List ObjectFunction) → 6 ≤ length (directory_bytes fs)
unfolding directory_bytes le
head_size fs = omega arith

module _ (image : List ℕ) (fs : List ObjectFunction) (e : image_of image ≡ some fs) where
  none_there : image ≡ image_bytes fs → (directory_of image).at ≡ 0
  unfolding directory_of checker.directory_verdict
  none_there w = rw (e, eq-eqb (length (image_bytes fs)) (length image) (sym (ap length w)))

  one_there : image ≡ image_bytes fs ++ directory_bytes fs → (directory_of image).at ≡ length (image_bytes fs)
  unfolding directory_of checker.directory_verdict
  one_there w =
      let size = ap length w ∙ length-append (image_bytes fs) (directory_bytes fs) in
      rw (e, ne_eqb (length (image_bytes fs)) (length image) (λ z. omega (arith, head_size fs)))

-- no directory is told of exactly where the image is its functions' bytes alone; one that is told of stands right behind those
pub directory_place : (image : List ℕ) → Bytes image → (fs : List ObjectFunction) → image_of image ≡ some fs →
    (((directory_of image).at ≡ 0) ↔ (image ≡ image_bytes fs)) ×
    ((directory_of image).at ≢ 0 → (image ≡ image_bytes fs ++ directory_bytes fs) × ((directory_of image).at ≡ length (image_bytes fs)))
unfolding image_with
directory_place image small fs e = by_form (again image small fs e).1.directory (sym (again image small fs e).1.same)
  where
    by_form : (directory : Bool) → image ≡ image_with directory fs →
        (((directory_of image).at ≡ 0) ↔ (image ≡ image_bytes fs)) ×
        ((directory_of image).at ≢ 0 → (image ≡ image_bytes fs ++ directory_bytes fs) × ((directory_of image).at ≡ length (image_bytes fs)))
    by_form false w = ((λ _. w, none_there image fs e), λ n. absurd (n (none_there image fs e w)))
    by_form true w =
        let there = one_there image fs e w in
        ((λ z. absurd (omega (arith, image_length fs)), λ v. absurd (omega (arith, image_length fs, none_there image fs e v))), λ _. (w, there))

-- ## The lookup, where the image is functions and their directory

all_parts : {A : Type 0} (P : A → Type 0) (xs ys : List A) → All P (xs ++ ys) → All P xs × All P ys
all_parts P [] ys h = (tt, h)
all_parts P (x ∷ xs) ys h = let parts = all_parts P xs ys h.1 in ((h.0, parts.0), parts.1)

join_append : {A : Type 0} (f : A → List ℕ) (xs ys : List A) → join f (xs ++ ys) ≡ join f xs ++ join f ys
unfolding join
join_append f [] ys = refl
join_append f (x ∷ xs) ys = ap (λ (l : List ℕ). f x ++ l) (join_append f xs ys) ∙ sym (append_assoc (f x) (join f xs) (join f ys))

offsets_size : (ns : List ℕ) → length (join (le 4) ns) ≡ 4 * length ns
unfolding join
offsets_size [] = refl
offsets_size (n ∷ ns) = omega (arith, offsets_size ns, length-append (le 4 n) (join (le 4) ns), le_length 4 n)

places_size : (at : ℕ) (fs : List ObjectFunction) → length (places at fs) ≡ length fs
unfolding places
places_size at [] = refl
places_size at (f ∷ fs) = ap suc (places_size (at + length (function_bytes f)) fs)

places_append : (at : ℕ) (gs hs : List ObjectFunction) → places at (gs ++ hs) ≡ places at gs ++ places (at + length (join function_bytes gs)) hs
unfolding places join
places_append at [] hs = let z : at + 0 ≡ at = omega arith in rw z
places_append at (g ∷ gs) hs =
    let s : at + length (function_bytes g ++ join function_bytes gs) ≡ at + length (function_bytes g) + length (join function_bytes gs) =
    omega (arith, length-append (function_bytes g) (join function_bytes gs)) in
    rw s (ap (λ (l : List ℕ). at ∷ l) (places_append (at + length (function_bytes g)) gs hs))

nothing_past : {A : Type 0} (xs : List A) (k : ℕ) → length xs ≤ k → get_elem? xs k ≡ none
nothing_past [] k l = refl
nothing_past (x ∷ xs) zero l = absurd (omega arith)
nothing_past (x ∷ xs) (suc k) l = nothing_past xs k (omega arith)

between : {A : Type 0} (xs : List A) (x : A) (ys : List A) → get_elem? (xs ++ (x ∷ ys)) (length xs) ≡ some x
between [] x ys = refl
between (y ∷ xs) x ys = between xs x ys

module _ (image : List ℕ) (fs : List ObjectFunction) (fits : FitsImage fs) (placed : Placed fs) (e : image_of image ≡ some fs)
    (written : image ≡ image_bytes fs ++ directory_bytes fs) where
  abbrev start : ℕ
  start = length (image_bytes fs)

  size : start + 6 + 4 * length fs ≡ length image
  unfolding directory_bytes
  size =
      let whole = ap length written ∙ length-append (image_bytes fs) (directory_bytes fs) in
      let head = length-append (le 4 (length fs)) (join (le 4) (places 6 fs)) in
      omega (arith, whole, head, le_length 4 (length fs), offsets_size (places 6 fs), places_size 6 fs)

  directory_left : Left image start (directory_bytes fs)
  directory_left = record { passed = image_bytes fs; all_of = written; place = refl }

  offsets_left : Left image (start + 6) (join (le 4) (places 6 fs))
  unfolding directory_bytes le
  offsets_left = past image start (0x44 ∷ 0x58 ∷ le 4 (length fs)) (join (le 4) (places 6 fs)) directory_left

  records_left : Left image 6 (join function_bytes fs ++ directory_bytes fs)
  unfolding image_bytes le
  records_left = record { passed = 0x49 ∷ 0x4D ∷ le 4 (length fs); all_of = written; place = refl }

  -- the mark and the count are those of the directory, which ends where the image does
  entry_of : (k : ℕ) → checker.directory_entry image k start
      ≡ r.go_on (r.need (ltb k (length fs)) NoSuchFunction (start + 6)) (λ _ at. r.u32 image ImageRefused (at + 4 * k))
  unfolding checker.directory_entry directory_bytes r.◌>>=◌ r.◌>>◌ r.go_on r.here r.need
  entry_of k =
      let mark = (back.mark_is image ImageRefused 0x44 0x58 (le 4 (length fs) ++ join (le 4) (places 6 fs))).run start directory_left in
      let count = (back.u32 image ImageRefused (length fs) (join (le 4) (places 6 fs)) fits.few).run mark.next mark.leaves in
      let same : count.next ≡ start + 6 = left_place image count.next (start + 6) count.leaves offsets_left in
      rw (mark.gives, count.gives, same, eq-eqb (start + 6 + 4 * length fs) (length image) size)

  -- a number that the image has no function for
  none_such : (k : ℕ) → length fs ≤ k → code_through image start k ≡ code_part image k
  unfolding code_through checker.entry_part code_part checker.code_answer checker.code_verdict checker.code_place checker.code_of
      checker.place_in checker.code_in checker.function_numbered r.go_on r.need refusal
  none_such k l = rw (entry_of k, e, le-ltb k (length fs) l, nothing_past fs k l)

  -- a function `f` behind the functions `gs`
  module _ (gs hs : List ObjectFunction) (f : ObjectFunction) (split : fs ≡ gs ++ (f ∷ hs)) where
    abbrev place : ℕ
    place = 6 + length (join function_bytes gs)

    abbrev rest : List ℕ
    rest = join function_bytes hs ++ directory_bytes fs

    fit : All FitsForm gs × All FitsForm (f ∷ hs)
    fit = all_parts FitsForm gs (f ∷ hs) (rw split at fits.each)

    from_first : Left image 6 (join function_bytes gs ++ (function_bytes f ++ rest))
    unfolding join
    from_first = subst (Left image 6) parts records_left
      where
        parts : join function_bytes fs ++ directory_bytes fs ≡ join function_bytes gs ++ (function_bytes f ++ rest)
        parts =
            ap (λ (l : List ObjectFunction). join function_bytes l ++ directory_bytes fs) split
            ∙ rw (join_append function_bytes gs (f ∷ hs)) (simp append_assoc)

    from_f : Left image place (function_bytes f ++ rest)
    from_f = past image 6 (join function_bytes gs) (function_bytes f ++ rest) from_first

    record_read : Comes image (read_function image place) rest f
    record_read = (back.function image f fit.1.0 rest).run place from_f

    walked : r.many (length gs) (read_function image) 6 ≡ got gs place
    walked =
        let each = all_map FitsForm _ (back.function image) gs fit.0 in
        let c = (back.many image (read_function image) function_bytes gs (function_bytes f ++ rest) each).run 6 from_first in
        c.gives ∙ ap (got gs) (left_place image c.next place c.leaves from_f)

    -- where the functions behind it stand
    abbrev later : List ℕ
    later = places (place + length (function_bytes f)) hs

    in_places : places 6 fs ≡ places 6 gs ++ (place ∷ later)
    unfolding places
    in_places = ap (places 6) split ∙ places_append 6 gs (f ∷ hs)

    from_entry : Left image (start + 6 + 4 * length gs) (le 4 place ++ join (le 4) later)
    unfolding join
    from_entry = subst (λ (at : ℕ). Left image at (le 4 place ++ join (le 4) later)) there
        (past image (start + 6) (join (le 4) (places 6 gs)) (le 4 place ++ join (le 4) later) (subst (Left image (start + 6)) parts offsets_left))
      where
        parts : join (le 4) (places 6 fs) ≡ join (le 4) (places 6 gs) ++ (le 4 place ++ join (le 4) later)
        parts = ap (join (le 4)) in_places ∙ join_append (le 4) (places 6 gs) (place ∷ later)

        there : start + 6 + length (join (le 4) (places 6 gs)) ≡ start + 6 + 4 * length gs
        there = omega (arith, offsets_size (places 6 gs), places_size 6 gs)

    entry_read : Comes image (r.u32 image ImageRefused (start + 6 + 4 * length gs)) (join (le 4) later) place
    entry_read = (back.u32 image ImageRefused place (join (le 4) later) small).run (start + 6 + 4 * length gs) from_entry
      where
        small : place < 4_294_967_296
        small = (all_parts (λ (n : ℕ). n < 4_294_967_296) (places 6 gs) (place ∷ later) (rw in_places at placed)).1.0

    found : code_through image start (length gs) ≡ code_part image (length gs)
    unfolding code_through checker.entry_part checker.record_part code_part checker.code_answer checker.code_verdict checker.code_place checker.code_of
        checker.code_before checker.place_in checker.code_in checker.function_numbered r.◌>>◌ r.go_on r.need refusal
    found =
        let inside : length gs < length fs = omega (arith, ap length split, length-append gs (f ∷ hs)) in
        let its : get_elem? fs (length gs) ≡ some f = ap (λ (l : List ObjectFunction). get_elem? l (length gs)) split ∙ between gs f hs in
        let ends : record_read.next - length f.chunk.ops + length f.chunk.ops ≡ record_read.next =
        omega (arith, read_function_length image place f record_read.next record_read.gives, function_size f) in
        rw (entry_of (length gs), e, lt-ltb (length gs) (length fs) inside, its, entry_read.gives, walked, record_read.gives, ends)

-- ## Every image and every number

-- a number is that of an element, or past the last one
data Falls {A : Type 0} (xs : List A) (k : ℕ) : Type 0 where
  at_one : (ys zs : List A) (x : A) → xs ≡ ys ++ (x ∷ zs) → k ≡ length ys → Falls xs k
  past_all : length xs ≤ k → Falls xs k

falls : {A : Type 0} (xs : List A) (k : ℕ) → Falls xs k
falls [] k = past_all (omega arith)
falls (x ∷ xs) zero = at_one [] xs x refl refl
falls {A} (x ∷ xs) (suc k) = further (falls xs k)
  where
    further : Falls xs k → Falls (x ∷ xs) (suc k)
    further (at_one ys zs y s z) = at_one (x ∷ ys) zs y (ap (λ (l : List A). x ∷ l) s) (ap suc z)
    further (past_all l) = past_all (omega arith)

-- the lookup through the directory of an accepted image is the lookup by the walk
pub through_is_walk : (image : List ℕ) → Bytes image → (k : ℕ) → (check image).number ≡ 0 → (directory_of image).at ≢ 0 →
    code_through image (directory_of image).at k ≡ code_part image k
unfolding check checker.verdict refusal image_with
through_is_walk image small k ok told = by_image (image_of image) refl
  where
    by_number : (fs : List ObjectFunction) → FitsImage fs → Placed fs → image_of image ≡ some fs → image ≡ image_bytes fs ++ directory_bytes fs →
        Falls fs k → code_through image (length (image_bytes fs)) k ≡ code_part image k
    by_number fs fits placed e w (at_one gs hs f s z) = rw z (found image fs fits placed e w gs hs f s)
    by_number fs fits placed e w (past_all l) = none_such image fs fits placed e w k l

    by_form : (fs : List ObjectFunction) → image_of image ≡ some fs → FitsImage fs → (directory : Bool) → (directory ≡ true → Placed fs) →
        image ≡ image_with directory fs → code_through image (directory_of image).at k ≡ code_part image k
    by_form fs e fits false placed w = absurd (told (none_there image fs e w))
    by_form fs e fits true placed w = rw (one_there image fs e w) (by_number fs fits (placed refl) e w (falls fs k))

    by_image : (o : Option (List ObjectFunction)) → image_of image ≡ o → code_through image (directory_of image).at k ≡ code_part image k
    by_image none e = absurd (omega (arith, ap (λ (o : Option (List ObjectFunction)). (checker.verdict o).number) e))
    by_image (some fs) e =
        let a = (again image small fs e).1 in
        by_form fs e a.fits a.directory a.placed (sym a.same)

-- bytes that are no image have neither a directory nor code
pub refused_alike : (image : List ℕ) (k : ℕ) → (check image).number ≡ 40 →
    (directory_of image ≡ refusal ImageRefused) × (code_part image k ≡ refusal ImageRefused)
unfolding check checker.verdict refusal directory_of checker.directory_verdict code_part checker.code_answer checker.code_verdict checker.code_place
    checker.code_of checker.place_in checker.code_in checker.function_numbered
refused_alike image k refused = by_image (image_of image) refl
  where
    by_image : (o : Option (List ObjectFunction)) → image_of image ≡ o →
        (directory_of image ≡ refusal ImageRefused) × (code_part image k ≡ refusal ImageRefused)
    by_image none e = (rw e, rw e)
    by_image (some fs) e = absurd (omega (arith, ap (λ (o : Option (List ObjectFunction)). (checker.verdict o).number) e))
