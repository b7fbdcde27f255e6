-- The encoder loses nothing: an image read back is the functions that it was written from, for all functions whose numbers fit their fields, with a
-- directory where every record stands below 4,294,967,296, and without one.
-- `Reads` follows a reader over the bytes that are left, so that a record's law is the chain of its fields' laws, in the order they are written.
use mathlib.Core.Path.{◌≡◌, refl, sym, ap, ◌∙◌, subst, subst⁻¹}
use mathlib.Core.Bool.{Bool, true, false}
use mathlib.Core.Option.{none, some}
use mathlib.Core.List.{List, ◌∷◌, ◌++◌, append_assoc, append-nil, []}
use Prim.Native.Nat.{ℕ, zero, suc, ◌+◌, ◌*◌, ◌/◌, ◌%◌, ◌≤◌, ◌<◌}
use native.Mathlib.Omega.{arith}
use native.Mathlib.Nat.{mod-lt, mod-add-div, div-lt_iff_lt-mul, add-mul-div_left, add-mul-mod_self_left, mul_assoc}
use lib.ListN.{length, get_or, length-append}
use lib.Seq.{get_or-append_seam}
use lib.Dec.{T, ltb, leb, eqb, le→leb, lt→ltb, eqb_refl}
use borrow.Author.Tests.{eq-eqb, ne_eqb}
use Rattle.rules.proofs.Numbers.{le_length}
use Rattle.rules.specs.Base.{le}
use Rattle.std.specs.Prelude.{if◌then◌else◌}
use Rattle.rules.specs.Limits.{max_bits}
use Rattle.rules.specs.declared.Span.{Span}
use Rattle.rules.specs.declared.Refusal.{Refusal}
use Rattle.rules.specs.declared.Refusal.TheVariants.{ImageRefused}
use Rattle.rules.specs.Reader as r
use Rattle.rules.specs.Reader.{Read, Reader, got, bad}
use Rattle.rules.specs.Chunk.{Constant, CN, CS, CF, Run, ObjectFunction}
use Rattle.rules.specs.Image as image
use Rattle.rules.specs.ImageFile as file
use Rattle.rules.specs.Answer.{accepted}
use Rattle.rules.specs.Checker as checker
use Rattle.rules.specs.Checker.{check, sound, instruction_count}
use Rattle.rules_laws.proofs.Facts.{All, all_map, Bytes}
use Rattle.rules.proofs.Computes as computes

-- ## What fits

pub record Narrow (s : Span) : Type 0 where
  pub start : s.start < 4_294_967_296
  pub end : s.end < 4_294_967_296

pub record FitsRun (run : Run) : Type 0 where
  pub span : Narrow run.span
  pub count : run.count < 256

abbrev pub FitsConstant : Constant → Type 0
FitsConstant (CN bits) = bits ≤ max_bits
FitsConstant (CS name) = name < 65_536
FitsConstant (CF number) = number < 4_294_967_296

-- each number of a function is below what its field holds
pub record FitsForm (f : ObjectFunction) : Type 0 where
  pub name : f.name < 65_536
  pub arity : f.arity < 256
  pub upvalue_count : f.upvalue_count < 65_536
  pub constants : length f.chunk.constants < 65_536
  pub runs : length f.chunk.spans < 4_294_967_296
  pub code : length f.chunk.ops < 4_294_967_296
  pub each_constant : All FitsConstant f.chunk.constants
  pub each_run : All FitsRun f.chunk.spans
  pub each_byte : Bytes f.chunk.ops

pub record FitsImage (fs : List ObjectFunction) : Type 0 where
  pub some : 0 < length fs
  pub few : length fs < 4_294_967_296
  pub each : All FitsForm fs

-- an offset is four bytes
abbrev pub Offsets : List ℕ → Type 0
Offsets ns = All (λ (n : ℕ). n < 4_294_967_296) ns

-- every function's record stands where an offset can say
abbrev pub Placed : List ObjectFunction → Type 0
Placed fs = Offsets (image.places 6 fs)

-- ## An image is its functions, and what stands behind them

abbrev pub directory_if : (directory : Bool) → List ObjectFunction → List ℕ
directory_if directory fs = if directory then image.directory_bytes fs else []

pub image_parts : (directory : Bool) (fs : List ObjectFunction) → image.image_with directory fs ≡ image.image_bytes fs ++ directory_if directory fs
unfolding image.image_with
image_parts true fs = refl
image_parts false fs = sym (append-nil (image.image_bytes fs))

pub image_length : (fs : List ObjectFunction) → length (image.image_bytes fs) ≡ 6 + length (image.join image.function_bytes fs)
unfolding image.image_bytes
image_length fs = simp (length-append, le_length) (omega arith)

some_bytes : (f : ObjectFunction) → 0 < length (image.function_bytes f)
unfolding image.function_bytes
some_bytes f = omega arith

-- a record stands before its own bytes
places_below : (at : ℕ) (fs : List ObjectFunction) → at + length (image.join image.function_bytes fs) ≤ 4_294_967_296 → Offsets (image.places at fs)
unfolding image.places image.join
places_below at [] l = tt
places_below at (f ∷ fs) l =
    let s = length-append (image.function_bytes f) (image.join image.function_bytes fs) in
    (omega (arith, some_bytes f), places_below (at + length (image.function_bytes f)) fs (omega arith))

-- as it is in an image of at most 4,294,967,296 bytes
pub placed : (fs : List ObjectFunction) → length (image.image_bytes fs) ≤ 4_294_967_296 → Placed fs
placed fs l = places_below 6 fs (omega (arith, image_length fs))

-- ## Numbers as bytes, for all widths

-- how many numbers `width` bytes can say
abbrev pub base : ℕ → ℕ
base zero = 1
base (suc width) = 256 * base width

base_pos : (width : ℕ) → 0 < base width
base_pos zero = omega arith
base_pos (suc width) = omega (arith, base_pos width)

-- a number in two parts is the bytes of the low one and then those of the high one
pub le_parts : (j k low high : ℕ) → low < base j → le j low ++ le k high ≡ le (j + k) (low + base j * high)
unfolding le
le_parts zero k low high l =
    let e : low + 1 * high ≡ high = omega arith in
    let z : zero + k ≡ k = omega arith in
    rw (e, z)
le_parts (suc j) k low high l =
    let z : suc j + k ≡ suc (j + k) = omega arith in
    let a : 256 * base j * high ≡ 256 * (base j * high) = mul_assoc 256 (base j) high in
    let d : (low + 256 * (base j * high)) / 256 ≡ low / 256 + base j * high = add-mul-div_left low (base j * high) (omega arith) in
    let m : (low + 256 * (base j * high)) % 256 ≡ low % 256 = add-mul-mod_self_left low 256 (base j * high) in
    rw (z, a, d, m, le_parts j k (low / 256) high (omega arith))

-- ## What is left of the bytes

module _ (bytes : List ℕ) where
  -- at this place, `left` is what is left
  pub record Left (at : ℕ) (left : List ℕ) : Type 0 where
    pub passed : List ℕ
    pub all_of : bytes ≡ passed ++ left
    pub place : at ≡ length passed

  pub left_length : (at : ℕ) (left : List ℕ) → Left at left → at + length left ≡ length bytes
  left_length at left l = omega (arith, l.place, ap length l.all_of, length-append l.passed left)

  -- what is left says where
  pub left_place : {left : List ℕ} (at at' : ℕ) → Left at left → Left at' left → at ≡ at'
  left_place {left} at at' l l' = omega (arith, left_length at left l, left_length at' left l')

  -- further on
  pub past : (at : ℕ) (front left : List ℕ) → Left at (front ++ left) → Left (at + length front) left
  past at front left l =
      record {
        passed = l.passed ++ front;
        all_of = l.all_of ∙ sym (append_assoc l.passed front left);
        place = omega (arith, l.place, length-append l.passed front);
      }

  pub record Comes {A : Type 0} (o : Read A) (after : List ℕ) (a : A) : Type 0 where
    pub next : ℕ
    pub gives : o ≡ got a next
    pub leaves : Left next after

  -- where `before` is left, the reader gives `a` and leaves `after`
  pub record Reads {A : Type 0} (m : Reader A) (before after : List ℕ) (a : A) : Type 0 where
    pub run : (at : ℕ) → Left at before → Comes (m at) after a

  -- a value is read, and then what follows it
  pub first : {A B : Type 0} {m : Reader A} (f : A → Reader B) {xs ys zs : List ℕ} {a : A} {b : B} →
      Reads m xs ys a → Reads (f a) ys zs b → Reads (r.◌>>=◌ m f) xs zs b
  unfolding r.◌>>=◌ r.go_on
  first {A} {m = m} f {ys = ys} {zs = zs} {a = a} {b = b} hm hf = record { run = λ at l. on (m at) (hm.run at l) }
    where
      on : (o : Read A) → Comes o ys a → Comes (r.go_on o f) zs b
      on o c = subst⁻¹ (λ (o : Read A). Comes (r.go_on o f) zs b) c.gives (hf.run c.next c.leaves)

  -- the same where the value is not asked for
  infixr 10 ◌⟫◌
  pub ◌⟫◌ : {A B : Type 0} {m : Reader A} {n : Reader B} {xs ys zs : List ℕ} {a : A} {b : B} →
      Reads m xs ys a → Reads n ys zs b → Reads (r.◌>>◌ m n) xs zs b
  unfolding r.◌>>◌ r.go_on
  ◌⟫◌ {A} {m = m} {n = n} {ys = ys} {zs = zs} {a = a} {b = b} hm hn = record { run = λ at l. on (m at) (hm.run at l) }
    where
      on : (o : Read A) → Comes o ys a → Comes (r.go_on o (λ _. n)) zs b
      on o c = subst⁻¹ (λ (o : Read A). Comes (r.go_on o (λ _. n)) zs b) c.gives (hn.run c.next c.leaves)

  pub return : {A : Type 0} {xs : List ℕ} (a : A) → Reads (r.return a) xs xs a
  unfolding r.return
  return a = record { run = λ at l. record { next = at; gives = refl; leaves = l } }

  pub need : {xs : List ℕ} (b : Bool) (fault : Refusal) → T b → Reads (r.need b fault) xs xs tt
  unfolding r.need
  need true fault t = record { run = λ at l. record { next = at; gives = refl; leaves = l } }
  need false fault t = absurd t

  -- what stands before this place, where `xs` is left
  pub here : {A : Type 0} {f : ℕ → Reader A} {xs ys : List ℕ} {a : A} → ((at : ℕ) → at + length xs ≡ length bytes → Reads (f at) xs ys a) →
      Reads (r.◌>>=◌ r.here f) xs ys a
  unfolding r.◌>>=◌ r.go_on r.here
  here h = record { run = λ at l. (h at (left_length at _ l)).run at l }

  -- ## Fields

  pub byte : (fault : Refusal) (b : ℕ) (xs : List ℕ) → Reads (r.u8 bytes fault) (b ∷ xs) xs b
  unfolding r.u8
  byte fault b xs = record { run = λ at l. on at l }
    where
      inside : (at : ℕ) → Left at (b ∷ xs) → T (ltb at (length bytes))
      inside at l = lt→ltb at (length bytes) (omega (arith, l.place, ap length l.all_of, length-append l.passed (b ∷ xs)))

      there : (at : ℕ) (l : Left at (b ∷ xs)) → get_or bytes at 0 ≡ b
      there at l = rw (l.place, l.all_of) (get_or-append_seam l.passed b xs 0)

      by_test : (t : Bool) (at : ℕ) → T t → Left at (b ∷ xs) → Comes (if t then got (get_or bytes at 0) (at + 1) else bad fault) xs b
      by_test true at t l =
          record {
            next = at + 1;
            gives = ap (λ (v : ℕ). got v (at + 1)) (there at l);
            leaves = past at (b ∷ []) xs l;
          }
      by_test false at t l = absurd t

      on : (at : ℕ) → Left at (b ∷ xs) → Comes (if ltb at (length bytes) then got (get_or bytes at 0) (at + 1) else bad fault) xs b
      on at l = by_test (ltb at (length bytes)) at (inside at l) l

  pub mark : (fault : Refusal) (a b : ℕ) (xs : List ℕ) → Reads (r.mark bytes fault) (a ∷ b ∷ xs) xs (256 * a + b)
  unfolding r.mark
  mark fault a b xs = first _ (byte fault a (b ∷ xs)) (first _ (byte fault b xs) (return _))

  pub mark_is : (fault : Refusal) (a b : ℕ) (xs : List ℕ) → Reads (r.mark_is bytes fault (256 * a + b)) (a ∷ b ∷ xs) xs tt
  unfolding r.mark_is
  mark_is fault a b xs = first _ (mark fault a b xs) (need (eqb (256 * a + b) (256 * a + b)) fault (eqb_refl (256 * a + b)))

  -- a number in `width` bytes, the lowest first
  abbrev pub Field : Reader ℕ → (width bound : ℕ) → Type 0
  Field m width bound = (n : ℕ) (xs : List ℕ) → n < bound → Reads m (le width n ++ xs) xs n

  u8 : (fault : Refusal) → Field (r.u8 bytes fault) 1 256
  unfolding le
  u8 fault n xs l = let e : n % 256 ≡ n = omega arith in rw e (byte fault n xs)

  -- twice as wide: the low half, and then the high one
  wider : (m : Reader ℕ) (width : ℕ) → Field m width (base width) →
      Field (r.◌>>=◌ m (λ a. r.◌>>=◌ m (λ b. r.return (a + base width * b)))) (width + width) (base width * base width)
  wider m width f n xs l = subst (λ (v : ℕ). Reads twice (le (width + width) n ++ xs) xs v) whole
      (subst (λ (ys : List ℕ). Reads twice (ys ++ xs) xs (low + base width * high)) parts both)
    where
      twice : Reader ℕ
      twice = r.◌>>=◌ m (λ a. r.◌>>=◌ m (λ b. r.return (a + base width * b)))

      low : ℕ
      low = n % base width

      high : ℕ
      high = n / base width

      whole : low + base width * high ≡ n
      whole = mod-add-div n (base width)

      parts : le width low ++ le width high ≡ le (width + width) n
      parts = le_parts width width low high (mod-lt n (base_pos width)) ∙ ap (le (width + width)) whole

      both : Reads twice ((le width low ++ le width high) ++ xs) xs (low + base width * high)
      both =
          rw append_assoc
          (first _ (f low (le width high ++ xs) (mod-lt n (base_pos width)))
          (first _ (f high xs ((div-lt_iff_lt-mul (base_pos width)).1 l)) (return _)))

  pub u16 : (fault : Refusal) → Field (r.u16 bytes fault) 2 65_536
  unfolding r.u16
  u16 fault = wider (r.u8 bytes fault) 1 (u8 fault)

  pub u32 : (fault : Refusal) → Field (r.u32 bytes fault) 4 4_294_967_296
  unfolding r.u32
  u32 fault = wider (r.u16 bytes fault) 2 (u16 fault)

  pub u64 : (fault : Refusal) → Field (r.u64 bytes fault) 8 18_446_744_073_709_551_616
  unfolding r.u64
  u64 fault = wider (r.u32 bytes fault) 4 (u32 fault)

  pub span : (fault : Refusal) (s : Span) (xs : List ℕ) → Narrow s → Reads (r.span bytes fault) (le 4 s.start ++ (le 4 s.end ++ xs)) xs s
  unfolding r.span
  span fault s xs n = first _ (u32 fault s.start (le 4 s.end ++ xs) n.start) (first _ (u32 fault s.end xs n.end) (return _))

  -- as many as there are, each written so that it is read back
  pub many : {A : Type 0} (one : Reader A) (f : A → List ℕ) (vs : List A) (xs : List ℕ) →
      All (λ (v : A). (xs : List ℕ) → Reads one (f v ++ xs) xs v) vs → Reads (r.many (length vs) one) (image.join f vs ++ xs) xs vs
  unfolding r.many image.join
  many one f [] xs h = return []
  many one f (v ∷ vs) xs h = rw append_assoc (first _ (h.0 (image.join f vs ++ xs)) (first _ (many one f vs xs h.1) (return (v ∷ vs))))

  -- ## Records

  constant : (v : Constant) → FitsConstant v → (xs : List ℕ) → Reads (file.read_constant bytes) (image.constant_bytes v ++ xs) xs v
  unfolding file.read_constant image.constant_bytes file.constant_fields file.constant_marks r.one_of r.known computes.reader
  constant (CN bits) l xs =
      first _ (first _ (mark ImageRefused 0x43 0x4E (le 8 bits ++ xs)) (return file.number_mark))
      (first _ (u64 ImageRefused bits xs (omega arith)) (need (leb bits max_bits) ImageRefused (le→leb bits max_bits l) ⟫ return (CN bits)))
  constant (CS name) l xs =
      first _ (first _ (mark ImageRefused 0x43 0x53 (le 2 name ++ xs)) (return file.string_mark))
      (first _ (u16 ImageRefused name xs l) (return (CS name)))
  constant (CF number) l xs =
      first _ (first _ (mark ImageRefused 0x43 0x46 (le 4 number ++ xs)) (return file.function_mark))
      (first _ (u32 ImageRefused number xs l) (return (CF number)))

  a_run : (run : Run) → FitsRun run → (xs : List ℕ) → Reads (file.read_run bytes) (image.run_bytes run ++ xs) xs run
  unfolding file.read_run image.run_bytes
  a_run run h xs =
      simp append_assoc
      (mark_is ImageRefused 0x52 0x55 _ ⟫
      first _ (span ImageRefused run.span (le 1 run.count ++ xs) h.span) (first _ (u8 ImageRefused run.count xs h.count) (return _)))

  code : (ops xs : List ℕ) → Bytes ops → Reads (r.many (length ops) (r.u8 bytes ImageRefused)) (ops ++ xs) xs ops
  unfolding r.many
  code [] xs h = return []
  code (b ∷ ops) xs h = first _ (byte ImageRefused b (ops ++ xs)) (first _ (code ops xs h.1) (return (b ∷ ops)))

  pub function : (f : ObjectFunction) → FitsForm f → (xs : List ℕ) → Reads (file.read_function bytes) (image.function_bytes f ++ xs) xs f
  unfolding file.read_function image.function_bytes
  function f h xs =
      simp append_assoc
      (mark_is ImageRefused 0x46 0x4E _ ⟫
      first _ (u16 ImageRefused f.name _ h.name)
      (first _ (u8 ImageRefused f.arity _ h.arity)
      (first _ (u16 ImageRefused f.upvalue_count _ h.upvalue_count)
      (first _ (u16 ImageRefused (length f.chunk.constants) _ h.constants)
      (first _ (u32 ImageRefused (length f.chunk.spans) _ h.runs)
      (first _ (u32 ImageRefused (length f.chunk.ops) _ h.code)
      (first _ (many (file.read_constant bytes) image.constant_bytes f.chunk.constants _
      (all_map FitsConstant _ constant f.chunk.constants h.each_constant))
      (first _ (many (file.read_run bytes) image.run_bytes f.chunk.spans _ (all_map FitsRun _ a_run f.chunk.spans h.each_run))
      (mark_is ImageRefused 0x43 0x44 _ ⟫
      first _ (code f.chunk.ops xs h.each_byte) (return f))))))))))

  -- ## The directory, and the whole file

  offsets : (ns xs : List ℕ) → Offsets ns → Reads (file.read_offsets bytes ns) (image.join (le 4) ns ++ xs) xs tt
  unfolding file.read_offsets image.join
  offsets [] xs h = return tt
  offsets (n ∷ ns) xs h =
      rw append_assoc (first _ (u32 ImageRefused n _ h.0) (need (eqb n n) ImageRefused (eqb_refl n) ⟫ offsets ns xs h.1))

  directory : (fs : List ObjectFunction) → length fs < 4_294_967_296 → Placed fs →
      Reads (file.read_directory bytes fs) (image.directory_bytes fs) [] tt
  unfolding file.read_directory image.directory_bytes
  directory fs few p =
      rw (← append-nil (image.join (le 4) (image.places 6 fs)))
      (mark_is ImageRefused 0x44 0x58 _ ⟫
      first _ (u32 ImageRefused (length fs) _ few)
      (need (eqb (length fs) (length fs)) ImageRefused (eqb_refl (length fs)) ⟫ offsets (image.places 6 fs) [] p))

  read_behind : (with-directory : Bool) (fs : List ObjectFunction) → length fs < 4_294_967_296 → (with-directory ≡ true → Placed fs) →
      Reads (file.read_behind bytes fs) (directory_if with-directory fs) [] tt
  unfolding file.read_behind image.directory_bytes
  read_behind true fs few p = here (λ at e. rw (ne_eqb at (length bytes) (λ z. omega arith)) (directory fs few (p refl)))
  read_behind false fs few p = here (λ at e. rw (eq-eqb at (length bytes) (omega arith)) (return tt))

  functions : (with-directory : Bool) (fs : List ObjectFunction) → FitsImage fs → (with-directory ≡ true → Placed fs) →
      Reads (file.read_functions bytes) (image.image_bytes fs ++ directory_if with-directory fs) [] fs
  unfolding file.read_functions image.image_bytes
  functions with-directory fs h p =
      simp append_assoc
      (mark_is ImageRefused 0x49 0x4D _ ⟫
      first _ (u32 ImageRefused (length fs) _ h.few)
      (need (ltb 0 (length fs)) ImageRefused (lt→ltb 0 (length fs) h.some) ⟫
      first _ (many (file.read_function bytes) image.function_bytes fs (directory_if with-directory fs) (all_map FitsForm _ function fs h.each))
      (read_behind with-directory fs h.few p ⟫ here (λ at e. need (eqb at (length bytes)) ImageRefused (at_end at e) ⟫ return fs))))
    where
      at_end : (at : ℕ) → at + 0 ≡ length bytes → T (eqb at (length bytes))
      at_end at e = let z : length bytes ≡ at = omega arith in rw z (eqb_refl at)

-- the image file loses nothing
pub read_placed : (directory : Bool) (fs : List ObjectFunction) → FitsImage fs → (directory ≡ true → Placed fs) →
    file.read_image (image.image_with directory fs) ≡ got fs (length (image.image_with directory fs))
unfolding file.read_image
read_placed directory fs h p = rw (image_parts directory fs)
    (come.gives ∙ ap (got fs) (omega (arith, left_length whole come.next [] come.leaves)))
  where
    whole : List ℕ
    whole = image.image_bytes fs ++ directory_if directory fs

    come : Comes whole (file.read_functions whole 0) [] fs
    come = (functions whole directory fs h p).run 0 (record { passed = []; all_of = refl; place = refl })

pub read_back_with : (directory : Bool) (fs : List ObjectFunction) → FitsImage fs → (directory ≡ true → length (image.image_bytes fs) ≤ 4_294_967_296) →
    file.read_image (image.image_with directory fs) ≡ got fs (length (image.image_with directory fs))
read_back_with directory fs h l = read_placed directory fs h (λ e. placed fs (l e))

pub read_back : (fs : List ObjectFunction) → FitsImage fs → file.read_image (image.image_bytes fs) ≡ got fs (length (image.image_bytes fs))
unfolding image.image_with
read_back fs h = read_placed false fs h (λ e. let z : ◌≡◌ {A = ℕ} 0 1 = cc in absurd (omega arith))

-- so the checker accepts the image of sound functions, with the number of instructions in the division of all their code
pub placed_accepted : (directory : Bool) (fs : List ObjectFunction) → FitsImage fs → (directory ≡ true → Placed fs) → T (sound fs) →
    check (image.image_with directory fs) ≡ accepted (instruction_count fs fs)
unfolding check checker.image_of checker.checked checker.verdict
placed_accepted directory fs h p t = rw (read_placed directory fs h p) (by_test (sound fs) t)
  where
    by_test : (b : Bool) → T b → checker.verdict (if b then some fs else none) ≡ accepted (instruction_count fs fs)
    by_test true t = refl
    by_test false t = absurd t

pub sound_accepted_with : (directory : Bool) (fs : List ObjectFunction) → FitsImage fs →
    (directory ≡ true → length (image.image_bytes fs) ≤ 4_294_967_296) → T (sound fs) →
    check (image.image_with directory fs) ≡ accepted (instruction_count fs fs)
sound_accepted_with directory fs h l t = placed_accepted directory fs h (λ e. placed fs (l e)) t

pub sound_accepted : (fs : List ObjectFunction) → FitsImage fs → T (sound fs) → check (image.image_bytes fs) ≡ accepted (instruction_count fs fs)
unfolding image.image_with
sound_accepted fs h t = placed_accepted false fs h (λ e. let z : ◌≡◌ {A = ℕ} 0 1 = cc in absurd (omega arith)) t
