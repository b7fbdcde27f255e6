-- The image's form, both ways: whatever bytes are read as functions are the very bytes that those functions are written as, with their directory or
-- without, and every number of them fits its field. So the checker accepts exactly the images of sound functions, and no other spelling of one.
-- `ReadBack` is the other direction.
-- `Spells` follows a reader: the bytes that it took are those that its value is written as.
use mathlib.Core.Path.{◌≡◌, refl, sym, ap, ◌∙◌}
use mathlib.Core.Logic.{◌↔◌, ◌⊎◌, inl, inr}
use mathlib.Core.Bool.{Bool, true, false}
use mathlib.Core.Option.{Option, none, some}
use mathlib.Core.List.{List, ◌∷◌, ◌++◌, append_assoc, append-nil, []}
use Prim.Native.Nat.{ℕ, zero, suc, ◌+◌, ◌*◌, ◌/◌, ◌%◌, ◌<◌}
use native.Mathlib.Omega.{arith}
use lib.ListN.{length, get_or, drop}
use lib.Seq.{drop-cons, drop-length}
use lib.Dec.{T, leb, eqb, ltb→lt, leb→le, eqb→eq}
use Rattle.rules.specs.Base.{le, lookup}
use Rattle.std.specs.Prelude.{if◌then◌else◌}
use Rattle.rules.specs.Limits.{max_bits}
use Rattle.rules.specs.declared.Span.{Span}
use Rattle.rules.specs.declared.Answer.{Answer}
use Rattle.rules.specs.declared.Refusal.{Refusal}
use Rattle.rules.specs.declared.Refusal.TheVariants.{ImageRefused}
use Rattle.rules.specs.Answer.{refusal}
use Rattle.rules.specs.Reader as r
use Rattle.rules.specs.Reader.{Read, Reader, got, bad}
use Rattle.rules.specs.Chunk.{CN, CS, CF, ObjectFunction}
use Rattle.rules.specs.Image as image
use Rattle.rules.specs.Image.{image_bytes, image_with}
use Rattle.rules.specs.ImageFile as file
use Rattle.rules.specs.ImageFile.{read_image, ConstantMark, number_mark, string_mark, function_mark}
use Rattle.rules.specs.Checker as checker
use Rattle.rules.specs.Checker.{check, image_of, sound}
use Rattle.rules_laws.proofs.Facts.{All, Bytes, get_or_small}
use Rattle.rules_laws.proofs.ReadBack.{Narrow, FitsRun, FitsConstant, FitsForm, FitsImage, Offsets, Placed, base, le_parts}
use Rattle.rules_laws.proofs.ReadBack.{directory_if, image_parts, placed_accepted}
use Rattle.rules_laws.proofs.Lookups.{Makes, first, next, return, need_so, byte_at}

-- what reading an image gives: these functions, with a directory or without, and the place behind the last byte
pub record Again (image : List ℕ) (functions : List ObjectFunction) (next : ℕ) : Type 0 where
  pub directory : Bool
  pub fits : FitsImage functions
  pub placed : directory ≡ true → Placed functions
  pub same : image_with directory functions ≡ image
  pub end : next ≡ length image

module _ (bytes : List ℕ) (small : Bytes bytes) where
  -- a value with `P`, and from here to the next place the bytes `f` of it
  record Spelt {A : Type 0} (P : A → Type 0) (f : A → List ℕ) (at : ℕ) (a : A) (next : ℕ) : Type 0 where
    fits : P a
    same : drop at bytes ≡ f a ++ drop next bytes

  abbrev Spells : {A : Type 0} → Reader A → (A → Type 0) → (A → List ℕ) → Type 0
  Spells m P f = (at : ℕ) → Makes m at (Spelt P f at)

  -- two parts in a row
  behind : (one two : List ℕ) (at i j : ℕ) → drop at bytes ≡ one ++ drop i bytes → drop i bytes ≡ two ++ drop j bytes →
      drop at bytes ≡ (one ++ two) ++ drop j bytes
  behind one two at i j e e' = e ∙ ap (λ (l : List ℕ). one ++ l) e' ∙ sym (append_assoc one two (drop j bytes))

  -- ## Fields

  byte : (fault : Refusal) → Spells (r.u8 bytes fault) (λ (b : ℕ). b < 256) (λ (b : ℕ). b ∷ [])
  byte fault at = record { run = λ b next e. one b next (byte_at bytes fault at b next e) }
    where
      one : (b next : ℕ) → (at < length bytes) × (b ≡ get_or bytes at 0) × (next ≡ at + 1) → Spelt (λ (b : ℕ). b < 256) (λ (b : ℕ). b ∷ []) at b next
      one b next h =
          let e : next ≡ suc at = omega (arith, h.2) in
          record { fits = omega (arith, h.1, get_or_small bytes at small); same = rw (h.1, e) (drop-cons bytes at 0 h.0) }

  abbrev Field : Reader ℕ → (width bound : ℕ) → Type 0
  Field m width bound = Spells m (λ (n : ℕ). n < bound) (le width)

  u8 : (fault : Refusal) → Field (r.u8 bytes fault) 1 256
  unfolding le
  u8 fault at = record { run = λ b next e. one b next ((byte fault at).run b next e) }
    where
      one : (b next : ℕ) → Spelt (λ (b : ℕ). b < 256) (λ (b : ℕ). b ∷ []) at b next → Spelt (λ (b : ℕ). b < 256) (le 1) at b next
      one b next h =
          let e : b % 256 ≡ b = omega (arith, h.fits) in
          record { fits = h.fits; same = rw e h.same }

  -- twice as wide: the low half, and then the high one
  wider : (m : Reader ℕ) (width bound : ℕ) → Field m width (base width) →
      ((a b : ℕ) → a < base width → b < base width → a + base width * b < bound) →
      Field (r.◌>>=◌ m (λ a. r.◌>>=◌ m (λ b. r.return (a + base width * b)))) (width + width) bound
  wider m width bound f w at =
      first _ (λ a i e. first _ (λ b j e'. return _ (both a i b j ((f at).run a i e) ((f i).run b j e'))))
    where
      both : (a i b j : ℕ) → Spelt (λ (n : ℕ). n < base width) (le width) at a i → Spelt (λ (n : ℕ). n < base width) (le width) i b j →
          Spelt (λ (n : ℕ). n < bound) (le (width + width)) at (a + base width * b) j
      both a i b j h k =
          record {
            fits = w a b h.fits k.fits;
            same = behind (le width a) (le width b) at i j h.same k.same ∙ ap (λ (l : List ℕ). l ++ drop j bytes) (le_parts width width a b h.fits);
          }

  u16 : (fault : Refusal) → Field (r.u16 bytes fault) 2 65_536
  unfolding r.u16
  u16 fault = wider (r.u8 bytes fault) 1 65_536 (u8 fault) (λ a b p q. omega arith)

  u32 : (fault : Refusal) → Field (r.u32 bytes fault) 4 4_294_967_296
  unfolding r.u32
  u32 fault = wider (r.u16 bytes fault) 2 4_294_967_296 (u16 fault) (λ a b p q. omega arith)

  u64 : (fault : Refusal) → Field (r.u64 bytes fault) 8 18_446_744_073_709_551_616
  unfolding r.u64
  u64 fault = wider (r.u32 bytes fault) 4 18_446_744_073_709_551_616 (u32 fault) (λ a b p q. omega arith)

  mark : (fault : Refusal) → Spells (r.mark bytes fault) (λ (m : ℕ). m < 65_536) (λ (m : ℕ). m / 256 ∷ m % 256 ∷ [])
  unfolding r.mark
  mark fault at = first _ (λ a i e. first _ (λ b j e'. return _ (both a i b j ((byte fault at).run a i e) ((byte fault i).run b j e'))))
    where
      both : (a i b j : ℕ) → Spelt (λ (b : ℕ). b < 256) (λ (b : ℕ). b ∷ []) at a i → Spelt (λ (b : ℕ). b < 256) (λ (b : ℕ). b ∷ []) i b j →
          Spelt (λ (m : ℕ). m < 65_536) (λ (m : ℕ). m / 256 ∷ m % 256 ∷ []) at (256 * a + b) j
      both a i b j h k =
          let high : (256 * a + b) / 256 ≡ a = omega (arith, k.fits) in
          let low : (256 * a + b) % 256 ≡ b = omega (arith, k.fits) in
          record { fits = omega (arith, h.fits, k.fits); same = rw (high, low) (behind (a ∷ []) (b ∷ []) at i j h.same k.same) }

  here_so : (at : ℕ) → Makes r.here at (λ end next. (end ≡ at) × (next ≡ at))
  unfolding r.here
  here_so at = record { run = λ end next e. (let z : end ≡ at = cc in z, let z : next ≡ at = cc in z) }

  -- a mark that must be this one
  mark_is : (fault : Refusal) (letters : ℕ) → Spells (r.mark_is bytes fault letters) (λ _. Unit {0}) (λ _. letters / 256 ∷ letters % 256 ∷ [])
  unfolding r.mark_is
  mark_is fault letters at =
      first _ (λ m i e. record { run = λ t j e'. this m i t j ((mark fault at).run m i e) ((need_so _ fault i).run t j e') })
    where
      this : (m i : ℕ) (t : Unit {0}) (j : ℕ) → Spelt (λ (m : ℕ). m < 65_536) (λ (m : ℕ). m / 256 ∷ m % 256 ∷ []) at m i →
          T (eqb m letters) × (j ≡ i) → Spelt (λ _. Unit {0}) (λ _. letters / 256 ∷ letters % 256 ∷ []) at t j
      this m i t j h k = record { fits = tt; same = rw (k.1, ← eqb→eq m letters k.0) h.same }

  span : (fault : Refusal) → Spells (r.span bytes fault) Narrow (λ (s : Span). le 4 s.start ++ le 4 s.end)
  unfolding r.span
  span fault at = first _ (λ a i e. first _ (λ b j e'. return _ (both a i b j ((u32 fault at).run a i e) ((u32 fault i).run b j e'))))
    where
      both : (a i b j : ℕ) → Spelt (λ (n : ℕ). n < 4_294_967_296) (le 4) at a i → Spelt (λ (n : ℕ). n < 4_294_967_296) (le 4) i b j →
          Spelt Narrow (λ (s : Span). le 4 s.start ++ le 4 s.end) at (record { start = a; end = b }) j
      both a i b j h k = record { fits = record { start = h.fits; end = k.fits }; same = behind (le 4 a) (le 4 b) at i j h.same k.same }

  -- as many as asked for, each spelt
  abbrev Each : {A : Type 0} → (A → Type 0) → (count : ℕ) → List A → Type 0
  Each P count vs = All P vs × (length vs ≡ count)

  many : {A : Type 0} (one : Reader A) (P : A → Type 0) (f : A → List ℕ) → Spells one P f → (count : ℕ) →
      Spells (r.many count one) (Each P count) (image.join f)
  unfolding r.many image.join
  many one P f h zero at = return [] (record { fits = (tt, refl); same = refl })
  many {A} one P f h (suc count) at =
      first _ (λ v i e. first _ (λ vs j e'. return (v ∷ vs) (more v i vs j ((h at).run v i e) ((many one P f h count i).run vs j e'))))
    where
      more : (v : A) (i : ℕ) (vs : List A) (j : ℕ) → Spelt P f at v i → Spelt (Each P count) (image.join f) i vs j →
          Spelt (Each P (suc count)) (image.join f) at (v ∷ vs) j
      more v i vs j h k =
          record { fits = ((h.fits, k.fits.0), omega (arith, k.fits.1)); same = behind (f v) (image.join f vs) at i j h.same k.same }

  -- ## Records

  abbrev letters_of : ConstantMark → ℕ
  letters_of number_mark = 0x434E
  letters_of string_mark = 0x4353
  letters_of function_mark = 0x4346

  -- the table has each mark once
  kind_so : (m : ℕ) (at : ℕ) → Makes (r.one_of ImageRefused file.constant_marks m) at (λ kind next. (m ≡ letters_of kind) × (next ≡ at))
  unfolding r.one_of r.known r.return r.refuse file.constant_marks lookup
  kind_so m at = by_number (eqb m 0x434E) refl
    where
      Said : Option ConstantMark → Type 0
      Said o = Makes (r.known ImageRefused o) at (λ kind next. (m ≡ letters_of kind) × (next ≡ at))

      by_function : (b : Bool) → eqb m 0x4346 ≡ b → Said (if b then some function_mark else none)
      by_function true e = return _ (eqb→eq m 0x4346 (rw e tt), refl)
      by_function false e = record { run = λ a next e. let z : ◌≡◌ {A = ℕ} 0 1 = cc in absurd (omega arith) }

      by_string : (b : Bool) → eqb m 0x4353 ≡ b → Said (if b then some string_mark else if eqb m 0x4346 then some function_mark else none)
      by_string true e = return _ (eqb→eq m 0x4353 (rw e tt), refl)
      by_string false e = by_function (eqb m 0x4346) refl

      by_number : (b : Bool) → eqb m 0x434E ≡ b →
          Said (if b then some number_mark else if eqb m 0x4353 then some string_mark else if eqb m 0x4346 then some function_mark else none)
      by_number true e = return _ (eqb→eq m 0x434E (rw e tt), refl)
      by_number false e = by_string (eqb m 0x4353) refl

  abbrev mark_bytes : ConstantMark → List ℕ
  mark_bytes kind = letters_of kind / 256 ∷ letters_of kind % 256 ∷ []

  mark_kind : Spells (r.◌>>=◌ (r.mark bytes ImageRefused) (r.one_of ImageRefused file.constant_marks)) (λ _. Unit {0}) mark_bytes
  mark_kind at = first _ (λ m i e. record { run = λ kind j e'. this m i kind j ((mark ImageRefused at).run m i e) ((kind_so m i).run kind j e') })
    where
      this : (m i : ℕ) (kind : ConstantMark) (j : ℕ) → Spelt (λ (m : ℕ). m < 65_536) (λ (m : ℕ). m / 256 ∷ m % 256 ∷ []) at m i →
          (m ≡ letters_of kind) × (j ≡ i) → Spelt (λ _. Unit {0}) mark_bytes at kind j
      this m i kind j h k = record { fits = tt; same = rw (k.1, ← k.0) h.same }

  after_mark : (at : ℕ) (kind : ConstantMark) (i : ℕ) → Spelt (λ _. Unit {0}) mark_bytes at kind i →
      Makes (file.constant_fields bytes kind) i (Spelt FitsConstant image.constant_bytes at)
  unfolding file.constant_fields image.constant_bytes
  after_mark at number_mark i h =
      first _ (λ bits j e. next _
      (λ t k e'. return (CN bits) (whole bits j k ((u64 ImageRefused i).run bits j e) ((need_so _ ImageRefused j).run t k e'))))
    where
      whole : (bits j k : ℕ) → Spelt (λ (n : ℕ). n < 18_446_744_073_709_551_616) (le 8) i bits j → T (leb bits max_bits) × (k ≡ j) →
          Spelt FitsConstant image.constant_bytes at (CN bits) k
      whole bits j k f n =
          record { fits = leb→le bits max_bits n.0; same = rw n.1 (behind (0x43 ∷ 0x4E ∷ []) (le 8 bits) at i j h.same f.same) }
  after_mark at string_mark i h = first _ (λ name j e. return (CS name) (whole name j ((u16 ImageRefused i).run name j e)))
    where
      whole : (name j : ℕ) → Spelt (λ (n : ℕ). n < 65_536) (le 2) i name j → Spelt FitsConstant image.constant_bytes at (CS name) j
      whole name j f = record { fits = f.fits; same = behind (0x43 ∷ 0x53 ∷ []) (le 2 name) at i j h.same f.same }
  after_mark at function_mark i h = first _ (λ number j e. return (CF number) (whole number j ((u32 ImageRefused i).run number j e)))
    where
      whole : (number j : ℕ) → Spelt (λ (n : ℕ). n < 4_294_967_296) (le 4) i number j → Spelt FitsConstant image.constant_bytes at (CF number) j
      whole number j f = record { fits = f.fits; same = behind (0x43 ∷ 0x46 ∷ []) (le 4 number) at i j h.same f.same }

  constant : Spells (file.read_constant bytes) FitsConstant image.constant_bytes
  unfolding file.read_constant
  constant at = first _ (λ kind i e. after_mark at kind i ((mark_kind at).run kind i e))

  a_run : Spells (file.read_run bytes) FitsRun image.run_bytes
  unfolding file.read_run image.run_bytes
  a_run at =
      next _ (λ t i e. first _ (λ s j e'. first _ (λ count k e''. return _
      (whole t i s j count k ((mark_is ImageRefused 0x5255 at).run t i e) ((span ImageRefused i).run s j e') ((u8 ImageRefused j).run count k e'')))))
    where
      whole : (t : Unit {0}) (i : ℕ) (s : Span) (j count k : ℕ) → Spelt (λ _. Unit {0}) (λ _. 0x52 ∷ 0x55 ∷ []) at t i →
          Spelt Narrow (λ (s : Span). le 4 s.start ++ le 4 s.end) i s j → Spelt (λ (n : ℕ). n < 256) (le 1) j count k →
          Spelt FitsRun image.run_bytes at (record { span = s; count = count }) k
      whole t i s j count k m f n =
          record { fits = record { span = f.fits; count = n.fits }; same = simp append_assoc (rw (m.same, f.same, n.same) (simp append_assoc refl)) }

  bytes_joined : (bs : List ℕ) → image.join (λ (b : ℕ). b ∷ []) bs ≡ bs
  unfolding image.join
  bytes_joined [] = refl
  bytes_joined (b ∷ bs) = ap (λ (l : List ℕ). b ∷ l) (bytes_joined bs)

  -- what a function's record holds, as it was read: the two marks, the counts, and the parts that the counts are of
  function : Spells (file.read_function bytes) FitsForm image.function_bytes
  unfolding file.read_function image.function_bytes
  function at =
      next _ (λ t i₀ e₀. first _ (λ name i₁ e₁. first _ (λ arity i₂ e₂. first _ (λ upvalue_count i₃ e₃.
      first _ (λ constant-count i₄ e₄. first _ (λ run-count i₅ e₅. first _ (λ code_length i₆ e₆.
      first _ (λ constants i₇ e₇. first _ (λ spans i₈ e₈. next _ (λ t' i₉ e₉. first _ (λ ops i e.
      return _
      (let s₀ = (mark_is ImageRefused 0x464E at).run t i₀ e₀ in
      let s₁ = (u16 ImageRefused i₀).run name i₁ e₁ in
      let s₂ = (u8 ImageRefused i₁).run arity i₂ e₂ in
      let s₃ = (u16 ImageRefused i₂).run upvalue_count i₃ e₃ in
      let s₄ = (u16 ImageRefused i₃).run constant-count i₄ e₄ in
      let s₅ = (u32 ImageRefused i₄).run run-count i₅ e₅ in
      let s₆ = (u32 ImageRefused i₅).run code_length i₆ e₆ in
      let s₇ = (many (file.read_constant bytes) FitsConstant image.constant_bytes constant constant-count i₆).run constants i₇ e₇ in
      let s₈ = (many (file.read_run bytes) FitsRun image.run_bytes a_run run-count i₇).run spans i₈ e₈ in
      let s₉ = (mark_is ImageRefused 0x4344 i₈).run t' i₉ e₉ in
      let s = (many (r.u8 bytes ImageRefused) (λ (b : ℕ). b < 256) (λ (b : ℕ). b ∷ []) (byte ImageRefused) code_length i₉).run ops i e in
      record {
        fits =
            record {
              name = s₁.fits;
              arity = s₂.fits;
              upvalue_count = s₃.fits;
              constants = omega (arith, s₄.fits, s₇.fits.1);
              runs = omega (arith, s₅.fits, s₈.fits.1);
              code = omega (arith, s₆.fits, s.fits.1);
              each_constant = s₇.fits.0;
              each_run = s₈.fits.0;
              each_byte = s.fits.0;
            };
        same =
            simp append_assoc
            (rw (
              s₇.fits.1,
              s₈.fits.1,
              s.fits.1,
              s₀.same,
              s₁.same,
              s₂.same,
              s₃.same,
              s₄.same,
              s₅.same,
              s₆.same,
              s₇.same,
              s₈.same,
              s₉.same,
              s.same,
              bytes_joined ops,
            ) refl);
      }))))))))))))

  -- ## The directory, and the whole file

  offsets : (ns : List ℕ) → Spells (file.read_offsets bytes ns) (λ _. Offsets ns) (λ _. image.join (le 4) ns)
  unfolding file.read_offsets image.join
  offsets [] at = return tt (record { fits = tt; same = refl })
  offsets (n ∷ ns) at =
      first _ (λ m i e. next _ (λ t j e'. record {
        run = λ u k e''. more m i t j u k ((u32 ImageRefused at).run m i e) ((need_so _ ImageRefused i).run t j e') ((offsets ns j).run u k e'');
      }))
    where
      more : (m i : ℕ) (t : Unit {0}) (j : ℕ) (u : Unit {0}) (k : ℕ) → Spelt (λ (n : ℕ). n < 4_294_967_296) (le 4) at m i → T (eqb m n) × (j ≡ i) →
          Spelt (λ _. Offsets ns) (λ _. image.join (le 4) ns) j u k → Spelt (λ _. Offsets (n ∷ ns)) (λ _. le 4 n ++ image.join (le 4) ns) at u k
      more m i t j u k h w b =
          let z : m ≡ n = eqb→eq m n w.0 in
          record {
            fits = (omega (arith, h.fits), b.fits);
            same = behind (le 4 n) (image.join (le 4) ns) at j k (rw (← z, w.1) h.same) b.same;
          }

  read_directory : (fs : List ObjectFunction) → Spells (file.read_directory bytes fs) (λ _. Placed fs) (λ _. image.directory_bytes fs)
  unfolding file.read_directory image.directory_bytes
  read_directory fs at =
      next _ (λ t₀ i₀ e₀. first _ (λ count i₁ e₁. next _ (λ t₁ i₂ e₂. record {
        run =
            λ t₂ i₃ e₃.
            let s₀ = (mark_is ImageRefused 0x4458 at).run t₀ i₀ e₀ in
            let s₁ = (u32 ImageRefused i₀).run count i₁ e₁ in
            let s₂ = (need_so _ ImageRefused i₁).run t₁ i₂ e₂ in
            let s₃ = (offsets (image.places 6 fs) i₂).run t₂ i₃ e₃ in
            record { fits = s₃.fits; same = whole count i₀ i₁ i₂ i₃ s₀.same s₁.same (eqb→eq count (length fs) s₂.0) s₂.1 s₃.same };
      })))
    where
      whole : (count i₀ i₁ i₂ i₃ : ℕ) → drop at bytes ≡ 0x44 ∷ 0x58 ∷ drop i₀ bytes → drop i₀ bytes ≡ le 4 count ++ drop i₁ bytes →
          count ≡ length fs → i₂ ≡ i₁ → drop i₂ bytes ≡ image.join (le 4) (image.places 6 fs) ++ drop i₃ bytes →
          drop at bytes ≡ (0x44 ∷ 0x58 ∷ le 4 (length fs) ++ image.join (le 4) (image.places 6 fs)) ++ drop i₃ bytes
      whole count i₀ i₁ i₂ i₃ e₀ e₁ n z e₃ = rw (e₀, e₁, n, ← z, e₃) (simp append_assoc)

  -- what is read behind the functions is their directory, or nothing
  record Behind (fs : List ObjectFunction) (at next : ℕ) : Type 0 where
    directory : Bool
    placed : directory ≡ true → Placed fs
    same : drop at bytes ≡ directory_if directory fs ++ drop next bytes

  read_behind : (fs : List ObjectFunction) (at : ℕ) → Makes (file.read_behind bytes fs) at (λ _ next. Behind fs at next)
  unfolding file.read_behind
  read_behind fs at = first _ (λ here i e. by_test here i ((here_so at).run here i e) (eqb here (length bytes)))
    where
      by_test : (here i : ℕ) → (here ≡ at) × (i ≡ at) → (b : Bool) →
          Makes (if b then r.return tt else file.read_directory bytes fs) i (λ _ next. Behind fs at next)
      by_test here i h true =
          return tt (record { directory = false; placed = λ e. let z : ◌≡◌ {A = ℕ} 0 1 = cc in absurd (omega arith); same = rw h.1 refl })
      by_test here i h false = record {
        run = λ t j e. let s = (read_directory fs i).run t j e in record { directory = true; placed = λ _. s.fits; same = rw (← h.1) s.same };
      }

  functions : Makes (file.read_functions bytes) 0 (Again bytes)
  unfolding file.read_functions image_bytes
  functions =
      next _ (λ t i₀ e₀. first _ (λ count i₁ e₁. next _ (λ t₁ i₂ e₂. first _ (λ fs i₃ e₃. next _ (λ t₂ i₄ e₄. first _ (λ end i₅ e₅.
      next _ (λ t₃ i₆ e₆. return fs
      (let s₀ = (mark_is ImageRefused 0x494D 0).run t i₀ e₀ in
      let s₁ = (u32 ImageRefused i₀).run count i₁ e₁ in
      let s₂ = (need_so _ ImageRefused i₁).run t₁ i₂ e₂ in
      let s₃ = (many (file.read_function bytes) FitsForm image.function_bytes function count i₂).run fs i₃ e₃ in
      let s₄ = (read_behind fs i₃).run t₂ i₄ e₄ in
      let s₅ = (here_so i₄).run end i₅ e₅ in
      let s₆ = (need_so _ ImageRefused i₅).run t₃ i₆ e₆ in
      let z : i₄ ≡ length bytes = omega (arith, s₅.0, eqb→eq end (length bytes) s₆.0) in
      record {
        directory = s₄.directory;
        fits =
            record {
              some = omega (arith, ltb→lt 0 count s₂.0, s₃.fits.1);
              few = omega (arith, s₁.fits, s₃.fits.1);
              each = s₃.fits.0;
            };
        placed = s₄.placed;
        same = image_parts s₄.directory fs
            ∙ whole fs (directory_if s₄.directory fs) count i₀ i₁ i₂ i₃ i₄ s₀.same s₁.same s₂.1 s₃.same s₄.same z s₃.fits.1;
        end = omega (arith, z, s₅.1, s₆.1);
      }))))))))
    where
      whole : (fs : List ObjectFunction) (rest : List ℕ) (count i₀ i₁ i₂ i₃ i₄ : ℕ) → bytes ≡ 0x49 ∷ 0x4D ∷ drop i₀ bytes →
          drop i₀ bytes ≡ le 4 count ++ drop i₁ bytes → i₂ ≡ i₁ → drop i₂ bytes ≡ image.join image.function_bytes fs ++ drop i₃ bytes →
          drop i₃ bytes ≡ rest ++ drop i₄ bytes → i₄ ≡ length bytes → length fs ≡ count → image_bytes fs ++ rest ≡ bytes
      whole fs rest count i₀ i₁ i₂ i₃ i₄ e₀ e₁ e₂ e₃ e₄ z n =
          let head : List ℕ = 0x49 ∷ 0x4D ∷ le 4 count in
          let records : List ℕ = image.join image.function_bytes fs in
          let e = behind head records 0 i₁ i₃ (behind (0x49 ∷ 0x4D ∷ []) (le 4 count) 0 i₀ i₁ e₀ e₁) (rw (← e₂) e₃) in
          rw n (sym (behind (head ++ records) rest 0 i₃ i₄ e e₄ ∙ rw (z, drop-length bytes) (append-nil ((head ++ records) ++ rest))))

-- what is read and then written again is the same bytes, to the last one
pub form_both_ways : (image : List ℕ) → Bytes image → (functions : List ObjectFunction) (next : ℕ) → read_image image ≡ got functions next →
    Again image functions next
unfolding read_image
form_both_ways image small fs next e = (functions image small).run fs next e

-- ## What the checker accepts

-- the bytes are the image of functions that the checker finds sound, with a directory or without
pub record SoundImage (image : List ℕ) : Type 0 where
  pub functions : List ObjectFunction
  pub directory : Bool
  pub fits : FitsImage functions
  pub placed : directory ≡ true → Placed functions
  pub holds : sound functions ≡ true
  pub written : image ≡ image_with directory functions

-- such bytes are accepted
accepts : (image : List ℕ) → SoundImage image → (check image).number ≡ 0
accepts image h = rw h.written
    (ap (λ (a : Answer). a.number) (placed_accepted h.directory h.functions h.fits h.placed (rw h.holds tt)))

module _ (image : List ℕ) (small : Bytes image) where
  -- all others are refused
  judged : SoundImage image ⊎ (check image ≡ refusal ImageRefused)
  unfolding check image_of checker.checked checker.verdict
  judged = by_read (read_image image) refl
    where
      by_sound : (fs : List ObjectFunction) (next : ℕ) → read_image image ≡ got fs next → (b : Bool) → sound fs ≡ b →
          SoundImage image ⊎ (checker.verdict (if b then some fs else none) ≡ refusal ImageRefused)
      by_sound fs next e true h =
          let again = form_both_ways image small fs next e in
          inl
          (record { functions = fs; directory = again.directory; fits = again.fits; placed = again.placed; holds = h; written = sym again.same })
      by_sound fs next e false h = inr refl

      by_read : (o : Read (List ObjectFunction)) → read_image image ≡ o →
          SoundImage image ⊎ (checker.verdict (checker.checked o) ≡ refusal ImageRefused)
      by_read (got fs next) e = by_sound fs next e (sound fs) refl
      by_read (bad fault) e = inr refl

  -- 0 exactly for the images of sound functions
  pub accepts_exactly : ((check image).number ≡ 0) ↔ SoundImage image
  unfolding refusal
  accepts_exactly = (only judged, accepts image)
    where
      only : SoundImage image ⊎ (check image ≡ refusal ImageRefused) → (check image).number ≡ 0 → SoundImage image
      only (inl h) e = h
      only (inr e') e = absurd (omega (arith, ap (λ (a : Answer). a.number) e'))

  -- 40 exactly for all other bytes
  pub refuses_exactly : ((check image).number ≡ 40) ↔ (SoundImage image → ⊥)
  unfolding refusal
  refuses_exactly = (λ e h. omega (arith, e, accepts image h), other judged)
    where
      other : SoundImage image ⊎ (check image ≡ refusal ImageRefused) → (SoundImage image → ⊥) → (check image).number ≡ 40
      other (inl h) none_is = absurd (none_is h)
      other (inr e) none_is = ap (λ (a : Answer). a.number) e
