-- Laws of a constant and of a function's record: what the rules' readers give, by the fields that are there.
use mathlib.Core.Path.{◌≡◌, refl, sym, ap, ◌∙◌}
use mathlib.Core.Bool.{Bool, true, false}
use mathlib.Core.List.{List}
use Prim.Native.Nat.{ℕ, ◌+◌, ◌*◌, ◌≤◌, ◌<◌}
use native.Mathlib.Omega.{arith}
use lib.ListN.{length, take, drop}
use lib.Dec.{leb, eqb}
use borrow.Author.Tests.{le-leb, lt-leb, eq-eqb, ne_eqb, leb-true, leb-false, eqb-true, eqb-false}
use Rattle.rules.specs.Base.{lookup}
use Rattle.rules.specs.Limits.{max_bits}
use Rattle.rules.specs.declared.Refusal.{Refusal}
use Rattle.rules.specs.declared.Refusal.TheVariants.{ImageRefused}
use Rattle.rules.specs.Reader.{Read, got, bad, Reader, go_on, ◌>>=◌, ◌>>◌, return, refuse, need, known, one_of, u8, mark_is, many}
use Rattle.rules.specs.Chunk.{Constant, CN, CS, CF, same_constant, Run, ObjectFunction}
use Rattle.rules.specs.ImageFile.{ConstantMark, number_mark, string_mark, function_mark, constant_marks, constant_fields, read_constant, read_run, read_function}
use Rattle.fields.specs.Words.{word8, word16, word32, word64, letters}
use Rattle.fields.proofs.Reading.{Field, then_on, then_bad, a_u8, a_u16, a_u32, a_u64, a_mark, mark_is_it, mark_is_not, mark_is_cut, marked}
use Rattle.std.proofs.Common.{Option, Some, None}
use Rattle.image_records.specs.declared.Header.{Header}
use Rattle.image_records.specs.Told.{word_of, constant_told, head_at, code_told}
use Rattle.image_records.proofs.Many.{Fails, fails_as, bytes_whole, bytes_short}

-- ## Words of constants

pub same_word : (a b : Constant) → eqb (word_of a) (word_of b) ≡ same_constant a b
unfolding word_of same_constant
same_word (CN a) (CN b) = twice a b (eqb a b) refl
  where
    twice : (a b : ℕ) (t : Bool) → eqb a b ≡ t → eqb (2 * a) (2 * b) ≡ t
    twice a b true e = let q : a ≡ b = eqb-true _ _ e in eq-eqb (2 * a) (2 * b) (omega arith)
    twice a b false e = let q : a ≡ b → ⊥ = eqb-false _ _ e in ne_eqb _ _ (λ (p : 2 * a ≡ 2 * b). q (omega arith))
same_word (CN a) (CS b) = ne_eqb _ _ (λ (p : 2 * a ≡ 4 * b + 1). omega arith)
same_word (CN a) (CF b) = ne_eqb _ _ (λ (p : 2 * a ≡ 4 * b + 3). omega arith)
same_word (CS a) (CN b) = ne_eqb _ _ (λ (p : 4 * a + 1 ≡ 2 * b). omega arith)
same_word (CS a) (CS b) = four a b (eqb a b) refl
  where
    four : (a b : ℕ) (t : Bool) → eqb a b ≡ t → eqb (4 * a + 1) (4 * b + 1) ≡ t
    four a b true e = let q : a ≡ b = eqb-true _ _ e in eq-eqb (4 * a + 1) (4 * b + 1) (omega arith)
    four a b false e = let q : a ≡ b → ⊥ = eqb-false _ _ e in ne_eqb _ _ (λ (p : 4 * a + 1 ≡ 4 * b + 1). q (omega arith))
same_word (CS a) (CF b) = ne_eqb _ _ (λ (p : 4 * a + 1 ≡ 4 * b + 3). omega arith)
same_word (CF a) (CN b) = ne_eqb _ _ (λ (p : 4 * a + 3 ≡ 2 * b). omega arith)
same_word (CF a) (CS b) = ne_eqb _ _ (λ (p : 4 * a + 3 ≡ 4 * b + 1). omega arith)
same_word (CF a) (CF b) = four a b (eqb a b) refl
  where
    four : (a b : ℕ) (t : Bool) → eqb a b ≡ t → eqb (4 * a + 3) (4 * b + 3) ≡ t
    four a b true e = let q : a ≡ b = eqb-true _ _ e in eq-eqb (4 * a + 3) (4 * b + 3) (omega arith)
    four a b false e = let q : a ≡ b → ⊥ = eqb-false _ _ e in ne_eqb _ _ (λ (p : 4 * a + 3 ≡ 4 * b + 3). q (omega arith))

-- what a constant that was told is
pub record ConstantIs (r : Read Constant) (w next : ℕ) : Type 0 where
  pub value : Constant
  pub is : r ≡ got value next
  pub coded : w ≡ word_of value

pub constant_is : (r : Read Constant) (w next : ℕ) → Some (w, next) ≡ constant_told r → ConstantIs r w next
unfolding constant_told
constant_is (bad fault) w next e = let z : ◌≡◌ {A = ℕ} 0 1 = cc in absurd (omega arith)
constant_is (got c n) w next e =
    let p : (w, next) ≡ (word_of c, n) = cc in
    record { value = c; is = ap (got c) (sym (ap (λ (x : ℕ × ℕ). x.1) p)); coded = ap (λ (x : ℕ × ℕ). x.0) p }

pub constant_fails : (r : Read Constant) → None ≡ constant_told r → Fails r
unfolding constant_told
constant_fails (bad fault) e = record { fault = fault; is = refl }
constant_fails (got c n) e = let z : ◌≡◌ {A = ℕ} 0 1 = cc in absurd (omega arith)

module _ (s : List ℕ) (at : ℕ) where
  -- ## A constant's fields, behind its mark

  abbrev fields : ConstantMark → Option (ℕ × ℕ)
  fields kind = constant_told (constant_fields s kind (at + 2))

  pub number_short : length s < at + 10 → None ≡ fields number_mark
  unfolding constant_fields ◌>>=◌ go_on constant_told
  number_short h = rw ((a_u64 s).short ImageRefused (at + 2) (omega arith)) refl

  pub number_large : at + 10 ≤ length s → max_bits < word64 s (at + 2) → None ≡ fields number_mark
  unfolding constant_fields ◌>>=◌ ◌>>◌ go_on need constant_told
  number_large h l = rw ((a_u64 s).whole ImageRefused (at + 2) (omega arith), lt-leb _ _ l) refl

  pub number_whole : (bits : ℕ) → bits ≡ word64 s (at + 2) → at + 10 ≤ length s → bits ≤ max_bits → Some (2 * bits, at + 10) ≡ fields number_mark
  unfolding constant_fields ◌>>=◌ ◌>>◌ go_on need return constant_told word_of
  number_whole bits e h l =
      let m : word64 s (at + 2) ≤ max_bits = omega arith in
      let p : at + 2 + 8 ≡ at + 10 = omega arith in
      rw ((a_u64 s).whole ImageRefused (at + 2) (omega arith), le-leb _ _ m, p, e) refl

  pub string_short : length s < at + 4 → None ≡ fields string_mark
  unfolding constant_fields ◌>>=◌ go_on constant_told
  string_short h = rw ((a_u16 s).short ImageRefused (at + 2) (omega arith)) refl

  pub string_whole : (name : ℕ) → name ≡ word16 s (at + 2) → at + 4 ≤ length s → Some (4 * name + 1, at + 4) ≡ fields string_mark
  unfolding constant_fields ◌>>=◌ go_on return constant_told word_of
  string_whole name e h =
      let p : at + 2 + 2 ≡ at + 4 = omega arith in
      rw ((a_u16 s).whole ImageRefused (at + 2) (omega arith), p, e) refl

  pub function_short : length s < at + 6 → None ≡ fields function_mark
  unfolding constant_fields ◌>>=◌ go_on constant_told
  function_short h = rw ((a_u32 s).short ImageRefused (at + 2) (omega arith)) refl

  pub function_whole : (number : ℕ) → number ≡ word32 s (at + 2) → at + 6 ≤ length s → Some (4 * number + 3, at + 6) ≡ fields function_mark
  unfolding constant_fields ◌>>=◌ go_on return constant_told word_of
  function_whole number e h =
      let p : at + 2 + 4 ≡ at + 6 = omega arith in
      rw ((a_u32 s).whole ImageRefused (at + 2) (omega arith), p, e) refl

  -- ## A constant by its mark

  abbrev told : Option (ℕ × ℕ)
  told = constant_told (read_constant s at)

  pub constant_cut : length s < at + 2 → None ≡ told
  unfolding read_constant ◌>>=◌ go_on constant_told
  constant_cut h = rw ((a_mark s).short ImageRefused at h) refl

  module _ (m : ℕ) (e : m ≡ letters s at) (h : at + 2 ≤ length s) where
    pub by_number : m ≡ 0x434E → fields number_mark ≡ told
    unfolding read_constant ◌>>=◌ go_on one_of known return constant_marks lookup
    by_number q = let p : letters s at ≡ 0x434E = sym e ∙ q in rw ((a_mark s).whole ImageRefused at h, p) refl

    pub by_string : m ≡ 0x4353 → fields string_mark ≡ told
    unfolding read_constant ◌>>=◌ go_on one_of known return constant_marks lookup
    by_string q = let p : letters s at ≡ 0x4353 = sym e ∙ q in rw ((a_mark s).whole ImageRefused at h, p) refl

    pub by_function : m ≡ 0x4346 → fields function_mark ≡ told
    unfolding read_constant ◌>>=◌ go_on one_of known return constant_marks lookup
    by_function q = let p : letters s at ≡ 0x4346 = sym e ∙ q in rw ((a_mark s).whole ImageRefused at h, p) refl

    pub by_none : (m ≡ 0x434E → ⊥) → (m ≡ 0x4353 → ⊥) → (m ≡ 0x4346 → ⊥) → None ≡ told
    unfolding read_constant ◌>>=◌ go_on one_of known refuse constant_marks lookup constant_told
    by_none a b c = rw ((a_mark s).whole ImageRefused at h, ← e, ne_eqb _ _ a, ne_eqb _ _ b, ne_eqb _ _ c) refl

-- ## A function's record

module _ (s : List ℕ) where
  -- what follows the header, the constants, the runs
  module _ (name arity upvalues : ℕ) where
    abbrev pub made : List Constant → List Run → List ℕ → ObjectFunction
    made cs rs ops =
        record { name = name; arity = arity; upvalue_count = upvalues; chunk = record { ops = ops; constants = cs; spans = rs } }

    unfoldable pub code_read : (size : ℕ) → List Constant → List Run → Reader ObjectFunction
    code_read size cs rs = do
      mark_is s ImageRefused 0x4344
      ops ← many size (u8 s ImageRefused)
      return (made cs rs ops)

    unfoldable pub runs_read : (count size : ℕ) → List Constant → Reader ObjectFunction
    runs_read count size cs = do
      rs ← many count (read_run s)
      code_read size cs rs

    unfoldable pub body_read : (constants runs size : ℕ) → Reader ObjectFunction
    body_read constants runs size = do
      cs ← many constants (read_constant s)
      runs_read runs size cs

    pub body_stops : (constants runs size at : ℕ) → Fails (many constants (read_constant s) at) → Fails (body_read constants runs size at)
    unfolding body_read ◌>>=◌ go_on
    body_stops constants runs size at f = record { fault = f.fault; is = rw f.is refl }

    pub body_goes : (constants runs size at next : ℕ) (cs : List Constant) → many constants (read_constant s) at ≡ got cs next
        → body_read constants runs size at ≡ runs_read runs size cs next
    unfolding body_read ◌>>=◌ go_on
    body_goes constants runs size at next cs e = rw e refl

    pub runs_stops : (runs size at : ℕ) (cs : List Constant) → Fails (many runs (read_run s) at) → Fails (runs_read runs size cs at)
    unfolding runs_read ◌>>=◌ go_on
    runs_stops runs size at cs f = record { fault = f.fault; is = rw f.is refl }

    pub runs_goes : (runs size at next : ℕ) (cs : List Constant) (rs : List Run) → many runs (read_run s) at ≡ got rs next
        → runs_read runs size cs at ≡ code_read size cs rs next
    unfolding runs_read ◌>>=◌ go_on
    runs_goes runs size at next cs rs e = rw e refl

    pub code_there : (size at : ℕ) (cs : List Constant) (rs : List Run) → at + 2 ≤ length s → letters s at ≡ 0x4344 → at + 2 + size ≤ length s
        → code_read size cs rs at ≡ got (made cs rs (take size (drop (at + 2) s))) (at + 2 + size)
    unfolding code_read ◌>>=◌ ◌>>◌ go_on return
    code_there size at cs rs h e f = rw (mark_is_it s ImageRefused 0x4344 at h e, bytes_whole s ImageRefused size (at + 2) f) refl

    pub code_unmarked : (size at : ℕ) (cs : List Constant) (rs : List Run) → at + 2 ≤ length s → (letters s at ≡ 0x4344 → ⊥) → Fails (code_read size cs rs at)
    unfolding code_read ◌>>=◌ ◌>>◌ go_on
    code_unmarked size at cs rs h e = record { fault = ImageRefused; is = rw (mark_is_not s ImageRefused 0x4344 at h e) refl }

    pub code_cut : (size at : ℕ) (cs : List Constant) (rs : List Run) → length s < at + 2 → Fails (code_read size cs rs at)
    unfolding code_read ◌>>=◌ ◌>>◌ go_on
    code_cut size at cs rs h = record { fault = ImageRefused; is = rw (mark_is_cut s ImageRefused 0x4344 at h) refl }

    pub code_short : (size at : ℕ) (cs : List Constant) (rs : List Run) → at + 2 ≤ length s → letters s at ≡ 0x4344 → length s < at + 2 + size
        → Fails (code_read size cs rs at)
    unfolding code_read ◌>>=◌ ◌>>◌ go_on
    code_short size at cs rs h e f =
        let g = bytes_short s ImageRefused size (at + 2) h f in
        record { fault = g.fault; is = rw (mark_is_it s ImageRefused 0x4344 at h e, g.is) refl }

  module _ (at : ℕ) where
    pub head_there : at + 17 ≤ length s → letters s at ≡ 0x464E → read_function s at
        ≡ body_read (word16 s (at + 2)) (word8 s (at + 4)) (word16 s (at + 5)) (word16 s (at + 7)) (word32 s (at + 9)) (word32 s (at + 13)) (at + 17)
    unfolding read_function body_read runs_read code_read ◌>>=◌ ◌>>◌ go_on
    head_there h e =
        let p4 : at + 2 + 2 ≡ at + 4 = omega arith in
        let p5 : at + 4 + 1 ≡ at + 5 = omega arith in
        let p7 : at + 5 + 2 ≡ at + 7 = omega arith in
        let p9 : at + 7 + 2 ≡ at + 9 = omega arith in
        let p13 : at + 9 + 4 ≡ at + 13 = omega arith in
        let p17 : at + 13 + 4 ≡ at + 17 = omega arith in
        rw (
          mark_is_it s ImageRefused 0x464E at (omega arith) e,
          (a_u16 s).whole ImageRefused (at + 2) (omega arith),
          p4,
          (a_u8 s).whole ImageRefused (at + 4) (omega arith),
          p5,
          (a_u16 s).whole ImageRefused (at + 5) (omega arith),
          p7,
          (a_u16 s).whole ImageRefused (at + 7) (omega arith),
          p9,
          (a_u32 s).whole ImageRefused (at + 9) (omega arith),
          p13,
          (a_u32 s).whole ImageRefused (at + 13) (omega arith),
          p17,
        ) refl

    pub head_unmarked : at + 2 ≤ length s → (letters s at ≡ 0x464E → ⊥) → Fails (read_function s at)
    unfolding read_function ◌>>=◌ ◌>>◌ go_on
    head_unmarked h e = record { fault = ImageRefused; is = rw (mark_is_not s ImageRefused 0x464E at h e) refl }

    pub head_unmarkable : length s < at + 2 → Fails (read_function s at)
    unfolding read_function ◌>>=◌ ◌>>◌ go_on
    head_unmarkable h = record { fault = ImageRefused; is = rw (mark_is_cut s ImageRefused 0x464E at h) refl }

  -- the header is cut behind its mark: in one of its fields, by where the file ends
  short_then : {A B : Type 0} {field : Refusal → Reader A} {k : ℕ} {value : ℕ → A} (one : Field s field k value) (f : A → Reader B) (m at : ℕ) (t : Bool)
      → leb (at + k) (length s) ≡ t → length s < at + (k + m)
      → ((a : A) (n : ℕ) → length s < n + m → f a n ≡ bad ImageRefused) → go_on (field ImageRefused at) f ≡ bad ImageRefused
  unfolding go_on
  short_then {k = k} {value} one f m at true e h later =
      let w = leb-true _ _ e in
      then_on f (one.whole ImageRefused at w) ∙ later (value at) (at + k) (omega arith)
  short_then one f m at false e h later = then_bad f (one.short ImageRefused at (leb-false _ _ e))

  -- behind the mark
  header_cut : (at : ℕ) → at + 2 ≤ length s → length s < at + 17 → letters s at ≡ 0x464E → read_function s at ≡ bad ImageRefused
  unfolding read_function ◌>>=◌ ◌>>◌ go_on
  header_cut at h c e =
      rw (mark_is_it s ImageRefused 0x464E at h e)
      (short_then (a_u16 s) _ 13 (at + 2) _ refl (omega arith) (λ name n h1.
      short_then (a_u8 s) _ 12 n _ refl (omega arith) (λ arity n h2.
      short_then (a_u16 s) _ 10 n _ refl (omega arith) (λ upvalues n h3.
      short_then (a_u16 s) _ 8 n _ refl (omega arith) (λ constants n h4.
      short_then (a_u32 s) _ 4 n _ refl (omega arith) (λ runs n h5.
      then_bad _ ((a_u32 s).short ImageRefused n h5)))))))

  header_by : (at : ℕ) (t u : Bool) → leb (at + 2) (length s) ≡ t → eqb (letters s at) 0x464E ≡ u → length s < at + 17 → Fails (read_function s at)
  header_by at true true e f c = record { fault = ImageRefused; is = header_cut at (leb-true _ _ e) c (eqb-true _ _ f) }
  header_by at true false e f c = head_unmarked at (leb-true _ _ e) (eqb-false _ _ f)
  header_by at false u e f c = head_unmarkable at (leb-false _ _ e)

  pub head_short : (at : ℕ) → length s < at + 17 → Fails (read_function s at)
  head_short at c = header_by at _ _ refl refl c

  -- ## The header as it is told

  head_bool : (at : ℕ) (t u : Bool) → leb (at + 17) (length s) ≡ t → eqb (letters s at) 0x464E ≡ u → None ≡ head_at s at → Fails (read_function s at)
  unfolding head_at
  head_bool at true true e f b = absurd (let z = rw (e, f) at b in let y : ◌≡◌ {A = ℕ} 0 1 = cc in omega arith)
  head_bool at true false e f b = let l : at + 17 ≤ length s = leb-true _ _ e in head_unmarked at (omega arith) (eqb-false _ _ f)
  head_bool at false u e f b = head_short at (leb-false _ _ e)

  pub head_fails : (at : ℕ) → None ≡ head_at s at → Fails (read_function s at)
  head_fails at b = head_bool at _ _ refl refl b

  pub record Headed (at : ℕ) (h : Header) : Type 0 where
    pub name : ℕ
    pub arity : ℕ
    pub whole : at + 17 ≤ length s
    pub is : read_function s at ≡ body_read name arity h.upvalues h.constants h.runs h.code (at + 17)

  head_told : (at : ℕ) (h : Header) (t u : Bool) → leb (at + 17) (length s) ≡ t → eqb (letters s at) 0x464E ≡ u → Some h ≡ head_at s at → Headed at h
  unfolding head_at
  head_told at h true true e f b =
      let w = leb-true _ _ e in
      let z = rw (e, f) at b in
      let q : h ≡ record { upvalues = word16 s (at + 5); constants = word16 s (at + 7); runs = word32 s (at + 9); code = word32 s (at + 13) } = cc in
      record {
        name = word16 s (at + 2);
        arity = word8 s (at + 4);
        whole = w;
        is = head_there at w (eqb-true _ _ f) ∙ ap (λ (g : Header). body_read (word16 s (at + 2)) (word8 s (at + 4)) g.upvalues g.constants g.runs g.code (at + 17)) (sym q);
      }
  head_told at h true false e f b = absurd (let z = rw (e, f) at b in let y : ◌≡◌ {A = ℕ} 0 1 = cc in omega arith)
  head_told at h false u e f b = absurd (let z = rw e at b in let y : ◌≡◌ {A = ℕ} 0 1 = cc in omega arith)

  pub headed : (at : ℕ) (h : Header) → Some h ≡ head_at s at → Headed at h
  headed at h b = head_told at h _ _ refl refl b

  -- ## The code as it is told

  pub record Coded (size at start : ℕ) : Type 0 where
    pub on : start ≡ at + 2
    pub within : start + size ≤ length s
    pub marked : letters s at ≡ 0x4344

  coded_by : (size at start : ℕ) (t u v : Bool) → leb (at + 2) (length s) ≡ t → eqb (letters s at) 0x4344 ≡ u → leb (at + 2 + size) (length s) ≡ v
      → Some start ≡ code_told s size at → Coded size at start
  unfolding code_told
  coded_by size at start true true true e f g b =
      let z = rw (e, f, g) at b in
      let q : start ≡ at + 2 = cc in
      let l : at + 2 + size ≤ length s = leb-true _ _ g in
      record { on = q; within = omega arith; marked = eqb-true _ _ f }
  coded_by size at start true true false e f g b = absurd (let z = rw (e, f, g) at b in let y : ◌≡◌ {A = ℕ} 0 1 = cc in omega arith)
  coded_by size at start true false v e f g b = absurd (let z = rw (e, f) at b in let y : ◌≡◌ {A = ℕ} 0 1 = cc in omega arith)
  coded_by size at start false u v e f g b = absurd (let z = rw e at b in let y : ◌≡◌ {A = ℕ} 0 1 = cc in omega arith)

  pub coded : (size at start : ℕ) → Some start ≡ code_told s size at → Coded size at start
  coded size at start b = coded_by size at start _ _ _ refl refl refl b

  module _ (name arity upvalues : ℕ) (size at : ℕ) (cs : List Constant) (rs : List Run) where
    pub code_is : (start : ℕ) → Coded size at start → code_read name arity upvalues size cs rs at
        ≡ got (made name arity upvalues cs rs (take size (drop start s))) (start + size)
    code_is start c =
        let w = c.within in
        let o = c.on in
        code_there name arity upvalues size at cs rs (omega arith) c.marked (omega arith) ∙ rw (← o) refl

    uncoded_by : (t u v : Bool) → leb (at + 2) (length s) ≡ t → eqb (letters s at) 0x4344 ≡ u → leb (at + 2 + size) (length s) ≡ v
        → None ≡ code_told s size at → Fails (code_read name arity upvalues size cs rs at)
    unfolding code_told
    uncoded_by true true true e f g b = absurd (let z = rw (e, f, g) at b in let y : ◌≡◌ {A = ℕ} 0 1 = cc in omega arith)
    uncoded_by true true false e f g b = code_short name arity upvalues size at cs rs (leb-true _ _ e) (eqb-true _ _ f) (leb-false _ _ g)
    uncoded_by true false v e f g b = code_unmarked name arity upvalues size at cs rs (leb-true _ _ e) (eqb-false _ _ f)
    uncoded_by false u v e f g b = code_cut name arity upvalues size at cs rs (leb-false _ _ e)

    pub uncoded : None ≡ code_told s size at → Fails (code_read name arity upvalues size cs rs at)
    uncoded b = uncoded_by _ _ _ refl refl refl b

-- ## A whole function, step by step

module _ (s : List ℕ) (at : ℕ) (h : Header) (b : Headed s at h) where
  abbrev body : Reader ObjectFunction
  body = body_read s b.name b.arity h.upvalues h.constants h.runs h.code

  pub at_constants : Fails (many h.constants (read_constant s) (at + 17)) → Fails (read_function s at)
  at_constants f = fails_as b.is (body_stops s b.name b.arity h.upvalues h.constants h.runs h.code (at + 17) f)

  module _ (cs : List Constant) (runs_at : ℕ) (c : many h.constants (read_constant s) (at + 17) ≡ got cs runs_at) where
    pub past_constants : read_function s at ≡ runs_read s b.name b.arity h.upvalues h.runs h.code cs runs_at
    past_constants = b.is ∙ body_goes s b.name b.arity h.upvalues h.constants h.runs h.code (at + 17) runs_at cs c

    pub at_runs : Fails (many h.runs (read_run s) runs_at) → Fails (read_function s at)
    at_runs f = fails_as past_constants (runs_stops s b.name b.arity h.upvalues h.runs h.code runs_at cs f)

    module _ (rs : List Run) (code_at : ℕ) (r : many h.runs (read_run s) runs_at ≡ got rs code_at) where
      pub past_runs : read_function s at ≡ code_read s b.name b.arity h.upvalues h.code cs rs code_at
      past_runs = past_constants ∙ runs_goes s b.name b.arity h.upvalues h.runs h.code runs_at code_at cs rs r

      pub at_code : None ≡ code_told s h.code code_at → Fails (read_function s at)
      at_code f = fails_as past_runs (uncoded s b.name b.arity h.upvalues h.code code_at cs rs f)

      pub whole_function : (start : ℕ) → Coded s h.code code_at start
          → read_function s at ≡ got (made s b.name b.arity h.upvalues cs rs (take h.code (drop start s))) (start + h.code)
      whole_function start c = past_runs ∙ code_is s b.name b.arity h.upvalues h.code code_at cs rs start c

-- ## What a function that was read says of its header and its code

pub record Then {A B : Type 0} (r : Read A) (f : A → Reader B) (b : B) (n : ℕ) : Type 0 where
  pub value : A
  pub next : ℕ
  pub is : r ≡ got value next
  pub rest : f value next ≡ got b n

pub then_of : {A B : Type 0} (r : Read A) (f : A → Reader B) (b : B) (n : ℕ) → go_on r f ≡ got b n → Then r f b n
unfolding go_on
then_of (got a m) f b n e = record { value = a; next = m; is = refl; rest = e }
then_of (bad fault) f b n e = absurd (let y : ◌≡◌ {A = ℕ} 0 1 = cc in omega arith)

-- what stands in a function that was read behind its header
pub record Body (s : List ℕ) (name arity upvalues constants runs size at : ℕ) (f : ObjectFunction) (next : ℕ) : Type 0 where
  pub cs : List Constant
  pub rs : List Run
  pub ops : List ℕ
  pub runs_at : ℕ
  pub code_at : ℕ
  pub start : ℕ
  pub constants_are : many constants (read_constant s) at ≡ got cs runs_at
  pub runs_are : many runs (read_run s) runs_at ≡ got rs code_at
  pub begins : start ≡ code_at + 2
  pub ops_are : many size (u8 s ImageRefused) start ≡ got ops next
  pub is : f ≡ made s name arity upvalues cs rs ops

module _ (s : List ℕ) (name arity upvalues constants runs size at : ℕ) (f : ObjectFunction) (next : ℕ) where
  pub body_of : body_read s name arity upvalues constants runs size at ≡ got f next → Body s name arity upvalues constants runs size at f next
  unfolding body_read runs_read code_read ◌>>=◌ ◌>>◌ return
  body_of e =
      let a = then_of (many constants (read_constant s) at) _ f next e in
      let b = then_of (many runs (read_run s) a.next) _ f next a.rest in
      let c = then_of (mark_is s ImageRefused 0x4344 b.next) _ f next b.rest in
      let d = then_of (many size (u8 s ImageRefused) c.next) _ f next c.rest in
      let z = d.rest in
      let m : d.next ≡ next = cc in
      record {
        cs = a.value;
        rs = b.value;
        ops = d.value;
        runs_at = a.next;
        code_at = b.next;
        start = c.next;
        constants_are = a.is;
        runs_are = b.is;
        begins = (marked s ImageRefused 0x4344 b.next c.is).on;
        ops_are = d.is ∙ ap (got d.value) m;
        is = cc;
      }

pub upvalues_headed : (s : List ℕ) (at : ℕ) (h : Header) (f : ObjectFunction) (next : ℕ) → Headed s at h → read_function s at ≡ got f next → f.upvalue_count ≡ h.upvalues
upvalues_headed s at h f next b e =
    let o = body_of s b.name b.arity h.upvalues h.constants h.runs h.code (at + 17) f next (sym b.is ∙ e) in
    ap (λ (g : ObjectFunction). g.upvalue_count) o.is
