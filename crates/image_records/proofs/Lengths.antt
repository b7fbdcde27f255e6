-- What is read ends as many bytes further on as it is written in, whatever the bytes are: so the places that the rules give the functions of an
-- image are where reading them ends.
use mathlib.Core.Path.{◌≡◌, refl, sym, ap, ◌∙◌}
use mathlib.Core.Bool.{Bool, true, false}
use mathlib.Core.Option.{Option, none, some}
use mathlib.Core.List.{List, ◌∷◌, []}
use Prim.Native.Nat.{ℕ, zero, suc, ◌+◌, ◌<◌}
use native.Mathlib.Omega.{arith}
use lib.ListN.{length, length-append, get_or, take}
use lib.Dec.{leb}
use Rattle.rules.proofs.Numbers.{le_length}
use Rattle.rules.specs.Base.{lookup}
use Rattle.rules.specs.Limits.{max_bits}
use Rattle.rules.specs.declared.Refusal.{Refusal}
use Rattle.rules.specs.declared.Refusal.TheVariants.{ImageRefused}
use Rattle.rules.specs.Reader.{Read, got, Reader, ◌>>=◌, ◌>>◌, return, refuse, need, known, one_of, u8, u16, u32, u64, mark, mark_is, span, many}
use Rattle.rules.specs.Chunk.{Constant, CN, CS, CF, ObjectFunction}
use Rattle.rules.specs.Image.{join, constant_bytes, run_bytes, function_bytes, image_bytes, places}
use Rattle.rules.specs.ImageFile.{ConstantMark, number_mark, string_mark, function_mark, constant_marks}
use Rattle.rules.specs.ImageFile.{constant_fields, read_constant, read_run, read_function}
use Rattle.fields.proofs.Reading.{found, a_u8, a_u16, a_u32, a_u64, a_mark, a_span, bad_got, marked}
use Rattle.image_records.specs.declared.Header.{Header}
use Rattle.std.proofs.Common.{Option as Told, Some, None}
use Rattle.image_records.specs.Told.{head_at}
use Rattle.image_records.proofs.Many.{onto, got_bad, many_first, many_none, many_goes}
use Rattle.image_records.proofs.Records.{then_of, headed, head_fails, body_of}

-- a reader that takes the bytes that its value is written in
pub record Takes {A : Type 0} (one : Reader A) (bytes : A → List ℕ) : Type 0 where
  pub on : (at next : ℕ) (v : A) → one at ≡ got v next → next ≡ at + length (bytes v)

pub takes_many : {A : Type 0} (one : Reader A) (bytes : A → List ℕ) → Takes one bytes → (n at next : ℕ) (vs : List A) → many n one at ≡ got vs next
    → next ≡ at + length (join bytes vs)
unfolding join
takes_many {A} one bytes p zero at next vs e =
    let z : ◌≡◌ {A = Read (List A)} (got [] at) (got vs next) = sym (many_none one 0 at refl) ∙ e in
    let m : at ≡ next = cc in
    let q : [] ≡ vs = cc in
    rw (← q) (omega arith)
takes_many one bytes p (suc n) at next vs e =
    let f = many_first one n at next vs e in
    let a = p.on at f.next f.value f.is in
    let b = takes_many one bytes p n f.next next f.others f.then in
    rw f.all (omega (arith, length-append (bytes f.value) (join bytes f.others)))

pub places_length : (at : ℕ) (fs : List ObjectFunction) → length (places at fs) ≡ length fs
unfolding places
places_length at [] = refl
places_length at (f ∷ fs) = ap suc (places_length (at + length (function_bytes f)) fs)

-- ## Records

pub need_stays : (b : Bool) (r : Refusal) (at next : ℕ) (v : Unit) → need b r at ≡ got v next → next ≡ at
unfolding need
need_stays true r at next v e = cc
need_stays false r at next v e = absurd (bad_got e)

known_stays : {A : Type 0} (r : Refusal) (o : Option A) (at next : ℕ) (v : A) → known r o at ≡ got v next → next ≡ at
unfolding known refuse return
known_stays r none at next v e = absurd (bad_got e)
known_stays r (some a) at next v e = cc

pub record_length : (f : ObjectFunction) → length (function_bytes f)
    ≡ 19 + length (join constant_bytes f.chunk.constants) + length (join run_bytes f.chunk.spans) + length f.chunk.ops
unfolding function_bytes
record_length f = simp (length-append, le_length) (omega arith)

module _ (s : List ℕ) where
  -- behind its mark
  fields_take : (kind : ConstantMark) (at next : ℕ) (c : Constant) → constant_fields s kind at ≡ got c next → next + 2 ≡ at + length (constant_bytes c)
  unfolding constant_fields constant_bytes ◌>>=◌ ◌>>◌ return
  fields_take number_mark at next c e =
      let t = then_of (u64 s ImageRefused at) _ c next e in
      let f = found s (a_u64 s) t.is in
      let n = then_of (need (leb t.value max_bits) ImageRefused t.next) _ c next t.rest in
      let m = need_stays (leb t.value max_bits) ImageRefused t.next n.next n.value n.is in
      let z = n.rest in
      let q : CN t.value ≡ c = cc in
      let p : n.next ≡ next = cc in
      rw (← q) (omega (arith, f.on, le_length 8 t.value))
  fields_take string_mark at next c e =
      let t = then_of (u16 s ImageRefused at) _ c next e in
      let f = found s (a_u16 s) t.is in
      let z = t.rest in
      let q : CS t.value ≡ c = cc in
      let p : t.next ≡ next = cc in
      rw (← q) (omega (arith, f.on, le_length 2 t.value))
  fields_take function_mark at next c e =
      let t = then_of (u32 s ImageRefused at) _ c next e in
      let f = found s (a_u32 s) t.is in
      let z = t.rest in
      let q : CF t.value ≡ c = cc in
      let p : t.next ≡ next = cc in
      rw (← q) (omega (arith, f.on, le_length 4 t.value))

  kind_takes : (at next : ℕ) (kind : ConstantMark) → (mark s ImageRefused >>= one_of ImageRefused constant_marks) at ≡ got kind next → next ≡ at + 2
  unfolding ◌>>=◌ one_of
  kind_takes at next kind e =
      let t = then_of (mark s ImageRefused at) (λ m. known ImageRefused (lookup m constant_marks)) kind next e in
      let f = found s (a_mark s) t.is in
      known_stays ImageRefused (lookup t.value constant_marks) t.next next kind t.rest ∙ f.on

  pub constant_takes : Takes (read_constant s) constant_bytes
  unfolding read_constant ◌>>=◌
  constant_takes =
      record {
        on =
            λ at next c e. (let t = then_of _ (constant_fields s) c next e in
            let k = kind_takes at t.next t.value t.is in
            let f = fields_take t.value t.next next c t.rest in
            omega arith);
      }

  pub run_takes : Takes (read_run s) run_bytes
  unfolding read_run run_bytes ◌>>=◌ ◌>>◌ return
  run_takes =
      record {
        on =
            λ at next run e. (let a = then_of (mark_is s ImageRefused 0x5255 at) _ run next e in
            let b = then_of (span s ImageRefused a.next) _ run next a.rest in
            let c = then_of (u8 s ImageRefused b.next) _ run next b.rest in
            let m = marked s ImageRefused 0x5255 at a.is in
            let f = found s (a_span s) b.is in
            let g = found s (a_u8 s) c.is in
            let z = c.rest in
            let p : c.next ≡ next = cc in
            let l : length (run_bytes run) ≡ 11 = simp (length-append, le_length) in
            omega (arith, m.on, f.on, g.on));
      }

  -- the code: bytes in a row
  byte_takes : Takes (u8 s ImageRefused) (λ (b : ℕ). b ∷ [])
  byte_takes = record { on = λ at next b e. (found s (a_u8 s) e).on }

  bytes_joined : (bs : List ℕ) → join (λ (b : ℕ). b ∷ []) bs ≡ bs
  unfolding join
  bytes_joined [] = refl
  bytes_joined (b ∷ bs) = ap (λ (l : List ℕ). b ∷ l) (bytes_joined bs)

  function_by : (at next : ℕ) (f : ObjectFunction) (h : Told Header) → h ≡ head_at s at → read_function s at ≡ got f next → next ≡ at + length (function_bytes f)
  function_by at next f None e r = absurd (got_bad (head_fails s at e) r)
  function_by at next f (Some h) e r =
      let b = headed s at h e in
      let o = body_of s b.name b.arity h.upvalues h.constants h.runs h.code (at + 17) f next (sym b.is ∙ r) in
      let c = takes_many (read_constant s) constant_bytes constant_takes h.constants (at + 17) o.runs_at o.cs o.constants_are in
      let u = takes_many (read_run s) run_bytes run_takes h.runs o.runs_at o.code_at o.rs o.runs_are in
      let p = takes_many (u8 s ImageRefused) (λ (b : ℕ). b ∷ []) byte_takes h.code o.start next o.ops o.ops_are in
      let q : length (join (λ (b : ℕ). b ∷ []) o.ops) ≡ length o.ops = ap length (bytes_joined o.ops) in
      let i : length (function_bytes f)
      ≡ 19 + length (join constant_bytes o.cs) + length (join run_bytes o.rs) + length o.ops =
      ap (λ (g : ObjectFunction). length (function_bytes g)) o.is ∙ record_length _ in
      omega (arith, o.begins)

  -- a function that was read ends as many bytes further on as its record has
  pub read_function_length : (at next : ℕ) (f : ObjectFunction) → read_function s at ≡ got f next → next ≡ at + length (function_bytes f)
  read_function_length at next f r = function_by at next f (head_at s at) refl r

  pub read_functions_length : (n at next : ℕ) (fs : List ObjectFunction) → many n (read_function s) at ≡ got fs next
      → next ≡ at + length (join function_bytes fs)
  read_functions_length n at next fs e = takes_many (read_function s) function_bytes (record { on = read_function_length }) n at next fs e

  -- the functions of an image end where the image without a directory does
  pub image_length : (n end : ℕ) (fs : List ObjectFunction) → many n (read_function s) 6 ≡ got fs end → end ≡ length (image_bytes fs)
  unfolding image_bytes
  image_length n end fs e =
      let l = read_functions_length n 6 end fs e in
      simp (length-append, le_length) (omega arith)

  -- ## Their places: the k-th is where the functions before it end

  pub read_places : (n k at end : ℕ) (fs : List ObjectFunction) → many n (read_function s) at ≡ got fs end → k < n
      → many k (read_function s) at ≡ got (take k fs) (get_or (places at fs) k 0)
  unfolding onto places
  read_places zero k at end fs e h = absurd (omega arith)
  read_places (suc n) zero at end fs e h =
      let f = many_first (read_function s) n at end fs e in
      many_none (read_function s) 0 at refl ∙ ap (λ (l : List ObjectFunction). got (take 0 l) (get_or (places at l) 0 0)) (sym f.all)
  read_places (suc n) (suc k) at end fs e h =
      let f = many_first (read_function s) n at end fs e in
      let p = read_function_length at f.next f.value f.is in
      let i = read_places n k f.next end f.others f.then (omega arith) in
      many_goes (read_function s) (suc k) k at f.next f.value refl f.is ∙ ap (onto f.value) i ∙
      ap (λ (m : ℕ). got (f.value ∷ take k f.others) (get_or (places m f.others) k 0)) p ∙
      ap (λ (l : List ObjectFunction). got (take (suc k) l) (get_or (places at l) (suc k) 0)) (sym f.all)
