-- Laws of a directory's entries: each is where the next function stands.
use mathlib.Core.Path.{◌≡◌, refl, sym, ap, ◌∙◌}
use mathlib.Core.Bool.{Bool, true, false}
use mathlib.Core.List.{List, ◌∷◌}
use Prim.Native.Nat.{ℕ, ◌+◌, ◌-◌, ◌≤◌, ◌<◌}
use native.Mathlib.Omega.{arith}
use lib.ListN.{length}
use borrow.Author.Tests.{eq-eqb, ne_eqb}
use Rattle.rules.specs.declared.Refusal.TheVariants.{ImageRefused}
use Rattle.rules.specs.Reader.{Read, got, bad, go_on, ◌>>=◌, ◌>>◌, return, need, many}
use Rattle.rules.specs.Chunk.{ObjectFunction}
use Rattle.rules.specs.Image.{function_bytes, places}
use Rattle.rules.specs.ImageFile.{read_function, read_offsets}
use Rattle.fields.specs.Words.{word32}
use Rattle.fields.proofs.Reading.{a_u32}
use Rattle.std.proofs.Common.{Some, None}
use Rattle.image_records.specs.Told.{place_told}
use Rattle.image_records.proofs.Many.{onto, many_none, many_stops, many_goes, place_bad, place_at}
use Rattle.image_records.proofs.Lengths.{read_function_length}
use Rattle.image_directory.specs.Behind.{ends, offsets_right}

module _ (s : List ℕ) where
  -- ## One entry

  entry_same : (place p : ℕ) (rest : List ℕ) → p + 4 ≤ length s → word32 s p ≡ place → read_offsets s (place ∷ rest) p ≡ read_offsets s rest (p + 4)
  unfolding read_offsets ◌>>=◌ ◌>>◌ go_on need
  entry_same place p rest h e = rw ((a_u32 s).whole ImageRefused p h, eq-eqb _ _ e) refl

  entry_other : (place p : ℕ) (rest : List ℕ) → p + 4 ≤ length s → (word32 s p ≡ place → ⊥) → read_offsets s (place ∷ rest) p ≡ bad ImageRefused
  unfolding read_offsets ◌>>=◌ ◌>>◌ go_on need
  entry_other place p rest h e = rw ((a_u32 s).whole ImageRefused p h, ne_eqb _ _ e) refl

  -- ## The loop: `left` functions from `at` on, whose entries begin at `entry`

  module _ (at entry left : ℕ) where
    abbrev right : Bool
    right = offsets_right s at entry (many left (read_function s) at)

    pub none_left : left ≡ 0 → entry ≡ length s → true ≡ right
    unfolding offsets_right ends places read_offsets return
    none_left z e = rw (many_none (read_function s) left at z, eq-eqb _ _ e) refl

    pub lost : 0 < left → None ≡ place_told (read_function s at) → false ≡ right
    unfolding offsets_right
    lost h b = sym (ap (offsets_right s at entry) (many_stops (read_function s) left (left - 1) at (omega arith) (place_bad _ b)).is)

    module _ (f : ObjectFunction) (next : ℕ) (e : read_function s at ≡ got f next) where
      first_of : 0 < left → many left (read_function s) at ≡ onto f (many (left - 1) (read_function s) next)
      first_of h = many_goes (read_function s) left (left - 1) at next f (omega arith) e

      other_by : (r : Read (List ObjectFunction)) → entry + 4 ≤ length s → (word32 s entry ≡ at → ⊥) → offsets_right s at entry (onto f r) ≡ false
      unfolding offsets_right onto places ends
      other_by (bad fault) h n = refl
      other_by (got fs end) h n = rw (entry_other at entry (places (at + length (function_bytes f)) fs) h n) refl

      same_by : (r : Read (List ObjectFunction)) → entry + 4 ≤ length s → word32 s entry ≡ at
          → offsets_right s at entry (onto f r) ≡ offsets_right s next (entry + 4) r
      unfolding offsets_right onto places
      same_by (bad fault) h n = refl
      same_by (got fs end) h n =
          let p = read_function_length s at next f e in
          rw (entry_same at entry (places (at + length (function_bytes f)) fs) h n, p) refl

    other_read : (r : Read ObjectFunction) → read_function s at ≡ r → 0 < left → entry + 4 ≤ length s → (word32 s entry ≡ at → ⊥) → right ≡ false
    unfolding offsets_right
    other_read (bad fault) e h room n =
        ap (offsets_right s at entry) (many_stops (read_function s) left (left - 1) at (omega arith) (record { fault = fault; is = e })).is
    other_read (got f next) e h room n = ap (offsets_right s at entry) (first_of f next e h) ∙ other_by f next e _ room n

    pub other : 0 < left → entry + 4 ≤ length s → (word32 s entry ≡ at → ⊥) → false ≡ right
    other h room n = sym (other_read (read_function s at) refl h room n)

    pub passed : (next : ℕ) → Some next ≡ place_told (read_function s at) → 0 < left → entry + 4 ≤ length s → word32 s entry ≡ at
        → right ≡ offsets_right s next (entry + 4) (many (left - 1) (read_function s) next)
    passed next b h room n =
        let g = place_at _ next b in
        ap (offsets_right s at entry) (first_of g.value next g.is h) ∙ same_by g.value next g.is _ room n
