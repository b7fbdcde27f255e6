-- Laws of what stands behind the functions: nothing, or their directory.
use mathlib.Core.Path.{◌≡◌, refl, sym, ap, ◌∙◌}
use mathlib.Core.Bool.{Bool, true, false}
use mathlib.Core.List.{List, ◌∷◌, []}
use Prim.Native.Nat.{ℕ, ◌+◌, ◌*◌, ◌≤◌, ◌<◌}
use native.Mathlib.Omega.{arith}
use lib.ListN.{length}
use lib.Dec.{eqb, leb}
use borrow.Author.Tests.{eq-eqb, ne_eqb, leb-true, leb-false, eqb-true, eqb-false}
use Rattle.rules.specs.declared.Refusal.TheVariants.{ImageRefused}
use Rattle.rules.specs.Reader.{Read, got, bad, go_on, ◌>>=◌, ◌>>◌, return, here, need, u32, many}
use Rattle.rules.specs.Chunk.{ObjectFunction}
use Rattle.rules.specs.Image.{places}
use Rattle.rules.specs.ImageFile.{read_function, read_offsets, read_directory, read_behind}
use Rattle.fields.specs.Words.{word32, letters}
use Rattle.fields.proofs.Reading.{found, a_u32, mark_is_it, mark_is_not, mark_is_cut}
use Rattle.std.proofs.Common.{Some}
use Rattle.image_records.specs.Told.{place_told}
use Rattle.image_records.proofs.Many.{Gives, place_at, many_length}
use Rattle.image_records.proofs.Records.{then_of}
use Rattle.image_records.proofs.Lengths.{need_stays, places_length}
use Rattle.image_directory.specs.Behind.{ends, offsets_right, behind_right}

module _ (s : List ℕ) where
  -- ## How long it is

  offsets_end : (ps : List ℕ) (at end : ℕ) (x : Unit) → read_offsets s ps at ≡ got x end → end ≡ at + 4 * length ps
  unfolding read_offsets ◌>>=◌ ◌>>◌ return
  offsets_end [] at end x e = let m : at ≡ end = cc in omega arith
  offsets_end (p ∷ ps) at end x e =
      let t = then_of (u32 s ImageRefused at) _ x end e in
      let n = then_of (need (eqb t.value p) ImageRefused t.next) _ x end t.rest in
      let f = found s (a_u32 s) t.is in
      let m = need_stays (eqb t.value p) ImageRefused t.next n.next n.value n.is in
      omega (arith, f.on, offsets_end ps n.next end x n.rest)

  not_there : (ps : List ℕ) (at : ℕ) (r : Read Unit) → read_offsets s ps at ≡ r → (at + 4 * length ps ≡ length s → ⊥) → ends (length s) r ≡ false
  unfolding ends
  not_there ps at (bad fault) e n = refl
  not_there ps at (got x end) e n = ne_eqb _ _ (λ q. n (sym (offsets_end ps at end x e) ∙ q))

  -- ## Its mark and its count

  module _ (fs : List ObjectFunction) (at : ℕ) where
    cut_mark : length s < at + 2 → read_directory s fs at ≡ bad ImageRefused
    unfolding read_directory ◌>>=◌ ◌>>◌ go_on
    cut_mark h = rw (mark_is_cut s ImageRefused 0x4458 at h) refl

    other_mark : at + 2 ≤ length s → (letters s at ≡ 0x4458 → ⊥) → read_directory s fs at ≡ bad ImageRefused
    unfolding read_directory ◌>>=◌ ◌>>◌ go_on
    other_mark h n = rw (mark_is_not s ImageRefused 0x4458 at h n) refl

    cut_count : at + 2 ≤ length s → length s < at + 6 → letters s at ≡ 0x4458 → read_directory s fs at ≡ bad ImageRefused
    unfolding read_directory ◌>>=◌ ◌>>◌ go_on
    cut_count h l m = rw (mark_is_it s ImageRefused 0x4458 at h m, (a_u32 s).short ImageRefused (at + 2) (omega arith)) refl

    no_room_by : (t u : Bool) → leb (at + 2) (length s) ≡ t → eqb (letters s at) 0x4458 ≡ u → length s < at + 6 → read_directory s fs at ≡ bad ImageRefused
    no_room_by true true e f h = cut_count (leb-true _ _ e) h (eqb-true _ _ f)
    no_room_by true false e f h = other_mark (leb-true _ _ e) (eqb-false _ _ f)
    no_room_by false u e f h = cut_mark (leb-false _ _ e)

    module _ (h : at + 6 ≤ length s) (m : letters s at ≡ 0x4458) where
      other_count : (word32 s (at + 2) ≡ length fs → ⊥) → read_directory s fs at ≡ bad ImageRefused
      unfolding read_directory ◌>>=◌ ◌>>◌ go_on need
      other_count n = rw (mark_is_it s ImageRefused 0x4458 at (omega arith) m, (a_u32 s).whole ImageRefused (at + 2) (omega arith), ne_eqb _ _ n) refl

      same_count : word32 s (at + 2) ≡ length fs → read_directory s fs at ≡ read_offsets s (places 6 fs) (at + 6)
      unfolding read_directory ◌>>=◌ ◌>>◌ go_on need
      same_count e =
          let p : at + 2 + 4 ≡ at + 6 = omega arith in
          rw (mark_is_it s ImageRefused 0x4458 at (omega arith) m, (a_u32 s).whole ImageRefused (at + 2) (omega arith), eq-eqb _ _ e, p) refl

  -- ## Behind `count` functions that end at `at`

  module _ (count at : ℕ) (e : Some at ≡ place_told (many count (read_function s) 6)) where
    abbrev functions : Read (List ObjectFunction)
    functions = many count (read_function s) 6

    abbrev g : Gives functions at
    g = place_at functions at e

    number_of : length g.value ≡ count
    number_of = many_length (read_function s) count 6 at g.value g.is

    pub nothing : at ≡ length s → true ≡ behind_right s functions
    unfolding behind_right read_behind ends here ◌>>=◌ go_on return
    nothing q = rw (g.is, eq-eqb _ _ q) (sym (eq-eqb _ _ q))

    module _ (n : at ≡ length s → ⊥) where
      directory_is : behind_right s functions ≡ ends (length s) (read_directory s g.value at)
      unfolding behind_right read_behind here ◌>>=◌ go_on
      directory_is = ap (behind_right s) g.is ∙ rw (ne_eqb _ _ n) refl

      refused : read_directory s g.value at ≡ bad ImageRefused → false ≡ behind_right s functions
      unfolding ends
      refused b = sym (directory_is ∙ ap (ends (length s)) b)

      no_room : length s < at + 6 → false ≡ behind_right s functions
      no_room h = refused (no_room_by g.value at _ _ refl refl h)

      module _ (h : at + 6 ≤ length s) where
        no_mark : (letters s at ≡ 0x4458 → ⊥) → false ≡ behind_right s functions
        no_mark m = refused (other_mark g.value at (omega arith) m)

        module _ (m : letters s at ≡ 0x4458) (said : ℕ) (is_said : said ≡ word32 s (at + 2)) where
          pub no_count : (said ≡ count → ⊥) → false ≡ behind_right s functions
          no_count c = refused (other_count g.value at h m (λ q. c (is_said ∙ q ∙ number_of)))

          offsets_are : said ≡ count → behind_right s functions ≡ ends (length s) (read_offsets s (places 6 g.value) (at + 6))
          offsets_are c = directory_is ∙ ap (ends (length s)) (same_count g.value at h m (sym is_said ∙ c ∙ sym number_of))

          no_end : said ≡ count → (at + 6 + 4 * said ≡ length s → ⊥) → false ≡ behind_right s functions
          no_end c z =
              let l = places_length 6 g.value in
              sym (offsets_are c ∙ not_there (places 6 g.value) (at + 6) _ refl (λ q. z (omega (arith, number_of))))

          pub by_offsets : said ≡ count → offsets_right s 6 (at + 6) functions ≡ behind_right s functions
          unfolding offsets_right
          by_offsets c = ap (offsets_right s 6 (at + 6)) g.is ∙ sym (offsets_are c)

      -- a mark, a count or an end is not as it should be
      pub no_directory : (at + 6 ≤ length s → letters s at ≡ 0x4458 → at + 6 + 4 * word32 s (at + 2) ≡ length s → ⊥) → false ≡ behind_right s functions
      no_directory z = by _ _ _ refl refl refl
        where
          by : (t u v : Bool) → leb (at + 6) (length s) ≡ t → eqb (letters s at) 0x4458 ≡ u → eqb (word32 s (at + 2)) count ≡ v → false ≡ behind_right s functions
          by true true true e f g =
              let h = leb-true _ _ e in
              let m = eqb-true _ _ f in
              no_end h m (word32 s (at + 2)) refl (eqb-true _ _ g) (z h m)
          by true true false e f g = no_count (leb-true _ _ e) (eqb-true _ _ f) (word32 s (at + 2)) refl (eqb-false _ _ g)
          by true false v e f g = no_mark (leb-true _ _ e) (eqb-false _ _ f)
          by false u v e f g = no_room (leb-false _ _ e)
