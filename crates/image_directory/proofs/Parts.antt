-- Laws of what is told of one function's record, and of the directory's entry that leads to it.
use mathlib.Core.Path.{◌≡◌, refl, sym, ap, ◌∙◌}
use mathlib.Core.Bool.{Bool, true, false}
use mathlib.Core.List.{List}
use Prim.Native.Nat.{ℕ, ◌+◌, ◌-◌, ◌*◌, ◌≤◌, ◌<◌}
use native.Mathlib.Omega.{arith}
use lib.ListN.{length}
use lib.Dec.{eqb, leb}
use borrow.Author.Tests.{eq-eqb, ne_eqb, lt-ltb, le-ltb, leb-true, leb-false, eqb-true, eqb-false}
use Rattle.rules.specs.declared.Answer.{Answer}
use Rattle.rules.specs.declared.Refusal.TheVariants.{ImageRefused, NoSuchFunction}
use Rattle.rules.specs.Answer.{refusal}
use Rattle.rules.specs.Reader.{Read, bad, go_on, ◌>>=◌, ◌>>◌, here, need, u8}
use Rattle.rules.specs.Chunk.{ObjectFunction}
use Rattle.rules.specs.ImageFile.{read_function}
use Rattle.rules.specs.Checker.{directory_entry, record_part, entry_part, code_through}
use Rattle.fields.specs.Words.{word32, letters}
use Rattle.fields.proofs.Reading.{a_u32, mark_is_it, mark_is_not, mark_is_cut}
use Rattle.std.proofs.Common.{Some, None}
use Rattle.image_records.specs.declared.Header.{Header}
use Rattle.image_records.specs.Told.{place_told, head_at}
use Rattle.image_records.proofs.Many.{Fails, Gives, place_bad, place_at, many_length}
use Rattle.image_records.proofs.Records.{headed, head_fails, body_of}
use Rattle.image_records.proofs.Lengths.{record_length, read_function_length}
use Rattle.image_records.proofs.Faults.{refuses_function}

module _ (s : List ℕ) where
  -- ## A record

  module _ (at : ℕ) where
    abbrev told : Answer
    told = record_part s (read_function s at)

    none_there : Fails (read_function s at) → refusal ImageRefused ≡ told
    unfolding record_part
    none_there f = ap refusal (sym ((refuses_function s).only at f.fault f.is)) ∙ sym (ap (record_part s) f.is)

    pub headless : None ≡ head_at s at → refusal ImageRefused ≡ told
    headless b = none_there (head_fails s at b)

    pub endless : None ≡ place_told (read_function s at) → refusal ImageRefused ≡ told
    endless b = none_there (place_bad _ b)

    module _ (h : Header) (is-head : Some h ≡ head_at s at) (next : ℕ) (is-next : Some next ≡ place_told (read_function s at)) where
      abbrev g : Gives (read_function s at) next
      g = place_at _ next is-next

      size_is : length g.value.chunk.ops ≡ h.code
      size_is =
          let b = headed s at h is-head in
          let o = body_of s b.name b.arity h.upvalues h.constants h.runs h.code (at + 17) g.value next (sym b.is ∙ g.is) in
          ap (λ (f : ObjectFunction). length f.chunk.ops) o.is ∙ many_length (u8 s ImageRefused) h.code o.start next o.ops o.ops_are

      pub code_before_end : h.code ≤ next
      code_before_end =
          let l = read_function_length s at next g.value g.is in
          let r = record_length g.value in
          omega (arith, size_is)

      pub part_told : (size end : ℕ) → size ≡ h.code → end ≡ next → record { number = 0; at = end - size; end = end; name = 0; length = size; function = 0; around = 0 } ≡ told
      unfolding record_part
      part_told size end p q =
          let r : size ≡ length g.value.chunk.ops = p ∙ sym size_is in
          rw (r, q) (sym (ap (record_part s) g.is))

  -- ## An entry of the directory at a place

  module _ (place k : ℕ) where
    abbrev entry : Read ℕ
    entry = directory_entry s k place

    entry_refused : entry ≡ bad ImageRefused → refusal ImageRefused ≡ code_through s place k
    unfolding code_through entry_part
    entry_refused e = sym (ap (entry_part s) e)

    cut_mark : length s < place + 2 → entry ≡ bad ImageRefused
    unfolding directory_entry ◌>>=◌ ◌>>◌ go_on
    cut_mark h = rw (mark_is_cut s ImageRefused 0x4458 place h) refl

    other_mark : place + 2 ≤ length s → (letters s place ≡ 0x4458 → ⊥) → entry ≡ bad ImageRefused
    unfolding directory_entry ◌>>=◌ ◌>>◌ go_on
    other_mark h n = rw (mark_is_not s ImageRefused 0x4458 place h n) refl

    cut_count : place + 2 ≤ length s → length s < place + 6 → letters s place ≡ 0x4458 → entry ≡ bad ImageRefused
    unfolding directory_entry ◌>>=◌ ◌>>◌ go_on
    cut_count h l m = rw (mark_is_it s ImageRefused 0x4458 place h m, (a_u32 s).short ImageRefused (place + 2) (omega arith)) refl

    no_room_by : (t u : Bool) → leb (place + 2) (length s) ≡ t → eqb (letters s place) 0x4458 ≡ u → length s < place + 6 → entry ≡ bad ImageRefused
    no_room_by true true e f h = cut_count (leb-true _ _ e) h (eqb-true _ _ f)
    no_room_by true false e f h = other_mark (leb-true _ _ e) (eqb-false _ _ f)
    no_room_by false u e f h = cut_mark (leb-false _ _ e)

    no_room : length s < place + 6 → refusal ImageRefused ≡ code_through s place k
    no_room h = entry_refused (no_room_by _ _ refl refl h)

    module _ (h : place + 6 ≤ length s) where
      no_mark : (letters s place ≡ 0x4458 → ⊥) → refusal ImageRefused ≡ code_through s place k
      no_mark n = entry_refused (other_mark (omega arith) n)

      module _ (m : letters s place ≡ 0x4458) (count : ℕ) (is-count : count ≡ word32 s (place + 2)) where
        no_end : (place + 6 + 4 * count ≡ length s → ⊥) → refusal ImageRefused ≡ code_through s place k
        unfolding code_through entry_part directory_entry ◌>>=◌ ◌>>◌ go_on here need
        no_end n =
            let p : place + 2 + 4 ≡ place + 6 = omega arith in
            rw (
              mark_is_it s ImageRefused 0x4458 place (omega arith) m,
              (a_u32 s).whole ImageRefused (place + 2) (omega arith),
              p,
              ← is-count,
              ne_eqb _ _ n,
            ) refl

        module _ (e : place + 6 + 4 * count ≡ length s) where
          pub no_function : count ≤ k → refusal NoSuchFunction ≡ code_through s place k
          unfolding code_through entry_part directory_entry ◌>>=◌ ◌>>◌ go_on here need
          no_function l =
              let p : place + 2 + 4 ≡ place + 6 = omega arith in
              rw (
                mark_is_it s ImageRefused 0x4458 place (omega arith) m,
                (a_u32 s).whole ImageRefused (place + 2) (omega arith),
                p,
                ← is-count,
                eq-eqb _ _ e,
                le-ltb _ _ l,
              ) refl

          pub through : k < count → (offset : ℕ) → offset ≡ word32 s (place + 6 + 4 * k) → record_part s (read_function s offset) ≡ code_through s place k
          unfolding code_through entry_part directory_entry ◌>>=◌ ◌>>◌ go_on here need
          through l offset q =
              let p : place + 2 + 4 ≡ place + 6 = omega arith in
              rw (
                mark_is_it s ImageRefused 0x4458 place (omega arith) m,
                (a_u32 s).whole ImageRefused (place + 2) (omega arith),
                p,
                ← is-count,
                eq-eqb _ _ e,
                lt-ltb _ _ l,
                (a_u32 s).whole ImageRefused (place + 6 + 4 * k) (omega arith),
                q,
              ) refl

    -- a mark, a count or an end is not as it should be
    pub no_directory : (place + 6 ≤ length s → letters s place ≡ 0x4458 → place + 6 + 4 * word32 s (place + 2) ≡ length s → ⊥)
        → refusal ImageRefused ≡ code_through s place k
    no_directory n = by _ _ refl refl
      where
        by : (t u : Bool) → leb (place + 6) (length s) ≡ t → eqb (letters s place) 0x4458 ≡ u → refusal ImageRefused ≡ code_through s place k
        by true true e f = let h = leb-true _ _ e in let m = eqb-true _ _ f in no_end h m (word32 s (place + 2)) refl (n h m)
        by true false e f = no_mark (leb-true _ _ e) (eqb-false _ _ f)
        by false u e f = no_room (leb-false _ _ e)
