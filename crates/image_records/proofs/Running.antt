-- Laws of runs: what one record gives, and what is left of the sum after it.
use mathlib.Core.Path.{◌≡◌, refl, sym, ap, ◌∙◌}
use mathlib.Core.Bool.{Bool, true, false, ◌&&◌}
use mathlib.Core.List.{List, ◌∷◌, []}
use Prim.Native.Nat.{ℕ, ◌+◌, ◌-◌, ◌≤◌, ◌<◌}
use native.Mathlib.Omega.{arith}
use lib.ListN.{length}
use lib.Dec.{leb, eqb}
use borrow.Author.Tests.{le-leb, lt-leb, leb-true, leb-false, eqb-true, eqb-false}
use Rattle.rules.specs.Base.{all}
use Rattle.std.specs.Prelude.{if◌then◌else◌}
use Rattle.rules.specs.declared.Refusal.TheVariants.{ImageRefused}
use Rattle.rules.specs.Reader.{Read, got, bad, go_on, ◌>>=◌, ◌>>◌, return, many}
use Rattle.rules.specs.declared.Span.{Span}
use Rattle.rules.specs.Chunk.{Run, same_span, total}
use Rattle.rules.specs.Division.{run_fits}
use Rattle.rules.specs.Checker.{runs_apart}
use Rattle.rules.specs.ImageFile.{read_run}
use Rattle.fields.specs.Words.{word8, word32, letters, span_of}
use Rattle.fields.proofs.Reading.{a_u8, a_span, mark_is_it, mark_is_not, mark_is_cut}
use Rattle.std.proofs.Common.{Option, Some, None}
use Rattle.image_records.specs.Told.{place_told, runs_after, runs_told}
use Rattle.image_records.proofs.Many.{Fails, fails_bad, gives_at, none_some, onto, left_goes, left_stops, left_none, passed_none}

abbrev pub run_of : (start end count : ℕ) → Run
run_of start end count = record { span = record { start = start; end = end }; count = count }

module _ (s : List ℕ) (at : ℕ) where
  pub run_there : at + 11 ≤ length s → letters s at ≡ 0x5255 → read_run s at ≡ got (run_of (word32 s (at + 2)) (word32 s (at + 6)) (word8 s (at + 10))) (at + 11)
  unfolding read_run ◌>>=◌ ◌>>◌ go_on return span_of
  run_there h e =
      let p6 : at + 2 + 4 ≡ at + 6 = omega arith in
      let p10 : at + 2 + 8 ≡ at + 10 = omega arith in
      let p11 : at + 10 + 1 ≡ at + 11 = omega arith in
      rw (
        mark_is_it s ImageRefused 0x5255 at (omega arith) e,
        (a_span s).whole ImageRefused (at + 2) (omega arith),
        p10,
        (a_u8 s).whole ImageRefused (at + 10) (omega arith),
        p11,
        p6,
      ) refl

  pub run_unmarked : at + 2 ≤ length s → (letters s at ≡ 0x5255 → ⊥) → Fails (read_run s at)
  unfolding read_run ◌>>=◌ ◌>>◌ go_on
  run_unmarked h e = record { fault = ImageRefused; is = rw (mark_is_not s ImageRefused 0x5255 at h e) refl }

  run_cut : length s < at + 2 → Fails (read_run s at)
  unfolding read_run ◌>>=◌ ◌>>◌ go_on
  run_cut h = record { fault = ImageRefused; is = rw (mark_is_cut s ImageRefused 0x5255 at h) refl }

  run_no_span : at + 2 ≤ length s → letters s at ≡ 0x5255 → length s < at + 10 → Fails (read_run s at)
  unfolding read_run ◌>>=◌ ◌>>◌ go_on
  run_no_span h e c =
      record { fault = ImageRefused; is = rw (mark_is_it s ImageRefused 0x5255 at h e, (a_span s).short ImageRefused (at + 2) (omega arith)) refl }

  run_no_count : at + 10 ≤ length s → letters s at ≡ 0x5255 → length s < at + 11 → Fails (read_run s at)
  unfolding read_run ◌>>=◌ ◌>>◌ go_on
  run_no_count h e c =
      let p10 : at + 2 + 8 ≡ at + 10 = omega arith in
      record {
        fault = ImageRefused;
        is =
            rw (
              mark_is_it s ImageRefused 0x5255 at (omega arith) e,
              (a_span s).whole ImageRefused (at + 2) (omega arith),
              p10,
              (a_u8 s).short ImageRefused (at + 10) (omega arith),
            ) refl;
      }

  short_by : (t u v : Bool) → leb (at + 2) (length s) ≡ t → leb (at + 10) (length s) ≡ u → eqb (letters s at) 0x5255 ≡ v → length s < at + 11 → Fails (read_run s at)
  short_by true true true e f g h = run_no_count (leb-true _ _ f) (eqb-true _ _ g) h
  short_by true false true e f g h = run_no_span (leb-true _ _ e) (eqb-true _ _ g) (leb-false _ _ f)
  short_by true u false e f g h = run_unmarked (leb-true _ _ e) (eqb-false _ _ g)
  short_by false u v e f g h = run_cut (leb-false _ _ e)

  pub run_short : length s < at + 11 → Fails (read_run s at)
  run_short h = short_by _ _ _ refl refl refl h

  -- what the place after a run says of it
  pub record Marked (next : ℕ) : Type 0 where
    pub whole : at + 11 ≤ length s
    pub marked : letters s at ≡ 0x5255
    pub on : next ≡ at + 11

  marked_by : (next : ℕ) (t u : Bool) → leb (at + 11) (length s) ≡ t → eqb (letters s at) 0x5255 ≡ u → Some next ≡ place_told (read_run s at) → Marked next
  marked_by next true true e f b =
      let w = leb-true (at + 11) (length s) e in
      let m = eqb-true _ _ f in
      let g = gives_at (run_there w m) in
      let z : Some next ≡ Some (at + 11) = b ∙ sym g in
      record { whole = w; marked = m; on = cc }
  marked_by next true false e f b =
      let w = leb-true (at + 11) (length s) e in
      absurd (none_some (fails_bad (run_unmarked (omega arith) (eqb-false _ _ f)) ∙ sym b))
  marked_by next false u e f b = absurd (none_some (fails_bad (run_short (leb-false _ _ e)) ∙ sym b))

  pub run_marked : (next : ℕ) → Some next ≡ place_told (read_run s at) → Marked next
  run_marked next b = marked_by next _ _ refl refl b

-- ## One run more

abbrev pub may_follow : Run → Run → Bool
may_follow run next = if same_span run.span next.span then eqb run.count 255 else true

both_false : (b c : Bool) → (b && (false && c)) ≡ false
both_false true c = refl
both_false false c = refl

third : (a b c d : Bool) → a ≡ true → c ≡ true → ((if a then b else false) && (c && d)) ≡ (b && d)
third true b true d e f = refl
third true b false d e f = absurd (let z : ◌≡◌ {A = ℕ} 0 1 = cc in omega arith)
third false b c d e f = absurd (let z : ◌≡◌ {A = ℕ} 0 1 = cc in omega arith)

module _ (run next : Run) (sum : ℕ) where
  run_good_on : (r : Read (List Run)) → run_fits next ≡ true → may_follow run next ≡ true
      → runs_after run sum (onto next r) ≡ runs_after next (sum + next.count) r
  unfolding runs_after onto all runs_apart total
  run_good_on (bad fault) e f = refl
  run_good_on (got rs n) e f =
      let p : sum + (next.count + total rs) ≡ sum + next.count + total rs = omega arith in
      rw (third (run_fits next) (all run_fits rs) (may_follow run next) (runs_apart (next ∷ rs)) e f, p) refl

  run_unfit_on : (r : Read (List Run)) → run_fits next ≡ false → None ≡ runs_after run sum (onto next r)
  unfolding runs_after onto all
  run_unfit_on (bad fault) e = refl
  run_unfit_on (got rs n) e = rw e refl

  run_near_on : (r : Read (List Run)) → may_follow run next ≡ false → None ≡ runs_after run sum (onto next r)
  unfolding runs_after onto runs_apart
  run_near_on (bad fault) e = refl
  run_near_on (got rs n) e = rw (e, both_false (all run_fits (next ∷ rs)) (runs_apart (next ∷ rs))) refl

pub fits_one : (run : Run) → 1 ≤ run.count → run.count ≤ 255 → run_fits run ≡ true
unfolding run_fits
fits_one run l h = rw (le-leb _ _ l, le-leb _ _ h) refl

pub fits_none : (run : Run) → run.count ≡ 0 → run_fits run ≡ false
unfolding run_fits
fits_none run e = let l : run.count < 1 = omega arith in rw (lt-leb _ _ l) refl

module _ (s : List ℕ) (n i at : ℕ) (run : Run) (sum : ℕ) where
  abbrev pub left : Option (ℕ × ℕ)
  left = runs_after run sum (many (n - i) (read_run s) at)

  pub runs_stop : i < n → Fails (read_run s at) → None ≡ left
  unfolding runs_after
  runs_stop h f = sym (ap (runs_after run sum) (left_stops (read_run s) n i at h f).is)

  pub runs_done : n ≤ i → Some (sum, at) ≡ left
  unfolding runs_after all runs_apart total
  runs_done h = let p : sum + 0 ≡ sum = omega arith in rw (left_none (read_run s) n i at h, p) refl

  module _ (span : Span) (c next : ℕ) (h : i < n) (b : Some next ≡ place_told (read_run s at))
      (is_span : span ≡ span_of s (at + 2)) (is_c : c ≡ word8 s (at + 10)) where
    abbrev this : Run
    this = record { span = span; count = c }

    goes : many (n - i) (read_run s) at ≡ onto this (many (n - (i + 1)) (read_run s) next)
    unfolding span_of
    goes =
        let m = run_marked s at next b in
        let p6 : at + 2 + 4 ≡ at + 6 = omega arith in
        left_goes (read_run s) n i at next this h (run_there s at m.whole m.marked ∙ rw (m.on, is_span, is_c, p6) refl)

    pub run_zero : c ≡ 0 → None ≡ left
    run_zero z = run_unfit_on run this sum _ (fits_none this z) ∙ sym (ap (runs_after run sum) goes)

    pub run_near : false ≡ may_follow run this → None ≡ left
    run_near f = run_near_on run this sum _ (sym f) ∙ sym (ap (runs_after run sum) goes)

    pub run_on : 1 ≤ c → c < 256 → true ≡ may_follow run this → left ≡ runs_after this (sum + c) (many (n - (i + 1)) (read_run s) next)
    run_on l u f = ap (runs_after run sum) goes ∙ run_good_on run this sum _ (fits_one this l (omega arith)) (sym f)

either_true : (b : Bool) → (if b then true else true) ≡ true
either_true true = refl
either_true false = refl

apart_first : (rs : List Run) (start end : ℕ) → runs_apart (run_of start end 255 ∷ rs) ≡ runs_apart rs
unfolding runs_apart
apart_first [] start end = refl
apart_first (run ∷ rs) start end = rw (either_true (same_span (record { start = start; end = end }) run.span)) refl

told_after : (r : Read (List Run)) → runs_told r ≡ runs_after (run_of 0 0 255) 0 r
unfolding runs_told runs_after
told_after (bad fault) = refl
told_after (got rs n) = let p : 0 + total rs ≡ total rs = omega arith in rw (apart_first rs 0 0, p) refl

pub runs_begin : (s : List ℕ) (n at : ℕ) → runs_told (many n (read_run s) at) ≡ runs_after (run_of 0 0 255) 0 (many (n - 0) (read_run s) at)
runs_begin s n at = told_after (many n (read_run s) at) ∙ ap (runs_after (run_of 0 0 255) 0) (passed_none (read_run s) n at)
