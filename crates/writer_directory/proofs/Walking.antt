-- The loop that puts the places: the functions that are left stand ahead, and of the directory what is left is still to be put.
use mathlib.Core.Path.{◌≡◌, refl, sym, ap, ap₂, ◌∙◌, subst}
use mathlib.Core.List.{List, ◌∷◌, ◌++◌, append_assoc, append-nil, []}
use Prim.Native.Nat.{ℕ, ◌+◌, ◌-◌, ◌≤◌, ◌<◌}
use native.Mathlib.Omega.{arith}
use lib.ListN.{length, drop, replicate, length-append}
use lib.Seq.{drop_at}
use Rattle.rules.specs.Base.{le}
use Rattle.rules.specs.Chunk.{ObjectFunction}
use Rattle.rules.specs.Image.{join, function_bytes, places, directory_bytes}
use Rattle.writer.specs.Put.{padded, Put, Counted, AllCounted, Records}
use Rattle.writer_bytes.proofs.Padding.{whole_padded, put_then}
use Rattle.writer_directory.specs.Walk.{record_end, Directed}
use Rattle.writer_directory.proofs.Records.{Stands, record_ends}

join_both : {A : Type 0} (f : A → List ℕ) (xs ys : List A) → join f (xs ++ ys) ≡ join f xs ++ join f ys
unfolding join
join_both f [] ys = refl
join_both f (x ∷ xs) ys = ap (λ (l : List ℕ). f x ++ l) (join_both f xs ys) ∙ sym (append_assoc (f x) (join f xs) (join f ys))

counted_there : (passed : List ObjectFunction) (f : ObjectFunction) (fs : List ObjectFunction) → AllCounted (passed ++ (f ∷ fs)) → Counted f
counted_there [] f fs h = h.0
counted_there (g ∷ passed) f fs h = counted_there passed f fs h.1

regroup : (a b c d e z : List ℕ) → ((a ++ (b ++ (c ++ d))) ++ e) ++ z ≡ (a ++ b) ++ (c ++ (d ++ (e ++ z)))
regroup a b c d e z = simp append_assoc

none : {A : Type 0} (xs : List A) → length xs ≡ 0 → xs ≡ []
none [] e = refl
none (x ∷ xs) e = absurd (omega arith)

-- six bytes for the header, and the records
abbrev pub held : List ObjectFunction → List ℕ
held functions = replicate 6 0 ++ join function_bytes functions

-- the walk over these functions has come to `at`, with so many of them left
pub record Walking (functions : List ObjectFunction) (out : List ℕ) (next at left : ℕ) : Type 0 where
  pub passed : List ObjectFunction
  pub ahead : List ObjectFunction
  pub are : functions ≡ passed ++ ahead
  pub place : at ≡ length (held passed)
  pub many : left ≡ length ahead
  pub done : List ℕ
  pub is : directory_bytes functions ≡ done ++ join (le 4) (places at ahead)
  pub holds : out ≡ padded (length out) (held functions ++ done)
  pub behind : length (held functions ++ done) ≡ next

pub walk_same : {functions : List ObjectFunction} {out : List ℕ} {next at left some : ℕ} → some ≡ left → Walking functions out next at left → Walking functions out next at some
walk_same {functions} {out} {next} {at} e w = subst (Walking functions out next at) (sym e) w

-- what is put behind the walk's last place
put_on : (bs : List ℕ) {more out out' : List ℕ} {at next : ℕ} → out ≡ padded (length out) bs → length bs ≡ at → Put out out' at more next
    → (out' ≡ padded (length out') (bs ++ more)) × (length (bs ++ more) ≡ next)
put_on bs {more} e l p = (p.holds bs l e ∙ ap (λ (k : ℕ). padded k (bs ++ more)) (sym p.size), omega (arith, length-append bs more, p.next))

-- ## Before the loop

module _ {functions : List ObjectFunction} {out mid out' : List ℕ} {n m next count : ℕ} (records : Records out n functions) (few : count ≡ length functions)
    (p : Put out mid n (0x44 ∷ 0x58 ∷ []) m) (q : Put mid out' m (le 4 count) next) where
  walk_start : {start : ℕ} → start ≡ 6 → Walking functions out' next start count
  unfolding directory_bytes join
  walk_start begin =
      let put = put_on (held functions) {more = (0x44 ∷ 0x58 ∷ []) ++ le 4 count} records.bytes (omega (arith, records.long)) (put_then p q) in
      record {
        passed = [];
        ahead = functions;
        are = refl;
        place = begin;
        many = few;
        done = (0x44 ∷ 0x58 ∷ []) ++ le 4 count;
        is = ap₂ (λ (k at : ℕ). ((0x44 ∷ 0x58 ∷ []) ++ le 4 k) ++ join (le 4) (places at functions)) (sym few) (sym begin);
        holds = put.0;
        behind = put.1;
      }

-- ## In it

module _ {functions : List ObjectFunction} (counted : AllCounted functions) where
  -- the next function's record
  module _ (passed : List ObjectFunction) (f : ObjectFunction) (fs : List ObjectFunction) (e : functions ≡ passed ++ (f ∷ fs)) where
    held_is : held functions ≡ replicate 6 0 ++ (join function_bytes passed ++ (function_bytes f ++ join function_bytes fs))
    unfolding join
    held_is = ap (λ (l : List ℕ). replicate 6 0 ++ l) (ap (join function_bytes) e ∙ join_both function_bytes passed (f ∷ fs))

    stands : (more : List ℕ) {out : List ℕ} {at : ℕ} → at ≡ length (held passed) → out ≡ padded (length out) (held functions ++ more)
        → length (held functions ++ more) ≤ length out → Stands out at (function_bytes f)
    stands more {out} {at} h p room =
        let zeros : List ℕ = replicate (length out - length (held functions ++ more)) 0 in
        let behind : List ℕ = join function_bytes fs ++ (more ++ zeros) in
        let cut : out ≡ held passed ++ (function_bytes f ++ behind) =
        p ∙ whole_padded (length out) (held functions ++ more) room ∙ ap (λ (l : List ℕ). (l ++ more) ++ zeros) held_is
        ∙ regroup (replicate 6 0) (join function_bytes passed) (function_bytes f) (join function_bytes fs) more zeros in
        record { rest = behind; is = ap (drop at) cut ∙ drop_at (held passed) (function_bytes f ++ behind) at (sym h) }

    on_record : (more : List ℕ) {out : List ℕ} {at : ℕ} → at ≡ length (held passed) → out ≡ padded (length out) (held functions ++ more)
        → length (held functions ++ more) ≤ length out → record_end out at ≡ at + length (function_bytes f)
    on_record more h p room = record_ends f (counted_there passed f fs (subst AllCounted e counted)) (stands more h p room)

    held_more : length (held (passed ++ (f ∷ []))) ≡ length (held passed) + length (function_bytes f)
    unfolding join
    held_more =
        omega (
          arith,
          ap length (join_both function_bytes passed (f ∷ [])),
          length-append (join function_bytes passed) (join function_bytes (f ∷ [])),
          length-append (function_bytes f) [],
        )

  module _ {out out' : List ℕ} {m next at left : ℕ} (w : Walking functions out m at left) (some : 0 < left) (p : Put out out' m (le 4 at) next)
      (room : next ≤ length out') where
    step : (ahead : List ObjectFunction) → w.ahead ≡ ahead → Walking functions out' next (record_end out' at) (left - 1)
    unfolding join places
    step [] e = absurd (omega (arith, w.many, ap length e))
    step (f ∷ fs) e =
        let put = put_on (held functions ++ w.done) w.holds w.behind p in
        let same = append_assoc (held functions) w.done (le 4 at) in
        let holds : out' ≡ padded (length out') (held functions ++ (w.done ++ le 4 at)) = put.0 ∙ ap (padded (length out')) same in
        let behind : length (held functions ++ (w.done ++ le 4 at)) ≡ next = ap length (sym same) ∙ put.1 in
        let are : functions ≡ w.passed ++ (f ∷ fs) = w.are ∙ ap (λ (l : List ObjectFunction). w.passed ++ l) e in
        let on = on_record w.passed f fs are (w.done ++ le 4 at) w.place holds (omega arith) in
        record {
          passed = w.passed ++ (f ∷ []);
          ahead = fs;
          are = are ∙ sym (append_assoc w.passed (f ∷ []) fs);
          place = omega (arith, on, w.place, held_more w.passed f fs are);
          many = omega (arith, w.many, ap length e);
          done = w.done ++ le 4 at;
          is = w.is ∙ ap (λ (l : List ObjectFunction). w.done ++ join (le 4) (places at l)) e
              ∙ sym (append_assoc w.done (le 4 at) (join (le 4) (places (at + length (function_bytes f)) fs)))
              ∙ ap (λ (k : ℕ). (w.done ++ le 4 at) ++ join (le 4) (places k fs)) (sym on);
          holds = holds;
          behind = behind;
        }

  pub walk_step : {out out' : List ℕ} {m next at on left fewer : ℕ} → Walking functions out m at left → 0 < left
      → Put out out' m (le 4 at) next → next ≤ length out' → on ≡ record_end out' at → fewer ≡ left - 1 → Walking functions out' next on fewer
  walk_step {out} {out'} {m} {next} {left = left} w some p room e f =
      walk_same f (subst (λ (k : ℕ). Walking functions out' next k (left - 1)) (sym e) (step w some p room w.ahead refl))

-- ## After it

walk_end : {functions : List ObjectFunction} {out : List ℕ} {next at left : ℕ} → left ≡ 0 → Walking functions out next at left
    → out ≡ padded (length out) (replicate 6 0 ++ (join function_bytes functions ++ directory_bytes functions))
unfolding join places
walk_end {functions} {out} {at = at} z w =
    let whole : directory_bytes functions ≡ w.done =
    w.is ∙ ap (λ (l : List ObjectFunction). w.done ++ join (le 4) (places at l)) (none w.ahead (sym w.many ∙ z)) ∙ append-nil w.done in
    w.holds ∙ ap (λ (l : List ℕ). padded (length out) (held functions ++ l)) (sym whole)
    ∙ ap (padded (length out)) (append_assoc (replicate 6 0) (join function_bytes functions) (directory_bytes functions))

pub directed : {count n m first start next at left : ℕ} {out mid out₀ out' : List ℕ} → Put out mid n (0x44 ∷ 0x58 ∷ []) m
    → Put mid out₀ m (le 4 count) first → length out' ≡ length out → left ≡ 0
    → ((fs : List ObjectFunction) → AllCounted fs → Walking fs out₀ first start count → Walking fs out' next at left) → start ≡ 6 → Directed count n out out'
directed p q size z walk begin = record {
  size = size;
  holds = λ fs records few.
      walk_end z (walk fs records.counted (walk_start records few p q begin))
      ∙ ap (λ (k : ℕ). padded k (replicate 6 0 ++ (join function_bytes fs ++ directory_bytes fs))) size;
}
