-- An image with its header, and with its directory where that is asked for: how long it is, and what the output holds.
use mathlib.Core.Path.{◌≡◌, refl, sym, ap, subst, ◌∙◌}
use mathlib.Core.Bool.{Bool, true, false}
use mathlib.Core.List.{List, ◌∷◌, ◌++◌, append-nil, []}
use Prim.Native.Nat.{ℕ, ◌+◌, ◌-◌, ◌*◌, ◌≤◌, ◌<◌}
use native.Mathlib.Omega.{arith}
use lib.ListN.{length, replicate, length-append}
use borrow.Author.Tests.{le-leb, lt-leb}
use Rattle.rules.specs.Base.{le}
use Rattle.std.specs.Prelude.{if◌then◌else◌, Ok, Err}
use Rattle.rules.specs.declared.Stopped.{Stopped}
use Rattle.rules.specs.declared.Refusal.TheVariants.{OutFull}
use Rattle.rules.specs.Answer.{refusal, accepted, outside, refusal_in}
use Rattle.rules.specs.Chunk.{ObjectFunction}
use Rattle.rules.specs.Image.{join, function_bytes, image_bytes, places, directory_bytes, image_with}
use Rattle.rules.specs.Entry.{Lent, asks_directory, leaves, write_image}
use Rattle.writer.specs.Put.{padded, Headed, Records}
use Rattle.writer.proofs.Padding.{whole_padded}
use Rattle.writer_directory.specs.Walk.{Directed}
use Rattle.entry_parts.specs.Ends.{Finished}

-- ## How long

image_long : (functions : List ObjectFunction) → length (image_bytes functions) ≡ 6 + length (join function_bytes functions)
unfolding image_bytes le
image_long functions = omega arith

four_each : (places : List ℕ) → length (join (le 4) places) ≡ 4 * length places
unfolding join le
four_each [] = omega arith
four_each (place ∷ places) = omega (arith, four_each places)

places_long : (at : ℕ) (functions : List ObjectFunction) → length (places at functions) ≡ length functions
unfolding places
places_long at [] = refl
places_long at (f ∷ fs) = omega (arith, places_long (at + length (function_bytes f)) fs)

directory_long : (functions : List ObjectFunction) → length (directory_bytes functions) ≡ 6 + 4 * length functions
unfolding directory_bytes le
directory_long functions = omega (arith, four_each (places 6 functions), places_long 6 functions)

pub with_more : (directory : Bool) (n count : ℕ) → n ≤ (if directory then n + 6 + 4 * count else n)
with_more true n count = omega arith
with_more false n count = omega arith

module _ {out : List ℕ} {n count : ℕ} {functions : List ObjectFunction} (records : Records out n functions) (few : count ≡ length functions) where
  with_long : (directory : Bool) → (if directory then n + 6 + 4 * count else n) ≡ length (image_with directory functions)
  unfolding image_with
  with_long true =
      omega (arith, records.long, image_long functions, directory_long functions, length-append (image_bytes functions) (directory_bytes functions))
  with_long false = omega (arith, records.long, image_long functions)

-- ## What the output holds

-- what stands behind the records
abbrev behind : (directory : Bool) → List ObjectFunction → List ℕ
behind directory functions = if directory then directory_bytes functions else []

with_is : (directory : Bool) (functions : List ObjectFunction)
    → 0x49 ∷ 0x4D ∷ le 4 (length functions) ++ (join function_bytes functions ++ behind directory functions) ≡ image_with directory functions
unfolding image_with image_bytes le
with_is true functions = refl
with_is false functions = ap (λ (l : List ℕ). 0x49 ∷ 0x4D ∷ le 4 (length functions) ++ l) (append-nil (join function_bytes functions))

-- the directory is put, where it is asked for
pub record Behind (directory : Bool) (count n : ℕ) (out out' : List ℕ) : Type 0 where
  pub size : length out' ≡ length out
  pub holds : (functions : List ObjectFunction) → Records out n functions → count ≡ length functions
      → out' ≡ padded (length out) (replicate 6 0 ++ (join function_bytes functions ++ behind directory functions))

pub behind_put : {directory : Bool} {count n : ℕ} {out mid out' : List ℕ} → directory ≡ true → Directed count n out mid → out' ≡ mid
    → Behind directory count n out out'
behind_put {count = count} {n} {out} {mid} {out'} e d q =
    subst (λ (b : Bool). Behind b count n out out') (sym e) (subst (Behind true count n out) (sym q) (record { size = d.size; holds = d.holds }))

pub behind_none : {directory : Bool} {count n : ℕ} {out out' : List ℕ} → directory ≡ false → out' ≡ out → Behind directory count n out out'
behind_none {count = count} {n} {out} {out'} e q =
    subst (λ (b : Bool). Behind b count n out out') (sym e) (subst (Behind false count n out) (sym q) (record {
      size = refl;
      holds = λ fs records few. records.bytes ∙ ap (λ (l : List ℕ). padded (length out) (replicate 6 0 ++ l)) (sym (append-nil (join function_bytes fs)));
    }))

headed_is : {directory : Bool} {count n : ℕ} {out mid out' : List ℕ} {functions : List ObjectFunction} → Records out n functions → count ≡ length functions
    → Behind directory count n out mid → Headed count mid out' → out' ≡ padded (length out) (image_with directory functions)
headed_is {directory} {out = out} {mid} {functions = functions} records few d h =
    let all : List ℕ = join function_bytes functions ++ behind directory functions in
    h.holds all (d.holds functions records few ∙ ap (λ (k : ℕ). padded k (replicate 6 0 ++ all)) (sym d.size))
    ∙ ap (λ (k : ℕ). padded (length mid) (0x49 ∷ 0x4D ∷ le 4 k ++ all)) few ∙ ap (padded (length mid)) (with_is directory functions)
    ∙ ap (λ (k : ℕ). padded k (image_with directory functions)) d.size

-- ## Where there is room for it, and where there is none

module _ (lent : Lent) (image : List ℕ) where
  fits : length image ≤ lent.output_bytes
      → write_image lent image ≡ leaves lent (accepted (length image)) (image ++ replicate (lent.output_bytes - length image) 0)
  unfolding write_image
  fits h = rw (le-leb _ _ h)

  lacks : lent.output_bytes < length image → write_image lent image ≡ leaves lent (refusal (OutFull (length image))) (replicate lent.output_bytes 0)
  unfolding write_image
  lacks h = rw (lt-leb _ _ h)

abbrev wanted : (options : ℕ) → List ObjectFunction → List ℕ
wanted options functions = image_with (asks_directory options) functions

module _ (options count n : ℕ) {whole : ℕ} {directory : Bool} {out : List ℕ} (asked : directory ≡ asks_directory options)
    (long : whole ≡ (if directory then n + 6 + 4 * count else n)) where
  long_is : {functions : List ObjectFunction} → Records out n functions → count ≡ length functions → whole ≡ length (wanted options functions)
  long_is {functions} records few = long ∙ with_long records few directory ∙ ap (λ (d : Bool). length (image_with d functions)) asked

  pub finished_full : {x : Stopped} → x ≡ outside (OutFull whole) → length out < whole → Finished options count n out out (Err x)
  unfolding refusal refusal_in
  finished_full q h = record {
    size = refl;
    is = λ fs records few lent o.
        let l = long_is records few in
        lacks lent (wanted options fs) (omega arith) ∙ ap (λ (k : ℕ). leaves lent (refusal (OutFull k)) (replicate lent.output_bytes 0)) (sym l)
        ∙ ap (λ (k : ℕ). leaves lent (refusal (OutFull whole)) (replicate k 0)) o
        ∙ ap (λ (x : Stopped). leaves lent (refusal_in x) (replicate (length out) 0)) (sym q);
  }

  pub finished_whole : {mid out' : List ℕ} → whole ≤ length out → Behind directory count n out mid → Headed count mid out'
      → Finished options count n out out' (Ok whole)
  finished_whole h d head = record {
    size = head.size ∙ d.size;
    is = λ fs records few lent o.
        let l = long_is records few in
        let image = wanted options fs in
        fits lent image (omega arith) ∙ ap (λ (k : ℕ). leaves lent (accepted k) (image ++ replicate (lent.output_bytes - length image) 0)) (sym l)
        ∙ ap (λ (k : ℕ). leaves lent (accepted whole) (image ++ replicate (k - length image) 0)) o
        ∙ ap (leaves lent (accepted whole))
        (sym (headed_is records few d head ∙ ap (λ (b : Bool). padded (length out) (image_with b fs)) asked ∙ whole_padded (length out) image (omega arith)));
  }
