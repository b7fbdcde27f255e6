-- The option: what a call that asks for a directory has in common with the same call that does not. The bytes before `DX` are the image without it, the
-- lengths of 0 and 31 grow by the directory's, and every other refusal stays. For all limits, trees and lent sizes.
use mathlib.Core.Path.{◌≡◌, refl, sym, ap, ◌∙◌}
use mathlib.Core.Logic.{◌≢◌}
use mathlib.Core.Bool.{Bool, true, false}
use mathlib.Core.List.{List, ◌++◌, append_assoc}
use Prim.Native.Nat.{ℕ, ◌+◌, ◌-◌, ◌*◌, ◌≤◌}
use native.Mathlib.Omega.{arith}
use lib.ListN.{length, length-append, replicate, take, drop}
use lib.Seq.{take-append_seam, drop-append_seam}
use lib.Dec.{T, leb, leb→le, le→leb}
use Rattle.rules.specs.Limits.{Limits}
use Rattle.rules.specs.declared.Stopped.{Stopped}
use Rattle.rules.specs.Answer.{refusal, refusal_in}
use Rattle.rules.specs.Chunk.{ObjectFunction}
use Rattle.rules.specs.Image.{image_bytes, directory_bytes, image_with}
use Rattle.rules.specs.Entry as entry
use Rattle.rules.specs.Entry.{Lent, Left, asks_directory, code_limit, Compiled, functions_are, refused, compile_lent, compile_within}
use Rattle.rules_laws.proofs.Checks.{refusal_number, room}
use Rattle.rules_laws.proofs.ImageSizes.{directory_length}

-- the same room, with other options
abbrev pub asking : (options : ℕ) → Lent → Lent
asking options lent =
    record {
      options = options;
      table_words = lent.table_words;
      code_bytes = lent.code_bytes;
      span_words = lent.span_words;
      output_bytes = lent.output_bytes;
    }

-- ## An image in a room

module _ (lent : Lent) (image : List ℕ) where
  -- 0 and 31 have its length
  says : (entry.write_image lent image).answer.length ≡ length image
  unfolding entry.write_image entry.leaves refusal
  says = by_room (leb (length image) lent.output_bytes)
    where
      by_room : (b : Bool) → (room lent image b).answer.length ≡ length image
      by_room true = refl
      by_room false = refl

  fits : length image ≤ lent.output_bytes → entry.write_image lent image ≡ room lent image true
  unfolding entry.write_image
  fits l = by_room (leb (length image) lent.output_bytes) (le→leb (length image) lent.output_bytes l)
    where
      by_room : (b : Bool) → T b → room lent image b ≡ room lent image true
      by_room true t = refl
      by_room false t = absurd t

  fits_only : (entry.write_image lent image).answer.number ≡ 0 → length image ≤ lent.output_bytes
  unfolding entry.write_image entry.leaves refusal
  fits_only e = by_room (leb (length image) lent.output_bytes) refl e
    where
      by_room : (b : Bool) → leb (length image) lent.output_bytes ≡ b → (room lent image b).answer.number ≡ 0 → length image ≤ lent.output_bytes
      by_room true t e = leb→le (length image) lent.output_bytes (rw t tt)
      by_room false t e = absurd (omega arith)

  -- if it is not 0, it is 31
  either : ((entry.write_image lent image).answer.number ≡ 0 → ⊥) → ((entry.write_image lent image).answer.number ≡ 31 → ⊥) → ⊥
  unfolding entry.write_image entry.leaves refusal
  either n n' = by_room (leb (length image) lent.output_bytes) n n'
    where
      by_room : (b : Bool) → ((room lent image b).answer.number ≡ 0 → ⊥) → ((room lent image b).answer.number ≡ 31 → ⊥) → ⊥
      by_room true n n' = n refl
      by_room false n n' = n' refl

-- ## Two calls that differ in their options

-- the room for an image is what it is whatever the options are
same_room : (options : ℕ) (lent : Lent) (image : List ℕ) → entry.write_image lent image ≡ entry.write_image (asking options lent) image
unfolding entry.write_image entry.leaves
same_room options lent image = refl

module _ (limits : Limits) (tree : List ℕ) (lent : Lent) where
  -- and what the tree comes to
  given_so : (options : ℕ) (x : Compiled) → compile_lent limits tree lent ≡ x →
      compile_within limits tree (asking options lent) ≡ entry.write_out (asking options lent) x
  unfolding compile_within compile_lent code_limit
  given_so options x e = ap (entry.write_out (asking options lent)) e

  image_so : (options : ℕ) (fs : List ObjectFunction) → compile_lent limits tree lent ≡ functions_are fs →
      compile_within limits tree (asking options lent) ≡ entry.write_image lent (image_with (asks_directory options) fs)
  unfolding entry.write_out
  image_so options fs e = given_so options (functions_are fs) e ∙ sym (same_room options lent (image_with (asks_directory options) fs))

  refused_so : (options options' : ℕ) (y : Stopped) → compile_lent limits tree lent ≡ refused y →
      compile_within limits tree (asking options lent) ≡ compile_within limits tree (asking options' lent)
  unfolding entry.write_out entry.leaves
  refused_so options options' y e = given_so options (refused y) e ∙ sym (given_so options' (refused y) e)

  never_0 : (options : ℕ) (y : Stopped) → compile_lent limits tree lent ≡ refused y →
      (compile_within limits tree (asking options lent)).answer.number ≡ 0 → ⊥
  unfolding entry.write_out entry.leaves refusal_in
  never_0 options y d e = omega (arith, ap (λ (r : Left). r.answer.number) (given_so options (refused y) d), refusal_number y.what)

  -- of the options one bit counts
  pub one_bit : (options : ℕ) → asks_directory lent.options ≡ asks_directory options →
      compile_within limits tree lent ≡ compile_within limits tree (asking options lent)
  one_bit options e = by_compiled (compile_lent limits tree lent) refl
    where
      by_compiled : (x : Compiled) → compile_lent limits tree lent ≡ x →
          compile_within limits tree lent ≡ compile_within limits tree (asking options lent)
      by_compiled (refused y) d = refused_so lent.options options y d
      by_compiled (functions_are fs) d =
          image_so lent.options fs d ∙ ap (λ (b : Bool). entry.write_image lent (image_with b fs)) e ∙ sym (image_so options fs d)

  -- without the bit all is as with no option
  pub without_directory : asks_directory lent.options ≡ false →
      compile_within limits tree lent ≡ compile_within limits tree (asking 0 lent)
  unfolding asks_directory
  without_directory e = one_bit 0 e

  -- a refusal other than 31 is the same whatever is asked for, and so are all areas
  pub refused_alike : (options : ℕ) → (compile_within limits tree lent).answer.number ≢ 0 → (compile_within limits tree lent).answer.number ≢ 31 →
      compile_within limits tree lent ≡ compile_within limits tree (asking options lent)
  refused_alike options n n' = by_compiled (compile_lent limits tree lent) refl
    where
      by_compiled : (x : Compiled) → compile_lent limits tree lent ≡ x →
          compile_within limits tree lent ≡ compile_within limits tree (asking options lent)
      by_compiled (refused y) d = refused_so lent.options options y d
      by_compiled (functions_are fs) d =
          absurd (either lent (image_with (asks_directory lent.options) fs)
          (λ e. n (ap (λ (r : Left). r.answer.number) (image_so lent.options fs d) ∙ e))
          (λ e. n' (ap (λ (r : Left). r.answer.number) (image_so lent.options fs d) ∙ e)))

  -- ## A directory that is asked for

  -- what the call leaves, and what it leaves where nothing is asked for
  abbrev pub left : Left
  left = compile_within limits tree lent

  abbrev pub plain : Left
  plain = compile_within limits tree (asking 0 lent)

  -- the functions that the tree came to, and what their directory adds to the answer's length, of 0 as of 31
  pub record Adds : Type 0 where
    pub functions : List ObjectFunction
    pub given : compile_lent limits tree lent ≡ functions_are functions
    pub longer : left.answer.length ≡ plain.answer.length + 6 + 4 * length functions

  -- the bytes before `DX` are the image without the option; behind them is the directory and then zeros
  pub record Before : Type 0 where
    pub adds : Adds
    pub accepts : plain.answer.number ≡ 0
    pub same : take plain.answer.length left.output ≡ take plain.answer.length plain.output
    pub behind :
        drop plain.answer.length left.output ≡ directory_bytes adds.functions ++ replicate (lent.output_bytes - left.answer.length) 0

  module _ (asked : asks_directory lent.options ≡ true) where
    module _ (fs : List ObjectFunction) (d : compile_lent limits tree lent ≡ functions_are fs) where
      left_so : left ≡ entry.write_image lent (image_bytes fs ++ directory_bytes fs)
      unfolding image_with
      left_so = image_so lent.options fs d ∙ ap (λ (b : Bool). entry.write_image lent (image_with b fs)) asked

      plain_so : plain ≡ entry.write_image lent (image_bytes fs)
      unfolding image_with asks_directory
      plain_so = image_so 0 fs d

      left_length : left.answer.length ≡ length (image_bytes fs ++ directory_bytes fs)
      left_length = ap (λ (r : Left). r.answer.length) left_so ∙ says lent (image_bytes fs ++ directory_bytes fs)

      plain_length : plain.answer.length ≡ length (image_bytes fs)
      plain_length = ap (λ (r : Left). r.answer.length) plain_so ∙ says lent (image_bytes fs)

      adds_so : Adds
      adds_so =
          record {
            functions = fs;
            given = d;
            longer = omega (arith, left_length, plain_length, length-append (image_bytes fs) (directory_bytes fs), directory_length fs);
          }

      before_so : length (image_bytes fs ++ directory_bytes fs) ≤ lent.output_bytes → Before
      unfolding entry.leaves adds_so
      before_so l =
          record {
            adds = adds_so;
            accepts = ap (λ (r : Left). r.answer.number) plain_is;
            same = rw (plain_length, out, ap (λ (r : Left). r.output) plain_is)
                (take-append_seam (image_bytes fs) _ ∙ sym (take-append_seam (image_bytes fs) _));
            behind = rw (plain_length, left_length, out) (drop-append_seam (image_bytes fs) _);
          }
        where
          plain_is : plain ≡ room lent (image_bytes fs) true
          plain_is = plain_so ∙ fits lent (image_bytes fs) (omega (arith, length-append (image_bytes fs) (directory_bytes fs)))

          zeros : List ℕ
          zeros = replicate (lent.output_bytes - length (image_bytes fs ++ directory_bytes fs)) 0

          out : left.output ≡ image_bytes fs ++ (directory_bytes fs ++ zeros)
          out =
              ap (λ (r : Left). r.output) (left_so ∙ fits lent (image_bytes fs ++ directory_bytes fs) l)
              ∙ append_assoc (image_bytes fs) (directory_bytes fs) zeros

    -- accepted with a directory, a call is accepted without it
    pub before_directory : left.answer.number ≡ 0 → Before
    before_directory e = by_compiled (compile_lent limits tree lent) refl
      where
        by_compiled : (x : Compiled) → compile_lent limits tree lent ≡ x → Before
        by_compiled (refused y) d = absurd (never_0 lent.options y d e)
        by_compiled (functions_are fs) d =
            before_so fs d (fits_only lent (image_bytes fs ++ directory_bytes fs) (sym (ap (λ (r : Left). r.answer.number) (left_so fs d)) ∙ e))

    -- 31 where there is room for all but the directory
    pub full_by_directory : left.answer.number ≡ 31 → plain.answer.number ≡ 0 → Adds
    full_by_directory e e' = by_compiled (compile_lent limits tree lent) refl
      where
        by_compiled : (x : Compiled) → compile_lent limits tree lent ≡ x → Adds
        by_compiled (refused y) d = absurd (never_0 0 y d e')
        by_compiled (functions_are fs) d = adds_so fs d
