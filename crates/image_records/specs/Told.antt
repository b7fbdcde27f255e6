-- What the readers of records tell, by what the rules read: a constant as one word, a function's header, where a record ends.
use Rattle.std.specs.Prelude.{Option, Some, None, ◌&&◌, List, ◌∷◌, ℕ, ◌+◌, ◌*◌, length, leb, eqb, if◌then◌else◌}
use Rattle.rules.specs.Base.{all}
use Rattle.rules.specs.Reader.{Read, got, bad}
use Rattle.rules.specs.Chunk.{Constant, CN, CS, CF, Run, total}
use Rattle.rules.specs.Division.{run_fits}
use Rattle.rules.specs.Checker.{runs_apart}
use Rattle.fields.specs.Words.{word16, word32, letters}
use Rattle.image_records.specs.declared.Header.{Header}

-- two constants are equal where their words are: numbers are even, the others odd
unfoldable pub word_of : Constant → ℕ
word_of (CN bits) = 2 * bits
word_of (CS name) = 4 * name + 1
word_of (CF number) = 4 * number + 3

unfoldable pub constant_told : Read Constant → Option (ℕ × ℕ)
constant_told (bad _) = None
constant_told (got value next) = Some (word_of value, next)

-- where what was read ends
unfoldable pub place_told : {A : Type 0} → Read A → Option ℕ
place_told (bad _) = None
place_told (got _ next) = Some next

-- the counts of a function's header, where its bytes are there and open with its mark
unfoldable pub head_at : (image : List ℕ) → (at : ℕ) → Option Header
head_at image at =
    if leb (at + 17) (length image) && eqb (letters image at) 0x464E
    then Some
    (record {
      upvalues = word16 image (at + 5);
      constants = word16 image (at + 7);
      runs = word32 image (at + 9);
      code = word32 image (at + 13);
    })
    else None

-- the runs after a run and a sum of counts: the sum of all, and where they end
unfoldable pub runs_after : Run → (sum : ℕ) → Read (List Run) → Option (ℕ × ℕ)
runs_after run sum (bad _) = None
runs_after run sum (got rs next) = if all run_fits rs && runs_apart (run ∷ rs) then Some (sum + total rs, next) else None

unfoldable pub runs_told : Read (List Run) → Option (ℕ × ℕ)
runs_told (bad _) = None
runs_told (got rs next) = if all run_fits rs && runs_apart rs then Some (total rs, next) else None

-- where a code of `size` bytes begins, behind its mark at `at`, if all of it is there
unfoldable pub code_told : (image : List ℕ) → (size at : ℕ) → Option ℕ
code_told image size at =
    if leb (at + 2) (length image) && (eqb (letters image at) 0x4344 && leb (at + 2 + size) (length image))
    then Some (at + 2)
    else None
