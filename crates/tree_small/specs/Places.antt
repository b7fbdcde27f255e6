-- Where a reader of the rules gets to: what it read is left out, and the place after it stays, or the refusal.
use Rattle.std.proofs.Math.Option as math
use Rattle.std.proofs.Math.Option.{none, some}
use Rattle.std.specs.Prelude.{Option, Some, None, Result, Ok, Err, List, ◌≡◌, ℕ, zero, suc, ◌+◌, ◌≤◌, ◌<◌, ltb, leb, length, if◌then◌else◌}
use Rattle.rules.specs.Base.{lookup}
use Rattle.rules.specs.declared.Refusal.{Refusal}
use Rattle.rules.specs.Reader.{Read, got, bad, Reader, return, need, u8, ◌>>=◌, ◌>>◌}
use Rattle.fields.specs.Words.{letters}

unfoldable pub place : {A : Type 0} → Read A → Result ℕ Refusal
place (got _ next) = Ok next
place (bad r) = Err r

-- one after the other
unfoldable pub and_then : Result ℕ Refusal → (ℕ → Result ℕ Refusal) → Result ℕ Refusal
and_then (Ok next) f = f next
and_then (Err r) f = Err r

-- `count` of a kind in a row
unfoldable pub row : (ℕ → Result ℕ Refusal) → (count at : ℕ) → Result ℕ Refusal
row one zero at = Ok at
row one (suc count) at = and_then (one at) (row one count)

-- a byte below `most`
unfoldable pub below : (tree : List ℕ) → (most : ℕ) → (fault : Refusal) → Reader ℕ
below tree most fault = do
  n ← u8 tree fault
  need (ltb n most) fault
  return n

-- what an answer tells of the field at `at`, which the rules read by `field`, has `size` bytes and is below `most`
pub record Tells (tree : List ℕ) (field : Refusal → Reader ℕ) (size most at : ℕ) (answer : Option ℕ) : Type 0 where
  pub no : answer ≡ None → (fault : Refusal) → field fault at ≡ bad fault
  pub is : (n : ℕ) → answer ≡ Some n → (fault : Refusal) → field fault at ≡ got n (at + size)
  pub bound : (n : ℕ) → answer ≡ Some n → at + size ≤ length tree
  pub small : (n : ℕ) → answer ≡ Some n → n < most

-- the letters of a mark that the table has, and none for any other
unfoldable pub kept : {A : Type 0} → math.Option A → ℕ → Option ℕ
kept none mark = None
kept (some _) mark = Some mark

unfoldable pub known_mark : {A : Type 0} → List (ℕ × A) → (tree : List ℕ) → (at : ℕ) → Option ℕ
known_mark table tree at =
    if leb (at + 2) (length tree) then kept (lookup (letters tree at) table) (letters tree at) else None
