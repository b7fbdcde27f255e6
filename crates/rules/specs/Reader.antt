-- Reading bytes: a reader takes the place of the next byte, and gives a value and the place after it, or a refusal. The tree file and the
-- image file are read by these.
use Rattle.std.specs.Prelude.{Bool, true, false, List, [], ◌∷◌, ℕ, zero, suc, ◌+◌, ◌*◌, length, get_or, ltb, eqb, if◌then◌else◌}
use Rattle.std.proofs.Math.Option.{Option, none, some}
use Rattle.rules.specs.Base.{lookup}
use Rattle.rules.specs.declared.Span.{Span}
use Rattle.rules.specs.declared.Refusal.{Refusal}

pub data Read (A : Type 0) : Type 0 where
  got : A → (next : ℕ) → Read A
  bad : Refusal → Read A

abbrev pub Reader : Type 0 → Type 0
Reader A = (at : ℕ) → Read A

unfoldable pub go_on : {A B : Type 0} → Read A → (A → Reader B) → Read B
go_on (got a next) f = f a next
go_on (bad r) f = bad r

infixl 10 ◌>>=◌
unfoldable pub ◌>>=◌ : {A B : Type 0} → Reader A → (A → Reader B) → Reader B
m >>= f = λ at. go_on (m at) f

infixl 10 ◌>>◌
unfoldable pub ◌>>◌ : {A B : Type 0} → Reader A → Reader B → Reader B
m >> n = λ at. go_on (m at) (λ _. n)

unfoldable pub return : {A : Type 0} → A → Reader A
return a at = got a at

unfoldable pub refuse : {A : Type 0} → Refusal → Reader A
refuse r at = bad r

-- the place of the next byte
unfoldable pub here : Reader ℕ
here at = got at at

unfoldable pub need : Bool → Refusal → Reader Unit
need true r at = got tt at
need false r at = bad r

-- what the table has under a number, or the refusal
unfoldable pub known : {A : Type 0} → Refusal → Option A → Reader A
known fault none = refuse fault
known fault (some a) = return a

unfoldable pub one_of : {A : Type 0} → Refusal → List (ℕ × A) → ℕ → Reader A
one_of fault table n = known fault (lookup n table)

-- ## Fields, the lowest byte first. `fault` is what comes back where the bytes end first

module _ (bytes : List ℕ) where
  unfoldable pub u8 : (fault : Refusal) → Reader ℕ
  u8 fault at = if ltb at (length bytes) then got (get_or bytes at 0) (at + 1) else bad fault

  unfoldable pub u16 : (fault : Refusal) → Reader ℕ
  u16 fault = do
    a ← u8 fault
    b ← u8 fault
    return (a + 256 * b)

  unfoldable pub u32 : (fault : Refusal) → Reader ℕ
  u32 fault = do
    a ← u16 fault
    b ← u16 fault
    return (a + 65_536 * b)

  unfoldable pub u64 : (fault : Refusal) → Reader ℕ
  u64 fault = do
    a ← u32 fault
    b ← u32 fault
    return (a + 4_294_967_296 * b)

  -- two letters, the first times 256 plus the second, so that the digits read as the letters do
  unfoldable pub mark : (fault : Refusal) → Reader ℕ
  mark fault = do
    a ← u8 fault
    b ← u8 fault
    return (256 * a + b)

  -- a mark that must be this one
  unfoldable pub mark_is : (fault : Refusal) → (letters : ℕ) → Reader Unit
  mark_is fault letters = do
    m ← mark fault
    need (eqb m letters) fault

  unfoldable pub span : (fault : Refusal) → Reader Span
  span fault = do
    a ← u32 fault
    b ← u32 fault
    return (record { start = a; end = b })

-- as many as `count` in a row, by one reader
unfoldable pub many : {A : Type 0} → (count : ℕ) → Reader A → Reader (List A)
many zero one = return []
many (suc count) one = do
  a ← one
  rest ← many count one
  return (a ∷ rest)
