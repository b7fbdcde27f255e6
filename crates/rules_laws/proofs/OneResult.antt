-- Two results allowed by one promise are equal: each promise says that its result is what a definition gives, so there is one.
use mathlib.Core.Path.{◌≡◌, sym, ◌∙◌}
use mathlib.Core.List.{List}
use Prim.Native.Nat.{ℕ}
use Rattle.rules.specs.declared.Answer.{Answer}
use Rattle.rules.specs.Chunk.{Run}
use Rattle.rules.specs.Checker.{check, code_of, code_place, code_answer, directory_of, code_through, span_of}
use Rattle.rules.specs.Entry.{Lent, Left, compile}

pub one_result : {A : Type 0} {r r' x : A} → r ≡ x → r' ≡ x → r ≡ r'
one_result e e' = e ∙ sym e'

-- the compiler: the answer and what every lent area then holds
pub one_compiled : (tree : List ℕ) (lent : Lent) (r r' : Left) → r ≡ compile tree lent → r' ≡ compile tree lent → r ≡ r'
one_compiled tree lent r r' e e' = one_result e e'

-- the image checker
pub one_verdict : (image : List ℕ) (r r' : Answer) → r ≡ check image → r' ≡ check image → r ≡ r'
one_verdict image r r' e e' = one_result e e'

-- the lookup of a function's code: its content, its place, its number
pub one_code : (image : List ℕ) (k : ℕ) (r r' : List ℕ) → r ≡ code_of image k → r' ≡ code_of image k → r ≡ r'
one_code image k r r' e e' = one_result e e'

pub one_start : (image : List ℕ) (k : ℕ) (r r' : ℕ) → r ≡ code_place image k → r' ≡ code_place image k → r ≡ r'
one_start image k r r' e e' = one_result e e'

pub one_code_answer : (image : List ℕ) (k : ℕ) (r r' : Answer) → r ≡ code_answer image k → r' ≡ code_answer image k → r ≡ r'
one_code_answer image k r r' e e' = one_result e e'

-- the directory's place, and the lookup through it
pub one_directory : (image : List ℕ) (r r' : Answer) → r ≡ directory_of image → r' ≡ directory_of image → r ≡ r'
one_directory image r r' e e' = one_result e e'

pub one_through : (image : List ℕ) (place k : ℕ) (r r' : Answer) → r ≡ code_through image place k → r' ≡ code_through image place k → r ≡ r'
one_through image place k r r' e e' = one_result e e'

-- the lookup of a byte's span
pub one_span : (runs : List Run) (offset : ℕ) (r r' : Answer) → r ≡ span_of runs offset → r' ≡ span_of runs offset → r ≡ r'
one_span runs offset r r' e e' = one_result e e'
