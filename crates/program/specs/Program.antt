-- What the program answers: the compiler's answer, where a tree of more than 65,536 bytes is too long already.
use Rattle.std.specs.Prelude.{◌≡◌, List, [], ◌∷◌, ◌++◌, ℕ, ◌≤◌, length, leb, eqb, min, take, Option, None, Some, ⊤, if◌then◌else◌}
use Rattle.std.specs.Fmt.{decimal}
use Rattle.std.specs.Io.KnownBytes.{Appends}
use Rattle.rules.specs.declared.Answer.{Answer}
use Rattle.rules.specs.declared.Refusal.TheVariants.{TreeTooLong}
use Rattle.rules.specs.Answer.{refusal}
use Rattle.rules.specs.Entry.{Lent, compile}

-- the longest tree that the program takes
abbrev pub most : ℕ
most = 65536

unfoldable pub program_answer : (tree : List ℕ) → Lent → Answer
program_answer tree lent = if leb (length tree) most then (compile tree lent).answer else refusal TreeTooLong

-- the answer; and of a tree that is not too long, what the output then holds is the compiler's, so that the image is its front
abbrev pub Answered : (tree : List ℕ) → Lent → Answer → (output : List ℕ) → Type 0
Answered tree lent answer output = (answer ≡ program_answer tree lent) × (length tree ≤ most → output ≡ (compile tree lent).output)

-- the sizes in src/main.rt, and nothing asked for
abbrev pub areas : Lent
areas = record { options = 0; table_words = 17_412; code_bytes = 65_536; span_words = 196_608; output_bytes = 1_114_112 }

-- what is written of an answer: of a refusal its number and a line end, else the image, which is the front of the output
unfoldable pub shown : Answer → (output : List ℕ) → List ℕ
shown a output = if eqb a.number 0 then take (min a.length (length output)) output else decimal a.number ++ (10 ∷ [])

unfoldable pub written : (tree : List ℕ) → Lent → List ℕ
written tree lent = shown (program_answer tree lent) (compile tree lent).output

-- where the reader tells what it has, the writer gets what is written of that
abbrev pub Wrote : (input : Option (List ℕ)) → Lent → (before after : Option (List ℕ)) → Type 0
Wrote None lent before after = ⊤
Wrote (Some tree) lent before after = Appends before after (written tree lent)
