-- What the program answers, by the length of the tree, and what it writes of that.
use Rattle.std.proofs.Common.{◌≡◌, ◌≢◌, ℕ, ◌<◌, ◌≤◌, List, [], ◌∷◌, ◌++◌, arith, length, length-append, append-nil, take, min, refl, sym, ap, ◌∙◌, subst, None, Some, Result, Ok, Err, OnOk, Bool, true, false, leb}
use borrow.Author.Tests.{le-leb, lt-leb, eq-eqb, ne_eqb, leb-true, leb-false}
use Rattle.std.specs.declared.option.Option.{Option}
use Rattle.std.specs.Fmt.{decimal}
use Rattle.std.specs.Io.KnownBytes.{Appends, Consumes, IsAtEnd}
use Rattle.rules.specs.declared.Answer.{Answer}
use Rattle.rules.specs.declared.Refusal.TheVariants.{TreeTooLong}
use Rattle.rules.specs.Answer.{refusal}
use Rattle.rules.specs.Entry.{Lent, compile}
use Rattle.program.specs.Program.{most, program_answer, Answered, shown, written, Wrote}

module _ (tree : List ℕ) (lent : Lent) where
  pub long : most < length tree → program_answer tree lent ≡ refusal TreeTooLong
  unfolding program_answer
  long h = rw (lt-leb _ _ h)

  pub short : length tree ≤ most → program_answer tree lent ≡ (compile tree lent).answer
  unfolding program_answer
  short h = rw (le-leb _ _ h)

module _ (a : Answer) (o : List ℕ) where
  pub shown_number : a.number ≢ 0 → shown a o ≡ decimal a.number ++ (10 ∷ [])
  unfolding shown
  shown_number h = rw (ne_eqb a.number 0 h)

  pub shown_image : a.number ≡ 0 → shown a o ≡ take (min a.length (length o)) o
  unfolding shown
  shown_image h = rw (eq-eqb a.number 0 h)

-- a refusal is written the same whatever the output has
too_long_number : (refusal TreeTooLong).number ≢ 0
unfolding refusal
too_long_number e = omega arith

shown_long : (o p : List ℕ) → shown (refusal TreeTooLong) o ≡ shown (refusal TreeTooLong) p
shown_long o p = shown_number _ o too_long_number ∙ sym (shown_number _ p too_long_number)

module _ (lent : Lent) (a : Answer) (o : List ℕ) where
  -- all that there is was read
  whole : (tree : List ℕ) → length tree ≤ most → Answered tree lent a o → shown a o ≡ written tree lent
  unfolding written
  whole tree h answered = ap (λ x. shown x o) answered.0 ∙ ap (shown (program_answer tree lent)) (answered.1 h)

  -- more than the longest tree was read, of whatever follows it
  front : (tree rest : List ℕ) → most < length tree → Answered tree lent a o → shown a o ≡ written (tree ++ rest) lent
  unfolding written
  front tree rest h answered =
      let more : most < length (tree ++ rest) = omega (arith, h, length-append tree rest) in
      ap (λ x. shown x o) (answered.0 ∙ long tree lent h) ∙ shown_long o _ ∙ ap (λ x. shown x (compile (tree ++ rest) lent).output) (sym (long (tree ++ rest) lent more))

  -- `tree` is what was read: all of it, where it is not too long
  pub wrote : (input left before after : Option (List ℕ)) (tree : List ℕ) → Consumes input left tree → (length tree ≤ most → IsAtEnd left) →
      Answered tree lent a o → Appends before after (shown a o) → Wrote input lent before after
  wrote None left before after tree read end answered appended = tt
  wrote (Some xs) None before after tree read end answered appended = absurd read
  wrote (Some xs) (Some ys) before after tree read end answered appended = subst (Appends before after) (by_length (leb (length tree) most) refl) appended
    where
      by_length : (b : Bool) → leb (length tree) most ≡ b → shown a o ≡ written xs lent
      by_length true e = let h = leb-true (length tree) most e in whole tree h answered ∙ ap (λ t. written t lent) (sym (read ∙ ap (λ l. tree ++ l) (end h) ∙ append-nil tree))
      by_length false e = front tree ys (leb-false (length tree) most e) answered ∙ ap (λ t. written t lent) (sym read)

pub on_ok : {A E : Type 0} (r : Result A E) (P Q : Type 0) → (P → Q) → OnOk r P → OnOk r Q
on_ok (Ok x) P Q f p = f p
on_ok (Err e) P Q f p = p
