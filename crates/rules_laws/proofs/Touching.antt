-- The search for a global: it gives the head of the full list, says no exactly where that list is empty, and counts the instructions up to and including the
-- one found, or all, which is the checker's count. For all images and names.
use mathlib.Core.Path.{◌≡◌, refl, sym, ap, ◌∙◌, subst}
use mathlib.Core.Logic.{◌↔◌, ◌⊎◌, inl, inr}
use mathlib.Core.Bool.{Bool, true, false}
use mathlib.Core.Option.{Option, none, some}
use mathlib.Core.List.{List, ◌∷◌, ◌++◌, []}
use Prim.Native.Nat.{ℕ, suc, ◌+◌}
use native.Mathlib.Omega.{arith}
use lib.ListN.{length, length-append}
use Rattle.std.specs.Prelude.{if◌then◌else◌}
use Rattle.rules.specs.declared.Answer.{Answer}
use Rattle.rules.specs.Answer.{accepted}
use Rattle.rules.specs.Chunk.{Constant, ObjectFunction}
use Rattle.rules.specs.Division.{Instruction, division}
use Rattle.rules.specs.Checker as checker
use Rattle.rules.specs.Checker.{image_of, check}
use Rattle.rules.specs.Touch as touch
use Rattle.rules.specs.Touch.{Standing, touches, full_list, hit}

-- ## Over a list of instructions

-- the one found: those before it name nothing, and it is the head of the full list
pub record Hit (name read : ℕ) (list : List Standing) (answer : Answer) : Type 0 where
  pub before : List Standing
  pub found : Standing
  pub after : List Standing
  pub is : list ≡ before ++ found ∷ after
  pub none_before : full_list name before ≡ []
  pub names_it : touches name found ≡ true
  pub head : full_list name list ≡ (found.function, found.instruction.at) ∷ full_list name after
  pub says : answer ≡ hit (read + length before + 1) found

pub record No (name read : ℕ) (list : List Standing) (answer : Answer) : Type 0 where
  pub empty : full_list name list ≡ []
  pub says : answer ≡ accepted (read + length list)

pub data Searched (name read : ℕ) (list : List Standing) (answer : Answer) : Type 0 where
  hits : Hit name read list answer → Searched name read list answer
  no : No name read list answer → Searched name read list answer

module _ (name : ℕ) where
  pub searched : (read : ℕ) (list : List Standing) → Searched name read list (touch.search name read list)
  unfolding touch.search full_list
  searched read [] = no (record { empty = refl; says = ap accepted (omega arith) })
  searched read (s ∷ rest) = by_test (searched (read + 1) rest) (touches name s) refl
    where
      passed : touches name s ≡ false → Searched name (read + 1) rest (touch.search name (read + 1) rest) →
          Searched name read (s ∷ rest) (touch.search name (read + 1) rest)
      passed e (hits h) =
          hits (record {
            before = s ∷ h.before;
            found = h.found;
            after = h.after;
            is = ap (λ (l : List Standing). s ∷ l) h.is;
            none_before = rw e h.none_before;
            names_it = h.names_it;
            head = rw e h.head;
            says = h.says ∙ ap (λ (n : ℕ). hit n h.found) (omega arith);
          })
      passed e (no h) = no (record { empty = rw e h.empty; says = h.says ∙ ap accepted (omega arith) })

      by_test : Searched name (read + 1) rest (touch.search name (read + 1) rest) → (b : Bool) → touches name s ≡ b →
          Searched name read (s ∷ rest) (if b then hit (read + 1) s else touch.search name (read + 1) rest)
      by_test r true e =
          hits (record {
            before = [];
            found = s;
            after = rest;
            is = refl;
            none_before = refl;
            names_it = e;
            head = rw e refl;
            says = ap (λ (n : ℕ). hit n s) (omega arith);
          })
      by_test r false e = passed e r

-- ## All instructions are those that the checker counts

standing_length : (number : ℕ) (constants : List Constant) (is : List Instruction) → length (touch.standing number constants is) ≡ length is
unfolding touch.standing
standing_length number constants [] = refl
standing_length number constants (i ∷ is) = ap suc (standing_length number constants is)

in_length : (number : ℕ) (f : ObjectFunction) (o : Option (List Instruction)) → length (touch.standing_in number f o) ≡ checker.instructions o
unfolding touch.standing_in checker.instructions
in_length number f none = refl
in_length number f (some is) = standing_length number f.chunk.constants is

pub all_counted : (all_of : List ObjectFunction) (number : ℕ) (fs : List ObjectFunction) →
    length (touch.all_standing all_of number fs) ≡ checker.instruction_count all_of fs
unfolding touch.all_standing checker.instruction_count
all_counted all_of number [] = refl
all_counted all_of number (f ∷ fs) =
    length-append (touch.standing_in number f (division all_of f)) (touch.all_standing all_of (number + 1) fs)
    ∙ rw (in_length number f (division all_of f), all_counted all_of (number + 1) fs) refl

-- ## Of an image

abbrev IsEmpty : List (ℕ × ℕ) → Type 0
IsEmpty [] = Unit {0}
IsEmpty (x ∷ xs) = ⊥

has_head : {x : ℕ × ℕ} {xs : List (ℕ × ℕ)} → x ∷ xs ≡ [] → ⊥
has_head e = subst IsEmpty (sym e) tt

module _ (image : List ℕ) (name : ℕ) (fs : List ObjectFunction) (accepts : image_of image ≡ some fs) where
  abbrev pub places : List (ℕ × ℕ)
  places = full_list name (touch.all_standing fs 0 fs)

  abbrev answer : Answer
  answer = touch.touch image name

  is_search : answer ≡ touch.search name 0 (touch.all_standing fs 0 fs)
  unfolding touch.touch touch.touch_verdict
  is_search = ap (touch.touch_verdict name) accepts

  pub way : Searched name 0 (touch.all_standing fs 0 fs) answer
  way = subst (Searched name 0 (touch.all_standing fs 0 fs)) (sym is_search) (searched name 0 (touch.all_standing fs 0 fs))

  pub record First : Type 0 where
    pub function : ℕ
    pub offset : ℕ
    pub others : List (ℕ × ℕ)
    pub head : places ≡ (function, offset) ∷ others
    pub says : (answer.number ≡ 0) × (answer.at ≡ offset) × (answer.end ≡ offset + 2) × (answer.name ≡ function)

  -- a hit is the head of the full list, and `end` is not 0 then
  pub first_is_head : answer.end ≡ 0 ⊎ First
  first_is_head = by_way way
    where
      by_way : Searched name 0 (touch.all_standing fs 0 fs) answer → answer.end ≡ 0 ⊎ First
      by_way (hits h) =
          inr (record {
            function = h.found.function;
            offset = h.found.instruction.at;
            others = full_list name h.after;
            head = h.head;
            says = rw h.says (refl, refl, refl, refl);
          })
      by_way (no h) = inl (rw h.says refl)

  -- no is said exactly where the list is empty, with the checker's count
  pub no_exactly : (answer.end ≡ 0) ↔ (places ≡ [])
  no_exactly = by_way way
    where
      by_way : Searched name 0 (touch.all_standing fs 0 fs) answer → (answer.end ≡ 0) ↔ (places ≡ [])
      by_way (hits h) =
          (λ e. absurd (omega (arith, e, ap (λ (a : Answer). a.end) h.says)), λ e. absurd (has_head (sym h.head ∙ e)))
      by_way (no h) = (λ e. h.empty, λ e. rw h.says refl)

  pub no_count : places ≡ [] → answer ≡ check image
  unfolding check checker.verdict
  no_count e = by_way way
    where
      by_way : Searched name 0 (touch.all_standing fs 0 fs) answer → answer ≡ checker.verdict (image_of image)
      by_way (hits h) = absurd (has_head (sym h.head ∙ e))
      by_way (no h) = h.says ∙ rw accepts (ap accepted (omega (arith, all_counted fs 0 fs)))
