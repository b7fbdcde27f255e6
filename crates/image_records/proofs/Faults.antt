-- What the records of an image are refused with: 40, wherever reading stops.
use mathlib.Core.Path.{◌≡◌, refl, sym, ap, ◌∙◌}
use mathlib.Core.Bool.{Bool, true, false}
use mathlib.Core.Option.{Option, none, some}
use mathlib.Core.List.{List, ◌∷◌, []}
use Prim.Native.Nat.{ℕ, zero, suc, ◌+◌}
use lib.ListN.{length}
use lib.Dec.{leb}
use borrow.Author.Tests.{leb-true, leb-false}
use Rattle.rules.specs.Base.{lookup}
use Rattle.rules.specs.declared.Refusal.{Refusal}
use Rattle.rules.specs.declared.Refusal.TheVariants.{ImageRefused}
use Rattle.rules.specs.Reader.{Read, got, bad, Reader, go_on, ◌>>=◌, ◌>>◌, return, refuse, need, known, one_of, u8, u16, u32, u64, mark, mark_is, span, many}
use Rattle.rules.specs.ImageFile.{ConstantMark, number_mark, string_mark, function_mark, constant_marks}
use Rattle.rules.specs.ImageFile.{constant_fields, read_constant, read_run, read_function}
use Rattle.fields.proofs.Reading.{Field, a_u8, a_u16, a_u32, a_u64, a_mark, a_span, bad_got}

pub record Refuses {A : Type 0} (one : Reader A) : Type 0 where
  pub only : (at : ℕ) (x : Refusal) → one at ≡ bad x → x ≡ ImageRefused

pub refuses_bind : {A B : Type 0} (m : Reader A) (f : A → Reader B) → Refuses m → ((a : A) → Refuses (f a)) → Refuses (m >>= f)
unfolding ◌>>=◌ go_on
refuses_bind {A} m f p q = record { only = λ at x e. by at x (m at) refl e }
  where
    by : (at : ℕ) (x : Refusal) (r : Read A) → m at ≡ r → go_on r f ≡ bad x → x ≡ ImageRefused
    by at x (got a n) g e = (q a).only n x e
    by at x (bad y) g e = let z : y ≡ x = cc in p.only at x (g ∙ ap bad z)

pub refuses_then : {A B : Type 0} (m : Reader A) (n : Reader B) → Refuses m → Refuses n → Refuses (m >> n)
unfolding ◌>>=◌ ◌>>◌
refuses_then m n p q = refuses_bind m (λ _. n) p (λ _. q)

pub refuses_return : {A : Type 0} (a : A) → Refuses (return a)
unfolding return
refuses_return a = record { only = λ at x e. absurd (bad_got (sym e)) }

pub refuses_need : (b : Bool) → Refuses (need b ImageRefused)
unfolding need
refuses_need true = record { only = λ at x e. absurd (bad_got (sym e)) }
refuses_need false = record { only = λ at x e. cc }

pub refuses_known : {A : Type 0} (o : Option A) → Refuses (known ImageRefused o)
unfolding known refuse return
refuses_known none = record { only = λ at x e. cc }
refuses_known (some a) = record { only = λ at x e. absurd (bad_got (sym e)) }

pub refuses_field : {A : Type 0} (s : List ℕ) (field : Refusal → Reader A) (k : ℕ) (value : ℕ → A) → Field s field k value → Refuses (field ImageRefused)
refuses_field s field k value one = record { only = λ at x e. by at x (leb (at + k) (length s)) refl e }
  where
    by : (at : ℕ) (x : Refusal) (t : Bool) → leb (at + k) (length s) ≡ t → field ImageRefused at ≡ bad x → x ≡ ImageRefused
    by at x true h e = absurd (bad_got (sym e ∙ one.whole ImageRefused at (leb-true _ _ h)))
    by at x false h e = let z = sym (one.short ImageRefused at (leb-false _ _ h)) ∙ e in cc

pub refuses_many : {A : Type 0} (one : Reader A) → Refuses one → (n : ℕ) → Refuses (many n one)
unfolding many
refuses_many one p zero = refuses_return []
refuses_many one p (suc n) = refuses_bind _ _ p (λ a. refuses_bind _ _ (refuses_many one p n) (λ rest. refuses_return (a ∷ rest)))

module _ (s : List ℕ) where
  refuses_fields : (m : ConstantMark) → Refuses (constant_fields s m)
  unfolding constant_fields
  refuses_fields number_mark = refuses_bind _ _ (refuses_field s (u64 s) 8 _ (a_u64 s)) (λ b. refuses_then _ _ (refuses_need _) (refuses_return _))
  refuses_fields string_mark = refuses_bind _ _ (refuses_field s (u16 s) 2 _ (a_u16 s)) (λ b. refuses_return _)
  refuses_fields function_mark = refuses_bind _ _ (refuses_field s (u32 s) 4 _ (a_u32 s)) (λ b. refuses_return _)

  refuses_constant : Refuses (read_constant s)
  unfolding read_constant one_of
  refuses_constant =
      refuses_bind _ _ (refuses_bind _ _ (refuses_field s (mark s) 2 _ (a_mark s)) (λ m. refuses_known (lookup m constant_marks))) refuses_fields

  pub refuses_mark : (letters : ℕ) → Refuses (mark_is s ImageRefused letters)
  unfolding mark_is
  refuses_mark letters = refuses_bind _ _ (refuses_field s (mark s) 2 _ (a_mark s)) (λ m. refuses_need _)

  refuses_run : Refuses (read_run s)
  unfolding read_run
  refuses_run =
      refuses_then _ _ (refuses_mark 0x5255)
      (refuses_bind _ _ (refuses_field s (span s) 8 _ (a_span s)) (λ a. refuses_bind _ _ (refuses_field s (u8 s) 1 _ (a_u8 s)) (λ b. refuses_return _)))

  pub refuses_function : Refuses (read_function s)
  unfolding read_function
  refuses_function =
      refuses_then _ _ (refuses_mark 0x464E)
      (refuses_bind _ _ (refuses_field s (u16 s) 2 _ (a_u16 s)) (λ name.
      refuses_bind _ _ (refuses_field s (u8 s) 1 _ (a_u8 s)) (λ arity.
      refuses_bind _ _ (refuses_field s (u16 s) 2 _ (a_u16 s)) (λ upvalues.
      refuses_bind _ _ (refuses_field s (u16 s) 2 _ (a_u16 s)) (λ constants.
      refuses_bind _ _ (refuses_field s (u32 s) 4 _ (a_u32 s)) (λ runs.
      refuses_bind _ _ (refuses_field s (u32 s) 4 _ (a_u32 s)) (λ size.
      refuses_bind _ _ (refuses_many (read_constant s) refuses_constant constants) (λ cs.
      refuses_bind _ _ (refuses_many (read_run s) refuses_run runs) (λ rs.
      refuses_then _ _ (refuses_mark 0x4344)
      (refuses_bind _ _ (refuses_many (u8 s ImageRefused) (refuses_field s (u8 s) 1 _ (a_u8 s)) size) (λ ops. refuses_return _)))))))))))
