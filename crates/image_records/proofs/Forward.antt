-- Readers go forward: what was read ends no earlier than it began.
use mathlib.Core.Path.{◌≡◌, refl, sym, ◌∙◌}
use mathlib.Core.Bool.{Bool, true, false}
use mathlib.Core.Option.{Option, none, some}
use mathlib.Core.List.{List, []}
use Prim.Native.Nat.{ℕ, zero, suc, ◌≤◌}
use native.Mathlib.Omega.{arith}
use Rattle.rules.specs.Base.{lookup}
use Rattle.rules.specs.declared.Refusal.{Refusal}
use Rattle.rules.specs.declared.Refusal.TheVariants.{ImageRefused}
use Rattle.rules.specs.Reader.{Read, got, Reader, ◌>>=◌, ◌>>◌, return, refuse, need, known, one_of, u8, u16, u32, u64, mark, mark_is, span, many}
use Rattle.rules.specs.ImageFile.{ConstantMark, number_mark, string_mark, function_mark, constant_marks, constant_fields, read_constant, read_run}
use Rattle.fields.proofs.Reading.{Field, found, a_u8, a_u16, a_u32, a_u64, a_mark, a_span, bad_got}
use Rattle.image_records.proofs.Many.{many_first, many_none}
use Rattle.image_records.proofs.Records.{then_of}

pub record Forward {A : Type 0} (one : Reader A) : Type 0 where
  pub on : (at next : ℕ) (v : A) → one at ≡ got v next → at ≤ next

pub forward_bind : {A B : Type 0} (m : Reader A) (f : A → Reader B) → Forward m → ((a : A) → Forward (f a)) → Forward (m >>= f)
unfolding ◌>>=◌
forward_bind m f p q =
    record {
      on =
          λ at next v e. (let t = then_of (m at) f v next e in
          let a = p.on at t.next t.value t.is in
          let b = (q t.value).on t.next next v t.rest in
          omega arith);
    }

pub forward_then : {A B : Type 0} (m : Reader A) (n : Reader B) → Forward m → Forward n → Forward (m >> n)
unfolding ◌>>◌
forward_then m n p q =
    record {
      on =
          λ at next v e. (let t = then_of (m at) (λ _. n) v next e in
          let a = p.on at t.next t.value t.is in
          let b = q.on t.next next v t.rest in
          omega arith);
    }

pub forward_return : {A : Type 0} (a : A) → Forward (return a)
unfolding return
forward_return a = record { on = λ at next v e. (let m : at ≡ next = cc in omega arith) }

pub forward_need : (b : Bool) (r : Refusal) → Forward (need b r)
unfolding need
forward_need true r = record { on = λ at next v e. (let m : at ≡ next = cc in omega arith) }
forward_need false r = record { on = λ at next v e. absurd (bad_got e) }

pub forward_known : {A : Type 0} (r : Refusal) (o : Option A) → Forward (known r o)
unfolding known refuse return
forward_known r none = record { on = λ at next v e. absurd (bad_got e) }
forward_known r (some a) = record { on = λ at next v e. (let m : at ≡ next = cc in omega arith) }

pub forward_field : {A : Type 0} (s : List ℕ) (field : Refusal → Reader A) (k : ℕ) (value : ℕ → A) → Field s field k value → (fault : Refusal) → Forward (field fault)
forward_field s field k value one fault = record { on = λ at next v e. (let f = found s one e in omega (arith, f.on)) }

pub forward_many : {A : Type 0} (one : Reader A) → Forward one → (n at next : ℕ) (vs : List A) → many n one at ≡ got vs next → at ≤ next
forward_many one p zero at next vs e = let z : ◌≡◌ {A = Read _} (got [] at) (got vs next) = sym (many_none one 0 at refl) ∙ e in let m : at ≡ next = cc in omega arith
forward_many one p (suc n) at next vs e =
    let f = many_first one n at next vs e in
    let a = p.on at f.next f.value f.is in
    let b = forward_many one p n f.next next f.others f.then in
    omega arith

module _ (s : List ℕ) where
  forward_fields : (m : ConstantMark) → Forward (constant_fields s m)
  unfolding constant_fields
  forward_fields number_mark = forward_bind _ _ (forward_field s (u64 s) 8 _ (a_u64 s) ImageRefused) (λ b. forward_then _ _ (forward_need _ _) (forward_return _))
  forward_fields string_mark = forward_bind _ _ (forward_field s (u16 s) 2 _ (a_u16 s) ImageRefused) (λ b. forward_return _)
  forward_fields function_mark = forward_bind _ _ (forward_field s (u32 s) 4 _ (a_u32 s) ImageRefused) (λ b. forward_return _)

  pub forward_constant : Forward (read_constant s)
  unfolding read_constant one_of
  forward_constant =
      forward_bind _ _ (forward_bind _ _ (forward_field s (mark s) 2 _ (a_mark s) ImageRefused) (λ m. forward_known ImageRefused (lookup m constant_marks))) forward_fields

  pub forward_mark : (letters : ℕ) → Forward (mark_is s ImageRefused letters)
  unfolding mark_is
  forward_mark letters = forward_bind _ _ (forward_field s (mark s) 2 _ (a_mark s) ImageRefused) (λ m. forward_need _ _)

  pub forward_run : Forward (read_run s)
  unfolding read_run
  forward_run =
      forward_then _ _ (forward_mark 0x5255)
      (forward_bind _ _ (forward_field s (span s) 8 _ (a_span s) ImageRefused) (λ a. forward_bind _ _ (forward_field s (u8 s) 1 _ (a_u8 s) ImageRefused) (λ b. forward_return _)))
