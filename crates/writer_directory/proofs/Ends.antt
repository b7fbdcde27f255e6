-- Where the walk goes on, by what stands at a place.
use mathlib.Core.Path.{◌≡◌, refl, ap}
use mathlib.Core.Bool.{Bool, true, false}
use mathlib.Core.List.{List}
use Prim.Native.Nat.{ℕ, zero, suc, ◌+◌, ◌-◌, ◌*◌, ◌≤◌, ◌<◌}
use native.Mathlib.Omega.{arith}
use lib.ListN.{length}
use lib.Dec.{leb, eqb}
use borrow.Author.Tests.{leb-true, eq-eqb, ne_eqb, le-leb, lt-leb}
use Rattle.std.specs.Prelude.{if◌then◌else◌}
use Rattle.fields.specs.Words.{word16, word32, letters}
use Rattle.writer_directory.specs.Walk.{constant_size, constant_end, constants_end, record_end}

module _ (s : List ℕ) (at : ℕ) where
  -- ## A constant

  pub constant_cut : length s < at + 2 → at ≡ constant_end s at
  unfolding constant_end
  constant_cut h = rw (lt-leb _ _ h)

  pub constant_there : at + 2 ≤ length s → at + constant_size (letters s at) ≡ constant_end s at
  unfolding constant_end
  constant_there h = rw (le-leb _ _ h)

  -- ## A function's record

  pub record_cut : length s < at + 17 → at ≡ record_end s at
  unfolding record_end
  record_cut h = rw (lt-leb _ _ h)

  pub record_there : at + 17 ≤ length s → constants_end s (word16 s (at + 7)) (at + 17) + 11 * word32 s (at + 9) + (2 + word32 s (at + 13)) ≡ record_end s at
  unfolding record_end
  record_there h = rw (le-leb _ _ h)

pub number_size : (mark : ℕ) → mark ≡ 0x434E → 10 ≡ constant_size mark
unfolding constant_size
number_size mark e = rw (eq-eqb _ _ e)

pub string_size : (mark : ℕ) → (mark ≡ 0x434E → ⊥) → mark ≡ 0x4353 → 4 ≡ constant_size mark
unfolding constant_size
string_size mark n e = rw (ne_eqb _ _ n, eq-eqb _ _ e)

pub function_size : (mark : ℕ) → (mark ≡ 0x434E → ⊥) → (mark ≡ 0x4353 → ⊥) → 6 ≡ constant_size mark
unfolding constant_size
function_size mark n m = rw (ne_eqb _ _ n, ne_eqb _ _ m)

-- ## Constants

module _ (s : List ℕ) where
  pub constants_more : (left fewer at : ℕ) → 0 < left → fewer ≡ left - 1 → constants_end s left at ≡ constants_end s fewer (constant_end s at)
  unfolding constants_end
  constants_more zero fewer at h e = absurd (omega arith)
  constants_more (suc left) fewer at h e = let z : left ≡ fewer = omega (arith, e) in ap (λ (k : ℕ). constants_end s k (constant_end s at)) z

  pub constants_none : (left at : ℕ) → left ≡ 0 → at ≡ constants_end s left at
  unfolding constants_end
  constants_none left at e = rw e

  size_most : (mark : ℕ) → constant_size mark ≤ 10
  unfolding constant_size
  size_most mark = by (eqb mark 0x434E) (eqb mark 0x4353)
    where
      by : (a b : Bool) → (if a then 10 else if b then 4 else 6) ≤ 10
      by true b = omega arith
      by false true = omega arith
      by false false = omega arith

  -- none is passed that does not begin in the bytes
  constant_near : (at : ℕ) → at ≤ length s + 8 → constant_end s at ≤ length s + 8
  unfolding constant_end
  constant_near at h = by (leb (at + 2) (length s)) refl
    where
      by : (b : Bool) → leb (at + 2) (length s) ≡ b → (if b then at + constant_size (letters s at) else at) ≤ length s + 8
      by true e = let l : at + 2 ≤ length s = leb-true _ _ e in omega (arith, size_most (letters s at))
      by false e = h

  pub constants_near : (left at : ℕ) → at ≤ length s + 8 → constants_end s left at ≤ length s + 8
  unfolding constants_end
  constants_near zero at h = h
  constants_near (suc left) at h = constants_near left (constant_end s at) (constant_near at h)
