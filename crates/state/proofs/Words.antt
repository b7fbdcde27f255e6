-- Laws of single words and of lists without entries.
use mathlib.Core.List.{[]}
use mathlib.Core.Path.{◌≡◌, refl, ap}
use mathlib.Core.Bool.{Bool, true, false, ◌&&◌}
use Prim.Native.Nat.{ℕ, ◌+◌, ◌-◌, ◌^◌, ◌≤◌, ◌<◌}
use native.Mathlib.Omega.{arith}
use borrow.Author.Tests.{lt-ltb, le-ltb}
use Rattle.rules.specs.Chunk.{CN, CS, CF}
use Rattle.state.specs.Layout.{constant_of, row, stack}

-- ## What a constant's word stands for

pub number_word : (w : ℕ) → w < 2 ^ 63 → constant_of w ≡ CN w
number_word w l = rw (lt-ltb w (2 ^ 63) l)

pub string_word : (w : ℕ) → 2 ^ 63 ≤ w → w < 2 ^ 63 + 2 ^ 32 → constant_of w ≡ CS (w - 2 ^ 63)
string_word w g l = rw (le-ltb w (2 ^ 63) g, lt-ltb w (2 ^ 63 + 2 ^ 32) l)

pub function_word : (w : ℕ) → 2 ^ 63 + 2 ^ 32 ≤ w → constant_of w ≡ CF (w - (2 ^ 63 + 2 ^ 32))
function_word w g = rw (le-ltb w (2 ^ 63) (omega arith), le-ltb w (2 ^ 63 + 2 ^ 32) g)

-- ## Two tests

pub and_left : (x y : Bool) → (x && y) ≡ true → x ≡ true
and_left true y h = refl
and_left false y h = h

pub and_right : (x y : Bool) → (x && y) ≡ true → y ≡ true
and_right true y h = h
and_right false y h = let z : ◌≡◌ {A = ℕ} 0 1 = cc in absurd (omega arith)

-- ## No entries

pub none_row : {A : Type 0} (f : ℕ → A) (n : ℕ) → n ≡ 0 → row f n ≡ []
unfolding row
none_row f n e = ap (row f) e

pub none_stack : {A : Type 0} (f : ℕ → A) (n : ℕ) → n ≡ 0 → stack f n ≡ []
unfolding stack
none_stack f n e = ap (stack f) e
