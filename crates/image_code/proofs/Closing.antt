-- A table that holds one value everywhere, as those do in which counting begins.
use mathlib.Core.Path.{◌≡◌, refl}
use Prim.Native.Nat.{ℕ, zero, suc}
use lib.ListN.{get_or, replicate}

pub blank : {A : Type 0} (n p : ℕ) (a : A) → get_or (replicate n a) p a ≡ a
blank zero p a = refl
blank (suc n) zero a = refl
blank (suc n) (suc p) a = blank n p a

pub zeros : (n p : ℕ) → ◌≡◌ {A = ℕ} (get_or (replicate n 0) p 0) 0
zeros n p = blank n p 0
