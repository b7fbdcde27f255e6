-- The kinds of functions and their numbers.
use Prim.Native.Nat.{ℕ, zero, suc}
use mathlib.Core.Path.{◌≡◌, refl}
use denote.Enum.Declared.{tag_of}
use Rattle.state.specs.Kinds.{number_of}
use Rattle.state.specs.Layout.{type_of}
use Rattle.state.specs.contracts.Kind.{the_type}
use Rattle.state.specs.declared.Kind.{Kind}
use Rattle.state.specs.declared.Kind.TheVariants.{Script, Function, Method, Initializer}

pub numbers : (k : Kind) → tag_of the_type k ≡ number_of k
unfolding number_of
numbers Script = refl
numbers Function = refl
numbers Method = refl
numbers Initializer = refl

pub from_three : (n : ℕ) → (n ≡ 0 → ⊥) → (n ≡ 1 → ⊥) → (n ≡ 2 → ⊥) → type_of (number_of Initializer) ≡ type_of n
unfolding number_of type_of
from_three zero a b d = absurd (a refl)
from_three (suc zero) a b d = absurd (b refl)
from_three (suc (suc zero)) a b d = absurd (d refl)
from_three (suc (suc (suc n))) a b d = refl
