-- What a constant's word is put as, and where a row of constants ends.
use mathlib.Core.Path.{◌≡◌, sym, subst}
use Prim.Native.Nat.{ℕ, ◌+◌, ◌*◌, ◌≤◌}
use mathlib.Core.List.{List, ◌∷◌, []}
use native.Mathlib.Omega.{arith}
use lib.ListN.{length, length-append}
use Rattle.rules.specs.Base.{le}
use Rattle.rules.specs.Chunk.{Constant, CN, CS, CF}
use Rattle.rules.specs.Image.{join, constant_bytes}
use Rattle.std.specs.Prelude.{map}
use Rattle.state.specs.Layout.{constant_of}
use Rattle.writer_bytes.specs.Put.{Put}

pub constant_short : (value : Constant) → length (constant_bytes value) ≤ 10
unfolding constant_bytes le
constant_short (CN bits) = omega arith
constant_short (CS name) = omega arith
constant_short (CF number) = omega arith

pub as_constant : {out out' : List ℕ} {at r : ℕ} {a b : Constant} → a ≡ b → Put out out' at (constant_bytes b) r → Put out out' at (constant_bytes a) r
as_constant {out} {out'} {at} {r} {a} {b} e p = subst (λ (v : Constant). Put out out' at (constant_bytes v) r) (sym e) p

pub constants_next : {out out' : List ℕ} {at r : ℕ} (words : List ℕ) → Put out out' at (join constant_bytes (map constant_of words)) r → r ≤ at + length words * 10
unfolding join
constants_next {at = at} words p = omega (arith, p.next, short words)
  where
    short : (words : List ℕ) → length (join constant_bytes (map constant_of words)) ≤ length words * 10
    short [] = omega arith
    short (w ∷ words) = omega (arith, length-append (constant_bytes (constant_of w)) (join constant_bytes (map constant_of words)), constant_short (constant_of w), short words)
