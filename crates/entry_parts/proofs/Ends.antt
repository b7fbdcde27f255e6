-- What a call leaves, from what each of the areas holds.
use mathlib.Core.Path.{◌≡◌}
use mathlib.Core.List.{List}
use Prim.Native.Nat.{ℕ}
use lib.ListN.{replicate}
use Rattle.rules.specs.declared.Answer.{Answer}
use Rattle.rules.specs.Entry.{Lent, leaves}

pub left : (lent : Lent) {a a' : Answer} {o o' t c s : List ℕ} → a ≡ a' → o ≡ o' → t ≡ replicate lent.table_words 0 → c ≡ replicate lent.code_bytes 0 →
    s ≡ replicate lent.span_words 0 → record { answer = a; output = o; table = t; code = c; spans = s } ≡ leaves lent a' o'
unfolding leaves
left lent a o t c s = λ i. record { answer = a i; output = o i; table = t i; code = c i; spans = s i }
