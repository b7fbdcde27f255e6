-- The mark says which instruction takes the value.
use mathlib.Core.Path.{refl}
use mathlib.Core.Logic.{inl}
use Rattle.stmt_values.proofs.stmt_expr.Goals as goal

pub value_then-requires : goal.value_then-requires
value_then-requires c = (c.requires.0, inl (c.requires.1, refl), c.requires.2)
