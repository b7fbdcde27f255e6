-- Parts of statements that are compiled by one function each: the jumps around the parts of an `if`, of which a loop has the first too, and the end of
-- a loop.
use Rattle.std.proofs.Math.Option.{Option, none, some}
use Rattle.std.specs.Prelude.{ℕ, Option as Maybe, Some, None}
use Rattle.rules.specs.declared.Span.{Span}
use Rattle.rules.specs.Op as op
use Rattle.rules.specs.Compiler.{Compile, return, emit_op, emit_jump, patch_jump, emit_loop, for_end, ◌>>=◌, ◌>>◌}

-- the place of a jump's operand as the rules have it, where there is a jump
abbrev pub place_of : Maybe ℕ → Option ℕ
place_of (Some place) = some place
place_of None = none

module _ (limit : ℕ) where
  -- a jump past what follows, and the value that it tests is dropped
  unfoldable pub open_jump : Span → Compile ℕ
  open_jump span = do
    place ← emit_jump limit op.JUMP_IF_FALSE span
    emit_op limit op.POP span
    return place

  -- the end of an `if`'s first part: a jump past the second, at whose start the first jump lands
  unfoldable pub turn_jump : (place : ℕ) → Span → Compile ℕ
  turn_jump place span = do
    end ← emit_jump limit op.JUMP span
    patch_jump place span
    emit_op limit op.POP span
    return end

  -- the end of a loop: a `while` has a jump past it always, a `for` where it has a condition
  unfoldable pub close_loop : (start : ℕ) → (place : Option ℕ) → Span → Compile Unit
  close_loop start place span = do
    emit_loop limit start span
    for_end limit place span
