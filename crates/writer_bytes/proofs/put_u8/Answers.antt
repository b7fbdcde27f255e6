-- `put_u8`: the byte is set where there is room.
use mathlib.Core.Path.{refl}
use native.Mathlib.Omega.{arith}
use Rattle.writer_bytes.proofs.Padding.{put_byte, put_none}
use Rattle.writer_bytes.proofs.put_u8.Goals as goal

pub returns-then-at-out : goal.returns-then-at-out
returns-then-at-out c = put_byte _ _ _ _ _ (omega arith) refl refl

pub returns : goal.returns
returns c = put_none _ _ _ _ (omega arith) refl
