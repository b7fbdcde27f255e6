-- `set_u8`: the byte is set, since there is room.
use mathlib.Core.Path.{refl}
use native.Mathlib.Omega.{arith}
use Rattle.writer_bytes.proofs.Padding.{put_byte}
use Rattle.writer_bytes.proofs.set_u8.Goals as goal

pub returns : goal.returns
returns c = put_byte _ _ _ _ _ (omega (arith, c.requires)) refl refl
