-- `set_mark`: two bytes, the mark by 256 and what is left of it.
use Rattle.writer_bytes.proofs.Padding.{put_then}
use Rattle.writer_bytes.proofs.set_mark.Goals as goal

pub returns : goal.returns
returns c = put_then c.set_u8-next.ensures c.set_u8.ensures
