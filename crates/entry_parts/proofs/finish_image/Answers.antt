-- `finish_image`: the image is whole, with what is asked for, or there is no room for it.
use Rattle.entry_parts.proofs.Images.{behind_put, behind_none, finished_full, finished_whole}
use Rattle.entry_parts.proofs.finish_image.Goals as goal
use Rattle.entry_parts.proofs.finish_image.Goals.{then-directory, else-directory}

pub returns-then-out-whole : goal.returns-then-out-whole
returns-then-out-whole c =
    let a = c.args in
    finished_full a.options a.functions a.n c.asks_directory-directory.ensures c.whole_bytes-whole.ensures c.outside.ensures c.if-out-whole.true

pub returns : goal.returns
returns c =
    let a = c.args in
    finished_whole a.options a.functions a.n c.asks_directory-directory.ensures c.whole_bytes-whole.ensures c.if-out-whole.false
    (elim c.if-directory.branch [
      | then-directory w ↦ behind_put w.if-directory.true w.put_directory.ensures w.out-is
      | else-directory w ↦ behind_none w.if-directory.false w.out-is
    ])
    c.put_header.ensures
