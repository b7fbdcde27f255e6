-- `compile` meets its contract.
use Rattle.entry.proofs.Answers.{answered}
use Rattle.entry.proofs.compile.Goals as goal

pub returns : goal.returns
returns c =
    let a = c.args in
    let z = c.compile_lent-made.new in
    let k = c.compile_lent-made.auto in
    answered a.tree.now a.options a.table.now a.code.now a.spans.now a.out.now z.table z.code z.spans z.out
    c.compile_lent-made.ensures k.table k.code k.spans k.out c.end_call.ensures
