-- `end_call` leaves what the rules' `leaves` says.
use Rattle.std.proofs.Common.{sym, ap, ◌∙◌}
use Rattle.entry_parts.specs.Ends.{lent_of, answer_of, output_of}
use Rattle.entry_parts.proofs.Ends.{left}
use Rattle.entry_parts.proofs.end_call.Goals as goal

pub returns-in-Ok : goal.returns-in-Ok
returns-in-Ok c =
    let a = c.args in
    left (lent_of 0 a.table.now a.code.now a.spans.now a.out.now) (c.accepted.ensures ∙ ap answer_of (sym c.in-Ok.is))
    (ap (output_of _) (sym c.in-Ok.is)) c.clear64.ensures c.clear8.ensures c.clear32.ensures

pub returns-in-Err : goal.returns-in-Err
returns-in-Err c =
    let a = c.args in
    left (lent_of 0 a.table.now a.code.now a.spans.now a.out.now) (c.refused_in.ensures ∙ ap answer_of (sym c.in-Err.is))
    (c.clear8-in-Err.ensures ∙ ap (output_of _) (sym c.in-Err.is)) c.clear64.ensures c.clear8.ensures c.clear32.ensures
