-- `constant` meets its contract.
use Rattle.std.proofs.Common.{rules}
use mathlib.Core.Path.{◌∙◌}
use Rattle.image_records.proofs.Records.{constant_cut, by_number, by_string, by_function, by_none}
use Rattle.image_records.proofs.constant.Goals as goal

pub returns-then-not-has : goal.returns-then-not-has
returns-then-not-has c = constant_cut c.args.s.now c.args.at (search rules)

pub returns-in-17230 : goal.returns-in-17230
returns-in-17230 c = c.number_at.ensures ∙ by_number c.args.s.now c.args.at c.mark_at.result c.mark_at.ensures (search rules) c.in-17230.is

pub returns-in-17235 : goal.returns-in-17235
returns-in-17235 c = c.string_at.ensures ∙ by_string c.args.s.now c.args.at c.mark_at.result c.mark_at.ensures (search rules) c.in-17235.is

pub returns-in-17222 : goal.returns-in-17222
returns-in-17222 c = c.function_at.ensures ∙ by_function c.args.s.now c.args.at c.mark_at.result c.mark_at.ensures (search rules) c.in-17222.is

pub returns-in_default : goal.returns-in_default
returns-in_default c =
    by_none c.args.s.now c.args.at c.mark_at.result c.mark_at.ensures (search rules) (search rules) (search rules) (search rules)
