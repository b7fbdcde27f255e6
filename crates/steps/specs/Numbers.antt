-- Which reason a refusal's number is; no other number is given.
use Rattle.std.specs.Prelude.{ℕ, eqb, if◌then◌else◌}
use Rattle.steps.specs.declared.Reason.{Reason}
use Rattle.steps.specs.declared.Reason.TheVariants as reason

unfoldable pub reason_of : ℕ → Reason
reason_of number =
    if eqb number 10 then reason.AlreadyDefined else
    if eqb number 11 then reason.AccessInsideInitializer else
    if eqb number 12 then reason.ClassInheritFromSelf else
    if eqb number 13 then reason.JumpTooLarge else
    if eqb number 14 then reason.TooManyArgs else
    if eqb number 15 then reason.TooManyConstants else
    if eqb number 16 then reason.TooManyLocals else
    if eqb number 17 then reason.TooManyParams else
    if eqb number 18 then reason.TooManyUpvalues else
    if eqb number 19 then reason.ReturnInInitializer else
    if eqb number 20 then reason.ReturnOutsideFunction else
    if eqb number 21 then reason.SuperOutsideClass else
    if eqb number 22 then reason.SuperWithoutSuperclass else
    if eqb number 23 then reason.ThisOutsideClass else
    reason.CodeFull
