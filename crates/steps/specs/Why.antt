-- Why the compiler stops, as the code hands it on: which refusal it is, and in which function.
use Rattle.std.specs.Prelude.{List, ℕ, Result}
use Rattle.rules.specs.Answer.{NO_SPAN}
use Rattle.rules.specs.declared.Span.{Span}
use Rattle.rules.specs.declared.Refusal.{Refusal}
use Rattle.rules.specs.declared.Stopped.{Stopped}
use Rattle.rules.specs.declared.Refusal.TheVariants as refusal
use Rattle.state.specs.Layout.{word, name_place}
use Rattle.steps.specs.declared.Why.{Why}
use Rattle.steps.specs.declared.Reason.{Reason}
use Rattle.steps.specs.declared.Reason.TheVariants as reason

-- where to read on, or why the compiler stops
abbrev pub Step : Type 0
Step = Result ℕ Why

abbrev pub why_in : (level : ℕ) → Reason → Span → (name : ℕ) → Why
why_in l reason span name = record { reason = reason; span = span; name = name; around = l }

abbrev pub already_defined : (level : ℕ) → Span → (name : ℕ) → Why
already_defined l span name = why_in l reason.AlreadyDefined span name

abbrev pub access_inside_initializer : (level : ℕ) → Span → (name : ℕ) → Why
access_inside_initializer l span name = why_in l reason.AccessInsideInitializer span name

abbrev pub class_inherit_from_self : (level : ℕ) → Span → (name : ℕ) → Why
class_inherit_from_self l span name = why_in l reason.ClassInheritFromSelf span name

abbrev pub jump_too_large : (level : ℕ) → Span → Why
jump_too_large l span = why_in l reason.JumpTooLarge span 0

abbrev pub too_many_args : (level : ℕ) → Span → Why
too_many_args l span = why_in l reason.TooManyArgs span 0

abbrev pub too_many_constants : (level : ℕ) → Span → Why
too_many_constants l span = why_in l reason.TooManyConstants span 0

abbrev pub too_many_locals : (level : ℕ) → Span → Why
too_many_locals l span = why_in l reason.TooManyLocals span 0

abbrev pub too_many_params : (level : ℕ) → Span → Why
too_many_params l span = why_in l reason.TooManyParams span 0

abbrev pub too_many_upvalues : (level : ℕ) → Span → Why
too_many_upvalues l span = why_in l reason.TooManyUpvalues span 0

abbrev pub return_in_initializer : (level : ℕ) → Span → Why
return_in_initializer l span = why_in l reason.ReturnInInitializer span 0

abbrev pub return_outside_function : (level : ℕ) → Span → Why
return_outside_function l span = why_in l reason.ReturnOutsideFunction span 0

abbrev pub super_outside_class : (level : ℕ) → Span → Why
super_outside_class l span = why_in l reason.SuperOutsideClass span 0

abbrev pub super_without_superclass : (level : ℕ) → Span → Why
super_without_superclass l span = why_in l reason.SuperWithoutSuperclass span 0

abbrev pub this_outside_class : (level : ℕ) → Span → Why
this_outside_class l span = why_in l reason.ThisOutsideClass span 0

abbrev pub code_full : (level : ℕ) → Why
code_full l = why_in l reason.CodeFull NO_SPAN 0

abbrev pub refusal_as : Reason → Span → (name : ℕ) → Refusal
refusal_as reason.AlreadyDefined span name = refusal.AlreadyDefined span name
refusal_as reason.AccessInsideInitializer span name = refusal.AccessInsideInitializer span name
refusal_as reason.ClassInheritFromSelf span name = refusal.ClassInheritFromSelf span name
refusal_as reason.JumpTooLarge span name = refusal.JumpTooLarge span
refusal_as reason.TooManyArgs span name = refusal.TooManyArgs span
refusal_as reason.TooManyConstants span name = refusal.TooManyConstants span
refusal_as reason.TooManyLocals span name = refusal.TooManyLocals span
refusal_as reason.TooManyParams span name = refusal.TooManyParams span
refusal_as reason.TooManyUpvalues span name = refusal.TooManyUpvalues span
refusal_as reason.ReturnInInitializer span name = refusal.ReturnInInitializer span
refusal_as reason.ReturnOutsideFunction span name = refusal.ReturnOutsideFunction span
refusal_as reason.SuperOutsideClass span name = refusal.SuperOutsideClass span
refusal_as reason.SuperWithoutSuperclass span name = refusal.SuperWithoutSuperclass span
refusal_as reason.ThisOutsideClass span name = refusal.ThisOutsideClass span
refusal_as reason.CodeFull span name = refusal.CodeFull

unfoldable pub refusal_of : Why → Refusal
refusal_of w = refusal_as w.reason w.span w.name

-- with the name that the table has for its level
abbrev pub told : (t : List ℕ) → Why → Stopped
told t w = record { what = refusal_of w; function = word t w.around name_place; around = w.around }
