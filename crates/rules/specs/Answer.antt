-- What comes back: the number and the fields of each refusal, and the function it is in. The types stand in src/lib.rt. A field that is not named is 0.
use Rattle.std.specs.Prelude.{ℕ}
use Rattle.rules.specs.declared.Span.{Span}
use Rattle.rules.specs.declared.Answer.{Answer}
use Rattle.rules.specs.declared.Refusal.{Refusal}
use Rattle.rules.specs.declared.Stopped.{Stopped}
use Rattle.rules.specs.declared.Refusal.TheVariants.{WorkShort, TreeTooLong, TreeForm, TreeTooDeep, TooManyOpen}
use Rattle.rules.specs.declared.Refusal.TheVariants.{AlreadyDefined, AccessInsideInitializer, ClassInheritFromSelf, JumpTooLarge, TooManyArgs, TooManyConstants, TooManyLocals, TooManyParams, TooManyUpvalues}
use Rattle.rules.specs.declared.Refusal.TheVariants.{ReturnInInitializer, ReturnOutsideFunction, SuperOutsideClass, SuperWithoutSuperclass, ThisOutsideClass}
use Rattle.rules.specs.declared.Refusal.TheVariants.{CodeFull, OutFull, ImageRefused, NoSuchFunction, NoSuchByte}

abbrev pub NO_SPAN : Span
NO_SPAN = record { start = 0; end = 0 }

abbrev pub at_offset : (number at : ℕ) → Answer
at_offset number at = record { number = number; at = at; end = 0; name = 0; length = 0; function = 0; around = 0 }

abbrev pub at_span : (number : ℕ) → Span → (name : ℕ) → Answer
at_span number span name = record { number = number; at = span.start; end = span.end; name = name; length = 0; function = 0; around = 0 }

abbrev pub with_length : (number length : ℕ) → Answer
with_length number length = record { number = number; at = 0; end = 0; name = 0; length = length; function = 0; around = 0 }

abbrev pub accepted : (length : ℕ) → Answer
accepted length = with_length 0 length

unfoldable pub refusal : Refusal → Answer
refusal WorkShort = at_offset 1 0
refusal TreeTooLong = at_offset 2 0
refusal (TreeForm at) = at_offset 3 at
refusal (TreeTooDeep at) = at_offset 4 at
refusal (TooManyOpen at) = at_offset 5 at
refusal (AlreadyDefined span name) = at_span 10 span name
refusal (AccessInsideInitializer span name) = at_span 11 span name
refusal (ClassInheritFromSelf span name) = at_span 12 span name
refusal (JumpTooLarge span) = at_span 13 span 0
refusal (TooManyArgs span) = at_span 14 span 0
refusal (TooManyConstants span) = at_span 15 span 0
refusal (TooManyLocals span) = at_span 16 span 0
refusal (TooManyParams span) = at_span 17 span 0
refusal (TooManyUpvalues span) = at_span 18 span 0
refusal (ReturnInInitializer span) = at_span 19 span 0
refusal (ReturnOutsideFunction span) = at_span 20 span 0
refusal (SuperOutsideClass span) = at_span 21 span 0
refusal (SuperWithoutSuperclass span) = at_span 22 span 0
refusal (ThisOutsideClass span) = at_span 23 span 0
refusal CodeFull = at_offset 30 0
refusal (OutFull length) = with_length 31 length
refusal ImageRefused = at_offset 40 0
refusal NoSuchFunction = at_offset 41 0
refusal NoSuchByte = at_offset 42 0

-- a refusal that is in no function
abbrev pub outside : Refusal → Stopped
outside r = record { what = r; function = 0; around = 0 }

-- an answer, with the name of the innermost open function and how many are open around it
abbrev pub in_function : Answer → (function around : ℕ) → Answer
in_function a function around =
    record { number = a.number; at = a.at; end = a.end; name = a.name; length = a.length; function = function; around = around }

unfoldable pub refusal_in : Stopped → Answer
refusal_in x = in_function (refusal x.what) x.function x.around
