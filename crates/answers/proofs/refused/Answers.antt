-- `Answer::refused` is the rules' `refusal`, case by case.
use mathlib.Core.Path.{◌∙◌, sym, ap}
use Rattle.rules.specs.Answer.{refusal}
use Rattle.answers.proofs.refused.Goals as goal

pub returns-in-WorkShort : goal.returns-in-WorkShort
unfolding refusal
returns-in-WorkShort c = c.at_offset.ensures ∙ sym (ap refusal c.in-WorkShort.is)

pub returns-in-TreeTooLong : goal.returns-in-TreeTooLong
unfolding refusal
returns-in-TreeTooLong c = c.at_offset-in-TreeTooLong.ensures ∙ sym (ap refusal c.in-TreeTooLong.is)

pub returns-in-TreeForm : goal.returns-in-TreeForm
unfolding refusal
returns-in-TreeForm c = c.at_offset-in-TreeForm.ensures ∙ sym (ap refusal c.in-TreeForm.is)

pub returns-in-TreeTooDeep : goal.returns-in-TreeTooDeep
unfolding refusal
returns-in-TreeTooDeep c = c.at_offset-in-TreeTooDeep.ensures ∙ sym (ap refusal c.in-TreeTooDeep.is)

pub returns-in-TooManyOpen : goal.returns-in-TooManyOpen
unfolding refusal
returns-in-TooManyOpen c = c.at_offset-in-TooManyOpen.ensures ∙ sym (ap refusal c.in-TooManyOpen.is)

pub returns-in-AlreadyDefined : goal.returns-in-AlreadyDefined
unfolding refusal
returns-in-AlreadyDefined c = c.at_span.ensures ∙ sym (ap refusal c.in-AlreadyDefined.is)

pub returns-in-AccessInsideInitializer : goal.returns-in-AccessInsideInitializer
unfolding refusal
returns-in-AccessInsideInitializer c = c.at_span-in-AccessInsideInitializer.ensures ∙ sym (ap refusal c.in-AccessInsideInitializer.is)

pub returns-in-ClassInheritFromSelf : goal.returns-in-ClassInheritFromSelf
unfolding refusal
returns-in-ClassInheritFromSelf c = c.at_span-in-ClassInheritFromSelf.ensures ∙ sym (ap refusal c.in-ClassInheritFromSelf.is)

pub returns-in-JumpTooLarge : goal.returns-in-JumpTooLarge
unfolding refusal
returns-in-JumpTooLarge c = c.at_span-in-JumpTooLarge.ensures ∙ sym (ap refusal c.in-JumpTooLarge.is)

pub returns-in-TooManyArgs : goal.returns-in-TooManyArgs
unfolding refusal
returns-in-TooManyArgs c = c.at_span-in-TooManyArgs.ensures ∙ sym (ap refusal c.in-TooManyArgs.is)

pub returns-in-TooManyConstants : goal.returns-in-TooManyConstants
unfolding refusal
returns-in-TooManyConstants c = c.at_span-in-TooManyConstants.ensures ∙ sym (ap refusal c.in-TooManyConstants.is)

pub returns-in-TooManyLocals : goal.returns-in-TooManyLocals
unfolding refusal
returns-in-TooManyLocals c = c.at_span-in-TooManyLocals.ensures ∙ sym (ap refusal c.in-TooManyLocals.is)

pub returns-in-TooManyParams : goal.returns-in-TooManyParams
unfolding refusal
returns-in-TooManyParams c = c.at_span-in-TooManyParams.ensures ∙ sym (ap refusal c.in-TooManyParams.is)

pub returns-in-TooManyUpvalues : goal.returns-in-TooManyUpvalues
unfolding refusal
returns-in-TooManyUpvalues c = c.at_span-in-TooManyUpvalues.ensures ∙ sym (ap refusal c.in-TooManyUpvalues.is)

pub returns-in-ReturnInInitializer : goal.returns-in-ReturnInInitializer
unfolding refusal
returns-in-ReturnInInitializer c = c.at_span-in-ReturnInInitializer.ensures ∙ sym (ap refusal c.in-ReturnInInitializer.is)

pub returns-in-ReturnOutsideFunction : goal.returns-in-ReturnOutsideFunction
unfolding refusal
returns-in-ReturnOutsideFunction c = c.at_span-in-ReturnOutsideFunction.ensures ∙ sym (ap refusal c.in-ReturnOutsideFunction.is)

pub returns-in-SuperOutsideClass : goal.returns-in-SuperOutsideClass
unfolding refusal
returns-in-SuperOutsideClass c = c.at_span-in-SuperOutsideClass.ensures ∙ sym (ap refusal c.in-SuperOutsideClass.is)

pub returns-in-SuperWithoutSuperclass : goal.returns-in-SuperWithoutSuperclass
unfolding refusal
returns-in-SuperWithoutSuperclass c = c.at_span-in-SuperWithoutSuperclass.ensures ∙ sym (ap refusal c.in-SuperWithoutSuperclass.is)

pub returns-in-ThisOutsideClass : goal.returns-in-ThisOutsideClass
unfolding refusal
returns-in-ThisOutsideClass c = c.at_span-in-ThisOutsideClass.ensures ∙ sym (ap refusal c.in-ThisOutsideClass.is)

pub returns-in-CodeFull : goal.returns-in-CodeFull
unfolding refusal
returns-in-CodeFull c = c.at_offset-in-CodeFull.ensures ∙ sym (ap refusal c.in-CodeFull.is)

pub returns-in-OutFull : goal.returns-in-OutFull
unfolding refusal
returns-in-OutFull c = c.with_length.ensures ∙ sym (ap refusal c.in-OutFull.is)

pub returns-in-ImageRefused : goal.returns-in-ImageRefused
unfolding refusal
returns-in-ImageRefused c = c.at_offset-in-ImageRefused.ensures ∙ sym (ap refusal c.in-ImageRefused.is)

pub returns-in-NoSuchFunction : goal.returns-in-NoSuchFunction
unfolding refusal
returns-in-NoSuchFunction c = c.at_offset-in-NoSuchFunction.ensures ∙ sym (ap refusal c.in-NoSuchFunction.is)

pub returns-in-NoSuchByte : goal.returns-in-NoSuchByte
unfolding refusal
returns-in-NoSuchByte c = c.at_offset-in-NoSuchByte.ensures ∙ sym (ap refusal c.in-NoSuchByte.is)
