-- The reason of a byte is `reason_of`, number by number.
use Rattle.std.proofs.Common.{rules}
use borrow.Author.Tests.{ne_eqb}
use Rattle.steps.specs.Numbers.{reason_of}
use Rattle.steps.proofs.ReasonFromU8.from.Goals as goal

-- ALREADY_DEFINED
pub returns-in-10 : goal.returns-in-10
unfolding reason_of
returns-in-10 c = rw c.in-10.is

-- ACCESS_INSIDE_INITIALIZER
pub returns-in-11 : goal.returns-in-11
unfolding reason_of
returns-in-11 c = rw c.in-11.is

-- CLASS_INHERIT_FROM_SELF
pub returns-in-12 : goal.returns-in-12
unfolding reason_of
returns-in-12 c = rw c.in-12.is

-- JUMP_TOO_LARGE
pub returns-in-13 : goal.returns-in-13
unfolding reason_of
returns-in-13 c = rw c.in-13.is

-- TOO_MANY_ARGS
pub returns-in-14 : goal.returns-in-14
unfolding reason_of
returns-in-14 c = rw c.in-14.is

-- TOO_MANY_CONSTANTS
pub returns-in-15 : goal.returns-in-15
unfolding reason_of
returns-in-15 c = rw c.in-15.is

-- TOO_MANY_LOCALS
pub returns-in-16 : goal.returns-in-16
unfolding reason_of
returns-in-16 c = rw c.in-16.is

-- TOO_MANY_PARAMS
pub returns-in-17 : goal.returns-in-17
unfolding reason_of
returns-in-17 c = rw c.in-17.is

-- TOO_MANY_UPVALUES
pub returns-in-18 : goal.returns-in-18
unfolding reason_of
returns-in-18 c = rw c.in-18.is

-- RETURN_IN_INITIALIZER
pub returns-in-19 : goal.returns-in-19
unfolding reason_of
returns-in-19 c = rw c.in-19.is

-- RETURN_OUTSIDE_FUNCTION
pub returns-in-20 : goal.returns-in-20
unfolding reason_of
returns-in-20 c = rw c.in-20.is

-- SUPER_OUTSIDE_CLASS
pub returns-in-21 : goal.returns-in-21
unfolding reason_of
returns-in-21 c = rw c.in-21.is

-- SUPER_WITHOUT_SUPERCLASS
pub returns-in-22 : goal.returns-in-22
unfolding reason_of
returns-in-22 c = rw c.in-22.is

-- THIS_OUTSIDE_CLASS
pub returns-in-23 : goal.returns-in-23
unfolding reason_of
returns-in-23 c = rw c.in-23.is

-- none of these
pub returns-in_default : goal.returns-in_default
unfolding reason_of
returns-in_default c =
    let n = c.args.number in
    rw (
      ne_eqb n 10 (search rules),
      ne_eqb n 11 (search rules),
      ne_eqb n 12 (search rules),
      ne_eqb n 13 (search rules),
      ne_eqb n 14 (search rules),
      ne_eqb n 15 (search rules),
      ne_eqb n 16 (search rules),
      ne_eqb n 17 (search rules),
      ne_eqb n 18 (search rules),
      ne_eqb n 19 (search rules),
      ne_eqb n 20 (search rules),
      ne_eqb n 21 (search rules),
      ne_eqb n 22 (search rules),
      ne_eqb n 23 (search rules),
    )
