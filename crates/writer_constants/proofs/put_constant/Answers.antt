-- `put_constant`: a word is a number, a name or a function, by its size.
use Rattle.rules.specs.Image.{constant_bytes}
use Rattle.writer_constants.proofs.Rows.{as_constant}
use native.Mathlib.Omega.{arith}
use Rattle.state.proofs.Words.{number_word, string_word, function_word}
use Rattle.writer_constants.proofs.put_constant.Goals as goal

pub returns-then-w-lt9223372036854775808 : goal.returns-then-w-lt9223372036854775808
unfolding constant_bytes
returns-then-w-lt9223372036854775808 c = as_constant (number_word c.args.w (omega (arith, c.if-w-lt9223372036854775808.true))) c.put_marked.ensures

pub returns-then-w-lt9223372041149743104 : goal.returns-then-w-lt9223372041149743104
unfolding constant_bytes
returns-then-w-lt9223372041149743104 c =
    as_constant (string_word c.args.w (omega (arith, c.if-w-lt9223372036854775808.false))
    (omega (arith, c.if-w-lt9223372041149743104.true))) c.put_marked-then-w-lt9223372041149743104.ensures

pub returns : goal.returns
unfolding constant_bytes
returns c = as_constant (function_word c.args.w (omega (arith, c.if-w-lt9223372041149743104.false))) c.put_marked-2.ensures
