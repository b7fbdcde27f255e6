-- What follows an opcode as its form, and the width that the rules give an instruction of that form.
use Rattle.std.proofs.Math.Option.{Option, none, some}
use Rattle.std.specs.Prelude.{List, ℕ, suc, get_or, Some, None}
use Rattle.std.specs.declared.option.Option as answer
use Rattle.rules.specs.Op.{Operands, Plain, Byte, Captured, Value, Text, Invoke, Ahead, Back, Closure, operands_of}
use Rattle.rules.specs.Division.{Kind, size_with}
use Rattle.image_code.specs.declared.Form.{Form}
use Rattle.image_code.specs.declared.Form.TheVariants as variant

-- none of a byte that is no opcode
unfoldable pub form : Option Operands → answer.Option Form
form none = None
form (some Plain) = Some variant.Plain
form (some Byte) = Some variant.Byte
form (some Captured) = Some variant.Captured
form (some Value) = Some variant.Value
form (some Text) = Some variant.Text
form (some Invoke) = Some variant.Invoke
form (some Ahead) = Some variant.Ahead
form (some Back) = Some variant.Back
form (some Closure) = Some variant.Closure

unfoldable pub form_of : (op : ℕ) → answer.Option Form
form_of op = form (operands_of op)

unfoldable pub by_form : answer.Option Form → Option Operands
by_form None = none
by_form (Some variant.Plain) = some Plain
by_form (Some variant.Byte) = some Byte
by_form (Some variant.Captured) = some Captured
by_form (Some variant.Value) = some Value
by_form (Some variant.Text) = some Text
by_form (Some variant.Invoke) = some Invoke
by_form (Some variant.Ahead) = some Ahead
by_form (Some variant.Back) = some Back
by_form (Some variant.Closure) = some Closure

-- of a form that is none it says nothing
unfoldable pub operands_in : Option Operands → Operands
operands_in none = Plain
operands_in (some o) = o

unfoldable pub operands_by : answer.Option Form → Operands
operands_by form = operands_in (by_form form)

-- with the opcode; 0 where there is no such instruction
unfoldable pub with_opcode : Option ℕ → ℕ
with_opcode none = 0
with_opcode (some size) = suc size

unfoldable pub width_with : Option Operands → Kind → ℕ
width_with none k = 0
width_with (some o) k = with_opcode (size_with o k)

-- how many bytes an instruction of a form has whose first operand finds such a constant
unfoldable pub width_by : answer.Option Form → Kind → ℕ
width_by form k = width_with (by_form form) k

-- of an opcode and what stands behind it
unfoldable pub width : (kind : (place : ℕ) → Kind) → (op : ℕ) → (rest : List ℕ) → ℕ
width kind op rest = width_by (form_of op) (kind (get_or rest 0 0))
