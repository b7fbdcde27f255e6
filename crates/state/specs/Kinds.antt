-- The number of a function's kind, as the table has it.
use Rattle.std.specs.Prelude.{ℕ}
use Rattle.state.specs.declared.Kind.{Kind}
use Rattle.state.specs.declared.Kind.TheVariants.{Script, Function, Method, Initializer}

unfoldable pub number_of : Kind → ℕ
number_of Script = 0
number_of Function = 1
number_of Method = 2
number_of Initializer = 3
