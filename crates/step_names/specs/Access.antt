-- What is done with a variable: the rules' steps for it, and the instructions that they emit.
use Rattle.std.specs.Prelude.{ℕ}
use Rattle.rules.specs.Op as op
use Rattle.rules.specs.declared.Span.{Span}
use Rattle.rules.specs.Compiler.{Compile, ◌>>=◌, Place as Found, resolve, get_place, set_place}
use Rattle.steps.specs.declared.Place.{Place}
use Rattle.steps.specs.declared.Place.TheVariants.{Local, Upvalue, Global}
use Rattle.step_names.specs.declared.Access.{Access}
use Rattle.step_names.specs.declared.Access.TheVariants.{Get, Set}

abbrev pub op_of : Access → Place → ℕ
op_of Get (Local _) = op.GET_LOCAL
op_of Get (Upvalue _) = op.GET_UPVALUE
op_of Get Global = op.GET_GLOBAL
op_of Set (Local _) = op.SET_LOCAL
op_of Set (Upvalue _) = op.SET_UPVALUE
op_of Set Global = op.SET_GLOBAL

abbrev pub access_place : Access → (limit : ℕ) → Found → (name : ℕ) → Span → Compile Unit
access_place Get limit place name span = get_place limit place name span
access_place Set limit place name span = set_place limit place name span

abbrev pub access_name : Access → (limit name : ℕ) → Span → Compile Unit
access_name access limit name span = resolve name span >>= λ place. access_place access limit place name span
