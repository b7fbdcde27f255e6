-- The limits that document 01 sets of itself. Those of the Rust (256 locals, 255 arguments, ..) stand where the Rust has them.
use Rattle.std.specs.Prelude.{ℕ}

-- what a later order may raise: the reader and the whole take it as given, and `first_limits` below is the one place that says how much
pub record Limits : Type 0 where
  pub depth : ℕ  -- records inside one another, a top-level statement being 1
  pub funs : ℕ  -- `SF` records inside one another
  pub table_bytes : ℕ  -- the published need of the table area

abbrev pub first_limits : Limits
first_limits = record { depth = 128; funs = 16; table_bytes = 139_296 }

abbrev pub max_tree : ℕ
max_tree = 1_048_576

abbrev pub max_code : ℕ
max_code = 262_144

abbrev pub max_names : ℕ
max_names = 4096

-- a number's bits: no sign, no NaN
abbrev pub max_bits : ℕ
max_bits = 0x7FF0_0000_0000_0000
