-- src/vm/chunk.rs: code bytes, constants and span runs, and the two writes. The `debug` family is left out.
use Rattle.std.specs.Prelude.{Bool, false, ◌&&◌, List, [], ◌∷◌, ◌++◌, ℕ, ◌+◌, length, ltb, eqb, if◌then◌else◌}
use Rattle.std.proofs.Math.Option.{Option, none, some}
use Rattle.rules.specs.Base.{position}
use Rattle.rules.specs.declared.Span.{Span}

pub data Constant : Type 0 where
  CN : (bits : ℕ) → Constant
  CS : (name : ℕ) → Constant
  CF : (number : ℕ) → Constant

unfoldable pub same_constant : Constant → Constant → Bool
same_constant (CN a) (CN b) = eqb a b
same_constant (CN a) (CS b) = false
same_constant (CN a) (CF b) = false
same_constant (CS a) (CN b) = false
same_constant (CS a) (CS b) = eqb a b
same_constant (CS a) (CF b) = false
same_constant (CF a) (CN b) = false
same_constant (CF a) (CS b) = false
same_constant (CF a) (CF b) = eqb a b

pub record Run : Type 0 where
  pub span : Span
  pub count : ℕ

-- how many bytes the runs stand for
unfoldable pub total : List Run → ℕ
total [] = 0
total (run ∷ runs) = run.count + total runs

unfoldable pub same_span : Span → Span → Bool
same_span a b = eqb a.start b.start && eqb a.end b.end

-- `VecRun::push`: the last run grows while the span is equal and its count is below 255
unfoldable pub push_span : List Run → Span → List Run
push_span [] span = record { span = span; count = 1 } ∷ []
push_span (run ∷ []) span =
    if same_span run.span span && ltb run.count 255
    then record { span = run.span; count = run.count + 1 } ∷ []
    else run ∷ record { span = span; count = 1 } ∷ []
push_span (run ∷ next ∷ runs) span = run ∷ push_span (next ∷ runs) span

pub record Chunk : Type 0 where
  pub ops : List ℕ
  pub constants : List Constant
  pub spans : List Run

abbrev pub empty_chunk : Chunk
empty_chunk = record { ops = []; constants = []; spans = [] }

unfoldable pub write_u8 : Chunk → ℕ → Span → Chunk
write_u8 c byte span =
    record { ops = c.ops ++ (byte ∷ []); constants = c.constants; spans = push_span c.spans span }

-- object.rs: a finished function
pub record ObjectFunction : Type 0 where
  pub name : ℕ
  pub arity : ℕ
  pub upvalue_count : ℕ
  pub chunk : Chunk

pub data Written : Type 0 where
  at_place : ℕ → Chunk → Written
  no_room : Written

unfoldable pub written : Option ℕ → Chunk → Constant → Written
written (some place) c value = at_place place c
written none c value =
    if ltb (length c.constants) 256
    then at_place (length c.constants)
    (record { ops = c.ops; constants = c.constants ++ (value ∷ []); spans = c.spans })
    else no_room

-- the constant's place, an equal one's where there is one; at most 256 constants
unfoldable pub write_constant : Chunk → Constant → Written
write_constant c value = written (position (same_constant value) c.constants) c value
