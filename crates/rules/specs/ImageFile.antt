-- The image file read back, with a directory or without: from bytes to functions, or 40 where the bytes have another form.
use Rattle.std.specs.Prelude.{List, [], ◌∷◌, ℕ, length, ltb, leb, eqb, if◌then◌else◌}
use Rattle.rules.specs.Limits.{max_bits}
use Rattle.rules.specs.declared.Refusal.TheVariants.{ImageRefused}
use Rattle.rules.specs.Reader.{Read, Reader, ◌>>=◌, ◌>>◌, return, here, need, one_of, u8, u16, u32, u64, mark, mark_is, span, many}
use Rattle.rules.specs.Chunk.{Constant, CN, CS, CF, Run, ObjectFunction}
use Rattle.rules.specs.Image.{places}

pub data ConstantMark : Type 0 where
  number_mark string_mark function_mark : ConstantMark

unfoldable pub constant_marks : List (ℕ × ConstantMark)
constant_marks = (0x434E, number_mark) ∷ (0x4353, string_mark) ∷ (0x4346, function_mark) ∷ []

module _ (image : List ℕ) where
  -- what follows the mark
  unfoldable pub constant_fields : ConstantMark → Reader Constant
  constant_fields number_mark = do
    bits ← u64 image ImageRefused
    need (leb bits max_bits) ImageRefused
    return (CN bits)
  constant_fields string_mark = do
    name ← u16 image ImageRefused
    return (CS name)
  constant_fields function_mark = do
    number ← u32 image ImageRefused
    return (CF number)

  unfoldable pub read_constant : Reader Constant
  read_constant = do
    kind ← mark image ImageRefused >>= one_of ImageRefused constant_marks
    constant_fields kind

  unfoldable pub read_run : Reader Run
  read_run = do
    mark_is image ImageRefused 0x5255
    s ← span image ImageRefused
    count ← u8 image ImageRefused
    return (record { span = s; count = count })

  unfoldable pub read_function : Reader ObjectFunction
  read_function = do
    mark_is image ImageRefused 0x464E
    name ← u16 image ImageRefused
    arity ← u8 image ImageRefused
    upvalue_count ← u16 image ImageRefused
    constant-count ← u16 image ImageRefused
    run-count ← u32 image ImageRefused
    code_length ← u32 image ImageRefused
    constants ← many constant-count read_constant
    spans ← many run-count read_run
    mark_is image ImageRefused 0x4344
    ops ← many code_length (u8 image ImageRefused)
    return
        (record {
          name = name;
          arity = arity;
          upvalue_count = upvalue_count;
          chunk = record { ops = ops; constants = constants; spans = spans };
        })

  -- offsets are compared as numbers: no offset is that of a record from 4,294,967,296 on
  unfoldable pub read_offsets : (offsets : List ℕ) → Reader Unit
  read_offsets [] = return tt
  read_offsets (place ∷ rest) = do
    offset ← u32 image ImageRefused
    need (eqb offset place) ImageRefused
    read_offsets rest

  unfoldable pub read_directory : List ObjectFunction → Reader Unit
  read_directory functions = do
    mark_is image ImageRefused 0x4458
    count ← u32 image ImageRefused
    need (eqb count (length functions)) ImageRefused
    read_offsets (places 6 functions)

  -- behind the functions: nothing, or their directory
  unfoldable pub read_behind : List ObjectFunction → Reader Unit
  read_behind functions = do
    at ← here
    if eqb at (length image) then return tt else read_directory functions

  -- to the last byte
  unfoldable pub read_functions : Reader (List ObjectFunction)
  read_functions = do
    mark_is image ImageRefused 0x494D
    count ← u32 image ImageRefused
    need (ltb 0 count) ImageRefused
    functions ← many count read_function
    read_behind functions
    end ← here
    need (eqb end (length image)) ImageRefused
    return functions

  unfoldable pub read_image : Read (List ObjectFunction)
  read_image = read_functions 0
