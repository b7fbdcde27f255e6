-- P1 to P12 of the order: one table, one theorem, by computation. A tree is written as the digits of its records.
use mathlib.Core.Path.{◌≡◌, refl}
use mathlib.Core.Option.{Option, none, some}
use mathlib.Core.List.{List, [], ◌∷◌, ◌++◌, map}
use Prim.Native.Nat.{ℕ, zero, suc, ◌+◌, ◌/◌, ◌%◌, ◌^◌}
use lib.ListN.{replicate}
use Rattle.rules.specs.declared.Span.{Span}
use Rattle.rules.specs.declared.Answer.{Answer}
use Rattle.rules.specs.declared.Refusal.TheVariants.{WorkShort, CodeFull, OutFull, NoSuchFunction}
use Rattle.rules.specs.Answer.{refusal, accepted, at_span, in_function, refusal_in}
use Rattle.rules.specs.Op.{Operands, Plain, Byte, Captured, Value, Text, Invoke, Ahead, Back, Closure}
use Rattle.rules.specs.Chunk.{ObjectFunction}
use Rattle.rules.specs.Limits.{first_limits, max_code}
use Rattle.rules.specs.Entry.{Lent, Compiled, functions_are, refused, leaves, compile_tree, compile}
use Rattle.rules.specs.Image.{image_bytes}
use Rattle.rules.specs.Division.{Instruction, division, word}
use Rattle.rules.specs.Checker.{check, code_of, code_place, code_answer}
use Rattle.rules.proofs.Computes as computes

-- the bytes whose digits, two to a byte, are those of `n`
unfoldable pub hex : (count n : ℕ) → List ℕ
hex zero n = []
hex (suc count) n = n / 256 ^ count % 256 ∷ hex count n

-- ## The trees

-- the empty script
abbrev pub P1_tree : List ℕ
P1_tree =
    hex 6 0x5452_0000_0000  -- TR

-- print 1;
abbrev pub P2_tree : List ℕ
P2_tree =
    hex 6 0x5452_0000_0100  -- TR
    ++ hex 10 0x5350_00000000_08000000  -- SP
    ++ hex 19 0x454C_06000000_07000000_03_000000000000F03F  -- EL

-- var a = 1; print a;
abbrev pub P3_tree : List ℕ
P3_tree =
    hex 6 0x5452_0100_0200  -- TR
    ++ hex 5 0x4E4D_0100_61  -- NM
    ++ hex 13 0x5356_00000000_0A000000_0400_01  -- SV
    ++ hex 19 0x454C_08000000_09000000_03_000000000000F03F  -- EL
    ++ hex 10 0x5350_0B000000_13000000  -- SP
    ++ hex 12 0x4556_11000000_12000000_0400  -- EV

-- { var a = nil; print a; }
abbrev pub P4_tree : List ℕ
P4_tree =
    hex 6 0x5452_0100_0100  -- TR
    ++ hex 5 0x4E4D_0100_61  -- NM
    ++ hex 12 0x5342_00000000_19000000_0200  -- SB
    ++ hex 13 0x5356_02000000_0E000000_0400_01  -- SV
    ++ hex 11 0x454C_0A000000_0D000000_02  -- EL
    ++ hex 10 0x5350_0F000000_17000000  -- SP
    ++ hex 12 0x4556_15000000_16000000_0400  -- EV

-- fun f(f) {}
abbrev pub P5_tree : List ℕ
P5_tree =
    hex 6 0x5452_0100_0100  -- TR
    ++ hex 5 0x4E4D_0100_66  -- NM
    ++ hex 18 0x5346_00000000_0B000000_0400_0100_0400_0000  -- SF

-- { var a = a; }
abbrev pub P6_tree : List ℕ
P6_tree =
    hex 6 0x5452_0100_0100  -- TR
    ++ hex 5 0x4E4D_0100_61  -- NM
    ++ hex 12 0x5342_00000000_0E000000_0100  -- SB
    ++ hex 13 0x5356_02000000_0C000000_0400_01  -- SV
    ++ hex 12 0x4556_0A000000_0B000000_0400  -- EV

-- class A < A {}
abbrev pub P7_tree : List ℕ
P7_tree =
    hex 6 0x5452_0100_0100  -- TR
    ++ hex 5 0x4E4D_0100_41  -- NM
    ++ hex 15 0x5343_00000000_0E000000_0400_01_0000  -- SC
    ++ hex 12 0x4556_0A000000_0B000000_0400  -- EV

-- return;
abbrev pub P8_tree : List ℕ
P8_tree =
    hex 6 0x5452_0000_0100  -- TR
    ++ hex 11 0x5352_00000000_07000000_00  -- SR

-- true and false;
abbrev pub P9_tree : List ℕ
P9_tree =
    hex 6 0x5452_0000_0100  -- TR
    ++ hex 10 0x5345_00000000_0F000000  -- SE
    ++ hex 11 0x4549_00000000_0E000000_0A  -- EI
    ++ hex 11 0x454C_00000000_04000000_01  -- EL
    ++ hex 11 0x454C_09000000_0E000000_00  -- EL

-- while (true) print nil;
abbrev pub P10_tree : List ℕ
P10_tree =
    hex 6 0x5452_0000_0100  -- TR
    ++ hex 10 0x5357_00000000_17000000  -- SW
    ++ hex 11 0x454C_07000000_0B000000_01  -- EL
    ++ hex 10 0x5350_0D000000_17000000  -- SP
    ++ hex 11 0x454C_13000000_16000000_02  -- EL

-- fun f(c) { if (c) print 1; else return; }
abbrev pub P11_tree : List ℕ
P11_tree =
    hex 6 0x5452_0200_0100  -- TR
    ++ hex 5 0x4E4D_0100_63  -- NM
    ++ hex 5 0x4E4D_0100_66  -- NM
    ++ hex 18 0x5346_00000000_29000000_0500_0100_0400_0100  -- SF
    ++ hex 11 0x5349_0B000000_27000000_01  -- SI
    ++ hex 12 0x4556_0F000000_10000000_0400  -- EV
    ++ hex 10 0x5350_12000000_1A000000  -- SP
    ++ hex 19 0x454C_18000000_19000000_03_000000000000F03F  -- EL
    ++ hex 11 0x5352_20000000_27000000_00  -- SR

-- fun f(x) { fun g() { return x; } }
abbrev pub P12_tree : List ℕ
P12_tree =
    hex 6 0x5452_0300_0100  -- TR
    ++ hex 5 0x4E4D_0100_66  -- NM
    ++ hex 5 0x4E4D_0100_67  -- NM
    ++ hex 5 0x4E4D_0100_78  -- NM
    ++ hex 18 0x5346_00000000_22000000_0400_0100_0600_0100  -- SF
    ++ hex 16 0x5346_0B000000_20000000_0500_0000_0100  -- SF
    ++ hex 11 0x5352_15000000_1E000000_01  -- SR
    ++ hex 12 0x4556_1C000000_1D000000_0600  -- EV

-- ## What each gives: every function's code and the number of instructions that the checker counts, or the refusal

pub data Given : Type 0 where
  codes : List (List ℕ) → (checked : Answer) → Given
  answer : Answer → Given

abbrev pub given : Compiled → Given
given (functions_are fs) = codes (map (λ (f : ObjectFunction). f.chunk.ops) fs) (check (image_bytes fs))
given (refused x) = answer (refusal_in x)

pub record Row : Type 0 where
  pub tree : List ℕ
  pub gives : Given

abbrev pub row : List ℕ → Given → Row
row tree gives = record { tree = tree; gives = gives }

abbrev pub from_to : (start end : ℕ) → Span
from_to start end = record { start = start; end = end }

-- the script's name is 3, and no function is around it
abbrev pub in_script : Answer → Answer
in_script a = in_function a 3 0

abbrev pub table : List Row
table =
    row P1_tree (codes (hex 2 0x01_24 ∷ []) (accepted 2)) ∷
    row P2_tree (codes (hex 5 0x00_00_1B_01_24 ∷ []) (accepted 4)) ∷
    row P3_tree (codes (hex 9 0x00_00_08_01_07_01_1B_01_24 ∷ []) (accepted 6)) ∷
    row P4_tree (codes (hex 7 0x01_05_00_1B_04_01_24 ∷ []) (accepted 6)) ∷
    row P5_tree (answer (in_function (at_span 10 (from_to 0 11) 4) 4 1)) ∷
    row P6_tree (answer (in_script (at_span 11 (from_to 10 11) 4))) ∷
    row P7_tree (answer (in_script (at_span 12 (from_to 0 14) 4))) ∷
    row P8_tree (answer (in_script (at_span 20 (from_to 0 7) 0))) ∷
    row P9_tree (codes (hex 9 0x02_1D_02_00_04_03_04_01_24 ∷ []) (accepted 7)) ∷
    row P10_tree (codes (hex 13 0x02_1D_06_00_04_01_1B_1E_0A_00_04_01_24 ∷ []) (accepted 9)) ∷
    row P11_tree
    (codes (hex 15 0x05_01_1D_07_00_04_00_00_1B_1C_03_00_04_01_24 ∷ hex 6 0x22_00_08_01_01_24 ∷ []) (accepted 13)) ∷
    row P12_tree (codes (hex 3 0x0A_00_24 ∷ hex 6 0x22_00_01_01_01_24 ∷ hex 6 0x22_00_08_01_01_24 ∷ []) (accepted 9)) ∷ []

abbrev pub P1_image : List ℕ
P1_image =
    hex 6 0x49_4D_01000000
    ++ hex 17 0x46_4E_0300_00_0000_0000_01000000_02000000
    ++ hex 11 0x52_55_00000000_00000000_02
    ++ hex 4 0x43_44_01_24

abbrev pub P2_image : List ℕ
P2_image =
    hex 6 0x49_4D_01000000
    ++ hex 17 0x46_4E_0300_00_0000_0100_03000000_05000000
    ++ hex 10 0x43_4E_000000000000F03F
    ++ hex 11 0x52_55_06000000_07000000_02
    ++ hex 11 0x52_55_00000000_08000000_01
    ++ hex 11 0x52_55_00000000_00000000_02
    ++ hex 7 0x43_44_00_00_1B_01_24

abbrev pub asked : (options table_words code_bytes span_words output_bytes : ℕ) → Lent
asked options table code spans out = record { options = options; table_words = table; code_bytes = code; span_words = spans; output_bytes = out }

abbrev pub lent : (table_words code_bytes span_words output_bytes : ℕ) → Lent
lent = asked 0

-- what jumps go to
abbrev pub target : Operands → (at : ℕ) → (bytes : List ℕ) → List ℕ
target Plain at bytes = []
target Byte at bytes = []
target Captured at bytes = []
target Value at bytes = []
target Text at bytes = []
target Invoke at bytes = []
target Ahead at bytes = (at + 3 + word bytes) ∷ []
target Back at bytes = []
target Closure at bytes = []

abbrev pub targets : Option (List Instruction) → List ℕ
targets none = []
targets (some []) = []
targets (some (i ∷ is)) = target i.operands i.at i.bytes ++ targets (some is)

abbrev pub first_targets : Compiled → List ℕ
first_targets (refused x) = []
first_targets (functions_are []) = []
first_targets (functions_are (f ∷ fs)) = targets (division (f ∷ fs) f)

pub record P1ToP12 : Type 0 where
  pub codes_and_refusals : map (λ (r : Row). given (compile_tree first_limits r.tree max_code)) table ≡ map (λ (r : Row). r.gives) table
  pub P1_whole : compile P1_tree (lent 17_412 2 6 38) ≡ leaves (lent 17_412 2 6 38) (accepted 38) P1_image
  pub P2_whole : compile P2_tree (lent 17_412 5 15 73) ≡ leaves (lent 17_412 5 15 73) (accepted 73) P2_image
  pub P2_room_left : compile P2_tree (lent 17_413 6 16 75) ≡ leaves (lent 17_413 6 16 75) (accepted 73) (P2_image ++ 0 ∷ 0 ∷ [])
  pub P2_out_full : compile P2_tree (lent 17_412 5 15 72) ≡ leaves (lent 17_412 5 15 72) (refusal (OutFull 73)) (replicate 72 0)
  pub P2_code_full : compile P2_tree (lent 17_412 4 15 73) ≡ leaves (lent 17_412 4 15 73) (in_script (refusal CodeFull)) (replicate 73 0)
  pub P2_spans_full : compile P2_tree (lent 17_412 5 14 73) ≡ leaves (lent 17_412 5 14 73) (in_script (refusal CodeFull)) (replicate 73 0)
  -- 30 before 31, 1 before all
  pub P2_code_and_out : compile P2_tree (lent 17_412 4 15 72) ≡ leaves (lent 17_412 4 15 72) (in_script (refusal CodeFull)) (replicate 72 0)
  pub P2_work_short : compile P2_tree (lent 17_411 4 14 72) ≡ leaves (lent 17_411 4 14 72) (refusal WorkShort) (replicate 72 0)
  -- f's JUMP_IF_FALSE goes to 12, its JUMP to the code's end
  pub P11_lands_on_end : first_targets (compile_tree first_limits P11_tree max_code) ≡ 12 ∷ 15 ∷ []
  -- the lookups in P2's image: its code is the last five bytes
  pub P2_code : code_of P2_image 0 ≡ hex 5 0x00_00_1B_01_24
  pub P2_code_place : code_place P2_image 0 ≡ 68
  pub P2_no_function : code_answer P2_image 1 ≡ refusal NoSuchFunction

pub holds : P1ToP12
unfolding hex computes.entry computes.checker
holds =
    record {
      codes_and_refusals = refl;
      P1_whole = refl;
      P2_whole = refl;
      P2_room_left = refl;
      P2_out_full = refl;
      P2_code_full = refl;
      P2_spans_full = refl;
      P2_code_and_out = refl;
      P2_work_short = refl;
      P11_lands_on_end = refl;
      P2_code = refl;
      P2_code_place = refl;
      P2_no_function = refl;
    }
