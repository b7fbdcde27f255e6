-- Slips this trade makes, each shut out by a law or by the smallest example that shows it. P1 to P12 show some of them too: slot 0 unnamed by P5.
use mathlib.Core.Path.{◌≡◌, refl, ap}
use mathlib.Core.Bool.{Bool, true, false}
use mathlib.Core.Option.{none, some}
use mathlib.Core.List.{List, [], ◌∷◌, ◌++◌}
use Prim.Native.Nat.{ℕ, ◌+◌, ◌-◌, ◌/◌, ◌%◌, ◌≤◌, ◌<◌}
use native.Mathlib.Omega.{arith}
use lib.ListN.{length, replicate}
use lib.Dec.{leb, eqb}
use borrow.Author.Tests.{le-leb, lt-leb, lt-ltb, le-ltb}
use Rattle.rules.specs.Base.{position}
use Rattle.std.specs.Prelude.{if◌then◌else◌}
use Rattle.rules.specs.declared.Span.{Span}
use Rattle.rules.specs.declared.Refusal.{Refusal}
use Rattle.rules.specs.declared.Stopped.{Stopped}
use Rattle.rules.specs.declared.Refusal.TheVariants.{AlreadyDefined, JumpTooLarge, TooManyArgs, TooManyParams, TooManyLocals, TooManyUpvalues}
use Rattle.rules.specs.declared.Refusal.TheVariants.{TreeTooDeep, TooManyOpen, TreeTooLong, ThisOutsideClass, CodeFull, OutFull, ImageRefused, NoSuchFunction}
use Rattle.rules.specs.declared.Answer.{Answer}
use Rattle.rules.specs.Answer.{NO_SPAN, refusal, accepted, outside, refusal_in}
use Rattle.rules.specs.Tree.{Expr, Exprs, ExprAssign, ExprCall, ExprGet, ExprInfix, Literal, ExprPrefix, ExprSet, ExprSuper, ExprVar, []ᵉ, ◌∷ᵉ◌, count_exprs}
use Rattle.rules.specs.Tree.{Less, Not, LitBool, LitNil, LitNumber, LitString}
use Rattle.rules.specs.Tree.{Stmt, Stmts, StmtBlock, StmtClass, StmtExpr, StmtFor, StmtFun, StmtIf, StmtPrint, StmtReturn, StmtVar, StmtWhile, []ˢ, ◌∷ˢ◌, fun, []ᵐ, method}
use Rattle.rules.specs.TreeFile.{read_tree}
use Rattle.rules.specs.TreeEncode.{encode}
use Rattle.rules.specs.Op as op
use Rattle.rules.specs.Chunk.{Chunk, Constant, CN, CS, same_constant, Run, push_span, ObjectFunction, write_constant, written, at_place, no_room}
use Rattle.rules.specs.Image.{image_bytes, places, image_with}
use Rattle.rules.specs.Compiler as c
use Rattle.rules.specs.Compiler.{Compiler, CompilerCtx, FunctionType, Upvalue, ok, err, with_ctx, with_chunk, with_locals, with_upvalues}
use Rattle.rules.specs.Compiler.{ends_in_return, same_upvalue, add_upvalue, added, captured, failed, declared_here, set_u16}
use Rattle.rules.specs.Limits.{Limits, first_limits, max_tree, max_code}
use Rattle.rules.specs.Entry as entry
use Rattle.rules.specs.Entry.{Lent, Left, Compiled, functions_are, refused, leaves, compile_tree, compile_lent, compile_within, compile}
use Rattle.rules.specs.ImageFile.{read_run}
use Rattle.rules.specs.Reader.{got, bad}
use Rattle.rules.specs.Division.{division, function_fits, run_fits}
use Rattle.rules.specs.Checker.{check, code_part, directory_of, code_through, span_of}
use Rattle.rules.specs.Touch.{all_standing, full_list, touch}
use Rattle.rules.proofs.Examples.{hex, P2_tree, P2_image, P12_tree, from_to, asked, lent, given, codes}
use Rattle.rules.proofs.Computes as computes

-- ## "256 arguments", and `super` before the count

-- 256 arguments are too many whatever is called, a method of a superclass outside every class among them
pub too_many_args : (limit : ℕ) (span : Span) (callee : Expr) (args : Exprs) (s : Compiler) → 256 ≤ count_exprs args →
    c.compile_expr limit (ExprCall span callee args) s ≡ err (c.stopped (TooManyArgs span) s)
unfolding c.compile_expr c.◌>>◌ c.go_on c.need
too_many_args limit span callee args s l =
    rw (lt-leb (count_exprs args) 255 (omega arith))

-- 255 are not
pub enough_args : (limit : ℕ) (span : Span) (callee : Expr) (args : Exprs) (s : Compiler) → count_exprs args ≤ 255 →
    c.compile_expr limit (ExprCall span callee args) s
    ≡ c.compile_call limit callee (c.compile_expr limit callee) (c.compile_exprs limit args) (count_exprs args) span s
unfolding c.compile_expr c.◌>>◌ c.go_on c.need
enough_args limit span callee args s l = rw (le-leb (count_exprs args) 255 l)

pub too_many_params : (limit : ℕ) (type : FunctionType) (name : ℕ) (params : List ℕ) (body : c.Compile Unit) (span : Span) (s : Compiler) → 256 ≤ length params →
    c.compile_function_with limit type name params body span s ≡ err (c.stopped (TooManyParams span) s)
unfolding c.compile_function_with c.◌>>◌ c.go_on c.need
too_many_params limit type name params body span s l = rw (lt-leb (length params) 255 (omega arith))

pub enough_params : (limit : ℕ) (type : FunctionType) (name : ℕ) (params : List ℕ) (body : c.Compile Unit) (span : Span) (s : Compiler) →
    length params ≤ 255 → c.compile_function_with limit type name params body span s ≡ c.◌>>=◌ (c.the (λ s. s.ctx.scope_depth))
    (λ depth. c.◌>>◌ (c.begin_ctx (c.new_ctx name (length params) type (depth + 1)))
    (c.◌>>◌ (c.declare_local (c.slot_zero type name) span)
    (c.◌>>◌ c.define_local
    (c.◌>>◌ (c.declare_params params span)
    (c.◌>>◌ body (c.◌>>◌ (c.implicit_return limit) (c.end_function limit span))))))) s
unfolding c.compile_function_with c.◌>>=◌ c.◌>>◌ c.go_on c.need
enough_params limit type name params body span s l = rw (le-leb (length params) 255 l)

-- ## 256 constants, captured variables and locals: one more is refused

pub too_many_constants : (ch : Chunk) (value : Constant) → position (same_constant value) ch.constants ≡ none → 256 ≤ length ch.constants →
    write_constant ch value ≡ no_room
unfolding write_constant written
too_many_constants ch value e l = rw (e, le-ltb (length ch.constants) 256 l)

pub last_constant : (ch : Chunk) (value : Constant) → position (same_constant value) ch.constants ≡ none → length ch.constants ≡ 255 →
    write_constant ch value ≡ at_place 255 (record { ops = ch.ops; constants = ch.constants ++ (value ∷ []); spans = ch.spans })
unfolding write_constant written
last_constant ch value e l = rw (e, l)

pub too_many_upvalues : (u : Upvalue) (span : Span) (ctx : CompilerCtx) (parents : List CompilerCtx) → position (same_upvalue u) ctx.upvalues ≡ none →
    256 ≤ length ctx.upvalues → add_upvalue u span ctx parents ≡ failed (TooManyUpvalues span)
unfolding add_upvalue added
too_many_upvalues u span ctx parents e l = rw (e, le-ltb (length ctx.upvalues) 256 l)

pub last_upvalue : (u : Upvalue) (span : Span) (ctx : CompilerCtx) (parents : List CompilerCtx) → position (same_upvalue u) ctx.upvalues ≡ none →
    length ctx.upvalues ≡ 255 → add_upvalue u span ctx parents ≡ captured 255 (with_upvalues ctx (ctx.upvalues ++ (u ∷ []))) parents
unfolding add_upvalue added
last_upvalue u span ctx parents e l = rw (e, l)

pub too_many_locals : (name : ℕ) (span : Span) (s : Compiler) → declared_here s.ctx.scope_depth name s.ctx.locals ≡ false → 256 ≤ length s.ctx.locals →
    c.declare_local name span s ≡ err (c.stopped (TooManyLocals span) s)
unfolding c.declare_local c.◌>>=◌ c.◌>>◌ c.go_on c.need c.the
too_many_locals name span s e l = rw (e, le-ltb (length s.ctx.locals) 256 l)

abbrev pub with_local : Compiler → (name : ℕ) → Compiler
with_local s name =
    with_ctx s (with_locals s.ctx
    (record { name = name; depth = s.ctx.scope_depth; is_initialized = false; is_captured = false } ∷ s.ctx.locals))

pub enough_locals : (name : ℕ) (span : Span) (s : Compiler) → declared_here s.ctx.scope_depth name s.ctx.locals ≡ false → length s.ctx.locals < 256 →
    c.declare_local name span s ≡ ok tt (with_local s name)
unfolding c.declare_local c.◌>>=◌ c.◌>>◌ c.go_on c.need c.the c.update_ctx
enough_locals name span s e l = rw (e, lt-ltb (length s.ctx.locals) 256 l)

-- a name that its scope has already is 10, however many there are
pub already_declared : (name : ℕ) (span : Span) (s : Compiler) → declared_here s.ctx.scope_depth name s.ctx.locals ≡ true →
    c.declare_local name span s ≡ err (c.stopped (AlreadyDefined span name) s)
unfolding c.declare_local c.◌>>=◌ c.◌>>◌ c.go_on c.need c.the
already_declared name span s e = rw e

-- ## A jump goes 65,535 bytes and no further

-- the operand at this place holds how far it goes
abbrev pub with_operand : Compiler → (at distance : ℕ) → Compiler
with_operand s at distance =
    with_ctx s (with_chunk s.ctx
    (record { ops = set_u16 s.ctx.chunk.ops at distance; constants = s.ctx.chunk.constants; spans = s.ctx.chunk.spans }))

pub near_ahead : (at : ℕ) (span : Span) (s : Compiler) → length s.ctx.chunk.ops - 2 - at ≤ 65_535 →
    c.patch_jump at span s ≡ ok tt (with_operand s at (length s.ctx.chunk.ops - 2 - at))
unfolding c.patch_jump c.code_length c.◌>>=◌ c.◌>>◌ c.go_on c.need c.the c.update_ctx
near_ahead at span s l = rw (le-leb (length s.ctx.chunk.ops - 2 - at) 65_535 l)

pub too_far_ahead : (at : ℕ) (span : Span) (s : Compiler) → 65_535 < length s.ctx.chunk.ops - 2 - at →
    c.patch_jump at span s ≡ err (c.stopped (JumpTooLarge span) s)
unfolding c.patch_jump c.code_length c.◌>>=◌ c.◌>>◌ c.go_on c.need c.the
too_far_ahead at span s l = rw (lt-leb (length s.ctx.chunk.ops - 2 - at) 65_535 l)

pub near_back : (limit start : ℕ) (span : Span) (s : Compiler) → length s.ctx.chunk.ops + 3 - start ≤ 65_535 →
    c.emit_loop limit start span s ≡ c.◌>>◌ (c.emit_u8 limit op.LOOP span)
    (c.◌>>◌ (c.emit_u8 limit ((length s.ctx.chunk.ops + 3 - start) % 256) span)
    (c.emit_u8 limit ((length s.ctx.chunk.ops + 3 - start) / 256) span)) s
unfolding c.emit_loop c.code_length c.◌>>=◌ c.◌>>◌ c.go_on c.need c.the
near_back limit start span s l = rw (le-leb (length s.ctx.chunk.ops + 3 - start) 65_535 l)

pub too_far_back : (limit start : ℕ) (span : Span) (s : Compiler) → 65_535 < length s.ctx.chunk.ops + 3 - start →
    c.emit_loop limit start span s ≡ err (c.stopped (JumpTooLarge span) s)
unfolding c.emit_loop c.code_length c.◌>>=◌ c.◌>>◌ c.go_on c.need c.the
too_far_back limit start span s l = rw (lt-leb (length s.ctx.chunk.ops + 3 - start) 65_535 l)

-- ## The last byte and not the last instruction

pub by_last_byte : (ops : List ℕ) (b : ℕ) → ends_in_return (ops ++ (b ∷ [])) ≡ eqb b op.RETURN
unfolding ends_in_return
by_last_byte [] b = refl
by_last_byte (x ∷ []) b = refl
by_last_byte (x ∷ y ∷ ops) b = by_last_byte (y ∷ ops) b

-- ## Runs: 0..0 is a span like any other, and no run passes 255

-- print nil; with the spans 0..0 in the tree: its bytes and the script's own return are one run of four
abbrev nowhere_tree : List ℕ
nowhere_tree =
    hex 6 0x5452_0000_0100  -- TR
    ++ hex 10 0x5350_00000000_00000000  -- SP
    ++ hex 11 0x454C_00000000_00000000_02  -- EL

pub one_run : compile_tree first_limits nowhere_tree max_code
    ≡ functions_are
    (record {
      name = 3;
      arity = 0;
      upvalue_count = 0;
      chunk = record { ops = hex 4 0x01_1B_01_24; constants = []; spans = record { span = NO_SPAN; count = 4 } ∷ [] };
    }
    ∷ [])
unfolding hex computes.entry
one_run = refl

pub full_run : push_span (record { span = from_to 1 2; count = 254 } ∷ []) (from_to 1 2) ≡ record { span = from_to 1 2; count = 255 } ∷ []
unfolding computes.entry
full_run = refl

pub next_run : push_span (record { span = from_to 1 2; count = 255 } ∷ []) (from_to 1 2)
    ≡ record { span = from_to 1 2; count = 255 } ∷ record { span = from_to 1 2; count = 1 } ∷ []
unfolding computes.entry
next_run = refl

-- ## A constant is found by kind and content

pub other_kind : (n : ℕ) → same_constant (CN n) (CS n) ≡ false
unfolding same_constant
other_kind n = refl

-- ## 31 only where all else is accepted

pub refused_first : (limits : Limits) (tree : List ℕ) (lent : Lent) (x : Stopped) → compile_lent limits tree lent ≡ refused x →
    (compile_within limits tree lent).answer ≡ refusal_in x
unfolding compile_within entry.write_out entry.leaves
refused_first limits tree lent x e = ap (λ (x : Compiled). (entry.write_out lent x).answer) e

-- ## Work areas end all zero, whatever the answer

pub record Zero (lent : Lent) (left : Left) : Type 0 where
  pub table : left.table ≡ replicate lent.table_words 0
  pub code : left.code ≡ replicate lent.code_bytes 0
  pub spans : left.spans ≡ replicate lent.span_words 0

leaves_zero : (lent : Lent) (answer : Answer) (output : List ℕ) → Zero lent (entry.leaves lent answer output)
unfolding entry.leaves
leaves_zero lent answer output = record { table = refl; code = refl; spans = refl }

image_zero : (lent : Lent) (image : List ℕ) → Zero lent (entry.write_image lent image)
unfolding entry.write_image
image_zero lent image = by_room (leb (length image) lent.output_bytes)
  where
    by_room : (b : Bool) →
        Zero lent
        (if b
        then entry.leaves lent (accepted (length image)) (image ++ replicate (lent.output_bytes - length image) 0)
        else entry.leaves lent (refusal (OutFull (length image))) (replicate lent.output_bytes 0))
    by_room true = leaves_zero lent _ _
    by_room false = leaves_zero lent _ _

pub work_areas_zero : (limits : Limits) (tree : List ℕ) (lent : Lent) → Zero lent (compile_within limits tree lent)
unfolding compile_within entry.write_out
work_areas_zero limits tree lent = by_answer (compile_lent limits tree lent)
  where
    by_answer : (x : Compiled) → Zero lent (entry.write_out lent x)
    by_answer (refused x) = leaves_zero lent _ _
    by_answer (functions_are fs) = image_zero lent _

-- ## The reader's limits are what it is given: P2 has depth 2, and P12 two `SF` inside one another

abbrev limits : (depth funs : ℕ) → Limits
limits d f = record { depth = d; funs = f; table_bytes = 0 }

pub record AtLimits : Type 0 where
  pub deep_enough : compile_tree (limits 2 0) P2_tree max_code ≡ compile_tree first_limits P2_tree max_code
  pub too_deep : compile_tree (limits 1 0) P2_tree max_code ≡ refused (outside (TreeTooDeep 16))
  pub open_enough : compile_tree (limits 4 2) P12_tree max_code ≡ compile_tree first_limits P12_tree max_code
  pub too_many_open : compile_tree (limits 4 1) P12_tree max_code ≡ refused (outside (TooManyOpen 39))

pub at_limits : AtLimits
unfolding hex computes.entry
at_limits = record { deep_enough = refl; too_deep = refl; open_enough = refl; too_many_open = refl }

-- 2, for every tree that is too long
pub too_long : (limits : Limits) (tree : List ℕ) (limit : ℕ) → max_tree < length tree → compile_tree limits tree limit ≡ refused (outside TreeTooLong)
unfolding compile_tree
too_long limits tree limit long = rw (lt-leb (length tree) max_tree long)

-- ## The division: an instruction that the code's end cuts is none, whatever the runs

abbrev one_byte : (opcode : ℕ) → ObjectFunction
one_byte opcode =
    record {
      name = 3;
      arity = 0;
      upvalue_count = 0;
      chunk = record { ops = opcode ∷ []; constants = []; spans = record { span = NO_SPAN; count = 1 } ∷ [] };
    }

pub record Cut : Type 0 where
  pub call : division (one_byte op.CALL ∷ []) (one_byte op.CALL) ≡ none
  pub get_local : function_fits (one_byte op.GET_LOCAL ∷ []) (one_byte op.GET_LOCAL) ≡ false

pub cut : Cut
unfolding computes.division
cut = record { call = refl; get_local = refl }

-- ## The span of a byte: the last of a run, the first of the next, and past the end

abbrev two_runs : List Run
two_runs = record { span = from_to 1 2; count = 3 } ∷ record { span = from_to 4 6; count = 1 } ∷ []

pub record Spans : Type 0 where
  pub last_of_first : span_of two_runs 2 ≡ record { number = 0; at = 1; end = 2; name = 0; length = 0; function = 0; around = 0 }
  pub first_of_next : span_of two_runs 3 ≡ record { number = 0; at = 4; end = 6; name = 0; length = 0; function = 0; around = 0 }
  pub past_the_end : span_of two_runs 4 ≡ record { number = 42; at = 0; end = 0; name = 0; length = 0; function = 0; around = 0 }

pub spans : Spans
unfolding computes.checker
spans = record { last_of_first = refl; first_of_next = refl; past_the_end = refl }

-- ## A run may stand for 255 bytes, and its span is read back as it was written

pub record ReadRuns : Type 0 where
  pub longest : run_fits (record { span = NO_SPAN; count = 255 }) ≡ true
  pub too_long_a_run : run_fits (record { span = NO_SPAN; count = 256 }) ≡ false
  pub as_written : read_run (hex 11 0x52_55_04000000_06000000_01) 0 ≡ got (record { span = from_to 4 6; count = 1 }) 11

pub read_runs : ReadRuns
unfolding hex computes.division computes.image_file
read_runs = record { longest = refl; too_long_a_run = refl; as_written = refl }

-- ## An image has one form: to the last byte, and with a function

pub record OneForm : Type 0 where
  pub as_written : check P2_image ≡ accepted 4
  pub one_byte_more : check (P2_image ++ 0 ∷ []) ≡ refusal ImageRefused
  pub no_functions : check (hex 6 0x494D_0000_0000) ≡ refusal ImageRefused

pub one_form : OneForm
unfolding hex computes.checker
one_form = record { as_written = refl; one_byte_more = refl; no_functions = refl }

-- ## INVOKE has its count, METHOD takes a string

-- nil.m();
abbrev invoke_tree : List ℕ
invoke_tree =
    hex 6 0x5452_0100_0100  -- TR
    ++ hex 5 0x4E4D_0100_6D  -- NM
    ++ hex 10 0x5345_00000000_08000000  -- SE
    ++ hex 12 0x4543_00000000_07000000_0000  -- EC
    ++ hex 12 0x4547_00000000_05000000_0400  -- EG
    ++ hex 11 0x454C_00000000_03000000_02  -- EL

-- class A { m() {} }
abbrev method_tree : List ℕ
method_tree =
    hex 6 0x5452_0200_0100  -- TR
    ++ hex 5 0x4E4D_0100_41  -- NM
    ++ hex 5 0x4E4D_0100_6D  -- NM
    ++ hex 15 0x5343_00000000_12000000_0400_00_0100  -- SC
    ++ hex 16 0x5346_0A000000_10000000_0500_0000_0000  -- SF

pub record Named : Type 0 where
  pub invoke : given (compile_tree first_limits invoke_tree max_code) ≡ codes (hex 7 0x01_20_00_00_04_01_24 ∷ []) (accepted 5)
  pub method : given (compile_tree first_limits method_tree max_code)
      ≡ codes (hex 2 0x01_24 ∷ hex 13 0x25_00_08_00_07_00_22_01_27_02_04_01_24 ∷ []) (accepted 10)

pub named : Named
unfolding hex computes.entry computes.checker
named = record { invoke = refl; method = refl }

-- ## The directory: in the output and in 31's length where it is asked for, and held to the records by the checker

abbrev P2_directory : List ℕ
P2_directory = hex 10 0x44_58_01000000_06000000

abbrev functions_in : Compiled → List ObjectFunction
functions_in (refused x) = []
functions_in (functions_are functions) = functions

abbrev methods : List ObjectFunction
methods = functions_in (compile_tree first_limits method_tree max_code)

abbrev methods_image : List ℕ
methods_image = image_with true methods

pub record Directory : Type 0 where
  pub asked_for : compile P2_tree (asked 2 17_412 5 15 84) ≡ leaves (asked 2 17_412 5 15 84) (accepted 83) (P2_image ++ P2_directory ++ 0 ∷ [])
  pub out_full : compile P2_tree (asked 2 17_412 5 15 82) ≡ leaves (asked 2 17_412 5 15 82) (refusal (OutFull 83)) (replicate 82 0)
  pub other_bits : compile P2_tree (asked 5 17_412 5 15 73) ≡ leaves (asked 5 17_412 5 15 73) (accepted 73) P2_image
  pub accepts : check (P2_image ++ P2_directory) ≡ accepted 4
  pub offset_off : check (P2_image ++ hex 10 0x44_58_01000000_07000000) ≡ refusal ImageRefused
  pub count_off : check (P2_image ++ hex 10 0x44_58_00000000_06000000) ≡ refusal ImageRefused
  pub cut_short : check (P2_image ++ hex 9 0x44_58_01000000_060000) ≡ refusal ImageRefused
  pub one_byte_more : check (P2_image ++ P2_directory ++ 0 ∷ []) ≡ refusal ImageRefused
  pub twice : check (P2_image ++ P2_directory ++ P2_directory) ≡ refusal ImageRefused
  -- the second function's record stands behind the first's 32 bytes, and its offset is read
  pub second_place : places 6 methods ≡ 6 ∷ 38 ∷ []
  pub two_accepted : check methods_image ≡ accepted 10
  pub second_off : check (image_bytes methods ++ hex 14 0x44_58_02000000_06000000_27000000) ≡ refusal ImageRefused
  -- where it is, and where there is none
  pub found : directory_of (P2_image ++ P2_directory) ≡ record { number = 0; at = 73; end = 83; name = 0; length = 1; function = 0; around = 0 }
  pub none_there : directory_of P2_image ≡ accepted 0
  -- through it
  pub first_through : code_through methods_image (directory_of methods_image).at 0 ≡ code_part methods_image 0
  pub second_through : code_through methods_image (directory_of methods_image).at 1 ≡ code_part methods_image 1
  pub second_number : (code_part methods_image 1).number ≡ 0
  pub no_third : code_through methods_image (directory_of methods_image).at 2 ≡ refusal NoSuchFunction
  pub no_directory : code_through P2_image 6 0 ≡ refusal ImageRefused
  pub not_to_the_end : code_through (P2_image ++ P2_directory ++ 0 ∷ []) 73 0 ≡ refusal ImageRefused

pub directory : Directory
unfolding hex computes.entry computes.checker
directory =
    record {
      asked_for = refl;
      out_full = refl;
      other_bits = refl;
      accepts = refl;
      offset_off = refl;
      count_off = refl;
      cut_short = refl;
      one_byte_more = refl;
      twice = refl;
      second_place = refl;
      two_accepted = refl;
      second_off = refl;
      found = refl;
      none_there = refl;
      first_through = refl;
      second_through = refl;
      second_number = refl;
      no_third = refl;
      no_directory = refl;
      not_to_the_end = refl;
    }

-- ## What names a global: the three instructions alone, in image order, counted up to the one found

-- fun f() { print a; } print "a"; var a;
abbrev touch_tree : List ℕ
touch_tree =
    hex 6 0x5452_0200_0300  -- TR
    ++ hex 5 0x4E4D_0100_61  -- NM
    ++ hex 5 0x4E4D_0100_66  -- NM
    ++ hex 16 0x5346_00000000_14000000_0500_0000_0100  -- SF
    ++ hex 10 0x5350_0A000000_12000000  -- SP
    ++ hex 12 0x4556_10000000_11000000_0400  -- EV
    ++ hex 10 0x5350_15000000_1F000000  -- SP
    ++ hex 13 0x454C_1B000000_1E000000_04_0400  -- EL
    ++ hex 13 0x5356_20000000_26000000_0400_00  -- SV

abbrev touch_functions : List ObjectFunction
touch_functions = functions_in (compile_tree first_limits touch_tree max_code)

pub record Touched : Type 0 where
  pub whole_list : full_list 4 (all_standing touch_functions 0 touch_functions) ≡ (0, 0) ∷ (1, 8) ∷ []
  pub first_function : touch (image_bytes touch_functions) 4 ≡ record { number = 0; at = 0; end = 2; name = 0; length = 1; function = 0; around = 0 }
  pub second_function : touch (image_with true touch_functions) 5 ≡ record { number = 0; at = 2; end = 4; name = 1; length = 6; function = 0; around = 0 }
  pub not_named : touch (image_bytes touch_functions) 6 ≡ accepted 12
  pub no_image : touch touch_tree 4 ≡ refusal ImageRefused

pub touched : Touched
unfolding hex computes.entry computes.touch
touched = record { whole_list = refl; first_function = refl; second_function = refl; not_named = refl; no_image = refl }

-- ## The code limit: at most 262,144, and on the open functions' code, summed

abbrev print_nil : List ℕ
print_nil =
    hex 10 0x5350_00000000_0A000000  -- SP
    ++ hex 11 0x454C_06000000_09000000_02  -- EL

-- print nil; fun f() { print nil; print nil; print nil; }
abbrev open_tree : List ℕ
open_tree =
    hex 6 0x5452_0100_0200  -- TR
    ++ hex 5 0x4E4D_0100_66  -- NM
    ++ print_nil
    ++ hex 16 0x5346_0B000000_37000000_0400_0000_0300  -- SF
    ++ print_nil
    ++ print_nil
    ++ print_nil

-- two bytes of the script stand before the eight of f; the script itself has eight in the end
pub record Limited : Type 0 where
  pub capped : entry.code_limit (lent 0 262_145 786_435 0) ≡ max_code
  pub summed : compile_tree first_limits open_tree 9 ≡ refused (record { what = CodeFull; function = 4; around = 1 })
  pub enough : given (compile_tree first_limits open_tree 10)
      ≡ codes (hex 8 0x01_1B_01_1B_01_1B_01_24 ∷ hex 8 0x01_1B_22_00_08_01_01_24 ∷ []) (accepted 14)

pub limited : Limited
unfolding hex computes.entry computes.checker
limited = record { capped = refl; summed = refl; enough = refl }

-- ## Which function a refusal is in: the one whose context is open then, f being 5

abbrev somewhere : Span
somewhere = from_to 1 2

abbrev f_with : (params : List ℕ) → Stmts → Stmt
f_with params body = StmtFun somewhere (fun 5 params body)

-- { var a; fun f() { return a; } }: f has three bytes behind one of the script, and then its closure four
abbrev f_captures : Stmts
f_captures =
    StmtBlock somewhere (StmtVar somewhere 4 none ∷ˢ f_with [] (StmtReturn somewhere (some (ExprVar somewhere 4)) ∷ˢ []ˢ) ∷ˢ []ˢ) ∷ˢ []ˢ

-- { var f; fun f() {} }
abbrev f_again : Stmts
f_again = StmtBlock somewhere (StmtVar somewhere 5 none ∷ˢ f_with [] []ˢ ∷ˢ []ˢ) ∷ˢ []ˢ

-- fun f() { fun g() { return this; } }
abbrev this_in_g : Stmts
this_in_g = f_with [] (StmtFun somewhere (fun 6 [] (StmtReturn somewhere (some (ExprVar somewhere 0)) ∷ˢ []ˢ)) ∷ˢ []ˢ) ∷ˢ []ˢ

abbrev in_the : (function around : ℕ) → Refusal → Stopped
in_the function around r = record { what = r; function = function; around = around }

pub record Located : Type 0 where
  pub its_byte : c.compile_functions 3 f_captures ≡ err (in_the 5 1 CodeFull)
  pub its_closure : c.compile_functions 4 f_captures ≡ err (in_the 3 0 CodeFull)
  pub its_parameter : c.compile_functions max_code (f_with (4 ∷ 4 ∷ []) []ˢ ∷ˢ []ˢ) ≡ err (in_the 5 1 (AlreadyDefined somewhere 4))
  pub its_slot_zero : c.compile_functions max_code (f_with (5 ∷ []) []ˢ ∷ˢ []ˢ) ≡ err (in_the 5 1 (AlreadyDefined somewhere 5))
  pub its_name : c.compile_functions max_code f_again ≡ err (in_the 3 0 (AlreadyDefined somewhere 5))
  pub in_two : c.compile_functions max_code this_in_g ≡ err (in_the 6 2 (ThisOutsideClass somewhere))

pub located : Located
unfolding computes.compiler
located = record { its_byte = refl; its_closure = refl; its_parameter = refl; its_slot_zero = refl; its_name = refl; in_two = refl }

-- ## The tree file written: every record once, its bytes written out from document 01

-- class a < b { b(a) { return super.a; } } for (var a = 1; a < nil; a = !true) a.b("b"); if (false) {} else print a.b = nil; while (true) {}
abbrev every_record : Stmts
every_record =
    StmtClass (from_to 1 2) 4 (some (record { span = from_to 3 4; name = 5 }))
    (method (from_to 5 6) (fun 5 (4 ∷ []) (StmtReturn (from_to 7 8) (some (ExprSuper (from_to 9 10) 4)) ∷ˢ []ˢ)) []ᵐ) ∷ˢ
    StmtFor (from_to 11 12) (StmtVar (from_to 13 14) 4 (some (Literal (from_to 15 16) (LitNumber 0x3FF0_0000_0000_0000))) ∷ˢ []ˢ)
    (some (ExprInfix (from_to 17 18) Less (ExprVar (from_to 19 20) 4) (Literal (from_to 21 22) LitNil)))
    (StmtExpr (from_to 23 24)
    (ExprCall (from_to 25 26) (ExprGet (from_to 27 28) 5 (ExprVar (from_to 29 30) 4)) (Literal (from_to 31 32) (LitString 5) ∷ᵉ []ᵉ)))
    (some (ExprAssign (from_to 33 34) 4 (ExprPrefix (from_to 35 36) Not (Literal (from_to 37 38) (LitBool true))))) ∷ˢ
    StmtIf (from_to 39 40) (Literal (from_to 41 42) (LitBool false)) (StmtBlock (from_to 43 44) []ˢ)
    (StmtPrint (from_to 45 46) (ExprSet (from_to 47 48) 5 (Literal (from_to 49 50) LitNil) (ExprVar (from_to 51 52) 4)) ∷ˢ []ˢ) ∷ˢ
    StmtWhile (from_to 53 54) (Literal (from_to 55 56) (LitBool true)) (StmtBlock (from_to 57 58) []ˢ) ∷ˢ []ˢ

abbrev every_tree : List ℕ
every_tree =
    hex 6 0x5452_0200_0400  -- TR
    ++ hex 5 0x4E4D_0100_61  -- NM
    ++ hex 5 0x4E4D_0100_62  -- NM
    ++ hex 15 0x5343_01000000_02000000_0400_01_0100  -- SC
    ++ hex 12 0x4556_03000000_04000000_0500  -- EV
    ++ hex 18 0x5346_05000000_06000000_0500_0100_0400_0100  -- SF
    ++ hex 11 0x5352_07000000_08000000_01  -- SR
    ++ hex 12 0x4555_09000000_0A000000_0400  -- EU
    ++ hex 11 0x534F_0B000000_0C000000_07  -- SO
    ++ hex 13 0x5356_0D000000_0E000000_0400_01  -- SV
    ++ hex 19 0x454C_0F000000_10000000_03_000000000000F03F  -- EL
    ++ hex 11 0x4549_11000000_12000000_04  -- EI
    ++ hex 12 0x4556_13000000_14000000_0400  -- EV
    ++ hex 11 0x454C_15000000_16000000_02  -- EL
    ++ hex 10 0x5345_17000000_18000000  -- SE
    ++ hex 12 0x4543_19000000_1A000000_0100  -- EC
    ++ hex 12 0x4547_1B000000_1C000000_0500  -- EG
    ++ hex 12 0x4556_1D000000_1E000000_0400  -- EV
    ++ hex 13 0x454C_1F000000_20000000_04_0500  -- EL
    ++ hex 12 0x4541_21000000_22000000_0400  -- EA
    ++ hex 11 0x4550_23000000_24000000_01  -- EP
    ++ hex 11 0x454C_25000000_26000000_01  -- EL
    ++ hex 11 0x5349_27000000_28000000_01  -- SI
    ++ hex 11 0x454C_29000000_2A000000_00  -- EL
    ++ hex 12 0x5342_2B000000_2C000000_0000  -- SB
    ++ hex 10 0x5350_2D000000_2E000000  -- SP
    ++ hex 12 0x4553_2F000000_30000000_0500  -- ES
    ++ hex 11 0x454C_31000000_32000000_02  -- EL
    ++ hex 12 0x4556_33000000_34000000_0400  -- EV
    ++ hex 10 0x5357_35000000_36000000  -- SW
    ++ hex 11 0x454C_37000000_38000000_01  -- EL
    ++ hex 12 0x5342_39000000_3A000000_0000  -- SB

pub every_record_written : encode ((0x61 ∷ []) ∷ (0x62 ∷ []) ∷ []) every_record ≡ every_tree
unfolding hex computes.tree_encode
every_record_written = refl

-- five deep and one function; with less of either, the record that is one too many
pub every_record_read : read_tree every_tree 5 1 ≡ got every_record (length every_tree)
unfolding hex computes.entry
every_record_read = refl

pub one_too_deep : read_tree every_tree 4 1 ≡ bad (TreeTooDeep 195)
unfolding hex computes.entry
one_too_deep = refl

pub one_too_many : read_tree every_tree 5 0 ≡ bad (TooManyOpen 43)
unfolding hex computes.entry
one_too_many = refl
