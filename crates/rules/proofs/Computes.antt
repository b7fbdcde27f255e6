-- Who unfolds one of these unfolds every definition of the file of specs/ that it is named after, and of those that this file stands on, and can
-- compute with them.
use Rattle.rules.specs.Base as in-base
use Rattle.rules.specs.Answer as in-answer
use Rattle.rules.specs.Tree as in_tree
use Rattle.rules.specs.Reader as in-reader
use Rattle.rules.specs.TreeFile as in-tree-file
use Rattle.rules.specs.Op as in-op
use Rattle.rules.specs.Chunk as in-chunk
use Rattle.rules.specs.Compiler as in-compiler
use Rattle.rules.specs.Image as in_image
use Rattle.rules.specs.TreeEncode as in-tree-encode
use Rattle.rules.specs.Entry as in_entry
use Rattle.rules.specs.Division as in-division
use Rattle.rules.specs.ImageFile as in-image-file
use Rattle.rules.specs.Checker as in-checker
use Rattle.rules.specs.Touch as in-touch

unfoldable pub base : Unit {0}
unfolding in-base.one_on in-base.position in-base.lookup in-base.all in-base.all_below in-base.le in-base.before
base = tt

unfoldable pub answer : Unit {0}
unfolding in-answer.refusal in-answer.refusal_in
answer = tt

unfoldable pub tree : Unit {0}
unfolding in_tree.count_exprs
tree = tt

unfoldable pub reader : Unit {0}
unfolding base in-reader.go_on in-reader.◌>>=◌ in-reader.◌>>◌ in-reader.return in-reader.refuse in-reader.here in-reader.need in-reader.known
    in-reader.one_of in-reader.u8 in-reader.u16 in-reader.u32 in-reader.u64 in-reader.mark in-reader.mark_is in-reader.span in-reader.many
reader = tt

unfoldable pub tree_file : Unit {0}
unfolding reader tree in-tree-file.expr_marks in-tree-file.stmt_marks in-tree-file.infix_ops in-tree-file.prefix_ops in-tree-file.literal_kinds
    in-tree-file.flags in-tree-file.fixed_names in-tree-file.read_exprs in-tree-file.read_stmts in-tree-file.read_methods in-tree-file.maybe
    in-tree-file.maybe_stmt in-tree-file.may_open in-tree-file.flag in-tree-file.name in-tree-file.assign_fields in-tree-file.call_fields
    in-tree-file.get_fields in-tree-file.infix_fields in-tree-file.literal_of in-tree-file.literal_fields in-tree-file.prefix_fields
    in-tree-file.set_fields in-tree-file.super_fields in-tree-file.var_fields in-tree-file.expr_fields in-tree-file.expr_mark in-tree-file.expr_record
    in-tree-file.read_expr in-tree-file.read_superclass in-tree-file.block_fields in-tree-file.class_fields in-tree-file.expression_fields
    in-tree-file.fun_fields in-tree-file.if_fields in-tree-file.for_fields in-tree-file.print_fields in-tree-file.return_fields
    in-tree-file.var_stmt_fields in-tree-file.while_fields in-tree-file.stmt_fields in-tree-file.stmt_mark in-tree-file.stmt_record
    in-tree-file.method_record in-tree-file.read_stmt in-tree-file.rises in-tree-file.differs in-tree-file.read_name in-tree-file.read_names
    in-tree-file.read_file in-tree-file.read_tree
tree_file = tt

unfoldable pub op : Unit {0}
unfolding base in-op.operands in-op.operands_of in-op.size_of in-op.width_of in-op.width
op = tt

unfoldable pub chunk : Unit {0}
unfolding base in-chunk.total in-chunk.same_constant in-chunk.same_span in-chunk.push_span in-chunk.write_u8 in-chunk.written in-chunk.write_constant
chunk = tt

unfoldable pub compiler : Unit {0}
unfolding base tree chunk in-compiler.emit_place in-compiler.through in-compiler.further_out in-compiler.resolved in-compiler.put_ctxs
    in-compiler.added in-compiler.back_to in-compiler.go_on in-compiler.◌>>=◌ in-compiler.◌>>◌ in-compiler.return in-compiler.done in-compiler.refuse
    in-compiler.need in-compiler.get in-compiler.the in-compiler.update_ctx in-compiler.find_local in-compiler.capture in-compiler.same_upvalue
    in-compiler.add_upvalue in-compiler.resolve_upvalue in-compiler.resolve in-compiler.declared_here in-compiler.declare_local in-compiler.initialize
    in-compiler.define_local in-compiler.is_global in-compiler.begin_scope in-compiler.begin_ctx in-compiler.finish in-compiler.end_ctx
    in-compiler.open_code in-compiler.push_class_ctx in-compiler.pop_class_ctx in-compiler.code_length in-compiler.set_u16 in-compiler.patch_jump
    in-compiler.prefix_op in-compiler.innermost_has_super in-compiler.need_super in-compiler.slot_zero in-compiler.declare_params
    in-compiler.ends_in_return in-compiler.some_methods in-compiler.fun_name in-compiler.emit_u8 in-compiler.emit_constant in-compiler.emit_op
    in-compiler.emit_op_u8 in-compiler.emit_op_constant in-compiler.emit_invoke in-compiler.emit_upvalues in-compiler.emit_closure
    in-compiler.emit_jump in-compiler.emit_loop in-compiler.pop_locals in-compiler.end_scope in-compiler.get_place in-compiler.get_variable
    in-compiler.set_place in-compiler.set_variable in-compiler.define_global in-compiler.compile_literal in-compiler.compile_infix
    in-compiler.compile_super in-compiler.call_method in-compiler.call_super in-compiler.call_value in-compiler.compile_expr in-compiler.compile_value
    in-compiler.return_value in-compiler.compile_return in-compiler.compile_var in-compiler.define_name in-compiler.compile_superclass
    in-compiler.end_superclass in-compiler.for_cond in-compiler.for_incr in-compiler.for_end in-compiler.implicit_return in-compiler.end_function
    in-compiler.compile_function_with in-compiler.compile_stmt in-compiler.compile_script in-compiler.compile_functions
compiler = tt

unfoldable pub image : Unit {0}
unfolding base chunk in_image.join in_image.constant_bytes in_image.run_bytes in_image.function_bytes in_image.image_bytes in_image.places in_image.directory_bytes in_image.image_with
image = tt

unfoldable pub tree_encode : Unit {0}
unfolding tree image in-tree-encode.byte in-tree-encode.opening in-tree-encode.infix_byte in-tree-encode.prefix_byte in-tree-encode.bit
    in-tree-encode.has in-tree-encode.has_stmt in-tree-encode.count_stmts in-tree-encode.count_methods in-tree-encode.if_some
    in-tree-encode.literal_bytes in-tree-encode.expr_bytes in-tree-encode.superclass_bytes in-tree-encode.stmt_bytes in-tree-encode.name_bytes
    in-tree-encode.encode
tree_encode = tt

unfoldable pub entry : Unit {0}
unfolding base answer tree_file compiler image in_entry.asks_directory in_entry.code_limit in_entry.from_outcome in_entry.from_read in_entry.leaves in_entry.write_image
    in_entry.write_out in_entry.compile_tree in_entry.compile_lent in_entry.compile_within
entry = tt

unfoldable pub division : Unit {0}
unfolding base op chunk in-division.function_kind in-division.kind_of in-division.kind_at in-division.size_with in-division.sized
    in-division.followed_by in-division.with_operands in-division.instruction in-division.divide in-division.division in-division.is_value
    in-division.is_text in-division.is_function in-division.pairs_fit in-division.fit in-division.operands_fit in-division.is_start
    in-division.lands_by in-division.lands in-division.run_fits in-division.runs_fit in-division.code_fits in-division.function_fits in-division.fits
division = tt

unfoldable pub image_file : Unit {0}
unfolding reader image in-image-file.constant_marks in-image-file.constant_fields in-image-file.read_constant in-image-file.read_run
    in-image-file.read_function in-image-file.read_offsets in-image-file.read_directory in-image-file.read_behind in-image-file.read_functions in-image-file.read_image
image_file = tt

unfoldable pub checker : Unit {0}
unfolding answer division image_file in-checker.runs_apart in-checker.distinct in-checker.names_earlier in-checker.all_earlier in-checker.names
    in-checker.names_in_all in-checker.named_once in-checker.closes in-checker.closures in-checker.closed_at in-checker.closed_in
    in-checker.closed_once in-checker.facts in-checker.sound in-checker.instructions in-checker.instruction_count in-checker.checked
    in-checker.image_of in-checker.verdict in-checker.check in-checker.function_numbered in-checker.code_in in-checker.code_of in-checker.code_before
    in-checker.place_in in-checker.code_place in-checker.code_verdict in-checker.code_answer in-checker.code_part in-checker.directory_verdict in-checker.directory_of in-checker.directory_entry in-checker.record_part in-checker.entry_part in-checker.code_through in-checker.span_of
checker = tt

unfoldable pub touch : Unit {0}
unfolding checker in-touch.standing in-touch.standing_in in-touch.all_standing in-touch.names_global in-touch.is_string in-touch.touches
    in-touch.full_list in-touch.search in-touch.touch_verdict in-touch.touch
touch = tt
