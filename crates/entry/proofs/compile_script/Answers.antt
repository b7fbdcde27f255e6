-- The script: its statements, its end, and it is finished. The places first, each over the one before: of a call `-asked` is the place where it is made,
-- `-left` the call from where its areas have come back, `-went` and `-halted` the call once its answer is known.
use native.Mathlib.Omega.{arith}
use Rattle.rules.specs.Limits.{first_limits}
use Rattle.entry.proofs.Rows.{there}
use Rattle.entry.proofs.Script.{ready, stopped_first, fit_between, stopped_second, to_finish, scripted}
use Rattle.entry.proofs.compile_script.Goals as goal

-- ## The needs
pub compile_stmts-a-requires : goal.compile_stmts-a-requires
compile_stmts-a-requires c =
    record { left = first_limits.depth; there = there c.requires.0; ready = ready c.requires.1 _ _ c.requires.0.short }

pub returns-in_default-clause-does : goal.returns-in_default-clause-does
returns-in_default-clause-does c =
    stopped_first c.requires.0 c.requires.1 (c.compile_stmts-a.ensures.does.at_depth first_limits.depth) c.in_default.is

pub end_script-b-requires : goal.end_script-b-requires
end_script-b-requires c =
    fit_between c.requires.0 c.requires.1 (c.compile_stmts-a.ensures.does.at_depth first_limits.depth) c.in-Ok.is

pub returns-in_default-b-clause-does : goal.returns-in_default-b-clause-does
returns-in_default-b-clause-does c =
    stopped_second c.requires.0 c.requires.1 (c.compile_stmts-a.ensures.does.at_depth first_limits.depth) c.in-Ok.is c.end_script-b.ensures.does c.in_default-b.is

pub finish_in-requires : goal.finish_in-requires
finish_in-requires c =
    to_finish c.requires.0 c.requires.1 (c.compile_stmts-a.ensures.does.at_depth first_limits.depth) c.in-Ok.is c.end_script-b.ensures.does
    c.in-Ok-b.is

pub overflow_add-result : goal.overflow_add-result
overflow_add-result c =
    let f = to_finish c.requires.0 c.requires.1 (c.compile_stmts-a.ensures.does.at_depth first_limits.depth) c.in-Ok.is c.end_script-b.ensures.does
    c.in-Ok-b.is in
    omega (arith, c.finish_in.ensures.does.bytes, f.2)

pub returns-clause-does : goal.returns-clause-does
returns-clause-does c =
    scripted c.requires.0 c.requires.1 (c.compile_stmts-a.ensures.does.at_depth first_limits.depth) c.in-Ok.is c.end_script-b.ensures.does c.in-Ok-b.is
    c.finish_in.ensures.does
