-- The measure of `resolve_upvalue` is the level.
use Rattle.state_names.proofs.+resolve_upvalue.Given as goal

abbrev pub decreases-resolve_upvalue : goal.decreases-resolve_upvalue
decreases-resolve_upvalue l = l.level
