-- `open_function` meets its contract.
use Rattle.state.specs.Kinds.{number_of}
use Rattle.stmt_opening.proofs.Opening.{too_many, first_stop, first_wf, params_last, params_there, of_kind}
use Rattle.stmt_opening.proofs.open_function.Goals as goal

pub returns-then-count-gt-PARAMS : goal.returns-then-count-gt-PARAMS
returns-then-count-gt-PARAMS c = let a = c.args in too_many a.level a.kind a.tree.now a.at a.span a.t.now _ c.u16_at-count.ensures c.if-count-gt-PARAMS.true

pub returns-in_default : goal.returns-in_default
returns-in_default c =
    let a = c.args in of_kind a.level _ a.kind a.tree.now a.at a.span _ _ _ c.from-what.ensures
    (first_stop a.level (number_of c.from-what.result) a.tree.now a.at a.span a.t.now _
    c.u16_at-count.ensures _ c.u16_at-name.ensures _ c.requires.1
    c.if-count-gt-PARAMS.false c.begin_ctx.ensures c.slot_zero.ensures
    c.declare_named-a.ensures c.in_default.is)

pub declare_params-requires : goal.declare_params-requires
declare_params-requires c =
    let a = c.args in (
      params_there a.tree.now a.at c.u16_at-count.ensures
          c.requires.0,
      c.requires.1,
      first_wf a.level (number_of c.from-what.result) a.tree.now a.at a.span
          a.t.now _ c.u16_at-count.ensures _ c.u16_at-name.ensures _
          c.requires.1 c.if-count-gt-PARAMS.false c.begin_ctx.ensures
          c.slot_zero.ensures c.declare_named-a.ensures c.in-Ok.is,
    )

pub returns : goal.returns
returns c =
    let a = c.args in of_kind a.level _ a.kind a.tree.now a.at a.span _ _ _ c.from-what.ensures
    (params_last a.level (number_of c.from-what.result) a.tree.now a.at a.span a.t.now _
    c.u16_at-count.ensures _ c.u16_at-name.ensures _ c.requires.1
    c.if-count-gt-PARAMS.false c.begin_ctx.ensures c.slot_zero.ensures
    c.declare_named-a.ensures c.in-Ok.is c.declare_params.ensures)
