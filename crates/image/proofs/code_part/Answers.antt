-- `code_part` meets its contract.
use Prim.Native.Nat.{◌<◌, ◌≤◌}
use native.Mathlib.Omega.{arith}
use mathlib.Core.Path.{sym, ◌∙◌}
use Rattle.image.proofs.Lookup.{accepted_is, no_image, no_function, answer_none, answer_past, lost, told_refused, told_record}
use Rattle.fields.specs.Words.{word32}
use Rattle.image.proofs.code_part.Goals as goal

pub returns-in_default : goal.returns-in_default
returns-in_default c =
    let e = sym c.in_default.is ∙ c.count_of.ensures in
    let t = told_refused c.args.image.now c.args.k _ (c.refused.ensures ∙ answer_none _ _ e) (no_image _ _ e) in
    record { value = t.is; lies = t.lies }

pub u32_at-requires : goal.u32_at-requires
u32_at-requires c =
    (accepted_is c.args.image.now c.in-Some.n c.in-Some.end (sym c.in-Some.is ∙ c.count_of.ensures)).room

pub returns-then-k-u32_at : goal.returns-then-k-u32_at
returns-then-k-u32_at c =
    let a = accepted_is c.args.image.now c.in-Some.n c.in-Some.end (sym c.in-Some.is ∙ c.count_of.ensures) in
    let h : word32 c.args.image.now 2 ≤ c.args.k = omega (arith, c.if-k-u32_at.true, c.u32_at.ensures) in
    let t = told_refused _ _ _ (c.refused-then-k-u32_at.ensures ∙ answer_past _ c.args.k a h) (no_function _ c.args.k a h) in
    record { value = t.is; lies = t.lies }

pub returns-in_default-function_place : goal.returns-in_default-function_place
returns-in_default-function_place c =
    let image = c.args.image.now in
    let k = c.args.k in
    let is = accepted_is image c.in-Some.n c.in-Some.end (sym c.in-Some.is ∙ c.count_of.ensures) in
    let there : k < word32 image 2 = omega (arith, c.if-k-u32_at.false, c.u32_at.ensures) in
    lost image k is there (sym c.in_default-function_place.is ∙ c.function_place.ensures)

pub returns : goal.returns
returns c =
    let image = c.args.image.now in
    let k = c.args.k in
    let is = accepted_is image c.in-Some.n c.in-Some.end (sym c.in-Some.is ∙ c.count_of.ensures) in
    let there : k < word32 image 2 = omega (arith, c.if-k-u32_at.false, c.u32_at.ensures) in
    let t = told_record image k is there _ (sym c.in-Some-function_place.is ∙ c.function_place.ensures) _ c.record_part.ensures in
    record { value = t.is; lies = t.lies }
