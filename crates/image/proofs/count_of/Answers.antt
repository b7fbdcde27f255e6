-- `count_of` meets its contract.
use Prim.Native.Nat.{ℕ, ◌<◌, ◌≤◌}
use native.Mathlib.Omega.{arith}
use mathlib.Core.Path.{sym, ◌∙◌}
use lib.ListN.{length}
use borrow.Author.Tests.{leb-true, leb-false}
use Rattle.image.proofs.Whole.{no_room, no_mark, no_functions, answered_wrong, ends_at, answered_behind, all_read, answered_unnamed, answered_yes}
use Rattle.image.proofs.count_of.Goals as goal

pub returns-then-not-has : goal.returns-then-not-has
returns-then-not-has c =
    no_room c.args.image.now (leb-false _ _ (sym c.has.ensures ∙ c.if-not-has.true))

pub mark_at-requires : goal.mark_at-requires
mark_at-requires c = omega (arith, leb-true _ _ (sym c.has.ensures ∙ c.if-not-has.false))

pub returns-then-mark_at-ne-IMAGE : goal.returns-then-mark_at-ne-IMAGE
returns-then-mark_at-ne-IMAGE c =
    no_mark c.args.image.now (leb-true _ _ (sym c.has.ensures ∙ c.if-not-has.false)) (λ q. c.if-mark_at-ne-IMAGE.true (c.mark_at.ensures ∙ q))

pub u32_at-count-requires : goal.u32_at-count-requires
u32_at-count-requires c = omega (arith, leb-true _ _ (sym c.has.ensures ∙ c.if-not-has.false))

pub returns-then-count-eq0 : goal.returns-then-count-eq0
returns-then-count-eq0 c =
    no_functions c.args.image.now (leb-true _ _ (sym c.has.ensures ∙ c.if-not-has.false))
    (sym c.mark_at.ensures ∙ c.if-mark_at-ne-IMAGE.false) c.u32_at-count.result c.u32_at-count.ensures c.if-count-eq0.true

pub judge-requires : goal.judge-requires
judge-requires c = (c.u32_at-count.type_inv, leb-true _ _ (sym c.has.ensures ∙ c.if-not-has.false))

pub returns-in_err-n : goal.returns-in_err-n
returns-in_err-n c =
    let image = c.args.image.now in
    let fits : 6 ≤ length image = leb-true _ _ (sym c.has.ensures ∙ c.if-not-has.false) in
    let marked = sym c.mark_at.ensures ∙ c.if-mark_at-ne-IMAGE.false in
    let count = c.u32_at-count.result in
    let counted = c.u32_at-count.ensures in
    let some : 0 < count = omega (arith, c.if-count-eq0.false) in
    let bytes = λ (i : ℕ). (c.type_inv.image i).fits in
    c.from_residual.ensures ∙ answered_wrong image fits marked count counted some bytes (sym c.in_err-n.was ∙ c.judge.ensures)

pub behind-requires : goal.behind-requires
behind-requires c =
    let image = c.args.image.now in
    let fits : 6 ≤ length image = leb-true _ _ (sym c.has.ensures ∙ c.if-not-has.false) in
    let marked = sym c.mark_at.ensures ∙ c.if-mark_at-ne-IMAGE.false in
    let count = c.u32_at-count.result in
    let counted = c.u32_at-count.ensures in
    let some : 0 < count = omega (arith, c.if-count-eq0.false) in
    let bytes = λ (i : ℕ). (c.type_inv.image i).fits in
    ends_at image fits marked count counted some bytes c.in_ok-n.n c.in_ok-n.end (sym c.in_ok-n.was ∙ c.judge.ensures)

pub returns-then-not-behind : goal.returns-then-not-behind
returns-then-not-behind c =
    let image = c.args.image.now in
    let fits : 6 ≤ length image = leb-true _ _ (sym c.has.ensures ∙ c.if-not-has.false) in
    let marked = sym c.mark_at.ensures ∙ c.if-mark_at-ne-IMAGE.false in
    let count = c.u32_at-count.result in
    let counted = c.u32_at-count.ensures in
    let some : 0 < count = omega (arith, c.if-count-eq0.false) in
    let bytes = λ (i : ℕ). (c.type_inv.image i).fits in
    answered_behind image fits marked count counted some bytes c.in_ok-n.n c.in_ok-n.end (sym c.in_ok-n.was ∙ c.judge.ensures)
    (sym c.if-not-behind.true ∙ c.behind.ensures)

pub all_named_once-requires : goal.all_named_once-requires
all_named_once-requires c =
    let image = c.args.image.now in
    let fits : 6 ≤ length image = leb-true _ _ (sym c.has.ensures ∙ c.if-not-has.false) in
    let marked = sym c.mark_at.ensures ∙ c.if-mark_at-ne-IMAGE.false in
    let count = c.u32_at-count.result in
    let counted = c.u32_at-count.ensures in
    let some : 0 < count = omega (arith, c.if-count-eq0.false) in
    let bytes = λ (i : ℕ). (c.type_inv.image i).fits in
    (some, all_read image fits marked count counted some bytes c.in_ok-n.n c.in_ok-n.end (sym c.in_ok-n.was ∙ c.judge.ensures))

pub returns-then-not-all_named_once : goal.returns-then-not-all_named_once
returns-then-not-all_named_once c =
    let image = c.args.image.now in
    let fits : 6 ≤ length image = leb-true _ _ (sym c.has.ensures ∙ c.if-not-has.false) in
    let marked = sym c.mark_at.ensures ∙ c.if-mark_at-ne-IMAGE.false in
    let count = c.u32_at-count.result in
    let counted = c.u32_at-count.ensures in
    let some : 0 < count = omega (arith, c.if-count-eq0.false) in
    let bytes = λ (i : ℕ). (c.type_inv.image i).fits in
    answered_unnamed image fits marked count counted some bytes c.in_ok-n.n c.in_ok-n.end (sym c.in_ok-n.was ∙ c.judge.ensures)
    (sym c.if-not-behind.false ∙ c.behind.ensures) (sym c.if-not-all_named_once.true ∙ c.all_named_once.ensures)

pub returns : goal.returns
returns c =
    let image = c.args.image.now in
    let fits : 6 ≤ length image = leb-true _ _ (sym c.has.ensures ∙ c.if-not-has.false) in
    let marked = sym c.mark_at.ensures ∙ c.if-mark_at-ne-IMAGE.false in
    let count = c.u32_at-count.result in
    let counted = c.u32_at-count.ensures in
    let some : 0 < count = omega (arith, c.if-count-eq0.false) in
    let bytes = λ (i : ℕ). (c.type_inv.image i).fits in
    answered_yes image fits marked count counted some bytes c.in_ok-n.n c.in_ok-n.end (sym c.in_ok-n.was ∙ c.judge.ensures)
    (sym c.if-not-behind.false ∙ c.behind.ensures) (sym c.if-not-all_named_once.false ∙ c.all_named_once.ensures)
