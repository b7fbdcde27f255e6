-- `touch` meets its contract.
use native.Mathlib.Omega.{arith}
use Rattle.image_touch.specs.Walked.{Sound}
use Rattle.image_touch.proofs.Searching.{not_image, image_room, image_sound}
use Rattle.image_touch.proofs.touch.Goals as goal
use Rattle.image_touch.proofs.touch.Goals.{After-u32_at-count}

pub returns-then-checked-ne0 : goal.returns-then-checked-ne0
returns-then-checked-ne0 c =
    not_image c.args.image.now c.args.name c.check-checked.result c.check-checked.ensures c.if-checked-ne0.true

pub u32_at-count-requires : goal.u32_at-count-requires
u32_at-count-requires c = image_room c.args.image.now c.check-checked.result c.check-checked.ensures c.if-checked-ne0.false

-- the image is sound, and has as many functions as it says
sound : (c : After-u32_at-count) → Sound c.args.image.now c.u32_at-count.result
sound c =
    image_sound c.args.image.now c.check-checked.result c.check-checked.ensures c.if-checked-ne0.false
    (λ i. (c.type_inv.image i).fits) c.u32_at-count.result c.u32_at-count.ensures c.u32_at-count.type_inv

pub search_by-requires : goal.search_by-requires
search_by-requires c = (sound (goal.at.search_by-requires c).After-u32_at-count, omega arith)

pub search_by-requires-2 : goal.search_by-requires-2
search_by-requires-2 c = (sound (goal.at.search_by-requires-2 c).After-u32_at-count, omega arith)
