-- `code_of` meets its contract: the stretch that is told of the lookup.
use Prim.Native.Nat.{ℕ, ◌+◌}
use native.Mathlib.Omega.{arith}
use mathlib.Core.Path.{refl, ap}
use Rattle.image.proofs.Lookup.{place_of, end_of, ends_within, part_is}
use Rattle.image.proofs.code_of.Goals as goal

pub slice_bounds-result-count : goal.slice_bounds-result-count
slice_bounds-result-count c =
    let part = c.code_part-part.result in
    let p = end_of c.args.image.now c.args.k part c.code_part-part.ensures.value c.code_part-part.ensures.lies in
    omega (arith, p)

pub slice_bounds-result-start : goal.slice_bounds-result-start
slice_bounds-result-start c =
    let part = c.code_part-part.result in
    let p = end_of c.args.image.now c.args.k part c.code_part-part.ensures.value c.code_part-part.ensures.lies in
    omega (arith, p)

pub slice_bounds-result-end : goal.slice_bounds-result-end
slice_bounds-result-end c =
    let part = c.code_part-part.result in
    let p = ends_within c.args.image.now c.args.k part c.code_part-part.ensures.value c.code_part-part.ensures.lies in
    omega (arith, p)

pub returns : goal.returns
returns c =
    let part = c.code_part-part.result in
    let e = c.code_part-part.ensures.value in
    let l = c.code_part-part.ensures.lies in
    record {
      result_value = part_is c.args.image.now c.args.k part e l _ _ refl refl;
      ref_ptr_value = (refl, ap (λ (x : ℕ). x + c.args.image.ref_ptr.1) (place_of c.args.image.now c.args.k part e l));
    }
