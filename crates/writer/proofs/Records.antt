-- A whole function's record: what is put one after the other is what the rules' encoder makes of the function that stands at a level.
use mathlib.Core.Path.{◌≡◌, refl, sym, ap, ◌∙◌, subst}
use mathlib.Core.List.{List, ◌∷◌, ◌++◌, []}
use Prim.Native.Nat.{ℕ, zero, suc, ◌+◌, ◌-◌, ◌*◌}
use native.Mathlib.Omega.{arith}
use lib.ListN.{length, get_or}
use Rattle.rules.specs.Base.{le}
use Rattle.rules.specs.Chunk.{Constant, Run}
use Rattle.rules.specs.Image.{join, constant_bytes, run_bytes, function_bytes}
use Rattle.rules.specs.Compiler.{finish}
use Rattle.state.specs.Layout.{row, constant_of, run_at, upvalue_of, start_of_code, end_of_code, start_of_runs, end_of_runs, chunk_at, ctx_at, upvalues_place, upvalue_count_place, constants_place, constant_count_place, name_place, arity_place, level_words}
use Rattle.state.proofs.Laws.{row_cong, length_row}
use Rattle.std.specs.Prelude.{map, drop, slice_range, ◌/◌, ◌≤◌, ◌<◌}
use Rattle.std.proofs.lemmas.List.{get_or-take, get_or-drop, length-drop, length-take-le}
use Rattle.writer.specs.Put.{Put, Closed, head_bytes}

-- a list is the row of its elements
row_of : (xs : List ℕ) → xs ≡ row (λ i. get_or xs i 0) (length xs)
unfolding row
row_of [] = refl
row_of (x ∷ xs) = ap (λ (ys : List ℕ). x ∷ ys) (row_of xs)

part_long : (xs : List ℕ) (from to : ℕ) → from ≤ to → to ≤ length xs → length (slice_range xs from to) ≡ to - from
part_long xs from to order room = length-take-le (to - from) (drop from xs) (omega (arith, length-drop from xs, order, room))

-- a part of a list is a row of it
part_row : (xs : List ℕ) (from to : ℕ) → from ≤ to → to ≤ length xs → slice_range xs from to ≡ row (λ i. get_or xs (from + i) 0) (to - from)
part_row xs from to order room =
    let long : length (slice_range xs from to) ≡ to - from = part_long xs from to order room in
    row_of (slice_range xs from to) ∙ ap (row (λ i. get_or (slice_range xs from to) i 0)) long
    ∙ row_cong _ _ (to - from) (λ i h. get_or-take (to - from) (drop from xs) i 0 h ∙ get_or-drop from xs i 0)

-- the constants of a row of words
map_row : {A : Type 0} (g : ℕ → A) (f : ℕ → ℕ) (n : ℕ) → map g (row f n) ≡ row (λ i. g (f i)) n
unfolding row
map_row g f zero = refl
map_row g f (suc n) = ap (λ (xs : List _). g (f 0) ∷ xs) (map_row g (λ i. f (suc i)) n)

-- the runs of a part of the span area, of which each is three words
part_runs : (spans : List ℕ) (from to : ℕ) → from ≤ to → to * 3 ≤ length spans
    → row (run_at (slice_range spans (from * 3) (to * 3))) (length (slice_range spans (from * 3) (to * 3)) / 3) ≡ row (λ i. run_at spans (from + i)) (to - from)
part_runs spans from to order room =
    let part : List ℕ = slice_range spans (from * 3) (to * 3) in
    let long : length part ≡ to * 3 - from * 3 = part_long spans (from * 3) (to * 3) (omega (arith, order)) room in
    let many : length part / 3 ≡ to - from = omega (arith, long, order) in
    let word : (k : ℕ) → k < to * 3 - from * 3 → get_or part k 0 ≡ get_or spans (from * 3 + k) 0 = λ k h.
    get_or-take (to * 3 - from * 3) (drop (from * 3) spans) k 0 h ∙ get_or-drop (from * 3) spans k 0 in
    let place : (i k : ℕ) → from * 3 + (i * 3 + k) ≡ (from + i) * 3 + k = λ i k. omega arith in
    let plain : (i : ℕ) → from * 3 + i * 3 ≡ (from + i) * 3 = λ i. omega arith in
    ap (row (run_at part)) many
    ∙ row_cong (run_at part) (λ i. run_at spans (from + i)) (to - from) (λ i (h : i < to - from). λ z. record {
      span = record {
        start = (word (i * 3) (omega (arith, h)) ∙ ap (λ (k : ℕ). get_or spans k 0) (plain i)) z;
        end = (word (i * 3 + 1) (omega (arith, h)) ∙ ap (λ (k : ℕ). get_or spans k 0) (place i 1)) z;
      };
      count = (word (i * 3 + 2) (omega (arith, h)) ∙ ap (λ (k : ℕ). get_or spans k 0) (place i 2)) z;
    })

-- the parts of a record, where the counts are those of its lists
assembled : (name arity upvalues nc nr nb : ℕ) (cs : List Constant) (rs : List Run) (ops : List ℕ) → length cs ≡ nc → length rs ≡ nr → length ops ≡ nb →
    head_bytes name arity upvalues nc nr nb ++ ((join constant_bytes cs ++ join run_bytes rs) ++ ((0x43 ∷ 0x44 ∷ []) ++ ops))
    ≡ function_bytes (record { name = name; arity = arity; upvalue_count = upvalues; chunk = record { ops = ops; constants = cs; spans = rs } })
unfolding function_bytes head_bytes le
assembled name arity upvalues nc nr nb cs rs ops ec er eo = rw (ec, er, eo)

module _ (t code spans : List ℕ) (l : ℕ) (ok : Closed t code spans l) where
  abbrev pub words : List ℕ
  words = slice_range t (l * level_words + constants_place) (l * level_words + constants_place + get_or t (l * level_words + constant_count_place) 0)

  abbrev pub runs : List ℕ
  runs = slice_range spans (start_of_runs t l * 3) (end_of_runs t * 3)

  abbrev pub coded : List ℕ
  coded = slice_range code (start_of_code t l) (end_of_code t)

  pub words_long : length words ≡ get_or t (l * level_words + constant_count_place) 0
  words_long =
      let first : ℕ = l * level_words + constants_place in
      let n : ℕ = get_or t (l * level_words + constant_count_place) 0 in
      let many : first + n - first ≡ n = omega arith in
      part_long t first (first + n) (omega arith) (omega (arith, ok.wf.size, ok.low, ok.wf.few_constants l ok.low)) ∙ many

  pub runs_many : length runs / 3 ≡ end_of_runs t - start_of_runs t l
  runs_many = omega (arith, part_long spans (start_of_runs t l * 3) (end_of_runs t * 3) (omega (arith, ok.runs_order)) ok.runs_room, ok.runs_order)

  pub code_long : length coded ≡ end_of_code t - start_of_code t l
  code_long = part_long code (start_of_code t l) (end_of_code t) ok.code_order ok.code_room

  -- what `put_function` puts, in its order
  abbrev pub put_in_order : List ℕ
  put_in_order =
      head_bytes (get_or t (l * level_words + name_place) 0) (get_or t (l * level_words + arity_place) 0) (get_or t (l * level_words + upvalue_count_place) 0)
      (get_or t (l * level_words + constant_count_place) 0) (end_of_runs t - start_of_runs t l) (end_of_code t - start_of_code t l)
      ++ ((join constant_bytes (map constant_of words) ++ join run_bytes (row (run_at runs) (length runs / 3)))
      ++ ((0x43 ∷ 0x44 ∷ []) ++ coded))

  of_upvalues : ℕ → List ℕ
  of_upvalues n =
      function_bytes
      (record {
        name = get_or t (l * level_words + name_place) 0;
        arity = get_or t (l * level_words + arity_place) 0;
        upvalue_count = n;
        chunk = chunk_at t code spans l (end_of_code t) (end_of_runs t);
      })

  constants_are : map constant_of words ≡ row (λ i. constant_of (get_or t (l * level_words + constants_place + i) 0)) (get_or t (l * level_words + constant_count_place) 0)
  constants_are =
      let first : ℕ = l * level_words + constants_place in
      let n : ℕ = get_or t (l * level_words + constant_count_place) 0 in
      let many : first + n - first ≡ n = omega arith in
      ap (map constant_of) (part_row t first (first + n) (omega arith) (omega (arith, ok.wf.size, ok.low, ok.wf.few_constants l ok.low))
      ∙ ap (row (λ i. get_or t (first + i) 0)) many) ∙ map_row constant_of (λ i. get_or t (first + i) 0) n

  pub function_is : put_in_order ≡ function_bytes (finish (ctx_at t code spans l (end_of_code t) (end_of_runs t)))
  unfolding finish ctx_at chunk_at of_upvalues
  function_is =
      rw (
        constants_are,
        part_runs spans (start_of_runs t l) (end_of_runs t) ok.runs_order ok.runs_room,
        part_row code (start_of_code t l) (end_of_code t) ok.code_order ok.code_room,
      )
      (assembled (get_or t (l * level_words + name_place) 0) (get_or t (l * level_words + arity_place) 0) (get_or t (l * level_words + upvalue_count_place) 0) _ _ _ _ _ _
      (length_row (λ i. constant_of (get_or t (l * level_words + constants_place + i) 0)) (get_or t (l * level_words + constant_count_place) 0))
      (length_row (λ i. run_at spans (start_of_runs t l + i)) (end_of_runs t - start_of_runs t l))
      (length_row (λ i. get_or code (start_of_code t l + i) 0) (end_of_code t - start_of_code t l))
      ∙ ap of_upvalues (sym (length_row (λ i. upvalue_of (get_or t (l * level_words + upvalues_place + i) 0)) (get_or t (l * level_words + upvalue_count_place) 0))))

  pub as_function : {out out' : List ℕ} {at r : ℕ} → Put out out' at put_in_order r → Put out out' at (function_bytes (finish (ctx_at t code spans l (end_of_code t) (end_of_runs t)))) r
  as_function {out} {out'} {at} {r} p = subst (λ (bs : List ℕ). Put out out' at bs r) function_is p
