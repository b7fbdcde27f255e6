-- What a server can rely on, by the tree file's length `n`: an image is at most 17 n bytes, its directory counted, the open functions' code at no time
-- more than n, and so which rooms suffice.
use mathlib.Core.Path.{◌≡◌}
use mathlib.Core.Logic.{◌≢◌}
use mathlib.Core.Bool.{Bool}
use mathlib.Core.List.{List}
use Prim.Native.Nat.{ℕ, ◌+◌, ◌*◌, ◌≤◌, min}
use native.Mathlib.Omega.{arith}
use lib.ListN.{length}
use Rattle.rules.specs.Limits.{Limits, first_limits, max_code}
use Rattle.rules.specs.Chunk.{ObjectFunction}
use Rattle.rules.specs.Compiler as c
use Rattle.rules.specs.Image.{image_with}
use Rattle.rules.specs.Entry.{Lent, asks_directory, code_limit, functions_are, compile_lent, compile_within, compile}
use Rattle.rules_laws.proofs.Facts.{Bytes}
use Rattle.rules_laws.proofs.Checks.{from_ok, from_lent}
use Rattle.rules_laws.proofs.Accepted.{From, from_tree, code_limit_most}
use Rattle.rules_laws.proofs.Trees.{stmts_size}
use Rattle.rules_laws.proofs.TreeBytes.{Fitting, tree_fits}
use Rattle.rules_laws.proofs.ImageSizes.{image_at_most}
use Rattle.rules_laws.proofs.Room.{Enough, Alike, enough_in_both}
use Rattle.rules_laws.proofs.CodeNeed.{needed_most}
use Rattle.rules_laws.proofs.Exactly.{work_short_exactly, code_full_exactly, out_full_only, compiled_functions, RoomEnough, room_enough_exactly}

-- ## By the tree file's length

module _ (limits : Limits) (nested : limits.funs ≤ 16) (tree : List ℕ) (bytes : Bytes tree) (lent : Lent) where
  pub image_bound : (directory : Bool) (fs : List ObjectFunction) → compile_lent limits tree lent ≡ functions_are fs →
      length (image_with directory fs) ≤ 17 * length tree
  image_bound directory fs e = omega (arith, image, fits.size)
    where
      from : From limits tree (code_limit lent) fs
      from = from_tree limits tree (code_limit lent) fs (from_lent limits tree lent fs e)

      fits : Fitting tree limits.funs from.stmts
      fits = tree_fits tree bytes limits.depth limits.funs from.stmts from.next from.read

      image : length (image_with directory fs) ≤ 17 * stmts_size from.stmts + 59
      image =
          from_ok (λ fs. length (image_with directory fs) ≤ 17 * stmts_size from.stmts + 59) (c.compile_functions (code_limit lent) from.stmts) fs
          from.state from.compiled (image_at_most (code_limit lent) limits.funs from.stmts directory nested fits.parts)

  -- a room in which no tree of this length is refused by 1, 30 or 31
  pub record Ample : Type 0 where
    pub table_words : limits.table_bytes ≤ 8 * lent.table_words
    pub code_bytes : length tree ≤ lent.code_bytes
    pub span_words : 3 * length tree ≤ lent.span_words
    pub output_bytes : 17 * length tree ≤ lent.output_bytes
    -- the code limit's own bound
    pub largest : length tree ≤ max_code

  ample_limit : Ample → length tree ≤ code_limit lent
  unfolding code_limit
  ample_limit a = omega (arith, a.code_bytes, a.span_words, a.largest)

  pub ample_1 : Ample → (compile_within limits tree lent).answer.number ≢ 1
  ample_1 a e = omega (arith, a.table_words, (work_short_exactly limits tree bytes lent).0 e)

  pub ample_30 : Ample → (compile_within limits tree lent).answer.number ≢ 30
  ample_30 a e =
      let (stmts, w, l) = (code_full_exactly limits tree bytes lent).0 e in
      let fits : Fitting tree limits.funs stmts = tree_fits tree bytes limits.depth limits.funs stmts w.next w.read in
      omega (arith, l, ample_limit a, needed_most limits.funs stmts fits.parts, fits.size)

  pub ample_31 : Ample → (compile_within limits tree lent).answer.number ≢ 31
  ample_31 a e =
      let (fs, w, l) = out_full_only limits tree bytes lent e in
      omega (arith, l, a.output_bytes, image_bound (asks_directory lent.options) fs (compiled_functions limits tree lent fs w))

-- ## Rooms for the published limits

-- a tree file of at most 262,144 bytes needs no more than this
pub room_that_suffices : (tree : List ℕ) → Bytes tree → (lent : Lent) → 17_412 ≤ lent.table_words → length tree ≤ lent.code_bytes →
    3 * length tree ≤ lent.span_words → 17 * length tree ≤ lent.output_bytes → length tree ≤ max_code →
    ((compile tree lent).answer.number ≢ 1) × ((compile tree lent).answer.number ≢ 30) × ((compile tree lent).answer.number ≢ 31)
room_that_suffices tree bytes lent t c s o l = (
  ample_1 first_limits (omega arith) tree bytes lent a,
  ample_30 first_limits (omega arith) tree bytes lent a,
  ample_31 first_limits
      (omega arith) tree bytes lent a,
)
  where
    a : Ample first_limits (omega arith) tree bytes lent
    a = record { table_words = omega arith; code_bytes = c; span_words = s; output_bytes = o; largest = l }

-- no room gives more than this one: what it refuses by 30, every room with a table does
pub record Largest (tree : List ℕ) (lent : Lent) : Type 0 where
  pub table_words : 17_412 ≤ lent.table_words
  pub code_bytes : max_code ≤ lent.code_bytes
  pub span_words : 3 * max_code ≤ lent.span_words
  pub output_bytes : 17 * length tree ≤ lent.output_bytes

largest_limit : (tree : List ℕ) (lent lent' : Lent) → Largest tree lent → code_limit lent' ≤ code_limit lent
unfolding code_limit
largest_limit tree lent lent' l = omega (arith, l.code_bytes, l.span_words)

module _ (tree : List ℕ) (bytes : Bytes tree) (lent : Lent) (largest : Largest tree lent) where
  pub largest_1 : (compile tree lent).answer.number ≢ 1
  largest_1 e = omega (arith, largest.table_words, (work_short_exactly first_limits tree bytes lent).0 e)

  pub largest_31 : (compile tree lent).answer.number ≢ 31
  largest_31 e =
      let (fs, w, l) = out_full_only first_limits tree bytes lent e in
      omega (
        arith,
        l,
        largest.output_bytes,
        image_bound first_limits (omega arith) tree bytes lent (asks_directory lent.options) fs (compiled_functions first_limits tree lent fs w),
      )

  pub largest_30 : (compile tree lent).answer.number ≡ 30 → (lent' : Lent) → 17_412 ≤ lent'.table_words → (compile tree lent').answer.number ≡ 30
  largest_30 e lent' t =
      let (stmts, w, l) = (code_full_exactly first_limits tree bytes lent).0 e in
      (code_full_exactly first_limits tree bytes lent').1 (
        stmts,
        record { started = record { table = omega arith; short = w.started.short }; next = w.next; read = w.read },
        omega (arith, l, largest_limit tree lent lent' largest),
      )

-- ## The room for every tree file

-- PB_OUTPUT_BYTES, PB_CODE_BYTES and PB_SPAN_WORDS of include/puffbramble.h, or more
pub record ForEvery (tree : List ℕ) (lent : Lent) : Type 0 where
  pub table_words : 17_412 ≤ lent.table_words
  pub code_bytes : min (length tree) max_code ≤ lent.code_bytes
  pub span_words : 3 * min (length tree) max_code ≤ lent.span_words
  pub output_bytes : 17 * length tree ≤ lent.output_bytes

every_limit : (tree : List ℕ) (lent : Lent) → ForEvery tree lent → min (length tree) max_code ≤ code_limit lent
unfolding code_limit
every_limit tree lent r = omega (arith, r.code_bytes, r.span_words)

-- Whatever room a server lends first, the header's or another: an answer that is none of 1, 30 and 31 is the one that the room for every tree file
-- gives, with the same image. The two rooms need not be comparable, so this is no case of `more_Room`.
module _ (tree : List ℕ) (bytes : Bytes tree) (lent lent' : Lent) (options : lent.options ≡ lent'.options) (every : ForEvery tree lent') where
  every_30 : Enough (compile tree lent).answer → (compile tree lent').answer.number ≢ 30
  every_30 n e =
      let (stmts, w, l) = (code_full_exactly first_limits tree bytes lent').0 e in
      let fits : Fitting tree first_limits.funs stmts = tree_fits tree bytes first_limits.depth first_limits.funs stmts w.next w.read in
      omega (
        arith,
        l,
        every_limit tree lent' every,
        code_limit_most lent,
        needed_most first_limits.funs stmts fits.parts,
        fits.size,
        enough.code stmts (record { started = record { table = enough.table; short = w.started.short }; next = w.next; read = w.read }),
      )
    where
      enough : RoomEnough first_limits tree bytes lent
      enough = (room_enough_exactly first_limits tree bytes lent).0 n

  pub as_in_the_room_for_every :
      Enough (compile tree lent).answer → Alike lent lent' (compile tree lent) (compile tree lent')
  as_in_the_room_for_every n = enough_in_both first_limits tree lent lent' options n (
    λ e. omega (arith, every.table_words, (work_short_exactly first_limits tree bytes lent').0 e),
    every_30 n,
    λ e. let (fs, w, l) = out_full_only first_limits tree bytes lent' e in
        omega (
          arith,
          l,
          every.output_bytes,
          image_bound first_limits (omega arith) tree bytes lent' (asks_directory lent'.options) fs
              (compiled_functions first_limits tree lent' fs w),
        ),
  )
