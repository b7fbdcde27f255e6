-- "Given exactly when": how each answer of the compiler comes about, for every tree file of bytes and all lent sizes, and that no other way leads to
-- its number. The order of the ways is the order of the answers: 1, 2, then 3, 4, 5, then 10 to 30, then 31.
use mathlib.Core.Path.{◌≡◌, refl, ap, subst⁻¹, ◌∙◌}
use mathlib.Core.Logic.{◌↔◌, ◌≢◌}
use mathlib.Core.Bool.{Bool, true, false}
use mathlib.Core.List.{List}
use Prim.Native.Nat.{ℕ, ◌*◌, ◌≤◌, ◌<◌}
use native.Mathlib.Omega.{arith}
use lib.ListN.{length}
use lib.Dec.{T, leb, leb→le, le→leb, nleb→lt}
use Rattle.std.specs.Prelude.{if◌then◌else◌}
use Rattle.rules.specs.Limits.{Limits, max_tree}
use Rattle.rules.specs.declared.Answer.{Answer}
use Rattle.rules.specs.declared.Refusal.{Refusal}
use Rattle.rules.specs.declared.Refusal.TheVariants.{WorkShort, TreeTooLong, CodeFull, OutFull}
use Rattle.rules.specs.declared.Stopped.{Stopped}
use Rattle.rules.specs.Answer.{refusal, accepted, with_length, outside, refusal_in}
use Rattle.rules.specs.Tree.{Stmts}
use Rattle.rules.specs.Reader.{Read, got, bad}
use Rattle.rules.specs.TreeFile.{read_tree}
use Rattle.rules.specs.Chunk.{ObjectFunction}
use Rattle.rules.specs.Compiler as c
use Rattle.rules.specs.Compiler.{Compiler, Outcome, ok, err}
use Rattle.rules.specs.Entry as entry
use Rattle.rules.specs.Entry.{Lent, code_limit, Compiled, functions_are, refused, compile_tree, compile_lent, compile_within}
use Rattle.rules.proofs.Slips.{refused_first}
use Rattle.rules_laws.proofs.Facts.{Bytes}
use Rattle.rules_laws.proofs.Checks.{image_for, room}
use Rattle.rules_laws.proofs.Refusals.{Readers, Rusts, CompiledBy, a_rule, the_limit, compiled_by, RefusedBy, number_of, readers_number, rusts_number, refusal_outside}
use Rattle.rules_laws.proofs.TreeBytes.{Fitting, tree_fits, tree_refuses}
use Rattle.rules_laws.proofs.Widths.{refuses}
use Rattle.rules_laws.proofs.Peak.{moments_of, Full, peak_full}
use Rattle.rules_laws.proofs.CodeNeed.{code_needed, full_exactly}

module _ (limits : Limits) (tree : List ℕ) (lent : Lent) where
  abbrev reading : Read Stmts
  reading = read_tree tree limits.depth limits.funs

  abbrev compiling : Stmts → Outcome (List ObjectFunction)
  compiling stmts = c.compile_functions (code_limit lent) stmts

  -- neither 1 nor 2
  pub record Started : Type 0 where
    pub table : limits.table_bytes ≤ 8 * lent.table_words
    pub short : length tree ≤ max_tree

  -- nor 3, 4, 5
  pub record WasRead (stmts : Stmts) : Type 0 where
    pub started : Started
    pub next : ℕ
    pub read : reading ≡ got stmts next

  -- nor 10 to 30
  pub record WasCompiled (fs : List ObjectFunction) : Type 0 where
    pub stmts : Stmts
    pub was_read : WasRead stmts
    pub state : Compiler
    pub compiled : compiling stmts ≡ ok fs state

  pub data Way : Answer → Type 0 where
    work_short : 8 * lent.table_words < limits.table_bytes → Way (refusal WorkShort)
    too_long : limits.table_bytes ≤ 8 * lent.table_words → max_tree < length tree → Way (refusal TreeTooLong)
    not_read : (r : Refusal) → Readers r → Started → reading ≡ bad r → Way (refusal r)
    against_a_rule : (x : Stopped) → Rusts x.what → (stmts : Stmts) → WasRead stmts → compiling stmts ≡ err x → Way (refusal_in x)
    code_full : (x : Stopped) → x.what ≡ CodeFull → (stmts : Stmts) → WasRead stmts → compiling stmts ≡ err x → Way (refusal_in x)
    out_full : (fs : List ObjectFunction) → WasCompiled fs → lent.output_bytes < length (image_for lent fs) →
        Way (refusal (OutFull (length (image_for lent fs))))
    all_fits : (fs : List ObjectFunction) → WasCompiled fs → length (image_for lent fs) ≤ lent.output_bytes →
        Way (accepted (length (image_for lent fs)))

  -- every answer comes about in one of these ways
  pub way : Bytes tree → Way (compile_within limits tree lent).answer
  unfolding compile_within compile_lent compile_tree entry.write_out entry.write_image entry.leaves entry.from_read entry.from_outcome refusal refusal_in
  way bytes = by_table (leb limits.table_bytes (8 * lent.table_words)) refl
    where
      by_output : (fs : List ObjectFunction) → WasCompiled fs → (b : Bool) → leb (length (image_for lent fs)) lent.output_bytes ≡ b →
          Way (room lent (image_for lent fs) b).answer
      by_output fs w true e = all_fits fs w (leb→le (length (image_for lent fs)) lent.output_bytes (rw e tt))
      by_output fs w false e = out_full fs w (nleb→lt (length (image_for lent fs)) lent.output_bytes (rw e tt))

      by_refusal : (x : Stopped) {r : Refusal} → x.what ≡ r → CompiledBy r → (stmts : Stmts) → WasRead stmts → compiling stmts ≡ err x → Way (refusal_in x)
      by_refusal x d (a_rule h) stmts w e = against_a_rule x (subst⁻¹ Rusts d h) stmts w e
      by_refusal x d the_limit stmts w e = code_full x d stmts w e

      fits : (stmts : Stmts) (w : WasRead stmts) → Fitting tree limits.funs stmts
      fits stmts w = tree_fits tree bytes limits.depth limits.funs stmts w.next w.read

      by_outcome : (stmts : Stmts) → WasRead stmts → (o : Outcome (List ObjectFunction)) → compiling stmts ≡ o →
          Way (entry.write_out lent (entry.from_outcome o)).answer
      by_outcome stmts w (ok fs s) e =
          by_output fs (record { stmts = stmts; was_read = w; state = s; compiled = e }) (leb (length (image_for lent fs)) lent.output_bytes) refl
      by_outcome stmts w (err x) e =
          by_refusal x refl (compiled_by x.what (refuses (code_limit lent) limits.funs stmts (fits stmts w).parts x e)) stmts w e

      by_read : Started → (o : Read Stmts) → reading ≡ o → Way (entry.write_out lent (entry.from_read o (code_limit lent))).answer
      by_read st (got stmts next) e = by_outcome stmts (record { started = st; next = next; read = e }) (compiling stmts) refl
      by_read st (bad r) e = subst⁻¹ Way (refusal_outside r) (not_read r (tree_refuses tree bytes limits.depth limits.funs r e) st e)

      by_length : limits.table_bytes ≤ 8 * lent.table_words → (b : Bool) → leb (length tree) max_tree ≡ b →
          Way (entry.write_out lent (if b then entry.from_read reading (code_limit lent) else refused (outside TreeTooLong))).answer
      by_length l true e = by_read (record { table = l; short = leb→le (length tree) max_tree (rw e tt) }) reading refl
      by_length l false e = too_long l (nleb→lt (length tree) max_tree (rw e tt))

      by_table : (b : Bool) → leb limits.table_bytes (8 * lent.table_words) ≡ b →
          Way (entry.write_out lent
          (if b then (if leb (length tree) max_tree then entry.from_read reading
          (code_limit lent) else refused (outside TreeTooLong)) else refused (outside WorkShort))).answer
      by_table true e = by_length (leb→le limits.table_bytes (8 * lent.table_words) (rw e tt)) (leb (length tree) max_tree) refl
      by_table false e = work_short (nleb→lt limits.table_bytes (8 * lent.table_words) (rw e tt))

  -- ## Each way leads to its answer

  leb-true : (m n : ℕ) → m ≤ n → leb m n ≡ true
  leb-true m n l = by_test (leb m n) (le→leb m n l)
    where
      by_test : (b : Bool) → T b → b ≡ true
      by_test true t = refl
      by_test false t = absurd t

  leb-false : (m n : ℕ) → n < m → leb m n ≡ false
  leb-false m n l = by_test (leb m n) refl
    where
      by_test : (b : Bool) → leb m n ≡ b → leb m n ≡ false
      by_test true e = absurd (omega (arith, leb→le m n (rw e tt)))
      by_test false e = e

  started_compiles : Started → compile_lent limits tree lent ≡ entry.from_read reading (code_limit lent)
  unfolding compile_lent compile_tree
  started_compiles st = rw (leb-true limits.table_bytes (8 * lent.table_words) st.table, leb-true (length tree) max_tree st.short)

  read_compiles : (stmts : Stmts) → WasRead stmts → compile_lent limits tree lent ≡ entry.from_outcome (compiling stmts)
  unfolding entry.from_read
  read_compiles stmts w = started_compiles w.started ∙ ap (λ (r : Read Stmts). entry.from_read r (code_limit lent)) w.read

  pub compiled_functions : (fs : List ObjectFunction) → WasCompiled fs → compile_lent limits tree lent ≡ functions_are fs
  unfolding entry.from_outcome
  compiled_functions fs w = read_compiles w.stmts w.was_read ∙ ap entry.from_outcome w.compiled

  -- of a refusal that is in no function
  refused_so : (r : Refusal) → compile_lent limits tree lent ≡ refused (outside r) → (compile_within limits tree lent).answer ≡ refusal r
  refused_so r e = refused_first limits tree lent (outside r) e ∙ refusal_outside r

  given_so : (fs : List ObjectFunction) → compile_lent limits tree lent ≡ functions_are fs →
      (compile_within limits tree lent).answer ≡ (entry.write_image lent (image_for lent fs)).answer
  unfolding compile_within entry.write_out
  given_so fs e = ap (λ (x : Compiled). (entry.write_out lent x).answer) e

  -- so the ways exclude one another
  pub leads : {a : Answer} → Way a → (compile_within limits tree lent).answer ≡ a
  unfolding compile_lent compile_tree entry.write_image entry.leaves entry.from_read entry.from_outcome
  leads (work_short l) = refused_so WorkShort (rw (leb-false limits.table_bytes (8 * lent.table_words) l))
  leads (too_long t l) = refused_so TreeTooLong (rw (leb-true limits.table_bytes (8 * lent.table_words) t, leb-false (length tree) max_tree l))
  leads (not_read r h st e) = refused_so r (started_compiles st ∙ ap (λ (r : Read Stmts). entry.from_read r (code_limit lent)) e)
  leads (against_a_rule x h stmts w e) = refused_first limits tree lent x (read_compiles stmts w ∙ ap entry.from_outcome e)
  leads (code_full x h stmts w e) = refused_first limits tree lent x (read_compiles stmts w ∙ ap entry.from_outcome e)
  leads (out_full fs w l) = given_so fs (compiled_functions fs w) ∙ rw (leb-false (length (image_for lent fs)) lent.output_bytes l)
  leads (all_fits fs w l) = given_so fs (compiled_functions fs w) ∙ rw (leb-true (length (image_for lent fs)) lent.output_bytes l)

  -- ## No other way leads to a number

  short_only : {a : Answer} → Way a → a.number ≡ 1 → 8 * lent.table_words < limits.table_bytes
  unfolding refusal refusal_in
  short_only (work_short l) e = l
  short_only (too_long t l) e = absurd (omega arith)
  short_only (not_read r h st d) e = absurd (omega (arith, readers_number r h))
  short_only (against_a_rule x h stmts w d) e = absurd (omega (arith, rusts_number x.what h))
  short_only (code_full x h stmts w d) e = absurd (omega (arith, ap number_of h))
  short_only (out_full fs w l) e = absurd (omega arith)
  short_only (all_fits fs w l) e = absurd (omega arith)

  long_tree_only : {a : Answer} → Way a → a.number ≡ 2 → (limits.table_bytes ≤ 8 * lent.table_words) × (max_tree < length tree)
  unfolding refusal refusal_in
  long_tree_only (work_short l) e = absurd (omega arith)
  long_tree_only (too_long t l) e = (t, l)
  long_tree_only (not_read r h st d) e = absurd (omega (arith, readers_number r h))
  long_tree_only (against_a_rule x h stmts w d) e = absurd (omega (arith, rusts_number x.what h))
  long_tree_only (code_full x h stmts w d) e = absurd (omega (arith, ap number_of h))
  long_tree_only (out_full fs w l) e = absurd (omega arith)
  long_tree_only (all_fits fs w l) e = absurd (omega arith)

  full_only_then : {a : Answer} → Way a → a.number ≡ 30 → (stmts : Stmts) × WasRead stmts × RefusedBy CodeFull (compiling stmts)
  unfolding refusal refusal_in
  full_only_then (work_short l) e = absurd (omega arith)
  full_only_then (too_long t l) e = absurd (omega arith)
  full_only_then (not_read r h st d) e = absurd (omega (arith, readers_number r h))
  full_only_then (against_a_rule x h stmts w d) e = absurd (omega (arith, rusts_number x.what h))
  full_only_then (code_full x h stmts w d) e = (stmts, w, subst⁻¹ (RefusedBy CodeFull) d h)
  full_only_then (out_full fs w l) e = absurd (omega arith)
  full_only_then (all_fits fs w l) e = absurd (omega arith)

  long_only : {a : Answer} → Way a → a.number ≡ 31 → (fs : List ObjectFunction) × WasCompiled fs × (lent.output_bytes < length (image_for lent fs))
  unfolding refusal refusal_in
  long_only (work_short l) e = absurd (omega arith)
  long_only (too_long t l) e = absurd (omega arith)
  long_only (not_read r h st d) e = absurd (omega (arith, readers_number r h))
  long_only (against_a_rule x h stmts w d) e = absurd (omega (arith, rusts_number x.what h))
  long_only (code_full x h stmts w d) e = absurd (omega (arith, ap number_of h))
  long_only (out_full fs w l) e = (fs, w, l)
  long_only (all_fits fs w l) e = absurd (omega arith)

  fits_only : {a : Answer} → Way a → a.number ≡ 0 → (fs : List ObjectFunction) × WasCompiled fs × (length (image_for lent fs) ≤ lent.output_bytes)
  unfolding refusal refusal_in
  fits_only (work_short l) e = absurd (omega arith)
  fits_only (too_long t l) e = absurd (omega arith)
  fits_only (not_read r h st d) e = absurd (omega (arith, readers_number r h))
  fits_only (against_a_rule x h stmts w d) e = absurd (omega (arith, rusts_number x.what h))
  fits_only (code_full x h stmts w d) e = absurd (omega (arith, ap number_of h))
  fits_only (out_full fs w l) e = absurd (omega arith)
  fits_only (all_fits fs w l) e = (fs, w, l)

  unread_only : {a : Answer} → Way a → 3 ≤ a.number → a.number ≤ 5 → (r : Refusal) × Readers r × Started × (reading ≡ bad r)
  unfolding refusal refusal_in
  unread_only (work_short l) b e = absurd (omega arith)
  unread_only (too_long t l) b e = absurd (omega arith)
  unread_only (not_read r h st d) b e = (r, h, st, d)
  unread_only (against_a_rule x h stmts w d) b e = absurd (omega (arith, rusts_number x.what h))
  unread_only (code_full x h stmts w d) b e = absurd (omega (arith, ap number_of h))
  unread_only (out_full fs w l) b e = absurd (omega arith)
  unread_only (all_fits fs w l) b e = absurd (omega arith)

  rule_only : {a : Answer} → Way a → 10 ≤ a.number → a.number ≤ 23 →
      (x : Stopped) × Rusts x.what × (stmts : Stmts) × WasRead stmts × (compiling stmts ≡ err x)
  unfolding refusal refusal_in
  rule_only (work_short l) b e = absurd (omega arith)
  rule_only (too_long t l) b e = absurd (omega arith)
  rule_only (not_read r h st d) b e = absurd (omega (arith, readers_number r h))
  rule_only (against_a_rule x h stmts w d) b e = (x, h, stmts, w, d)
  rule_only (code_full x h stmts w d) b e = absurd (omega (arith, ap number_of h))
  rule_only (out_full fs w l) b e = absurd (omega arith)
  rule_only (all_fits fs w l) b e = absurd (omega arith)

-- ## The table, row by row: each number and what it carries, exactly when

module _ (limits : Limits) (tree : List ℕ) (bytes : Bytes tree) (lent : Lent) where
  abbrev answered : Answer
  answered = (compile_within limits tree lent).answer

  -- 1 WorkShort: table area below its published need
  pub work_short_exactly : (answered.number ≡ 1) ↔ (8 * lent.table_words < limits.table_bytes)
  unfolding refusal
  work_short_exactly =
      (short_only limits tree lent (way limits tree lent bytes), λ l. ap (λ (a : Answer). a.number) (leads limits tree lent (work_short l)))

  -- 2 TreeTooLong: over 1,048,576 bytes
  pub too_long_exactly : (answered.number ≡ 2) ↔ ((limits.table_bytes ≤ 8 * lent.table_words) × (max_tree < length tree))
  unfolding refusal
  too_long_exactly = (
    long_tree_only limits tree lent (way limits tree lent bytes),
    λ p. ap (λ (a : Answer). a.number)
        (leads limits tree lent (too_long p.0 p.1)),
  )

  -- 3, 4, 5: what the reader says
  pub not_read_only : 3 ≤ answered.number → answered.number ≤ 5 →
      (r : Refusal) × Readers r × Started limits tree lent × (reading limits tree lent ≡ bad r)
  not_read_only b e = unread_only limits tree lent (way limits tree lent bytes) b e

  pub not_read_then : (r : Refusal) → Started limits tree lent → reading limits tree lent ≡ bad r → answered ≡ refusal r
  not_read_then r st e = leads limits tree lent (not_read r (tree_refuses tree bytes limits.depth limits.funs r e) st e)

  -- 10 to 23: what the Rust's own rules say
  pub against_a_rule_only : 10 ≤ answered.number → answered.number ≤ 23 →
      (x : Stopped) × Rusts x.what × (stmts : Stmts) × WasRead limits tree lent stmts × (compiling limits tree lent stmts ≡ err x)
  against_a_rule_only b e = rule_only limits tree lent (way limits tree lent bytes) b e

  pub against_a_rule_then : (x : Stopped) → Rusts x.what → (stmts : Stmts) → WasRead limits tree lent stmts →
      compiling limits tree lent stmts ≡ err x → answered ≡ refusal_in x
  against_a_rule_then x h stmts w e = leads limits tree lent (against_a_rule x h stmts w e)

  -- 30, in the function whose byte is the first to pass the limit
  pub code_full_then : (stmts : Stmts) → WasRead limits tree lent stmts →
      (f : Full (code_limit lent) (moments_of stmts) (compiling limits tree lent stmts)) → answered ≡ refusal_in (c.stopped CodeFull f.moment)
  code_full_then stmts w f = leads limits tree lent (code_full (c.stopped CodeFull f.moment) refl stmts w f.is)

  -- 30 CodeFull: a byte would take the open functions' code, summed, past the code limit: that is below the peak of these sums
  pub code_full_exactly :
      (answered.number ≡ 30) ↔ ((stmts : Stmts) × WasRead limits tree lent stmts × (code_limit lent < code_needed stmts))
  unfolding refusal refusal_in
  code_full_exactly = (only, λ p. ap (λ (a : Answer). a.number) (code_full_then p.0 p.1 (peak_full p.0 (code_limit lent) p.2)))
    where
      only : answered.number ≡ 30 → (stmts : Stmts) × WasRead limits tree lent stmts × (code_limit lent < code_needed stmts)
      only e =
          let (stmts, w, d) = full_only_then limits tree lent (way limits tree lent bytes) e in (stmts, w, (full_exactly stmts (code_limit lent)).0 d)

  -- 31 OutFull: all else accepted, image longer than the output; carries the length needed
  pub out_full_only : answered.number ≡ 31 →
      (fs : List ObjectFunction) × WasCompiled limits tree lent fs × (lent.output_bytes < length (image_for lent fs))
  out_full_only e = long_only limits tree lent (way limits tree lent bytes) e

  pub out_full_then : (fs : List ObjectFunction) → WasCompiled limits tree lent fs → lent.output_bytes < length (image_for lent fs) →
      answered ≡ with_length 31 (length (image_for lent fs))
  unfolding refusal
  out_full_then fs w l = leads limits tree lent (out_full fs w l)

  -- 0: accepted; carries the length of the image
  pub accepted_only : answered.number ≡ 0 →
      (fs : List ObjectFunction) × WasCompiled limits tree lent fs × (length (image_for lent fs) ≤ lent.output_bytes)
  accepted_only e = fits_only limits tree lent (way limits tree lent bytes) e

  pub accepted_then : (fs : List ObjectFunction) → WasCompiled limits tree lent fs → length (image_for lent fs) ≤ lent.output_bytes →
      answered ≡ accepted (length (image_for lent fs))
  accepted_then fs w l = leads limits tree lent (all_fits fs w l)

  -- the least rooms: the table's published need, the code limit that the tree needs, the image's length
  pub record RoomEnough : Type 0 where
    pub table : limits.table_bytes ≤ 8 * lent.table_words
    pub code : (stmts : Stmts) → WasRead limits tree lent stmts → code_needed stmts ≤ code_limit lent
    pub output : (fs : List ObjectFunction) → WasCompiled limits tree lent fs → length (image_for lent fs) ≤ lent.output_bytes

  -- "Room enough means none of 1, 30, 31"
  pub room_enough_exactly : ((answered.number ≢ 1) × (answered.number ≢ 30) × (answered.number ≢ 31)) ↔ RoomEnough
  unfolding refusal
  room_enough_exactly = (
    λ n. record {
      table = at_least limits.table_bytes (8 * lent.table_words) (λ l. n.0 (work_short_exactly.1 l));
      code = λ stmts w. at_least (code_needed stmts) (code_limit lent) (λ l. n.1 (code_full_exactly.1 (stmts, w, l)));
      output = λ fs w. at_least (length (image_for lent fs)) lent.output_bytes (λ l. n.2 (ap (λ (a : Answer). a.number) (out_full_then fs w l)));
    },
    λ e. (
      λ n. omega (arith, e.table, work_short_exactly.0 n),
      λ n. let (stmts, w, l) = code_full_exactly.0 n in omega (arith, l, e.code stmts w),
      λ n. let (fs, w, l) = out_full_only n in omega (arith, l, e.output fs w),
    ),
  )
    where
      at_least : (m n : ℕ) → (n < m → ⊥) → m ≤ n
      at_least m n h = by_test (leb m n) refl
        where
          by_test : (b : Bool) → leb m n ≡ b → m ≤ n
          by_test true e = leb→le m n (rw e tt)
          by_test false e = absurd (h (nleb→lt m n (rw e tt)))
