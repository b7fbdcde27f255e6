-- What the compiler writes, the image checker accepts, as a law about bytes: for every tree file and all lent sizes, with a directory and without, if
-- the compiler accepts, the checker answers 0 for the image's bytes, with the number of instructions in the division of all its code.
use mathlib.Core.Path.{◌≡◌, refl, subst}
use mathlib.Core.Bool.{Bool, true, false}
use mathlib.Core.List.{List, ◌∷◌, ◌++◌, []}
use Prim.Native.Nat.{ℕ, ◌+◌, ◌-◌, ◌*◌, ◌≤◌, ◌<◌}
use native.Mathlib.Omega.{arith}
use lib.ListN.{length, replicate}
use lib.Dec.{T, leb, ltb→lt, leb→le}
use Rattle.rules.specs.Base.{all}
use Rattle.std.specs.Prelude.{if◌then◌else◌}
use Rattle.rules.specs.Limits.{Limits, first_limits, max_tree, max_code}
use Rattle.rules.specs.declared.Refusal.TheVariants as refusal
use Rattle.rules.specs.Answer.{accepted, outside, refusal_in}
use Rattle.rules.specs.Tree.{Stmts}
use Rattle.rules.specs.Reader.{Read, got, bad}
use Rattle.rules.specs.TreeFile.{read_tree}
use Rattle.rules.specs.Chunk.{Constant, CN, CS, CF, Run, total, ObjectFunction}
use Rattle.rules.specs.Compiler as c
use Rattle.rules.specs.Compiler.{Compiler, Outcome, ok, err}
use Rattle.rules.specs.Image.{image_bytes, image_with}
use Rattle.rules.specs.ImageFile.{read_image}
use Rattle.rules.specs.Checker as checker
use Rattle.rules.specs.Checker.{check, instruction_count, sound, names_earlier, all_earlier}
use Rattle.rules.specs.Entry as entry
use Rattle.rules.specs.Entry.{Lent, Left, asks_directory, code_limit, Compiled, functions_are, refused, compile_tree, compile_lent, compile_within, compile}
use Rattle.rules_laws.proofs.Tests.{left, right, all_and}
use Rattle.rules_laws.proofs.Facts.{All, all_map, Bytes}
use Rattle.rules_laws.proofs.Runs.{Counts, Counted, counted}
use Rattle.rules_laws.proofs.CodeBytes.{AllSound, Sound}
use Rattle.rules_laws.proofs.Checks.{from_ok, from_lent, lent_checked, lent_sound, refusal_number, image_for, room}
use Rattle.rules_laws.proofs.ReadBack.{FitsRun, FitsConstant, FitsForm, FitsImage, read_back_with, sound_accepted_with}
use Rattle.rules_laws.proofs.Trees.{stmts_size}
use Rattle.rules_laws.proofs.TreeBytes.{Fitting, tree_fits}
use Rattle.rules_laws.proofs.ImageSizes.{image_in_all}
use Rattle.rules_laws.proofs.Widths.{SmallConstant, SmallRun, WideFunction, Widths, widths}

-- ## An accepted tree, taken apart

pub record From (limits : Limits) (tree : List ℕ) (limit : ℕ) (fs : List ObjectFunction) : Type 0 where
  pub stmts : Stmts
  pub next : ℕ
  pub state : Compiler
  pub short : length tree ≤ max_tree
  pub read : read_tree tree limits.depth limits.funs ≡ got stmts next
  pub compiled : c.compile_functions limit stmts ≡ ok fs state

pub from_tree : (limits : Limits) (tree : List ℕ) (limit : ℕ) (fs : List ObjectFunction) → compile_tree limits tree limit ≡ functions_are fs →
    From limits tree limit fs
unfolding compile_tree entry.from_read entry.from_outcome
from_tree limits tree limit fs e = by_length (leb (length tree) max_tree) refl (read_tree tree limits.depth limits.funs) refl e
  where
    by_outcome : (stmts : Stmts) (next : ℕ) → length tree ≤ max_tree → read_tree tree limits.depth limits.funs ≡ got stmts next →
        (o : Outcome (List ObjectFunction)) → c.compile_functions limit stmts ≡ o → entry.from_outcome o ≡ functions_are fs →
        From limits tree limit fs
    by_outcome stmts next l r (ok gs s) e₁ e₂ =
        let z : gs ≡ fs = cc in
        record {
          stmts = stmts;
          next = next;
          state = s;
          short = l;
          read = r;
          compiled = subst
              (λ (gs : List ObjectFunction). c.compile_functions limit stmts ≡ ok gs s) z e₁;
        }
    by_outcome stmts next l r (err x) e₁ e₂ = let z : ◌≡◌ {A = ℕ} 0 1 = cc in absurd (omega arith)

    by_read : length tree ≤ max_tree → (r : Read Stmts) → read_tree tree limits.depth limits.funs ≡ r →
        entry.from_read r limit ≡ functions_are fs → From limits tree limit fs
    by_read l (got stmts next) r e = by_outcome stmts next l r (c.compile_functions limit stmts) refl e
    by_read l (bad x) r e = let z : ◌≡◌ {A = ℕ} 0 1 = cc in absurd (omega arith)

    by_length : (b : Bool) → leb (length tree) max_tree ≡ b → (r : Read Stmts) → read_tree tree limits.depth limits.funs ≡ r →
        (if b then entry.from_read r limit else refused (outside refusal.TreeTooLong)) ≡ functions_are fs → From limits tree limit fs
    by_length true l r e₁ e₂ = by_read (leb→le (length tree) max_tree (rw l tt)) r e₁ e₂
    by_length false l r e₁ e₂ = let z : ◌≡◌ {A = ℕ} 0 1 = cc in absurd (omega arith)

-- ## The fields of every function

zip : {A : Type 0} (P Q : A → Type 0) (xs : List A) → All P xs → All Q xs → All (λ (x : A). P x × Q x) xs
zip P Q [] h k = tt
zip P Q (x ∷ xs) h k = ((h.0, k.0), zip P Q xs h.1 k.1)

-- a function's number is below a bound
abbrev Below : ℕ → Constant → Type 0
Below bound (CN bits) = Unit {0}
Below bound (CS name) = Unit {0}
Below bound (CF number) = number < bound

constants_below : (number bound : ℕ) → number ≤ bound → (cs : List Constant) → T (all (names_earlier number) cs) → All (Below bound) cs
unfolding names_earlier
constants_below number bound l [] t = tt
constants_below number bound l (v ∷ cs) t =
    (one v (all_and (names_earlier number) v cs t).0, constants_below number bound l cs (all_and (names_earlier number) v cs t).1)
  where
    one : (v : Constant) → T (names_earlier number v) → Below bound v
    one (CN bits) t = tt
    one (CS name) t = tt
    one (CF named) t = omega (arith, ltb→lt named number t)

functions_below : (number bound : ℕ) (fs : List ObjectFunction) → number + length fs ≤ bound → T (all_earlier number fs) →
    All (λ (f : ObjectFunction). All (Below bound) f.chunk.constants) fs
unfolding all_earlier
functions_below number bound [] l t = tt
functions_below number bound (f ∷ fs) l t = (
  constants_below number bound (omega arith) f.chunk.constants
      (left (all (names_earlier number) f.chunk.constants) (all_earlier (number + 1) fs) t),
  functions_below (number + 1) bound fs (omega arith) (right (all (names_earlier number) f.chunk.constants) (all_earlier (number + 1) fs) t),
)

-- the fourth of what the checker asks
earlier : (fs : List ObjectFunction) → T (sound fs) → T (all_earlier 0 fs)
unfolding sound checker.facts
earlier fs t =
    (all_and (λ fact. fact) _ _ (all_and (λ fact. fact) _ _ (all_and (λ fact. fact) _ _ (all_and (λ fact. fact) _ _ t).1).1).1).0

pub few_runs : (runs : List Run) → All Counts runs → length runs ≤ total runs
unfolding total
few_runs [] h = omega arith
few_runs (run ∷ runs) h = omega (arith, h.0.least, few_runs runs h.1)

constant_fits : (bound : ℕ) → bound < 4_294_967_296 → (v : Constant) → SmallConstant v × Below bound v → FitsConstant v
constant_fits bound l (CN bits) h = h.0
constant_fits bound l (CS name) h = h.0
constant_fits bound l (CF number) h = omega (arith, h.1)

form : (limit bound : ℕ) → limit ≤ max_code → bound < 4_294_967_296 → (f : ObjectFunction) → WideFunction f →
    Sound limit f.upvalue_count f.chunk → Counted f.chunk →
    All (Below bound) f.chunk.constants → FitsForm f
form limit bound l b f w s r e =
    record {
      name = w.named;
      arity = omega (arith, w.few);
      upvalue_count = omega (arith, s.count);
      constants = omega (arith, s.few);
      runs = omega (arith, s.room, r.sum, few_runs f.chunk.spans r.each);
      code = omega (arith, s.room);
      each_constant =
          all_map (λ (v : Constant). SmallConstant v × Below bound v) FitsConstant (constant_fits bound b) f.chunk.constants
          (zip SmallConstant (Below bound) f.chunk.constants w.constants e);
      each_run =
          all_map (λ (run : Run). SmallRun run × Counts run) FitsRun (λ run h. record { span = h.0; count = omega (arith, h.1.most) })
          f.chunk.spans
          (zip SmallRun Counts f.chunk.spans w.runs r.each);
      each_byte = s.bytes;
    }

forms : (limit bound : ℕ) → limit ≤ max_code → bound < 4_294_967_296 → (fs : List ObjectFunction) → All WideFunction fs → AllSound limit fs →
    All (λ (f : ObjectFunction). List ObjectFunction × Counted f.chunk) fs → All
    (λ (f : ObjectFunction). All (Below bound) f.chunk.constants) fs → All FitsForm fs
forms limit bound l b [] w s r e = tt
forms limit bound l b (f ∷ fs) w s r e =
    (form limit bound l b f w.0 s.0.1 r.0.1 e.0, forms limit bound l b fs w.1 s.1 r.1 e.1)

pub code_limit_most : (lent : Lent) → code_limit lent ≤ max_code
unfolding code_limit
code_limit_most lent = omega arith

module _ (limits : Limits) (tree : List ℕ) (bytes : Bytes tree) (lent : Lent) (fs : List ObjectFunction)
    (e : compile_lent limits tree lent ≡ functions_are fs) where
  from : From limits tree (code_limit lent) fs
  from = from_tree limits tree (code_limit lent) fs (from_lent limits tree lent fs e)

  fits : Fitting tree limits.funs from.stmts
  fits = tree_fits tree bytes limits.depth limits.funs from.stmts from.next from.read

  -- every number of the image is below what its field holds
  pub image_fits : FitsImage fs
  image_fits =
      record {
        some = w.some;
        few = few;
        each =
            forms (code_limit lent) (length fs) (code_limit_most lent) few fs w.each (lent_sound limits tree lent fs e)
            (from_ok (λ fs. All (λ (f : ObjectFunction). List ObjectFunction × Counted f.chunk) fs)
            (c.compile_functions (code_limit lent) from.stmts) fs from.state from.compiled
            (counted (code_limit lent) from.stmts))
            (functions_below 0 (length fs) fs (omega arith) (earlier fs (lent_checked limits tree lent fs e)));
      }
    where
      w : Widths (stmts_size from.stmts) fs
      w =
          from_ok (Widths (stmts_size from.stmts)) (c.compile_functions (code_limit lent) from.stmts) fs from.state from.compiled
          (widths (code_limit lent) limits.funs from.stmts fits.parts)

      few : length fs < 4_294_967_296
      few = omega (arith, w.count, fits.size, from.short)

  -- and so is every offset, whatever the limits
  pub image_short : (directory : Bool) → length (image_with directory fs) < 4_294_967_296
  image_short directory =
      omega (
        arith,
        from.short,
        fits.size,
        from_ok (λ fs. length (image_with directory fs) ≤ 221 * stmts_size from.stmts + 347) (c.compile_functions (code_limit lent) from.stmts) fs
            from.state from.compiled (image_in_all (code_limit lent) limits.funs from.stmts directory fits.parts),
      )

  offsets_fit : length (image_bytes fs) ≤ 4_294_967_296
  unfolding image_with
  offsets_fit = omega (arith, image_short false)

  -- the encoder loses nothing of what the compiler gives
  pub image_read_back : (directory : Bool) → read_image (image_with directory fs) ≡ got fs (length (image_with directory fs))
  image_read_back directory = read_back_with directory fs image_fits (λ _. offsets_fit)

  -- what the compiler writes, the checker accepts, and counts the instructions of the division
  pub image_accepted : (directory : Bool) → check (image_with directory fs) ≡ accepted (instruction_count fs fs)
  image_accepted directory = sound_accepted_with directory fs image_fits (λ _. offsets_fit) (lent_checked limits tree lent fs e)

-- ## The same of what a call leaves

-- the output holds an image, as long as the answer says, which the checker accepts, and then zeros
pub record Good (lent : Lent) (r : Left) : Type 0 where
  pub functions : List ObjectFunction
  pub says : r.answer ≡ accepted (length (image_for lent functions))
  pub holds : r.output ≡ image_for lent functions ++ replicate (lent.output_bytes - length (image_for lent functions)) 0
  pub checks : check (image_for lent functions) ≡ accepted (instruction_count functions functions)

module _ (limits : Limits) (tree : List ℕ) (bytes : Bytes tree) (lent : Lent) where
  pub within_good : (compile_within limits tree lent).answer.number ≡ 0 → Good lent (compile_within limits tree lent)
  unfolding compile_within entry.write_out entry.leaves entry.write_image refusal_in
  within_good e = by_compiled (compile_lent limits tree lent) refl e
    where
      by_room : (fs : List ObjectFunction) → compile_lent limits tree lent ≡ functions_are fs → (b : Bool) →
          (room lent (image_for lent fs) b).answer.number ≡ 0 → Good lent (room lent (image_for lent fs) b)
      by_room fs e₁ true e₂ =
          record {
            functions = fs;
            says = refl;
            holds = refl;
            checks = image_accepted limits tree bytes lent fs e₁ (asks_directory lent.options);
          }
      by_room fs e₁ false e₂ = absurd (omega (arith, refusal_number (refusal.OutFull (length (image_for lent fs)))))

      by_compiled : (x : Compiled) → compile_lent limits tree lent ≡ x → (entry.write_out lent x).answer.number ≡ 0 →
          Good lent (entry.write_out lent x)
      by_compiled (functions_are fs) e₁ e₂ = by_room fs e₁ (leb (length (image_for lent fs)) lent.output_bytes) e₂
      by_compiled (refused y) e₁ e₂ = absurd (omega (arith, refusal_number y.what))

-- for every tree file of bytes and all lent sizes
pub accepted_good : (tree : List ℕ) → Bytes tree → (lent : Lent) → (compile tree lent).answer.number ≡ 0 → Good lent (compile tree lent)
accepted_good tree bytes lent e = within_good first_limits tree bytes lent e
