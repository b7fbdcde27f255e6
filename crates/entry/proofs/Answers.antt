-- What is answered, and what every lent area then holds, by the way out.
use Rattle.std.specs.Prelude.{Result, Err}
use mathlib.Core.Path.{◌≡◌, refl, sym, ap, subst, ◌∙◌}
use mathlib.Core.List.{List}
use Prim.Native.Nat.{ℕ, ◌+◌, ◌*◌, ◌≤◌, ◌<◌}
use native.Mathlib.Omega.{arith}
use lib.ListN.{length, get_or, replicate}
use borrow.Author.Tests.{le-leb, lt-leb}
use Rattle.rules.specs.Limits.{first_limits}
use Rattle.rules.specs.declared.Stopped.{Stopped}
use Rattle.rules.specs.declared.Refusal.TheVariants.{WorkShort}
use Rattle.rules.specs.Answer.{outside, refusal_in}
use Rattle.rules.specs.Image.{image_with}
use Rattle.rules.specs.Entry.{Left, Compiled, refused, asks_directory, code_limit, leaves, write_image, write_out, compile_tree, compile_lent, compile_within, compile}
use Rattle.state.specs.Layout.{image_at, table_words}
use Rattle.entry_parts.specs.Ends.{lent_of, answer_of, output_of, Finished}
use Rattle.writer.specs.Put.{Records}
use Rattle.entry.specs.Whole.{limit_of, Recorded, Written}

-- ## What a sound file comes to

pub written_refused : {options : ℕ} {made : Compiled} {x : Stopped} {r : Result ℕ Stopped} (out : List ℕ) → r ≡ Err x → made ≡ refused x → Written options made out r
unfolding write_out
written_refused {options} {made} {x} {r} out q e =
    subst (Written options made out) (sym q)
    (record { is = λ lent asked o. ap (write_out lent) e ∙ ap (λ (k : ℕ). leaves lent (refusal_in x) (replicate k 0)) o })

pub refused_as : {options : ℕ} {made : Compiled} {x y : Stopped} {out : List ℕ} → x ≡ y → made ≡ refused y → Written options made out (Err x)
refused_as {out = out} q e = written_refused out (ap Err q) e

-- what is asked for is put behind the records
pub records_of : {made : Compiled} {t out : List ℕ} {n : ℕ} (w : Recorded made t out n) → Records out n w.functions
records_of w = record { bytes = w.holds.bytes; long = w.long ∙ ap (λ (k : ℕ). 6 + k) w.holds.long; counted = w.holds.counted }

pub written_finished : {options : ℕ} {made : Compiled} {t out out' : List ℕ} {n : ℕ} {r : Result ℕ Stopped} → Recorded made t out n → Finished options (get_or t image_at 0) n out out' r
    → Written options made out' r
unfolding write_out
written_finished w f = record {
  is = λ lent asked o.
      ap (write_out lent) w.is ∙ ap (λ (k : ℕ). write_image lent (image_with (asks_directory k) w.functions)) asked
      ∙ f.is w.functions (records_of w) w.count lent (o ∙ f.size);
}

-- ## The table

module _ (tree : List ℕ) (options : ℕ) (table code spans out : List ℕ) where
  pub table_short : length table < table_words → compile_lent first_limits tree (lent_of options table code spans out) ≡ refused (outside WorkShort)
  unfolding compile_lent
  table_short h = rw (lt-leb 139296 (8 * length table) (omega arith))

  pub table_enough : table_words ≤ length table → compile_tree first_limits tree (limit_of code spans) ≡ compile_lent first_limits tree (lent_of options table code spans out)
  unfolding compile_lent code_limit
  table_enough h = rw (le-leb 139296 (8 * length table) (omega arith))

pub written_as : {options : ℕ} {made made' : Compiled} {out : List ℕ} {r : Result ℕ Stopped} → made ≡ made' → Written options made out r → Written options made' out r
written_as {options} {out = out} {r = r} e w = subst (λ (m : Compiled). Written options m out r) e w

pub written_limit : (tree : List ℕ) {options limit limit' : ℕ} {out : List ℕ} {r : Result ℕ Stopped} → limit ≡ limit' → Written options (compile_tree first_limits tree limit) out r →
    Written options (compile_tree first_limits tree limit') out r
written_limit tree e w = written_as (ap (compile_tree first_limits tree) e) w

-- ## In the end

module _ (tree : List ℕ) (options : ℕ) (table code spans out table' code' spans' out' : List ℕ) {r : Result ℕ Stopped}
    (w : Written options (compile_lent first_limits tree (lent_of options table code spans out)) out' r) where
  pub answered : {left : Left} → length table' ≡ length table → length code' ≡ length code → length spans' ≡ length spans → length out' ≡ length out
      → left ≡ leaves (lent_of 0 table' code' spans' out') (answer_of r) (output_of out' r) → left ≡ compile tree (lent_of options table code spans out)
  unfolding compile_within leaves
  answered t c s o e =
      e ∙ (λ i. record { answer = answer_of r; output = output_of out' r; table = replicate (t i) 0; code = replicate (c i) 0; spans = replicate (s i) 0 })
      ∙ sym (w.is (lent_of options table code spans out) refl (sym o))
