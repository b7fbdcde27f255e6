-- Laws of the walk that counts instructions.
use mathlib.Core.Path.{◌≡◌, refl, sym, ◌∙◌, ap}
use mathlib.Core.Bool.{Bool, true, false}
use mathlib.Core.Option.{Option, none, some}
use mathlib.Core.List.{List}
use Prim.Native.Nat.{ℕ, suc, ◌+◌, ◌-◌, ◌<◌}
use native.Mathlib.Omega.{arith}
use lib.ListN.{length, get_or, drop}
use Rattle.rules.specs.Division.{Kind, Instruction, followed_by}
use Rattle.image_code.specs.Forms.{width}
use Rattle.image_code.specs.Table.{division}
use Rattle.rules.specs.Base.{all}
use Rattle.image_code.specs.Table.{instruction_at, from, judged}
use Rattle.std.specs.Prelude.{Some, None}
use Rattle.image_code.proofs.Steps.{passed, no_instruction, cut, ended}
use Rattle.image_code.proofs.Turns.{begins}

judge_bad : (p : Instruction → Bool) (n : ℕ) (i : Instruction) (r : Option (List Instruction)) → p i ≡ false → judged p n (followed_by i r) ≡ None
unfolding judged followed_by all
judge_bad p n i none e = refl
judge_bad p n i (some is) e = rw e refl

judge_on : (p : Instruction → Bool) (n : ℕ) (i : Instruction) (r : Option (List Instruction)) → p i ≡ true → judged p n (followed_by i r) ≡ judged p (n + 1) r
unfolding judged followed_by all
judge_on p n i none e = refl
judge_on p n i (some is) e = let m : n + suc (length is) ≡ n + 1 + length is = omega arith in rw (e, m) refl

pub division_is : (kind : ℕ → Kind) (code : List ℕ) → division kind code ≡ from kind code 0 0
unfolding from
division_is kind code = refl

module _ (kind : ℕ → Kind) (code : List ℕ) (p : Instruction → Bool) where
  pub judge_begin : judged p 0 (division kind code) ≡ judged p 0 (from kind code 0 0)
  unfolding from
  judge_begin = refl

  pub judge_skip : (n at skip s : ℕ) → at < length code → skip ≡ suc s → judged p n (from kind code at skip) ≡ judged p n (from kind code (at + 1) s)
  judge_skip n at skip s h e = ap (judged p n) (passed kind code at skip s h e)

  pub judge_none : (n at skip w : ℕ) → skip ≡ 0 → at < length code → w ≡ width kind (get_or code at 0) (drop (at + 1) code) → w ≡ 0
      → judged p n (from kind code at skip) ≡ None
  unfolding judged
  judge_none n at skip w z h e o = rw (z, no_instruction kind code at h (sym o ∙ e)) refl

  module _ (n at skip w : ℕ) (z : skip ≡ 0) (h : at < length code) (e : w ≡ width kind (get_or code at 0) (drop (at + 1) code)) (o : 0 < w) where
    abbrev starts : from kind code at skip ≡ followed_by (instruction_at kind code at) (from kind code (at + 1) (w - 1))
    starts = begins kind code at skip w (w - 1) z h e (omega arith)

    pub judge_cut : length code < at + w → judged p n (from kind code at skip) ≡ None
    unfolding judged followed_by
    judge_cut l = ap (judged p n) (starts ∙ ap (followed_by _) (cut kind code (at + 1) (w - 1) (omega arith) (omega arith)))

    pub judge_refuse : p (instruction_at kind code at) ≡ false → judged p n (from kind code at skip) ≡ None
    judge_refuse b = ap (judged p n) starts ∙ judge_bad p n _ _ b

    pub judge_more : p (instruction_at kind code at) ≡ true → judged p n (from kind code at skip) ≡ judged p (n + 1) (from kind code (at + 1) (w - 1))
    judge_more b = ap (judged p n) starts ∙ judge_on p n _ _ b

  pub judge_done : (n at skip : ℕ) → skip ≡ 0 → at ≡ length code → judged p n (from kind code at skip) ≡ Some n
  unfolding judged all
  judge_done n at skip z e = let m : n + 0 ≡ n = omega arith in rw (z, ended kind code at e, m) refl
