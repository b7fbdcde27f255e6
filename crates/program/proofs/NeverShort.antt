-- The areas that the program lends are room enough for every tree that it takes: 1, 30 and 31 are none of its answers.
use mathlib.Core.Path.{◌≡◌, refl}
use mathlib.Core.Bool.{Bool, true, false}
use mathlib.Core.Logic.{◌≢◌}
use mathlib.Core.List.{List}
use Prim.Native.Nat.{ℕ, ◌≤◌}
use native.Mathlib.Omega.{arith}
use lib.ListN.{length}
use lib.Dec.{leb, leb→le}
use Rattle.std.specs.Prelude.{if◌then◌else◌}
use Rattle.rules.specs.declared.Answer.{Answer}
use Rattle.rules.specs.declared.Refusal.TheVariants.{TreeTooLong}
use Rattle.rules.specs.Answer.{refusal}
use Rattle.rules.specs.Entry.{compile}
use Rattle.rules_laws.proofs.Facts.{Bytes}
use Rattle.rules_laws.proofs.Bounds.{room_that_suffices}
use Rattle.program.specs.Program.{most, areas, program_answer}

abbrev pub NeverShort : Answer → Type 0
NeverShort a = (a.number ≢ 1) × (a.number ≢ 30) × (a.number ≢ 31)

pub never_short : (tree : List ℕ) → Bytes tree → NeverShort (program_answer tree areas)
unfolding program_answer refusal
never_short tree bytes = by_length (leb (length tree) most) refl
  where
    by_length : (b : Bool) → leb (length tree) most ≡ b → NeverShort (if b then (compile tree areas).answer else refusal TreeTooLong)
    by_length true e =
        let l : length tree ≤ most = leb→le (length tree) most (rw e tt) in
        room_that_suffices tree bytes areas (omega arith) (omega arith) (omega arith) (omega arith) (omega arith)
    by_length false e = (λ e. omega arith, λ e. omega arith, λ e. omega arith)
