-- A ring of starts: what it holds where it is filled, and what it then tells of jumps.
use Rattle.std.specs.Prelude.{Bool, true, false, List, ◌≡◌, ℕ, ◌+◌, ◌%◌, ◌<◌, ◌≤◌, length, get_or}
use Rattle.rules.specs.Base.{all}
use Rattle.rules.specs.Division.{Kind, Instruction, is_start, lands}
use Rattle.image_code.specs.Table.{from, instructions, is_some, window_size, Wide}

abbrev pub start_at : (ℕ → Kind) → List ℕ → ℕ → Bool
start_at kind code p = is_start (instructions (from kind code 0 0)) p

-- the ring holds the starts of the last bytes before `at`
pub record Filled (kind : ℕ → Kind) (code : List ℕ) (ring : List Bool) (at skip : ℕ) : Type 0 where
  pub room : Wide (length code) (length ring)
  pub divides : is_some (from kind code at skip) ≡ true
  pub ahead : (p : ℕ) → at ≤ p → start_at kind code p ≡ is_start (instructions (from kind code at skip)) p
  pub window : (p : ℕ) → p < at → at ≤ p + window_size → get_or ring (p % window_size) false ≡ start_at kind code p
  pub within : at + skip ≤ length code

-- the ring tells the starts that a jump at `at` can reach
pub record Near (kind : ℕ → Kind) (code : List ℕ) (ring : List Bool) (at : ℕ) : Type 0 where
  pub near : (p : ℕ) → p < length code → at ≤ p + 65532 → p ≤ at + 65538 → get_or ring (p % window_size) false ≡ start_at kind code p

abbrev pub all_land : (ℕ → Kind) → List ℕ → List Instruction → Bool
all_land kind code is = all (lands (instructions (from kind code 0 0)) (length code)) is
