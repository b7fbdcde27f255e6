-- How often a CLOSURE names each place of a table of constants.
use Rattle.std.specs.Prelude.{List, ◌≡◌, true, ℕ, ◌+◌, ◌<◌, ◌≤◌, length, get_or}
use Rattle.rules.specs.Division.{Kind}
use Rattle.rules.specs.Checker.{closures}
use Rattle.image_code.specs.Table.{from, instructions, is_some}

-- each place is counted as often as a CLOSURE before `at` names it
pub record Closing (kind : ℕ → Kind) (code named : List ℕ) (at skip : ℕ) : Type 0 where
  pub size : length named ≡ 256
  pub within : at ≤ length code
  pub divides : is_some (from kind code at skip) ≡ true
  pub counted : (place : ℕ) → place < 256
      → closures place (instructions (from kind code 0 0)) ≡ get_or named place 0 + closures place (instructions (from kind code at skip))
  pub below : (place : ℕ) → place < 256 → get_or named place 0 ≤ at

pub record Counted (kind : ℕ → Kind) (code named : List ℕ) : Type 0 where
  pub size : length named ≡ 256
  pub counts : (place : ℕ) → place < 256 → closures place (instructions (from kind code 0 0)) ≡ get_or named place 0
