-- What the checks of a constraint know of the variables, whose sections stand before it.
use Rattle.std.specs.Prelude.{ℕ, ◌+◌, ◌≤◌, List, ◌≡◌, length, get_or}
use Rattle.format.specs.Format.{section_start, variable_count, numbered_size}
use Rattle.format.specs.Limits.{max_variables, max_values}

-- as many places as there are of the head and of the variables
abbrev pub start_count : ℕ
start_count = 1 + max_variables

-- the variables' sections passed, and `starts` has their places
pub record VariablesKnown (b starts : List ℕ) : Type 0 where
  pub few : variable_count b ≤ max_variables
  pub found : (s : ℕ) → s ≤ variable_count b → get_or starts s 0 ≡ section_start b s
  pub within : (s : ℕ) → s ≤ variable_count b → section_start b s ≤ length b
  pub small : (s : ℕ) → 1 ≤ s → s ≤ variable_count b → numbered_size b s ≤ max_values
