-- What is known of a constraint's scope when its pairs are touched.
use Rattle.std.specs.Prelude.{ℕ, ◌≤◌, true, List, ◌≡◌, length}
use Rattle.format.specs.Format.{variable_count, further_count}
use Rattle.format.specs.Limits.{max_variables, max_further}
use Rattle.plan.specs.Check.{variables_in_order, further_in_order}

-- the constraint's section at `at` passed the checks of its scope
pub record ScopeKnown (b : List ℕ) (at : ℕ) : Type 0 where
  pub within : at ≤ length b
  pub few_variables : variable_count b ≤ max_variables
  pub in_order : variables_in_order b at ≡ true
  pub few_further : further_count b at ≤ max_further
  pub further_in_order_lem : further_in_order b at ≡ true
