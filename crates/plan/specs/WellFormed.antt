-- What is true of every accepted plan: the ranges of document 01's "What the words mean" and "The plan as bytes", as jobs 4 and 5 have
-- them.
use Rattle.std.specs.Prelude.{ℕ, suc, ◌+◌, ◌^◌, ◌<◌, ◌≤◌, List, ◌≡◌, length, get_or}
use Rattle.format.specs.Limits.{max_workers, max_variables, max_labels, max_constraints, max_pairs, max_further}
use Rattle.network.specs.Network.{label_count, pair_count}
use Rattle.plan.specs.Network.{network_of}
use Rattle.plan.specs.Plan.{Plan, Constraint, table, variable_of, value_of, size_of, constraint_of}

-- the variable at an index: its owner is a worker, its values are at most `most` and their codes differ
pub record VariableFits (most : ℕ) (plan : Plan) (x : ℕ) : Type 0 where
  pub owner_low : 1 ≤ (variable_of plan x).owner
  pub owner_high : (variable_of plan x).owner ≤ plan.workers
  pub few_values : size_of plan x ≤ most
  pub codes_differ : (u v : ℕ) → u < v → v < size_of plan x → (value_of plan x u).code ≡ (value_of plan x v).code → ⊥

-- a constraint: its scope has two of the plan's variables or more, up to eight, ascending; a table is over two, with a row for each
-- value of the first, each row with bits for values of the second alone
pub record ConstraintFits (plan : Plan) (c : Constraint) : Type 0 where
  pub two : 2 ≤ length c.scope
  pub few : length c.scope ≤ 2 + max_further
  pub low : (i : ℕ) → i < length c.scope → 1 ≤ get_or c.scope i 0
  pub ascending : (i j : ℕ) → i < j → j < length c.scope → get_or c.scope i 0 < get_or c.scope j 0
  pub high : (i : ℕ) → i < length c.scope → get_or c.scope i 0 ≤ length plan.variables
  pub table_two : (rows : List ℕ) → c.relation ≡ table rows → length c.scope ≡ 2
  pub row_each : (rows : List ℕ) → c.relation ≡ table rows → (x : ℕ) → get_or c.scope 0 0 ≡ suc x → length rows ≡ size_of plan x
  pub rows_fit : (rows : List ℕ) → c.relation ≡ table rows → (y : ℕ) → get_or c.scope 1 0 ≡ suc y
      → (v : ℕ) → v < length rows → get_or rows v 0 < 2 ^ size_of plan y

-- p, n, the number of rules, L, the pairs of slots that share a rule, and each slot and rule are as documents 01 and 02 have them; a
-- slot has at most `most` dishes
pub record WellFormed (most : ℕ) (plan : Plan) : Type 0 where
  pub workers_low : 1 ≤ plan.workers
  pub workers_high : plan.workers ≤ max_workers
  pub variables_low : 1 ≤ length plan.variables
  pub variables_high : length plan.variables ≤ max_variables
  pub constraints_high : length plan.constraints ≤ max_constraints
  pub few_labels : label_count (network_of plan) ≤ max_labels
  pub few_pairs : pair_count (network_of plan) ≤ max_pairs
  pub each_variable : (x : ℕ) → x < length plan.variables → VariableFits most plan x
  pub each_constraint : (c : ℕ) → c < length plan.constraints → ConstraintFits plan (constraint_of plan c)
