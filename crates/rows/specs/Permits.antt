-- What the bytes of a table or of a limit permit, which variables a constraint is over, which values can be asked for (`Loaded`), where
-- a section starts (`Placed`), and what a table's row is read from (`Readable`).
use Rattle.std.specs.Prelude.{ℕ, ◌<◌, ◌≤◌, Bool, false, cond, List, ◌≡◌, eqb, length}
use Rattle.base.specs.Row.{bit}
use Rattle.plan.specs.Decode.{plan_of}
use Rattle.format.specs.Format.{section_start, constraint_start, variable_count, kind_at, table_row_start, table_row_at, figure_at}
use Rattle.format.specs.Limits.{max_values}
use Rattle.format.specs.Version.{max_size}
use Rattle.plan.specs.Network.{within_limit, ties}
use Rattle.plan.specs.Plan.{size_of, constraint_of}

-- the limit permits the figure of value `w` of the variable at `place` with figure `f`
unfoldable pub limited : List ℕ → ℕ → ℕ → ℕ → ℕ → Bool
limited b limit f place w = within_limit limit f (figure_at b place w)

-- the table at `at` permits value `w` of its first variable with value `v` of its second
unfoldable pub in_column : List ℕ → ℕ → ℕ → ℕ → Bool
in_column b at v w = bit (table_row_at b at w) v

-- the table at `at` permits value `v` of its first variable where `leads`, else of its second, with value `w` of the other one:
-- `permits` of the plan's network said over the bytes; `table_accepts_lem` (proofs/Accepted) proves the two equal
unfoldable pub table_permits : List ℕ → ℕ → Bool → ℕ → ℕ → Bool
table_permits b at leads v w = cond leads (bit (table_row_at b at v) w) (in_column b at v w)

-- value `v` is one of variable `x` of the plan
pub record Loaded (b : List ℕ) (x v : ℕ) : Type 0 where
  pub variable : x < variable_count b
  pub value : v < size_of (plan_of b) x

-- what the table's row for value `v` of its first variable where `leads`, else of its second, is read from: the value has a place in
-- a row, and for the second variable the rows of the `values` values of the first end inside the plan
pub record Readable (b : List ℕ) (at : ℕ) (leads : Bool) (v values : ℕ) : Type 0 where
  pub section : at ≤ length b
  pub in_row : v < max_size b
  pub few : values ≤ max_values
  pub rows_inside : leads ≡ false → table_row_start b at values ≤ length b

-- constraint `c` of the plan is over `x` and `y`, either way round
unfoldable pub over : List ℕ → ℕ → ℕ → ℕ → Bool
over b x y c = ties (constraint_of (plan_of b) c) x y

-- constraint `c` is a table
unfoldable pub is_table : List ℕ → ℕ → Bool
is_table b c = eqb (kind_at b (constraint_start b c)) 0

-- `at` is where section `k` starts, within the plan
pub record Placed (b : List ℕ) (at k : ℕ) : Type 0 where
  pub start : at ≡ section_start b k
  pub within : at ≤ length b
