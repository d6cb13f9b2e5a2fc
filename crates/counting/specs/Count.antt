-- Counting the supports in memory, where the plan's index stands already: the counters of each two linked variables.
use Rattle.std.specs.Prelude.{ℕ, ◌+◌, ◌^◌, ◌<◌, ◌≤◌, cond, List, ◌≡◌, length, get_or}
use Rattle.base.specs.Below.{loop}
use Rattle.base.specs.Row.{bit, row_of}
use Rattle.disac4.specs.System.{System}
use Rattle.network.specs.Network.{Network, supports, support_count}
use Rattle.cells.specs.Layout.{COUNTERS, VALUEROOM}
use Rattle.cells.specs.Memory.{Mem, store}
use Rattle.cells.specs.View.{counter_row}

-- the row of the supports of value `v` of `x` against `y`
abbrev pub support_row : Network → ℕ → ℕ → ℕ → ℕ
support_row net x y v = row_of (net.size y) (supports net x v y)

-- a row for each value there is room for, of which the first `n` are those that `f` gives
pub record FirstRows (f : ℕ → ℕ) (n : ℕ) (rows : List ℕ) : Type 0 where
  pub long : length rows ≡ VALUEROOM
  pub each : (v : ℕ) → v < n → get_or rows v 0 ≡ f v

-- value `v` can be put into the rows of the values that its own row holds: those are below `n`, and the rows have lower values only
pub record Gathers (rows : List ℕ) (n row v : ℕ) : Type 0 where
  pub long : length rows ≡ VALUEROOM
  pub few : n ≤ VALUEROOM
  pub value : v < VALUEROOM
  pub held : row < 2 ^ n
  pub lower : (w : ℕ) → w < VALUEROOM → get_or rows w 0 < 2 ^ v

-- value `v` was put into the row of each value that its own row holds
abbrev pub Gathered : ℕ → ℕ → List ℕ → List ℕ → Type 0
Gathered row v old new = FirstRows (λ w. get_or old w 0 + cond (bit row w) (2 ^ v) 0) VALUEROOM new

-- the counter of value `v` of `x` against `y`, in row `at`
abbrev pub count_value_m : System → ℕ → ℕ → ℕ → ℕ → Mem → Mem
count_value_m sys x y at v m = store m COUNTERS at v (support_count sys.net x v y)

-- the counters of the values of `x` against `y`
unfoldable pub count_pair_m : System → ℕ → ℕ → Mem → Mem
count_pair_m sys x y m = loop (sys.net.size x) (count_value_m sys x y (counter_row m x y)) m

-- the same, if the two are linked
unfoldable pub count_against_m : System → ℕ → ℕ → Mem → Mem
count_against_m sys x y m = cond (sys.net.linked x y) (count_pair_m sys x y m) m

-- the counters of `x` against `y` and of `y` against `x`
unfoldable pub count_both_m : System → ℕ → ℕ → Mem → Mem
count_both_m sys x y m = count_against_m sys y x (count_against_m sys x y m)

-- the counters of each variable before `x` and `x`
unfoldable pub count_variable_m : System → ℕ → Mem → Mem
count_variable_m sys x = loop x (λ y. count_both_m sys y x)

-- the counters of each two variables
unfoldable pub count_supports_m : System → Mem → Mem
count_supports_m sys = loop sys.net.variables (count_variable_m sys)
