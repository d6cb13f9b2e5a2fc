-- Loading in memory, where the plan's index stands already: all supports are counted, then for each label the domain cell is
-- set, and the label deleted where a counter is 0.
use Rattle.std.specs.Prelude.{ℕ, ◌-◌, Bool, cond, ◌&&◌, not, eqb}
use Rattle.base.specs.Below.{all_below, loop}
use Rattle.base.specs.Row.{bit, row_of}
use Rattle.disac4.specs.System.{System}
use Rattle.cells.specs.Layout.{DOMAIN, COUNTERS, LISTED}
use Rattle.cells.specs.Queues.{delete_m}
use Rattle.cells.specs.Memory.{Mem, store}
use Rattle.cells.specs.View.{counter_row}
use Rattle.counting.specs.Count.{count_supports_m}

-- label `v` of `x` has no counter against `y`, or one that is not 0
unfoldable pub suits : System → Mem → ℕ → ℕ → ℕ → Bool
suits sys m x v y = not (sys.net.linked x y && eqb (m COUNTERS (counter_row m x y) v) 0)

-- the values of `x` whose counters against the first `n` variables suit
unfoldable pub suited_row : System → Mem → ℕ → ℕ → ℕ
suited_row sys m x n = row_of (sys.net.size x) (λ v. all_below n (suits sys m x v))

-- label `v` of `x` is in its domain; its owner deletes it unless it is supported
unfoldable pub list_label_m : System → ℕ → ℕ → Bool → Mem → Mem
list_label_m sys x v supported m =
    cond supported (store m DOMAIN x v LISTED) (delete_m (sys.owner x - 1) x v (store m DOMAIN x v LISTED))

-- value `v` of `x`, which the row holds if it is supported
abbrev pub list_value_m : System → ℕ → ℕ → ℕ → Mem → Mem
list_value_m sys x row v = list_label_m sys x v (bit row v)

-- all values of `x`, of which the row holds those that are supported
unfoldable pub list_values_m : System → ℕ → ℕ → Mem → Mem
list_values_m sys x row = loop (sys.net.size x) (list_value_m sys x row)

-- the values of `x`, by its counters
unfoldable pub list_variable_m : System → ℕ → Mem → Mem
list_variable_m sys x m = list_values_m sys x (suited_row sys m x sys.net.variables) m

-- the values of all variables
unfoldable pub list_m : System → Mem → Mem
list_m sys = loop sys.net.variables (list_variable_m sys)

-- from a memory that holds the plan's index and is 0 elsewhere
unfoldable pub load_m : System → Mem → Mem
load_m sys m = list_m sys (count_supports_m sys m)
