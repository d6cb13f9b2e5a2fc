-- Treating a label in memory: the treating worker's variables that share a constraint with it, ascending, and their values.
use Rattle.std.specs.Prelude.{ℕ, suc, ◌+◌, ◌-◌, ◌<◌, Bool, cond, ◌&&◌, List, ltb, eqb}
use Rattle.std.proofs.Math.Option.{Option, none, some}
use Rattle.base.specs.Below.{loop}
use Rattle.base.specs.Row.{bit}
use Rattle.disac4.specs.System.{System}
use Rattle.rows.specs.Permits.{Loaded}
use Rattle.cells.specs.Layout.{WORKERS, WORK, COUNTERS, HEAD, TAIL, LABELROOM}
use Rattle.cells.specs.Queues.{delete_m}
use Rattle.cells.specs.Memory.{Mem, store}
use Rattle.cells.specs.View.{in_domain, counter_row, label_of}

-- label `v` of `x` loses one from its count against `y`; at 0 it is deleted
unfoldable pub lose_m : ℕ → ℕ → ℕ → ℕ → Mem → Mem
lose_m i x v y m =
    cond (eqb (m COUNTERS (counter_row m x y) v - 1) 0)
    (delete_m i x v (store m COUNTERS (counter_row m x y) v (m COUNTERS (counter_row m x y) v - 1)))
    (store m COUNTERS (counter_row m x y) v (m COUNTERS (counter_row m x y) v - 1))

-- each of the labels of `x` below `n` that a row holds
unfoldable pub lose_row_m : ℕ → ℕ → ℕ → ℕ → ℕ → Mem → Mem
lose_row_m n i x y row = loop n (λ v m. cond (bit row v) (lose_m i x v y m) m)

-- label `v` of `x`, if it is in its domain and had label `w` of `y` as a support
unfoldable pub touch_m : System → ℕ → ℕ → ℕ → ℕ → ℕ → Mem → Mem
touch_m sys i y w x v m =
    cond (in_domain m x v) (cond (sys.net.allows x v y w) (lose_m i x v y m) m) m

-- the values of `x`, if row `i` owns it and it shares a constraint with `y`
unfoldable pub touch_variable_m : System → ℕ → ℕ → ℕ → ℕ → Mem → Mem
touch_variable_m sys i y w x m =
    cond (eqb (sys.owner x) (suc i)) (cond (sys.net.linked x y) (loop (sys.net.size x) (touch_m sys i y w x) m) m) m

-- all variables
unfoldable pub touch_variables_m : System → ℕ → ℕ → ℕ → Mem → Mem
touch_variables_m sys i y w = loop sys.net.variables (touch_variable_m sys i y w)

-- whether row `i` has a label to treat, within the row
unfoldable pub has_work : ℕ → Mem → Bool
has_work i m = ltb (m WORKERS i HEAD) (m WORKERS i TAIL) && ltb (m WORKERS i HEAD) LABELROOM

-- where row `i` has work, its oldest label is one of the plan's
abbrev pub HeadLoaded : List ℕ → Mem → ℕ → Type 0
HeadLoaded b m i = m WORKERS i HEAD < m WORKERS i TAIL → Loaded b (label_of (m WORK i (m WORKERS i HEAD))).variable (label_of (m WORK i (m WORKERS i HEAD))).value

-- row `i` takes the oldest label from its work list
unfoldable pub treat_m : System → ℕ → Mem → Option Mem
treat_m sys i m =
    cond (has_work i m)
    (some
    (touch_variables_m sys i (label_of (m WORK i (m WORKERS i HEAD))).variable (label_of (m WORK i (m WORKERS i HEAD))).value
    (store m WORKERS i HEAD (m WORKERS i HEAD + 1))))
    none
