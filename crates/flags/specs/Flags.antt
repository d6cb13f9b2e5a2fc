-- A table with a flag for each turn: a cell for each actor and action.
use Rattle.std.specs.Prelude.{ℕ, Bool, false, ◌+◌, ◌*◌, List, get_or}
use Rattle.disac4.specs.Turn.{poll_action}
use Rattle.format.specs.Limits.{max_workers}

-- the controller, and as many workers as there may be
abbrev pub actors : ℕ
actors = 1 + max_workers

-- the actions have the numbers from 0 to that of a poll
abbrev pub actions : ℕ
actions = 1 + poll_action

-- how many cells a table has
abbrev pub cell_count : ℕ
cell_count = actors * actions

-- the cell of actor `k`'s action `d`
abbrev pub cell_at : List Bool → ℕ → ℕ → Bool
cell_at table k d = get_or table (k * actions + d) false
