-- The reads of a worker in memory: the memory after, or nothing where the read is idle. A test against a region's size stands for room
-- that the refinement shows is never lacking.
use Rattle.std.specs.Prelude.{ℕ, ◌+◌, ◌-◌, Bool, cond, ◌&&◌, leb, ltb}
use Rattle.std.proofs.Math.Option.{Option, none, some}
use Rattle.cells.specs.Layout.{WORKERS, CURSORS, BOUNDS, SENDS, LISTS, HELD, POLLS, LABELROOM, SENDROOM, LISTSMAX}
use Rattle.cells.specs.Queues.{copy_m}
use Rattle.cells.specs.Memory.{Mem, store}

-- ---- row `i` reads from row `j`

-- where the next list message of row `j` for row `i` begins in the log
abbrev pub list_start : ℕ → ℕ → Mem → ℕ
list_start j i m = m BOUNDS j (m CURSORS j i)

-- and where it ends
abbrev pub list_end : ℕ → ℕ → Mem → ℕ
list_end j i m = m BOUNDS j (m CURSORS j i + 1)

-- the list message from `from` to `to` in row `j`'s log is read; `read` lists of it were, and the list counter is `lists`
unfoldable pub taken_with : ℕ → ℕ → ℕ → ℕ → ℕ → ℕ → Mem → Mem
taken_with j i read from to lists m =
    store (store (copy_m j i from (to - from) m) CURSORS j i (read + 1)) WORKERS i LISTS (lists + 1)

-- the next list message is read, from what the cells hold
unfoldable pub taken_m : ℕ → ℕ → Mem → Mem
unfolding taken_with
taken_m j i m = taken_with j i (m CURSORS j i) (list_start j i m) (list_end j i m) (m WORKERS i LISTS) m

-- whether row `j` has a list message that row `i` has not read, and there is room for it
unfoldable pub has_list : ℕ → ℕ → Mem → Bool
has_list j i m =
    ltb (m CURSORS j i) (m WORKERS j SENDS)
    && ltb (m CURSORS j i) SENDROOM
    && leb (list_end j i m) LABELROOM
    && ltb (m WORKERS i LISTS) LISTSMAX

-- row `i` takes the next list message of row `j`, if there is one
unfoldable pub read_list_m : ℕ → ℕ → Mem → Option Mem
read_list_m j i m = cond (has_list j i m) (some (taken_m j i m)) none

-- ---- row `i` reads from the controller

-- poll `n` is the last that row `i` has read, and the one that it holds
abbrev pub held_m : ℕ → ℕ → Mem → Mem
held_m i n m = store (store m WORKERS i POLLS n) WORKERS i HELD n

-- it takes the next of the `n` polls that were sent, if there is one
unfoldable pub read_poll_m : ℕ → ℕ → Mem → Option Mem
read_poll_m i n m = cond (ltb (m WORKERS i POLLS) n) (some (held_m i (m WORKERS i POLLS + 1) m)) none
