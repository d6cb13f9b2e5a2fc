-- The work list and the log in memory: pushing a label, deleting one, and copying a list message.
use Rattle.std.specs.Prelude.{ℕ, ◌+◌, ◌<◌, ◌≤◌, cond, List, ◌≡◌, ltb, length}
use Rattle.disac4.specs.Need.{work_need}
use Rattle.format.specs.Limits.{max_workers}
use Rattle.base.specs.Below.{loop}
use Rattle.cells.specs.Layout.{WORKERS, LOG, WORK, DOMAIN, BEHIND, TAIL, LOGEND, LABELROOM, region_at, WORKERCOLS, room}
use Rattle.cells.specs.Memory.{Mem, store}
use Rattle.cells.specs.View.{label_number}
use Rattle.cells.specs.declared.Region.{Region}

-- a push fits: the region is one of lists, LOG or WORK, and row, column and number are in range
pub record Pushes (cells : List ℕ) (g : Region) (col i c : ℕ) : Type 0 where
  pub known : region_at g.id ≡ g
  pub writable : g.id < BEHIND
  pub rows : g.rows ≡ max_workers
  pub cols : g.cols ≡ LABELROOM
  pub row : i < max_workers
  pub end : col < WORKERCOLS
  pub small : c < room g
  pub long : work_need ≤ length cells

-- `c` at the end of row `i` of a region whose end is kept in a column of the worker's row; there is room for LABELROOM
unfoldable pub push_m : ℕ → ℕ → ℕ → ℕ → Mem → Mem
push_m r col i c m =
    cond (ltb (m WORKERS i col) LABELROOM)
    (store (store m r i (m WORKERS i col) c) WORKERS i col (m WORKERS i col + 1))
    m

-- row `i` deletes label `v` of `x`: out of the domain, and at the end of the log and of the work list
unfoldable pub delete_m : ℕ → ℕ → ℕ → Mem → Mem
delete_m i x v m =
    push_m WORK TAIL i (label_number x v) (push_m LOG LOGEND i (label_number x v) (store m DOMAIN x v 0))

-- label `k` behind `from` in row `j`'s log joins the end of row `i`'s work list
abbrev pub copy_label_m : ℕ → ℕ → ℕ → ℕ → Mem → Mem
copy_label_m j i from k m = push_m WORK TAIL i (m LOG j (from + k)) m

-- the first `n` labels behind `from` in row `j`'s log join the end of row `i`'s work list
unfoldable pub copy_m : ℕ → ℕ → ℕ → ℕ → Mem → Mem
copy_m j i from n = loop n (copy_label_m j i from)
