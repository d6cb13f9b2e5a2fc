-- The work cells as a memory of numbers: region, row, column. A store changes one point.
use Rattle.std.specs.Prelude.{ℕ, ◌+◌, ◌*◌, ◌/◌, ◌%◌, cond, ◌&&◌, List, ltb, eqb, get_or}
use Rattle.base.specs.Row.{is_odd}
use Rattle.cells.specs.Layout.{BEHIND, region_at, address}
use Rattle.cells.specs.declared.Region.{Region}

-- a number for each region, row and column
abbrev pub Mem : Type 0
Mem = ℕ → ℕ → ℕ → ℕ

-- what cell `c` has for row `i` of a region: all of it, or if the region is halved, its high byte for an odd row and its low
-- byte for an even one
unfoldable pub share_of : Region → ℕ → ℕ → ℕ
share_of g i c = cond g.halved (cond (is_odd i) (c / 256) (c % 256)) c

-- cell `c` with `v` for that row
unfoldable pub with_share : Region → ℕ → ℕ → ℕ → ℕ
with_share g i v c = cond g.halved (cond (is_odd i) (v * 256 + c % 256) (c / 256 * 256 + v)) v

-- what the cells hold, and 0 outside of the regions
unfoldable pub mem_of : List ℕ → Mem
mem_of cells r i j =
    cond (ltb i (region_at r).rows && ltb j (region_at r).cols)
    (share_of (region_at r) i (get_or cells (address (region_at r) i j) 0)) 0

-- `v` at row `i` and column `j` of region `r`, all else as before
abbrev pub store : Mem → ℕ → ℕ → ℕ → ℕ → Mem
store m r i j v r' i' j' = cond (eqb r' r && eqb j' j && eqb i' i) v (m r' i' j')

-- the needed cells are 0
unfoldable pub cleared_m : Mem → Mem
cleared_m m r i j = cond (ltb r BEHIND) 0 (m r i j)
