-- `cells::layout::place` gives the cell at a row and column of a region. Assumes nothing.
use Prim.Native.Nat.{ℕ, ◌+◌, ◌*◌}
use mathlib.Core.Path.{◌≡◌, ap}
use native.Mathlib.Omega.{arith}
use Rattle.disac4.specs.Need.{work_need}
use Rattle.cells.specs.Layout.{address}
use Rattle.cells.proofs.layout.place.Goals as goal
use Rattle.cells.proofs.layout.place.Goals.{After-cell_row}

-- the place, by the row of cells that was worked out
found : (c : After-cell_row) → let a = c.args in a.g.base + c.cell_row.result * a.g.cols + a.j ≡ address a.g a.i a.j
found c = let a = c.args in ap (λ (k : ℕ). a.g.base + k * a.g.cols + a.j) c.cell_row.ensures

pub overflow_mul-result : goal.overflow_mul-result
unfolding work_need
overflow_mul-result c = omega (arith, found (goal.at.overflow_mul-result c).After-cell_row)

pub overflow_add-result : goal.overflow_add-result
unfolding work_need
overflow_add-result c = omega (arith, found (goal.at.overflow_add-result c).After-cell_row)

pub overflow_add-result-2 : goal.overflow_add-result-2
unfolding work_need
overflow_add-result-2 c = omega (arith, found (goal.at.overflow_add-result-2 c).After-cell_row)
