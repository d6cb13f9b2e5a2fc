-- `base::row_count` counts the values 0 to 3 of the rest of a row and moves the others down by four, until none is left. Invariant:
-- at any width that the row fits, what is counted and the count of the rest make the row's count. The rest falls. Assumes nothing.
use Prim.Native.Nat.{ℕ, ◌+◌, ◌/◌, ◌^◌, ◌<◌}
use mathlib.Core.Path.{◌≡◌, ap}
use native.Mathlib.Omega.{arith}
use Rattle.base.proofs.Row.{row_count_empty, row_count_four, row_count_small}
use Rattle.base.specs.Row.{row_count}
use Rattle.base.proofs.row_count.Goals as goal
use Rattle.base.proofs.row_count.Goals.{After-count_four-count, At-loop-rest}

-- when the values 0 to 3 of the rest are counted too: with the count of the others they make the row's count
module _ (c : After-count_four-count) where
  abbrev loop-of : At-loop-rest
  loop-of = c.before.before

  counted : (width : ℕ) → loop-of.args.row < 2 ^ width
      → loop-of.loop-rest.count + c.count_four-count.result + row_count width (loop-of.loop-rest.rest / 16) ≡ row_count width loop-of.args.row
  counted width h =
      let l = loop-of.loop-rest in
      let fits : l.rest < 2 ^ width = omega (arith, l.invariant.0) in
      omega (arith, l.invariant.1 width h, row_count_four width l.rest fits, c.count_four-count.ensures)

pub overflow_add-count : goal.overflow_add-count
overflow_add-count c =
    let row = (loop-of (goal.at.overflow_add-count c).After-count_four-count).args.row in
    let fits : row < 2 ^ 64 = omega arith in
    omega (arith, counted (goal.at.overflow_add-count c).After-count_four-count 64 fits, row_count_small 64 row fits)

pub loop-rest-preserved : goal.loop-rest-preserved
loop-rest-preserved c = (omega (arith, (loop-of (goal.at.loop-rest-preserved c).After-count_four-count).loop-rest.invariant.0), counted (goal.at.loop-rest-preserved c).After-count_four-count)

pub returns : goal.returns
returns c width h =
    let l = c.loop-rest in
    let none : l.rest ≡ 0 = omega (arith, c.loop-rest-test.false) in
    omega (arith, l.invariant.1 width h, ap (row_count width) none, row_count_empty width)
