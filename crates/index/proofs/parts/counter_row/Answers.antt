-- `index::parts::counter_row` gives each side of a pair of variables its row. Assumes nothing.
use native.Mathlib.Omega.{arith}
use Rattle.index.proofs.CounterRows.{row_higher, row_lower}
use Rattle.cells.specs.Memory.{mem_of}
use Rattle.index.proofs.parts.counter_row.Goals as goal

pub returns-then-y-x : goal.returns-then-y-x
returns-then-y-x c =
    let a = c.args in
    omega (
      arith,
      c.get-head.ensures.0,
      c.requires.3.high,
      row_higher (mem_of a.cells.now) a.x a.y c.requires.3.low c.if-y-x.true,
    )

pub returns-else-y-x : goal.returns-else-y-x
returns-else-y-x c =
    let a = c.args in
    omega (arith, c.get-head.ensures.0, row_lower (mem_of a.cells.now) a.x a.y c.if-y-x.false)
