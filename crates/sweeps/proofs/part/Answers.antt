-- `sweeps::part` returns so many cells from the start of a buffer, or none where there are fewer. Assumes nothing.
use borrow.Author.Tests.{le-leb, lt-leb}
use native.Mathlib.Omega.{arith}
use lib.ListN.{length}
use Rattle.sweeping.specs.Outcome.{part_of}
use Rattle.sweeps.proofs.part.Goals as goal

pub returns-then-count-cells : goal.returns-then-count-cells
unfolding part_of
returns-then-count-cells c =
    rw (le-leb c.args.count (length c.args.cells.now) c.if-count-cells.true)

pub returns-else-count-cells : goal.returns-else-count-cells
unfolding part_of
returns-else-count-cells c =
    rw (lt-leb c.args.count (length c.args.cells.now) (omega (arith, c.if-count-cells.false)))
