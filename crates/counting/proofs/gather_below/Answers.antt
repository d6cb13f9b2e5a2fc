-- `counting::gather_below` puts a value into the rows of the values that its own row holds. Invariant: this is done in the first w
-- rows, and the others are what they were. Assumes nothing.
use mathlib.Core.Path.{◌≡◌}
use native.Mathlib.Omega.{arith}
use Rattle.counting.proofs.CountLaws.{rows_past}
use Rattle.counting.proofs.gather_below.Goals as goal

pub returns : goal.returns
returns c =
    let e : c.loop-w.w ≡ c.args.n = omega arith in
    rows_past c.args.n c.args.row c.args.v c.args.rows.now c.loop-w.rows c.requires.held (rw e at c.loop-w.invariant.0) (rw e at c.loop-w.invariant.1)
