-- `sweeps::last_sweep` returns the part of the buffer that holds the last sweep. Assumes nothing.
use Prim.Native.Nat.{◌%◌}
use borrow.Author.Tests.{eq-eqb, ne_eqb}
use Rattle.sweeping.specs.Outcome.{holding, last_sweep}
use Rattle.sweeps.proofs.last_sweep.Goals as goal

pub returns-then-sweeps-eq1 : goal.returns-then-sweeps-eq1
unfolding last_sweep holding
returns-then-sweeps-eq1 c =
    rw (eq-eqb (c.args.sweeps % 2) 1 c.if-sweeps-eq1.true) c.part.ensures

pub returns-else-sweeps-eq1 : goal.returns-else-sweeps-eq1
unfolding last_sweep holding
returns-else-sweeps-eq1 c =
    rw (ne_eqb (c.args.sweeps % 2) 1 c.if-sweeps-eq1.false) c.part-else-sweeps-eq1.ensures
