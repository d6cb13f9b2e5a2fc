-- `sweeping::sweep_at` makes sweep k: it reads the second buffer after an odd number of sweeps, else the first, and writes the
-- other one. Assumes nothing.
use Prim.Native.Nat.{◌%◌}
use borrow.Author.Tests.{eq-eqb, ne_eqb}
use mathlib.Core.Bool.{true, false}
use Rattle.disac4.specs.System.{network_at}
use Rattle.format.specs.Version.{row_words}
use Rattle.sweeping.proofs.Alternating.{sweeps_turn}
use Rattle.sweeping.specs.Outcome.{TwoLists, two_lists}
use Rattle.sweeping.proofs.sweep_at.Goals as goal
use Rattle.sweeping.proofs.sweep_at.Goals.{Start}

-- the buffers as they were
abbrev lent : Start → TwoLists
lent start = two_lists start.args.first.now start.args.second.now

pub returns-then-k-eq1 : goal.returns-then-k-eq1
returns-then-k-eq1 c =
    sweeps_turn (row_words c.args.plan.now) (network_at c.args.plan.now) c.args.k (lent (goal.at.returns-then-k-eq1 c).Start) _ c.sweep.result true
    (eq-eqb (c.args.k % 2) 1 c.if-k-eq1.true) c.sweep.ensures

pub returns-else-k-eq1 : goal.returns-else-k-eq1
returns-else-k-eq1 c =
    sweeps_turn (row_words c.args.plan.now) (network_at c.args.plan.now) c.args.k (lent (goal.at.returns-else-k-eq1 c).Start) _ c.sweep-else-k-eq1.result false
    (ne_eqb (c.args.k % 2) 1 c.if-k-eq1.false) c.sweep-else-k-eq1.ensures
