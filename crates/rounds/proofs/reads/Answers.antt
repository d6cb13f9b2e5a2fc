-- `rounds::reads` reads from every other actor. The loop's invariant: those passed are read from.
-- Assumes nothing.
use Prim.Native.Nat.{suc, ◌≤◌}
use mathlib.Core.Bool.{cond}
use mathlib.Core.List.{[], ◌∷◌}
use native.Mathlib.Omega.{arith}
use lib.Dec.{eqb}
use Rattle.format.specs.Limits.{max_workers}
use Rattle.disac4.specs.Round.{others}
use Rattle.disac4.specs.Turn.{turn}
use Rattle.base.proofs.Below.{map_gather}
use Rattle.engine.proofs.Advancing.{one_byte, byte_few}
use Rattle.engine.proofs.Working.{none_worked, working_on, one_worked, all_worked, running_playable}
use Rattle.rounds.proofs.reads.Goals as goal
use Rattle.rounds.proofs.reads.Goals.{Start}

few-at : (s : Start) → s.args.p ≤ max_workers
few-at s =
    omega (arith, s.requires.1, (running_playable s.args.plan.now s.args.cells.now s.args.t s.requires.0).workers)

pub loop-j-init : goal.loop-j-init
loop-j-init c = none_worked _ _ _ _

pub read_other-requires : goal.read_other-requires
read_other-requires c =
    (working_on c.loop-j.invariant c.requires.0, c.requires.1, c.requires.2, c.requires.3, c.loop-j-test.true)

pub overflow_add-changes : goal.overflow_add-changes
overflow_add-changes c =
    omega (arith, few-at (goal.at.overflow_add-changes c).Start, c.loop-j.invariant.few, byte_few _ c.from-changes.ensures)

pub loop-j-preserved : goal.loop-j-preserved
loop-j-preserved c =
    rw (one_byte _ c.from-changes.ensures)
    (one_worked c.loop-j.invariant c.read_other.new.cells c.read_other.result c.read_other.auto.cells c.read_other.ensures)

-- behind the last read
pub returns-2 : goal.returns-2
unfolding others
returns-2 c =
    let a = c.args in
    let w = one_worked c.loop-j.invariant c.read_other.new.cells c.read_other.result c.read_other.auto.cells c.read_other.ensures in
    rw (one_byte _ c.from-changes.ensures) (
      rw (map_gather (turn a.k) (suc a.p) (λ j. cond (eqb j a.k) [] (j ∷ []))) at
          (all_worked w (suc a.p) (omega arith)),
      omega (arith, few-at (goal.at.returns-2 c).Start, w.few),
    )
