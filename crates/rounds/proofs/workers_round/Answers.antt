-- `rounds::workers_round` plays the turns of every worker. The loop's invariant: the workers passed have played theirs.
-- Assumes nothing.
use Prim.Native.Nat.{suc}
use native.Mathlib.Numerals.{add-one}
use native.Mathlib.Omega.{arith}
use Rattle.disac4.specs.Round.{worker_round}
use Rattle.engine.proofs.Further.{advances_none, underway_after, one_further}
use Rattle.rounds.proofs.workers_round.Goals as goal

pub loop-i-init : goal.loop-i-init
loop-i-init c = advances_none _

pub worker_round-requires : goal.worker_round-requires
worker_round-requires c =
    (underway_after c.requires c.loop-i.invariant, omega arith, omega (arith, c.loop-i.invariant.workers))

pub loop-i-preserved : goal.loop-i-preserved
loop-i-preserved c = one_further (λ p i. worker_round p (suc i)) c.loop-i.i c.loop-i.invariant (rw add-one at c.worker_round.ensures)
