use Prim.Native.Nat.{suc}
use Rattle.base.specs.Below.{gather_below}
use Rattle.disac4.specs.Round.{worker_round}
use Rattle.engine.specs.Play.{Advances}
use Rattle.rounds.proofs.workers_round.Given as goal

abbrev pub invariant-loop-i : goal.invariant-loop-i
invariant-loop-i l = Advances (gather_below l.i (λ k. worker_round l.initial.run.workers (suc k))) l.initial.run l.run
