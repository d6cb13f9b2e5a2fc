use Prim.Native.Nat.{suc}
use Rattle.base.specs.Below.{list_below}
use Rattle.disac4.specs.Turn.{turn}
use Rattle.engine.specs.Play.{Advances}
use Rattle.rounds.proofs.read_all.Given as goal

abbrev pub invariant-loop-i : goal.invariant-loop-i
invariant-loop-i l = Advances (list_below l.i (λ k. turn 0 (suc k))) l.initial.run l.run
