-- `rounds::play_round` plays one round. Assumes nothing.
use Prim.Native.Nat.{suc}
use mathlib.Core.List.{[], ◌∷◌}
use Rattle.base.specs.Below.{list_below}
use Rattle.disac4.proofs.Allowed.{may_poll}
use Rattle.disac4.specs.Round.{round}
use Rattle.disac4.specs.Turn.{turn, poll_action}
use Rattle.engine.proofs.Further.{underway_after, advances_then}
use Rattle.rounds.proofs.play_round.Goals as goal

pub read_all-requires : goal.read_all-requires
read_all-requires c = underway_after c.requires c.workers_round.ensures

pub control-requires : goal.control-requires
control-requires c =
    (underway_after (underway_after c.requires c.workers_round.ensures) c.read_all.ensures, may_poll _)

pub returns : goal.returns
unfolding round
returns c =
    advances_then (λ _. turn 0 poll_action ∷ [])
    (advances_then (λ p. list_below p (λ i. turn 0 (suc i))) c.workers_round.ensures c.read_all.ensures) c.control.ensures
