use mathlib.Core.List.{[], ◌∷◌}
use Rattle.base.specs.Below.{gather_below}
use Rattle.disac4.specs.Turn.{turn_at}
use Rattle.engine.specs.Play.{Advances}
use Rattle.playing.specs.Known.{KnownIdle}
use Rattle.playing.proofs.play_turns.Given as goal

abbrev pub invariant-loop-i : goal.invariant-loop-i
invariant-loop-i l =
    Advances (gather_below l.i (λ k. turn_at l.list k ∷ [])) l.initial.run l.run
    × KnownIdle l.initial.run.plan.now l.run.cells.now l.run.progress.tally l.table
